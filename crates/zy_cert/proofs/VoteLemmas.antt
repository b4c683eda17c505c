-- Votes stay of different parties and equal.
use Rattle.std.proofs.Common.{◌≡◌, ◌≢◌, ℕ, suc, ◌+◌, ◌<◌, Bool, true, false, not, ◌||◌, cond, List, [], ◌∷◌, ◌++◌, length, get_or, refl, sym, ◌∙◌, arith}
use Rattle.std.specs.Bool.{Decides}
use Rattle.std.proofs.lemmas.Bool.{not-false}
use Rattle.std.proofs.lemmas.List.{length-append}
use Rattle.std.proofs.lemmas.List.Quantifiers.{all_pairs_push}
use Rattle.zy_parts.specs.declared.signed.Signed.{Signed}
use Rattle.zy_cert.specs.Signers.{has_signer, has_other}
use Rattle.zy_cert.specs.Votes.{Poll, AreVotes, AreCounted, poll_after}
use Rattle.zy_cert.proofs.SignerLemmas.{no_signer, no_other, equal-no_other}

or_first : (first other : Bool) → (first ≡ false → other ≡ false) → (first || other) ≡ first
or_first true other none = refl
or_first false other none = none refl

module _ {S : Type 0} (same : S → S → Bool) (equal : (x y : S) → Decides (same x y) (x ≡ y)) where
  pub AreVotes-push : (votes : List (Signed S)) (vote : Signed S) → AreVotes votes → has_signer vote.by votes ≡ false → has_other same vote.stmt votes ≡ false → AreVotes (votes ++ vote ∷ [])
  AreVotes-push votes vote are new alike =
      record {
        different = all_pairs_push (λ a b. a.by ≢ b.by) votes vote are.different (no_signer vote.by votes new);
        equal = all_pairs_push (λ a b. a.stmt ≡ b.stmt) votes vote are.equal (no_other same equal vote.stmt votes alike);
      }

  pub AreCounted-push : (number : ℕ) (votes : List (Signed S)) (vote : Signed S) → AreCounted number votes → has_signer vote.by votes ≡ false → has_other same vote.stmt votes ≡ false → AreCounted (number + 1) (votes ++ vote ∷ [])
  AreCounted-push number votes vote are new alike =
      record {
        votes = AreVotes-push votes vote are.votes new alike;
        all = let all = are.all in omega (arith, all, length-append votes (vote ∷ []));
      }

  others-tell : (stmt : S) (first : Signed S) (others : List (Signed S)) → AreVotes (first ∷ others) → has_other same stmt (first ∷ others) ≡ not (same first.stmt stmt)
  others-tell stmt first others are =
      or_first (not (same first.stmt stmt)) (has_other same stmt others)
      (λ equal_first. let here = (equal first.stmt stmt).0 (not-false _ equal_first) in
      equal-no_other same equal stmt others (λ k d small. sym (are.equal 0 (suc k) d (omega arith) (omega arith)) ∙ here))

  -- whether equal votes are for another statement, the first tells
  pub first-tells : (stmt : S) (votes : List (Signed S)) (first : Signed S) → first ≡ get_or votes 0 first → 0 < length votes → AreVotes votes → has_other same stmt votes ≡ not (same first.stmt stmt)
  first-tells stmt [] first here some are = absurd (omega (arith, some))
  first-tells stmt (one ∷ others) first here some are = let is : first ≡ one = here in rw is (others-tell stmt one others are)

  stays_by : (poll : Poll S) (vote : Signed S) (repeat other : Bool) → has_signer vote.by poll.votes ≡ repeat → has_other same vote.stmt poll.votes ≡ other → AreVotes poll.votes
      → AreVotes (cond repeat poll (cond other poll (record poll { votes = poll.votes ++ vote ∷ [] }))).votes
  stays_by poll vote true other new alike are = are
  stays_by poll vote false true new alike are = are
  stays_by poll vote false false new alike are = AreVotes-push poll.votes vote are new alike

  pub stays : (poll : Poll S) (vote : Signed S) → AreVotes poll.votes → AreVotes (poll_after same poll vote).votes
  stays poll vote are = stays_by poll vote _ _ refl refl are
