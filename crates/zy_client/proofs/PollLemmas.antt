-- What the answer to a vote tells of the votes after it.
use Rattle.std.proofs.Common.{◌≡◌, ℕ, ◌+◌, nat_eq, Bool, true, false, if◌then◌else◌, [], ◌∷◌, ◌++◌, length, refl, subst, eqb-true}
use Rattle.zy_parts.specs.declared.signed.Signed.{Signed}
use Rattle.zy_parts.specs.declared.statements.Local.{Local}
use Rattle.zy_cert.specs.Equal.{same_local, local-equal}
use Rattle.zy_cert.specs.Signers.{has_signer, has_other}
use Rattle.zy_cert.specs.Votes.{Poll, AreVotes, answer_to, poll_after}
use Rattle.zy_cert.specs.declared.votes.Vote.{Vote}
use Rattle.zy_cert.specs.declared.votes.Vote.TheVariants.{Counted, Full, Repeat, Mixed}
use Rattle.zy_cert.proofs.VoteLemmas.{stays}

module _ (poll : Poll Local) (vote : Signed Local) where
  abbrev pub pushed : Poll Local
  pushed = record poll { votes = poll.votes ++ vote ∷ [] }

  abbrev answer_by : Bool → Bool → Bool → Vote
  answer_by repeat other full = if repeat then Repeat else (if other then Mixed else (if full then Full else Counted (length poll.votes + 1)))

  abbrev after_by : Bool → Bool → Poll Local
  after_by repeat other = if repeat then poll else (if other then poll else pushed)

  abbrev is_repeat : Bool
  is_repeat = has_signer vote.by poll.votes

  abbrev is_other : Bool
  is_other = has_other same_local vote.stmt poll.votes

  abbrev is_full : Bool
  is_full = nat_eq (length poll.votes + 1) poll.count

  counts_by : (number : ℕ) (repeat other full : Bool) → answer_by repeat other full ≡ Counted number → after_by repeat other ≡ pushed
  counts_by number true other full is = absurd cc
  counts_by number false true full is = absurd cc
  counts_by number false false true is = absurd cc
  counts_by number false false false is = refl

  pub counts : (number : ℕ) → answer_to same_local poll vote ≡ Counted number → poll_after same_local poll vote ≡ pushed
  counts number is = counts_by number is_repeat is_other is_full is

  fills_by : (repeat other full : Bool) → answer_by repeat other full ≡ Full → (after_by repeat other ≡ pushed) × (full ≡ true)
  fills_by true other full is = absurd cc
  fills_by false true full is = absurd cc
  fills_by false false true is = (refl, refl)
  fills_by false false false is = absurd cc

  pub fills : answer_to same_local poll vote ≡ Full → (poll_after same_local poll vote ≡ pushed) × (length poll.votes + 1 ≡ poll.count)
  fills is = let both = fills_by is_repeat is_other is_full is in (both.0, eqb-true (length poll.votes + 1) poll.count both.1)

  pub votes_pushed : poll_after same_local poll vote ≡ pushed → AreVotes poll.votes → AreVotes pushed.votes
  votes_pushed is are = subst (λ (p : Poll Local). AreVotes p.votes) is (stays same_local local-equal poll vote are)
