-- Votes: signed equal statements of different parties, of which so many are wanted.
use Rattle.std.specs.Prelude.{◌≡◌, ℕ, ◌+◌, Bool, nat_eq, if◌then◌else◌, List, [], ◌∷◌, ◌++◌, length, AllPairs}
use Rattle.zy_parts.specs.declared.signed.Signed.{Signed}
use Rattle.zy_cert.specs.declared.votes.Vote.{Vote}
use Rattle.zy_cert.specs.declared.votes.Vote.TheVariants.{Counted, Full, Repeat, Mixed}
use Rattle.zy_cert.specs.Signers.{has_signer, has_other, AreDifferent}

pub record Poll (S : Type 0) : Type 0 where
  pub count : ℕ
  pub votes : List (Signed S)

abbrev pub counted : ℕ → ℕ → Vote
counted wanted number = if nat_eq number wanted then Full else Counted number

-- what a vote comes to
abbrev pub answer_to : {S : Type 0} → (S → S → Bool) → Poll S → Signed S → Vote
answer_to same poll vote =
    if has_signer vote.by poll.votes then Repeat
    else (if has_other same vote.stmt poll.votes then Mixed
    else counted poll.count (length poll.votes + 1))

-- the votes after it
abbrev pub poll_after : {S : Type 0} → (S → S → Bool) → Poll S → Signed S → Poll S
poll_after same poll vote =
    if has_signer vote.by poll.votes then poll
    else (if has_other same vote.stmt poll.votes then poll
    else record poll { votes = poll.votes ++ vote ∷ [] })

-- no two are of one party, and all are equal
pub record AreVotes {S : Type 0} (list : List (Signed S)) : Type 0 where
  pub different : AreDifferent list
  pub equal : AllPairs (λ a b. a.stmt ≡ b.stmt) list

-- the votes that are counted, and how many they are
pub record AreCounted {S : Type 0} (number : ℕ) (list : List (Signed S)) : Type 0 where
  pub votes : AreVotes list
  pub all : number ≡ length list
