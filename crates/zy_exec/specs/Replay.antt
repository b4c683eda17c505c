-- Replay: where a history leads, entry by entry.
use Rattle.std.specs.Prelude.{ℕ, zero, suc, ◌+◌, List, take, fold, replicate, slice_get, slice_set, Option, Some, None, option_map, Bool, slice_index_or}
use Rattle.zy_base.specs.Machine.{Rules}
use Rattle.zy_base.specs.declared.ids.Digest.{Digest}
use Rattle.zy_chain.specs.declared.entry.Entry.{Entry}
use Rattle.zy_chain.specs.Entries.{digest_of_entry, newer}
use Rattle.zy_chain.specs.Heads.{empty_head, head_after}
use Rattle.zy_exec.specs.declared.known.Known.{Known}
use Rattle.zy_chain.specs.Answers.{Answers}

-- where a history stands after some entries
pub record Point (S : Type 0) : Type 0 where
  pub place : ℕ
  pub head : Digest
  pub state : S
  -- for each client from 0 to 63, what is known of its last entry
  pub known : List (Option Known)

-- before the first entry
abbrev pub origin : {S : Type 0} → Rules S → Point S
origin R = record { place = 0; head = empty_head; state = R.initial; known = replicate 64 None }

-- what an entry is answered with in a state, and the state that it leads to
abbrev pub answers_of : {S : Type 0} → Rules S → S → Entry → Answers
answers_of R state e = R.reply state e.client e.op

abbrev pub state_after : {S : Type 0} → Rules S → S → Entry → S
state_after R state e = R.next state e.client e.op

-- what is known of an entry that is run next
abbrev pub known_of : {S : Type 0} → Rules S → Point S → Entry → Known
known_of R p e =
    record {
      stamp = e.stamp;
      place = record { 0 = p.place + 1 };
      head = head_after p.head (digest_of_entry e);
      reply = answers_of R p.state e;
    }

-- what is known of each client once an entry was run, where this is known before
abbrev pub knowing : {S : Type 0} → Rules S → Point S → Entry → List (Option Known) → List (Option Known)
knowing R p e known = slice_set known e.client.0 (Some (known_of R p e))

-- the entry is newer than the last one of each client that it is of, where this is known
abbrev pub is_new_to : List (Option Known) → Entry → Bool
is_new_to known e = newer e.stamp (option_map (λ k. k.stamp) (slice_index_or known e.client.0 None))

-- one entry on
abbrev pub step : {S : Type 0} → Rules S → Point S → Entry → Point S
step R p e =
    record {
      place = p.place + 1;
      head = head_after p.head (digest_of_entry e);
      state = state_after R p.state e;
      known = knowing R p e p.known;
    }

-- where entries lead from a point
unfoldable pub along : {S : Type 0} → Rules S → Point S → List Entry → Point S
along R p entries = fold (step R) p entries

-- the answers to the entry that leads to a place of a whole history
abbrev pub answer_at : {S : Type 0} → Rules S → List Entry → ℕ → Option Answers
answer_at R history zero = None
answer_at R history (suc before) =
    option_map (λ e. answers_of R (along R (origin R) (take before history)).state e) (slice_get history before)
