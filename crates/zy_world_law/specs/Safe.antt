-- Safe worlds: all completions are the machine's answers along one list of requests, which every correct replica replays.
use Rattle.std.specs.Prelude.{◌≡◌, ◌⊎◌, ℕ, List, [], ◌∷◌, map, Some, Contains}
use Rattle.std.specs.List.{AllByRecursion}
use Rattle.zy_base.specs.Machine.{Rules}
use Rattle.zy_chain.specs.Stretch.{Mark}
use Rattle.zy_chain.specs.declared.entry.Entry.{Entry}
use Rattle.zy_exec.specs.Kept.{now_of}
use Rattle.zy_exec.specs.Replay.{origin, along, answer_at}
use Rattle.zy_law.specs.Completed as law
use Rattle.zy_law.specs.Completed.{Completion, IsAgreedList, IsCompleted}
use Rattle.zy_law.specs.Histories.{Passes, IsEntryAt, IsFront}
use Rattle.zy_law.specs.Said.{IsBacked}
use Rattle.zy_law.specs.World as law_world
use Rattle.zy_law_normal.specs.Acts.{check_statement, answer_told}
use Rattle.zy_law_normal.specs.Tied.{next_head, IsCheckpointOf}
use Rattle.zy_parts.specs.declared.statements.Check.{Check}
use Rattle.zy_world_law.specs.Events.{history_of}
use Rattle.zy_world_law.specs.Seen.{seen, asked_by}
use Rattle.zy_world_law.specs.World.{World, Replica, Client, Completed, replica_at, client_at}
use Rattle.zy_chain.specs.Answers.{digest_of_answers}

abbrev pub mark_of : Completed → Mark
mark_of c = record { place = c.done.place.0; head = c.done.head }

-- a completion as the law reads it
abbrev pub completion_of : Completed → Completion
completion_of c =
    record {
      view = c.done.view.0;
      mark = mark_of c;
      answer = answer_told c.client.0 c.done.stamp.0 (digest_of_answers c.done.reply);
    }

abbrev pub completions_of : {S : Type 0} → World S → List Completion
completions_of w = map completion_of w.done

-- the mark of the agreed list: that of the completion with the greatest place, the first of them
abbrev pub agreed_mark : {S : Type 0} → World S → Mark
agreed_mark w = law.agreed_mark (completions_of w)

-- the agreed list: it has that length and head, and the texts of its links are kept
abbrev pub IsAgreed : {S : Type 0} → Rules S → World S → List Entry → Type 0
IsAgreed R w list = IsAgreedList (seen R w) (completions_of w) list

-- The completion's request stands at its place of the list, asked for by its client, and the reply is the machine's there.
pub record IsResult {S : Type 0} (R : Rules S) (w : World S) (list : List Entry) (c : Completed) : Type 0 where
  pub passes : Passes next_head list (mark_of c)
  pub entry : Entry
  pub there : IsEntryAt list c.done.place.0 entry
  pub client : entry.client ≡ c.client
  pub stamp : entry.stamp ≡ c.done.stamp
  pub asked : Contains (asked_by w c.client.0) entry
  pub reply : answer_at R list c.done.place.0 ≡ Some c.done.reply

-- its state is where its last history leads
abbrev pub IsReplay : {S : Type 0} → Rules S → Replica S → Type 0
IsReplay R x = now_of R x.state.kept ≡ along R (origin R) (history_of x.past)

-- `local` replicas stand behind it, each of which said it or lies; but for the checkpoint of the empty history
abbrev pub IsStableBacked : law_world.World → Check → Type 0
IsStableBacked u check = (check.place.0 ≡ 0) ⊎ IsBacked u u.counts.local (check_statement check)

-- its stable checkpoint is backed, and tells the head and the snapshot of its own history there
pub record HasStable {S : Type 0} (R : Rules S) (w : World S) (x : Replica S) : Type 0 where
  pub backed : IsStableBacked (seen R w) x.state.board.stable
  pub own : IsCheckpointOf R (history_of x.past) x.state.board.stable

pub record IsSafe {S : Type 0} (R : Rules S) (w : World S) : Type 0 where
  pub list : List Entry
  pub agreed : IsAgreed R w list
  pub results : AllByRecursion (IsResult R w list) w.done
  -- each completion is fixed: `fast` replicas responded so, or `cert` of them and `local` committed to it; each did, or it lies
  pub fixed : AllByRecursion (λ c. IsCompleted (seen R w) (completion_of c)) w.done
  -- each entry of a correct client was asked for by it
  pub asked : (place : ℕ) (e : Entry) (x : Client) → IsEntryAt list place e → client_at w e.client.0 ≡ Some x → Contains (asked_by w e.client.0) e
  -- no client and stamp stand in it twice
  pub once : (place other : ℕ) (d e : Entry) → IsEntryAt list place d → IsEntryAt list other e → d.client ≡ e.client → d.stamp ≡ e.stamp → place ≡ other
  -- each correct replica replays its history
  pub replays : (id : ℕ) (x : Replica S) → replica_at w id ≡ Some x → IsReplay R x
  -- what it counts as stable is fixed, and its own
  pub stable : (id : ℕ) (x : Replica S) → replica_at w id ≡ Some x → HasStable R w x

-- the agreed list only grows
abbrev pub Grows : {S : Type 0} → Rules S → World S → World S → Type 0
Grows R v w = (near far : List Entry) → IsAgreed R v near → IsAgreed R w far → IsFront near far

-- from each world to the next
abbrev pub AllGrow : {S : Type 0} → Rules S → World S → List (World S) → Type 0
AllGrow R w [] = Unit {0}
AllGrow R w (v ∷ more) = Grows R w v × AllGrow R v more
