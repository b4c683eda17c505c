-- Records that are read one after another, and the steps of their events.
use Rattle.std.proofs.Common.{◌≡◌, inl, inr, ℕ, ◌+◌, ◌≤◌, false, List, [], ◌∷◌, ◌++◌, length, map, drop, Option, Some, None, IfSome, Result, Ok, Err, refl, sym, ap, subst, ◌∙◌, arith}
use Rattle.std.proofs.lemmas.List.{append-nil, map-append}
use Rattle.zy_base.specs.declared.step.Event.{Event}
use Rattle.zy_journal.specs.Disk.{StandsAt}
use Rattle.zy_journal.specs.Journal.{HasRecord, IsAtGate, IsDamaged, IsNext, IsPlaced, IsShut, block_of, blocks}
use Rattle.zy_journal.specs.declared.reading.NextFault.{NextFault}
use Rattle.zy_journal.specs.declared.reading.NextFault.TheVariants as next_faults
use Rattle.zy_journal.proofs.Files.{stands_then}
use Rattle.zy_journal.proofs.Lists.{blocks_push, length-blocks_push, listed_push}
use Rattle.zy_node.specs.Events.{after, event_bytes}
use Rattle.zy_node.specs.Keeping.{KeptState}
use Rattle.zy_node.specs.Recovering.{AreListed, AreRead, IsAfter, IsBroken, IsBrokenAt, IsRecovered, IsStepped, RecoversTo, is_recover_fault, recover_fault_of}
use Rattle.zy_node.specs.Rules.{Rules}
use Rattle.zy_node.specs.Turn.{host_of}
use Rattle.zy_node.specs.declared.fault.RecoverFault.{RecoverFault}
use Rattle.zy_node.specs.declared.fault.RecoverFault.TheVariants as recover_faults
use Rattle.zy_node.proofs.EventLemmas.{after-append}

-- ---- records

none_read : (file : List ℕ) (gate : ℕ) → AreRead file gate []
none_read file gate = record { fit = tt; stand = ap (λ (n : ℕ). drop n file) (omega arith) }

one_read : (file : List ℕ) (gate at : ℕ) (pieces : List (List ℕ)) (piece : List ℕ) → AreRead file gate pieces → at ≡ gate + length (blocks pieces) → HasRecord file at piece → AreRead file gate (pieces ++ piece ∷ [])
one_read file gate at pieces piece read place has = record {
  fit = listed_push pieces piece read.fit has.fits;
  stand = subst (λ (l : List ℕ). StandsAt l gate file) (sym joined) (stands_then (blocks pieces) (block_of piece) file gate at place read.stand has.stands);
}
  where
    joined : blocks (pieces ++ piece ∷ []) ≡ blocks pieces ++ block_of piece
    joined = sym (append-nil (blocks (pieces ++ piece ∷ []))) ∙ blocks_push pieces piece [] ∙ ap (λ (l : List ℕ). blocks pieces ++ l) (append-nil (block_of piece))

-- ---- the core on the way

-- the core has taken the steps of the records from one gate up to another
pub record IsSoFar {S : Type 0} (R : Rules S) (core : S) (contents : Option (List ℕ)) (gate : ℕ) (now : S) (at : ℕ) : Type 0 where
  pub events : List Event
  pub state : now ≡ after R events core
  pub place : at ≡ gate + length (blocks (map event_bytes events))
  pub read : IfSome contents (λ file. AreRead file gate (map event_bytes events))

each_told : (told : Option (List ℕ)) (P : List ℕ → Type 0) → ((file : List ℕ) → P file) → IfSome told P
each_told None P each = tt
each_told (Some file) P each = each file

both_told : (told : Option (List ℕ)) (P Q R : List ℕ → Type 0) → ((file : List ℕ) → P file → Q file → R file) → IfSome told P → IfSome told Q → IfSome told R
both_told None P Q R both one two = tt
both_told (Some file) P Q R both one two = both file one two

pub none_so_far : {S : Type 0} (R : Rules S) (core : S) (contents : Option (List ℕ)) (gate : ℕ) → IsSoFar R core contents gate core gate
none_so_far R core contents gate = record {
  events = [];
  state = refl;
  place = omega arith;
  read = each_told contents (λ file. AreRead file gate []) (λ file. none_read file gate);
}

pub one_so_far : {S : Type 0} (R : Rules S) (core : S) (contents : Option (List ℕ)) (gate : ℕ) (now : S) (at : ℕ) (piece : List ℕ) (later : S) (next : ℕ) → IsSoFar R core contents gate now at
    → IfSome contents (λ file. HasRecord file at piece) → IsAfter R now piece later → next ≡ at + 5 + length piece → IsSoFar R core contents gate later next
one_so_far {S} R core contents gate now at piece later next so_far has stepped place =
    let events = so_far.events ++ stepped.event ∷ [] in
    let pieces : map event_bytes events ≡ map event_bytes so_far.events ++ piece ∷ [] =
    map-append event_bytes so_far.events (stepped.event ∷ []) ∙ ap (λ (p : List ℕ). map event_bytes so_far.events ++ p ∷ []) stepped.spelled in
    record {
      events = events;
      state = stepped.state ∙ ap (λ (s : S). (R.step stepped.event s).state) so_far.state ∙ sym (after-append R so_far.events (stepped.event ∷ []) core);
      place = omega (arith, place, so_far.place, length-blocks_push (map event_bytes so_far.events) piece, ap (λ (ps : List (List ℕ)). length (blocks ps)) pieces);
      read = subst (λ (ps : List (List ℕ)). IfSome contents (λ file. AreRead file gate ps)) (sym pieces)
          (both_told contents (λ file. AreRead file gate (map event_bytes so_far.events)) (λ file. HasRecord file at piece) (λ file. AreRead file gate (map event_bytes so_far.events ++ piece ∷ []))
          (λ file read is. one_read file gate at (map event_bytes so_far.events) piece read so_far.place is) so_far.read has);
    }

pub all_read : {S : Type 0} (R : Rules S) (core : S) (contents : Option (List ℕ)) (gate : ℕ) (now : S) (at : ℕ) (end : KeptState S) → IsSoFar R core contents gate now at
    → IfSome contents (λ file. IsShut file at) → end.host ≡ host_of now → end.gate ≡ at → IsRecovered R core contents gate end
all_read {S} R core contents gate now at end so_far shut host is = record {
  events = so_far.events;
  listed = both_told contents (λ file. AreRead file gate (map event_bytes so_far.events)) (λ file. IsShut file at) (λ file. AreListed file gate (map event_bytes so_far.events))
      (λ file read shut_there. record { read = read; shut = subst (IsShut file) so_far.place shut_there }) so_far.read shut;
  place = is ∙ so_far.place;
  host = host ∙ ap (λ (s : S). host_of s) so_far.state;
}

pub broken_at : {S : Type 0} (R : Rules S) (core : S) (contents : Option (List ℕ)) (gate : ℕ) (now : S) (at place : ℕ) → IsSoFar R core contents gate now at
    → IfSome contents (λ file. IsBroken file at) → place ≡ at → IfSome contents (λ file. IsBrokenAt file gate place)
broken_at R core contents gate now at place so_far broken is =
    both_told contents (λ file. AreRead file gate (map event_bytes so_far.events)) (λ file. IsBroken file at) (λ file. IsBrokenAt file gate place)
    (λ file read broken_there. record { events = so_far.events; read = read; behind = is ∙ so_far.place; broken = subst (IsBroken file) (sym is) broken_there }) so_far.read broken

-- a record that is there and spells no event
pub no_event : (contents : Option (List ℕ)) (at : ℕ) (piece : List ℕ) → IfSome contents (λ file. HasRecord file at piece) → ((event : Event) → event_bytes event ≡ piece → piece ≡ []) → IfSome contents (λ file. IsBroken file at)
no_event contents at piece has none =
    both_told contents (λ file. HasRecord file at piece) (λ file. HasRecord file at piece) (λ file. IsBroken file at)
    (λ file is again. inr (piece, is, λ event spelled. empty (none event spelled) is.fits.0)) has has
  where
    empty : piece ≡ [] → 1 ≤ length piece → ⊥
    empty is long = absurd (omega (arith, long, ap length is))

-- ---- how it ends early

pub unread : {S : Type 0} (R : Rules S) (core : S) (contents : Option (List ℕ)) (gate : ℕ) (now : S) (at : ℕ) (fault : NextFault) → IsSoFar R core contents gate now at
    → IfSome contents (λ file. IsNext file at (Err fault)) → IsPlaced at (Err fault) → RecoversTo R core contents gate (Err (recover_fault_of fault))
unread R core contents gate now at next_faults.Disk so_far found placed = tt
unread R core contents gate now at (next_faults.Damaged place) so_far found placed =
    broken_at R core contents gate now at place so_far
    (both_told contents (λ file. IsDamaged file at) (λ file. IsDamaged file at) (λ file. IsBroken file at) (λ file damaged again. inl damaged) found found) placed
unread R core contents gate now at next_faults.Want so_far found placed = tt

pub unspelled : {S : Type 0} (R : Rules S) (core : S) (contents : Option (List ℕ)) (gate : ℕ) (now : S) (at : ℕ) (piece : List ℕ) (fault : RecoverFault) → IsSoFar R core contents gate now at
    → IfSome contents (λ file. HasRecord file at piece) → IsStepped R now at piece (Err fault) → RecoversTo R core contents gate (Err fault)
unspelled R core contents gate now at piece recover_faults.Disk so_far has stepped = tt
unspelled R core contents gate now at piece (recover_faults.Damaged place) so_far has stepped = broken_at R core contents gate now at place so_far (no_event contents at piece has stepped.1) stepped.0
unspelled R core contents gate now at piece recover_faults.Want so_far has stepped = tt

-- a step has no fault of a disk
pub no_disk : {S : Type 0} (R : Rules S) (now : S) (at : ℕ) (piece : List ℕ) (result : Result S RecoverFault) → IsStepped R now at piece result → is_recover_fault result ≡ false
no_disk R now at piece (Ok later) stepped = refl
no_disk R now at piece (Err recover_faults.Disk) stepped = absurd stepped
no_disk R now at piece (Err (recover_faults.Damaged place)) stepped = refl
no_disk R now at piece (Err recover_faults.Want) stepped = refl

pub image_of_gate : (told : Option (List ℕ)) (images : List ℕ → Type 0) (gate : ℕ) → IsAtGate told images gate → IfSome told images
image_of_gate None images gate at = tt
image_of_gate (Some file) images gate at = at.0
