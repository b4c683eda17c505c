-- What a replica keeps for changes of view, and what becomes of it.
use Rattle.std.specs.Prelude.{ℕ, ◌%◌, nat_eq, nat_lt, nat_le, ◌&&◌, not, Bool, true, false, if◌then◌else◌, List, [], ◌∷◌, length, map, take, replicate, filter_map, slice_index_or, slice_set, Option, Some, None, option_map}
use Rattle.zy_base.specs.Step.{view_of}
use Rattle.zy_base.specs.declared.counts.Counts.{Counts}
use Rattle.zy_base.specs.declared.ids.Digest.{Digest}
use Rattle.zy_base.specs.declared.ids.Party.{Party}
use Rattle.zy_base.specs.declared.ids.Party.TheVariants.{Replica}
use Rattle.zy_base.specs.declared.ids.Place.{Place}
use Rattle.zy_base.specs.declared.ids.ReplicaId.{ReplicaId}
use Rattle.zy_base.specs.declared.ids.View.{View}
use Rattle.zy_base.specs.declared.step.Mode.{Mode}
use Rattle.zy_base.specs.declared.step.Mode.TheVariants.{Active, Leaving}
use Rattle.zy_chain.specs.Heads.{empty_head}
use Rattle.zy_chain.specs.Stretch.{Stretch}
use Rattle.zy_parts.specs.declared.reports.Began.{Began}
use Rattle.zy_parts.specs.declared.reports.Change.{Change}
use Rattle.zy_parts.specs.declared.reports.Told.{Told}
use Rattle.zy_parts.specs.declared.signed.Signed.{Signed}
use Rattle.zy_parts.specs.declared.statements.Check.{Check}
use Rattle.zy_parts.specs.declared.statements.Spec.{Spec}
use Rattle.zy_vframes.specs.declared.frame.ViewCert.{ViewCert}
use Rattle.zy_cert.specs.Equal.{same_began}
use Rattle.zy_evidence.specs.Reading.{number_of_party}
use Rattle.zy_change.specs.declared.kept.Accepted.{Accepted}
use Rattle.zy_change.specs.declared.kept.Certificate.{Certificate}
use Rattle.zy_change.specs.declared.kept.Chosen.{Chosen}
use Rattle.zy_change.specs.declared.kept.Waiting.{Waiting}

-- a slot for each replica, by its number
abbrev pub Slots : Type 0 → Type 0
Slots S = List (Option (Signed S))

pub record Views : Type 0 where
  pub me : ReplicaId
  pub counts : Counts
  -- how many places lie between two checkpoints
  pub interval : ℕ
  pub mode : Mode
  -- the last view in which it was active, and with which place and head that view began
  pub last_view : View
  pub began_place : Place
  pub began_head : Digest
  -- the certificate with which it began; none for the first view
  pub view_cert : Option ViewCert
  -- its furthest commit certificate of that view
  pub specs : Option Certificate
  -- the reports that are kept, the own one among them
  pub changes : Slots Change
  -- whose hate of the own view is counted
  pub hated : List Bool
  -- the confirmations that are kept, the own one among them
  pub begans : Slots Began
  -- the new view that it confirmed
  pub accepted : Option Accepted
  -- the certificate that waits for a snapshot
  pub waiting : Option Waiting

-- a replica that begins
abbrev pub start_of : Counts → ReplicaId → ℕ → Views
start_of counts me interval =
    record {
      me = me;
      counts = counts;
      interval = interval;
      mode = Active (record { 0 = 0 });
      last_view = record { 0 = 0 };
      began_place = record { 0 = 0 };
      began_head = empty_head;
      view_cert = None;
      specs = None;
      changes = replicate counts.n None;
      hated = replicate counts.n false;
      begans = replicate counts.n None;
      accepted = None;
      waiting = None;
    }

-- ---- what is read of it

abbrev pub own_view : Views → ℕ
own_view v = (view_of v.mode).0

-- it is active in this view
abbrev pub has_begun : Mode → ℕ → Bool
has_begun (Active own) view = nat_eq view own.0
has_begun (Leaving own) view = false

-- it is the primary of a view
abbrev pub leads : Views → ℕ → Bool
leads v view = nat_eq (view % v.counts.n) v.me.0

-- what is kept of a party
abbrev pub slot_of : {S : Type 0} → Party → Slots S → Option (Signed S)
slot_of by slots = slice_index_or slots (number_of_party by) None

abbrev pub own_change : Views → Option (Signed Change)
own_change v = slot_of (Replica v.me) v.changes

abbrev pub is_hated_by : Views → Party → Bool
is_hated_by v by = slice_index_or v.hated (number_of_party by) false

abbrev pub is_accepted : ℕ → Option Accepted → Bool
is_accepted view None = false
is_accepted view (Some accepted) = nat_eq accepted.new.stmt.view.0 view

-- the confirmations with which the last view began
abbrev pub begans_in : Option ViewCert → List (Signed Began)
begans_in None = []
begans_in (Some cert) = cert.begans

-- the responses of a commit certificate
abbrev pub specs_in : Option Certificate → Option (List (Signed Spec))
specs_in kept = option_map (λ (kept : Certificate). kept.specs) kept

-- the report of its last view, where this is stable, with its proof, and these entries lie above it
abbrev pub told_of : Views → View × Place × Digest × Digest → List (Signed Check) → Stretch → Told
told_of v stable proof stretch =
    record {
      last_view = v.last_view;
      began_place = v.began_place;
      began_head = v.began_head;
      began = begans_in v.view_cert;
      specs = specs_in v.specs;
      stable_view = stable.0;
      stable_place = stable.1;
      stable_head = stable.2;
      state = stable.3;
      checks = proof;
      entries = stretch.entries;
    }

-- ---- reports

abbrev pub change_for : ℕ → Option (Signed Change) → Option (Signed Change)
change_for view None = None
change_for view (Some c) = if nat_eq c.stmt.view.0 view then Some c else None

-- the kept reports for a view, by the numbers of the replicas
abbrev pub changes_for : ℕ → Slots Change → List (Signed Change)
changes_for view slots = filter_map (change_for view) slots

abbrev pub view_above : ℕ → Option (Signed Change) → Option ℕ
view_above own None = None
view_above own (Some c) = if nat_lt own c.stmt.view.0 then Some c.stmt.view.0 else None

-- the views of the kept reports that are above one
abbrev pub views_above : ℕ → Slots Change → List ℕ
views_above own slots = filter_map (view_above own) slots

-- a report for this view or a later one is kept
abbrev pub is_from : ℕ → Option (Signed Change) → Bool
is_from view None = false
is_from view (Some c) = nat_le view c.stmt.view.0

-- ---- confirmations

abbrev pub began_for : View → Chosen → Began
began_for view chosen = record { view = view; place = chosen.place; head = chosen.head }

-- a confirmation that says this
abbrev pub began_equal : Began → Option (Signed Began) → Option (Signed Began)
began_equal own None = None
began_equal own (Some b) = if same_began b.stmt own then Some b else None

abbrev pub begans_equal : Began → Slots Began → List (Signed Began)
begans_equal own slots = filter_map (began_equal own) slots

-- one of the same view that says another thing is dropped
abbrev pub unless_other : Began → Option (Signed Began) → Option (Signed Began)
unless_other own None = None
unless_other own (Some b) = if nat_eq b.stmt.view.0 own.view.0 && not (same_began b.stmt own) then None else Some b

abbrev pub without_others : Began → Slots Began → Slots Began
without_others own slots = map (unless_other own) slots

-- so many of the first, where there are so many
abbrev pub first_of : {A : Type 0} → ℕ → List A → Option (List A)
first_of count list = if nat_le count (length list) then Some (take count list) else None

-- the certificate that the kept confirmations of the accepted choice make
abbrev pub certificate_of : Views → Accepted → Option ViewCert
certificate_of v a =
    option_map (λ begans. record { new = a.new; begans = begans })
    (first_of v.counts.cert (begans_equal (began_for a.new.stmt.view a.chosen) v.begans))

-- the certificate of the new view that is accepted, where enough is kept for one
abbrev pub certificate_if : Views → Option Accepted → Option ViewCert
certificate_if v None = None
certificate_if v (Some a) = certificate_of v a

abbrev pub certificate : Views → Option ViewCert
certificate v = certificate_if v v.accepted

-- ---- what becomes of it

-- a party's hate of the own view is counted
abbrev pub with_hate : Party → Views → Views
with_hate by v = record v { hated = slice_set v.hated (number_of_party by) true }

-- a report in place of its signer's earlier one
abbrev pub with_change : Signed Change → Views → Views
with_change c v = record v { changes = slice_set v.changes (number_of_party c.by) (Some c) }

abbrev pub with_began : Signed Began → Views → Views
with_began b v = record v { begans = slice_set v.begans (number_of_party b.by) (Some b) }

-- It leaves for a view: hates, a confirmed new view and a waiting certificate are of an earlier one.
abbrev pub left : View → Views → Views
left view v = record v { mode = Leaving view; hated = replicate v.counts.n false; accepted = None; waiting = None }

-- a new view is confirmed, and what others confirm of it in another way is dropped
abbrev pub with_new : Accepted → Signed Began → Views → Views
with_new a own v = with_began own (record v { accepted = Some a; begans = without_others own.stmt v.begans })

abbrev pub is_further : Place → Option Certificate → Bool
is_further place None = true
is_further place (Some kept) = nat_lt kept.place.0 place.0

-- a commit certificate of this place is kept where it is the first or further
abbrev pub with_specs : Place → List (Signed Spec) → Views → Views
with_specs place list v =
    if is_further place v.specs then record v { specs = Some (record { place = place; specs = list }) } else v

-- ---- a view begins

abbrev pub change_past : ℕ → Option (Signed Change) → Option (Signed Change)
change_past view None = None
change_past view (Some c) = if nat_le c.stmt.view.0 view then None else Some c

abbrev pub began_past : ℕ → Option (Signed Began) → Option (Signed Began)
began_past view None = None
began_past view (Some b) = if nat_le b.stmt.view.0 view then None else Some b

-- It begins with what its certificate confirms. What is kept of this view and earlier ones is dropped.
abbrev pub adopted : ViewCert → Chosen → Views → Views
adopted cert chosen v =
    record v {
      mode = Active cert.new.stmt.view;
      last_view = cert.new.stmt.view;
      began_place = chosen.place;
      began_head = chosen.head;
      view_cert = Some cert;
      specs = None;
      changes = map (change_past cert.new.stmt.view.0) v.changes;
      hated = replicate v.counts.n false;
      begans = map (began_past cert.new.stmt.view.0) v.begans;
      accepted = None;
      waiting = None;
    }

-- the certificate waits for a snapshot
abbrev pub with_waiting : Waiting → Views → Views
with_waiting w v = record v { waiting = Some w }

abbrev pub without_waiting : Views → Views
without_waiting v = record v { waiting = None }

-- the new view that was confirmed is taken out, for its certificate
abbrev pub without_accepted : Views → Views
without_accepted v = record v { accepted = None }
