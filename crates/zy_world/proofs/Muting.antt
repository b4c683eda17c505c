-- What a world shows after a party was muted.
use Rattle.std.proofs.Common.{◌≡◌, ℕ, ◌<◌, ◌≤◌, Bool, true, false, not, ◌&&◌, List, length, set, get_or, refl, sym, ap, ◌∙◌, subst, arith}
use Rattle.std.specs.Prelude.{slice_set, slice_index_or, nat_eq, if◌then◌else◌}
use Rattle.std.proofs.lemmas.Bool.{eqb-true, eqb-false, ltb-true, ltb-false}
use Rattle.std.proofs.lemmas.List.{length-set, set_past, get_or-set_same, get_or-set_other}
use Rattle.zy_base.specs.declared.ids.ClientId.{ClientId}
use Rattle.zy_base.specs.declared.ids.Party.{Party}
use Rattle.zy_base.specs.declared.ids.Party.TheVariants as parties
use Rattle.zy_base.specs.declared.ids.ReplicaId.{ReplicaId}
use Rattle.zy_world.specs.Passed.{ArePast, is_past}
use Rattle.zy_world.specs.Shown.{Shown, Mutes, muted_in, with_muted}
use Rattle.zy_world.specs.Shows.{Shows, ShowsMutes}
use Rattle.zy_world_law.specs.World.{World, set_muted, is_party, same_party}

-- ---- one mark of a list

or_before : (b before : Bool) → before ≡ true → (if b then true else before) ≡ true
or_before true before is = refl
or_before false before is = is

mark_at : (marks : List Bool) (at j : ℕ) (on : Bool) → at < length marks → (b : Bool) → nat_eq j at ≡ b
    → slice_index_or (slice_set marks at on) j false ≡ (if b then on else slice_index_or marks j false)
mark_at marks at j on within true same =
    ap (λ (k : ℕ). get_or (set marks at on) k false) (eqb-true j at same) ∙ get_or-set_same marks at on false within
mark_at marks at j on within false other = get_or-set_other marks at j on false (eqb-false j at other)

pub mark_set : (marks : List Bool) (at j : ℕ) (on : Bool) → at < length marks
    → slice_index_or (slice_set marks at on) j false ≡ (if nat_eq j at then on else slice_index_or marks j false)
mark_set marks at j on within = mark_at marks at j on within (nat_eq j at) refl

-- ---- a party's mark

abbrev IsWithin : ℕ → ℕ → Party → Type 0
IsWithin replicas clients (parties.Replica id) = id.0 < replicas
IsWithin replicas clients (parties.Client id) = id.0 < clients

abbrev IsPast : ℕ → ℕ → Party → Type 0
IsPast replicas clients (parties.Replica id) = replicas ≤ id.0
IsPast replicas clients (parties.Client id) = clients ≤ id.0

within_of : {S : Type 0} (g : World S) (party : Party) → is_party g party ≡ true → IsWithin (length g.replicas) (length g.clients) party
within_of g (parties.Replica id) is = ltb-true id.0 (length g.replicas) is
within_of g (parties.Client id) is = ltb-true id.0 (length g.clients) is

past_of : {S : Type 0} (g : World S) (party : Party) → is_party g party ≡ false → IsPast (length g.replicas) (length g.clients) party
past_of g (parties.Replica id) is = ltb-false id.0 (length g.replicas) is
past_of g (parties.Client id) is = ltb-false id.0 (length g.clients) is

module _ (m : Mutes) (replicas clients : ℕ) (muted : Party → Bool) (shows : ShowsMutes replicas clients muted m) (on : Bool) where
  replica_marks : (id : ReplicaId) → id.0 < replicas → (other : Party) → muted_in (with_muted m (parties.Replica id) on) other ≡ (if same_party other (parties.Replica id) then on else muted other)
  replica_marks id within (parties.Replica j) =
      mark_set m.replicas id.0 j.0 on (omega (arith, within, shows.all_replicas)) ∙ ap (λ (b : Bool). if nat_eq j.0 id.0 then on else b) (shows.marks (parties.Replica j))
  replica_marks id within (parties.Client j) = shows.marks (parties.Client j)

  client_marks : (id : ClientId) → id.0 < clients → (other : Party) → muted_in (with_muted m (parties.Client id) on) other ≡ (if same_party other (parties.Client id) then on else muted other)
  client_marks id within (parties.Client j) =
      mark_set m.clients id.0 j.0 on (omega (arith, within, shows.all_clients)) ∙ ap (λ (b : Bool). if nat_eq j.0 id.0 then on else b) (shows.marks (parties.Client j))
  client_marks id within (parties.Replica j) = shows.marks (parties.Replica j)

  marked : (party : Party) → IsWithin replicas clients party → ShowsMutes replicas clients (λ other. if same_party other party then on else muted other) (with_muted m party on)
  marked (parties.Replica id) within =
      record { all_replicas = length-set m.replicas id.0 on ∙ shows.all_replicas; all_clients = shows.all_clients; marks = replica_marks id within }
  marked (parties.Client id) within =
      record { all_replicas = shows.all_replicas; all_clients = length-set m.clients id.0 on ∙ shows.all_clients; marks = client_marks id within }

  unmarked : (party : Party) → IsPast replicas clients party → with_muted m party on ≡ m
  unmarked (parties.Replica id) past = ap (λ (marks : List Bool). record m { replicas = marks }) (set_past m.replicas id.0 on (omega (arith, past, shows.all_replicas)))
  unmarked (parties.Client id) past = ap (λ (marks : List Bool). record m { clients = marks }) (set_past m.clients id.0 on (omega (arith, past, shows.all_clients)))

-- ---- the world

with_mutes : {S : Type 0} (g : World S) (v : Shown S) (muted : Party → Bool) (m : Mutes) → Shows g v → ShowsMutes (length g.replicas) (length g.clients) muted m → ArePast v.seats m v.bag
    → Shows (record g { muted = muted }) (record v { mutes = m })
with_mutes g v muted m s shown past =
    record {
      setup = s.setup;
      keys = s.keys;
      seats = s.seats;
      liars = s.liars;
      mails = s.mails;
      past = past;
      mutes = shown;
      agreed = s.agreed;
      texts = s.texts;
      said = s.said;
    }

module _ {S : Type 0} (g : World S) (v : Shown S) (party : Party) (on : Bool) (s : Shows g v) where
  abbrev muted_now : Party → Bool
  muted_now other = if same_party other party then on else g.muted other

  marked_now : is_party g party ≡ true → ShowsMutes (length g.replicas) (length g.clients) muted_now (with_muted v.mutes party on)
  marked_now there = marked v.mutes (length g.replicas) (length g.clients) g.muted s.mutes on party (within_of g party there)

  same_mutes : is_party g party ≡ false → with_muted v.mutes party on ≡ v.mutes
  same_mutes none = unmarked v.mutes (length g.replicas) (length g.clients) g.muted s.mutes on party (past_of g party none)

  muted_by : (m : Mutes) → m ≡ with_muted v.mutes party on → ArePast v.seats m v.bag → (b : Bool) → is_party g party ≡ b
      → Shows (if b then record g { muted = muted_now } else g) (record v { mutes = m })
  muted_by m is past true there =
      with_mutes g v muted_now m s (subst (λ (n : Mutes). ShowsMutes (length g.replicas) (length g.clients) muted_now n) (sym is) (marked_now there)) past
  muted_by m is past false none = rw (is ∙ same_mutes none) s

  pub shows_muted : (m : Mutes) → m ≡ with_muted v.mutes party on → ArePast v.seats m v.bag → Shows (set_muted g party on) (record v { mutes = m })
  shows_muted m is past = muted_by m is past (is_party g party) refl

-- ---- of what flows went over they have nothing left when one party more is muted

still_muted : {S : Type 0} (g : World S) (v : Shown S) (party other : Party) (s : Shows g v) (b : Bool) → is_party g party ≡ b → muted_in v.mutes other ≡ true → muted_in (with_muted v.mutes party true) other ≡ true
still_muted g v party other s true there is =
    (marked_now g v party true s there).marks other ∙ or_before (same_party other party) (g.muted other) (sym (s.mutes.marks other) ∙ is)
still_muted g v party other s false none is = ap (λ (m : Mutes). muted_in m other) (same_mutes g v party true s none) ∙ is

none_left : (past before now : Bool) → (before ≡ true → now ≡ true) → (not past && not before) ≡ false → (not past && not now) ≡ false
none_left true before now more is = refl
none_left false true now more is = ap not (more refl)
none_left false false now more is = absurd cc

pub still_past : {S : Type 0} (g : World S) (v : Shown S) (party : Party) → Shows g v → ArePast v.seats (with_muted v.mutes party true) v.bag
still_past g v party s =
    record {
      past = s.past.past;
      idle = λ before mail below is.
          none_left (is_past v.seats mail) (muted_in v.mutes mail.to) (muted_in (with_muted v.mutes party true) mail.to)
          (still_muted g v party mail.to s (is_party g party) refl) (s.past.idle before mail below is);
    }
