-- What a snapshot's bytes show is what they were spelled from, and they spell what they show.
use Rattle.std.proofs.Common.{◌≡◌, ℕ, zero, suc, ◌+◌, ◌≤◌, Bool, true, false, cond, ◌&&◌, List, [], ◌∷◌, ◌++◌, length, get_or, set, replicate, append_assoc, append-nil, Option, Some, None, Result, Ok, Err, refl, sym, ap, ◌∙◌, subst, arith}
use Rattle.std.specs.Prelude.{option_map, nat_le, nat_lt}
use Rattle.std.proofs.lemmas.Bool.{and_parts, leb-true, ltb-true}
use Rattle.std.proofs.lemmas.List.{length-append, length-set, length-replicate, get_or-set_other}
use Rattle.std.proofs.Math.Seq.{set-append_seam}
use Rattle.std.proofs.lemmas.Option.{same_Some}
use Rattle.zy_base.specs.Machine.{Rules}
use Rattle.zy_base.specs.declared.frame_fault.FrameFault.{FrameFault}
use Rattle.zy_base.specs.declared.ids.Digest.{Digest}
use Rattle.zy_base.specs.declared.ids.Place.{Place}
use Rattle.zy_wire.specs.Spelling.{IsBytes, whole}
use Rattle.zy_exec.specs.declared.known.Known.{Known}
use Rattle.zy_exec.specs.declared.row.Row.{Row}
use Rattle.zy_exec.specs.Installed.{IsShown}
use Rattle.zy_exec.specs.Reading.{is_rising}
use Rattle.zy_exec.specs.Replay.{Point}
use Rattle.zy_exec.specs.Showing.{with_rows, slots_of, point_of, point_in}
use Rattle.zy_exec.specs.Snapshot.{listed, snapshot_fields, snapshot_of}
use Rattle.zy_exec.proofs.InstallLemmas.{IsLawful, shown_spells}
use Rattle.zy_exec.proofs.SnapshotLemmas.{free_slots, read_spells, row_taken, rows_rise, spelled_reads}

-- ---- slots and rows

-- the rows of slots fill the slots
filled : (xs before : List (Option Known)) (n : ℕ) → length before ≡ n → with_rows (before ++ replicate (length xs) None) (listed n xs) ≡ before ++ xs
filled [] before n len = refl
filled (None ∷ xs) before n len =
    let one : List (Option Known) = None ∷ [] in
    ap (λ (s : List (Option Known)). with_rows s (listed (n + 1) xs)) (sym (append_assoc before one (replicate (length xs) None)))
    ∙ filled xs (before ++ one) (n + 1) (omega (arith, length-append before one, len))
    ∙ append_assoc before one xs
filled (Some k ∷ xs) before n len =
    let one : List (Option Known) = Some k ∷ [] in
    let free : List (Option Known) = replicate (length xs) None in
    let put : set (before ++ None ∷ free) n (Some k) ≡ before ++ Some k ∷ free =
    ap (λ (m : ℕ). set (before ++ None ∷ free) m (Some k)) (sym len) ∙ set-append_seam before None free (Some k) in
    ap (λ (s : List (Option Known)). with_rows s (listed (n + 1) xs)) (put ∙ sym (append_assoc before one free))
    ∙ filled xs (before ++ one) (n + 1) (omega (arith, length-append before one, len))
    ∙ append_assoc before one xs

slots_again : (known : List (Option Known)) → length known ≡ 64 → slots_of (listed 0 known) ≡ known
slots_again known all = ap (λ (n : ℕ). with_rows (replicate n None) (listed 0 known)) (sym all) ∙ filled known [] 0 refl

-- and the slots of rising rows have these rows
rows_again : (rows : List Row) (slots : List (Option Known)) (least : ℕ) → length slots ≡ 64 → ((j : ℕ) → least ≤ j → get_or slots j None ≡ None) → is_rising least rows ≡ true
    → (listed 0 (with_rows slots rows) ≡ listed 0 slots ++ rows) × (length (with_rows slots rows) ≡ 64)
rows_again [] slots least all free rise = (sym (append-nil (listed 0 slots)), all)
rows_again (row ∷ rest) slots least all free rise =
    let c : ℕ = row.client.0 in
    let parts = and_parts (nat_le least c && nat_lt c 64) (is_rising (c + 1) rest) rise in
    let inside = and_parts (nat_le least c) (nat_lt c 64) parts.0 in
    let above = leb-true least c inside.0 in
    let below = ltb-true c 64 inside.1 in
    let next : List (Option Known) = set slots c (Some row.known) in
    let others = rows_again rest next (c + 1) (length-set slots c (Some row.known) ∙ all)
    (λ j high. get_or-set_other slots c j (Some row.known) None (λ same. absurd (omega arith)) ∙ free j (omega arith)) parts.1 in
    (others.0 ∙ row_taken slots row rest (listed 0 slots ++ row ∷ rest) least refl all free above below, others.1)

none_listed : (n m : ℕ) → ◌≡◌ {A = List Row} (listed n (replicate m None)) []
none_listed n zero = refl
none_listed n (suc m) = none_listed (n + 1) m

rows_of_slots : (rows : List Row) → is_rising 0 rows ≡ true → (listed 0 (slots_of rows) ≡ rows) × (length (slots_of rows) ≡ 64)
rows_of_slots rows rise =
    let none : Option Known = None in
    let both = rows_again rows (replicate 64 None) 0 (length-replicate 64 none) (λ j low. free_slots 64 j) rise in
    (both.0 ∙ ap (λ (l : List Row). l ++ rows) (none_listed 0 64), both.1)

-- ---- a point and its bytes

module _ {S : Type 0} (IsState : S → Type 0) (R : Rules S) where
  -- what is spelled is shown
  pub shows_spelled : IsLawful IsState R → (place : Place) (head : Digest) (p : Point S) → IsShown IsState p
      → point_in R place head (snapshot_of R p) ≡ Some (record { place = place.0; head = head; state = p.state; known = p.known })
  unfolding point_in
  shows_spelled laws place head p shown =
      let is = shown_spells IsState R laws p (snapshot_of R p) shown refl in
      let rise = rows_rise 0 0 p.known (omega arith) (omega (arith, shown.all_clients)) in
      ap (point_of R place head) (spelled_reads (snapshot_of R p) p.known (R.spelled p.state) is)
      ∙ rw (rise, laws.reads p.state shown.is_state)
      (ap (λ (known : List (Option Known)). Some (record { place = place.0; head = head; state = p.state; known = known })) (slots_again p.known shown.all_clients))

  -- what reading a state comes to
  data IsRead (state : List ℕ) (make : S → Point S) (p : Point S) : Type 0 where
    read_as : (s : S) → R.read state ≡ Some s → make s ≡ p → IsRead state make p

  read_by : (state : List ℕ) (make : S → Point S) (p : Point S) (o : Option S) → R.read state ≡ o → option_map make o ≡ Some p → IsRead state make p
  read_by state make p None is made = absurd cc
  read_by state make p (Some s) is made = read_as s is (same_Some (make s) p made)

  module _ (reads_state : (bytes : List ℕ) (s : S) → R.read bytes ≡ Some s → IsState s) (reads_spelled : (bytes : List ℕ) (s : S) → R.read bytes ≡ Some s → R.spelled s ≡ bytes) (place : Place) (head : Digest) (bytes : List ℕ) (are : IsBytes bytes) (p : Point S) where
    abbrev pub Shows : Point S → Type 0
    Shows q = IsShown IsState q × (snapshot_of R q ≡ bytes) × (q.place ≡ place.0) × (q.head ≡ head)

    shows_parts : (rows : List Row) (state : List ℕ) (rises : Bool) → whole snapshot_fields bytes ≡ Ok (rows, state) → is_rising 0 rows ≡ rises
        → cond rises (option_map (λ s. record { place = place.0; head = head; state = s; known = slots_of rows }) (R.read state)) None ≡ Some p → Shows p
    unfolding snapshot_of
    shows_parts rows state false read falls made = absurd cc
    shows_parts rows state true read rises made =
        let make : S → Point S = λ s. record { place = place.0; head = head; state = s; known = slots_of rows } in
        elim (read_by state make p (R.read state) refl made) as (λ _. Shows p) [
          | read_as s is same ↦
              (let again = rows_of_slots rows rises in
              let spells = read_spells bytes rows state (slots_of rows) are read again.0 again.1 in
              subst Shows same (
                record { all_clients = again.1; in_range = spells.in_range; is_state = reads_state state s is },
                ap (λ (b : List ℕ). snapshot_fields.spell (listed 0 (slots_of rows), b)) (reads_spelled state s is) ∙ spells.spelled,
                refl,
                refl,
              ))
        ]

    shows_read : (read : Result (List Row × List ℕ) FrameFault) → whole snapshot_fields bytes ≡ read → point_of R place head read ≡ Some p → Shows p
    shows_read (Err fault) is made = absurd cc
    shows_read (Ok parts) is made = shows_parts parts.0 parts.1 (is_rising 0 parts.0) is refl made

    pub spells_shown : point_in R place head bytes ≡ Some p → Shows p
    unfolding point_in
    spells_shown made = shows_read (whole snapshot_fields bytes) refl made
