-- The base moves over the first entry, and what that leaves as it was.
use Rattle.std.proofs.Common.{◌≡◌, ℕ, zero, suc, ◌+◌, ◌-◌, ◌<◌, ◌≤◌, List, [], ◌∷◌, length, take, drop, get_or, set, Option, Some, None, refl, sym, ap, ◌∙◌, subst, arith, inl, inr}
use Rattle.std.specs.List.{AllByRecursion}
use Rattle.std.proofs.lemmas.List.{length-set, length-drop, length-take-le, drop-drop, get_or-set_same, get_or-set_other, take-append-drop}
use Rattle.std.proofs.Math.Seq.{take-add}
use Rattle.std.proofs.lemmas.Bool.{cases_eq, le-ltb}
use Rattle.std.proofs.lemmas.Option.{same_Some}
use Rattle.zy_base.specs.Machine.{Rules}
use Rattle.zy_base.specs.declared.ids.Digest.{Digest}
use Rattle.zy_base.specs.declared.ids.Place.{Place}
use Rattle.zy_chain.specs.declared.entry.Entry.{Entry}
use Rattle.zy_chain.specs.Heads.{head_from}
use Rattle.zy_chain.specs.Stretch.{Stretch, from_place}
use Rattle.zy_exec.specs.declared.known.Known.{Known}
use Rattle.zy_exec.specs.declared.known.Done.{Done}
use Rattle.zy_exec.specs.Known.{IsKnownInRange}
use Rattle.zy_exec.specs.Replay.{Point, known_of, step, along, origin}
use Rattle.zy_exec.specs.Kept.{Kept, StandsFor, last_place, now_of, settled}
use Rattle.zy_exec.specs.Shots.{snapshot_in, snapshot_at}
use Rattle.zy_exec.specs.Trail.{base_of, oldest_state, placed, done_from, IsSettled, IsDoneInRange, IsBaseInRange, IsBefore, IsReplayed}
use Rattle.zy_exec.proofs.ReplayLemmas.{along-cons, along-nil, place-along}
use Rattle.zy_exec.proofs.ListedLemmas.{same_cons}
use Rattle.zy_exec.proofs.HistoryLemmas.{along-append_all, stands_end, stands_after}
use Rattle.zy_chain.specs.Entries.{IsOfClients}

base_set : (known : List (Option Known)) (client : ℕ) (k : Known) → AllByRecursion IsBaseInRange known → IsKnownInRange k → AllByRecursion IsBaseInRange (set known client (Some k))
base_set [] client k all one = tt
base_set (x ∷ known) zero k all one = (one, all.1)
base_set (x ∷ known) (suc client) k all one = (all.0, base_set known client k all.1 one)

before_on : (base : ℕ) (before : List (Option Place)) (e : Entry) → IsOfClients e → IsBefore base before → IsBefore (base + 1) (placed before e (base + 1))
before_on base before e within is =
    let place : Place = record { 0 = base + 1 } in
    record {
      all_clients = length-set before e.client.0 (Some place) ∙ is.all_clients;
      below = λ client q some.
          elim (cases_eq client e.client.0) [
            | inl same ↦
                let here : get_or (set before e.client.0 (Some place)) client None ≡ Some place =
                ap (λ (c : ℕ). get_or (set before e.client.0 (Some place)) c None) same ∙ get_or-set_same before e.client.0 (Some place) None (omega (arith, is.all_clients, within)) in
                let is_q : place ≡ q = same_Some place q (sym here ∙ some) in
                subst (λ (r : Place). r.0 ≤ base + 1) is_q (omega arith)
            | inr apart ↦
                let low = is.below client q (sym (get_or-set_other before e.client.0 client (Some place) None apart) ∙ some) in
                omega arith
          ];
    }

replayed_settled : {S : Type 0} (R : Rules S) (base : Point S) (e : Entry) (entries : List Entry) (state : S) (trail : List S) (done done' : List Done) (last : List (Option Place)) (known' : List (Option Known))
    → IsReplayed R base (e ∷ entries) state trail done last → IsSettled done done' base.known known'
    → (known' ≡ (step R base e).known) × IsReplayed R (step R base e) entries state (drop 1 trail) done' last
replayed_settled {S} R base e entries state trail done done' last known' was settle =
    let next = step R base e in
    let first : Done = record { client = e.client; known = known_of R base e; earlier = get_or was.before e.client.0 None } in
    let dones = same_cons settle.first first done' (done_from R next (placed was.before e (base.place + 1)) entries) (sym settle.done_was ∙ was.done_is) in
    let known_now : known' ≡ next.known = settle.known_now ∙ ap (λ (d : Done). set base.known d.client.0 (Some d.known)) dones.0 in
    let ranges : AllByRecursion IsDoneInRange (first ∷ done_from R next (placed was.before e (base.place + 1)) entries) = subst (AllByRecursion IsDoneInRange) was.done_is was.in_range in (
      known_now,
      record {
        state_is = was.state_is ∙ ap (λ (p : Point S). p.state) (along-cons R base e entries);
        trail_is = ap (drop 1) was.trail_is;
        before = placed was.before e (base.place + 1);
        is_before = before_on base.place was.before e was.clients.0 was.is_before;
        done_is = dones.1;
        last_is = was.last_is;
        clients = was.clients.1;
        all_clients = length-set base.known e.client.0 (Some (known_of R base e)) ∙ was.all_clients;
        in_range = subst (AllByRecursion IsDoneInRange) (sym dones.1) ranges.1;
        base_in_range = base_set base.known e.client.0 (known_of R base e) was.base_in_range ranges.0.1;
      },
    )

-- the state at the base is still the oldest of the trail
oldest_settled : {S : Type 0} (R : Rules S) (base : Point S) (e : Entry) (entries : List Entry) (state : S) (trail : List S) (done : List Done) (last : List (Option Place)) → IsReplayed R base (e ∷ entries) state trail done last
    → oldest_state (drop 1 trail) state ≡ (step R base e).state
unfolding along
oldest_settled R base e [] state trail done last was = rw was.trail_is was.state_is
oldest_settled R base e (next ∷ entries) state trail done last was = rw was.trail_is refl

abbrev base_at : {S : Type 0} → ℕ → Digest → List S → S → List (Option Known) → Point S
base_at place head trail state known = record { place = place; head = head; state = oldest_state trail state; known = known }

settled_from : {S : Type 0} (R : Rules S) (place : ℕ) (head : Digest) (entries : List Entry) (known known' : List (Option Known)) (state : S) (trail : List S) (done done' : List Done) (last : List (Option Place)) (n : ℕ) → n ≡ 1
    → IsReplayed R (base_at place head trail state known) entries state trail done last → 0 < length entries → IsSettled done done' known known'
    → (base_at (place + 1) (head_from head (take n entries)) (drop 1 trail) state known' ≡ along R (base_at place head trail state known) (take n entries))
    × IsReplayed R (base_at (place + 1) (head_from head (take n entries)) (drop 1 trail) state known') (drop n entries) state (drop 1 trail) done' last
unfolding along
settled_from R place head [] known known' state trail done done' last n one was some settle = absurd (omega arith)
settled_from {S} R place head (e ∷ entries) known known' state trail done done' last n one was some settle =
    let base = base_at place head trail state known in
    let moved = replayed_settled R base e entries state trail done done' last known' was settle in
    let there : base_at (place + 1) (head_from head (take n (e ∷ entries))) (drop 1 trail) state known' ≡ step R base e =
    rw (one, oldest_settled R base e entries state trail done last was, moved.0) refl in
    let first : along R base (take n (e ∷ entries)) ≡ step R base e = rw one refl in
    let others : drop n (e ∷ entries) ≡ entries = rw one refl in (
      there ∙ sym first,
      subst (λ (p : Point S). IsReplayed R p (drop n (e ∷ entries)) state (drop 1 trail) done' last) (sym there)
          (subst (λ (es : List Entry). IsReplayed R (step R base e) es state (drop 1 trail) done' last) (sym others) moved.1),
    )

pub settled_base : {S : Type 0} (R : Rules S) (spine spine' : Stretch) (known known' : List (Option Known)) (state state' : S) (trail trail' : List S) (done done' : List Done) (last : List (Option Place))
    → IsReplayed R (base_of spine trail state known) spine.entries state trail done last → 0 < length spine.entries
    → IsSettled done done' known known' → state' ≡ state → trail' ≡ drop 1 trail → spine' ≡ from_place (spine.base.place + 1) spine
    → (base_of spine' trail' state' known' ≡ along R (base_of spine trail state known) (take (spine.base.place + 1 - spine.base.place) spine.entries))
    × IsReplayed R (base_of spine' trail' state' known') spine'.entries state' trail' done' last
settled_base R spine spine' known known' state state' trail trail' done done' last was some settle state_is trail_is spine_is =
    rw (spine_is, state_is, trail_is)
    (settled_from R spine.base.place spine.base.head spine.entries known known' state trail done done' last (spine.base.place + 1 - spine.base.place) (omega arith) was some settle)

pub settled_kept : {S : Type 0} (R : Rules S) (interval : ℕ) (spine spine' : Stretch) (known known' : List (Option Known)) (state state' : S) (trail trail' : List S) (done done' : List Done) (last : List (Option Place))
    → IsReplayed R (base_of spine trail state known) spine.entries state trail done last → 0 < length spine.entries
    → IsSettled done done' known known' → state' ≡ state → trail' ≡ drop 1 trail → (spine_is : spine' ≡ from_place (spine.base.place + 1) spine)
    → ◌≡◌ {A = Kept S} (record { interval = interval; base = base_of spine' trail' state' known'; entries = spine'.entries })
    (settled R (spine.base.place + 1) (record { interval = interval; base = base_of spine trail state known; entries = spine.entries }))
settled_kept {S} R interval spine spine' known known' state state' trail trail' done done' last was some settle state_is trail_is spine_is =
    let moved = settled_base R spine spine' known known' state state' trail trail' done done' last was some settle state_is trail_is spine_is in
    let first = along R (base_of spine trail state known) (take (spine.base.place + 1 - spine.base.place) spine.entries) in
    ap (λ (p : Point S). record { interval = interval; base = p; entries = spine'.entries }) moved.0
    ∙ ap (λ (s : Stretch). record { interval = interval; base = first; entries = s.entries }) spine_is

-- ---- what is kept

pub settled_place : {S : Type 0} (R : Rules S) (k : Kept S) (place : ℕ) → k.base.place ≤ place → place ≤ last_place k → (settled R place k).base.place ≡ place
settled_place R k place above below =
    let n = place - k.base.place in
    omega (arith, place-along R k.base (take n k.entries), length-take-le n k.entries (omega arith))

pub settled_end : {S : Type 0} (R : Rules S) (k : Kept S) (place : ℕ) → k.base.place ≤ place → place ≤ last_place k → last_place (settled R place k) ≡ last_place k
settled_end R k place above below =
    omega (arith, settled_place R k place above below, length-drop (place - k.base.place) k.entries)

pub settled_now : {S : Type 0} (R : Rules S) (k : Kept S) (place : ℕ) → now_of R (settled R place k) ≡ now_of R k
settled_now R k place =
    let n = place - k.base.place in
    along-append_all R k.base (take n k.entries) (drop n k.entries) ∙ ap (along R k.base) (take-append-drop n k.entries)

pub settled_none : {S : Type 0} (R : Rules S) (k : Kept S) → k ≡ settled R k.base.place k
settled_none {S} R k =
    let none : k.base.place - k.base.place ≡ 0 = omega arith in
    rw none (ap (λ (p : Point S). record { interval = k.interval; base = p; entries = k.entries }) (sym (along-nil R k.base)))

-- one entry further
pub settled_more : {S : Type 0} (R : Rules S) (k : Kept S) (place : ℕ) → k.base.place ≤ place → place < last_place k
    → settled R ((settled R place k).base.place + 1) (settled R place k) ≡ settled R ((settled R place k).base.place + 1) k
settled_more {S} R k place above below =
    let n = place - k.base.place in
    let es = k.entries in
    let m = (settled R place k).base.place + 1 - (settled R place k).base.place in
    let both : n + m ≡ (settled R place k).base.place + 1 - k.base.place = omega (arith, settled_place R k place above (omega arith)) in
    ap (λ (p : Point S). record { interval = k.interval; base = p; entries = drop m (drop n es) })
    (along-append_all R k.base (take n es) (take m (drop n es)) ∙ ap (along R k.base) (sym (take-add n m es) ∙ ap (λ (i : ℕ). take i es) both))
    ∙ ap (λ (rest : List Entry). record { interval = k.interval; base = along R k.base (take ((settled R place k).base.place + 1 - k.base.place) es); entries = rest })
    (drop-drop m n es ∙ ap (λ (i : ℕ). drop i es) both)

pub settled_next : {S : Type 0} (R : Rules S) (k j : Kept S) (place : ℕ) → k.base.place ≤ place → place < last_place k → j ≡ settled R place k → settled R (j.base.place + 1) j ≡ settled R (j.base.place + 1) k
settled_next R k j place above below is = rw is (settled_more R k place above below)

-- ---- whole histories

pub stands_settled : {S : Type 0} (R : Rules S) (k : Kept S) (history : List Entry) (place : ℕ) → k.base.place ≤ place → place ≤ last_place k → StandsFor R k history → StandsFor R (settled R place k) history
stands_settled R k history place above below stands =
    let n = place - k.base.place in
    let here = settled_place R k place above below in
    let at : k.base.place + n ≡ (settled R place k).base.place = omega (arith, here) in
    record {
      within = omega (arith, here, stands_end R k history stands);
      base_is = stands_after R k history n stands ∙ ap (λ (m : ℕ). along R (origin R) (take m history)) at;
      others = ap (drop n) stands.others ∙ drop-drop n k.base.place history ∙ ap (λ (m : ℕ). drop m history) at;
    }

pub stands_snapshot : {S : Type 0} (R : Rules S) (k : Kept S) (history : List Entry) (place : ℕ) → StandsFor R k history → k.base.place ≤ place → snapshot_in R k place ≡ snapshot_at R k.interval history place
stands_snapshot R k history place stands above =
    let n = place - k.base.place in
    let end : k.base.place + length k.entries ≡ length history = stands_end R k history stands in
    let at : k.base.place + n ≡ place = omega arith in
    let here : along R k.base (take n k.entries) ≡ along R (origin R) (take place history) = stands_after R k history n stands ∙ ap (λ (m : ℕ). along R (origin R) (take m history)) at in
    rw (le-ltb place k.base.place above, end, here) refl
