-- The snapshots that are kept, one for each entry and one for the base.
use Rattle.std.proofs.Common.{◌≡◌, ℕ, zero, suc, ◌+◌, ◌-◌, ◌<◌, ◌≤◌, Bool, true, false, cond, inl, inr, List, [], ◌∷◌, ◌++◌, length, take, drop, get_or, Option, Some, None, refl, sym, ap, ◌∙◌, arith}
use Rattle.std.specs.Prelude.{All, IfSome, option_map, nat_eq, nat_lt, ◌||◌, ◌%◌}
use Rattle.std.proofs.lemmas.Bool.{cases_Bool, le-ltb, lt-ltb, ltb-true, ltb-false}
use Rattle.std.proofs.lemmas.List.{take_at, length-append}
use Rattle.std.proofs.lemmas.List.Elements.{All-cons, All-drop, All-get_or, All-nil, All-push, All-same, All-take}
use Rattle.std.proofs.Math.ListN.{get_or-eq_default}
use Rattle.zy_base.specs.Machine.{Rules}
use Rattle.zy_chain.specs.declared.entry.Entry.{Entry}
use Rattle.zy_exec.specs.declared.shot.Shot.{Shot}
use Rattle.zy_exec.specs.Replay.{Point, step, along}
use Rattle.zy_exec.specs.Kept.{Kept, last_place, now_of, longer, back_to, settled}
use Rattle.zy_exec.specs.Snapshot.{snapshot_of}
use Rattle.zy_exec.specs.Shots.{snapshot_in, digest_of_snapshot, shot_of, shot_in, shots_from, IsShort, IsShotsKept}
use Rattle.zy_exec.proofs.ReplayLemmas.{along-nil, along-append}
use Rattle.zy_chain.specs.Sizes.{greatest_snapshot}

pub shots-append : {S : Type 0} (R : Rules S) (interval : ℕ) (p : Point S) (entries : List Entry) (e : Entry)
    → shots_from R interval p (entries ++ e ∷ []) ≡ shots_from R interval p entries ++ shot_of R interval (step R (along R p entries) e) ∷ []
unfolding along
shots-append R interval p [] e = refl
shots-append R interval p (first ∷ entries) e =
    ap (λ (shots : List (Option Shot)). shot_of R interval p ∷ shots) (shots-append R interval (step R p first) entries e)

pub length-shots : {S : Type 0} (R : Rules S) (interval : ℕ) (p : Point S) (entries : List Entry) → length (shots_from R interval p entries) ≡ length entries + 1
length-shots R interval p [] = refl
length-shots R interval p (e ∷ entries) = let rest = length-shots R interval (step R p e) entries in omega arith

-- the snapshots of the first entries
pub shots-take : {S : Type 0} (R : Rules S) (interval n : ℕ) (p : Point S) (entries : List Entry) → take (n + 1) (shots_from R interval p entries) ≡ shots_from R interval p (take n entries)
shots-take {S} R interval n p entries =
    let next : n + 1 ≡ suc n = omega arith in
    ap (λ (m : ℕ). take m (shots_from R interval p entries)) next ∙ go n p entries
  where
    go : (m : ℕ) (q : Point S) (es : List Entry) → take (suc m) (shots_from R interval q es) ≡ shots_from R interval q (take m es)
    go zero q [] = refl
    go zero q (e ∷ es) = refl
    go (suc m) q [] = refl
    go (suc m) q (e ∷ es) = ap (λ (shots : List (Option Shot)). shot_of R interval q ∷ shots) (go m (step R q e) es)

-- the snapshot after so many entries
pub shots-get : {S : Type 0} (R : Rules S) (interval : ℕ) (p : Point S) (entries : List Entry) (i : ℕ) → i ≤ length entries
    → get_or (shots_from R interval p entries) i None ≡ shot_of R interval (along R p (take i entries))
unfolding along
shots-get R interval p [] zero within = refl
shots-get R interval p [] (suc i) within = absurd (omega arith)
shots-get R interval p (e ∷ entries) zero within = refl
shots-get R interval p (e ∷ entries) (suc i) within = shots-get R interval (step R p e) entries i (omega arith)

pub shots-past : {S : Type 0} (R : Rules S) (interval : ℕ) (p : Point S) (entries : List Entry) (i : ℕ) → length entries < i → get_or (shots_from R interval p entries) i None ≡ None
shots-past R interval p [] zero past = absurd (omega arith)
shots-past R interval p [] (suc i) past = refl
shots-past R interval p (e ∷ entries) zero past = absurd (omega arith)
shots-past R interval p (e ∷ entries) (suc i) past = shots-past R interval (step R p e) entries i (omega arith)

map_if : {A B : Type 0} (f : A → B) (b c : Bool) (x : A) → option_map f (cond b None (cond c (Some x) None)) ≡ cond b None (cond c (Some (f x)) None)
map_if f true c x = refl
map_if f false true x = refl
map_if f false false x = refl

-- a kept snapshot's bytes, and its digest
pub bytes_of_shot : {S : Type 0} (R : Rules S) (k : Kept S) (place : ℕ) → option_map (λ (s : Shot). s.bytes) (shot_in R k place) ≡ snapshot_in R k place
bytes_of_shot R k place =
    let p = along R k.base (take (place - k.base.place) k.entries) in
    map_if (λ (s : Shot). s.bytes) (nat_lt place k.base.place || nat_lt (last_place k) place) (nat_eq (p.place % k.interval) 0) (record { bytes = snapshot_of R p; digest = digest_of_snapshot (snapshot_of R p) })

pub digest_of_shot : {S : Type 0} (R : Rules S) (k : Kept S) (place : ℕ) → option_map (λ (s : Shot). s.digest) (shot_in R k place) ≡ option_map digest_of_snapshot (snapshot_in R k place)
digest_of_shot R k place =
    let p = along R k.base (take (place - k.base.place) k.entries) in
    let outside = nat_lt place k.base.place || nat_lt (last_place k) place in
    let due = nat_eq (p.place % k.interval) 0 in
    map_if (λ (s : Shot). s.digest) outside due (record { bytes = snapshot_of R p; digest = digest_of_snapshot (snapshot_of R p) })
    ∙ sym (map_if digest_of_snapshot outside due (snapshot_of R p))

-- ---- what is kept, as the execution changes

pub kept_new : {S : Type 0} (R : Rules S) (k : Kept S) (shot : Option Shot) (shots : List (Option Shot)) → k.entries ≡ [] → 4 ≤ k.interval → k.interval ≤ 32 → shot ≡ shot_of R k.interval (now_of R k) → IsShort shot → shots ≡ shot ∷ []
    → IsShotsKept R k shots
kept_new R k shot shots none least most shot_is short shots_are =
    let there : now_of R k ≡ k.base = ap (along R k.base) none ∙ along-nil R k.base in
    record {
      shots_are = shots_are ∙ ap (λ (s : Option Shot). s ∷ []) (shot_is ∙ ap (shot_of R k.interval) there) ∙ sym (ap (shots_from R k.interval k.base) none);
      short = All-same IsShort shots (shot ∷ []) shots_are (All-cons IsShort shot [] short (All-nil IsShort));
      least = least;
      most = most;
    }

pub kept_run : {S : Type 0} (R : Rules S) (k k' : Kept S) (e : Entry) (shot : Option Shot) (shots shots' : List (Option Shot)) → IsShotsKept R k shots → k' ≡ longer k e → shot ≡ shot_of R k'.interval (now_of R k') → IsShort shot → shots' ≡ shots ++ shot ∷ []
    → IsShotsKept R k' shots'
kept_run R k k' e shot shots shots' was k_is shot_is short shots_are =
    let now : now_of R (longer k e) ≡ step R (now_of R k) e = along-append R k.base k.entries e in
    let shot_now : shot ≡ shot_of R k.interval (step R (now_of R k) e) = shot_is ∙ ap (λ (j : Kept _). shot_of R j.interval (now_of R j)) k_is ∙ ap (shot_of R k.interval) now in
    let all : shots' ≡ shots_from R k.interval k.base (k.entries ++ e ∷ []) =
    shots_are ∙ ap (λ (s : Option Shot). shots ++ s ∷ []) shot_now ∙ ap (λ (ss : List (Option Shot)). ss ++ shot_of R k.interval (step R (now_of R k) e) ∷ []) was.shots_are ∙ sym (shots-append R k.interval k.base k.entries e) in
    rw k_is
    (record {
      shots_are = all;
      short = All-same IsShort shots' (shots ++ shot ∷ []) shots_are (All-push IsShort shots shot was.short short);
      least = was.least;
      most = was.most;
    })

pub kept_back : {S : Type 0} (R : Rules S) (k k' : Kept S) (place : ℕ) (shots shots' : List (Option Shot)) → IsShotsKept R k shots → k' ≡ back_to place k → shots' ≡ take (place - k.base.place + 1) shots
    → IsShotsKept R k' shots'
kept_back R k k' place shots shots' was k_is shots_are =
    rw k_is
    (record {
      shots_are = shots_are ∙ ap (take (place - k.base.place + 1)) was.shots_are ∙ shots-take R k.interval (place - k.base.place) k.base k.entries;
      short = All-same IsShort shots' (take (place - k.base.place + 1) shots) shots_are (All-take IsShort (place - k.base.place + 1) shots was.short);
      least = was.least;
      most = was.most;
    })

pub kept_unrun : {S : Type 0} (R : Rules S) (k k' : Kept S) (e : Entry) (shots shots' : List (Option Shot)) (n : ℕ) → IsShotsKept R k shots → k ≡ longer k' e → n ≡ length shots → shots' ≡ take (n - 1) shots
    → IsShotsKept R k' shots'
kept_unrun {S} R k k' e shots shots' n was k_is many shots_are =
    let front = shots_from R k'.interval k'.base k'.entries in
    let last = shot_of R k'.interval (step R (along R k'.base k'.entries) e) in
    let all : shots ≡ front ++ last ∷ [] =
    was.shots_are ∙ ap (λ (j : Kept S). shots_from R j.interval j.base j.entries) k_is ∙ shots-append R k'.interval k'.base k'.entries e in
    let same : k.interval ≡ k'.interval = ap (λ (j : Kept S). j.interval) k_is in
    record {
      shots_are = shots_are ∙ ap (take (n - 1)) all ∙ take_at front (last ∷ []) (n - 1) (omega (arith, many, ap length all, length-append front (last ∷ [])));
      short = All-same IsShort shots' (take (n - 1) shots) shots_are (All-take IsShort (n - 1) shots was.short);
      least = omega (arith, same, was.least);
      most = omega (arith, same, was.most);
    }

shots_settled : {S : Type 0} (R : Rules S) (interval n : ℕ) (p : Point S) (entries : List Entry) → n ≡ 1 → 0 < length entries → drop 1 (shots_from R interval p entries) ≡ shots_from R interval (along R p (take n entries)) (drop n entries)
unfolding along
shots_settled R interval n p [] one some = absurd (omega arith)
shots_settled R interval n p (e ∷ entries) one some = rw one refl

pub kept_settled : {S : Type 0} (R : Rules S) (k k' : Kept S) (shots shots' : List (Option Shot)) → IsShotsKept R k shots → 0 < length k.entries → k' ≡ settled R (k.base.place + 1) k → shots' ≡ drop 1 shots
    → IsShotsKept R k' shots'
kept_settled R k k' shots shots' was some k_is shots_are =
    rw k_is
    (record {
      shots_are = shots_are ∙ ap (drop 1) was.shots_are ∙ shots_settled R k.interval (k.base.place + 1 - k.base.place) k.base k.entries (omega arith) some;
      short = All-same IsShort shots' (drop 1 shots) shots_are (All-drop IsShort 1 shots was.short);
      least = was.least;
      most = was.most;
    })

-- what is kept at an index is the snapshot of its place
pub kept_at : {S : Type 0} (R : Rules S) (k : Kept S) (shots : List (Option Shot)) (place : ℕ) → IsShotsKept R k shots → k.base.place ≤ place → get_or shots (place - k.base.place) None ≡ shot_in R k place
kept_at R k shots place was above =
    let i = place - k.base.place in
    elim (cases_Bool (nat_lt (last_place k) place)) [
      | inl past ↦
          let over = ltb-true (last_place k) place past in
          ap (λ (ss : List (Option Shot)). get_or ss i None) was.shots_are ∙ shots-past R k.interval k.base k.entries i (omega arith) ∙ rw (le-ltb place k.base.place above, past) refl
      | inr within ↦
          let under = ltb-false (last_place k) place within in
          ap (λ (ss : List (Option Shot)). get_or ss i None) was.shots_are ∙ shots-get R k.interval k.base k.entries i (omega arith) ∙ rw (le-ltb place k.base.place above, within) refl
    ]

pub none_below : {S : Type 0} (R : Rules S) (k : Kept S) (place : ℕ) → place < k.base.place → None ≡ shot_in R k place
none_below R k place below = rw (lt-ltb place k.base.place below) refl

-- ---- how long they are

short_of : (shot : Option Shot) → IsShort shot → IfSome shot (λ s. length s.bytes ≤ greatest_snapshot)
short_of None short = tt
short_of (Some shot) short = short

pub short_at : (shots : List (Option Shot)) (i : ℕ) → All IsShort shots → IfSome (get_or shots i None) (λ s. length s.bytes ≤ greatest_snapshot)
short_at shots i short =
    elim (cases_Bool (nat_lt i (length shots))) [
      | inl within ↦ short_of (get_or shots i None) (All-get_or IsShort shots i None (ltb-true i (length shots) within) short)
      | inr past ↦ rw (get_or-eq_default shots None (ltb-false i (length shots) past)) tt
    ]
