-- A run grows by one turn at its end.
use Rattle.std.proofs.Common.{◌≡◌, ℕ, ◌+◌, ◌-◌, ◌^◌, ◌<◌, ◌≤◌, inl, inr, true, false, List, [], ◌∷◌, ◌++◌, length, map, drop, Option, Some, None, Result, Ok, Err, refl, sym, ap, subst, ◌∙◌, append_assoc, length-append, arith}
use Rattle.std.proofs.lemmas.Bool.{cases_lt}
use Rattle.std.proofs.lemmas.List.{append-nil, drop-drop, map-append}
use Rattle.zy_edge.specs.Clock.{IsReading}
use Rattle.zy_edge.specs.Faults.{raised}
use Rattle.zy_edge.specs.Link.{Mail, Parcel}
use Rattle.zy_node.specs.Rules.{Rules}
use Rattle.zy_node.specs.Told.{AreHeard, AreNeeded, AreReadings, IsRun, IsTurn, Moves, MovesAll, Outside, RoseBy, RunsTo, ServesTo, TurnsTo, next_of}
use Rattle.zy_node.specs.Turn.{HostState, Reached, Turn, onward, run, turned}
use Rattle.zy_node.specs.declared.fault.NodeFault.{NodeFault}
use Rattle.zy_node.specs.declared.fault.NodeFault.TheVariants.{Link, Want}
use Rattle.zy_node.proofs.SendLemmas.{reached_with, told}

-- ---- the definition

pub run-last : {S : Type 0} (R : Rules S) (turns : List Turn) (t : Turn) (host : HostState S) → run R (turns ++ t ∷ []) host ≡ onward (run R turns host) (turned R t)
run-last {S} R [] t host = ap (reached_with (turned R t host).host) (append-nil (turned R t host).sent)
run-last {S} R (first ∷ turns) t host =
    let one = turned R first host in
    let more = run-last R turns t one.host in
    ap (λ (r : Reached S). reached_with r.host (one.sent ++ r.sent)) more
    ∙ ap (reached_with (turned R t (run R turns one.host).host).host) (sym (append_assoc one.sent (run R turns one.host).sent (turned R t (run R turns one.host).host).sent))

pub needed-last : {S : Type 0} (R : Rules S) (turns : List Turn) (t : Turn) (host : HostState S) → AreNeeded R turns host → R.is_done (run R turns host).host.core ≡ false → AreNeeded R (turns ++ t ∷ []) host
needed-last R [] t host before last = (last, tt)
needed-last R (first ∷ turns) t host before last = (before.0, needed-last R turns t (turned R first host).host before.1 last)

-- ---- what is told

heard-last : (turns : List Turn) (t : Turn) (coming : List (List ℕ)) → AreHeard turns coming → t.heard ≡ next_of (drop (length turns) coming) → AreHeard (turns ++ t ∷ []) coming
heard-last [] t coming before last = (last, tt)
heard-last (first ∷ turns) t coming before last =
    let count : 1 + length turns ≡ length (first ∷ turns) = omega arith in
    let left : drop (length turns) (drop 1 coming) ≡ drop (length (first ∷ turns)) coming = drop-drop (length turns) 1 coming ∙ ap (λ (n : ℕ). drop n coming) count in
    (before.0, heard-last turns t (drop 1 coming) before.1 (last ∙ ap next_of (sym left)))

pub MovesAll-last : (turns : List Turn) (t : Turn) (first second : List Parcel) (before between after : Option Mail) → MovesAll turns first before between → Moves t.heard second between after → MovesAll (turns ++ t ∷ []) (first ++ second) before after
MovesAll-last turns t first second None between after one two = tt
MovesAll-last turns t first second (Some mail) between after one two =
    let there = subst (λ (m : Option Mail). Moves t.heard second m after) one.1 two in
    let left : drop 1 (drop (length turns) mail.coming) ≡ drop (length (turns ++ t ∷ [])) mail.coming =
    drop-drop 1 (length turns) mail.coming ∙ ap (λ (n : ℕ). drop n mail.coming) (sym (length-append turns (t ∷ []))) in (
      heard-last turns t mail.coming one.0 there.0,
      there.1 ∙ ap (λ (coming : List (List ℕ)). told coming ((mail.sent ++ first) ++ second)) left
          ∙ ap (told (drop (length (turns ++ t ∷ [])) mail.coming)) (append_assoc mail.sent first second),
    )

pub AreReadings-last : (moments : List ℕ) (now : ℕ) (before between after : Option (List ℕ)) → AreReadings moments before between → IsReading now between after → AreReadings (moments ++ now ∷ []) before after
AreReadings-last moments now before between None one two = tt
AreReadings-last moments now before between (Some later) one two =
    let here = subst (λ (m : Option (List ℕ)). AreReadings moments before m) two.1 one in
    (here.0, here.1, two.2 ∙ ap (λ (l : List ℕ). l ++ now ∷ []) here.2 ∙ append_assoc here.0 moments (now ∷ []))

pub rose-once : (many before between after : ℕ) → RoseBy many before between → after ≡ raised between → RoseBy (many + 1) before after
rose-once many before between after rose once = elim rose [
  | inl by ↦ elim (cases_lt (2 ^ 64 - 1) (before + many + 1)) [ inl large ↦ inr (omega arith) | inr small ↦ inl (omega arith) ]
  | inr last ↦ inr (omega arith)
]

-- ---- a run

pub unmoved : (mail : Option Mail) → MovesAll [] [] mail mail
unmoved None = tt
unmoved (Some mail) = (tt, ap (told mail.coming) (sym (append-nil mail.sent)))

pub unread : (moments : Option (List ℕ)) → AreReadings [] moments moments
unread None = tt
unread (Some moments) = (moments, refl, sym (append-nil moments))

unfoldable pub no_turns : {S : Type 0} (R : Rules S) (host : HostState S) (outside : Outside) → IsRun R 0 host host outside outside
no_turns R host outside = record {
  turns = [];
  number = refl;
  needed = tt;
  host = refl;
  mail = unmoved outside.mail;
  receives = inl (omega arith);
  moments = unread outside.moments;
}

unfoldable pub one_turn_more : {S : Type 0} (R : Rules S) (many : ℕ) (first middle last : HostState S) (from between to : Outside) → IsRun R many first middle from between → R.is_done middle.core ≡ false → IsTurn R middle last between to
    → IsRun R (many + 1) first last from to
one_turn_more {S} R many first middle last from between to run_so_far unfinished next =
    let turns = run_so_far.turns in
    let t = next.turn in
    let so_far = run R turns first in
    let all = run-last R turns t first in
    let is_last = subst (λ (h : HostState S). (last ≡ (turned R t h).host) × Moves t.heard (turned R t h).sent between.mail to.mail × (R.is_done h.core ≡ false)) run_so_far.host (next.host, next.mail, unfinished) in
    record {
      turns = turns ++ t ∷ [];
      number = length-append turns (t ∷ []) ∙ ap (λ (n : ℕ). n + 1) run_so_far.number;
      needed = needed-last R turns t first run_so_far.needed is_last.2;
      host = is_last.0 ∙ ap (λ (r : Reached S). r.host) (sym all);
      mail = subst (λ (r : Reached S). MovesAll (turns ++ t ∷ []) r.sent from.mail to.mail) (sym all) (MovesAll-last turns t so_far.sent (turned R t so_far.host).sent from.mail between.mail to.mail run_so_far.mail is_last.1);
      receives = rose-once many from.receives between.receives to.receives run_so_far.receives next.receives;
      moments = subst (λ (moments : List ℕ). AreReadings moments from.moments to.moments) (sym (map-append (λ (s : Turn). s.now) turns (t ∷ []))) (AreReadings-last (map (λ (s : Turn). s.now) turns) t.now from.moments between.moments to.moments run_so_far.moments next.moments);
    }

pub all_taken : {S : Type 0} (R : Rules S) (many most : ℕ) (first last : HostState S) (from to : Outside) → many ≡ most → IsRun R many first last from to → RunsTo R most first (Ok last) from to
all_taken R many most first last from to all taken = record { many = many; in_reach = omega arith; run = taken; ended = inr all }

pub done_early : {S : Type 0} (R : Rules S) (many most : ℕ) (first last : HostState S) (from to : Outside) → many ≤ most → IsRun R many first last from to → R.is_done last.core ≡ true → RunsTo R most first (Ok last) from to
done_early R many most first last from to in_reach taken done = record { many = many; in_reach = in_reach; run = taken; ended = inl done }

pub cut_off : {S : Type 0} (R : Rules S) (many most : ℕ) (first middle : HostState S) (fault : NodeFault (HostState S)) (from between to : Outside)
    → many < most → IsRun R many first middle from between → R.is_done middle.core ≡ false → TurnsTo R middle (Err fault) between to → RunsTo R most first (Err fault) from to
cut_off R many most first middle (Link last) from between to fewer taken unfinished next = record {
  run = record { many = many; fewer = fewer; last = middle; between = between; run = taken; needed = unfinished; cut = next.cut };
  host = next.host;
}
cut_off R many most first middle Want from between to fewer taken unfinished next =
    record { many = many; fewer = fewer; last = middle; between = between; run = taken; needed = unfinished; cut = next }

pub takes_all : {S : Type 0} (R : Rules S) (most : ℕ) (first : HostState S) (result : Result (HostState S) (NodeFault (HostState S))) (from to : Outside)
    → ((s : S) → R.is_done s ≡ false) → RunsTo R most first result from to → ServesTo R most first result from to
takes_all R most first (Ok last) from to never ran = elim ran.ended [
  | inl done ↦ (let unfinished : R.is_done last.core ≡ false = never last.core in absurd cc)
  | inr all ↦ subst (λ (n : ℕ). IsRun R n first last from to) all ran.run
]
takes_all R most first (Err (Link last)) from to never ran = ran
takes_all R most first (Err Want) from to never ran = ran
