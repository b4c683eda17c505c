-- A trace ends as the run of its schedule.
use Rattle.std.proofs.Common.{◌≡◌, ℕ, zero, suc, ◌+◌, true, false, Some, None, List, [], ◌∷◌, Option, length, refl, sym, subst, arith}
use Rattle.zy_base.specs.Machine.{Rules}
use Rattle.zy_schedule.specs.declared.line.Line.{Line}
use Rattle.zy_schedule.specs.declared.line.Line.TheVariants as lines
use Rattle.zy_top.proofs.RunParts.{line_acts}
use Rattle.zy_top.specs.Acts.{act_of, act_part}
use Rattle.zy_top.specs.declared.acts.Act.{Act}
use Rattle.zy_top.specs.declared.acts.Act.TheVariants as acts
use Rattle.zy_trace.specs.Telling as telling
use Rattle.zy_trace.specs.Telling.{Told, Trace, happened, headed, then_on, trace, trace_act, trace_delivery, trace_flow}
use Rattle.zy_world_law.specs.Events as events
use Rattle.zy_world_law.specs.Events.{Happened, happens}
use Rattle.zy_world_law.specs.Runs as runs
use Rattle.zy_world_law.specs.Runs.{End, Rest, Run, comes_to, flow, goes_on, run}
use Rattle.zy_world_law.specs.World.{World, drop_frame, next_undelivered, set_muted}
use Rattle.zy_world_law.specs.declared.event.WorldEvent.{WorldEvent}
use Rattle.zy_world_law.specs.declared.event.WorldEvent.TheVariants as happenings
use Rattle.zy_world_law.specs.declared.note.Note.{Note}

-- a run, behind so many events, and a trace that tells of as many
abbrev pub IsLike : {S : Type 0} → Run S → ℕ → Trace S → Type 0
IsLike r n (Trace.Goes v t) = r.end ≡ End.At v
IsLike r n (Trace.Breaks broken t) = (r.end ≡ End.Stopped broken) × (t.events ≡ n + length r.notes)

module _ {S : Type 0} where
  pub ends_like : (r : Run S) (n : ℕ) (x : Trace S) (v : World S) (t : Told) → x ≡ Trace.Goes v t → IsLike r n x → r.end ≡ End.At v
  ends_like r n x v t is like = subst (λ (y : Trace S). IsLike r n y) is like

  pub breaks_like : (r : Run S) (n : ℕ) (x : Trace S) (broken : events.Broken) (t : Told) → x ≡ Trace.Breaks broken t → IsLike r n x
      → (r.end ≡ End.Stopped broken) × (t.events ≡ n + length r.notes)
  breaks_like r n x broken t is like = subst (λ (y : Trace S). IsLike r n y) is like

  -- a run and what is traced of it, from each world on
  abbrev AreLike : Rest S → (World S → Told → Trace S) → Type 0
  AreLike rest more = (v : World S) (t : Told) → IsLike (rest v) t.events (more v t)

  like_one_more : (worlds : List (World S)) (note : Note) (r : Run S) (n m : ℕ) (x : Trace S) → m ≡ n + 1 → IsLike r m x
      → IsLike (record { worlds = worlds; notes = note ∷ r.notes; end = r.end }) n x
  like_one_more worlds note r n m (Trace.Goes v t) more like = like
  like_one_more worlds note r n m (Trace.Breaks broken t) more like = (like.0, omega (arith, like.1, more))

  like_come_to : (worlds : List (World S)) (r : Run S) (n : ℕ) (x : Trace S) → IsLike r n x → IsLike (record { worlds = worlds; notes = r.notes; end = r.end }) n x
  like_come_to worlds r n (Trace.Goes v t) like = like
  like_come_to worlds r n (Trace.Breaks broken t) like = like

  comes_like : (v : World S) (t : Told) (rest : Rest S) (more : World S → Told → Trace S) → AreLike rest more → IsLike (comes_to v rest) t.events (more v t)
  comes_like v t rest more like = like_come_to (v ∷ (rest v).worlds) (rest v) t.events (more v t) (like v t)

  then_twice : (x : Trace S) (step next : World S → Told → Trace S) → then_on (then_on x step) next ≡ then_on x (λ v t. then_on (step v t) next)
  then_twice (Trace.Goes v t) step next = refl
  then_twice (Trace.Breaks broken t) step next = refl

module _ {S : Type 0} (R : Rules S) where
  happened_like : (event : WorldEvent) (w : World S) (t : Told) (rest : Rest S) (more : World S → Told → Trace S) → AreLike rest more → (h : Happened S)
      → IsLike (goes_on h rest) t.events (then_on (happened R event w t h) more)
  happened_like event w t rest more like (Happened.Goes v note) =
      let after = telling.followed R v (telling.actor w event) (telling.key_next w (telling.actor w event)) note (telling.answer_in R w event) t in
      like_one_more (v ∷ (rest v).worlds) note (rest v) t.events (t.events + 1) (more v after) refl (like v after)
  happened_like event w t rest more like (Happened.Breaks broken) = (refl, omega arith)

  delivery_like : (n : ℕ) (w : World S) (t : Told) (rest : Rest S) (more : World S → Told → Trace S) → AreLike rest more
      → AreLike (flow R n rest) (λ v u. then_on (trace_flow R n v u) more) → (next : Option ℕ)
      → IsLike (runs.flow_on R w rest (flow R n rest) next) t.events (then_on (telling.flow_on R w t (trace_flow R n) next) more)
  delivery_like n w t rest more like others None = like w t
  delivery_like n w t rest more like others (Some frame) =
      let event = happenings.Deliver frame None in
      let there = headed w (lines.Deliver frame None) t in
      subst (λ (x : Trace S). IsLike (goes_on (happens R w event) (flow R n rest)) t.events x)
      (sym (then_twice (trace_delivery R frame w t) (trace_flow R n) more))
      (happened_like event w there (flow R n rest) (λ v u. then_on (trace_flow R n v u) more) others (happens R w event))

  flow_like : (n : ℕ) (rest : Rest S) (more : World S → Told → Trace S) → AreLike rest more → AreLike (flow R n rest) (λ v u. then_on (trace_flow R n v u) more)
  unfolding flow trace_flow
  flow_like zero rest more like w t = like w t
  flow_like (suc n) rest more like w t = delivery_like n w t rest more like (flow_like n rest more like) (next_undelivered w)

  act_like : (act : Act) (w : World S) (t : Told) (rest : Rest S) (more : World S → Told → Trace S) → AreLike rest more → IsLike (act_part R act rest w) t.events (then_on (trace_act R act w t) more)
  act_like (acts.Event event) w t rest more like = happened_like event w t rest more like (happens R w event)
  act_like (acts.Flow n) w t rest more like = flow_like n rest more like w t
  act_like (acts.Drop frame) w t rest more like = comes_like (drop_frame w frame) t rest more like
  act_like (acts.Mute party) w t rest more like = comes_like (set_muted w party true) t rest more like
  act_like (acts.Unmute party) w t rest more like = comes_like (set_muted w party false) t rest more like

  pub run_like : (schedule : List Line) (w : World S) (t : Told) → IsLike (run R schedule w) t.events (trace R schedule w t)
  unfolding run trace
  run_like [] w t = refl
  run_like (line ∷ more) w t =
      subst (λ (r : Run S). IsLike r t.events (then_on (trace_act R (act_of line) w (headed w line t)) (trace R more)))
      (sym (line_acts R line (run R more) w))
      (act_like (act_of line) w (headed w line t) (run R more) (trace R more) (λ v u. run_like more v u))
