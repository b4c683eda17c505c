-- The answers reach their client: it keeps them until they complete its request, and refuses those that come later.
use Rattle.std.proofs.Common.{◌≡◌, ℕ, zero, suc, ◌+◌, ◌<◌, ◌≤◌, true, false, List, [], ◌∷◌, ◌++◌, length, map, replicate, set, Option, Some, None, refl, sym, ap, ◌∙◌, subst, arith}
use Rattle.std.proofs.lemmas.Bool.{eqb-false, or_parts}
use Rattle.std.proofs.lemmas.List.{get_or-set_other}
use Rattle.std.specs.List.{AllByRecursion, list_any}
use Rattle.std.specs.Prelude.{nat_eq, if◌then◌else◌}
use Rattle.zy_base.specs.Machine.{Rules}
use Rattle.zy_base.specs.declared.cause.Cause.TheVariants as causes
use Rattle.zy_base.specs.declared.step.Answer.TheVariants.{Taken}
use Rattle.zy_calm_rows.proofs.ClientRows.{awaits_more, by_first, late_response, response_completes, response_kept}
use Rattle.zy_calm_rows.specs.Waiting.{Awaits, IsOf}
use Rattle.zy_chain.specs.Answers as chain
use Rattle.zy_exec.specs.Replay.{Point}
use Rattle.zy_frames.specs.Frames.{FitsFrame}
use Rattle.zy_parts.specs.Numbers as numbers
use Rattle.zy_parts.specs.Signing.{part_of, signed}
use Rattle.zy_parts.specs.Statements.{spec_fields}
use Rattle.zy_parts.specs.declared.signed.Signed.{Signed}
use Rattle.zy_parts.specs.declared.statements.Ask.{Ask}
use Rattle.zy_parts.specs.declared.statements.Order.{Order}
use Rattle.zy_parts.specs.declared.statements.Spec.{Spec}
use Rattle.zy_seal.specs.Screening.{answer_to}
use Rattle.zy_seal.specs.declared.directory.SealAnswer.TheVariants.{Yes}
use Rattle.zy_table.specs.ClientRows.{complete, done_of, hear, hear_response, is_by_primary, keep, kept_of, own_reply}
use Rattle.zy_table.specs.ClientState.{ClientOutcome, ClientState, client_outgoing, is_waiting, refused, taken}
use Rattle.zy_table.specs.Roles.{is_replica}
use Rattle.zy_table.specs.declared.client.Done.{Done}
use Rattle.zy_table.specs.declared.client.Path.TheVariants.{Fast}
use Rattle.zy_table.specs.declared.client.Response.{Response}
use Rattle.zy_world_law.specs.Events.{client_note, completed_by}
use Rattle.zy_world_law.specs.Runs.{Rest, flow}
use Rattle.zy_world_law.specs.Setup.{Setup, keys_of}
use Rattle.zy_world_law.specs.World as world
use Rattle.zy_world_law.specs.World.{World, client_at, correct_in}
use Rattle.zy_world_law.specs.declared.note.Note.{Note}
use Rattle.zy_world_law.specs.declared.note.Note.TheVariants as notes
use Rattle.zy_world_law.specs.declared.note.Note.TheVariants.{Quiet}
use Rattle.zy_calm.proofs.Happens.{IsClientNext, IsDelivery}
use Rattle.zy_calm.proofs.Leads.{Leads, already, joined, same_run}
use Rattle.zy_calm.proofs.Numbers.{AreDifferent}
use Rattle.zy_calm.proofs.Queue.{Hears}
use Rattle.zy_calm.proofs.Receiving.{AreReadable, IsAround, IsClientOf, IsServed, all_late, late_at, new_client, received, step_of}
use Rattle.zy_calm.proofs.Round.{IsReady, IsRound, answer, frame_of}

-- a response that others can check
pub record IsSound (s : Setup) (spec : Signed Spec) : Type 0 where
  pub fits : (signed spec_fields).Fits spec
  pub accepted : answer_to (keys_of s) (part_of numbers.spec spec_fields spec) ≡ Yes
  pub role : is_replica spec.by ≡ true

-- what holds of each kept response
abbrev pub AllKept : (Response → Type 0) → List (Option Response) → Type 0
AllKept P [] = Unit {0}
AllKept P (None ∷ slots) = AllKept P slots
AllKept P (Some r ∷ slots) = P r × AllKept P slots

keeps_so : (P : Response → Type 0) (slots : List (Option Response)) (i : ℕ) (r : Response) → AllKept P slots → P r → AllKept P (set slots i (Some r))
keeps_so P [] i r all one = tt
keeps_so P (None ∷ slots) zero r all one = (one, all)
keeps_so P (Some x ∷ slots) zero r all one = (one, all.1)
keeps_so P (None ∷ slots) (suc i) r all one = keeps_so P slots i r all one
keeps_so P (Some x ∷ slots) (suc i) r all one = (all.0, keeps_so P slots i r all.1 one)

module _ {S : Type 0} (R : Rules S) (s : Setup) (hears : Hears) (client stamp : ℕ) (p : Point S) (ask : Signed Ask) (order : Signed Order) (round : IsRound R s p client ask order)
    (Stays : List (Option (world.Replica S)) → Type 0) (Other : ℕ → Option world.Client → Type 0) where
  abbrev pub Answers : Type 0
  Answers = List (ℕ × Response)

  pub answers_read : AreReadable s Response (IsReady R s p client ask order) (frame_of R s p client ask order)
  answers_read = record { fits = λ id r ready. ready.fits; accepted = λ id r ready. ready.accepted }

  abbrev pub AnswersCome : World S → Answers → Type 0
  AnswersCome w answers = IsAround R s hears client stamp Response (IsReady R s p client ask order) (frame_of R s p client ask order) answers_read Stays Other w answers

  -- Its request is complete.
  abbrev pub AnswersServed : World S → Answers → Type 0
  AnswersServed w answers = IsServed R s hears client stamp Response (IsReady R s p client ask order) (frame_of R s p client ask order) answers_read Stays Other w answers

  is_sound : (id : ℕ) (r : Response) → IsReady R s p client ask order id r → IsSound s r.spec
  unfolding FitsFrame
  is_sound id r ready = record { fits = ready.fits.0; accepted = ready.accepted.0; role = ap is_replica ready.of.by }

  -- It waits, and keeps so many.
  pub record IsAnswering (w : World S) (count : ℕ) (answers : Answers) : Type 0 where
    pub around : AnswersCome w answers
    pub client' : world.Client
    pub there : client_at w client ≡ Some client'
    pub of : IsClientOf s client stamp client'.state
    pub awaits : Awaits client'.state ask (answer R s p client ask order) count
    pub free : AllByRecursion (λ x. kept_of client'.state x.0 ≡ None) answers
    pub sound : AllKept (λ r. IsSound s r.spec) client'.state.responses
    pub different : AreDifferent (map (λ x. x.0) answers)

  -- ---- while it waits

  -- those that it keeps nothing of yet
  still_free : (c : ClientState) (i : ℕ) (r : Response) (answers : Answers) → list_any (nat_eq i) (map (λ x. x.0) answers) ≡ false → AllByRecursion (λ x. kept_of c x.0 ≡ None) answers
      → AllByRecursion (λ x. kept_of (keep c i r) x.0 ≡ None) answers
  still_free c i r [] gone free = tt
  still_free c i r (x ∷ answers) gone free =
      let parts = or_parts (nat_eq i x.0) (list_any (nat_eq i) (map (λ z. z.0) answers)) gone in
      (get_or-set_other c.responses i x.0 (Some r) None (λ same. eqb-false i x.0 parts.0 (sym same)) ∙ free.0, still_free c i r answers parts.1 free.1)

  kept_of_client : (c : ClientState) (i : ℕ) (r : Response) → IsClientOf s client stamp c → IsClientOf s client stamp (keep c i r)
  kept_of_client c i r of = record { me = of.me; counts = of.counts; keys = of.keys; view = of.view; stamp = of.stamp; sealer = of.sealer }

  within : (c : ClientState) (n : ℕ) → IsClientOf s client stamp c → n < s.counts.n → n < c.counts.n
  within c n of inside = subst (λ counts. n < counts.n) (sym of.counts) inside

  fast_is : (c : ClientState) → IsClientOf s client stamp c → c.counts.fast ≡ s.counts.fast
  fast_is c of = ap (λ counts. counts.fast) of.counts

  abbrev receive : (w : World S) (y : ℕ × Response) (answers : Answers) (around : AnswersCome w (y ∷ answers)) (x : world.Client) → client_at w client ≡ Some x → x.state.keys ≡ keys_of s → (o : ClientOutcome) (note : Note) (Holds : World S → Type 0)
      → hear x.state (frame_of R s p client ask order y.1) ≡ o → client_note (record { 0 = client }) (completed_by x.state o.state) o.answer ≡ note → client_outgoing o.state.counts.n o.sent ≡ []
      → ((v : World S) → IsClientNext w v client o.state → AnswersCome v answers → Holds v) → IsDelivery R hears w note Holds
  receive w y answers around x there keys o note Holds step told nothing leads =
      received R s hears client stamp Response (IsReady R s p client ask order) (frame_of R s p client ask order) answers_read Stays Other w y answers around x there keys o note Holds step told nothing leads

  pub keeps_one : (w : World S) (count : ℕ) (y : ℕ × Response) (answers : Answers) → IsAnswering w count (y ∷ answers) → count + 1 < s.counts.fast → IsDelivery R hears w Quiet (λ v. IsAnswering v (count + 1) answers)
  keeps_one w count y answers is few =
      let c = is.client'.state in
      let a = answer R s p client ask order in
      let got = is.around.good.0 in
      let inside = within c y.0 is.of got.inside in
      receive w y answers is.around is.client' is.there is.of.keys (taken (keep c y.0 y.1)) Quiet (λ v. IsAnswering v (count + 1) answers)
      (response_kept c ask a count y.0 y.1 is.awaits got.of inside is.free.0 (omega (arith, fast_is c is.of, few)))
      (ap (λ (o : Option (Signed Ask)). client_note (record { 0 = client }) (if is_waiting o then (if is_waiting o then None else c.done) else None) Taken) is.awaits.waiting)
      refl
      (λ v next around. record {
        around = around;
        client' = next.client;
        there = new_client w v client (keep c y.0 y.1) is.client' is.there next;
        of = subst (IsClientOf s client stamp) (sym next.state) (kept_of_client c y.0 y.1 is.of);
        awaits = subst (λ (d : ClientState). Awaits d ask a (count + 1)) (sym next.state) (awaits_more c ask a count y.0 y.1 is.awaits got.of inside is.free.0);
        free = subst (λ (d : ClientState). AllByRecursion (λ x. kept_of d x.0 ≡ None) answers) (sym next.state) (still_free c y.0 y.1 answers is.different.0 is.free.1);
        sound = subst (λ (d : ClientState). AllKept (λ r. IsSound s r.spec) d.responses) (sym next.state) (keeps_so (λ r. IsSound s r.spec) c.responses y.0 y.1 is.sound (is_sound y.0 y.1 got));
        different = is.different.1;
      })

  -- what it counts as complete
  abbrev pub done : Done
  done =
      let a = answer R s p client ask order in
      record { stamp = a.spec.stamp; view = a.spec.view; place = a.spec.place; head = a.spec.head; path = Fast; reply = own_reply a.reply }

  done_is : (n : ℕ) (r : Response) → IsOf (answer R s p client ask order) n r → done_of r ≡ done
  done_is n r of =
      let a = answer R s p client ask order in
      ap (λ (x : Spec). record { stamp = x.stamp; view = x.view; place = x.place; head = x.head; path = Fast; reply = own_reply r.reply }) of.stmt
      ∙ ap (λ (reply : chain.Answers). record { stamp = a.spec.stamp; view = a.spec.view; place = a.spec.place; head = a.spec.head; path = Fast; reply = own_reply reply }) of.reply

  pub completes_one : (w : World S) (count : ℕ) (y : ℕ × Response) (answers : Answers) → IsAnswering w count (y ∷ answers) → s.counts.fast ≤ count + 1
      → IsDelivery R hears w (notes.Done (record { 0 = client }) done) (λ v. AnswersServed v answers)
  completes_one w count y answers is enough =
      let c = is.client'.state in
      let a = answer R s p client ask order in
      let got = is.around.good.0 in
      let inside = within c y.0 is.of got.inside in
      let after = complete (keep c y.0 y.1) y.1 in
      receive w y answers is.around is.client' is.there is.of.keys (taken after) (notes.Done (record { 0 = client }) done) (λ v. AnswersServed v answers)
      (response_completes c ask a count y.0 y.1 is.awaits got.of inside is.free.0 (omega (arith, fast_is c is.of, enough)))
      (ap (λ (o : Option (Signed Ask)). client_note (record { 0 = client }) (if is_waiting o then Some (done_of y.1) else None) Taken) is.awaits.waiting
      ∙ ap (notes.Done (record { 0 = client })) (done_is y.0 y.1 got.of))
      refl
      (λ v next around. record {
        around = around;
        client' = next.client;
        there = new_client w v client after is.client' is.there next;
        of = subst (IsClientOf s client stamp) (sym next.state)
            (record { me = is.of.me; counts = is.of.counts; keys = is.of.keys; view = ap (λ (x : Spec). x.view) got.of.stmt; stamp = is.of.stamp; sealer = is.of.sealer });
        idle = ap (λ (d : ClientState). d.waiting) next.state;
      })

  -- ---- once its request is complete

  refuses : (c : ClientState) (id : ℕ) (r : Response) → IsReady R s p client ask order id r → IsClientOf s client stamp c → c.waiting ≡ None → hear c (frame_of R s p client ask order r) ≡ refused causes.Finished c
  refuses c id r got of idle =
      let some = subst (λ counts. 1 ≤ counts.n) (sym of.counts) round.some in
      let primary : is_by_primary c r.order ≡ true = ap (is_by_primary c) got.of.order ∙ by_first c order some round.ordered_by (ap (λ (o : Order). o.view) round.ordered) in
      ap (hear_response c r) got.of.by ∙ late_response c r id idle primary

  abbrev step_so : (n : ℕ) (rest : Rest S) (w : World S) (note : Note) (Holds : World S → Type 0) → IsDelivery R hears w note Holds → Leads (flow R (suc n) rest w) (note ∷ []) (flow R n rest) Holds
  step_so = step_of R s hears client stamp Response (IsReady R s p client ask order) (frame_of R s p client ask order) answers_read Stays Other

  -- with enough of them: so many are kept, one completes, the others come too late
  pub all_answered : (answers : Answers) (w : World S) (count more behind : ℕ) → IsAnswering w count answers → count + more + 1 ≡ s.counts.fast → length answers ≡ more + 1 + behind → (n all : ℕ) (rest : Rest S)
      → all ≡ length answers + n
      → Leads (flow R all rest w) (replicate more Quiet ++ notes.Done (record { 0 = client }) done ∷ replicate behind (late_at client)) (flow R n rest) (λ v. AnswersServed v [])
  all_answered [] w count more behind is enough long n all rest same = absurd (omega (arith, long))
  all_answered (y ∷ answers) w count more behind is enough long n zero rest same = absurd (omega (arith, same))
  all_answered (y ∷ answers) w count zero behind is enough long n (suc all) rest same =
      joined _ (notes.Done (record { 0 = client }) done ∷ []) (replicate behind (late_at client)) (flow R all rest) (flow R n rest) _ _
      (step_so all rest w _ _ (completes_one w count y answers is (omega (arith, enough))))
      (λ v next. subst (λ (k : ℕ). Leads (flow R all rest v) (replicate k (late_at client)) (flow R n rest) (λ u. AnswersServed u [])) (let e : length answers ≡ behind = omega (arith, long) in e)
      (all_late R s hears client stamp Response (IsReady R s p client ask order) (frame_of R s p client ask order) answers_read Stays Other refuses answers v next n all rest (let e : all ≡ length answers + n = omega (arith, same) in e)))
  all_answered (y ∷ answers) w count (suc more) behind is enough long n (suc all) rest same =
      joined _ (Quiet ∷ []) (replicate more Quiet ++ notes.Done (record { 0 = client }) done ∷ replicate behind (late_at client)) (flow R all rest) (flow R n rest) _ _
      (step_so all rest w Quiet _ (keeps_one w count y answers is (omega (arith, enough))))
      (λ v next. all_answered answers v (count + 1) more behind next (let e : count + 1 + more + 1 ≡ s.counts.fast = omega (arith, enough) in e) (let e : length answers ≡ more + 1 + behind = omega (arith, long) in e) n all rest
      (let e : all ≡ length answers + n = omega (arith, same) in e))

  -- with too few of them to complete it at once: all are kept
  pub all_kept : (answers : Answers) (w : World S) (count : ℕ) → IsAnswering w count answers → count + length answers < s.counts.fast → (n all : ℕ) (rest : Rest S) → all ≡ length answers + n
      → Leads (flow R all rest w) (replicate (length answers) Quiet) (flow R n rest) (λ v. IsAnswering v (count + length answers) [])
  all_kept [] w count is few n all rest same =
      same_run _ _ [] (flow R n rest) _ (ap (λ (k : ℕ). flow R k rest w) (let e : all ≡ n = omega (arith, same) in e))
      (already w (flow R n rest) _ (subst (λ (k : ℕ). IsAnswering w k []) (let e : count ≡ count + 0 = omega arith in e) is))
  all_kept (y ∷ answers) w count is few n zero rest same = absurd (omega (arith, same))
  all_kept (y ∷ answers) w count is few n (suc all) rest same =
      joined _ (Quiet ∷ []) (replicate (length answers) Quiet) (flow R all rest) (flow R n rest) _ _
      (step_so all rest w Quiet _ (keeps_one w count y answers is (omega (arith, few))))
      (λ v next. subst (λ (k : ℕ). Leads (flow R all rest v) (replicate (length answers) Quiet) (flow R n rest) (λ u. IsAnswering u k [])) (let e : count + 1 + length answers ≡ count + suc (length answers) = omega arith in e)
      (all_kept answers v (count + 1) next (omega (arith, few)) n all rest (let e : all ≡ length answers + n = omega (arith, same) in e)))
