-- One request of a calm run: its frames, and what live replicas make of them.
use Rattle.std.proofs.Common.{◌≡◌, ℕ, ◌+◌, ◌-◌, ◌%◌, ◌<◌, ◌≤◌, true, List, [], ◌∷◌, length, Some, None, refl, sym, ap, ◌∙◌, subst, arith}
use Rattle.std.proofs.Math.Nat.{mod-eq_of_lt}
use Rattle.std.proofs.lemmas.Bool.{eq-eqb, and_from}
use Rattle.std.specs.List.{AllByRecursion}
use Rattle.std.specs.Prelude.{nat_eq}
use Rattle.sha2.proofs.Facts256.{length-sha256}
use Rattle.zy_admit.specs.Judging.{asking, entry_of}
use Rattle.zy_base.specs.Machine.{Rules}
use Rattle.zy_base.specs.declared.ids.Party.{Party}
use Rattle.zy_base.specs.declared.ids.Party.TheVariants.{Client, Replica}
use Rattle.zy_base.specs.declared.step.Event.TheVariants.{Heard}
use Rattle.zy_calm_rows.proofs.ReadAgain.{heard}
use Rattle.zy_calm_rows.proofs.ReplicaRows.{order_calm, order_row}
use Rattle.zy_calm_rows.specs.Calm as rows
use Rattle.zy_calm_rows.specs.Outcomes.{calm_order, calm_spec, taken_calmly}
use Rattle.zy_calm_rows.specs.Waiting.{Answered, IsOf}
use Rattle.zy_chain.specs.Answers.{FitsAnswers}
use Rattle.zy_chain.specs.Entries.{digest_of_entry}
use Rattle.zy_exec.specs.Replay.{Point, known_of, step}
use Rattle.zy_frames.specs.Frames.{FitsFrame, parts_of, spelling}
use Rattle.zy_frames.specs.declared.frame.Frame.{Frame}
use Rattle.zy_frames.specs.declared.frame.Frame.TheVariants as frames
use Rattle.zy_frames.specs.declared.frame.OrderFrame.{OrderFrame}
use Rattle.zy_parts.specs.Numbers as numbers
use Rattle.zy_parts.specs.Signing.{part_of, signed}
use Rattle.zy_parts.specs.Statements.{ask_fields, order_fields, spec_fields}
use Rattle.zy_parts.specs.declared.signed.Signed.{Signed}
use Rattle.zy_parts.specs.declared.statements.Ask.{Ask}
use Rattle.zy_parts.specs.declared.statements.Local.{Local}
use Rattle.zy_parts.specs.declared.statements.Order.{Order}
use Rattle.zy_parts.specs.declared.statements.Spec.{Spec}
use Rattle.zy_seal.specs.Keys.{Keys}
use Rattle.zy_seal.specs.Screening.{answer_to, screen}
use Rattle.zy_seal.specs.Sealing.{SealerState, left_of, sealed_by, signatures_by, spent_one}
use Rattle.zy_seal.specs.declared.directory.SealAnswer.TheVariants.{Yes}
use Rattle.zy_table.specs.Deeds.{outgoing_of}
use Rattle.zy_table.specs.Roles.{in_role, is_client, is_primary_of}
use Rattle.zy_table.specs.Running.{sealed_spec}
use Rattle.zy_table.specs.State.{State, signs_left}
use Rattle.zy_table.specs.Whole.{whole_step}
use Rattle.zy_table.specs.declared.client.Response.{Response}
use Rattle.zy_world_law.specs.Setup.{Setup, keys_of, sealer_of}
use Rattle.zy_calm.proofs.Genuine.{AreAccepted, accepted, is_accepted, is_spelled, next_long}

-- where a live replica stands: the point, how many statements it has signed at most, and the last place of which it may have said a
-- local commit
pub record Stand (S : Type 0) : Type 0 where
  pub point : Point S
  pub used : ℕ
  pub told : ℕ

pub record IsAt {S : Type 0} (R : Rules S) (s : Setup) (at : Stand S) (id : ℕ) (state : State S) : Type 0 where
  pub calm : rows.IsCalm R at.point state
  pub me : state.me ≡ record { 0 = id }
  pub counts : state.counts ≡ s.counts
  pub keys : state.keys ≡ keys_of s
  pub interval : state.kept.interval ≡ s.interval
  pub used : ℕ
  pub sealer : state.sealer ≡ sealer_of s (Replica (record { 0 = id })) used
  pub spent : used ≤ at.used
  pub locals : AllByRecursion (λ said. said.stmt.place.0 ≤ at.told) state.locals

pub all_up_to : (few more : ℕ) (locals : List (Signed Local)) → few ≤ more → AllByRecursion (λ said. said.stmt.place.0 ≤ few) locals → AllByRecursion (λ said. said.stmt.place.0 ≤ more) locals
all_up_to few more [] less all = tt
all_up_to few more (said ∷ locals) less all = ((let e : said.stmt.place.0 ≤ more = omega (arith, less, all.0) in e), all_up_to few more locals less all.1)

-- more may be signed, and more local commits said
pub moved : {S : Type 0} {R : Rules S} {s : Setup} {id : ℕ} {state : State S} (at to : Stand S) → IsAt R s at id state → at.point ≡ to.point → at.used ≤ to.used → at.told ≤ to.told → IsAt R s to id state
moved {S = S} {R = R} {state = state} at to is same more told =
    record {
      calm = subst (λ (q : Point S). rows.IsCalm R q state) same is.calm;
      me = is.me;
      counts = is.counts;
      keys = is.keys;
      interval = is.interval;
      used = is.used;
      sealer = is.sealer;
      spent = (let e : is.used ≤ to.used = omega (arith, is.spent, more) in e);
      locals = all_up_to at.told to.told state.locals told is.locals;
    }

-- it signs one statement, and is calm there
pub signs_one : {S : Type 0} {R : Rules S} {s : Setup} {id : ℕ} {state : State S} (at to : Stand S) (after : State S) → IsAt R s at id state → rows.IsCalm R to.point after → after.me ≡ state.me → after.counts ≡ state.counts
    → after.keys ≡ state.keys → after.kept.interval ≡ state.kept.interval → after.sealer ≡ spent_one state.sealer → at.used + 1 ≤ to.used → AllByRecursion (λ said. said.stmt.place.0 ≤ to.told) after.locals → IsAt R s to id after
signs_one at to after is calm me counts keys interval sealer more locals =
    record {
      calm = calm;
      me = me ∙ is.me;
      counts = counts ∙ is.counts;
      keys = keys ∙ is.keys;
      interval = interval ∙ is.interval;
      used = is.used + 1;
      sealer = sealer ∙ ap spent_one is.sealer;
      spent = (let e : is.used + 1 ≤ to.used = omega (arith, is.spent, more) in e);
      locals = locals;
    }

-- a request of a client and its order, where the replicas stand at this point
pub record IsRound {S : Type 0} (R : Rules S) (s : Setup) (p : Point S) (client : ℕ) (ask : Signed Ask) (order : Signed Order) : Type 0 where
  pub some : 1 ≤ s.counts.n
  pub few : s.counts.n ≤ 16
  pub client_few : client < 64
  pub stamp_low : ask.stmt.stamp.0 ≤ 64
  pub next : rows.IsNext p s.interval (entry_of ask)
  pub reply : FitsAnswers (known_of R p (entry_of ask)).reply
  pub asked_by : ask.by ≡ Client (record { 0 = client })
  pub ask_fits : (signed ask_fields).Fits ask
  pub ask_accepted : answer_to (keys_of s) (part_of numbers.ask ask_fields ask) ≡ Yes
  pub ordered_by : order.by ≡ Replica (record { 0 = 0 })
  pub ordered : order.stmt ≡ calm_order R p (entry_of ask)
  pub order_fits : (signed order_fields).Fits order
  pub order_accepted : answer_to (keys_of s) (part_of numbers.order order_fields order) ≡ Yes

module _ {S : Type 0} (R : Rules S) (s : Setup) (p : Point S) (client : ℕ) (ask : Signed Ask) (order : Signed Order) where
  -- the one answer to it
  abbrev pub answer : Answered
  answer = record { spec = calm_spec R p (entry_of ask); reply = (known_of R p (entry_of ask)).reply; order = order }

  abbrev pub order_frame : OrderFrame
  order_frame = record { order = order; ask = ask }

  abbrev pub frame_of : Response → Frame
  frame_of r = frames.SpecResponse r.spec r.reply r.order

  -- a response of the replica with this number, as its client can read it
  pub record IsReady (id : ℕ) (r : Response) : Type 0 where
    pub inside : id < s.counts.n
    pub of : IsOf answer id r
    pub fits : FitsFrame (frame_of r)
    pub accepted : AreAccepted (keys_of s) (parts_of (frame_of r))

  module _ (round : IsRound R s p client ask order) where
    pub first_leads : (n : ℕ) → 1 ≤ n → nat_eq (0 % n) 0 ≡ true
    first_leads n some = let first : 0 % n ≡ 0 = mod-eq_of_lt some in eq-eqb (0 % n) 0 first

    order_spelled : FitsFrame (frames.Order order_frame)
    unfolding FitsFrame
    order_spelled = (round.order_fits, round.ask_fits)

    pub spec_spelled : spec_fields.Fits (calm_spec R p (entry_of ask))
    unfolding spec_fields
    spec_spelled =
        let inside = round.next.inside in
        let small = round.next.small in
        let client_is : (entry_of ask).client.0 ≡ client = ap (λ (by : Party). (asking by).0) round.asked_by in (
          (omega arith, omega arith),
          ((omega arith, omega arith), (next_long p.head (digest_of_entry (entry_of ask)), (length-sha256 _, (omega (arith, client_is, round.client_few), (omega arith, omega (arith, round.stamp_low)))))),
        )

    pub left_is : (used : ℕ) (state : State S) (me : Party) → state.sealer ≡ sealer_of s me used → signs_left state ≡ signatures_by s.height - used
    left_is used state me is = ap left_of is

    -- ---- an order at a live replica

    module _ (at : Stand S) (same : at.point ≡ p) (id : ℕ) (inside : id < s.counts.n) (state : State S) (is : IsAt R s at id state) (left : at.used + 1 ≤ signatures_by s.height) where
      calm_here : rows.IsCalm R p state
      calm_here = subst (λ (q : Point S). rows.IsCalm R q state) same is.calm

      next_here : rows.IsNext p state.kept.interval (entry_of ask)
      next_here = subst (λ (n : ℕ). rows.IsNext p n (entry_of ask)) (sym is.interval) round.next

      in_order_role : in_role state (frames.Order order_frame) ≡ true
      in_order_role =
          and_from (is_primary_of state.counts order.stmt.view.0 order.by) (is_client ask.by)
          (ap (λ (by : Party). is_primary_of state.counts order.stmt.view.0 by) round.ordered_by
          ∙ ap (λ (x : Order). nat_eq (x.view.0 % state.counts.n) 0) round.ordered
          ∙ first_leads state.counts.n (subst (λ c. 1 ≤ c.n) (sym is.counts) round.some))
          (ap is_client round.asked_by)

      order_screened : screen state.keys (parts_of (frames.Order order_frame)) ≡ None
      order_screened =
          ap (λ (keys : Keys). screen keys (parts_of (frames.Order order_frame))) is.keys
          ∙ accepted (keys_of s) (parts_of (frames.Order order_frame)) (round.order_accepted, (round.ask_accepted, tt))

      pub order_taken : whole_step R state (Heard (spelling (frames.Order order_frame))) ≡ taken_calmly R p state order_frame
      order_taken =
          heard R state (frames.Order order_frame) order_spelled order_screened in_order_role
          ∙ order_row R p state calm_here order_frame next_here round.ordered (omega (arith, left_is is.used state (Replica (record { 0 = id })) is.sealer, is.spent, left))

      abbrev pub after : State S
      after = (taken_calmly R p state order_frame).state

      pub order_after : IsAt R s (record { point = step R p (entry_of ask); used = at.used + 1; told = at.told }) id after
      order_after =
          signs_one at (record { point = step R p (entry_of ask); used = at.used + 1; told = at.told }) after is (order_calm R p state calm_here order_frame next_here round.ordered) refl refl refl refl refl (omega arith) is.locals

      -- the response
      abbrev pub response : Response
      response = record { spec = sealed_spec state (calm_spec R p (entry_of ask)); reply = (known_of R p (entry_of ask)).reply; order = Some order }

      pub order_sent : (m n : ℕ) → outgoing_of m n (taken_calmly R p state order_frame).deeds.sent ≡ (Client (record { 0 = client }), spelling (frame_of response)) ∷ []
      order_sent m n = ap (λ (by : Party). (Client (asking by), spelling (frame_of response)) ∷ []) round.asked_by

      signed_as : (used : ℕ) → Signed Spec
      signed_as used = sealed_by numbers.spec spec_fields (sealer_of s (Replica (record { 0 = id })) used) (calm_spec R p (entry_of ask))

      response_is : response ≡ record { spec = signed_as is.used; reply = (known_of R p (entry_of ask)).reply; order = Some order }
      unfolding signed_as
      response_is = ap (λ (x : SealerState). record { spec = sealed_by numbers.spec spec_fields x (calm_spec R p (entry_of ask)); reply = (known_of R p (entry_of ask)).reply; order = Some order }) is.sealer

      ready_as : IsReady id (record { spec = signed_as is.used; reply = (known_of R p (entry_of ask)).reply; order = Some order })
      unfolding signed_as FitsFrame
      ready_as =
          let member : id < s.counts.n = inside in
          let low : is.used < signatures_by s.height = omega (arith, is.spent, left) in
          let party = Replica (record { 0 = id }) in
          record {
            inside = inside;
            of = record { by = refl; stmt = refl; reply = refl; order = refl };
            fits = (is_spelled s party is.used low numbers.spec spec_fields (calm_spec R p (entry_of ask)) member (omega (arith, round.few, inside)) spec_spelled, (round.reply, round.order_fits));
            accepted = (is_accepted s party is.used low numbers.spec spec_fields (calm_spec R p (entry_of ask)) member, (round.order_accepted, tt));
          }

      pub response_ready : IsReady id response
      response_ready = subst (IsReady id) (sym response_is) ready_as
