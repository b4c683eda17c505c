-- A client asks, and the primary orders its request.
use Rattle.std.proofs.Common.{◌≡◌, ℕ, ◌+◌, ◌%◌, ◌<◌, ◌≤◌, Bool, true, false, List, [], ◌∷◌, ◌++◌, length, map, cond, Some, None, refl, sym, ap, ◌∙◌, subst, arith}
use Rattle.std.proofs.Math.Nat.{mod-eq_of_lt}
use Rattle.std.proofs.lemmas.Bool.{eq-eqb}
use Rattle.std.specs.List.{filter}
use Rattle.std.specs.Prelude.{nat_eq}
use Rattle.zy_admit.specs.Judging.{entry_of}
use Rattle.zy_base.specs.Machine.{Rules}
use Rattle.zy_base.specs.declared.ids.Party.{Party}
use Rattle.zy_base.specs.declared.ids.Party.TheVariants.{Client, Replica}
use Rattle.zy_base.specs.declared.ids.ReplicaId.{ReplicaId}
use Rattle.zy_base.specs.declared.step.Event.TheVariants.{Heard}
use Rattle.zy_calm_rows.proofs.ReadAgain.{heard}
use Rattle.zy_calm_rows.proofs.ReplicaRows.{in_first_view, order_is, request_calm, request_row}
use Rattle.zy_calm_rows.specs.Calm as rows
use Rattle.zy_calm_rows.specs.Outcomes.{calm_order, calm_spec, ordered_calmly}
use Rattle.zy_chain.specs.Answers.{FitsAnswers}
use Rattle.zy_chain.specs.Entries.{digest_of_entry}
use Rattle.zy_exec.specs.Replay.{Point, known_of, step}
use Rattle.zy_frames.specs.Frames.{FitsFrame, parts_of, spelling}
use Rattle.zy_frames.specs.declared.frame.Frame.TheVariants as frames
use Rattle.zy_parts.specs.Numbers as numbers
use Rattle.zy_parts.specs.Statements.{ask_fields, order_fields, spec_fields}
use Rattle.zy_parts.specs.declared.signed.Signed.{Signed}
use Rattle.zy_parts.specs.declared.statements.Ask.{Ask}
use Rattle.zy_parts.specs.declared.statements.Order.{Order}
use Rattle.zy_seal.specs.Keys.{Keys}
use Rattle.zy_seal.specs.Screening.{screen}
use Rattle.zy_seal.specs.Sealing.{SealerState, sealed_by, signatures_by, spent_one}
use Rattle.zy_table.specs.Deeds.{others, outgoing_of}
use Rattle.zy_table.specs.Requests.{order_of}
use Rattle.zy_table.specs.Sending.{copies}
use Rattle.zy_table.specs.State.{State, is_primary}
use Rattle.zy_table.specs.Whole.{whole_step}
use Rattle.zy_table.specs.declared.client.Response.{Response}
use Rattle.zy_world_law.specs.Setup.{Setup, keys_of, sealer_of}
use Rattle.zy_calm.proofs.Genuine.{accepted, digest_long, is_accepted, is_spelled, next_long}
use Rattle.zy_calm.proofs.Queue.{Frames}
use Rattle.zy_calm.proofs.Round.{IsAt, IsReady, IsRound, Stand, frame_of, left_is, order_frame, spec_spelled}

-- ---- the request and its order, as the client and the primary sign them

module _ {S : Type 0} (R : Rules S) (s : Setup) (p : Point S) (client stamp used : ℕ) (op : List ℕ) where
  -- with the stamp behind the client's last one, with the signature of that number
  abbrev pub new_ask : Ask
  new_ask = record { stamp = record { 0 = stamp + 1 }; op = op }

  abbrev pub asked_for : Signed Ask
  asked_for = sealed_by numbers.ask ask_fields (sealer_of s (Client (record { 0 = client })) stamp) new_ask

  -- with the primary's next signature
  abbrev pub given : Signed Order
  given = sealed_by numbers.order order_fields (sealer_of s (Replica (record { 0 = 0 })) used) (calm_order R p (entry_of asked_for))

  -- the primary's own response
  abbrev pub own_response : Response
  own_response =
      record {
        spec = sealed_by numbers.spec spec_fields (sealer_of s (Replica (record { 0 = 0 })) (used + 1)) (calm_spec R p (entry_of asked_for));
        reply = (known_of R p (entry_of asked_for)).reply;
        order = Some given;
      }

  -- what has to hold so that it runs
  pub record MayRun : Type 0 where
    pub some : 1 ≤ s.counts.n
    pub few : s.counts.n ≤ 16
    pub clients : s.clients ≤ 64
    pub member : client < s.clients
    pub stamp_low : stamp + 1 ≤ 64
    pub stamp_left : stamp < signatures_by s.height
    pub key_left : used < signatures_by s.height
    pub op_short : length op ≤ 1100
    pub next : rows.IsNext p s.interval (entry_of asked_for)
    pub reply : FitsAnswers (known_of R p (entry_of asked_for)).reply

  module _ (may : MayRun) where
    ask_spelled : ask_fields.Fits new_ask
    unfolding ask_fields
    ask_spelled = ((omega arith, omega (arith, may.stamp_low)), may.op_short)

    order_spelled : order_fields.Fits (calm_order R p (entry_of asked_for))
    unfolding order_fields
    order_spelled =
        let inside = may.next.inside in
        let small = may.next.small in
        ((omega arith, omega arith), ((omega arith, omega arith), (next_long p.head (digest_of_entry (entry_of asked_for)), digest_long (entry_of asked_for))))

    pub is_round : IsRound R s p client asked_for given
    is_round =
        let by_client = Client (record { 0 = client }) in
        let by_first = Replica (record { 0 = 0 }) in
        record {
          some = may.some;
          few = may.few;
          client_few = omega (arith, may.member, may.clients);
          stamp_low = may.stamp_low;
          next = may.next;
          reply = may.reply;
          asked_by = refl;
          ask_fits = is_spelled s by_client stamp may.stamp_left numbers.ask ask_fields new_ask may.member (omega (arith, may.member, may.clients)) ask_spelled;
          ask_accepted = is_accepted s by_client stamp may.stamp_left numbers.ask ask_fields new_ask may.member;
          ordered_by = refl;
          ordered = refl;
          order_fits = is_spelled s by_first used may.key_left numbers.order order_fields (calm_order R p (entry_of asked_for)) may.some (omega arith) order_spelled;
          order_accepted = is_accepted s by_first used may.key_left numbers.order order_fields (calm_order R p (entry_of asked_for)) may.some;
        }

    pub own_ready : used + 1 < signatures_by s.height → IsReady R s p client asked_for given 0 own_response
    unfolding FitsFrame
    own_ready low =
        let party = Replica (record { 0 = 0 }) in
        record {
          inside = may.some;
          of = record { by = refl; stmt = refl; reply = refl; order = refl };
          fits = (is_spelled s party (used + 1) low numbers.spec spec_fields (calm_spec R p (entry_of asked_for)) may.some (omega arith) (spec_spelled R s p client asked_for given is_round), (may.reply, is_round.order_fits));
          accepted = (is_accepted s party (used + 1) low numbers.spec spec_fields (calm_spec R p (entry_of asked_for)) may.some, (is_round.order_accepted, tt));
        }

    -- ---- the request at the primary

    module _ (at : Stand S) (same : at.point ≡ p) (state : State S) (is : IsAt R s at 0 state) (its : is.used ≡ used) (left : at.used + 2 ≤ signatures_by s.height) where
      calm_here : rows.IsCalm R p state
      calm_here = subst (λ (q : Point S). rows.IsCalm R q state) same is.calm

      next_here : rows.IsNext p state.kept.interval (entry_of asked_for)
      next_here = subst (λ (n : ℕ). rows.IsNext p n (entry_of asked_for)) (sym is.interval) may.next

      request_spelled : FitsFrame (frames.Request asked_for)
      unfolding FitsFrame
      request_spelled = is_round.ask_fits

      request_screened : screen state.keys (parts_of (frames.Request asked_for)) ≡ None
      request_screened =
          ap (λ (keys : Keys). screen keys (parts_of (frames.Request asked_for))) is.keys
          ∙ accepted (keys_of s) (parts_of (frames.Request asked_for)) (is_round.ask_accepted, tt)

      leads : is_primary state ≡ true
      leads =
          let n : ℕ = state.counts.n in
          let some : 1 ≤ n = subst (λ c. 1 ≤ c.n) (sym is.counts) may.some in
          let first : 0 % n ≡ 0 = mod-eq_of_lt some in
          ap (λ (v : ℕ). nat_eq (v % state.counts.n) state.me.0) (in_first_view R p state calm_here)
          ∙ ap (λ (me : ReplicaId). nat_eq (0 % state.counts.n) me.0) is.me
          ∙ eq-eqb (0 % n) 0 first

      pub request_taken : whole_step R state (Heard (spelling (frames.Request asked_for))) ≡ ordered_calmly R p state asked_for
      request_taken =
          heard R state (frames.Request asked_for) request_spelled request_screened refl
          ∙ request_row R p state calm_here asked_for next_here leads (omega (arith, left_is R s p client asked_for given is_round is.used state (Replica (record { 0 = 0 })) is.sealer, is.spent, left))

      pub request_after : IsAt R s (record { point = step R p (entry_of asked_for); used = at.used + 2; told = at.told }) 0 (ordered_calmly R p state asked_for).state
      request_after =
          record {
            calm = request_calm R p state calm_here asked_for next_here;
            me = is.me;
            counts = is.counts;
            keys = is.keys;
            interval = is.interval;
            used = is.used + 1 + 1;
            sealer = ap (λ (x : SealerState). spent_one (spent_one x)) is.sealer;
            spent = (let e : is.used + 1 + 1 ≤ at.used + 2 = omega (arith, is.spent) in e);
            locals = is.locals;
          }

      -- the order that it signs
      order_given : sealed_by numbers.order order_fields state.sealer (order_of R state (entry_of asked_for)) ≡ given
      order_given =
          ap (λ (x : Order). sealed_by numbers.order order_fields state.sealer x) (order_is R p state calm_here (entry_of asked_for) next_here)
          ∙ ap (λ (x : SealerState). sealed_by numbers.order order_fields x (calm_order R p (entry_of asked_for))) (is.sealer ∙ ap (sealer_of s (Replica (record { 0 = 0 }))) its)

      -- what it sends: the order to all others, and its response
      pub request_sent : (m n : ℕ) → outgoing_of m n (ordered_calmly R p state asked_for).deeds.sent
          ≡ copies (spelling (frames.Order (order_frame R s p client asked_for given))) (others m n) ++ (Client (record { 0 = client }), spelling (frame_of R s p client asked_for given own_response)) ∷ []
      request_sent m n =
          ap (λ (o : Signed Order). copies (spelling (frames.Order (record { order = o; ask = asked_for }))) (others m n)
          ++ (Client (record { 0 = client }), spelling (frames.SpecResponse (sealed_by numbers.spec spec_fields (spent_one state.sealer) (calm_spec R p (entry_of asked_for))) (known_of R p (entry_of asked_for)).reply (Some o))) ∷ []) order_given
          ∙ ap (λ (x : SealerState). copies (spelling (frames.Order (order_frame R s p client asked_for given))) (others m n)
          ++ (Client (record { 0 = client }), spelling (frames.SpecResponse (sealed_by numbers.spec spec_fields (spent_one x) (calm_spec R p (entry_of asked_for))) (known_of R p (entry_of asked_for)).reply (Some given))) ∷ [])
          (is.sealer ∙ ap (sealer_of s (Replica (record { 0 = 0 }))) its)

-- ---- who of all gets a frame

module _ (hears : Party → Bool) (bytes : List ℕ) where
  abbrev pub to_replica : ℕ → Party × List ℕ
  to_replica id = (Replica (record { 0 = id }), bytes)

  heard_one : (id : ℕ) (frames : Frames) (ids : List ℕ) (b : Bool) → frames ≡ map to_replica ids → cond b (to_replica id ∷ frames) frames ≡ map to_replica (cond b (id ∷ ids) ids)
  heard_one id frames ids true same = ap (λ (l : Frames). to_replica id ∷ l) same
  heard_one id frames ids false same = same

  pub heard_copies : (ids : List ℕ) → filter (λ z. hears z.0) (copies bytes (map (λ id. Replica (record { 0 = id })) ids)) ≡ map to_replica (filter (λ id. hears (Replica (record { 0 = id }))) ids)
  heard_copies [] = refl
  heard_copies (id ∷ ids) =
      heard_one id (filter (λ z. hears z.0) (copies bytes (map (λ j. Replica (record { 0 = j })) ids))) (filter (λ j. hears (Replica (record { 0 = j }))) ids) (hears (Replica (record { 0 = id }))) (heard_copies ids)
