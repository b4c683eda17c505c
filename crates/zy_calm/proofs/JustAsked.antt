-- A client that has just asked waits for the answer, and keeps nothing yet.
use Rattle.std.proofs.Common.{◌≡◌, ℕ, zero, suc, ◌+◌, ◌-◌, ◌%◌, ◌≤◌, Bool, true, List, [], ◌∷◌, replicate, cond, Option, Some, None, refl, sym, ap, ◌∙◌, subst, arith}
use Rattle.std.proofs.Math.Nat.{mod-eq_of_lt}
use Rattle.std.proofs.lemmas.List.{length-replicate}
use Rattle.std.specs.List.{filter}
use Rattle.std.specs.Prelude.{is_some, count_by}
use Rattle.zy_admit.specs.Judging.{entry_of}
use Rattle.zy_base.specs.Machine.{Rules}
use Rattle.zy_base.specs.declared.ids.Party.TheVariants.{Client, Replica}
use Rattle.zy_calm_rows.proofs.ClientRows.{ask_row}
use Rattle.zy_calm_rows.specs.Waiting.{Answered, AreOf, Awaits}
use Rattle.zy_chain.specs.Entries.{digest_of_entry}
use Rattle.zy_exec.specs.Replay.{Point, known_of}
use Rattle.zy_frames.specs.Frames.{spelling}
use Rattle.zy_frames.specs.declared.frame.Frame.TheVariants as frames
use Rattle.zy_parts.specs.Numbers as numbers
use Rattle.zy_parts.specs.Statements as statements
use Rattle.zy_parts.specs.Statements.{ask_fields}
use Rattle.zy_parts.specs.declared.signed.Signed.{Signed}
use Rattle.zy_parts.specs.declared.statements.Ask.{Ask}
use Rattle.zy_seal.specs.Sealing.{SealerState, left_of, sealed_by, signatures_by, spent_one}
use Rattle.zy_table.specs.ClientRows.{ask as client_ask, asked, next_ask}
use Rattle.zy_table.specs.ClientState.{ClientState, client_outgoing, signs_left}
use Rattle.zy_table.specs.declared.client.Response.{Response}
use Rattle.zy_world_law.specs.Setup.{Setup, sealer_of}
use Rattle.zy_calm.proofs.Asking.{MayRun, asked_for, given}
use Rattle.zy_calm.proofs.Receiving.{IsClientOf}
use Rattle.zy_calm.proofs.Queue.{Hears}
use Rattle.zy_calm.proofs.Round.{answer}

-- ---- a client that has just asked

none_kept : (a : Answered) (n id : ℕ) → AreOf a id (replicate n None)
none_kept a zero id = tt
none_kept a (suc n) id = none_kept a n (suc id)

abbrev no_slots : ℕ → List (Option Response)
no_slots n = replicate n None

none_counted : (n : ℕ) → count_by is_some (no_slots n) ≡ 0
none_counted zero = refl
none_counted (suc n) = none_counted n

module _ {S : Type 0} (R : Rules S) (s : Setup) (p : Point S) (client stamp used : ℕ) (op : List ℕ) (may : MayRun R s p client stamp used op) (c : ClientState) (of : IsClientOf s client stamp c) (idle : c.waiting ≡ None) where
  abbrev pub ask : Signed Ask
  ask = asked_for R s p client stamp used op

  signed_so : sealed_by numbers.ask ask_fields c.sealer (next_ask c op) ≡ ask
  signed_so =
      ap (λ (x : SealerState). sealed_by numbers.ask ask_fields x (next_ask c op)) of.sealer
      ∙ ap (λ t. sealed_by numbers.ask ask_fields (sealer_of s (Client (record { 0 = client })) stamp) (record { stamp = record { 0 = t.0 + 1 }; op = op })) of.stamp

  abbrev pub after_ask : ClientState
  after_ask = (asked c (next_ask c op)).state

  pub asks_so : client_ask c op ≡ asked c (next_ask c op)
  asks_so =
      let left : signs_left c ≡ signatures_by s.height - stamp = ap left_of of.sealer in
      ask_row c op idle (omega (arith, left, may.stamp_left))

  pub of_after_ask : IsClientOf s client (stamp + 1) after_ask
  of_after_ask =
      record {
        me = of.me;
        counts = of.counts;
        keys = of.keys;
        view = of.view;
        stamp = ap (λ t. record { 0 = t.0 + 1 }) of.stamp;
        sealer = ap spent_one of.sealer;
      }

  pub awaits_first : Awaits after_ask ask (answer R s p client ask (given R s p client stamp used op)) 0
  awaits_first =
      record {
        waiting = ap Some signed_so;
        answer = record {
          replicas = subst (λ counts. 1 ≤ counts.n) (sym of.counts) may.some;
          view = refl;
          client = sym of.me;
          stamp = refl;
          reply = refl;
          by = refl;
          ordered = ap (λ me. record { view = record { 0 = 0 }; place = (known_of R p (entry_of ask)).place; head = (known_of R p (entry_of ask)).head; request = digest_of_entry (statements.entry_of me ask.stmt) }) (sym of.me);
        };
        slots = length-replicate c.counts.n None;
        kept = none_kept _ c.counts.n 0;
        count = none_counted c.counts.n;
        commit = refl;
      }

  -- its request goes to the primary
  pub ask_sent : (hears : Hears) → hears (Replica (record { 0 = 0 })) ≡ true
      → filter (λ z. hears z.0) (client_outgoing after_ask.counts.n (asked c (next_ask c op)).sent) ≡ (Replica (record { 0 = 0 }), spelling (frames.Request ask)) ∷ []
  ask_sent hears first =
      let n : ℕ = c.counts.n in
      let some : 1 ≤ n = subst (λ counts. 1 ≤ counts.n) (sym of.counts) may.some in
      let lead : 0 % n ≡ 0 = mod-eq_of_lt some in
      ap (λ (x : Signed Ask). filter (λ z. hears z.0) ((Replica (record { 0 = c.known_view.0 % n }), spelling (frames.Request x)) ∷ [])) signed_so
      ∙ ap (λ v. filter (λ z. hears z.0) ((Replica (record { 0 = v.0 % n }), spelling (frames.Request ask)) ∷ [])) of.view
      ∙ ap (λ (i : ℕ). filter (λ z. hears z.0) ((Replica (record { 0 = i }), spelling (frames.Request ask)) ∷ [])) lead
      ∙ ap (λ (b : Bool). cond b ((Replica (record { 0 = 0 }), spelling (frames.Request ask)) ∷ []) []) first
