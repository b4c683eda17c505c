-- One request is served on the slow path.
use Rattle.std.proofs.Common.{◌≡◌, ℕ, zero, suc, ◌+◌, ◌-◌, ◌*◌, ◌<◌, ◌≤◌, Bool, true, false, List, [], ◌∷◌, ◌++◌, length, map, replicate, take, cond, Option, Some, None, refl, sym, ap, ◌∙◌, subst, arith, append-nil, append_assoc}
use Rattle.std.proofs.lemmas.Bool.{and_from}
use Rattle.std.proofs.lemmas.List.Elements.{All-from_recursion}
use Rattle.std.specs.List.{AllByRecursion, cons_option, filter, filter_map, list_all, range_with_len}
use Rattle.std.specs.Prelude.{slice_get, if◌then◌else◌}
use Rattle.zy_admit.specs.Judging.{entry_of}
use Rattle.zy_base.specs.Machine.{Rules}
use Rattle.zy_base.specs.declared.ids.Party.{Party}
use Rattle.zy_base.specs.declared.ids.Party.TheVariants.{Client, Replica}
use Rattle.zy_base.specs.declared.step.Answer.TheVariants.{Taken}
use Rattle.zy_base.specs.declared.step.Event.TheVariants.{Timer}
use Rattle.zy_base.specs.declared.step.TimerKind.TheVariants as timers
use Rattle.zy_calm_rows.proofs.ClientRows.{certificate, certificate_long, commit_kept, timer_row, timer_step}
use Rattle.zy_calm_rows.specs.Outcomes.{committed_calmly}
use Rattle.zy_calm_rows.specs.Waiting.{IsCertificateOf, commit_with, local_to}
use Rattle.zy_cert.specs.Equal.{same_spec}
use Rattle.zy_cert.specs.Signers.{has_signer}
use Rattle.zy_chain.specs.declared.entry.Entry.{Entry}
use Rattle.zy_exec.specs.Replay.{Point, step}
use Rattle.zy_frames.specs.Frames.{FitsFrame, spelling}
use Rattle.zy_frames.specs.declared.frame.Frame.TheVariants as frames
use Rattle.zy_parts.specs.Numbers as numbers
use Rattle.zy_parts.specs.Signing.{part_of, signed}
use Rattle.zy_parts.specs.Statements.{spec_fields}
use Rattle.zy_parts.specs.declared.signed.Signed.{Signed}
use Rattle.zy_parts.specs.declared.statements.Ask.{Ask}
use Rattle.zy_parts.specs.declared.statements.Local.{Local}
use Rattle.zy_parts.specs.declared.statements.Order.{Order}
use Rattle.zy_parts.specs.declared.statements.Spec.{Spec}
use Rattle.zy_schedule.specs.declared.line.Line.{Line}
use Rattle.zy_seal.specs.Sealing.{signatures_by}
use Rattle.zy_table.specs.ClientRows.{certificate_of, client_step, equal_in, send_commit}
use Rattle.zy_table.specs.ClientState.{ClientState, all_replicas, client_outgoing, is_waiting}
use Rattle.zy_table.specs.Roles.{is_replica}
use Rattle.zy_table.specs.Sending.{copies}
use Rattle.zy_table.specs.State.{State}
use Rattle.zy_table.specs.declared.client.Path.TheVariants.{Slow}
use Rattle.zy_table.specs.declared.client.Response.{Response}
use Rattle.zy_world_law.specs.Events.{client_note, happens}
use Rattle.zy_world_law.specs.Runs.{Rest, flow, goes_on, run}
use Rattle.zy_world_law.specs.Setup.{Setup, keys_of}
use Rattle.zy_world_law.specs.World as world
use Rattle.zy_world_law.specs.World.{World, client_at, correct_in, next_undelivered}
use Rattle.zy_world_law.specs.declared.event.WorldEvent.TheVariants as events
use Rattle.zy_world_law.specs.declared.note.Note.{Note}
use Rattle.zy_world_law.specs.declared.note.Note.TheVariants as notes
use Rattle.zy_world_law.specs.declared.note.Note.TheVariants.{Quiet}
use Rattle.zy_calm.proofs.Answering.{AllKept, IsSound, all_kept}
use Rattle.zy_calm.proofs.Asking.{heard_copies, to_replica}
use Rattle.zy_calm.proofs.Between.{AreUpTo, IsAsker, IsBetween, is_live, place_after}
use Rattle.zy_calm.proofs.Committing.{IsCertificate, IsVote, commit_after, commit_sent, commit_taken, vote, vote_good}
use Rattle.zy_calm.proofs.Counting.{IsCounting, VotesServed, all_counted}
use Rattle.zy_calm.proofs.Genuine.{AreAccepted}
use Rattle.zy_calm.proofs.Happens.{client_timer_runs_out, still_hear_client}
use Rattle.zy_calm.proofs.Leads.{Leads, MayCome, flowed_out, joined, one_event, weaken}
use Rattle.zy_calm.proofs.Numbers.{AreDifferent, all_different, among_live, backups, backups_behind, is_in, live, live_live}
use Rattle.zy_calm.proofs.Queue.{Hears, none_next}
use Rattle.zy_calm.proofs.Receiving.{IsClientOf, late_at, new_client, same_client}
use Rattle.zy_calm.proofs.Round.{IsAt, IsRound, Stand, answer, moved}
use Rattle.zy_calm.proofs.Serving as serving
use Rattle.zy_calm.proofs.Serving.{IsFit, IsMachine, quiets}
use Rattle.zy_calm.proofs.Turns.{IsTurn, IsTurning, Stands, all_turn}
use Rattle.zy_calm.specs.Asks.{CalmAsk, lines_of}
use Rattle.zy_calm.specs.Calm.{IsCalmAsk}
use Rattle.zy_calm.specs.Entries.{asked_in, done_at, entry_after}
use Rattle.zy_calm.specs.Notes.{notes_of}

-- ---- lists

all_taken : {A : Type 0} (P : A → Type 0) (n : ℕ) (xs : List A) → AllByRecursion P xs → AllByRecursion P (take n xs)
all_taken P zero xs all = tt
all_taken P (suc n) [] all = tt
all_taken P (suc n) (x ∷ xs) all = (all.0, all_taken P n xs all.1)

-- of what is equal to a statement among the kept responses
equal_one : (P : Signed Spec → Type 0) (b : Bool) (x : Signed Spec) (rest : List (Signed Spec)) → P x → AllByRecursion P rest → AllByRecursion P (cons_option (if b then Some x else None) rest)
equal_one P true x rest one all = (one, all)
equal_one P false x rest one all = all

all_equal : (P : Signed Spec → Type 0) (spec : Spec) (slots : List (Option Response)) → AllKept (λ r. P r.spec) slots → AllByRecursion P (filter_map (equal_in spec) slots)
all_equal P spec [] all = tt
all_equal P spec (None ∷ slots) all = all_equal P spec slots all
all_equal P spec (Some r ∷ slots) all = equal_one P (same_spec r.spec.stmt spec) r.spec (filter_map (equal_in spec) slots) all.0 (all_equal P spec slots all.1)

-- ---- notes

slow_notes : (k count l : ℕ) (tail : List Note) → count ≡ 1 + k → Quiet ∷ (Quiet ∷ replicate k Quiet ++ replicate count Quiet) ++ (Quiet ∷ replicate count Quiet ++ (replicate l Quiet ++ tail)) ≡ replicate (2 + 3 * count + l) Quiet ++ tail
slow_notes k count l tail counted =
    ap (λ (ns : List Note). Quiet ∷ Quiet ∷ ns) (append_assoc (replicate k Quiet) (replicate count Quiet) (Quiet ∷ replicate count Quiet ++ (replicate l Quiet ++ tail)))
    ∙ quiets (suc (suc k)) count (Quiet ∷ replicate count Quiet ++ (replicate l Quiet ++ tail))
    ∙ ap (λ (ns : List Note). replicate (suc (suc k) + count) Quiet ++ ns) (quiets (suc count) l tail)
    ∙ quiets (suc (suc k) + count) (suc count + l) tail
    ∙ ap (λ (n : ℕ). replicate n Quiet ++ tail) (let same : suc (suc k) + count + (suc count + l) ≡ 2 + 3 * count + l = omega (arith, counted) in same)

-- ---- a certificate of sound responses

module _ (s : Setup) where
  all_fit : (specs : List (Signed Spec)) → AllByRecursion (IsSound s) specs → AllByRecursion (signed spec_fields).Fits specs
  all_fit [] all = tt
  all_fit (x ∷ specs) all = (all.0.fits, all_fit specs all.1)

  all_accepted : (specs : List (Signed Spec)) → AllByRecursion (IsSound s) specs → AreAccepted (keys_of s) (map (part_of numbers.spec spec_fields) specs)
  all_accepted [] all = tt
  all_accepted (x ∷ specs) all = (all.0.accepted, all_accepted specs all.1)

  all_replicas_say : (specs : List (Signed Spec)) → AllByRecursion (IsSound s) specs → list_all (λ spec. is_replica spec.by) specs ≡ true
  all_replicas_say [] all = refl
  all_replicas_say (x ∷ specs) all = and_from (is_replica x.by) (list_all (λ spec. is_replica spec.by) specs) all.0.role (all_replicas_say specs all.1)

  specs_fit : (specs : List (Signed Spec)) → 1 ≤ length specs → length specs ≤ 16 → AllByRecursion (IsSound s) specs → FitsFrame (frames.Commit specs)
  unfolding FitsFrame
  specs_fit specs least most all = record { least = least; most = most; each = All-from_recursion (signed spec_fields).Fits specs (all_fit specs all) }

module _ {S : Type 0} (R : Rules S) (s : Setup) (hears : Hears) (fit : IsFit s hears) (is_state : S → Type 0) (machine : IsMachine R is_state) (few_cert : s.counts.cert ≤ 9) (some_cert : 1 ≤ s.counts.cert) (some_local : 1 ≤ s.counts.local) where
  abbrev count : ℕ
  count = serving.count R s hears fit is_state machine

  module _ (a : CalmAsk) (before : List Entry) (calm : IsCalmAsk s a) (asker : IsAsker R s hears a.client.0) (inside : length before + 1 < s.interval)
      (lasts : 3 * (length before + 1) ≤ signatures_by s.height) (up_to : AreUpTo R before) (used : ℕ) (low : used ≤ 3 * length before) where
    abbrev client : ℕ
    client = a.client.0

    abbrev stamp : ℕ
    stamp = asked_in a.client before + 1

    abbrev p : Point S
    p = serving.p R s hears fit is_state machine a before calm asker inside lasts up_to

    abbrev ask : Signed Ask
    ask = serving.ask R s hears fit is_state machine a before calm asker inside lasts up_to

    abbrev order : Signed Order
    order = serving.order R s hears fit is_state machine a before calm asker inside lasts up_to used low

    abbrev round : IsRound R s p client ask order
    round = serving.round R s hears fit is_state machine a before calm asker inside lasts up_to used low

    abbrev stand_ran : Stand S
    stand_ran = serving.stand_after R s hears fit is_state machine a before calm asker inside lasts up_to used low

    abbrev stand_told : Stand S
    stand_told = record { point = step R p (entry_of ask); used = 3 * length before + 3; told = length before + 1 }

    abbrev HaveRun : Stand S → List (Option (world.Replica S)) → Type 0
    HaveRun = serving.HaveRun R s hears fit is_state machine a before calm asker inside lasts up_to used low

    abbrev IsOtherIdle : ℕ → Option world.Client → Type 0
    IsOtherIdle = serving.IsOtherIdle R s hears fit is_state machine a before calm asker inside lasts up_to used low

    abbrev Answering : World S → ℕ → List (ℕ × Response) → Type 0
    Answering = serving.Answering R s hears fit is_state machine a before calm asker inside lasts up_to used low

    abbrev the_live : List ℕ
    the_live = live (is_live R s hears) s.counts.n

    -- ---- the timer

    module _ (specs : List (Signed Spec)) where
      -- its client, which waits for local commits
      pub record IsToldOf (clients : List (Option world.Client)) : Type 0 where
        pub asking : world.Client
        pub there : correct_in (slice_get clients client) ≡ Some asking
        pub of : IsClientOf s client stamp asking.state
        pub waits : asking.state.waiting ≡ Some ask
        pub commit : asking.state.commit ≡ Some (commit_with s.counts.local (answer R s p client ask order) [])
        pub others : (id : ℕ) → (id ≡ client → ⊥) → IsOtherIdle id (correct_in (slice_get clients id))

      abbrev vote_from : ℕ × Signed Local → Party × List ℕ
      vote_from x = (Client (record { 0 = client }), spelling (frames.LocalCommit x.1))

      abbrev commit_bytes : List ℕ
      commit_bytes = spelling (frames.Commit specs)

      abbrev Committing : World S → List ℕ → List (ℕ × Signed Local) → Type 0
      Committing w todo votes = IsTurning R s hears (is_live R s hears) stand_ran stand_told commit_bytes (Signed Local) (IsVote R s p client ask order round specs) vote_from IsToldOf w todo votes

      takes_commit : IsCertificate R s p client ask order round specs → (id : ℕ) → id < s.counts.n → (state : State S) → IsAt R s stand_ran id state
          → IsTurn R s hears (is_live R s hears) stand_ran stand_told commit_bytes (Signed Local) (IsVote R s p client ask order round specs) vote_from id state
      takes_commit cert id inside_n state is =
          let left : stand_ran.used + 1 ≤ signatures_by s.height = omega (arith, lasts) in
          let untold : stand_ran.told < p.place + 1 = omega (arith, place_after R before) in
          let gets = vote R s p client ask order round specs cert stand_ran refl untold id inside_n state is left in
          record {
            outcome = committed_calmly R state specs (answer R s p client ask order).spec.client (local_to (answer R s p client ask order));
            step = commit_taken R s p client ask order round specs cert stand_ran refl untold id inside_n state is left;
            quiet = refl;
            at = moved _ stand_told (commit_after R s p client ask order round specs cert stand_ran refl untold id inside_n state is left) refl (omega arith) (omega (arith, place_after R before));
            gives = gets;
            good = vote_good R s p client ask order round specs cert stand_ran refl untold id inside_n state is left;
            sent = λ m n.
                ap (filter (λ z. hears z.0)) (commit_sent R s p client ask order round specs cert stand_ran refl untold id inside_n state is left m n)
                ∙ ap (λ (b : Bool). cond b (vote_from (id, gets) ∷ []) []) asker.1;
          }

    pub record IsCommitting (w : World S) : Type 0 where
      pub specs : List (Signed Spec)
      pub cert : IsCertificate R s p client ask order round specs
      pub is : Committing specs w the_live []

    first_different : AreDifferent the_live
    first_different = subst AreDifferent (sym (backups_behind (is_live R s hears) fit.first s.counts.n fit.some)) (all_different (is_live R s hears) fit.first s.counts.n fit.some)

    timer_runs_out : (w : World S) (kept : ℕ) → s.counts.cert ≤ kept → Answering w kept [] → MayCome (happens R w (events.Timer (Client a.client) timers.Answer)) Quiet IsCommitting
    timer_runs_out w kept enough is =
        let c = is.client'.state in
        let ans = answer R s p client ask order in
        let cert_is : c.counts.cert ≡ s.counts.cert = ap (λ counts. counts.cert) is.of.counts in
        let some_c : 1 ≤ c.counts.cert = omega (arith, cert_is, some_cert) in
        let enough_c : c.counts.cert ≤ kept = omega (arith, cert_is, enough) in
        let specs = certificate_of c ans.spec in
        let o = send_commit c ans.spec ans.reply in
        let certifies : IsCertificateOf ans s.counts.cert specs = subst (λ counts. IsCertificateOf ans counts.cert specs) is.of.counts (certificate c ask ans kept is.awaits some_c enough_c) in
        let sound : AllByRecursion (IsSound s) specs = all_taken (IsSound s) c.counts.cert (filter_map (equal_in ans.spec) c.responses) (all_equal (IsSound s) ans.spec c.responses is.sound) in
        let long : length specs ≡ c.counts.cert = certificate_long c ask ans kept is.awaits some_c enough_c in
        let cert : IsCertificate R s p client ask order round specs = record {
          certifies = certifies;
          fits = specs_fit s specs (omega (arith, long, some_c)) (omega (arith, long, cert_is, few_cert)) sound;
          accepted = all_accepted s specs sound;
          role = all_replicas_say s specs sound;
        } in
        let row : client_step c (Timer timers.Answer) ≡ o = timer_step c ∙ timer_row c ask ans kept is.awaits some_c enough_c in
        let note : client_note a.client (if is_waiting c.waiting then (if is_waiting c.waiting then None else c.done) else None) Taken ≡ Quiet =
        ap (λ (waits : Option (Signed Ask)). client_note a.client (if is_waiting waits then (if is_waiting waits then None else c.done) else None) Taken) is.awaits.waiting in
        let bytes = spelling (frames.Commit specs) in
        let sent : filter (λ z. hears z.0) (client_outgoing c.counts.n o.sent) ≡ map (to_replica hears bytes) the_live =
        ap (filter (λ z. hears z.0)) (append-nil (copies bytes (all_replicas c.counts.n)))
        ∙ heard_copies hears bytes (range_with_len 0 c.counts.n)
        ∙ ap (λ counts. map (to_replica hears bytes) (filter (is_live R s hears) (range_with_len 0 counts.n))) is.of.counts in
        subst (λ (n : Note). MayCome (happens R w (events.Timer (Client a.client) timers.Answer)) n IsCommitting) note
        (weaken (client_timer_runs_out R hears w client [] is.client' o is.around.left is.there row)
        (λ v both.
        let next = both.0 in
        record {
          specs = specs;
          cert = cert;
          is = record {
            hear = still_hear_client hears w v client o.state is.client' is.around.hear is.there next;
            stand = λ id is_id inside_n.
                (let ran = is.around.replicas id is_id inside_n in
                let among : is_in the_live id ≡ true = among_live (is_live R s hears) s.counts.n id is_id inside_n in
                let stands : Stands R s v stand_ran id = record { replica = ran.replica; there = ap (λ (l : List (Option (world.Replica S))). correct_in (slice_get l id)) next.replicas ∙ ran.there; is = ran.is } in
                subst (λ (b : Bool). Stands R s v (if b then stand_ran else stand_told) id) (sym among) stands);
            live = live_live (is_live R s hears) s.counts.n;
            different = first_different;
            left = both.1 ∙ ap (map world.mail_to) (sent ∙ sym (append-nil (map (to_replica hears bytes) the_live)));
            good = tt;
            keeps = record {
              asking = next.client;
              there = new_client w v client o.state is.client' is.there next;
              of = subst (IsClientOf s client stamp) (sym next.state) (record { me = is.of.me; counts = is.of.counts; keys = is.of.keys; view = is.of.view; stamp = is.of.stamp; sealer = is.of.sealer });
              waits = ap (λ (d : ClientState). d.waiting) next.state ∙ is.awaits.waiting;
              commit = ap (λ (d : ClientState). d.commit) next.state ∙ commit_kept c ask ans kept is.awaits some_c enough_c ∙ ap (λ counts. Some (commit_with counts.local ans [])) is.of.counts;
              others = λ id other. subst (IsOtherIdle id) (sym (same_client w v client id o.state next other)) (is.around.others id other);
            };
          };
        }))

    -- ---- the flow before it

    abbrev j : ℕ
    j = length (backups (is_live R s hears) s.counts.n)

    counted : count ≡ 1 + j
    counted = serving.counted R s hears fit is_state machine a before calm asker inside lasts up_to used low

    none_left : (kept : ℕ) (w : World S) → Answering w kept [] → next_undelivered w ≡ None
    none_left kept w is = none_next hears w is.around.hear is.around.left

    all_quiet_before : count < s.counts.fast → count ≤ s.counts.n → (w : World S) (asked : serving.IsAsked R s hears fit is_state machine a before calm asker inside lasts up_to w) → asked.primary.is.used ≡ used → (all : ℕ) (rest : Rest S) → 2 * s.counts.n ≤ all
        → Leads (flow R all rest w) (Quiet ∷ replicate j Quiet ++ replicate count Quiet) rest (λ v. Answering v count [])
    all_quiet_before few within w asked its zero rest long = absurd (omega (arith, within, counted, long))
    all_quiet_before few within w asked its (suc all) rest long =
        let behind : ℕ = all - j in
        let n : ℕ = behind - count in
        let first = serving.request_step R s hears fit is_state machine a before calm asker inside lasts up_to used low w asked its all rest in
        joined _ (Quiet ∷ []) (replicate j Quiet ++ replicate count Quiet) (flow R all rest) rest _ _ first
        (λ v ordering. joined _ (replicate j Quiet) (replicate count Quiet) (flow R behind rest) rest _ _
        (serving.all_order R s hears fit is_state machine a before calm asker inside lasts up_to used low v ordering behind all rest (omega (arith, within, counted, long)))
        (λ u ordered. flowed_out R n rest _ (replicate count Quiet) (λ x. Answering x count []) (none_left count)
        (kept_all u ordered.given (ordered.long ∙ sym counted) ordered.is n behind rest (omega (arith, within, counted, long)))))
      where
        kept_all : (u : World S) (answers : List (ℕ × Response)) → length answers ≡ count → serving.Ordering R s hears fit is_state machine a before calm asker inside lasts up_to used low u [] answers → (n behind : ℕ) (rest : Rest S) → behind ≡ count + n
            → Leads (flow R behind rest u) (replicate count Quiet) (flow R n rest) (λ x. Answering x count [])
        kept_all u answers long_is is n behind rest same =
            subst (λ (k : ℕ). Leads (flow R behind rest u) (replicate k Quiet) (flow R n rest) (λ x. Answering x count [])) long_is
            (subst (λ (k : ℕ). Leads (flow R behind rest u) (replicate (length answers) Quiet) (flow R n rest) (λ x. Answering x k [])) (let e : 0 + length answers ≡ count = omega (arith, long_is) in e)
            (all_kept R s hears client stamp p ask order round (HaveRun stand_ran) IsOtherIdle answers u 0 (serving.answering_begins R s hears fit is_state machine a before calm asker inside lasts up_to used low u answers is)
            (omega (arith, long_is, few)) n behind rest (omega (arith, same, long_is))))

    -- ---- and behind it

    abbrev done_note : Note
    done_note = notes.Done a.client (done_at R Slow before (entry_after before a))

    abbrev vote_notes : List Note
    vote_notes = replicate (s.counts.local - 1) Quiet ++ done_note ∷ replicate (count - s.counts.local) (late_at client)

    abbrev Voted : List (Signed Spec) → World S → Type 0
    Voted specs w = VotesServed R s hears client stamp p ask order round specs (HaveRun stand_told) IsOtherIdle w []

    counting_begins : (specs : List (Signed Spec)) (w : World S) (votes : List (ℕ × Signed Local)) → Committing specs w [] votes → IsCounting R s hears client stamp p ask order round specs (HaveRun stand_told) IsOtherIdle w [] votes
    counting_begins specs w votes is =
        record {
          around = record {
            hear = is.hear;
            replicas = λ id is_id inside_n. (let st : Stands R s w stand_told id = is.stand id is_id inside_n in record { replica = st.replica; there = st.there; is = st.is });
            others = is.keeps.others;
            left = is.left;
            good = is.good;
          };
          asking = is.keeps.asking;
          there = is.keeps.there;
          of = is.keeps.of;
          waits = is.keeps.waits;
          commit = is.keeps.commit;
          fresh = none_counted votes;
          same = refl;
          different = subst AreDifferent (append-nil (map (λ (x : ℕ × Signed Local). x.0) votes)) is.different;
        }
      where
        none_counted : (votes : List (ℕ × Signed Local)) → AllByRecursion (λ (x : ℕ × Signed Local). has_signer {S = Local} (Replica (record { 0 = x.0 })) [] ≡ false) votes
        none_counted [] = tt
        none_counted (x ∷ votes) = (refl, none_counted votes)

    abbrev Again : World S → Type 0
    Again w = IsBetween R s hears w (before ++ entry_after before a ∷ [])

    all_told : s.counts.local ≤ count → count ≤ s.counts.n → (w : World S) → IsCommitting w → (all : ℕ) (rest : Rest S) → 2 * s.counts.n ≤ all → Leads (flow R all rest w) (replicate count Quiet ++ vote_notes) rest Again
    all_told enough within w is all rest long =
        let specs = is.specs in
        let behind : ℕ = all - count in
        let n : ℕ = behind - count in
        joined _ (replicate count Quiet) vote_notes (flow R behind rest) rest _ Again
        (all_turn R s hears (is_live R s hears) stand_ran stand_told (commit_bytes specs) (Signed Local) (IsVote R s p client ask order round specs) (vote_from specs) (takes_commit specs is.cert) (IsToldOf specs) the_live w [] is.is behind all rest (omega (arith, within, long)))
        (λ u turned. serving.weaker_end R s hears fit is_state machine a before calm asker inside lasts up_to used low
        (flowed_out R n rest _ vote_notes (Voted specs) (λ x served. none_next hears x served.around.hear served.around.left)
        (all_counted R s hears client stamp p ask order round specs (HaveRun stand_told) IsOtherIdle turned.given u [] (s.counts.local - 1) (count - s.counts.local) (counting_begins specs u turned.given turned.is)
        (omega (arith, some_local)) (omega (arith, turned.long, enough, some_local)) n behind rest (omega (arith, turned.long, within, long))))
        (λ x served. serving.calm_again R s hears fit is_state machine a before calm asker inside lasts up_to used low stand_told refl (omega arith) (omega arith) x served))

  module _ (a : CalmAsk) (before : List Entry) (calm : IsCalmAsk s a) (asker : IsAsker R s hears a.client.0) (inside : length before + 1 < s.interval)
      (lasts : 3 * (length before + 1) ≤ signatures_by s.height) (up_to : AreUpTo R before) where
    -- the ask, its flow, the timer, and its flow
    pub ask_served_slowly : count < s.counts.fast → s.counts.cert ≤ count → s.counts.local ≤ count → count ≤ s.counts.n → (w : World S) (more : List Line) → IsBetween R s hears w before
        → Leads (run R (lines_of Slow a ++ more) w) (notes_of R s.counts Slow count before (entry_after before a)) (run R more) (λ v. IsBetween R s hears v (before ++ entry_after before a ∷ []))
    unfolding run
    ask_served_slowly few certain enough within w more between =
        let k : ℕ = length (backups (is_live R s hears) s.counts.n) in
        let tail : List Note = notes.Done a.client (done_at R Slow before (entry_after before a)) ∷ replicate (count - s.counts.local) (late_at a.client.0) in
        let l : ℕ = s.counts.local - 1 in
        let Again = λ (v : World S). IsBetween R s hears v (before ++ entry_after before a ∷ []) in
        let rest : Rest S = run R more in
        let second : Rest S = flow R a.again rest in
        let timer : Rest S = λ v. goes_on (happens R v (events.Timer (Client a.client) timers.Answer)) second in
        let quiet_again : List Note = Quiet ∷ replicate count Quiet ++ (replicate l Quiet ++ tail) in
        let all_quiet : Quiet ∷ (Quiet ∷ replicate k Quiet ++ replicate count Quiet) ++ quiet_again ≡ replicate (2 + 3 * count + l) Quiet ++ tail = slow_notes k count l tail (serving.counted R s hears fit is_state machine a before calm asker inside lasts up_to 0 (omega arith)) in
        subst (λ (ns : List Note). Leads (run R (lines_of Slow a ++ more) w) ns rest Again) all_quiet
        (joined _ (Quiet ∷ []) ((Quiet ∷ replicate k Quiet ++ replicate count Quiet) ++ quiet_again) (flow R a.flow timer) rest _ Again
        (one_event _ Quiet (flow R a.flow timer) _ (serving.asked_next R s hears fit is_state machine a before calm asker inside lasts up_to w between))
        (λ v asked.
        let used : ℕ = asked.primary.is.used in
        let low : used ≤ 3 * length before = asked.primary.is.spent in
        joined _ (Quiet ∷ replicate k Quiet ++ replicate count Quiet) quiet_again timer rest _ Again
        (all_quiet_before a before calm asker inside lasts up_to used low few within v asked refl a.flow timer calm.flow)
        (λ u kept. joined _ (Quiet ∷ []) (replicate count Quiet ++ (replicate l Quiet ++ tail)) second rest _ Again
        (one_event _ Quiet second _ (timer_runs_out a before calm asker inside lasts up_to used low u count certain kept))
        (λ x committing. all_told a before calm asker inside lasts up_to used low enough within x committing a.again rest calm.again))))
