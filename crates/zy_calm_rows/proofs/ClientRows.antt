-- What a client makes of a request of its own, of responses, of its timer and of local commits in a calm run.
use Rattle.std.proofs.Common.{◌≡◌, ℕ, ◌+◌, ◌%◌, ◌<◌, ◌≤◌, Bool, true, false, List, [], ◌∷◌, ◌++◌, length, take, Option, Some, None, refl, sym, ap, ◌∙◌, subst, arith, le-leb}
use Rattle.std.proofs.Math.Nat.{mod-eq_of_lt}
use Rattle.std.proofs.lemmas.Bool.{eq-eqb, le-ltb, lt-leb, ne_eqb}
use Rattle.std.proofs.lemmas.List.{length-set, length-take-le}
use Rattle.std.specs.List.{filter_map, find}
use Rattle.std.specs.Prelude.{is_some, count_by, nat_eq, nat_lt, unwrap_or, if◌then◌else◌, ◌&&◌}
use Rattle.zy_base.specs.declared.cause.Cause.{Cause}
use Rattle.zy_base.specs.declared.cause.Cause.TheVariants as causes
use Rattle.zy_base.specs.declared.ids.ClientId.{ClientId}
use Rattle.zy_base.specs.declared.ids.Digest.{Digest}
use Rattle.zy_base.specs.declared.ids.Party.{Party}
use Rattle.zy_base.specs.declared.ids.Party.TheVariants.{Replica}
use Rattle.zy_base.specs.declared.ids.Stamp.{Stamp}
use Rattle.zy_base.specs.declared.ids.View.{View}
use Rattle.zy_cert.specs.Equal.{digest-equal, same_digest, same_local}
use Rattle.zy_cert.specs.Signers.{has_other}
use Rattle.zy_cert.specs.Votes.{Poll, answer_to, counted, poll_after}
use Rattle.zy_cert.specs.declared.votes.Vote.TheVariants.{Counted, Full, Mixed, Repeat}
use Rattle.zy_chain.specs.Answers.{digest_of_answers}
use Rattle.zy_chain.specs.Entries.{digest_of_entry}
use Rattle.zy_parts.specs.Statements.{entry_of}
use Rattle.zy_parts.specs.declared.signed.Signed.{Signed}
use Rattle.zy_parts.specs.declared.statements.Ask.{Ask}
use Rattle.zy_parts.specs.declared.statements.Local.{Local}
use Rattle.zy_parts.specs.declared.statements.Order.{Order}
use Rattle.zy_parts.specs.declared.statements.Spec.{Spec}
use Rattle.zy_base.specs.declared.step.Event.TheVariants.{Timer}
use Rattle.zy_base.specs.declared.step.TimerKind.TheVariants as timers
use Rattle.zy_table.specs.ClientRows.{agreeing, ask, ask_or_commit, ask_while, asked, certificate_of, client_step, complete, complete_by, completed_if, count_local, equal_in, evidence_by, evidence_with, hear_response, is_by_primary, is_certified, is_for, is_own_order, is_own_order_if, keep, keep_unless, kept_of, local_beside, local_while, locals_for, next_ask, respond, respond_while, response_cause, run_out, run_out_while, send_commit, told, vote_on}
use Rattle.zy_table.specs.ClientState.{ClientState, refused, signs_left, taken}
use Rattle.zy_table.specs.Roles.{is_primary_of}
use Rattle.zy_table.specs.declared.client.Commit.{Commit}
use Rattle.zy_table.specs.declared.client.Response.{Response}
use Rattle.zy_calm_rows.proofs.ClientSlots.{IsFound, all_agree, as_many, certifies, count_more, first_found, kept_more, none_contradicts, rise_taken, rising}
use Rattle.zy_calm_rows.specs.Waiting.{Answered, AreOf, Awaits, IsAnswer, IsCertificateOf, IsFresh, IsOf, commit_with}

same_itself : (d : Digest) → same_digest d d ≡ true
same_itself d = (digest-equal d d).1 refl

-- ---- asking

pub ask_row : (c : ClientState) (op : List ℕ) → c.waiting ≡ None → 1 ≤ signs_left c → ask c op ≡ asked c (next_ask c op)
unfolding ask
ask_row c op idle left =
    ap (λ (w : Option (Signed Ask)). ask_while c w op) idle
    ∙ ap (λ (b : Bool). if b then asked c (next_ask c op) else refused causes.KeySpent c) (le-leb 1 (signs_left c) left)

-- ---- what comes too late

pub late_response : (c : ClientState) (r : Response) (id : ℕ) → c.waiting ≡ None → is_by_primary c r.order ≡ true → hear_response c r (Replica (record { 0 = id })) ≡ refused causes.Finished c
unfolding respond
late_response c r id idle primary =
    ap (λ (b : Bool). if b then respond c id r else refused causes.WrongRole c) primary
    ∙ ap (λ (w : Option (Signed Ask)). respond_while c w id r) idle

pub late_local : (c : ClientState) (vote : Signed Local) → c.waiting ≡ None → count_local c vote ≡ refused causes.Finished c
unfolding count_local
late_local c vote idle = ap (λ (w : Option (Signed Ask)). local_while c w vote) idle

-- the primary of the first view
pub by_first : (c : ClientState) (o : Signed Order) → 1 ≤ c.counts.n → o.by ≡ Replica (record { 0 = 0 }) → o.stmt.view ≡ record { 0 = 0 } → is_by_primary c (Some o) ≡ true
by_first c o some by view =
    let first : 0 % c.counts.n ≡ 0 = mod-eq_of_lt some in
    ap (λ (v : View). is_primary_of c.counts v.0 o.by) view ∙ ap (λ (p : Party). is_primary_of c.counts 0 p) by ∙ eq-eqb (0 % c.counts.n) 0 first

-- ---- a response

module _ (c : ClientState) (waiting : Signed Ask) (a : Answered) (count id : ℕ) (r : Response) (awaits : Awaits c waiting a count) (of : IsOf a id r)
    (inside : id < c.counts.n) (free : kept_of c id ≡ None) where
  answer : IsAnswer c waiting a
  answer = awaits.answer

  abbrev kept : ClientState
  kept = keep c id r

  view_is : a.order.stmt.view ≡ record { 0 = 0 }
  view_is = ap (λ (o : Order). o.view) answer.ordered ∙ answer.view

  abbrev expected : Order
  expected = record { view = a.spec.view; place = a.spec.place; head = a.spec.head; request = digest_of_entry (entry_of c.me waiting.stmt) }

  all_four : (w x y z : Bool) → w ≡ true → x ≡ true → y ≡ true → z ≡ true → (w && (x && (y && z))) ≡ true
  all_four w x y z w_is x_is y_is z_is = rw (w_is, x_is, y_is, z_is) refl

  own : is_own_order_if c waiting a.spec (Some a.order) ≡ true
  own =
      ap (λ (o : Order). is_own_order c waiting a.spec o) answer.ordered
      ∙ all_four (nat_eq expected.view.0 a.spec.view.0) (nat_eq expected.place.0 a.spec.place.0) (same_digest expected.head a.spec.head)
      (same_digest expected.request (digest_of_entry (entry_of c.me waiting.stmt)))
      (eq-eqb a.spec.view.0 a.spec.view.0 refl) (eq-eqb a.spec.place.0 a.spec.place.0 refl) (same_itself a.spec.head) (same_itself expected.request)

  -- the response in the answer's own words
  abbrev as_answer : Signed Spec → Response
  as_answer spec = record { spec = spec; reply = a.reply; order = Some a.order }

  -- nothing stands against it
  module _ (spec : Signed Spec) (stmt : spec.stmt ≡ a.spec) where
    no_cause : response_cause c waiting id (as_answer spec) ≡ None
    no_cause =
        let same_client : nat_eq a.spec.client.0 c.me.0 ≡ true = eq-eqb a.spec.client.0 c.me.0 (ap (λ (x : ClientId). x.0) answer.client) in
        let stamps : a.spec.stamp.0 ≡ waiting.stmt.stamp.0 = ap (λ (x : Stamp). x.0) answer.stamp in
        let low : nat_lt a.spec.stamp.0 waiting.stmt.stamp.0 ≡ false = le-ltb a.spec.stamp.0 waiting.stmt.stamp.0 (omega arith) in
        let high : nat_lt waiting.stmt.stamp.0 a.spec.stamp.0 ≡ false = le-ltb waiting.stmt.stamp.0 a.spec.stamp.0 (omega arith) in
        let reply : same_digest (digest_of_answers a.reply) a.spec.reply ≡ true = (digest-equal _ _).1 (sym answer.reply) in
        ap (λ (x : Spec). response_cause c waiting id (as_answer (record spec { stmt = x }))) stmt
        ∙ rw (same_client, low, high, reply, own, free) refl

  heard : hear_response c r r.spec.by ≡ told (evidence_by kept r.order) (completed_if kept r)
  unfolding respond
  heard =
      ap (λ (p : Party). hear_response c r p) of.by
      ∙ ap (λ (o : Option (Signed Order)). if is_by_primary c o then respond c id r else refused causes.WrongRole c) of.order
      ∙ ap (λ (b : Bool). if b then respond c id r else refused causes.WrongRole c) (by_first c a.order answer.replicas answer.by view_is)
      ∙ ap (λ (w : Option (Signed Ask)). respond_while c w id r) awaits.waiting
      ∙ ap (λ (x : Option Cause). keep_unless x c id r)
      (ap (λ (x : Response). response_cause c waiting id x) same_response ∙ no_cause r.spec of.stmt)
    where
      same_response : r ≡ as_answer r.spec
      same_response = let same : ◌≡◌ {A = Response} (record { spec = r.spec; reply = r.reply; order = r.order }) (record { spec = r.spec; reply = a.reply; order = Some a.order }) = (let x = of.reply in let y = of.order in cc) in same

  inside_slots : id < length c.responses
  inside_slots = omega (arith, awaits.slots)

  kept_all : AreOf a 0 kept.responses
  kept_all = kept_more a 0 id c.responses r awaits.kept (subst (λ (n : ℕ). IsOf a n r) (let e : id ≡ 0 + id = omega arith in e) of)

  one_more : count_by is_some kept.responses ≡ count + 1
  one_more = count_more c.responses id r inside_slots free ∙ ap (λ (n : ℕ). n + 1) awaits.count

  agree : agreeing kept r.spec.stmt ≡ count + 1
  agree = ap (λ (x : Spec). agreeing kept x) of.stmt ∙ all_agree a 0 kept.responses kept_all ∙ one_more

  nothing_told : evidence_by kept r.order ≡ None
  nothing_told =
      ap (evidence_by kept) of.order
      ∙ ap (evidence_with kept a.order) (none_contradicts a 0 kept.responses kept_all)

  pub response_kept : count + 1 < c.counts.fast → hear_response c r r.spec.by ≡ taken kept
  response_kept few =
      heard
      ∙ ap (λ (e : Option (Signed Order × Signed Order)). told e (completed_if kept r)) nothing_told
      ∙ ap (λ (b : Bool). taken (if b then complete kept r else kept)) (lt-leb c.counts.fast (agreeing kept r.spec.stmt) (omega (arith, agree)))

  pub response_completes : c.counts.fast ≤ count + 1 → hear_response c r r.spec.by ≡ taken (complete kept r)
  response_completes enough =
      heard
      ∙ ap (λ (e : Option (Signed Order × Signed Order)). told e (completed_if kept r)) nothing_told
      ∙ ap (λ (b : Bool). taken (if b then complete kept r else kept)) (le-leb c.counts.fast (agreeing kept r.spec.stmt) (omega (arith, agree)))

  pub awaits_more : Awaits kept waiting a (count + 1)
  awaits_more =
      record {
        waiting = awaits.waiting;
        answer = record { replicas = answer.replicas; view = answer.view; client = answer.client; stamp = answer.stamp; reply = answer.reply; by = answer.by; ordered = answer.ordered };
        slots = length-set c.responses id (Some r) ∙ awaits.slots;
        kept = kept_all;
        count = one_more;
        commit = awaits.commit;
      }

-- ---- the timer

pub timer_step : (c : ClientState) → client_step c (Timer timers.Answer) ≡ run_out c
unfolding client_step
timer_step c = refl

module _ (c : ClientState) (waiting : Signed Ask) (a : Answered) (count : ℕ) (awaits : Awaits c waiting a count) (some : 1 ≤ c.counts.cert) (enough : c.counts.cert ≤ count) where
  is_enough : (n : ℕ) (r : Response) → IsOf a n r → is_certified c (Some r) ≡ true
  is_enough n r of =
      le-leb c.counts.cert (agreeing c r.spec.stmt)
      (let agree : agreeing c r.spec.stmt ≡ count_by is_some c.responses = ap (λ (x : Spec). agreeing c x) of.stmt ∙ all_agree a 0 c.responses awaits.kept in omega (arith, awaits.count))

  found : IsFound a (find (is_certified c) c.responses)
  found = first_found a (is_certified c) 0 c.responses awaits.kept refl is_enough (omega (arith, awaits.count))

  pub certificate : IsCertificateOf a c.counts.cert (certificate_of c a.spec)
  certificate =
      let all = filter_map (equal_in a.spec) c.responses in
      let long : length all ≡ count = as_many a 0 c.responses awaits.kept ∙ awaits.count in
      certifies a 0 c.counts.cert (take c.counts.cert all) (rise_taken a c.counts.cert 0 all (rising a 0 c.responses awaits.kept))
      (length-take-le c.counts.cert all (omega (arith, long))) some

  -- as many as it takes
  pub certificate_long : length (certificate_of c a.spec) ≡ c.counts.cert
  certificate_long =
      let all = filter_map (equal_in a.spec) c.responses in
      let long : length all ≡ count = as_many a 0 c.responses awaits.kept ∙ awaits.count in
      length-take-le c.counts.cert all (omega (arith, long))

  pub timer_row : run_out c ≡ send_commit c a.spec a.reply
  unfolding run_out
  timer_row =
      ap (run_out_while c) awaits.waiting
      ∙ ap (λ (o : Option (Option Response)). ask_or_commit c waiting (unwrap_or o None)) found.is
      ∙ ap (λ (x : Spec). send_commit c x found.response.reply) found.stmt
      ∙ ap (send_commit c a.spec) found.reply

  pub commit_kept : (send_commit c a.spec a.reply).state.commit ≡ Some (commit_with c.counts.local a [])
  commit_kept = ap (λ (o : Option Commit). Some (record { spec = a.spec; reply = a.reply; locals = locals_for c.counts.local a.spec o })) awaits.commit

-- ---- a local commit

module _ (c : ClientState) (waiting : Signed Ask) (a : Answered) (wanted : ℕ) (votes : List (Signed Local)) (vote : Signed Local) (waits : c.waiting ≡ Some waiting)
    (commit : c.commit ≡ Some (commit_with wanted a votes)) (fresh : IsFresh a votes vote) where
  abbrev poll : Poll Local
  poll = record { count = wanted; votes = votes }

  for_it : is_for a.spec vote.stmt ≡ true
  for_it =
      ap (is_for a.spec) fresh.stmt
      ∙ rw (eq-eqb a.spec.view.0 a.spec.view.0 refl, eq-eqb a.spec.place.0 a.spec.place.0 refl, same_itself a.spec.head) refl

  beside : count_local c vote ≡ vote_on c (commit_with wanted a votes) vote (answer_to same_local poll vote)
  unfolding count_local
  beside =
      ap (λ (w : Option (Signed Ask)). local_while c w vote) waits
      ∙ ap (λ (o : Option Commit). local_beside c o vote) commit
      ∙ ap (λ (b : Bool). if b then vote_on c (commit_with wanted a votes) vote (answer_to same_local poll vote) else refused causes.Unmatched c) for_it

  answers : answer_to same_local poll vote ≡ counted wanted (length votes + 1)
  answers =
      ap (λ (b : Bool). if b then Repeat else (if has_other same_local vote.stmt votes then Mixed else counted wanted (length votes + 1))) fresh.by
      ∙ ap (λ (b : Bool). if b then Mixed else counted wanted (length votes + 1)) fresh.same

  after : poll_after same_local poll vote ≡ record { count = wanted; votes = votes ++ vote ∷ [] }
  after =
      ap (λ (b : Bool). if b then poll else (if has_other same_local vote.stmt votes then poll else record poll { votes = votes ++ vote ∷ [] })) fresh.by
      ∙ ap (λ (b : Bool). if b then poll else record poll { votes = votes ++ vote ∷ [] }) fresh.same

  pub local_counted : length votes + 1 < wanted → count_local c vote ≡ taken (record c { commit = Some (commit_with wanted a (votes ++ vote ∷ [])) })
  local_counted few =
      beside
      ∙ ap (vote_on c (commit_with wanted a votes) vote) answers
      ∙ ap (λ (b : Bool). vote_on c (commit_with wanted a votes) vote (if b then Full else Counted (length votes + 1))) (ne_eqb (length votes + 1) wanted (λ same. omega arith))
      ∙ ap (λ (p : Poll Local). taken (record c { commit = Some (record { spec = a.spec; reply = a.reply; locals = p }) })) after

  pub local_completes : length votes + 1 ≡ wanted → count_local c vote ≡ taken (complete_by c (commit_with wanted a votes))
  local_completes all =
      beside
      ∙ ap (vote_on c (commit_with wanted a votes) vote) answers
      ∙ ap (λ (b : Bool). vote_on c (commit_with wanted a votes) vote (if b then Full else Counted (length votes + 1))) (eq-eqb (length votes + 1) wanted all)
