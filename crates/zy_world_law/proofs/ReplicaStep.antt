-- A step of a correct replica keeps a good world good.
use Rattle.std.proofs.Common.{◌≡◌, ◌≢◌, ℕ, ◌+◌, ◌-◌, inl, inr, Bool, List, [], ◌∷◌, ◌++◌, length, map, Option, Some, None, sym, ap, ◌∙◌, subst, arith}
use Rattle.std.specs.Prelude.{IfSome, slice_get, option_map, unwrap_or, is_none, Contains}
use Rattle.std.specs.List.{AllByRecursion}
use Rattle.std.proofs.lemmas.Bool.{cases_eq}
use Rattle.std.proofs.lemmas.List.{length-set}
use Rattle.std.proofs.lemmas.List.Elements.{Contains-append_left}
use Rattle.std.proofs.lemmas.Option.{same_Some}
use Rattle.zy_base.specs.Machine.{Rules}
use Rattle.zy_base.specs.declared.ids.Party.TheVariants as parties
use Rattle.zy_base.specs.declared.ids.ReplicaId.{ReplicaId}
use Rattle.zy_base.specs.declared.step.Event.{Event}
use Rattle.zy_law_views.specs.Steps.{IsLawfulStep, IsWorldOf}
use Rattle.zy_chain.specs.declared.entry.Entry.{Entry}
use Rattle.zy_law.proofs.ConductLemmas.{acts_conduct}
use Rattle.zy_law.proofs.GrownLemmas.{completed_grown}
use Rattle.zy_law.specs.Completed.{Completion, IsCompleted}
use Rattle.zy_law.specs.Conduct.{IsConduct}
use Rattle.zy_law.specs.Lawful.{IsLawful}
use Rattle.zy_law.specs.Steps.{IsGrown, grown}
use Rattle.zy_law.specs.World as law
use Rattle.zy_law.specs.World.{Stand}
use Rattle.zy_law_normal.proofs.TieLemmas.{lists_after}
use Rattle.zy_law_normal.specs.Acts.{acts_of, world_after, history_after, spoken_in, stands_in, with_more}
use Rattle.zy_law_steps.proofs.WholeSteps.{ready_after}
use Rattle.zy_law_steps.specs.Whole as whole
use Rattle.zy_law_steps.specs.Spelled.{FitAll, IsSpelled}
use Rattle.zy_parts.specs.declared.signed.Signed.{Signed}
use Rattle.zy_parts.specs.declared.statements.Order.{Order}
use Rattle.zy_table.specs.Deeds.{Outcome, said_from}
use Rattle.zy_table.specs.State.{State, own_view}
use Rattle.zy_table.specs.declared.client.Commit.{Commit}
use Rattle.zy_table.specs.declared.client.Response.{Response}
use Rattle.zy_law_views.specs.Rows.{IsReady}
use Rattle.zy_law_views.specs.Work.{IsAtWork}
use Rattle.zy_world_law.specs.Events.{stepped, with_replica, remark_after, history_of}
use Rattle.zy_world_law.specs.Good.{IsGood, IsTied, IsClientTied, IsBackedBy, IsCommitBacked, IsDone, IsOrderBacked}
use Rattle.zy_world_law.specs.Safe.{completion_of}
use Rattle.zy_world_law.specs.Seen.{seen, said_of, past_of, spoken_by}
use Rattle.zy_world_law.specs.World.{World, Replica, Client, Completed, Remark, replica_at, client_at, correct_in}
use Rattle.zy_world_law.proofs.CommitStays.{commit_later}
use Rattle.zy_world_law.proofs.Seats.{get_set, get_set_other, seat_of}
use Rattle.zy_world_law.proofs.StepLaws.{ReadsBack}
use Rattle.zy_world_law.proofs.StillReady.{still_ready, still_works}
use Rattle.zy_world_law.proofs.ToldSteps.{own_more, other_more, more_kept, map_append, spoken_told}

-- ---- a tied replica's last stand

tied_history : {S : Type 0} (R : Rules S) (interval : ℕ) (u : law.World) (r : ℕ) (s : State S) (h : List Entry) (past : List Stand) → IsReady R interval u r s h → u.past r ≡ past → history_of past ≡ h
tied_history R interval u r s h past ready is =
    let x = ready.tied.standing in
    let before : length (u.past r) - 1 ≡ x.number = omega (arith, x.last) in
    ap (λ (p : List Stand). unwrap_or (option_map (λ (b : Stand). b.history) (slice_get p (length p - 1))) []) (sym is)
    ∙ ap (λ (n : ℕ). unwrap_or (option_map (λ (b : Stand). b.history) (slice_get (u.past r) n)) []) before
    ∙ ap (λ (o : Option Stand). unwrap_or (option_map (λ (b : Stand). b.history) o) []) x.stood

-- A step from this history is lawful, and what it says and keeps can be spelled.
pub record IsFineStep {S : Type 0} (R : Rules S) (w : World S) (id : ℕ) (x : Replica S) (event : Event) (history : List Entry) (o : Outcome S) : Type 0 where
  pub lawful : IsLawfulStep R w.setup.interval w.texts (seen R w) id x.state history o
  pub fit : FitAll o.deeds.acts
  pub spelled : IsSpelled o.state
  pub keys : o.state.keys ≡ x.state.keys
  -- so the world sees it
  pub stands : stands_in (own_view x.state) (whole.history_of w.texts x.state (history_of x.past) event o) o.deeds.acts ≡ stands_in (own_view x.state) history o.deeds.acts

module _ {S : Type 0} (R : Rules S) (back : ReadsBack) (w : World S) (good : IsGood R w) (id : ReplicaId) (x : Replica S) (at : replica_at w id.0 ≡ Some x) (event : Event) (history : List Entry) (o : Outcome S)
    (fine : IsFineStep R w id.0 x event history o) where
  abbrev interval : ℕ
  interval = w.setup.interval

  abbrev v : law.World
  v = seen R w

  abbrev s : State S
  s = x.state

  abbrev h : List Entry
  h = history_of x.past

  abbrev x' : Replica S
  x' = stepped w.texts event x o

  abbrev w' : World S
  w' = with_replica w id x'

  tie : IsTied R w id.0 x
  tie = good.tied id.0 x at

  seat : slice_get w.replicas id.0 ≡ Some (Some x)
  seat = seat_of (slice_get w.replicas id.0) x at

  -- ---- what the law sees of the world after it

  abbrev new_said : List law.Spoken
  new_said = spoken_in id.0 (length (v.past id.0) - 1) o.deeds.acts

  abbrev new_stands : List Stand
  new_stands = stands_in (own_view s) history o.deeds.acts

  own_seat : replica_at w' id.0 ≡ Some x'
  own_seat = ap (λ (o : Option (Option (Replica S))). correct_in o) (get_set w.replicas id.0 (Some x') (Some x) seat)

  other_seat : (q : ℕ) → q ≢ id.0 → replica_at w' q ≡ replica_at w q
  other_seat q other = ap (λ (o : Option (Option (Replica S))). correct_in o) (get_set_other w.replicas id.0 q (Some x') other)

  told : map (spoken_by id.0) (map (remark_after x.past) (said_from (parties.Replica o.state.me) 0 o.deeds.acts)) ≡ new_said
  told =
      let number : length x.past - 1 + 0 ≡ length (v.past id.0) - 1 = omega (arith, ap (λ (o : Option (Replica S)). length (past_of o)) at) in
      spoken_told back (parties.Replica o.state.me) id.0 x.past 0 o.deeds.acts fine.fit ∙ ap (λ (n : ℕ). spoken_in id.0 n o.deeds.acts) number

  liars_same : (q : ℕ) → v.liar q ≡ is_none (replica_at w' q)
  liars_same q = elim (cases_eq q id.0) [
    | inl same ↦ subst (λ (q : ℕ). is_none (replica_at w q) ≡ is_none (replica_at w' q)) (sym same)
        (ap (λ (o : Option (Replica S)). is_none o) at ∙ sym (ap (λ (o : Option (Replica S)). is_none o) own_seat))
    | inr other ↦ ap (λ (o : Option (Replica S)). is_none o) (sym (other_seat q other))
  ]

  said_same : (q : ℕ) → with_more v.said id.0 new_said q ≡ said_of q (replica_at w' q)
  said_same q = elim (cases_eq q id.0) [
    | inl same ↦ subst (λ (q : ℕ). with_more v.said id.0 new_said q ≡ said_of q (replica_at w' q)) (sym same)
        (own_more v.said id.0 new_said
        ∙ ap (λ (o : Option (Replica S)). said_of id.0 o ++ new_said) at
        ∙ ap (λ (l : List law.Spoken). map (spoken_by id.0) x.said ++ l) (sym told)
        ∙ sym (map_append (spoken_by id.0) x.said (map (remark_after x.past) (said_from (parties.Replica o.state.me) 0 o.deeds.acts)))
        ∙ ap (λ (o : Option (Replica S)). said_of id.0 o) (sym own_seat))
    | inr other ↦ other_more v.said id.0 new_said q other ∙ ap (λ (o : Option (Replica S)). said_of q o) (sym (other_seat q other))
  ]

  past_same : (q : ℕ) → with_more v.past id.0 new_stands q ≡ past_of (replica_at w' q)
  past_same q = elim (cases_eq q id.0) [
    | inl same ↦ subst (λ (q : ℕ). with_more v.past id.0 new_stands q ≡ past_of (replica_at w' q)) (sym same)
        (own_more v.past id.0 new_stands
        ∙ ap (λ (o : Option (Replica S)). past_of o ++ new_stands) at
        ∙ ap (λ (l : List Stand). x.past ++ l) (sym fine.stands)
        ∙ ap (λ (o : Option (Replica S)). past_of o) (sym own_seat))
    | inr other ↦ other_more v.past id.0 new_stands q other ∙ ap (λ (o : Option (Replica S)). past_of o) (sym (other_seat q other))
  ]

  abbrev built : (ℕ → Bool) → (ℕ → List law.Spoken) → (ℕ → List Stand) → law.World
  built liar said past =
      record {
        counts = v.counts;
        interval = v.interval;
        liar = liar;
        lying = v.lying;
        asked = v.asked;
        said = said;
        past = past;
        next = v.next;
        digest = v.digest;
        reply = v.reply;
        state = v.state;
        kept = v.kept;
      }

  abbrev later : law.World
  later = grown v v.asked (with_more v.said id.0 new_said) (with_more v.past id.0 new_stands) v.kept

  seen_is : later ≡ seen R w'
  seen_is =
      ap (λ (f : ℕ → Bool). built f (with_more v.said id.0 new_said) (with_more v.past id.0 new_stands)) (λ i q. liars_same q i)
      ∙ ap (λ (f : ℕ → List law.Spoken). built (seen R w').liar f (with_more v.past id.0 new_stands)) (λ i q. said_same q i)
      ∙ ap (λ (f : ℕ → List Stand). built (seen R w').liar (seen R w').said f) (λ i q. past_same q i)

  after_later : world_after v id.0 s history o ≡ later
  after_later = lists_after v id.0 (own_view s) (length (v.past id.0) - 1) history o.deeds.acts

  after_is : world_after v id.0 s history o ≡ seen R w'
  after_is = after_later ∙ seen_is

  -- ---- ties

  ready_after_all : IsReady R interval (world_after v id.0 s history o) id.0 o.state (history_after history o.deeds.acts)
  ready_after_all = ready_after R interval w.texts v id.0 s h history o tie.ready fine.lawful

  conduct_after : IsConduct (seen R w')
  conduct_after = subst IsConduct after_is (acts_conduct v id.0 (acts_of v id.0 s history o) good.conduct fine.lawful.may)

  own_ready : IsReady R interval (seen R w') id.0 o.state (history_of x'.past)
  own_ready =
      let there : IsReady R interval (seen R w') id.0 o.state (history_after history o.deeds.acts) =
      subst (λ (u : law.World). IsReady R interval u id.0 o.state (history_after history o.deeds.acts)) after_is ready_after_all in
      let last : history_of x'.past ≡ history_after history o.deeds.acts =
      tied_history R interval (seen R w') id.0 o.state (history_after history o.deeds.acts) x'.past there (ap (λ (o : Option (Replica S)). past_of o) own_seat) in
      subst (λ (l : List Entry). IsReady R interval (seen R w') id.0 o.state l) (sym last) there

  own_after : IsTied R w' id.0 x'
  own_after =
      record {
        ready = own_ready;
        works = subst (λ (u : law.World). IsAtWork interval u id.0 o.state) after_is (fine.lawful.works tie.works);
        keys = fine.keys ∙ tie.keys;
        spelled = fine.spelled;
      }

  grows : IsGrown v v.asked (with_more v.said id.0 new_said) (with_more v.past id.0 new_stands) v.kept
  grows =
      record {
        asks = λ q e has. has;
        says = λ q i y has. more_kept v.said id.0 new_said q i y has;
        stands = λ q i y has. more_kept v.past id.0 new_stands q i y has;
        keeps = λ d e is. is;
      }

  other_after : (q : ℕ) (y : Replica S) → q ≢ id.0 → replica_at w q ≡ Some y → IsTied R w' q y
  other_after q y other y_at =
      let before = good.tied q y y_at in
      let told : with_more v.said id.0 new_said q ≡ v.said q = other_more v.said id.0 new_said q other in
      let stood : with_more v.past id.0 new_stands q ≡ v.past q = other_more v.past id.0 new_stands q other in
      let lawful : IsLawful later = subst IsLawful after_later ready_after_all.lawful in
      record {
        ready = subst (λ (u : law.World). IsReady R interval u q y.state (history_of y.past)) seen_is
            (still_ready R v v.asked (with_more v.said id.0 new_said) (with_more v.past id.0 new_stands) v.kept grows interval q y.state told stood (history_of y.past) lawful before.ready);
        works = subst (λ (u : law.World). IsAtWork interval u q y.state) seen_is
            (still_works R v v.asked (with_more v.said id.0 new_said) (with_more v.past id.0 new_stands) v.kept grows interval q y.state told stood before.works);
        keys = before.keys;
        spelled = before.spelled;
      }

  tied_after : (q : ℕ) (y : Replica S) → replica_at w' q ≡ Some y → IsTied R w' q y
  tied_after q y y_at = elim (cases_eq q id.0) [
    | inl same ↦
        let is : x' ≡ y = same_Some x' y (sym own_seat ∙ ap (λ (q : ℕ). replica_at w' q) (sym same) ∙ y_at) in
        subst (λ (q : ℕ). IsTied R w' q y) (sym same) (subst (λ (z : Replica S). IsTied R w' id.0 z) is own_after)
    | inr other ↦ other_after q y other (sym (other_seat q other) ∙ y_at)
  ]

  -- ---- clients and completions

  abbrev HasText : World S → ℕ → List ℕ → Type 0
  HasText u number text = (y : Replica S) × (replica_at u number ≡ Some y) × Contains (map (λ (remark : Remark). remark.text) y.said) text

  text_after : (number : ℕ) (text : List ℕ) → HasText w number text → HasText w' number text
  text_after number text (y, y_at, has) = elim (cases_eq number id.0) [
    | inl same ↦
        let is : y ≡ x = same_Some y x (sym y_at ∙ ap (λ (q : ℕ). replica_at w q) same ∙ at) in
        let own : Contains (map (λ (remark : Remark). remark.text) x.said) text = subst (λ (z : Replica S). Contains (map (λ (remark : Remark). remark.text) z.said) text) is has in
        let new : List Remark = map (remark_after x.past) (said_from (parties.Replica o.state.me) 0 o.deeds.acts) in (
          x',
          ap (λ (q : ℕ). replica_at w' q) same ∙ own_seat,
          subst (λ (l : List (List ℕ)). Contains l text) (sym (map_append (λ (remark : Remark). remark.text) x.said new))
              (Contains-append_left (map (λ (remark : Remark). remark.text) x.said) (map (λ (remark : Remark). remark.text) new) text own),
        )
    | inr other ↦ (y, other_seat number other ∙ y_at, has)
  ]

  nobody_after : (number : ℕ) → replica_at w number ≡ None → replica_at w' number ≡ None
  nobody_after number none = elim (cases_eq number id.0) [
    | inl same ↦ let both : Some x ≡ None = sym at ∙ ap (λ (q : ℕ). replica_at w q) (sym same) ∙ none in absurd cc
    | inr other ↦ other_seat number other ∙ none
  ]

  ordered_after : (order : Option (Signed Order)) → IfSome order (IsOrderBacked w) → IfSome order (IsOrderBacked w')
  ordered_after None is = tt
  ordered_after (Some order) is =
      record { signer = is.signer; by = is.by; leads = is.leads; said = elim is.said [ inl none ↦ inl (nobody_after is.signer.0 none) | inr has ↦ inr (text_after is.signer.0 _ has) ] }

  backed_after : (number : ℕ) (r : Response) → IsBackedBy w number r → IsBackedBy w' number r
  backed_after number r b =
      record {
        within = b.within;
        said = elim b.said [ inl none ↦ inl (nobody_after number none) | inr has ↦ inr (text_after number _ has) ];
        reply = b.reply;
        ordered = ordered_after r.order b.ordered;
        spelled = b.spelled;
      }

  commit_after : (c : Commit) → IsCommitBacked v w.texts c → IsCommitBacked (seen R w') w.texts c
  commit_after c is =
      subst (λ (u : law.World). IsCommitBacked u w.texts c) seen_is
      (commit_later v v.asked (with_more v.said id.0 new_said) (with_more v.past id.0 new_stands) v.kept (λ q e has. has)
      (λ q i y has. more_kept v.said id.0 new_said q i y has) (λ q i y has. more_kept v.past id.0 new_stands q i y has) w.texts w.texts (λ d text kept. kept) c is)

  client_after : (q : ℕ) (y : Client) → client_at w' q ≡ Some y → IsClientTied R w' q y
  client_after q y y_at =
      let before = good.client_tied q y y_at in
      record {
        me = before.me;
        counts = before.counts;
        keys = before.keys;
        holds = before.holds;
        backed = λ number r is. backed_after number r (before.backed number r is);
        committed = λ waiting c waits held. commit_after c (before.committed waiting c waits held);
      }

  completed_after : (c : Completion) → IsCompleted v c → IsCompleted (seen R w') c
  completed_after c is =
      subst (λ (u : law.World). IsCompleted u c) seen_is
      (completed_grown v v.asked (with_more v.said id.0 new_said) (with_more v.past id.0 new_stands) v.kept (λ q e has. has)
      (λ q i y has. more_kept v.said id.0 new_said q i y has) (λ q i y has. more_kept v.past id.0 new_stands q i y has) c is)

  done_after : (c : Completed) → IsDone R w c → IsDone R w' c
  done_after c is = record { client = is.client; correct = is.correct; completed = completed_after (completion_of c) is.completed; reply = is.reply }

  all_done : (done : List Completed) → AllByRecursion (IsDone R w) done → AllByRecursion (IsDone R w') done
  all_done [] all = tt
  all_done (c ∷ done) all = (done_after c all.0, all_done done all.1)

  pub replica_good : IsGood R w'
  replica_good =
      record {
        setup = good.setup;
        replicas = length-set w.replicas id.0 (Some x') ∙ good.replicas;
        clients = good.clients;
        conduct = conduct_after;
        kept = subst (λ (u : law.World). IsWorldOf R interval u w.texts) after_is fine.lawful.world;
        tied = tied_after;
        client_tied = client_after;
        done = all_done w.done good.done;
      }
