-- A step of a correct client keeps a good world good.
use Rattle.std.proofs.Common.{◌≡◌, ◌≢◌, inl, inr, ℕ, Bool, List, [], ◌∷◌, map, Option, Some, None, refl, sym, ap, ◌∙◌, subst}
use Rattle.std.specs.Prelude.{IfSome, is_none, Contains, slice_get}
use Rattle.std.specs.List.{AllByRecursion, filter_map}
use Rattle.std.proofs.lemmas.Bool.{cases_eq}
use Rattle.std.proofs.lemmas.List.{length-set}
use Rattle.std.proofs.lemmas.List.Elements.{Contains-append_left, filter_map-append}
use Rattle.std.proofs.lemmas.Option.{same_Some}
use Rattle.zy_base.specs.Machine.{Rules}
use Rattle.zy_base.specs.declared.ids.ClientId.{ClientId}
use Rattle.zy_base.specs.declared.step.Spoken.{Spoken}
use Rattle.zy_law_views.specs.Steps.{IsWorldOf}
use Rattle.zy_chain.specs.declared.entry.Entry.{Entry}
use Rattle.zy_client.specs.Held.{Holds}
use Rattle.zy_law.proofs.GrownLemmas.{completed_grown}
use Rattle.zy_law.proofs.ConductLemmas.{more_conduct}
use Rattle.zy_law.specs.Completed.{Completion, IsCompleted}
use Rattle.zy_law.specs.Conduct.{IsConduct}
use Rattle.zy_law.specs.Lawful.{IsLawful}
use Rattle.zy_law.specs.Said.{Moment}
use Rattle.zy_law.specs.Steps.{IsGrown, grown}
use Rattle.zy_law.specs.World as law
use Rattle.zy_parts.specs.declared.signed.Signed.{Signed}
use Rattle.zy_parts.specs.declared.statements.Ask.{Ask}
use Rattle.zy_parts.specs.declared.statements.Order.{Order}
use Rattle.zy_table.specs.ClientRows.{kept_of}
use Rattle.zy_table.specs.ClientState.{ClientOutcome, spoken_of}
use Rattle.zy_table.specs.declared.client.Commit.{Commit}
use Rattle.zy_table.specs.declared.client.Response.{Response}
use Rattle.zy_law_views.specs.Rows.{IsReady}
use Rattle.zy_law_views.specs.Work.{IsAtWork}
use Rattle.zy_world_law.specs.Events.{client_stepped, with_client, history_of}
use Rattle.zy_world_law.specs.Good.{IsGood, IsTied, IsClientTied, IsBackedBy, IsCommitBacked, IsDone, IsOrderBacked}
use Rattle.zy_world_law.specs.Safe.{completion_of}
use Rattle.zy_world_law.specs.Seen.{seen, asked_by, asked_of, entry_in}
use Rattle.zy_world_law.specs.World.{World, Replica, Client, Completed, replica_at, client_at, correct_in}
use Rattle.zy_world_law.proofs.CommitStays.{commit_later}
use Rattle.zy_world_law.proofs.KeptOrHeard.{IsSame}
use Rattle.zy_world_law.proofs.Seats.{get_set, get_set_other, seat_of}
use Rattle.zy_world_law.proofs.StillReady.{still_ready, still_works}

module _ {S : Type 0} (R : Rules S) (w : World S) (good : IsGood R w) (id : ClientId) (x : Client) (at : client_at w id.0 ≡ Some x) (o : ClientOutcome)
    (same : IsSame x.state o.state) (holds : Holds o.state) (backed : (number : ℕ) (r : Response) → kept_of o.state number ≡ Some r → IsBackedBy w number r)
    (committed : (waiting : Signed Ask) (c : Commit) → o.state.waiting ≡ Some waiting → o.state.commit ≡ Some c → IsCommitBacked (seen R w) w.texts c) where
  abbrev v : law.World
  v = seen R w

  abbrev x' : Client
  x' = client_stepped x o

  abbrev w' : World S
  w' = with_client w id x'

  pub own_seat : client_at w' id.0 ≡ Some x'
  own_seat = ap (λ (o : Option (Option Client)). correct_in o) (get_set w.clients id.0 (Some x') (Some x) (seat_of (slice_get w.clients id.0) x at))

  other_seat : (q : ℕ) → q ≢ id.0 → client_at w' q ≡ client_at w q
  other_seat q other = ap (λ (o : Option (Option Client)). correct_in o) (get_set_other w.clients id.0 q (Some x') other)

  liars_same : (q : ℕ) → v.lying q ≡ is_none (client_at w' q)
  liars_same q = elim (cases_eq q id.0) [
    | inl one ↦ subst (λ (q : ℕ). is_none (client_at w q) ≡ is_none (client_at w' q)) (sym one)
        (ap (λ (o : Option Client). is_none o) at ∙ sym (ap (λ (o : Option Client). is_none o) own_seat))
    | inr other ↦ ap (λ (o : Option Client). is_none o) (sym (other_seat q other))
  ]

  abbrev new_texts : List (List ℕ)
  new_texts = map (λ (spoken : Spoken). spoken.text) (map (spoken_of o.state.me) o.said)

  own_asks : (e : Entry) → Contains (asked_of id (Some x)) e → Contains (asked_of id (Some x')) e
  own_asks e has =
      subst (λ (l : List Entry). Contains l e) (sym (filter_map-append (entry_in id) x.said new_texts))
      (Contains-append_left (filter_map (entry_in id) x.said) (filter_map (entry_in id) new_texts) e has)

  asks_stay : (q : ℕ) (e : Entry) → Contains (asked_by w q) e → Contains (asked_by w' q) e
  asks_stay q e has = elim (cases_eq q id.0) [
    | inl one ↦
        let here : Contains (asked_by w id.0) e = subst (λ (q : ℕ). Contains (asked_by w q) e) one has in
        let own : Contains (asked_of id (Some x)) e = subst (λ (o : Option Client). Contains (asked_of id o) e) at here in
        subst (λ (q : ℕ). Contains (asked_by w' q) e) (sym one) (subst (λ (o : Option Client). Contains (asked_of id o) e) (sym own_seat) (own_asks e own))
    | inr other ↦ subst (λ (o : Option Client). Contains (asked_of (record { 0 = q }) o) e) (sym (other_seat q other)) has
  ]

  abbrev later : law.World
  later = grown v (asked_by w') v.said v.past v.kept

  abbrev built : (ℕ → Bool) → law.World
  built lying =
      record {
        counts = v.counts;
        interval = v.interval;
        liar = v.liar;
        lying = lying;
        asked = asked_by w';
        said = v.said;
        past = v.past;
        next = v.next;
        digest = v.digest;
        reply = v.reply;
        state = v.state;
        kept = v.kept;
      }

  seen_is : later ≡ seen R w'
  seen_is = ap (λ (f : ℕ → Bool). built f) (λ i q. liars_same q i)

  grows : IsGrown v (asked_by w') v.said v.past v.kept
  grows = record { asks = asks_stay; says = λ q i z has. has; stands = λ q i b has. has; keeps = λ d e is. is }

  later_conduct : IsConduct later
  later_conduct = more_conduct v (asked_by w') v.kept good.conduct asks_stay (record { more = λ d e is. is; one_text = good.lawful.one_text })

  later_lawful : IsLawful later
  later_lawful = later_conduct.lawful

  -- no replica stands elsewhere
  kept_after : IsWorldOf R w.setup.interval (seen R w') w.texts
  kept_after =
      record {
        agrees = record { next = refl; digest = refl; reply = refl; state = refl };
        kept = record {
          links = good.kept.kept.links;
          histories = λ t.
              let was : Moment v = record { by = t.by; correct = record { within = t.correct.within; honest = t.correct.honest }; number = t.number; stand = t.stand; stood = t.stood } in
              good.kept.kept.histories was;
        };
      }

  tied_after : (q : ℕ) (y : Replica S) → replica_at w' q ≡ Some y → IsTied R w' q y
  tied_after q y y_at =
      let before = good.tied q y y_at in
      record {
        ready = subst (λ (u : law.World). IsReady R w.setup.interval u q y.state (history_of y.past)) seen_is
            (still_ready R v (asked_by w') v.said v.past v.kept grows w.setup.interval q y.state refl refl (history_of y.past) later_lawful before.ready);
        works = subst (λ (u : law.World). IsAtWork w.setup.interval u q y.state) seen_is (still_works R v (asked_by w') v.said v.past v.kept grows w.setup.interval q y.state refl refl before.works);
        keys = before.keys;
        spelled = before.spelled;
      }

  ordered_after : (order : Option (Signed Order)) → IfSome order (IsOrderBacked w) → IfSome order (IsOrderBacked w')
  ordered_after None is = tt
  ordered_after (Some order) is = record { signer = is.signer; by = is.by; leads = is.leads; said = is.said }

  backed_after : (number : ℕ) (r : Response) → IsBackedBy w number r → IsBackedBy w' number r
  backed_after number r b = record { within = b.within; said = b.said; reply = b.reply; ordered = ordered_after r.order b.ordered; spelled = b.spelled }

  commit_after : (c : Commit) → IsCommitBacked v w.texts c → IsCommitBacked (seen R w') w.texts c
  commit_after c is =
      subst (λ (u : law.World). IsCommitBacked u w.texts c) seen_is
      (commit_later v (asked_by w') v.said v.past v.kept asks_stay (λ q i z has. has) (λ q i b has. has) w.texts w.texts (λ d text kept. kept) c is)

  own_after : IsClientTied R w' id.0 x'
  own_after =
      let before = good.client_tied id.0 x at in
      record {
        me = ap (λ (c : ClientId). c.0) same.me ∙ before.me;
        counts = same.counts ∙ before.counts;
        keys = same.keys ∙ before.keys;
        holds = holds;
        backed = λ number r is. backed_after number r (backed number r is);
        committed = λ waiting c waits held. commit_after c (committed waiting c waits held);
      }

  client_after : (q : ℕ) (y : Client) → client_at w' q ≡ Some y → IsClientTied R w' q y
  client_after q y y_at = elim (cases_eq q id.0) [
    | inl one ↦
        let is : x' ≡ y = same_Some x' y (sym own_seat ∙ ap (λ (q : ℕ). client_at w' q) (sym one) ∙ y_at) in
        subst (λ (q : ℕ). IsClientTied R w' q y) (sym one) (subst (λ (z : Client). IsClientTied R w' id.0 z) is own_after)
    | inr other ↦
        let before = good.client_tied q y (sym (other_seat q other) ∙ y_at) in
        record {
          me = before.me;
          counts = before.counts;
          keys = before.keys;
          holds = before.holds;
          backed = λ number r is. backed_after number r (before.backed number r is);
          committed = λ waiting c waits held. commit_after c (before.committed waiting c waits held);
        }
  ]

  pub completed_after : (c : Completion) → IsCompleted v c → IsCompleted (seen R w') c
  completed_after c is =
      subst (λ (u : law.World). IsCompleted u c) seen_is (completed_grown v (asked_by w') v.said v.past v.kept asks_stay (λ q i y has. has) (λ q i y has. has) c is)

  correct_after : (q : ℕ) (y : Client) → client_at w q ≡ Some y → (z : Client) × (client_at w' q ≡ Some z)
  correct_after q y y_at = elim (cases_eq q id.0) [
    | inl one ↦ (x', ap (λ (q : ℕ). client_at w' q) one ∙ own_seat)
    | inr other ↦ (y, other_seat q other ∙ y_at)
  ]

  done_after : (c : Completed) → IsDone R w c → IsDone R w' c
  done_after c is =
      let there = correct_after c.client.0 is.client is.correct in
      record { client = there.0; correct = there.1; completed = completed_after (completion_of c) is.completed; reply = is.reply }

  all_done : (done : List Completed) → AllByRecursion (IsDone R w) done → AllByRecursion (IsDone R w') done
  all_done [] all = tt
  all_done (c ∷ done) all = (done_after c all.0, all_done done all.1)

  pub client_good : IsGood R w'
  client_good =
      record {
        setup = good.setup;
        replicas = good.replicas;
        clients = length-set w.clients id.0 (Some x') ∙ good.clients;
        conduct = subst IsConduct seen_is later_conduct;
        kept = kept_after;
        tied = tied_after;
        client_tied = client_after;
        done = all_done w.done good.done;
      }
