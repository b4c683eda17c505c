-- A good world is safe, and the agreed list only grows.
use Rattle.std.proofs.Common.{◌≡◌, inl, inr, ℕ, zero, suc, ◌+◌, ◌-◌, ◌≤◌, true, false, List, [], ◌∷◌, ◌++◌, length, map, take, drop, Option, Some, None, refl, sym, ap, ◌∙◌, subst, arith}
use Rattle.std.specs.Prelude.{slice_get, option_map, is_none, Contains, All}
use Rattle.std.specs.List.{AllByRecursion}
use Rattle.std.proofs.lemmas.Bool.{cases_lt}
use Rattle.std.proofs.lemmas.List.{take-append-drop, length-take-le}
use Rattle.std.proofs.lemmas.Option.{slice_get-map}
use Rattle.sha2.specs.Sha256.{sha256}
use Rattle.zy_base.specs.Machine.{Rules}
use Rattle.zy_base.specs.declared.ids.ClientId.{ClientId}
use Rattle.zy_base.specs.declared.ids.Digest.{Digest}
use Rattle.zy_base.specs.declared.ids.Stamp.{Stamp}
use Rattle.zy_chain.specs.Heads.{empty_head}
use Rattle.zy_chain.specs.declared.entry.Entry.{Entry}
use Rattle.zy_exec.proofs.HistoryLemmas.{stands_leads}
use Rattle.zy_exec.specs.Replay.{origin, along, answer_at, answers_of}
use Rattle.zy_law.proofs.CompletedLemmas.{completed_fixed, agreed_list, agreed_asked, agreed_grows, completed_result}
use Rattle.zy_law.proofs.GrownLemmas.{AreKept-more}
use Rattle.zy_law.proofs.HistoryLemmas.{AreKept-take}
use Rattle.zy_law.proofs.ListLemmas.{one_list, list_passed}
use Rattle.zy_law.proofs.OneView.{fixed_known}
use Rattle.zy_law.specs.Completed.{Completion, IsCompleted, IsAgreedList, IsResultOf}
use Rattle.zy_law.specs.Histories.{IsEntryAt}
use Rattle.zy_law.specs.Lawful.{AreAskedFor}
use Rattle.zy_law.specs.Lists.{IsListOf, IsKnown}
use Rattle.zy_law.specs.Said.{Moment}
use Rattle.zy_law.specs.World as law
use Rattle.zy_law_normal.proofs.Backing.{all_from}
use Rattle.zy_law_normal.proofs.Records.{answer_longer}
use Rattle.zy_law_normal.specs.Tied.{next_head, Agrees}
use Rattle.zy_world_law.specs.Events.{history_of}
use Rattle.zy_world_law.specs.Good.{IsGood, IsDone, IsKept}
use Rattle.zy_world_law.specs.Safe.{IsSafe, IsResult, IsAgreed, IsReplay, HasStable, Grows, completion_of, completions_of, mark_of}
use Rattle.zy_world_law.specs.Seen.{seen, asked_by}
use Rattle.zy_world_law.specs.Texts.{is_link}
use Rattle.zy_world_law.specs.World.{World, Replica, Client, Completed, replica_at, client_at}
use Rattle.zy_world_law.proofs.Goings.{IsAfter}
use Rattle.zy_world_law.proofs.KeptTexts.{stay_kept}
use Rattle.zy_world_law.proofs.OwnStable.{stable_backed, stable_own}
use Rattle.zy_world_law.proofs.OneText.{one_kept_text, link_of, link_is}
use Rattle.zy_world_law.proofs.ToldSteps.{map_append}
use Rattle.zy_law_views.proofs.Responding.{true_reply}

correct_seat : {S : Type 0} (o : Option (Replica S)) → is_none o ≡ false → (x : Replica S) × (o ≡ Some x)
correct_seat None is = absurd cc
correct_seat (Some x) is = (x, refl)

-- the reply at the place of an entry
replied : {S : Type 0} (R : Rules S) (list : List Entry) (place : ℕ) (e : Entry) → IsEntryAt list place e → (reply : List ℕ) × (answer_at R list place ≡ Some reply)
replied R list zero e at = absurd (omega (arith, at.first))
replied {S} R list (suc before) e at =
    let here : before ≡ suc before - 1 = omega arith in
    let there : slice_get list before ≡ Some e = ap (λ (n : ℕ). slice_get list n) here ∙ at.there in (
      answers_of R (along R (origin R) (take before list)).state e,
      ap (λ (o : Option Entry). option_map (λ (d : Entry). answers_of R (along R (origin R) (take before list)).state d) o) there,
    )

-- what a response tells is one value, out of which each part can be read
parts_told : (a b c d : ℕ) (x y : List ℕ) → a ∷ b ∷ x ≡ c ∷ d ∷ y → (a ≡ c) × ((b ≡ d) × (x ≡ y))
parts_told a b c d x y same = let client : a ≡ c = cc in let stamp : b ≡ d = cc in let told : x ≡ y = cc in (client, (stamp, told))

answer_front : {S : Type 0} (R : Rules S) (list : List Entry) (place : ℕ) → place ≤ length list → answer_at R (take place list) place ≡ answer_at R list place
answer_front R list place within =
    sym (answer_longer R (take place list) (drop place list) place (let long = length-take-le place list within in omega arith)) ∙ ap (λ (l : List Entry). answer_at R l place) (take-append-drop place list)

module _ {S : Type 0} (R : Rules S) (w : World S) (good : IsGood R w) where
  abbrev v : law.World
  v = seen R w

  completed_each : (done : List Completed) → AllByRecursion (IsDone R w) done → AllByRecursion (IsCompleted v) (map completion_of done)
  completed_each [] all = tt
  completed_each (c ∷ done) all = (all.0.completed, completed_each done all.1)

  fixed_each : (done : List Completed) → AllByRecursion (IsDone R w) done → AllByRecursion (λ (c : Completed). IsCompleted v (completion_of c)) done
  fixed_each [] all = tt
  fixed_each (c ∷ done) all = (all.0.completed, fixed_each done all.1)

  all_completed : All (IsCompleted v) (completions_of w)
  all_completed = all_from (IsCompleted v) (completions_of w) (completed_each w.done good.done)

  module _ (list : List Entry) (agreed : IsAgreed R w list) where
    asked : AreAskedFor v 0 list
    asked = agreed_asked v good.lawful (completions_of w) list all_completed agreed

    asked_of : (place : ℕ) (e : Entry) (x : Client) → IsEntryAt list place e → client_at w e.client.0 ≡ Some x → Contains (asked_by w e.client.0) e
    asked_of place e x at seat = elim (asked place e at.first at).asked [
      | inl lies ↦ let tells : false ≡ true = ap (λ (o : Option Client). is_none o) (sym seat) ∙ lies in absurd cc
      | inr did ↦ did
    ]

    once : (place other : ℕ) (d e : Entry) → IsEntryAt list place d → IsEntryAt list other e → d.client ≡ e.client → d.stamp ≡ e.stamp → place ≡ other
    once place other d e first second clients stamps = elim (cases_lt place other) [
      | inl before ↦ absurd (omega (arith, (asked other e second.first second).newer place d before first clients, ap (λ (t : Stamp). t.0) stamps))
      | inr least ↦ elim (cases_lt other place) [
        | inl behind ↦ absurd (omega (arith, (asked place d first.first first).newer other e behind second (sym clients), ap (λ (t : Stamp). t.0) stamps))
        | inr most ↦ omega arith
      ]
    ]

    result : (c : Completed) → IsDone R w c → IsResultOf v list (completion_of c) → IsResult R w list c
    result c done is =
        let place : ℕ = c.done.place.0 in
        let a = is.answer in
        let within : place ≤ length list = is.passes.within in
        let (reply, answer) = replied R list place a.entry a.last in
        -- the response tells whose entry it is, and what it is answered with
        let agrees : Agrees R v = record { next = refl; digest = refl; reply = refl; state = refl } in
        let (same_client, (same_stamp, told)) = parts_told a.entry.client.0 a.entry.stamp.0 c.client.0 c.done.stamp.0 (sha256 reply) (sha256 c.done.reply)
        (ap (λ (d : Digest). d.0) (sym (true_reply R v agrees list place a.entry reply within a.last answer) ∙ a.reply)) in
        let client : a.entry.client ≡ c.client = ap (λ (n : ℕ). let id : ClientId = record { 0 = n } in id) same_client in
        let stamp : a.entry.stamp ≡ c.done.stamp = ap (λ (n : ℕ). let t : Stamp = record { 0 = n } in t) same_stamp in
        let seat : client_at w a.entry.client.0 ≡ Some done.client = ap (λ (n : ClientId). client_at w n.0) client ∙ done.correct in
        -- some correct replica's history has the mark, with the same entries up to it
        let known : IsKnown v (c.done.view.0 + 1) (mark_of c) = fixed_known v good.lawful c.done.view.0 (mark_of c) (completed_fixed v good.lawful (completion_of c) done.completed) in
        let t : Moment v = known.moment in
        let own : IsListOf v (mark_of c) (take place t.stand.history) = list_passed v good.lawful t (mark_of c) known.passes in
        let front : IsListOf v (mark_of c) (take place list) =
        record { long = length-take-le place list within; head = is.passes.head; texts = AreKept-take v.kept v.next place empty_head list agreed.texts } in
        let same : take place t.stand.history ≡ take place list = one_list v good.lawful (mark_of c) (take place t.stand.history) (take place list) own front in
        let there : answer_at R t.stand.history place ≡ Some reply =
        sym (answer_front R t.stand.history place known.passes.within) ∙ ap (λ (l : List Entry). answer_at R l place) same ∙ answer_front R list place within ∙ answer in
        let kept : IsKept w.texts reply = (good.kept.kept.histories t).replies place reply there in
        let one : reply ≡ c.done.reply = one_kept_text w.texts reply c.done.reply kept done.reply told in
        record {
          passes = record { within = within; head = is.passes.head };
          entry = a.entry;
          there = a.last;
          client = client;
          stamp = stamp;
          asked = subst (λ (n : ClientId). Contains (asked_by w n.0) a.entry) client (asked_of place a.entry done.client a.last seat);
          reply = answer ∙ ap (λ (l : List ℕ). Some l) one;
        }

    results : (done : List Completed) → AllByRecursion (IsDone R w) done → ((k : ℕ) (c : Completed) → slice_get done k ≡ Some c → IsResultOf v list (completion_of c)) → AllByRecursion (IsResult R w list) done
    results [] all each = tt
    results (c ∷ done) all each = (result c all.0 (each 0 c refl), results done all.1 (λ k d at. each (suc k) d at))

  result_at : (list : List Entry) → IsAgreed R w list → (k : ℕ) (c : Completed) → slice_get w.done k ≡ Some c → IsResultOf v list (completion_of c)
  result_at list agreed k c at =
      completed_result v good.lawful (completions_of w) list k (completion_of c) all_completed agreed
      (slice_get-map completion_of w.done k ∙ ap (λ (o : Option Completed). option_map completion_of o) at)

  replay : (id : ℕ) (x : Replica S) → replica_at w id ≡ Some x → IsReplay R x
  replay id x at = stands_leads R x.state.kept (history_of x.past) (good.tied id x at).ready.tied.standing.stands

  stable : (id : ℕ) (x : Replica S) → replica_at w id ≡ Some x → HasStable R w x
  stable id x at =
      let ready = (good.tied id x at).ready in
      record {
        backed = stable_backed R w.setup.interval v id x.state (history_of x.past) ready;
        own = stable_own R w.setup.interval v id x.state (history_of x.past) ready refl refl;
      }

  pub safe : IsSafe R w
  safe =
      let one = agreed_list v good.lawful (completions_of w) all_completed in
      record {
        list = one.0;
        agreed = one.1;
        results = results one.0 one.1 w.done good.done (result_at one.0 one.1);
        fixed = fixed_each w.done good.done;
        asked = asked_of one.0 one.1;
        once = once one.0 one.1;
        replays = replay;
        stable = stable;
      }

-- ---- growth

module _ {S : Type 0} (R : Rules S) (w u : World S) (after : IsAfter R w u) where
  link_stays : (d : Digest) (e : Entry) → is_link w.texts d e ≡ true → is_link u.texts d e ≡ true
  link_stays d e is =
      let link = link_of w.texts d e is in
      link_is u.texts d e (record { runnable = link.runnable; entry = stay_kept w.texts u.texts after.texts _ link.entry; link = stay_kept w.texts u.texts after.texts _ link.link })

  completions_more : completions_of u ≡ completions_of w ++ map completion_of after.more
  completions_more = ap (λ (l : List Completed). map completion_of l) after.done ∙ map_append completion_of w.done after.more

  pub grows : Grows R w u
  grows near far is_near is_far =
      let more : List Completion = map completion_of after.more in
      let all : All (IsCompleted (seen R u)) (completions_of w ++ more) = subst (λ (l : List Completion). All (IsCompleted (seen R u)) l) completions_more (all_completed R u after.good) in
      agreed_grows (seen R u) after.good.lawful (completions_of w) more near far all
      (record { long = is_near.long; head = is_near.head; texts = AreKept-more (is_link w.texts) (is_link u.texts) next_head link_stays empty_head near is_near.texts })
      (subst (λ (l : List Completion). IsAgreedList (seen R u) l far) completions_more is_far)
