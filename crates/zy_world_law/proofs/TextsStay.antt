-- More kept texts keep a good world good.
use Rattle.std.proofs.Common.{◌≡◌, ℕ, true, List, [], ◌∷◌, Option, Some, None, refl}
use Rattle.std.specs.Prelude.{IfSome}
use Rattle.std.specs.List.{AllByRecursion}
use Rattle.zy_base.specs.Machine.{Rules}
use Rattle.zy_base.specs.declared.ids.Digest.{Digest}
use Rattle.zy_law_views.specs.Steps.{IsWorldOf}
use Rattle.zy_chain.specs.declared.entry.Entry.{Entry}
use Rattle.zy_law.proofs.ConductLemmas.{more_conduct}
use Rattle.zy_law.proofs.GrownLemmas.{completed_grown}
use Rattle.zy_law.proofs.StepsLawful.{more_lawful}
use Rattle.zy_law.specs.Conduct.{IsConduct}
use Rattle.zy_law.specs.Lawful.{IsLawful}
use Rattle.zy_law.specs.Said.{Moment}
use Rattle.zy_law.specs.Steps.{IsGrown}
use Rattle.zy_law.specs.World as law
use Rattle.zy_parts.specs.declared.signed.Signed.{Signed}
use Rattle.zy_parts.specs.declared.statements.Order.{Order}
use Rattle.zy_table.specs.declared.client.Response.{Response}
use Rattle.zy_world_law.specs.Events.{history_of}
use Rattle.zy_world_law.specs.Good.{IsGood, IsTied, IsClientTied, IsBackedBy, IsDone, IsOrderBacked}
use Rattle.zy_world_law.specs.Safe.{completion_of}
use Rattle.zy_world_law.specs.Seen.{seen}
use Rattle.zy_world_law.specs.Texts.{is_link}
use Rattle.zy_world_law.specs.World.{World, Replica, Client, Completed, Texts}
use Rattle.zy_world_law.proofs.CommitStays.{commit_later}
use Rattle.zy_world_law.proofs.KeptTexts.{Stay, stay_kept}
use Rattle.zy_world_law.proofs.OneText.{one_text, link_of, link_is}
use Rattle.zy_world_law.proofs.StillReady.{still_ready, still_works}

module _ {S : Type 0} (R : Rules S) (w : World S) (texts : Texts) (stay : Stay w.texts texts) where
  abbrev w' : World S
  w' = record w { texts = texts }

  abbrev v : law.World
  v = seen R w

  link_stays : (d : Digest) (e : Entry) → is_link w.texts d e ≡ true → is_link texts d e ≡ true
  link_stays d e is =
      let link = link_of w.texts d e is in
      link_is texts d e (record { runnable = link.runnable; entry = stay_kept w.texts texts stay _ link.entry; link = stay_kept w.texts texts stay _ link.link })

  grows : IsGrown v v.asked v.said v.past (is_link texts)
  grows = record { asks = λ q e has. has; says = λ q i y has. has; stands = λ q i b has. has; keeps = link_stays }

  still_lawful : IsLawful v → IsLawful (seen R w')
  still_lawful lawful = more_lawful v lawful v.asked (is_link texts) (λ q e has. has) (record { more = link_stays; one_text = one_text texts })

  still_conduct : IsConduct v → IsConduct (seen R w')
  still_conduct conduct = more_conduct v v.asked (is_link texts) conduct (λ q e has. has) (record { more = link_stays; one_text = one_text texts })

  tied_stays : IsLawful v → (id : ℕ) (x : Replica S) → IsTied R w id x → IsTied R w' id x
  tied_stays lawful id x t =
      record {
        ready = still_ready R v v.asked v.said v.past (is_link texts) grows w.setup.interval id x.state refl refl (history_of x.past) (still_lawful lawful) t.ready;
        works = still_works R v v.asked v.said v.past (is_link texts) grows w.setup.interval id x.state refl refl t.works;
        keys = t.keys;
        spelled = t.spelled;
      }

  world_stays : IsWorldOf R w.setup.interval v w.texts → IsWorldOf R w.setup.interval (seen R w') texts
  world_stays is =
      record {
        agrees = record { next = refl; digest = refl; reply = refl; state = refl };
        kept = record {
          links = λ head e kept. link_of texts head e kept;
          histories = λ t.
              let was : Moment v = record { by = t.by; correct = record { within = t.correct.within; honest = t.correct.honest }; number = t.number; stand = t.stand; stood = t.stood } in
              let before = is.kept.histories was in
              record {
                replies = λ place reply told. stay_kept w.texts texts stay reply (before.replies place reply told);
                snapshots = λ place snapshot above told. stay_kept w.texts texts stay snapshot (before.snapshots place snapshot above told);
              };
        };
      }

  ordered_stays : (o : Option (Signed Order)) → IfSome o (IsOrderBacked w) → IfSome o (IsOrderBacked w')
  ordered_stays None is = tt
  ordered_stays (Some order) is = record { signer = is.signer; by = is.by; leads = is.leads; said = is.said }

  backed_stays : (id : ℕ) (r : Response) → IsBackedBy w id r → IsBackedBy w' id r
  backed_stays id r b = record { within = b.within; said = b.said; reply = stay_kept w.texts texts stay r.reply b.reply; ordered = ordered_stays r.order b.ordered; spelled = b.spelled }

  client_stays : (id : ℕ) (x : Client) → IsClientTied R w id x → IsClientTied R w' id x
  client_stays id x t =
      record {
        me = t.me;
        counts = t.counts;
        keys = t.keys;
        holds = t.holds;
        backed = λ number r is. backed_stays number r (t.backed number r is);
        committed = λ waiting c waits held.
            commit_later v v.asked v.said v.past (is_link texts) (λ q e has. has) (λ q i y has. has) (λ q i b has. has) w.texts texts stay c (t.committed waiting c waits held);
      }

  all_done : (done : List Completed) → AllByRecursion (IsDone R w) done → AllByRecursion (IsDone R w') done
  all_done [] all = tt
  all_done (c ∷ done) all = (
    record {
      client = all.0.client;
      correct = all.0.correct;
      completed = completed_grown v v.asked v.said v.past (is_link texts) (λ q e has. has) (λ q i y has. has) (λ q i y has. has) (completion_of c) all.0.completed;
      reply = stay_kept w.texts texts stay c.done.reply all.0.reply;
    },
    all_done done all.1,
  )

  pub texts_good : IsGood R w → IsGood R w'
  texts_good good =
      record {
        setup = good.setup;
        replicas = good.replicas;
        clients = good.clients;
        conduct = still_conduct good.conduct;
        kept = world_stays good.kept;
        tied = λ id x at. tied_stays good.lawful id x (good.tied id x at);
        client_tied = λ id x at. client_stays id x (good.client_tied id x at);
        done = all_done w.done good.done;
      }
