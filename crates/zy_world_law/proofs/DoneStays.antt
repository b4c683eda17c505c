-- A completion more, if it is one, keeps a good world good.
use Rattle.std.proofs.Common.{◌≡◌, List, [], ◌∷◌, Option, Some, None, refl}
use Rattle.std.specs.Prelude.{IfSome, option_map, option_to_list}
use Rattle.std.specs.List.{AllByRecursion}
use Rattle.zy_base.specs.Machine.{Rules}
use Rattle.zy_base.specs.declared.ids.ClientId.{ClientId}
use Rattle.zy_parts.specs.declared.signed.Signed.{Signed}
use Rattle.zy_parts.specs.declared.statements.Order.{Order}
use Rattle.zy_table.specs.declared.client.Done.{Done}
use Rattle.zy_world_law.specs.Events.{with_done}
use Rattle.zy_world_law.specs.Good.{IsGood, IsDone, IsOrderBacked}
use Rattle.zy_world_law.specs.World.{World, Completed}
use Rattle.zy_law_normal.proofs.Goes.{all_of_both}

module _ {S : Type 0} (R : Rules S) (w : World S) (good : IsGood R w) (id : ClientId) (o : Option Done) (is_done : (d : Done) → o ≡ Some d → IsDone R w (record { client = id; done = d })) where
  abbrev w' : World S
  w' = with_done w id o

  ordered_same : (o : Option (Signed Order)) → IfSome o (IsOrderBacked w) → IfSome o (IsOrderBacked w')
  ordered_same None is = tt
  ordered_same (Some order) is = record { signer = is.signer; by = is.by; leads = is.leads; said = is.said }

  done_same : (c : Completed) → IsDone R w c → IsDone R w' c
  done_same c is = record { client = is.client; correct = is.correct; completed = is.completed; reply = is.reply }

  all_done : (done : List Completed) → AllByRecursion (IsDone R w) done → AllByRecursion (IsDone R w') done
  all_done [] all = tt
  all_done (c ∷ done) all = (done_same c all.0, all_done done all.1)

  new_done : (o : Option Done) → ((d : Done) → o ≡ Some d → IsDone R w (record { client = id; done = d }))
      → AllByRecursion (IsDone R w') (option_to_list (option_map (λ (d : Done). let c : Completed = record { client = id; done = d } in c) o))
  new_done None each = tt
  new_done (Some d) each = (done_same (record { client = id; done = d }) (each d refl), tt)

  pub done_good : IsGood R w'
  done_good =
      record {
        setup = good.setup;
        replicas = good.replicas;
        clients = good.clients;
        conduct = good.conduct;
        kept = good.kept;
        tied = λ q x at. let t = good.tied q x at in record { ready = t.ready; works = t.works; keys = t.keys; spelled = t.spelled };
        client_tied = λ q x at. let t = good.client_tied q x at in
            record {
              me = t.me;
              counts = t.counts;
              keys = t.keys;
              holds = t.holds;
              backed = λ number r is. let b = t.backed number r is in record { within = b.within; said = b.said; reply = b.reply; ordered = ordered_same r.order b.ordered; spelled = b.spelled };
              committed = t.committed;
            };
        done = all_of_both (IsDone R w') w.done (option_to_list (option_map (λ (d : Done). let c : Completed = record { client = id; done = d } in c) o)) (all_done w.done good.done) (new_done o is_done);
      }
