-- What is sent, the marks of frames, muted parties and the signatures of liars are nothing to a good world.
use Rattle.std.proofs.Common.{ℕ, Bool, List, [], ◌∷◌, Option, Some, None}
use Rattle.std.specs.Prelude.{IfSome}
use Rattle.std.specs.List.{AllByRecursion}
use Rattle.zy_base.specs.Machine.{Rules}
use Rattle.zy_base.specs.declared.ids.Party.{Party}
use Rattle.zy_parts.specs.declared.signed.Signed.{Signed}
use Rattle.zy_parts.specs.declared.statements.Order.{Order}
use Rattle.zy_table.specs.declared.client.Response.{Response}
use Rattle.zy_world_law.specs.Good.{IsGood, IsTied, IsClientTied, IsBackedBy, IsDone, IsOrderBacked}
use Rattle.zy_world_law.specs.World.{World, Replica, Client, Completed, Mail}

module _ {S : Type 0} (R : Rules S) (w : World S) (used : Party → ℕ) (bag : List Mail) (muted : Party → Bool) where
  abbrev w' : World S
  w' = record w { used = used; bag = bag; muted = muted }

  tied_same : (id : ℕ) (x : Replica S) → IsTied R w id x → IsTied R w' id x
  tied_same id x t = record { ready = t.ready; works = t.works; keys = t.keys; spelled = t.spelled }

  ordered_same : (o : Option (Signed Order)) → IfSome o (IsOrderBacked w) → IfSome o (IsOrderBacked w')
  ordered_same None is = tt
  ordered_same (Some order) is = record { signer = is.signer; by = is.by; leads = is.leads; said = is.said }

  backed_same : (id : ℕ) (r : Response) → IsBackedBy w id r → IsBackedBy w' id r
  backed_same id r b = record { within = b.within; said = b.said; reply = b.reply; ordered = ordered_same r.order b.ordered; spelled = b.spelled }

  client_same : (id : ℕ) (x : Client) → IsClientTied R w id x → IsClientTied R w' id x
  client_same id x t =
      record {
        me = t.me;
        counts = t.counts;
        keys = t.keys;
        holds = t.holds;
        backed = λ number r is. backed_same number r (t.backed number r is);
        committed = t.committed;
      }

  all_done : (done : List Completed) → AllByRecursion (IsDone R w) done → AllByRecursion (IsDone R w') done
  all_done [] all = tt
  all_done (c ∷ done) all = (record { client = all.0.client; correct = all.0.correct; completed = all.0.completed; reply = all.0.reply }, all_done done all.1)

  pub bag_good : IsGood R w → IsGood R w'
  bag_good good =
      record {
        setup = good.setup;
        replicas = good.replicas;
        clients = good.clients;
        conduct = good.conduct;
        kept = good.kept;
        tied = λ id x at. tied_same id x (good.tied id x at);
        client_tied = λ id x at. client_same id x (good.client_tied id x at);
        done = all_done w.done good.done;
      }
