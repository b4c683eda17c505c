use Rattle.std.proofs.Common.{◌≡◌, ◌∷◌, [], ◌++◌, ℕ, suc, map, ap, ◌∙◌, sym, add-one}
use Rattle.std.specs.List.{range_with_len}
use Rattle.std.proofs.lemmas.List.{map-append}
use Rattle.zy_base.specs.declared.ids.Party.{Party}
use Rattle.zy_base.specs.declared.ids.Party.TheVariants.{Replica}
use Rattle.zy_table.specs.ClientState.{all_replicas}
use Rattle.zy_table.proofs.RangeLemmas.{range_snoc}
use Rattle.zy_client.proofs.step.all_replicas_of.Goals as goal

all-snoc : (n : ℕ) → all_replicas (suc n) ≡ all_replicas n ++ Replica (record { 0 = n }) ∷ []
all-snoc n =
    let name : ℕ → Party = λ id. Replica (record { 0 = id }) in
    ap (map name) (range_snoc n) ∙ map-append name (range_with_len 0 n) (n ∷ [])

pub loop-id-preserved : goal.loop-id-preserved
loop-id-preserved c = rw (add-one, c.in_ok-push.ensures.items, c.loop-id.invariant) (sym (all-snoc c.loop-id.id))
