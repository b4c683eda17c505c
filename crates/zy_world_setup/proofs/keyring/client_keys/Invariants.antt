use Rattle.std.proofs.Common.{◌≡◌, map}
use Rattle.std.specs.List.{range_with_len}
use Rattle.zy_base.specs.declared.ids.Party.TheVariants.{Client}
use Rattle.zy_world_law.specs.Setup.{public_key_of, sealer_of}
use Rattle.zy_world_setup.proofs.keyring.client_keys.Given as goal

abbrev pub invariant-loop-id : goal.invariant-loop-id
invariant-loop-id l =
    (l.keys.sealers.items ≡ map (λ id. sealer_of l.setup (Client (record { 0 = id })) 0) (range_with_len 0 l.id))
    × (l.keys.public.items ≡ map (λ id. public_key_of l.setup (Client (record { 0 = id }))) (range_with_len 0 l.id))
