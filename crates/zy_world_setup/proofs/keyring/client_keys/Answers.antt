use Rattle.zy_base.specs.declared.ids.Party.TheVariants.{Client}
use Rattle.zy_world_law.specs.Setup.{public_key_of, sealer_of}
use Rattle.zy_world_setup.proofs.OneMore.{one_more}
use Rattle.zy_world_setup.proofs.keyring.client_keys.Goals as goal

pub loop-id-preserved : goal.loop-id-preserved
loop-id-preserved c = (
  one_more (λ id. sealer_of c.args.setup.now (Client (record { 0 = id })) 0) c.loop-id.keys.sealers.items c.add.new.self.sealers.items c.loop-id.id c.loop-id.invariant.0 c.in_ok-add.ensures.sealers,
  one_more (λ id. public_key_of c.args.setup.now (Client (record { 0 = id }))) c.loop-id.keys.public.items c.add.new.self.public.items c.loop-id.id c.loop-id.invariant.1 c.in_ok-add.ensures.public,
)
