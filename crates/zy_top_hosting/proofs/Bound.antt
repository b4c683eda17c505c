-- Once the turns of a command have ended, an address of its party was asked for first.
use Rattle.std.proofs.Common.{◌≡◌, inr, subst}
use Rattle.std.specs.Prelude.{IsTrue}
use Rattle.zy_base.specs.declared.ids.Party.{Party}
use Rattle.zy_edge.specs.Binding.{BindCalls, Standing}
use Rattle.zy_edge.specs.declared.link.binding.Address.{Address}
use Rattle.zy_top_words.specs.declared.exit.Exit.{Exit}
use Rattle.zy_top_words.specs.declared.exit.Exit.TheVariants as exits
use Rattle.zy_top_hosting.specs.Calls.{is_turning}
use Rattle.zy_top_hosting.specs.Hosted.{IsBoundAs, IsBoundOnce, IsBoundTo}

module _ (party : Party) (address : Address) (start : Standing) (before after : BindCalls) (is : address.party ≡ party) (bound : IsBoundTo address start before after) where
  once : IsBoundOnce party start before after
  once = (address.port, subst (λ (p : Party). IsBoundTo (record { port = address.port; party = p }) start before after) is bound)

  pub bound_as : (exit : Exit) → IsTrue (is_turning exit) → IsBoundAs party exit start before after
  bound_as exits.Done turning = once
  bound_as exits.TurnsSpent turning = once
  bound_as exits.WriteFault turning = once
  bound_as exits.LinkFault turning = once
  bound_as exits.Want turning = inr once
  bound_as exits.ReadFault turning = absurd cc
  bound_as exits.TooLong turning = absurd cc
  bound_as exits.DiskFault turning = absurd cc
  bound_as exits.NotJournal turning = absurd cc
  bound_as (exits.Damaged gate) turning = absurd cc
  bound_as exits.JournalFull turning = absurd cc
  bound_as (exits.Usage word) turning = absurd cc
  bound_as (exits.Text line rule) turning = absurd cc
  bound_as (exits.Group field) turning = absurd cc
  bound_as (exits.Premise event what) turning = absurd cc
