use Rattle.std.proofs.Common.{◌≡◌, arith}
use Rattle.std.specs.Int.{w32, from_be_bytes}
use Rattle.std.proofs.lemmas.Nat.{be_bytes_4}
use Rattle.zy_journal.proofs.look.number_of.Goals as goal

pub returns : goal.returns
returns c =
    let is : c.from_be_bytes.result ≡ from_be_bytes w32 c.args.bytes.now = c.from_be_bytes.ensures in
    be_bytes_4 c.args.bytes.now c.from_be_bytes.result c.requires (λ i. omega (arith, c.type_inv.bytes i)) is
