use Rattle.std.proofs.Common.{◌+◌, arith}
use Rattle.std.specs.Int.{w8, w16, w32, w64}
use Rattle.zy_wire.proofs.Parts.{wide8, wide16, wide32, wide64, word-exact, number-exact, exactly-exact}
use Rattle.zy_wire.proofs.Laws.{u62-exact, digest-exact, party-exact, sized-exact}
use Rattle.zy_wire.proofs.exact.fields.Goals as goal

pub returns-clause-raw : goal.returns-clause-raw
returns-clause-raw c = exactly-exact

pub returns-clause-u8 : goal.returns-clause-u8
returns-clause-u8 c = word-exact w8 wide8

pub returns-clause-u16 : goal.returns-clause-u16
returns-clause-u16 c = word-exact w16 wide16

pub returns-clause-u32 : goal.returns-clause-u32
returns-clause-u32 c = word-exact w32 wide32

pub returns-clause-u64 : goal.returns-clause-u64
returns-clause-u64 c = word-exact w64 wide64

pub returns-clause-u62 : goal.returns-clause-u62
returns-clause-u62 c = u62-exact

pub returns-clause-count : goal.returns-clause-count
returns-clause-count c = λ min max small. number-exact w16 min (max + 1) wide16 (omega (arith, small))

pub returns-clause-flag : goal.returns-clause-flag
returns-clause-flag c = number-exact w8 0 2 wide8 (omega arith)

pub returns-clause-digest : goal.returns-clause-digest
returns-clause-digest c = digest-exact

pub returns-clause-party : goal.returns-clause-party
returns-clause-party c = party-exact

pub returns-clause-bytes16 : goal.returns-clause-bytes16
returns-clause-bytes16 c = λ max small. sized-exact w16 max wide16 small

pub returns-clause-bytes32 : goal.returns-clause-bytes32
returns-clause-bytes32 c = λ max small. sized-exact w32 max wide32 small
