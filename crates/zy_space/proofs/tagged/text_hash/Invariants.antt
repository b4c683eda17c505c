use Rattle.std.proofs.Common.{◌≡◌, take}
use Rattle.std.specs.Prelude.{fold, map}
use Rattle.std.specs.Int.{w64, from_le_bytes}
use Rattle.zy_space.specs.Tag.{with_part}
use Rattle.zy_space.proofs.tagged.text_hash.Given as goal

abbrev pub invariant-loop-eight : goal.invariant-loop-eight
invariant-loop-eight l = l.hash ≡ fold with_part 0 (map (from_le_bytes w64) (take l.eight-index l.eights))

abbrev pub invariant-loop-byte : goal.invariant-loop-byte
invariant-loop-byte l = l.hash ≡ fold with_part l.initial.hash (take l.byte-index l.rest)
