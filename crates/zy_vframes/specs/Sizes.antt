-- How many bytes the statements and frames of view changes have at most, those of them that stay within a group's limits.
use Rattle.std.specs.Prelude.{ℕ, ◌+◌, ◌*◌}
use Rattle.zy_chain.specs.Sizes.{entry_size, greatest_snapshot}
use Rattle.zy_parts.specs.Sizes.{check_size, signed_size, spec_size}

abbrev pub began_size : ℕ
began_size = 8 + (8 + 32)

abbrev pub fetch_size : ℕ
fetch_size = 8 + 32

-- a report of at most nine replicas' statements: the last view, its beginning with the statements that prove it, the longest
-- certificate, the stable checkpoint with its proof, and the entries
abbrev pub report_size : ℕ
report_size =
    8 + (8 + (32 + (2 + 9 * signed_size began_size + (1 + (2 + 9 * signed_size spec_size) + (8 + (8 + (32 + (32 + (2 + 9 * signed_size check_size + (2 + 64 * entry_size))))))))))

abbrev pub change_size : ℕ
change_size = signed_size (8 + report_size)

abbrev pub new_size : ℕ
new_size = signed_size (8 + (2 + 9 * change_size))

abbrev pub begans_size : ℕ
begans_size = 2 + 16 * signed_size began_size

abbrev pub state_size : ℕ
state_size = 8 + (4 + greatest_snapshot)
