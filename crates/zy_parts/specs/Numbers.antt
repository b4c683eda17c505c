-- The number of each of the twelve statements, which stands in its signed text.
use Rattle.std.specs.Prelude.{ℕ}

abbrev pub ask : ℕ
ask = 1

abbrev pub order : ℕ
order = 2

abbrev pub spec : ℕ
spec = 3

abbrev pub local : ℕ
local = 4

abbrev pub confirm : ℕ
confirm = 5

abbrev pub hole : ℕ
hole = 6

abbrev pub hate : ℕ
hate = 7

abbrev pub check : ℕ
check = 8

abbrev pub change : ℕ
change = 9

abbrev pub new : ℕ
new = 10

abbrev pub began : ℕ
began = 11

abbrev pub fetch : ℕ
fetch = 12
