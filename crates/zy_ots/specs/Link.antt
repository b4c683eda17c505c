-- What a step of a hash chain hashes, but for the step's number.
use Rattle.std.specs.Prelude.{ℕ, List}

-- I || u32str(q), u16str(i), and tmp, the chain's value so far (RFC 8554, section 4.3)
pub record Link : Type 0 where
  pub key : List ℕ
  pub index : List ℕ
  pub value : List ℕ
