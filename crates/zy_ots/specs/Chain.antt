-- Hash chains (RFC 8554, section 4.3, the inner loop; sections 4.5 and 4.6 walk parts of them).
use Rattle.std.specs.Prelude.{ℕ, zero, suc, ◌+◌, List, [], ◌∷◌, ◌++◌}
use Rattle.std.specs.Int.{w16, w32, to_be_bytes}
use Rattle.sha2.specs.Sha256.{sha256}

-- what a key with identifier id hashes first for its leaf q and what n tells of:
-- I || u32str(q) || u16str(n)
abbrev pub prefix_of : List ℕ → ℕ → ℕ → List ℕ
prefix_of id q n = id ++ to_be_bytes w32 q ++ to_be_bytes w16 n

-- the value after n steps from place j of the chain that has this prefix; a step is
-- tmp = H(I || u32str(q) || u16str(i) || u8str(j) || tmp)
unfoldable pub chain : List ℕ → ℕ → ℕ → List ℕ → List ℕ
chain prefix j zero tmp = tmp
chain prefix j (suc n) tmp = sha256 (prefix ++ (j + n) ∷ [] ++ chain prefix j n tmp)

-- values joined: f 0 || f 1 || .. || f (n - 1)
unfoldable pub joined : (ℕ → List ℕ) → ℕ → List ℕ
joined f zero = []
joined f (suc n) = joined f n ++ f n
