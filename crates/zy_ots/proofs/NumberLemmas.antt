-- Reading a number that was spelled in four bytes.
use Rattle.std.proofs.Common.{◌≡◌, ◌<◌, ◌++◌, ◌^◌, length, ℕ, List, take, ap, ◌∙◌}
use Rattle.std.proofs.lemmas.List.{drop_at}
use Rattle.std.proofs.lemmas.Nat.{from_be_bytes-to_be_bytes_4}
use Rattle.std.specs.Int.{w32, to_be_bytes, from_be_bytes}
use Rattle.zy_ots.specs.Coef.{number_at}

pub number_at-spelled : (before after : List ℕ) (n i : ℕ) → length before ≡ i → n < 2 ^ 32
    → number_at (before ++ (to_be_bytes w32 n ++ after)) i ≡ n
number_at-spelled before after n i here fits =
    ap (λ s. from_be_bytes w32 (take 4 s)) (drop_at before (to_be_bytes w32 n ++ after) i here)
    ∙ from_be_bytes-to_be_bytes_4 n fits
