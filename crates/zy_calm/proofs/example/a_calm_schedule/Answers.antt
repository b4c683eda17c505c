use Rattle.std.proofs.Common.{◌≡◌, ℕ, ◌*◌, ◌≤◌, true, List, [], length, refl, ap, ◌∙◌, arith}
use Rattle.std.specs.List.{filter, list_any, range_with_len}
use Rattle.std.specs.Prelude.{nat_eq, not, ◌&&◌}
use Rattle.zy_lms.specs.declared.height.Height.{Height}
use Rattle.zy_seal.proofs.SignatureLemmas.{least_signatures}
use Rattle.zy_seal.specs.Sealing.{signatures_by}
use Rattle.zy_calm.proofs.example.a_calm_schedule.Goals as goal

lasting : (h : Height) → 3 * 1 ≤ signatures_by h
lasting h = omega (arith, least_signatures h)

-- how many of so many are live, where these lie
abbrev live_count : ℕ → List ℕ → ℕ
live_count n liars = length (filter (λ id. not (list_any (nat_eq id) liars) && not (list_any (nat_eq id) [])) (range_with_len 0 n))

four_live : live_count 4 [] ≡ 4
four_live = refl

pub returns : goal.returns
returns c s op setup four fast none honest clients interval short =
    let live : live_count s.counts.n s.liars ≡ 4 = ap (λ (n : ℕ). live_count n s.liars) four ∙ ap (live_count 4) none ∙ four_live in
    let eight : 2 * s.counts.n ≤ 8 = omega (arith, four) in
    record {
      setup = setup;
      primary = ap (λ (l : List ℕ). not (list_any (nat_eq 0) l) && true) none;
      enough = omega (arith, fast, live);
      short = interval;
      signatures = lasting s.height;
      each = (record { client = clients; honest = ap (list_any (nat_eq 0)) honest; op = short; flow = eight; again = eight }, tt);
    }
