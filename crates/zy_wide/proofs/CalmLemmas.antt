-- The lines of a calm schedule can be said.
use Rattle.std.proofs.Common.{ℕ, zero, suc, ◌+◌, ◌*◌, ◌^◌, ◌<◌, ◌≤◌, List, [], ◌∷◌, ◌++◌, FitsSigned, pos, w64, rules, arith}
use Rattle.std.specs.Prelude.{All, codes, map}
use Rattle.std.specs.List.{AllByRecursion, flat_map, range_with_len}
use Rattle.std.proofs.lemmas.List.Elements.{All-append, All-cons, All-nil}
use Rattle.zy_schedule.specs.Making.{numbered}
use Rattle.zy_schedule.specs.Texts.{IsSaid}
use Rattle.zy_schedule.specs.declared.line.Line.{Line}
use Rattle.zy_schedule.specs.declared.line.Line.TheVariants.{Ask, Flow}
use Rattle.zy_tuple.specs.declared.values.Op.TheVariants.{Out}
use Rattle.zy_tuple.specs.Values.{IsPrintable, IsTuple}
use Rattle.zy_wide.specs.Calm.{job_lines, mute_line}

pub mutes_said : (a k : ℕ) → a + k ≤ 16 → All IsSaid (map mute_line (range_with_len a k))
mutes_said a zero below = All-nil IsSaid
mutes_said a (suc k) below =
    let mute : IsSaid (mute_line a) = ([], omega arith) in
    All-cons IsSaid (mute_line a) (map mute_line (range_with_len (a + 1) k)) mute (mutes_said (a + 1) k (omega arith))

job_printable : AllByRecursion IsPrintable (codes "job")
job_printable = search rules

job_said : (i : ℕ) → i < 2 ^ 32 → IsTuple (numbered (codes "job") i)
job_said i below =
    let fits : FitsSigned w64 (pos i) = omega (arith, below) in
    ((omega arith, omega arith), ((omega arith, job_printable), (fits, tt)))

one_job_said : (n i : ℕ) → n ≤ 16 → i < 2 ^ 32 → (others : List Line) → All IsSaid others → All IsSaid (job_lines n i ++ others)
one_job_said n i few below others all =
    let ask : IsSaid (Ask (record { 0 = 0 }) (Out (numbered (codes "job") i))) = ([], (omega arith, job_said i below)) in
    let flow : IsSaid (Flow (2 * n)) = ([], omega (arith, few)) in
    All-append IsSaid (job_lines n i) others
    (All-cons IsSaid (Ask (record { 0 = 0 }) (Out (numbered (codes "job") i))) (Flow (2 * n) ∷ []) ask
    (All-cons IsSaid (Flow (2 * n)) [] flow (All-nil IsSaid)))
    all

pub jobs_said : (n a k : ℕ) → n ≤ 16 → a + k ≤ 2 ^ 32 → All IsSaid (flat_map (job_lines n) (range_with_len a k))
jobs_said n a zero few below = All-nil IsSaid
jobs_said n a (suc k) few below =
    one_job_said n a few (omega arith) (flat_map (job_lines n) (range_with_len (a + 1) k)) (jobs_said n (a + 1) k few (omega arith))
