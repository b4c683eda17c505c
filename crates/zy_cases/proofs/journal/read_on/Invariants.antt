use Rattle.std.proofs.Common.{Some}
use Rattle.zy_journal.specs.Journal.{IsAtGate}
use Rattle.zy_journal.specs.Memory.{contents_of, left_by}
use Rattle.zy_cases.proofs.journal.read_on.Given as goal

abbrev pub invariant-records : goal.invariant-records
invariant-records l = IsAtGate (Some (contents_of l.disk)) (left_by l.disk.first l.disk.past) l.reading
