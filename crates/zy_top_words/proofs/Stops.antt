-- What stops before the first write has written nothing.
use Rattle.std.proofs.Common.{ℕ, List, [], Option, Some, None, IfSome, Err, refl}
use Rattle.std.proofs.KnownBytes.{Appends-nil, Keeps-refl}
use Rattle.zy_schedule.specs.declared.fault.ScheduleFault.{ScheduleFault}
use Rattle.zy_schedule.specs.declared.fault.ScheduleFault.TheVariants as faults
use Rattle.std.specs.Prelude.{IsTrue}
use Rattle.zy_top_words.specs.Calls.{IsFileRead, IsSent, exit_of_fault, is_reading}
use Rattle.zy_top_words.specs.Ends.{AppendsFront, IsWritten, Verdict}
use Rattle.zy_top_words.specs.declared.exit.Exit.{Exit}
use Rattle.zy_top_words.specs.declared.exit.Exit.TheVariants as exits

no_front : (taken : Option (List ℕ)) (report : List ℕ) → AppendsFront taken taken report
no_front taken report = (report, record { front = []; whole = refl; taken = Appends-nil taken })

pub IsWritten-none : (verdict : Verdict) (exit : Exit) (taken : Option (List ℕ)) → IsTrue (is_reading exit) → IsWritten verdict exit taken taken
IsWritten-none (Verdict.Refused refusal) exit taken is = Keeps-refl taken
IsWritten-none Verdict.Hosted exit taken is = tt
IsWritten-none (Verdict.Report report) exits.Want taken is = no_front taken report
IsWritten-none (Verdict.Report report) exits.ReadFault taken is = no_front taken report
IsWritten-none (Verdict.Report report) (exits.Text line rule) taken is = no_front taken report
IsWritten-none (Verdict.Report report) (exits.Group field) taken is = no_front taken report
IsWritten-none (Verdict.Report report) exits.TooLong taken is = no_front taken report
IsWritten-none (Verdict.Report report) exits.Done taken is = absurd cc
IsWritten-none (Verdict.Report report) exits.WriteFault taken is = absurd cc
IsWritten-none (Verdict.Report report) (exits.Usage word) taken is = absurd cc
IsWritten-none (Verdict.Report report) exits.LinkFault taken is = absurd cc
IsWritten-none (Verdict.Report report) exits.TurnsSpent taken is = absurd cc
IsWritten-none (Verdict.Report report) (exits.Premise event what) taken is = absurd cc
IsWritten-none (Verdict.Report report) exits.DiskFault taken is = absurd cc
IsWritten-none (Verdict.Report report) exits.NotJournal taken is = absurd cc
IsWritten-none (Verdict.Report report) (exits.Damaged gate) taken is = absurd cc
IsWritten-none (Verdict.Report report) exits.JournalFull taken is = absurd cc
IsWritten-none (Verdict.Broke front refusal) exits.Want taken is = no_front taken front
IsWritten-none (Verdict.Broke front refusal) exits.ReadFault taken is = no_front taken front
IsWritten-none (Verdict.Broke front refusal) (exits.Text line rule) taken is = no_front taken front
IsWritten-none (Verdict.Broke front refusal) (exits.Group field) taken is = no_front taken front
IsWritten-none (Verdict.Broke front refusal) exits.TooLong taken is = no_front taken front
IsWritten-none (Verdict.Broke front refusal) exits.Done taken is = absurd cc
IsWritten-none (Verdict.Broke front refusal) exits.WriteFault taken is = absurd cc
IsWritten-none (Verdict.Broke front refusal) (exits.Usage word) taken is = absurd cc
IsWritten-none (Verdict.Broke front refusal) exits.LinkFault taken is = absurd cc
IsWritten-none (Verdict.Broke front refusal) exits.TurnsSpent taken is = absurd cc
IsWritten-none (Verdict.Broke front refusal) (exits.Premise event what) taken is = absurd cc
IsWritten-none (Verdict.Broke front refusal) exits.DiskFault taken is = absurd cc
IsWritten-none (Verdict.Broke front refusal) exits.NotJournal taken is = absurd cc
IsWritten-none (Verdict.Broke front refusal) (exits.Damaged gate) taken is = absurd cc
IsWritten-none (Verdict.Broke front refusal) exits.JournalFull taken is = absurd cc

pub IsWritten-stopped : {A : Type 0} (told : Option A) (verdict : A → Verdict) (exit : Exit) (taken : Option (List ℕ)) → IsTrue (is_reading exit)
    → IfSome told (λ held. IsWritten (verdict held) exit taken taken)
IsWritten-stopped None verdict exit taken is = tt
IsWritten-stopped (Some held) verdict exit taken is = IsWritten-none (verdict held) exit taken is

pub unread-stops : (told : Option (List ℕ)) (exit : Exit) → IsFileRead told (Err exit) → IsTrue (is_reading exit)
unread-stops told exits.TooLong read = refl
unread-stops told exits.ReadFault read = refl
unread-stops told exits.Want read = refl
unread-stops told exits.Done read = absurd read
unread-stops told (exits.Usage word) read = absurd read
unread-stops told exits.LinkFault read = absurd read
unread-stops told exits.TurnsSpent read = absurd read
unread-stops told exits.WriteFault read = absurd read
unread-stops told (exits.Text line rule) read = absurd read
unread-stops told (exits.Group field) read = absurd read
unread-stops told (exits.Premise event what) read = absurd read
unread-stops told exits.DiskFault read = absurd read
unread-stops told exits.NotJournal read = absurd read
unread-stops told (exits.Damaged gate) read = absurd read
unread-stops told exits.JournalFull read = absurd read

pub fault-stops : (fault : ScheduleFault) → IsTrue (is_reading (exit_of_fault fault))
fault-stops (faults.Text line rule) = refl
fault-stops faults.Want = refl

-- nothing was written, and memory is wanted
pub IsSent-none : (before : Option (List ℕ)) (report : List ℕ) → IsSent before before report (Err exits.Want)
IsSent-none before report = (report, record { front = []; whole = refl; taken = Appends-nil before })
