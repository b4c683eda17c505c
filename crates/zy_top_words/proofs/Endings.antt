-- A command whose report is due writes it, where no object fails.
use Rattle.std.proofs.Common.{◌≡◌, ℕ, ◌⊎◌, inl, inr, true, List, Option, Some, None, IfSome, Err, refl, arith}
use Rattle.zy_edge.specs.Faults.{IsCounted, Rose}
use Rattle.zy_edge.specs.Files.{Held}
use Rattle.zy_top_words.specs.Calls.{IsSent}
use Rattle.zy_top_words.specs.Ends.{IsAnswer, IsOwnAnswer, IsReport, Verdict, is_read_fault, is_write_fault}
use Rattle.zy_top_words.specs.declared.exit.Exit.{Exit}
use Rattle.zy_top_words.specs.declared.exit.Exit.TheVariants as exits

pub rose : (before after : ℕ) → IsCounted true before after → Rose before after
rose before after counted = grind (arith, counted.0, counted.1)

finishes : (v : Verdict) (exit : Exit) (read_before read_after before after : ℕ) → IsAnswer v exit → IsCounted (is_read_fault exit) read_before read_after
    → IsCounted (is_write_fault exit) before after → IsReport v → ¬ Rose read_before read_after → ¬ Rose before after → (exit ≡ exits.Done) ⊎ (exit ≡ exits.Want)
finishes (Verdict.Report report) exits.Done x y before after answer read counted due still calm = inl refl
finishes (Verdict.Report report) exits.Want x y before after answer read counted due still calm = inr refl
finishes (Verdict.Report report) exits.ReadFault x y before after answer read counted due still calm = absurd (still (rose x y read))
finishes (Verdict.Report report) exits.WriteFault x y before after answer read counted due still calm = absurd (calm (rose before after counted))
finishes (Verdict.Report report) (exits.Premise event what) x y before after answer read counted due still calm = absurd cc
finishes (Verdict.Report report) (exits.Usage word) x y before after answer read counted due still calm = absurd cc
finishes (Verdict.Report report) exits.LinkFault x y before after answer read counted due still calm = absurd cc
finishes (Verdict.Report report) exits.TurnsSpent x y before after answer read counted due still calm = absurd cc
finishes (Verdict.Report report) (exits.Text line rule) x y before after answer read counted due still calm = absurd cc
finishes (Verdict.Report report) (exits.Group field) x y before after answer read counted due still calm = absurd cc
finishes (Verdict.Report report) exits.TooLong x y before after answer read counted due still calm = absurd cc
finishes (Verdict.Report report) exits.DiskFault x y before after answer read counted due still calm = absurd cc
finishes (Verdict.Report report) exits.NotJournal x y before after answer read counted due still calm = absurd cc
finishes (Verdict.Report report) (exits.Damaged gate) x y before after answer read counted due still calm = absurd cc
finishes (Verdict.Report report) exits.JournalFull x y before after answer read counted due still calm = absurd cc
finishes (Verdict.Refused refusal) exit x y before after answer read counted due still calm = absurd due
finishes (Verdict.Broke front refusal) exit x y before after answer read counted due still calm = absurd due
finishes Verdict.Hosted exit x y before after answer read counted due still calm = absurd due

-- over files, if they are told
pub told_finishes : (told : Option Held) (verdict : Held → Verdict) (exit : Exit) (read_before read_after before after : ℕ)
    → IfSome told (λ held. IsAnswer (verdict held) exit) → IsCounted (is_read_fault exit) read_before read_after → IsCounted (is_write_fault exit) before after
    → IfSome told (λ held. IsReport (verdict held) → ¬ Rose read_before read_after → ¬ Rose before after → (exit ≡ exits.Done) ⊎ (exit ≡ exits.Want))
told_finishes None verdict exit x y before after answer read counted = tt
told_finishes (Some held) verdict exit x y before after answer read counted =
    λ due still calm. finishes (verdict held) exit x y before after answer read counted due still calm

-- a text that was sent not to its end
pub cut_short : (report : List ℕ) (exit : Exit) (old new : Option (List ℕ)) (before after : ℕ) → IsSent old new report (Err exit) → IsCounted (is_write_fault exit) before after
    → IsOwnAnswer (Verdict.Report report) exit old new before after
cut_short report exits.WriteFault old new before after sent counted = record {
  answer = tt;
  no_read = λ is. cc;
  written = sent;
  complete = λ due calm. absurd (calm (rose before after counted));
}
cut_short report exits.Want old new before after sent counted = record {
  answer = tt;
  no_read = λ is. cc;
  written = sent;
  complete = λ due calm. inr refl;
}
cut_short report exits.Done old new before after sent counted = absurd sent
cut_short report (exits.Usage word) old new before after sent counted = absurd sent
cut_short report exits.LinkFault old new before after sent counted = absurd sent
cut_short report exits.TurnsSpent old new before after sent counted = absurd sent
cut_short report exits.ReadFault old new before after sent counted = absurd sent
cut_short report (exits.Text line rule) old new before after sent counted = absurd sent
cut_short report (exits.Group field) old new before after sent counted = absurd sent
cut_short report (exits.Premise event what) old new before after sent counted = absurd sent
cut_short report exits.TooLong old new before after sent counted = absurd sent
cut_short report exits.DiskFault old new before after sent counted = absurd sent
cut_short report exits.NotJournal old new before after sent counted = absurd sent
cut_short report (exits.Damaged gate) old new before after sent counted = absurd sent
cut_short report exits.JournalFull old new before after sent counted = absurd sent
