-- What a client's certificate rests on stays as more is asked, said, stood and kept.
use Rattle.std.proofs.Common.{◌≡◌, ℕ, Bool, List, [], ◌∷◌, Some}
use Rattle.std.specs.Prelude.{slice_get, Contains}
use Rattle.std.specs.List.{AllByRecursion}
use Rattle.zy_base.specs.declared.ids.Digest.{Digest}
use Rattle.zy_base.specs.declared.ids.Party.{Party}
use Rattle.zy_base.specs.declared.ids.Party.TheVariants.{Replica, Client}
use Rattle.zy_chain.specs.declared.entry.Entry.{Entry}
use Rattle.zy_law.proofs.GrownLemmas.{vouched_grown, backed_grown}
use Rattle.zy_law.specs.Steps.{grown}
use Rattle.zy_law.specs.World.{Spoken, Stand, Statement, World}
use Rattle.zy_law_normal.specs.Acts.{spec_statement}
use Rattle.zy_law_normal.specs.Tied.{IsVouchedBy}
use Rattle.zy_parts.specs.declared.signed.Signed.{Signed}
use Rattle.zy_parts.specs.declared.statements.Local.{Local}
use Rattle.zy_table.specs.declared.client.Commit.{Commit}
use Rattle.zy_world_law.specs.Good.{IsCommitBacked, local_to}
use Rattle.zy_world_law.specs.World.{Texts}
use Rattle.zy_world_law.proofs.KeptTexts.{Stay, stay_kept}

module _ (u : World) (asked : ℕ → List Entry) (said : ℕ → List Spoken) (past : ℕ → List Stand) (kept : Digest → Entry → Bool)
    (asks : (q : ℕ) (e : Entry) → Contains (u.asked q) e → Contains (asked q) e)
    (says : (q i : ℕ) (x : Spoken) → slice_get (u.said q) i ≡ Some x → slice_get (said q) i ≡ Some x)
    (stands : (q i : ℕ) (b : Stand) → slice_get (u.past q) i ≡ Some b → slice_get (past q) i ≡ Some b) where
  abbrev later : World
  later = grown u asked said past kept

  vouched_later : (s : Statement) (by : Party) → IsVouchedBy u s by → IsVouchedBy later s by
  vouched_later s (Replica id) vouched = vouched_grown u asked said past kept asks says stands s id.0 vouched
  vouched_later s (Client id) vouched = vouched

  all_later : (s : Statement) (list : List (Signed Local)) → AllByRecursion (λ vote. IsVouchedBy u s vote.by) list → AllByRecursion (λ vote. IsVouchedBy later s vote.by) list
  all_later s [] all = tt
  all_later s (vote ∷ list) all = (vouched_later s vote.by all.0, all_later s list all.1)

  pub commit_later : (texts more : Texts) → Stay texts more → (c : Commit) → IsCommitBacked u texts c → IsCommitBacked later more c
  commit_later texts more stay c is =
      record {
        certified = backed_grown u asked said past kept asks says stands u.counts.cert (spec_statement c.spec) is.certified;
        reply = stay_kept texts more stay c.reply is.reply;
        counted = all_later (local_to c.spec) c.locals.votes is.counted;
      }
