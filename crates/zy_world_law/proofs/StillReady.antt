-- A replica is as ready as it was, and can work on, where others act, clients ask for more, and more texts are kept.
use Rattle.std.proofs.Common.{◌≡◌, ℕ, Bool, List}
use Rattle.zy_base.specs.Machine.{Rules}
use Rattle.zy_base.specs.declared.ids.Digest.{Digest}
use Rattle.zy_chain.specs.declared.entry.Entry.{Entry}
use Rattle.zy_law.specs.Lawful.{IsLawful}
use Rattle.zy_law.specs.Steps.{IsGrown, grown}
use Rattle.zy_law.specs.World.{Spoken, Stand, World}
use Rattle.zy_law_steps.proofs.AtStart.{work_grown}
use Rattle.zy_table.specs.State.{State}
use Rattle.zy_law_views.proofs.TiedGrown.{tied_more}
use Rattle.zy_law_views.specs.Cores.{core_of}
use Rattle.zy_law_views.specs.Rows.{IsReady}
use Rattle.zy_law_views.specs.Work.{IsAtWork}

module _ {S : Type 0} (R : Rules S) (w : World) (asked : ℕ → List Entry) (said : ℕ → List Spoken) (past : ℕ → List Stand) (kept : Digest → Entry → Bool) (more : IsGrown w asked said past kept) where
  abbrev pub later : World
  later = grown w asked said past kept

  module _ (interval r : ℕ) (s : State S) (told : said r ≡ w.said r) (stood : past r ≡ w.past r) where
    pub still_ready : (h : List Entry) → IsLawful later → IsReady R interval w r s h → IsReady R interval later r s h
    still_ready h lawful is =
        record {
          lawful = lawful;
          links = is.links;
          correct = record { within = is.correct.within; honest = is.correct.honest };
          tied = tied_more w asked said past kept more.asks more.says more.stands more.keeps R interval r (core_of s) h told stood is.tied;
          signer = is.signer;
          interval_is = is.interval_is;
        }

    pub still_works : IsAtWork interval w r s → IsAtWork interval later r s
    still_works is = work_grown interval r w s asked said past kept more told stood is
