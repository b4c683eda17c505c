-- A step by which nothing is said, gained or changed is lawful.
use Rattle.std.proofs.Common.{ℕ, List, sym, subst}
use Rattle.zy_base.specs.Machine.{Rules}
use Rattle.zy_law_views.proofs.IdleFrames.{IsIdle}
use Rattle.zy_law_views.specs.Steps.{IsLawfulStep, IsWorldOf}
use Rattle.zy_chain.specs.declared.entry.Entry.{Entry}
use Rattle.zy_law.specs.World.{World}
use Rattle.zy_table.specs.Deeds.{Outcome}
use Rattle.zy_table.specs.State.{State}
use Rattle.zy_table.specs.declared.deeds.Act.{Act}
use Rattle.zy_law_views.specs.Texts.{Texts}
use Rattle.zy_law_views.specs.Rows.{IsReady}

pub idle_lawful : {S : Type 0} (R : Rules S) (interval : ℕ) (texts : Texts) (w : World) (r : ℕ) (s : State S) (history : List Entry) → IsReady R interval w r s history → IsWorldOf R interval w texts → (o : Outcome S) → IsIdle s o
    → IsLawfulStep R interval texts w r s history o
idle_lawful {S} R interval texts w r s history ready kept o is =
    let of : State S → List Act → Outcome S = λ state acts. record { answer = o.answer; state = state; deeds = record { sent = o.deeds.sent; acts = acts } } in
    subst (λ (state : State S). IsLawfulStep R interval texts w r s history (of state o.deeds.acts)) (sym is.state)
    (subst (λ (acts : List Act). IsLawfulStep R interval texts w r s history (of s acts)) (sym is.acts)
    (record { may = tt; tied = ready.tied; signer = ready.signer; interval_is = ready.interval_is; world = kept; gained = tt; works = λ work. work }))
