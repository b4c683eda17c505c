-- What is known of a step that owes this, before anything is signed.
use Rattle.std.proofs.Common.{◌≡◌, ◌≤◌, false, refl, ap, sym, ◌∙◌}
use Rattle.std.specs.Prelude.{Result, Ok, Err, IfOk}
use Rattle.std.specs.List.{list_any}
use Rattle.std.proofs.lemmas.Bool.{le-ltb}
use Rattle.zy_base.specs.Machine.{Rules}
use Rattle.zy_base.specs.declared.step.Answer.TheVariants.{Taken}
use Rattle.zy_base.specs.declared.want.Want.{Want}
use Rattle.zy_seal.specs.Sealing.{SealerState, signatures_by}
use Rattle.zy_table.specs.State.{State}
use Rattle.zy_table.specs.Deeds.{Going, ends}
use Rattle.zy_table.specs.Leaving.{concluded, goes, is_overspent}
use Rattle.zy_table.specs.Beginning.{confirms, finished}
use Rattle.zy_replica_views.proofs.FollowLemmas.{quiet}

-- a step ends that signed no more than it could, and confirmed nothing
pub taken_is : {S : Type 0} (R : Rules S) (s : State S) (g : Going S) → list_any confirms g.deeds.acts ≡ false → g.state.sealer.key.next ≤ signatures_by g.state.sealer.key.height → ends Taken g ≡ finished R s (goes Taken g)
taken_is R s g none within =
    let e : is_overspent g.state.sealer ≡ false = le-ltb _ _ within in
    let done : ends Taken g ≡ concluded s (goes Taken g) = rw e refl in
    done ∙ ap (concluded s) (sym (quiet R Taken g none))

-- a fact for all pens, and what it is of
pub owed_for_all : {A : Type 0} {Q : Type 0} (P : A → Q → Type 0) (r : Result A Want) → ((q : Q) → IfOk r (λ a. P a q)) → IfOk r (λ a. (q : Q) → P a q)
owed_for_all P (Ok a) is = is
owed_for_all P (Err want) is = tt

-- another fact of what a call gives
pub owed_so : {A : Type 0} (P Q : A → Type 0) (r : Result A Want) → ((a : A) → P a → Q a) → IfOk r P → IfOk r Q
owed_so P Q (Ok a) so is = so a is
owed_so P Q (Err want) so is = tt
