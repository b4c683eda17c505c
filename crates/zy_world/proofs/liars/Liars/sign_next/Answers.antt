use Rattle.std.proofs.Common.{◌≡◌, Some, None, Result, Ok, Err, OnOk, sym, ap, ◌∙◌}
use Rattle.std.proofs.lemmas.Option.{same_Some}
use Rattle.zy_seal.specs.Sealing.{SealerState, spent_one}
use Rattle.zy_world.specs.Shown.{Keyed, key_in, with_key}
use Rattle.zy_world.proofs.KeyLemmas.{key_again, key_back}
use Rattle.zy_world.proofs.liars.Liars.sign_next.Goals as goal

on_ok : {T E P Q : Type 0} (r : Result T E) → (P → Q) → OnOk r P → OnOk r Q
on_ok (Ok x) f p = f p
on_ok (Err e) f p = p

pub returns-in-Some-clause-spent_one : goal.returns-in-Some-clause-spent_one
returns-in-Some-clause-spent_one c key is =
    let found : c.in-Some.key ≡ key = same_Some c.in-Some.key key (sym c.in-Some.is ∙ c.take.ensures.taken ∙ is) in
    let old = c.args.self.now in
    on_ok c.sign_with.result
    (λ (put : c.sign_with.new.self ≡ with_key c.take.new.self c.args.liar (Some (spent_one c.in-Some.key))).
    put
    ∙ ap (λ (k : Keyed). with_key k c.args.liar (Some (spent_one c.in-Some.key))) c.take.ensures.left
    ∙ key_again old c.args.liar None (Some (spent_one c.in-Some.key))
    ∙ ap (λ (k : SealerState). with_key old c.args.liar (Some (spent_one k))) found)
    c.sign_with.ensures.spent_one

pub returns-in-Some-clause-same : goal.returns-in-Some-clause-same
returns-in-Some-clause-same c key is err =
    let old = c.args.self.now in
    let there : key_in old c.args.liar ≡ Some c.in-Some.key = sym c.take.ensures.taken ∙ c.in-Some.is in
    c.sign_with.ensures.unchanged err
    ∙ ap (λ (k : Keyed). with_key k c.args.liar (Some c.in-Some.key)) c.take.ensures.left
    ∙ key_back old c.args.liar c.in-Some.key there
