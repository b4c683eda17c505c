use Rattle.std.proofs.Common.{◌≡◌, ℕ, ◌∷◌, [], List, OnOk, subst}
use Rattle.std.specs.Prelude.{IfOk}
use Rattle.zy_world_law.specs.Texts.{digest_of}
use Rattle.zy_world_setup.specs.Kept.{Keeps, Clashes}
use Rattle.zy_world_setup.proofs.KeptLemmas.{entry_joined}
use Rattle.zy_world_setup.proofs.kept.KeptTexts.keep_entry.Goals as goal

pub returns-clause-digest : goal.returns-clause-digest
returns-clause-digest c =
    let is = entry_joined c.args.client c.args.stamp c.args.op.now _ c.front_of-front.ensures in
    subst (λ (text : List ℕ). IfOk c.keep_joined.result (λ d. d ≡ digest_of text)) is c.keep_joined.ensures.digest

pub returns-clause-keeps : goal.returns-clause-keeps
returns-clause-keeps c =
    let is = entry_joined c.args.client c.args.stamp c.args.op.now _ c.front_of-front.ensures in
    subst (λ (text : List ℕ). OnOk c.keep_joined.result (Keeps (text ∷ []) c.args.self.now c.keep_joined.new.self)) is c.keep_joined.ensures.keeps

pub returns-clause-clash : goal.returns-clause-clash
returns-clause-clash c d err =
    let is = entry_joined c.args.client c.args.stamp c.args.op.now _ c.front_of-front.ensures in
    subst (λ (text : List ℕ). Clashes (text ∷ []) c.args.self.now d) is (c.keep_joined.ensures.clash d err)
