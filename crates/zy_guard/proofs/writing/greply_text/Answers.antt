use Rattle.std.proofs.Common.{◌≡◌, ◌∙◌, ℕ, List, Result, Ok, Err, ap, sym}
use Rattle.std.specs.Prelude.{IfOk}
use Rattle.zy_base.specs.declared.want.Want.{Want}
use Rattle.zy_guard.specs.Lines.{guard_reply_text, raw_text}
use Rattle.zy_guard.specs.declared.values.GuardReply.TheVariants.{Plain}
use Rattle.zy_guard.proofs.ReplyLaws.{plain_is, other_is, other_raw}
use Rattle.zy_guard.proofs.writing.greply_text.Goals as goal

as_text : (result : Result (List ℕ) Want) (text other : List ℕ) → IfOk result (λ t. t ≡ text) → text ≡ other → IfOk result (λ t. t ≡ other)
as_text (Ok t) text other is same = is ∙ same
as_text (Err want) text other is same = tt

pub returns-in-Ok-clause-said : goal.returns-in-Ok-clause-said
returns-in-Ok-clause-said c =
    λ reply fits is. as_text c.reply_text.result _ (guard_reply_text reply) c.reply_text.ensures (ap guard_reply_text (sym (plain_is c.args.bytes.now c.in-Ok.reply reply fits is c.in-Ok.ensures.exact)))

pub returns-in-Ok-clause-raw : goal.returns-in-Ok-clause-raw
returns-in-Ok-clause-raw c = λ none. absurd (none (Plain c.in-Ok.reply) c.in-Ok.ensures.found.0 c.in-Ok.ensures.found.1)

pub returns-in-Err-NotReply-clause-said : goal.returns-in-Err-NotReply-clause-said
returns-in-Err-NotReply-clause-said c =
    λ reply fits is. as_text c.other_text.result _ (guard_reply_text reply) c.other_text.ensures (other_is c.args.bytes.now reply fits is (rw c.in-Err-NotReply.field-0-is at c.in-Err-NotReply.ensures.exact))

pub returns-in-Err-NotReply-clause-raw : goal.returns-in-Err-NotReply-clause-raw
returns-in-Err-NotReply-clause-raw c = λ none. as_text c.other_text.result _ (raw_text c.args.bytes.now) c.other_text.ensures (other_raw c.args.bytes.now none)
