use Rattle.std.proofs.Common.{◌≡◌, List, ℕ, Ok, Err, Result, subst, ap, ◌∙◌}
use Rattle.std.specs.Prelude.{IfOk}
use Rattle.zy_tuple.specs.declared.fault.LineFault.{LineFault}
use Rattle.zy_tuple.specs.declared.values.Reply.{Reply}
use Rattle.zy_tuple.specs.Values.{IsReply}
use Rattle.zy_tuple.specs.Texts.{reply_text}
use Rattle.zy_tuple.specs.Reading.{Gives, reply_read}
use Rattle.zy_tuple.proofs.OpLaws.{reply_takes, reply_again}
use Rattle.zy_tuple.proofs.reading.reply_text_read.Goals as goal

is_found : (line : List ℕ) (r : Result Reply LineFault) → Gives (λ x. x) r (reply_read line) → IfOk r (λ reply. IsReply reply × (line ≡ reply_text reply))
is_found line (Ok reply) h = reply_takes line reply h
is_found line (Err e) h = tt

pub returns-clause-found : goal.returns-clause-found
returns-clause-found c = is_found c.args.text.now c.reply_of.result c.reply_of.ensures

pub returns-clause-only : goal.returns-clause-only
returns-clause-only c = λ reply fits e. subst (λ read. Gives (λ x. x) c.reply_of.result read) (ap reply_read e ∙ reply_again reply fits) c.reply_of.ensures
