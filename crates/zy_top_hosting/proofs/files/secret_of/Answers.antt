use Rattle.std.proofs.Common.{ℕ, List, Ok, Err, refl, subst}
use Rattle.std.proofs.lemmas.Result.{err_from_is_err_and}
use Rattle.zy_edge.specs.Files.{Held, content_of}
use Rattle.zy_group.proofs.TextLaws.{text_read}
use Rattle.zy_group.specs.Reading.{IsRead, toml_of}
use Rattle.zy_group.specs.Secret.{text_secret}
use Rattle.zy_top_hosting.proofs.FileLaws.{file_read, file_refused, file_text}
use Rattle.zy_top_hosting.proofs.files.secret_of.Goals as goal

pub returns-in_err-read_secret-clause-told : goal.returns-in_err-read_secret-clause-told
returns-in_err-read_secret-clause-told g c =
    let p = err_from_is_err_and c.from_residual-in_err-read_secret.result c.from_residual-in_err-read_secret.ensures.1 in
    let judged = c.in_err-read_secret.ensures in
    let read = text_read 11 (text_secret c.args.left) c.deref.result.now (Err c.in_err-read_secret.field-0.0) refl judged.read judged.no_text in
    rw (p.1, p.2)
    (file_refused (text_secret c.args.left) {H = Held} (g.F.Files.held c.args.files.now) (λ held. content_of held c.args.name.now) c.in_ok-text.text c.in_err-read_secret.field-0.0 c.in_ok-text.ensures.bytes
    (subst (λ (t : List ℕ). IsRead ((text_secret c.args.left) (toml_of t)) (Err c.in_err-read_secret.field-0.0)) c.deref.ensures.value read))

pub returns-clause-told : goal.returns-clause-told
returns-clause-told g c =
    let judged = c.in_ok-read_secret.ensures in
    let read = text_read 11 (text_secret c.args.left) c.deref.result.now (Ok c.in_ok-read_secret.field-0) refl judged.read judged.no_text in
    file_read (text_secret c.args.left) {H = Held} (g.F.Files.held c.args.files.now) (λ held. content_of held c.args.name.now) c.in_ok-text.text c.in_ok-read_secret.field-0 c.in_ok-text.ensures.bytes
    (subst (λ (t : List ℕ). IsRead ((text_secret c.args.left) (toml_of t)) (Ok c.in_ok-read_secret.field-0)) c.deref.ensures.value read)

pub returns-clause-text : goal.returns-clause-text
returns-clause-text g c =
    file_text {H = Held} (g.F.Files.held c.args.files.now) (λ held. content_of held c.args.name.now) c.in_ok-text.text c.in_ok-text.ensures.bytes
