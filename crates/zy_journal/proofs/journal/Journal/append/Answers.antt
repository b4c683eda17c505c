-- What the two writes of an append leave, over any disk.
use Rattle.std.proofs.Common.{◌≡◌, ◌⊎◌, ◌+◌, List, ℕ, Some, length, sym, ◌∙◌, subst}
use Rattle.zy_journal.specs.Disk.{Only, IsOnly, LeavesOnly, Torn, with_bytes}
use Rattle.zy_journal.specs.Journal.{IsEnd, Has, HasOrNot}
use Rattle.zy_journal.proofs.Appends.{stored_bytes, appended, each_append, append_has, append_ends}
use Rattle.zy_journal.proofs.Moments.{weaker}
use Rattle.zy_journal.proofs.Told.{if_some, from_some, some_is, was_told}
use Rattle.zy_journal.proofs.journal.Journal.append.Goals as goal

pub returns-in-Did-clause-any_moment : goal.returns-in-Did-clause-any_moment
returns-in-Did-clause-any_moment g c =
    let old = c.args.disk.now in
    let new = c.put_behind.new.disk in
    let contents = g.D.Disk.contents old in
    let gate = c.self.inside.gate in
    let bytes = c.as_slice.result.now in
    let piece = c.args.piece.now in
    let Leaves : (List ℕ → Type 0) → Type 0 = λ P. LeavesOnly g.D.Disk.moment g.D.Disk.left_since old new P in
    if_some contents (λ file. Leaves (HasOrNot file piece)) (λ file is.
    let at = from_some contents (λ f. g.D.Disk.may_leave old f × Only f (g.D.Disk.may_leave old) × IsEnd f c.args.self) file c.requires.end is in
    let end = subst (λ (n : ℕ). IsEnd file n) (sym c.self.view_is) at.2 in
    let stored : bytes ≡ stored_bytes piece = c.as_slice.ensures.value ∙ c.in-Ok.ensures in
    let run = from_some contents (λ f. Leaves (λ image. Torn (gate + 1) (length bytes) f image ⊎ Torn gate 1 (with_bytes (gate + 1) bytes f) image)) file c.put_behind.ensures.any_moment is in
    weaker g.D.Disk.moment g.D.Disk.left_since old new (λ image. Torn (gate + 1) (length bytes) file image ⊎ Torn gate 1 (with_bytes (gate + 1) bytes file) image) (HasOrNot file piece)
    (each_append file gate piece bytes end c.requires.piece stored) run)

pub returns-clause-any_moment : goal.returns-clause-any_moment
returns-clause-any_moment g c =
    let old = c.args.disk.now in
    let new = c.put_behind.new.disk in
    let contents = g.D.Disk.contents old in
    let gate = c.self.inside.gate in
    let bytes = c.as_slice.result.now in
    let piece = c.args.piece.now in
    let Leaves : (List ℕ → Type 0) → Type 0 = λ P. LeavesOnly g.D.Disk.moment g.D.Disk.left_since old new P in
    if_some contents (λ file. Leaves (HasOrNot file piece)) (λ file is.
    let at = from_some contents (λ f. g.D.Disk.may_leave old f × Only f (g.D.Disk.may_leave old) × IsEnd f c.args.self) file c.requires.end is in
    let end = subst (λ (n : ℕ). IsEnd file n) (sym c.self.view_is) at.2 in
    let stored : bytes ≡ stored_bytes piece = c.as_slice.ensures.value ∙ c.in-Ok.ensures in
    let run = from_some contents (λ f. Leaves (λ image. Torn (gate + 1) (length bytes) f image ⊎ Torn gate 1 (with_bytes (gate + 1) bytes f) image)) file c.put_behind.ensures.any_moment is in
    weaker g.D.Disk.moment g.D.Disk.left_since old new (λ image. Torn (gate + 1) (length bytes) file image ⊎ Torn gate 1 (with_bytes (gate + 1) bytes file) image) (HasOrNot file piece)
    (each_append file gate piece bytes end c.requires.piece stored) run)

pub returns-in-Did-clause-has : goal.returns-in-Did-clause-has
returns-in-Did-clause-has g c =
    let old = c.args.disk.now in
    let new = c.put_behind.new.disk in
    let contents = g.D.Disk.contents old in
    let gate = c.self.inside.gate in
    let bytes = c.as_slice.result.now in
    let piece = c.args.piece.now in
    if_some contents _ (λ file is.
    let at = from_some contents (λ f. g.D.Disk.may_leave old f × Only f (g.D.Disk.may_leave old) × IsEnd f c.args.self) file c.requires.end is in
    let end = subst (λ (n : ℕ). IsEnd file n) (sym c.self.view_is) at.2 in
    let stored : bytes ≡ stored_bytes piece = c.as_slice.ensures.value ∙ c.in-Ok.ensures in
    let done = from_some contents (λ f. IsOnly (appended f gate bytes) (g.D.Disk.contents new) (g.D.Disk.may_leave new)) file c.in-Did.ensures.done is in
    if_some (g.D.Disk.contents new) (Has file piece) (λ now is_now. append_has file gate piece bytes now end c.requires.piece stored (some_is now (appended file gate bytes) (sym is_now ∙ done.told))))

pub returns-in-Did-clause-end : goal.returns-in-Did-clause-end
returns-in-Did-clause-end g c =
    let old = c.args.disk.now in
    let new = c.put_behind.new.disk in
    let contents = g.D.Disk.contents old in
    let gate = c.self.inside.gate in
    let bytes = c.as_slice.result.now in
    let piece = c.args.piece.now in
    if_some (g.D.Disk.contents new) (λ now. g.D.Disk.may_leave new now × Only now (g.D.Disk.may_leave new) × IsEnd now (gate + 5 + length piece)) (λ now is_now.
    let was = was_told contents (g.D.Disk.contents new) now c.put_behind.ensures.told is_now in
    let file = was.0 in
    let is : contents ≡ Some file = was.1 in
    let at = from_some contents (λ f. g.D.Disk.may_leave old f × Only f (g.D.Disk.may_leave old) × IsEnd f c.args.self) file c.requires.end is in
    let end = subst (λ (n : ℕ). IsEnd file n) (sym c.self.view_is) at.2 in
    let stored : bytes ≡ stored_bytes piece = c.as_slice.ensures.value ∙ c.in-Ok.ensures in
    let done = from_some contents (λ f. IsOnly (appended f gate bytes) (g.D.Disk.contents new) (g.D.Disk.may_leave new)) file c.in-Did.ensures.done is in
    let same : now ≡ appended file gate bytes = some_is now (appended file gate bytes) (sym is_now ∙ done.told) in (
      subst (λ (f : List ℕ). g.D.Disk.may_leave new f) (sym same) done.image,
      λ image left. done.only image left ∙ sym same,
      append_ends file gate piece bytes now end c.requires.piece stored same,
    ))
