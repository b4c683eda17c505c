use Rattle.std.proofs.Common.{◌≡◌, ◌∷◌, [], true, false, Ok, refl, sym, subst}
use Rattle.std.proofs.lemmas.List.{append-nil}
use Rattle.zy_node.specs.Keeping.{HasRoom, KeepsAs, all_owed}
use Rattle.zy_node.specs.Turn.{stays}
use Rattle.zy_node.proofs.StoreLemmas.{is_too_full, one_not_stored, one_stored}
use Rattle.zy_node.proofs.keeping.Keeping.append.Goals as goal

pub returns-in-Ok-clause-keeps : goal.returns-in-Ok-clause-keeps
returns-in-Ok-clause-keeps g c =
    let old = c.args.disk.now in
    let new = c.append.new.disk in
    let piece = c.args.piece.now in
    let stored = one_stored g.D.Disk.contents g.D.Disk.may_leave g.D.Disk.moment g.D.Disk.left_since old new c.self.inside.journal c.in-Ok.journal piece
    c.in-Ok.ensures.next c.in-Ok.ensures.end c.in-Ok.ensures.has c.in-Ok.ensures.any_moment c.in-Ok.ensures.told (λ full. let no : false ≡ true = c.in-Ok.ensures.full.1 full in absurd cc) in
    subst (λ u. KeepsAs g.D.Disk.contents g.D.Disk.may_leave g.D.Disk.moment g.D.Disk.left_since (stays u.host) (piece ∷ []) u (Ok (record { host = c.self.inside.host; gate = c.in-Ok.journal; owed = all_owed c.self.inside.owed })) old new) c.self.view_is
    (refl, sym (append-nil (all_owed c.self.inside.owed)), stored)

pub returns-in-Err-Disk-clause-keeps : goal.returns-in-Err-Disk-clause-keeps
returns-in-Err-Disk-clause-keeps g c = one_not_stored g.D.Disk.contents g.D.Disk.may_leave g.D.Disk.moment g.D.Disk.left_since c.args.disk.now c.append.new.disk c.args.piece.now c.in-Err-Disk.ensures.any_moment

pub returns-in-Err-Full-clause-keeps : goal.returns-in-Err-Full-clause-keeps
returns-in-Err-Full-clause-keeps g c =
    let full = (rw c.in-Err-Full.field-0-is at c.in-Err-Full.ensures.full).0 refl in (
      subst (λ u. HasRoom u.gate (c.args.piece.now ∷ []) → ⊥) c.self.view_is (is_too_full c.self.inside.journal c.args.piece.now full),
      one_not_stored g.D.Disk.contents g.D.Disk.may_leave g.D.Disk.moment g.D.Disk.left_since c.args.disk.now c.append.new.disk c.args.piece.now c.in-Err-Full.ensures.any_moment,
    )

pub returns-clause-keeps : goal.returns-clause-keeps
returns-clause-keeps g c = one_not_stored g.D.Disk.contents g.D.Disk.may_leave g.D.Disk.moment g.D.Disk.left_since c.args.disk.now c.append.new.disk c.args.piece.now c.in-Err-Want.ensures.any_moment
