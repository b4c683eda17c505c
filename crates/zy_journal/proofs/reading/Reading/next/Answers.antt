-- The gate at which the journal or the next reading stands.
use Rattle.std.proofs.Common.{◌≡◌, ◌+◌, ℕ, Some, length, sym, ap, ◌∙◌, subst}
use Rattle.zy_journal.specs.Disk.{Only, StandsAt}
use Rattle.zy_journal.specs.Finding.{HasLength}
use Rattle.zy_journal.specs.Journal.{IsGate, IsEnd, IsShut}
use Rattle.zy_journal.proofs.GateLemmas.{ends_at, record_behind, gate_behind}
use Rattle.zy_journal.proofs.Told.{if_some, from_some}
use Rattle.zy_journal.proofs.reading.Reading.next.Goals as goal

pub returns-in-Shut-clause-gate : goal.returns-in-Shut-clause-gate
returns-in-Shut-clause-gate g c =
    let old = c.args.disk.now in
    let new = c.find.new.disk in
    let gate = c.self.inside.gate in
    if_some (g.D.Disk.contents new) (λ file. g.D.Disk.may_leave new file × Only file (g.D.Disk.may_leave new) × IsEnd file c.at.result) (λ file is_new.
    let is : g.D.Disk.contents old ≡ Some file = sym c.find.ensures.rests.same ∙ is_new in
    let at = from_some (g.D.Disk.contents old) (λ f. g.D.Disk.may_leave old f × Only f (g.D.Disk.may_leave old) × IsGate f c.args.self) file c.requires is in
    let shut = from_some (g.D.Disk.contents old) (λ f. IsShut f gate) file c.in-Shut.ensures.found is in
    let here = subst (λ (n : ℕ). IsGate file n) (sym c.self.view_is) at.2 in (
      from_some (g.D.Disk.contents new) (g.D.Disk.may_leave new) file c.find.ensures.rests.image is_new,
      λ image left. at.1 image (c.find.ensures.rests.narrows image left),
      subst (λ (n : ℕ). IsEnd file n) (sym c.at.ensures) (ends_at file gate shut.0 here shut.1 shut.2),
    ))

pub returns-in-Ok-clause-gate : goal.returns-in-Ok-clause-gate
returns-in-Ok-clause-gate g c =
    let old = c.args.disk.now in
    let mid = c.find.new.disk in
    let new = c.piece_at.new.disk in
    let gate = c.self.inside.gate in
    let piece = c.in-Ok.piece in
    if_some (g.D.Disk.contents new) (λ file. g.D.Disk.may_leave new file × Only file (g.D.Disk.may_leave new) × IsGate file (gate + 5 + c.from.result)) (λ file is_new.
    let is_mid : g.D.Disk.contents mid ≡ Some file = sym c.piece_at.ensures.rests.same ∙ is_new in
    let is : g.D.Disk.contents old ≡ Some file = sym c.find.ensures.rests.same ∙ is_mid in
    let at = from_some (g.D.Disk.contents old) (λ f. g.D.Disk.may_leave old f × Only f (g.D.Disk.may_leave old) × IsGate f c.args.self) file c.requires is in
    let has = from_some (g.D.Disk.contents old) (λ f. HasLength f gate c.in-Record.len) file c.in-Record.ensures.found is in
    let stands = from_some (g.D.Disk.contents mid) (λ f. StandsAt piece (gate + 5) f) file c.in-Ok.ensures.piece is_mid in
    let here = subst (λ (n : ℕ). IsGate file n) (sym c.self.view_is) at.2 in
    let next : gate + 5 + length piece ≡ gate + 5 + c.from.result = ap (λ (n : ℕ). gate + 5 + n) (c.in-Ok.ensures.len ∙ sym c.from.ensures) in (
      from_some (g.D.Disk.contents new) (g.D.Disk.may_leave new) file c.piece_at.ensures.rests.image is_new,
      λ image left. at.1 image (c.find.ensures.rests.narrows image (c.piece_at.ensures.rests.narrows image left)),
      subst (λ (n : ℕ). IsGate file n) next (gate_behind file gate piece here (record_behind file gate c.in-Record.len piece has c.in-Ok.ensures.len stands)),
    ))
