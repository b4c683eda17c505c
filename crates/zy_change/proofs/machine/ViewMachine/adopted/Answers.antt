use Rattle.std.proofs.Common.{◌≡◌, ℕ, Bool, false, List, length, map, replicate, Some, None, sym, ap, ◌∙◌, subst}
use Rattle.std.proofs.lemmas.List.{with_items_is}
use Rattle.std.specs.Vec.{with_items}
use Rattle.zy_base.specs.declared.step.Mode.TheVariants.{Active}
use Rattle.zy_parts.specs.declared.reports.Began.{Began}
use Rattle.zy_parts.specs.declared.reports.Change.{Change}
use Rattle.zy_vframes.specs.declared.frame.ViewCert.{ViewCert}
use Rattle.zy_change.specs.declared.kept.Chosen.{Chosen}
use Rattle.zy_change.specs.Fit.{IsCertified}
use Rattle.zy_change.specs.Views.{Views, Slots, change_past, began_past}
use Rattle.zy_change.proofs.BeginningLemmas.{adopted-fit}
use Rattle.zy_change.proofs.machine.ViewMachine.adopted.Goals as goal
use Rattle.zy_change.proofs.machine.ViewMachine.adopted.Goals.{After-self-12-1}

hated : (c : After-self-12-1) → (with_items c.self.inside.hated c.forget_all.new.hated).items ≡ replicate c.self.inside.counts.n false
hated c =
    with_items_is c.self.inside.hated c.forget_all.new.hated (c.forget_all.ensures.len ∙ ap length c.deref_mut.ensures.value ∙ sym c.self.inside.hated.ok.0)
    ∙ c.forget_all.ensures.all
    ∙ ap (λ (l : List Bool). replicate (length l) false) c.deref_mut.ensures.value
    ∙ ap (λ n. replicate n false) c.self.invariant.hated

changes : (c : After-self-12-1) → (with_items c.self.inside.changes c.drop_changes.new.changes).items ≡ map (change_past c.args.cert.new.stmt.view.0) c.self.inside.changes.items
changes c =
    with_items_is c.self.inside.changes c.drop_changes.new.changes (c.drop_changes.ensures.len ∙ ap length c.deref_mut-2.ensures.value ∙ sym c.self.inside.changes.ok.0)
    ∙ c.drop_changes.ensures.changes
    ∙ ap (λ (l : Slots Change). map (change_past c.args.cert.new.stmt.view.0) l) c.deref_mut-2.ensures.value

begans : (c : After-self-12-1) → (with_items c.self.inside.begans c.drop_begans.new.begans).items ≡ map (began_past c.args.cert.new.stmt.view.0) c.self.inside.begans.items
begans c =
    with_items_is c.self.inside.begans c.drop_begans.new.begans (c.drop_begans.ensures.len ∙ ap length c.deref_mut-3.ensures.value ∙ sym c.self.inside.begans.ok.0)
    ∙ c.drop_begans.ensures.begans
    ∙ ap (λ (l : Slots Began). map (began_past c.args.cert.new.stmt.view.0) l) c.deref_mut-3.ensures.value

-- it begins, and so much is still kept
abbrev begun : ViewCert → Chosen → Slots Change → List Bool → Slots Began → Views → Views
begun cert chosen changes hated begans v =
    record v {
      mode = Active cert.new.stmt.view;
      last_view = cert.new.stmt.view;
      began_place = chosen.place;
      began_head = chosen.head;
      view_cert = Some cert;
      specs = None;
      changes = changes;
      hated = hated;
      begans = begans;
      accepted = None;
      waiting = None;
    }

pub returns : goal.returns
returns c =
    let past = c.args.cert.new.stmt.view.0 in
    let is : Slots Change → List Bool → Slots Began → Views → Views = begun c.args.cert c.args.chosen in
    let those : Slots Began = (with_items c.self.inside.begans c.drop_begans.new.begans).items in
    let who : List Bool = (with_items c.self.inside.hated c.forget_all.new.hated).items in
    let now = c.args.self.now in
    ap (is (with_items c.self.inside.changes c.drop_changes.new.changes).items who those) c.self.view_is
    ∙ ap (λ (l : Slots Change). is l who those now) (changes c ∙ ap (λ (v : Views). map (change_past past) v.changes) c.self.view_is)
    ∙ ap (λ (l : List Bool). is (map (change_past past) now.changes) l those now) (hated c ∙ ap (λ (v : Views). replicate v.counts.n false) c.self.view_is)
    ∙ ap (λ (l : Slots Began). is (map (change_past past) now.changes) (replicate now.counts.n false) l now) (begans c ∙ ap (λ (v : Views). map (began_past past) v.begans) c.self.view_is)

pub invariant_of-self : goal.invariant_of-self
invariant_of-self c =
    rw (hated c, changes c, begans c)
    (adopted-fit _ c.args.cert c.args.chosen c.self.invariant
    (subst (λ (v : Views). IsCertified v.counts v.interval c.args.cert c.args.chosen) (sym c.self.view_is) c.requires))
