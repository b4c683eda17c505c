use Rattle.std.proofs.Common.{arith, ◌≡◌, ◌∙◌, take, drop, refl, sym, length-drop}
use Rattle.std.proofs.lemmas.List.{take_all}
use Rattle.std.proofs.lemmas.Slice.Eq.{slice_eq-Decides}
use Rattle.std.proofs.lemmas.Bool.Decides.{Decides-eqb}
use Rattle.zy_lms.specs.Lms.{candidate_root}
use Rattle.zy_lms.proofs.verification.verify_as.Goals as goal

pub returns-in-Some : goal.returns-in-Some
returns-in-Some c =
    let public = c.args.public.now in
    let key_root : take 32 (drop 24 public) ≡ drop 24 public = take_all 32 (drop 24 public) (omega (arith, length-drop 24 public, c.told-public)) in
    let root : c.in-Some.root.0 ≡ candidate_root c.args.height c.args.ots (take 16 (drop 8 public)) c.args.message.now c.args.sig.now =
    rw c.copy_from_slice.ensures.after at c.in-Some.ensures.root in
    let type_at = c.signature_len-type_at.ensures in
    let same = slice_eq-Decides Decides-eqb c.in-Some.root.0 (take 32 (drop 24 public)) c.eq.result c.eq.ensures in (
      λ yes. record {
        key_len = c.told-public;
        key_type = c.requires.key_type;
        key_ots = c.requires.key_ots;
        len = omega (arith, c.if-sig-type_at.false, type_at, c.levels.ensures);
        leaf = rw (c.u32_at.ensures, c.leaf_count.ensures) at c.if-u32_at-leaf_count.false;
        ots_form = c.in-Some.ensures.form.0 refl;
        type = rw (c.u32_at-else-u32_at-leaf_count.ensures, type_at, c.number.ensures) at c.if-u32_at-number.false;
        root = sym root ∙ same.0 yes ∙ key_root;
      },
      λ valid. same.1 (root ∙ valid.root ∙ sym key_root),
    )
