-- Texts that were brought are kept, and those that were kept stay.
use Rattle.std.proofs.Common.{◌≡◌, ℕ, Bool, true, false, cond, List, [], ◌∷◌, Option, Some, None, Result, Ok, Err, refl, sym, ap, ◌∙◌, subst}
use Rattle.std.specs.List.{AllByRecursion}
use Rattle.std.specs.Str.{bytes_eq}
use Rattle.zy_base.specs.declared.ids.Digest.{Digest}
use Rattle.zy_admit.specs.Judging.{same_digest}
use Rattle.zy_world_law.specs.Good.{IsKept}
use Rattle.zy_world_law.specs.Texts.{digest_of, with_text, keep, keep_beside, keep_all, and_then, is_kept, is_text}
use Rattle.zy_world_law.specs.World.{Texts}
use Rattle.zy_world_law.proofs.Tests.{same_bytes, bytes_same, digest_is, digest_same}

-- nothing that was kept is gone
abbrev pub Stay : Texts → Texts → Type 0
Stay texts more = (d : Digest) (text : List ℕ) → texts d ≡ Some text → more d ≡ Some text

pub record IsKeeping (texts : Texts) (brought : List (List ℕ)) (more : Texts) : Type 0 where
  pub kept : AllByRecursion (IsKept more) brought
  pub stay : Stay texts more

abbrev done : Texts → Result Texts Digest
done texts = Ok texts

ok_is : (a b : Texts) → done a ≡ done b → a ≡ b
ok_is a b e = cc

module _ (texts : Texts) (text : List ℕ) where
  text_in : (b : Bool) → b ≡ true → cond b (Some text) (texts (digest_of text)) ≡ Some text
  text_in b is = ap (λ (b : Bool). cond b (Some text) (texts (digest_of text))) is

  beside : (free : texts (digest_of text) ≡ None) (d : Digest) (other : List ℕ) (b : Bool) → same_digest d (digest_of text) ≡ b → texts d ≡ Some other → cond b (Some text) (texts d) ≡ Some other
  beside free d other true same was =
      let there : texts (digest_of text) ≡ Some other = ap texts (sym (digest_is d (digest_of text) same)) ∙ was in absurd cc
  beside free d other false same was = was

  one_kept : (more : Texts) (o : Option (List ℕ)) → texts (digest_of text) ≡ o → keep_beside texts text o ≡ Ok more → IsKept more text × Stay texts more
  one_kept more None free e =
      let is : with_text texts text ≡ more = ok_is (with_text texts text) more e in
      subst (λ (t : Texts). IsKept t text × Stay texts t) is (
        text_in (same_digest (digest_of text) (digest_of text)) (digest_same (digest_of text)),
        λ d other was. beside free d other (same_digest d (digest_of text)) refl was,
      )
  one_kept more (Some kept) there e = same_kept (bytes_eq kept text) refl e where
    same_kept : (b : Bool) → bytes_eq kept text ≡ b → cond b (Ok texts) (Err (digest_of text)) ≡ Ok more → IsKept more text × Stay texts more
    same_kept true same is =
        let now : texts ≡ more = ok_is texts more is in
        subst (λ (t : Texts). IsKept t text × Stay texts t) now (there ∙ ap (λ (l : List ℕ). Some l) (same_bytes kept text same), λ d other was. was)
    same_kept false same is = absurd cc

pub stay_kept : (texts more : Texts) → Stay texts more → (text : List ℕ) → IsKept texts text → IsKept more text
stay_kept texts more stay text kept = stay (digest_of text) text kept

first_kept : (text : List ℕ) (brought : List (List ℕ)) (texts more : Texts) → ((next : Texts) → keep_all brought next ≡ Ok more → IsKeeping next brought more)
    → (r : Result Texts Digest) → keep texts text ≡ r → and_then r (keep_all brought) ≡ Ok more → IsKeeping texts (text ∷ brought) more
first_kept text brought texts more rest (Err d) is e = absurd cc
first_kept text brought texts more rest (Ok next) is e =
    let one = one_kept texts text next (texts (digest_of text)) refl is in
    let others = rest next e in
    record {
      kept = (others.stay (digest_of text) text one.0, others.kept);
      stay = λ d other was. others.stay d other (one.1 d other was);
    }

pub all_kept : (brought : List (List ℕ)) (texts more : Texts) → keep_all brought texts ≡ Ok more → IsKeeping texts brought more
all_kept [] texts more e = let is : texts ≡ more = ok_is texts more e in record { kept = tt; stay = subst (λ (t : Texts). Stay texts t) is (λ d text was. was) }
all_kept (text ∷ brought) texts more e = first_kept text brought texts more (λ next. all_kept brought next more) (keep texts text) refl e

-- ---- the test

pub kept_test : (texts : Texts) (text : List ℕ) → IsKept texts text → is_kept texts text ≡ true
kept_test texts text kept = ap (is_text text) kept ∙ bytes_same text

kept_by : (text : List ℕ) (o : Option (List ℕ)) → is_text text o ≡ true → o ≡ Some text
kept_by text None is = absurd cc
kept_by text (Some kept) is = ap (λ (l : List ℕ). Some l) (same_bytes kept text is)

pub test_kept : (texts : Texts) (text : List ℕ) → is_kept texts text ≡ true → IsKept texts text
test_kept texts text is = kept_by text (texts (digest_of text)) is
