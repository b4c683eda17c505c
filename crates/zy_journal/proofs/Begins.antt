-- What a file leaves of which a journal is made.
use Rattle.std.proofs.Common.{◌≡◌, ◌≢◌, ◌⊎◌, inl, inr, ⊎_elim, ℕ, ◌≤◌, true, false, cond, Option, IfSome, is_some, Result, Ok, Err, IfOk, OnOk, List, [], ◌∷◌, ◌++◌, length, take, drop, refl, sym, ◌∙◌, ap, subst, arith, append_assoc, length-append, take-append-drop, length-take, length-drop}
use Rattle.std.proofs.lemmas.Bool.{cases_eq, cases_Bool}
use Rattle.std.proofs.lemmas.List.{drop-drop}
use Rattle.zy_base.specs.declared.ids.Digest.{Digest}
use Rattle.zy_journal.specs.Disk.{with_bytes, StandsAt, Torn, Only, IsOnly}
use Rattle.zy_journal.specs.Journal.{mark_of, head_of, is_blank, Holds, StandsFor, Keeps, opened, IsMarked, IsAtGate, IsGate}
use Rattle.zy_journal.specs.Starting.{IsShutAtFirst, IsShort}
use Rattle.zy_journal.specs.declared.reading.OpenFault.{OpenFault}
use Rattle.zy_journal.proofs.Told.{if_some, from_some, some_is, was_told}
use Rattle.zy_journal.proofs.Files.{put_at, torn_front, torn_byte}
use Rattle.zy_journal.proofs.Lists.{same_front, short_blank, shut_blank, used_file, long_used, blank_none, length-head}

-- the bytes behind the first of an empty journal
abbrev pub made_bytes : Digest → List ℕ
made_bytes identity = mark_of identity ++ 0 ∷ []

-- from a blank file each blank one keeps what it stands for
pub blank_keeps : (identity : Digest) (file image : List ℕ) → is_blank file ≡ true → is_blank image ≡ true → Keeps identity file image
blank_keeps identity file image blank blank' pieces stands = inl (blank', blank_none identity file pieces blank stands)

pub same_keeps : (identity : Digest) (file image : List ℕ) → image ≡ file → Keeps identity file image
same_keeps identity file image is pieces stands = subst (λ (l : List ℕ). StandsFor identity l pieces) (sym is) stands

opened_blank : (identity : Digest) (file : List ℕ) → is_blank file ≡ true → opened identity file ≡ head_of identity ++ (0 ∷ drop 42 file)
opened_blank identity file blank = ap (λ b. cond b (head_of identity ++ (0 ∷ drop 42 file)) file) blank

pub opened_used : (identity : Digest) (file : List ℕ) → is_blank file ≡ false → opened identity file ≡ file
opened_used identity file used = ap (λ b. cond b (head_of identity ++ (0 ∷ drop 42 file)) file) used

pub blank_of : (file : List ℕ) → IsShutAtFirst file → is_blank file ≡ true
blank_of file shut = ap is_blank shut.2 ∙ shut_blank shut.0 shut.1 shut.3

module _ (identity : Digest) (size : length identity.0 ≡ 32) where
  length-made : length (made_bytes identity) ≡ 41
  length-made = omega (arith, size, length-append (mark_of identity) (0 ∷ []))

  module _ (first : ℕ) (rest : List ℕ) (shut : first ≢ 1) where
    abbrev whole : List ℕ
    whole = first ∷ rest

    abbrev more : List ℕ
    more = drop (length (made_bytes identity)) rest

    written : with_bytes 1 (made_bytes identity) whole ≡ first ∷ (made_bytes identity ++ more)
    written = put_at (first ∷ []) rest (made_bytes identity) 1 refl

    pub begun : with_bytes 0 (1 ∷ []) (with_bytes 1 (made_bytes identity) whole) ≡ opened identity whole
    begun =
        ap (λ (l : List ℕ). with_bytes 0 (1 ∷ []) l) written ∙ put_at [] (first ∷ (made_bytes identity ++ more)) (1 ∷ []) 0 refl
        ∙ ap (λ (l : List ℕ). 1 ∷ l) (append_assoc (mark_of identity) (0 ∷ []) more)
        ∙ ap (λ (n : ℕ). head_of identity ++ (0 ∷ drop n rest)) length-made
        ∙ sym (opened_blank identity whole (shut_blank first rest shut))

    pub head_keeps : (image : List ℕ) → Torn 1 (length (made_bytes identity)) whole image → Keeps identity whole image
    head_keeps image torn =
        blank_keeps identity whole image (shut_blank first rest shut) (ap is_blank (torn_front (first ∷ []) rest image 1 (length (made_bytes identity)) refl torn) ∙ shut_blank first (drop 1 image) shut)

    pub open_keeps : (image : List ℕ) → Torn 0 1 (with_bytes 1 (made_bytes identity) whole) image → Keeps identity whole image
    open_keeps image torn =
        let one = torn_byte [] first (made_bytes identity ++ more) image 0 refl (subst (λ (f : List ℕ). Torn 0 1 f image) written torn) in
        elim (cases_eq one.byte 1) [
          | inl is_open ↦
              let spelled : image ≡ head_of identity ++ (0 ∷ more) = one.is ∙ ap (λ (b : ℕ). b ∷ (made_bytes identity ++ more)) is_open ∙ ap (λ (l : List ℕ). 1 ∷ l) (append_assoc (mark_of identity) (0 ∷ []) more) in
              let holds : Holds identity image [] = record { gate = 0; behind = more; spelled = spelled; shut = λ e. absurd cc; fits = tt; size = size } in
              λ pieces stands. inr (subst (λ (ps : List (List ℕ)). Holds identity image ps) (sym (blank_none identity whole pieces (shut_blank first rest shut) stands)) holds)
          | inr not_open ↦ blank_keeps identity whole image (shut_blank first rest shut) (ap is_blank one.is ∙ shut_blank one.byte (made_bytes identity ++ more) not_open)
        ]

-- each image of the two writes
pub each_begun : (identity : Digest) (file head : List ℕ) → length identity.0 ≡ 32 → IsShutAtFirst file → head ≡ made_bytes identity
    → (image : List ℕ) → Torn 1 (length head) file image ⊎ Torn 0 1 (with_bytes 1 head file) image → Keeps identity file image
each_begun identity file head size shut is image torn =
    let Tears : List ℕ → List ℕ → Type 0 = λ h f. Torn 1 (length h) f image ⊎ Torn 0 1 (with_bytes 1 h f) image in
    let torn' : Tears (made_bytes identity) (shut.0 ∷ shut.1) = subst (λ (f : List ℕ). Tears (made_bytes identity) f) shut.2 (subst (λ (h : List ℕ). Tears h file) is torn) in
    subst (λ (f : List ℕ). Keeps identity f image) (sym shut.2) (⊎_elim (head_keeps identity size shut.0 shut.1 shut.3 image) (open_keeps identity size shut.0 shut.1 shut.3 image) torn')

-- and what they leave in the end
pub all_begun : (identity : Digest) (file head : List ℕ) → length identity.0 ≡ 32 → IsShutAtFirst file → head ≡ made_bytes identity → with_bytes 0 (1 ∷ []) (with_bytes 1 head file) ≡ opened identity file
all_begun identity file head size shut is =
    ap (λ (h : List ℕ). with_bytes 0 (1 ∷ []) (with_bytes 1 h file)) is
    ∙ subst (λ (f : List ℕ). with_bytes 0 (1 ∷ []) (with_bytes 1 (made_bytes identity) f) ≡ opened identity f) (sym shut.2) (begun identity size shut.0 shut.1 shut.3)

-- ---- a short file

abbrev pub shut_file : List ℕ → List ℕ
shut_file file = 0 ∷ drop 1 file

pub shut_written : (file : List ℕ) → with_bytes 0 (0 ∷ []) file ≡ shut_file file
shut_written file = put_at [] file (0 ∷ []) 0 refl

zero_shut : ◌≡◌ {A = ℕ} 0 1 → ⊥
zero_shut e = absurd cc

pub shut_keeps : (identity : Digest) (file image : List ℕ) → IsShort file → Torn 0 1 file image → Keeps identity file image
shut_keeps identity file image short torn = blank_keeps identity file image short.0 (short_blank image (omega (arith, torn.no_longer, short.1)))

-- what is kept of the shut file is kept of the file
pub keeps_through : (identity : Digest) (file image : List ℕ) → IsShort file → Keeps identity (shut_file file) image → Keeps identity file image
keeps_through identity file image short keeps pieces stands =
    let none = blank_none identity file pieces short.0 stands in
    subst (λ (ps : List (List ℕ)). StandsFor identity image ps) (sym none) (keeps [] (inl (shut_blank 0 (drop 1 file) zero_shut, refl)))

pub shut_opened : (identity : Digest) (file : List ℕ) → IsShort file → opened identity (shut_file file) ≡ opened identity file
shut_opened identity file short =
    opened_blank identity (shut_file file) (shut_blank 0 (drop 1 file) zero_shut) ∙ ap (λ (l : List ℕ). head_of identity ++ (0 ∷ l)) (drop-drop 41 1 file) ∙ sym (opened_blank identity file short.0)

-- ---- the first gate

abbrev pub used_or_marked : Digest → List ℕ → Type 0
used_or_marked identity file = is_blank file ≡ false → IsMarked identity file

pub gate_of_opened : (identity : Digest) (file : List ℕ) → length identity.0 ≡ 32 → IsGate (opened identity file) 41
gate_of_opened identity file size = elim (cases_Bool (is_blank file)) [
  | inl blank ↦ subst (λ (l : List ℕ). IsGate l 41) (sym (opened_blank identity file blank)) (record {
    before = [];
    behind = 0 ∷ drop 42 file;
    stands = record {
      head = head_of identity;
      long = length-head identity size;
      spelled = refl;
      used = long_used (mark_of identity ++ (0 ∷ drop 42 file)) (omega (arith, size, length-append (mark_of identity) (0 ∷ drop 42 file)));
      fits = tt;
      place = refl;
    };
    inside = omega arith;
  })
  | inr used ↦ subst (λ (l : List ℕ). IsGate l 41) (sym (opened_used identity file used)) (record {
    before = [];
    behind = drop 41 file;
    stands = record {
      head = take 41 file;
      long = omega (arith, length-take 41 file, used_file file used);
      spelled = sym (take-append-drop 41 file);
      used = used;
      fits = tt;
      place = refl;
    };
    inside = omega (arith, length-drop 41 file, used_file file used);
  })
]

-- ---- whose journal it is

-- 40 bytes that stand there are the mark, or it isn't there
pub marked_as : (identity : Digest) (file found : List ℕ) → found ≡ mark_of identity → StandsAt found 1 file → IsMarked identity file
marked_as identity file found is stands = subst (λ (l : List ℕ). StandsAt l 1 file) is stands

pub not_marked : (identity : Digest) (file found : List ℕ) → length found ≡ length (mark_of identity) → found ≢ mark_of identity → StandsAt found 1 file → IsMarked identity file → ⊥
not_marked identity file found size other stands marked =
    other (same_front found (mark_of identity) _ _ size (sym stands ∙ marked)).0

-- a file of at least 42 bytes that begins with 1 isn't blank
pub used_of : (file : List ℕ) → 42 ≤ length file → StandsAt (1 ∷ []) 0 file → is_blank file ≡ false
used_of file long stands = ap is_blank stands ∙ long_used (drop 1 file) (omega (arith, length-drop 1 file))

-- what a journal leaves that was opened, over any disk
pub gate_of_open : (result : Result ℕ OpenFault) (before after : Option (List ℕ)) (images : List ℕ → Type 0) (identity : Digest)
    → OnOk result (IfSome before (λ _. length identity.0 ≡ 32)) → is_some after ≡ is_some before → IfOk result (λ gate. gate ≡ 41)
    → OnOk result (IfSome before (λ file. IsOnly (opened identity file) after images)) → IfOk result (IsAtGate after images)
gate_of_open (Err e) before after images identity size stays first done = tt
gate_of_open (Ok gate) before after images identity size stays first done = if_some after (λ now. images now × Only now images × IsGate now gate) (λ now is.
    let was = was_told before after now stays is in
    let made = from_some before (λ f. IsOnly (opened identity f) after images) was.0 done was.1 in
    let same : now ≡ opened identity was.0 = some_is now (opened identity was.0) (sym is ∙ made.told) in (
      subst images (sym same) made.image,
      λ image left. made.only image left ∙ sym same,
      subst (λ (l : List ℕ). IsGate l gate) (sym same) (subst (λ (n : ℕ). IsGate (opened identity was.0) n) (sym first) (gate_of_opened identity was.0 (from_some before (λ _. length identity.0 ≡ 32) was.0 size was.1))),
    ))
