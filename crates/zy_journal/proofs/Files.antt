-- Files that are written at a place, and what a crash may leave of them.
use Rattle.std.proofs.Common.{◌≡◌, ℕ, ◌+◌, ◌-◌, ◌<◌, ◌≤◌, List, [], ◌∷◌, ◌++◌, length, get_or, take, drop, refl, sym, ◌∙◌, ap, subst, arith, append_assoc, length-append, length-take, length-drop, take-append-drop}
use Rattle.std.proofs.lemmas.List.{take_at, drop_at, drop-drop, drop_more}
use Rattle.zy_journal.specs.Disk.{with_bytes, StandsAt, Torn, Follows, Only}

pub torn_same : (at n : ℕ) (file : List ℕ) → Torn at n file file
torn_same at n file = record { before = refl; after = refl; no_shorter = omega arith; no_longer = omega arith }

-- of a file that is the only image, a write leaves what it tears
pub torn_of : (at n : ℕ) (file : List ℕ) (old new : List ℕ → Type 0) → Only file old → Follows (Torn at n) old new → (image : List ℕ) → new image → Torn at n file image
torn_of at n file old new only follows image is =
    let from = follows image is in
    subst (λ (f : List ℕ). Torn at n f image) (only from.0 from.1) from.2

-- bytes put behind what stands before them
pub put_at : (front more bytes : List ℕ) (at : ℕ) → length front ≡ at → with_bytes at bytes (front ++ more) ≡ front ++ (bytes ++ drop (length bytes) more)
put_at front more bytes at size =
    let rest : drop (at + length bytes) (front ++ more) ≡ drop (length bytes) more =
    sym (drop-drop (length bytes) at (front ++ more)) ∙ ap (λ (l : List ℕ). drop (length bytes) l) (drop_at front more at size) in
    ap (λ (l : List ℕ). l ++ (bytes ++ drop (at + length bytes) (front ++ more))) (take_at front more at size) ∙ ap (λ (l : List ℕ). front ++ (bytes ++ l)) rest

-- what was written is one of the images of the write
pub written_torn : (at : ℕ) (bytes file : List ℕ) → at ≤ length file → Torn at (length bytes) file (with_bytes at bytes file)
written_torn at bytes file inside =
    let front = take at file in
    let size : length front ≡ at = omega (arith, length-take at file) in
    let rest = drop (at + length bytes) file in
    let long : length (with_bytes at bytes file) ≡ at + (length bytes + (length file - (at + length bytes))) =
    omega (arith, size, length-append front (bytes ++ rest), length-append bytes rest, length-drop (at + length bytes) file) in
    record {
      before = take_at front (bytes ++ rest) at size;
      after = ap (λ (l : List ℕ). drop (at + length bytes) l) (sym (append_assoc front bytes rest)) ∙ drop_at (front ++ bytes) rest (at + length bytes) (omega (arith, size, length-append front bytes));
      no_shorter = omega (arith, long);
      no_longer = omega (arith, long);
    }

-- what stands before a write stays
pub torn_front : (front more image : List ℕ) (at n : ℕ) → length front ≡ at → Torn at n (front ++ more) image → image ≡ front ++ drop at image
torn_front front more image at n size torn =
    sym (take-append-drop at image) ∙ ap (λ (l : List ℕ). l ++ drop at image) (torn.before ∙ take_at front more at size)

-- of a write of one byte all but this byte stays
pub record OneByte (front more image : List ℕ) : Type 0 where
  pub byte : ℕ
  pub is : image ≡ front ++ (byte ∷ more)

pub torn_byte : (front : List ℕ) (old : ℕ) (more image : List ℕ) (at : ℕ) → length front ≡ at → Torn at 1 (front ++ (old ∷ more)) image → OneByte front more image
torn_byte front old more image at size torn =
    let long : at < length image = omega (arith, torn.no_shorter, size, length-append front (old ∷ more)) in
    let behind : drop (at + 1) image ≡ more =
    torn.after ∙ ap (λ (l : List ℕ). drop (at + 1) l) (sym (append_assoc front (old ∷ []) more)) ∙ drop_at (front ++ old ∷ []) more (at + 1) (omega (arith, size, length-append front (old ∷ []))) in
    record {
      byte = get_or image at 0;
      is = torn_front front (old ∷ more) image at 1 size torn ∙ ap (λ (l : List ℕ). front ++ l) (drop_more image at 0 long ∙ ap (λ (l : List ℕ). get_or image at 0 ∷ l) behind);
    }

-- bytes that stand behind bytes
pub stands_then : (first second file : List ℕ) (at behind : ℕ) → behind ≡ at + length first → StandsAt first at file → StandsAt second behind file → StandsAt (first ++ second) at file
stands_then first second file at behind is here there =
    let far : behind + length second ≡ at + length (first ++ second) = omega (arith, is, length-append first second) in
    here ∙ ap (λ (k : ℕ). first ++ drop k file) (sym is) ∙ ap (λ (l : List ℕ). first ++ l) (there ∙ ap (λ (k : ℕ). second ++ drop k file) far)
    ∙ sym (append_assoc first second (drop (at + length (first ++ second)) file))
