-- The characters of a quoted text, read one after the other.
use Rattle.std.proofs.Common.{◌≡◌, ℕ, suc, ◌+◌, ◌<◌, Bool, true, false, not, ◌&&◌, cond, eqb, List, [], ◌∷◌, ◌++◌, length, take, drop, Option, Some, None, Ok, Err, refl, sym, ap, ◌∙◌, inl, inr, append_assoc, arith}
use Rattle.std.specs.List.{prefix_len}
use Rattle.std.proofs.lemmas.Bool.{and_parts, cases_Bool, not-true}
use Rattle.std.proofs.lemmas.Bool.Decides.{leb_tells}
use Rattle.std.proofs.lemmas.List.{length-append}
use Rattle.zy_tuple.specs.declared.values.Field.TheVariants.{Text}
use Rattle.zy_tuple.specs.Values.{is_printable}
use Rattle.zy_tuple.specs.Reading.{prepend, is_plain, quoted, short_text}

-- what was read before, and what is still read
abbrev pub behind : List ℕ → Option (List ℕ × List ℕ) → Option (List ℕ × List ℕ)
behind front None = None
behind front (Some read) = Some (front ++ read.0, read.1)

pub behind-prepend : (front : List ℕ) (c : ℕ) (read : Option (List ℕ × List ℕ)) → behind front (prepend c read) ≡ behind (front ++ c ∷ []) read
behind-prepend front c None = refl
behind-prepend front c (Some read) = ap (λ (text : List ℕ). Some (text, read.1)) (simp append_assoc)

behind-none : (read : Option (List ℕ × List ℕ)) → behind [] read ≡ read
behind-none None = refl
behind-none (Some read) = refl

behind-cons : (c : ℕ) (front : List ℕ) (read : Option (List ℕ × List ℕ)) → behind (c ∷ front) read ≡ prepend c (behind front read)
behind-cons c front None = refl
behind-cons c front (Some read) = refl

plain_read : (c : ℕ) (line : List ℕ) → is_plain c ≡ true → quoted false (c ∷ line) ≡ prepend c (quoted false line)
unfolding quoted
plain_read c line plain =
    let unlike_slash = and_parts (is_printable c && not (eqb c 34)) (not (eqb c 92)) plain in
    let unlike_quote = and_parts (is_printable c) (not (eqb c 34)) unlike_slash.0 in
    rw (not-true (eqb c 34) unlike_quote.1, not-true (eqb c 92) unlike_slash.1, unlike_quote.0) refl

-- plain characters are read as they stand
pub quoted-plain : (line : List ℕ) → behind (take (prefix_len is_plain line) line) (quoted false (drop (prefix_len is_plain line) line)) ≡ quoted false line
quoted-plain [] = behind-none (quoted false [])
quoted-plain (c ∷ line) =
    let n = prefix_len is_plain line in
    let split : ℕ → Option (List ℕ × List ℕ) = λ k. behind (take k (c ∷ line)) (quoted false (drop k (c ∷ line))) in
    let one_more : 1 + n ≡ suc n = omega arith in
    elim (cases_Bool (is_plain c)) [
      | inl plain ↦
          ap (λ (b : Bool). split (cond b (1 + n) 0)) plain ∙ ap split one_more
          ∙ behind-cons c (take n line) (quoted false (drop n line)) ∙ ap (prepend c) (quoted-plain line) ∙ sym (plain_read c line plain)
      | inr special ↦ ap (λ (b : Bool). split (cond b (1 + n) 0)) special ∙ behind-none (quoted false (c ∷ line))
    ]

-- no text has so many characters
pub behind-long : (front : List ℕ) (read : Option (List ℕ × List ℕ)) → 64 < length front → short_text (behind front read) ≡ Err 5
behind-long front None long = refl
behind-long front (Some read) long =
    elim (leb_tells (length (front ++ read.0)) 64) [
      | inl short ↦ absurd (omega (arith, long, short.1, length-append front read.0))
      | inr over ↦ ap (λ (b : Bool). cond b (Ok (Text (front ++ read.0), read.1)) (Err 5)) over.0
    ]
