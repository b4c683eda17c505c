-- Frames that are put in one by one, and requests that are read one by one.
use Rattle.std.proofs.Common.{◌≡◌, ℕ, suc, ◌+◌, ◌<◌, List, [], ◌∷◌, ◌++◌, length, map, take, drop, drop-cons, get_or, Option, Some, None, refl, sym, ap, ◌∙◌, append_assoc, arith}
use Rattle.std.specs.Prelude.{option_map}
use Rattle.std.specs.List.{AllByRecursion}
use Rattle.std.specs.Option.{option_and_then}
use Rattle.std.proofs.lemmas.List.{append-nil, map-append, map_more}
use Rattle.zy_base.specs.declared.ids.Party.{Party}
use Rattle.zy_parts.specs.declared.signed.Signed.{Signed}
use Rattle.zy_parts.specs.declared.statements.Ask.{Ask}
use Rattle.zy_table.specs.Sending.{copies}
use Rattle.zy_world.specs.Shown.{request_in, requests_in}
use Rattle.zy_world_law.specs.World.{Mail, mail_to}

-- one copy more
pub copies_more : (bytes : List ℕ) (to : List Party) (i : ℕ) (party : Party) → i < length to
    → map mail_to (copies bytes (take (i + 1) to)) ≡ map mail_to (copies bytes (take i to)) ++ mail_to (get_or to i party, bytes) ∷ []
copies_more bytes to i party within =
    ap (map mail_to) (map_more (λ p. (p, bytes)) to i party within)
    ∙ map-append mail_to (copies bytes (take i to)) ((get_or to i party, bytes) ∷ [])

pub mails_more : (before mails more : List Mail) (mail : Mail) (bytes : List ℕ) (to slice : List Party) (i : ℕ) (party : Party) → slice ≡ to → i < length slice
    → mails ≡ before ++ map mail_to (copies bytes (take i to)) → mail ≡ mail_to (get_or slice i party, bytes) → more ≡ mails ++ mail ∷ []
    → more ≡ before ++ map mail_to (copies bytes (take (i + 1) to))
mails_more before mails more mail bytes to slice i party same within held new is =
    let last : Mail = mail_to (get_or slice i party, bytes) in
    let sent : List Party → List Mail = λ parties. map mail_to (copies bytes parties) in
    is
    ∙ ap (λ (l : List Mail). l ++ mail ∷ []) held
    ∙ append_assoc before (sent (take i to)) (mail ∷ [])
    ∙ ap (λ (m : Mail). before ++ (sent (take i to) ++ m ∷ [])) new
    ∙ ap (λ (l : List Party). before ++ (sent (take i l) ++ last ∷ [])) (sym same)
    ∙ ap (λ (l : List Mail). before ++ l) (sym (copies_more bytes slice i party within))
    ∙ ap (λ (l : List Party). before ++ sent (take (i + 1) l)) same

-- ---- requests

pub all_more : {X : Type 0} (P : X → Type 0) (xs : List X) (x : X) → AllByRecursion P xs → P x → AllByRecursion P (xs ++ x ∷ [])
all_more P [] x all one = (one, tt)
all_more P (first ∷ xs) x all one = (all.0, all_more P xs x all.1 one)

moved_in : {A : Type 0} (found : List A) (x : A) (rest : Option (List A)) → option_map (λ xs. (found ++ x ∷ []) ++ xs) rest ≡ option_map (λ xs. found ++ xs) (option_map (λ xs. x ∷ xs) rest)
moved_in found x None = refl
moved_in {A = A} found x (Some xs) = ap (λ (l : List A). Some l) (append_assoc found (x ∷ []) xs)

-- what was found, with the requests of the rest
abbrev pub found_with : List Mail → List (Signed Ask) → List ℕ → Option (List (Signed Ask))
found_with mails found rest = option_map (λ asks. found ++ asks) (requests_in mails rest)

module _ (mails : List Mail) (found : List (Signed Ask)) (numbers slice : List ℕ) (i : ℕ) (same : slice ≡ numbers) (within : i < length slice) (all : Option (List (Signed Ask)))
    (held : found_with mails found (drop i numbers) ≡ all) where
  rest_is : drop i numbers ≡ get_or slice i 0 ∷ drop (suc i) numbers
  rest_is = ap (λ (l : List ℕ). drop i l) (sym same) ∙ drop-cons slice i 0 within ∙ ap (λ (l : List ℕ). get_or slice i 0 ∷ drop (suc i) l) same

  abbrev read_with : Option (Signed Ask) → Option (List (Signed Ask))
  read_with o = option_map (λ asks. found ++ asks) (option_and_then (λ ask. option_map (λ asks. ask ∷ asks) (requests_in mails (drop (suc i) numbers))) o)

  read : read_with (request_in mails (get_or slice i 0)) ≡ all
  read = ap (found_with mails found) (sym rest_is) ∙ held

  pub found_one : (ask : Signed Ask) → Some ask ≡ request_in mails (get_or slice i 0) → found_with mails (found ++ ask ∷ []) (drop (i + 1) numbers) ≡ all
  found_one ask there =
      let next : i + 1 ≡ suc i = omega arith in
      ap (λ (n : ℕ). found_with mails (found ++ ask ∷ []) (drop n numbers)) next
      ∙ moved_in found ask (requests_in mails (drop (suc i) numbers)) ∙ ap read_with there ∙ read

  pub found_none : None ≡ request_in mails (get_or slice i 0) → None ≡ all
  found_none none = ap read_with none ∙ read

pub found_all : (mails : List Mail) (found : List (Signed Ask)) (rest : List ℕ) (all : Option (List (Signed Ask))) → rest ≡ [] → found_with mails found rest ≡ all → Some found ≡ all
found_all mails found rest all empty held =
    ap (λ (l : List (Signed Ask)). Some l) (sym (append-nil found)) ∙ ap (found_with mails found) (sym empty) ∙ held
