-- The furthest of the marks of a list, as the list gets longer.
use Rattle.std.proofs.Common.{◌≡◌, ◌≢◌, ℕ, zero, suc, ◌<◌, ◌≤◌, ◌==◌, List, [], ◌∷◌, ◌++◌, All, filter, map, replicate, refl, ap, ◌∙◌, arith, append_assoc, append-nil}
use Rattle.std.proofs.lemmas.Bool.{eq-eqb, ne_eqb}
use Rattle.std.proofs.lemmas.List.{map-append}
use Rattle.std.proofs.lemmas.List.Elements.{All-push, filter-append}
use Rattle.zy_base.specs.declared.ids.Digest.{Digest}
use Rattle.zy_chain.specs.Stretch.{Mark}
use Rattle.zy_choose.specs.Choice.{heads_in}
use Rattle.zy_choose.specs.Furthest.{IsOne, IsTwo}

heads_in-append : (place : ℕ) (marks more : List Mark) → heads_in place (marks ++ more) ≡ heads_in place marks ++ heads_in place more
heads_in-append place marks more =
    ap (map (λ (m : Mark). m.head)) (filter-append (λ (m : Mark). m.place == place) marks more)
    ∙ map-append (λ (m : Mark). m.head) (filter (λ m. m.place == place) marks) (filter (λ m. m.place == place) more)

heads_in_here : (place : ℕ) (m : Mark) → m.place ≡ place → heads_in place (m ∷ []) ≡ m.head ∷ []
heads_in_here place m here = rw (eq-eqb m.place place here) refl

heads_in_elsewhere : (place : ℕ) (m : Mark) → (m.place ≡ place → ⊥) → heads_in place (m ∷ []) ≡ []
heads_in_elsewhere place m elsewhere = rw (ne_eqb m.place place elsewhere) refl

heads_in_before : (place : ℕ) (marks : List Mark) → All (λ m. m.place < place) marks → heads_in place marks ≡ []
heads_in_before place [] all = refl
heads_in_before place (m ∷ marks) all =
    let first : m.place < place = all 0 m (omega arith) in
    heads_in-append place (m ∷ []) marks
    ∙ ap (λ (heads : List Digest). heads ++ heads_in place marks) (heads_in_elsewhere place m (λ same. absurd (omega arith)))
    ∙ heads_in_before place marks (λ k d within. all (suc k) d (omega arith))

one_more : (n : ℕ) (head : Digest) → replicate n head ++ head ∷ [] ≡ head ∷ replicate n head
one_more zero head = refl
one_more (suc n) head = ap (λ (heads : List Digest). head ∷ heads) (one_more n head)

-- the first mark
pub IsOne-first : (m : Mark) → IsOne m.place m.head (m ∷ [])
IsOne-first m =
    record {
      furthest = All-push (λ (other : Mark). other.place ≤ m.place) [] m (λ k d within. absurd (omega arith)) (omega arith);
      again = 0;
      heads = heads_in_here m.place m refl;
    }

-- a mark further than all before
pub IsOne-further : (place : ℕ) (marks : List Mark) (m : Mark) → All (λ other. other.place ≤ place) marks → place < m.place → IsOne m.place m.head (marks ++ m ∷ [])
IsOne-further place marks m all further =
    record {
      furthest = All-push (λ (other : Mark). other.place ≤ m.place) marks m (λ k d within. let at = all k d within in omega arith) (omega arith);
      again = 0;
      heads =
          heads_in-append m.place marks (m ∷ [])
          ∙ ap (λ (heads : List Digest). heads ++ heads_in m.place (m ∷ [])) (heads_in_before m.place marks (λ k d within. let at = all k d within in omega arith))
          ∙ heads_in_here m.place m refl;
    }

-- the same mark again
pub IsOne-same : (place : ℕ) (head : Digest) (marks : List Mark) (m : Mark) → IsOne place head marks → m.place ≡ place → m.head ≡ head → IsOne place head (marks ++ m ∷ [])
IsOne-same place head marks m one here same =
    record {
      furthest = All-push (λ (other : Mark). other.place ≤ place) marks m one.furthest (omega arith);
      again = suc one.again;
      heads =
          heads_in-append place marks (m ∷ [])
          ∙ rw (one.heads, heads_in_here place m here, same) (ap (λ (heads : List Digest). head ∷ heads) (one_more one.again head));
    }

-- a mark that isn't as far
pub IsOne-behind : (place : ℕ) (head : Digest) (marks : List Mark) (m : Mark) → IsOne place head marks → m.place < place → IsOne place head (marks ++ m ∷ [])
IsOne-behind place head marks m one behind =
    record {
      furthest = All-push (λ (other : Mark). other.place ≤ place) marks m one.furthest (omega arith);
      again = one.again;
      heads =
          heads_in-append place marks (m ∷ [])
          ∙ rw (one.heads, heads_in_elsewhere place m (λ same. absurd (omega arith))) (ap (λ (heads : List Digest). head ∷ heads) (append-nil (replicate one.again head)));
    }

-- another head at the place
pub IsTwo-other : (place : ℕ) (head : Digest) (marks : List Mark) (m : Mark) → IsOne place head marks → m.place ≡ place → head ≢ m.head → IsTwo place head m.head (marks ++ m ∷ [])
IsTwo-other place head marks m one here other =
    record {
      furthest = All-push (λ (other : Mark). other.place ≤ place) marks m one.furthest (omega arith);
      again = one.again;
      later = [];
      heads = heads_in-append place marks (m ∷ []) ∙ rw (one.heads, heads_in_here place m here) refl;
      different = other;
    }

-- no mark changes the first two heads that isn't further
pub IsTwo-more : (place : ℕ) (first second : Digest) (marks : List Mark) (m : Mark) → IsTwo place first second marks → m.place ≤ place → IsTwo place first second (marks ++ m ∷ [])
IsTwo-more place first second marks m two behind =
    record {
      furthest = All-push (λ (other : Mark). other.place ≤ place) marks m two.furthest behind;
      again = two.again;
      later = two.later ++ heads_in place (m ∷ []);
      heads = heads_in-append place marks (m ∷ []) ∙ rw two.heads (append_assoc (first ∷ replicate two.again first) (second ∷ two.later) (heads_in place (m ∷ [])));
      different = two.different;
    }
