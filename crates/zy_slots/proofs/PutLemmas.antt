-- What two writes of links make of the links.
use Rattle.std.proofs.Common.{◌≡◌, ◌≢◌, ◌⊎◌, ℕ, Option, Some, None, refl, sym, ap, ◌∙◌, inl, inr}
use Rattle.std.proofs.lemmas.Bool.{cases_eq}
use Rattle.zy_slots.specs.declared.link.Link.{Link}
use Rattle.zy_slots.specs.Columns.{IsPut, IsJoined}

pub same_or_not : (place other : Option ℕ) → (place ≡ other) ⊎ (place ≢ other)
same_or_not None None = inl refl
same_or_not None (Some other) = inr (λ same. cc)
same_or_not (Some place) None = inr (λ same. cc)
same_or_not (Some place) (Some other) =
    elim (cases_eq place other) [
      | inl same ↦ inl (ap Some same)
      | inr apart ↦ inr (λ same. apart (cc))
    ]

abbrev pub next_of : Link → Option ℕ
next_of link = link.next

abbrev pub prev_of : Link → Option ℕ
prev_of link = link.prev

pub same_link : (link other : Link) → link.prev ≡ other.prev → link.next ≡ other.next → link ≡ other
same_link link other prev next = λ i. record { prev = prev i; next = next i }

pub joined_by_puts : (at middle at' : Option ℕ → Link) (left right after before : Option ℕ) (on_left on_right : Link)
    → IsPut at middle left on_left → IsPut middle at' right on_right
    → on_left.prev ≡ (at left).prev → on_left.next ≡ after → on_right.prev ≡ before → on_right.next ≡ (middle right).next
    → IsJoined at at' left right after before
joined_by_puts at middle at' left right after before on_left on_right put put' left_prev left_next right_prev right_next =
    record {
      next = elim (same_or_not left right) [
        | inl same ↦ ap (λ (o : Option ℕ). (at' o).next) same ∙ ap next_of put'.here ∙ right_next ∙ ap (λ (o : Option ℕ). (middle o).next) (sym same) ∙ ap next_of put.here ∙ left_next
        | inr apart ↦ ap next_of (put'.elsewhere left apart) ∙ ap next_of put.here ∙ left_next
      ];
      prev = ap prev_of put'.here ∙ right_prev;
      next_stays = λ other apart. elim (same_or_not other right) [
        | inl same ↦ ap (λ (o : Option ℕ). (at' o).next) same ∙ ap next_of put'.here ∙ right_next ∙ ap (λ (o : Option ℕ). (middle o).next) (sym same) ∙ ap next_of (put.elsewhere other apart)
        | inr elsewhere ↦ ap next_of (put'.elsewhere other elsewhere) ∙ ap next_of (put.elsewhere other apart)
      ];
      prev_stays = λ other apart. ap prev_of (put'.elsewhere other apart) ∙ elim (same_or_not other left) [
        | inl same ↦ ap (λ (o : Option ℕ). (middle o).prev) same ∙ ap prev_of put.here ∙ left_prev ∙ ap (λ (o : Option ℕ). (at o).prev) (sym same)
        | inr elsewhere ↦ ap prev_of (put.elsewhere other elsewhere)
      ];
    }
