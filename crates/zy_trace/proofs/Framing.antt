-- The frames of an event, one after another.
use Rattle.std.proofs.Common.{◌≡◌, ℕ, suc, ◌+◌, ◌≤◌, Some, None, List, [], ◌∷◌, ◌++◌, Option, drop, length, inl, inr, sym, ap, ◌∙◌, append_assoc, append-nil, arith}
use Rattle.std.proofs.lemmas.List.{drop_all, drop_more}
use Rattle.std.proofs.lemmas.Option.{get_or_from_slice_get, none-some, slice_get_cases, slice_get_within}
use Rattle.std.specs.Prelude.{slice_get}
use Rattle.zy_base.specs.declared.ids.Party.{Party}
use Rattle.zy_trace.specs.Frames.{statement_in}
use Rattle.zy_trace.specs.Telling.{frames_lines, unspent_after, sent_lines}
use Rattle.zy_world_law.specs.World.{Mail, World, mail_at}

drop_next : {A : Type 0} (xs : List A) (i : ℕ) (x : A) → slice_get xs i ≡ Some x → drop i xs ≡ x ∷ drop (i + 1) xs
drop_next {A} xs i x is = drop_more xs i x (slice_get_within xs i x is) ∙ ap (λ (y : A). y ∷ drop (i + 1) xs) (get_or_from_slice_get xs i x x is)

drop_none : {A : Type 0} (xs : List A) (i : ℕ) → slice_get xs i ≡ None → drop i xs ≡ []
drop_none xs i is =
    elim (slice_get_cases xs i).1 [
      | inl found ↦ absurd (none-some found.0 (sym is ∙ found.2))
      | inr past ↦ drop_all i xs past.0
    ]

module _ {S : Type 0} (w : World S) where
  number_is : (i : ℕ) → mail_at w (i + 1) ≡ slice_get w.bag i
  number_is i = let here : i + 1 ≡ suc i = omega arith in ap (mail_at w) here

  first_lines : (number : ℕ) (by : Option Party) (unspent frame : ℕ) (mail : Mail) (more mails : List Mail) → mails ≡ mail ∷ more
      → frames_lines number by unspent frame mails ≡ sent_lines number by unspent frame mail (statement_in mail.bytes) ++ frames_lines number by (unspent_after by unspent (statement_in mail.bytes)) (frame + 1) more
  unfolding frames_lines
  first_lines number by unspent frame mail more mails is = ap (frames_lines number by unspent frame) is

  no_lines : (number : ℕ) (by : Option Party) (unspent frame : ℕ) (mails : List Mail) → mails ≡ [] → frames_lines number by unspent frame mails ≡ []
  unfolding frames_lines
  no_lines number by unspent frame mails is = ap (frames_lines number by unspent frame) is

  -- one frame more is told
  pub frames_on : (out new all : List ℕ) (number : ℕ) (by : Option Party) (unspent next i : ℕ) (mail : Mail) → mail_at w (i + 1) ≡ Some mail
      → new ≡ out ++ sent_lines number by unspent (i + 1) mail (statement_in mail.bytes) → next ≡ unspent_after by unspent (statement_in mail.bytes)
      → out ++ frames_lines number by unspent (i + 1) (drop i w.bag) ≡ all → new ++ frames_lines number by next (i + 1 + 1) (drop (i + 1) w.bag) ≡ all
  frames_on out new all number by unspent next i mail there told after before =
      let one = sent_lines number by unspent (i + 1) mail (statement_in mail.bytes) in
      let others = frames_lines number by (unspent_after by unspent (statement_in mail.bytes)) (i + 1 + 1) (drop (i + 1) w.bag) in
      rw (told, after)
      (append_assoc out one others
      ∙ ap (λ (l : List ℕ). out ++ l) (sym (first_lines number by unspent (i + 1) mail (drop (i + 1) w.bag) (drop i w.bag) (drop_next w.bag i mail (sym (number_is i) ∙ there))))
      ∙ before)

  frames_none : (out all : List ℕ) (number : ℕ) (by : Option Party) (unspent i : ℕ) → drop i w.bag ≡ [] → out ++ frames_lines number by unspent (i + 1) (drop i w.bag) ≡ all → out ≡ all
  frames_none out all number by unspent i none before =
      sym (append-nil out) ∙ ap (λ (l : List ℕ). out ++ l) (sym (no_lines number by unspent (i + 1) (drop i w.bag) none)) ∙ before

  -- there is no further frame
  pub frames_end : (out all : List ℕ) (number : ℕ) (by : Option Party) (unspent i : ℕ) → mail_at w (i + 1) ≡ None
      → out ++ frames_lines number by unspent (i + 1) (drop i w.bag) ≡ all → out ≡ all
  frames_end out all number by unspent i none before = frames_none out all number by unspent i (drop_none w.bag i (sym (number_is i) ∙ none)) before

  pub frames_all : (out all : List ℕ) (number : ℕ) (by : Option Party) (unspent i : ℕ) → length w.bag ≤ i
      → out ++ frames_lines number by unspent (i + 1) (drop i w.bag) ≡ all → out ≡ all
  frames_all out all number by unspent i past before = frames_none out all number by unspent i (drop_all i w.bag past) before
