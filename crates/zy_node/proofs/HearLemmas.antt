-- What a receive tells is what a turn hears.
use Rattle.std.proofs.Common.{◌≡◌, ℕ, List, [], ◌∷◌, ◌++◌, length, take, drop, Option, Some, None, refl, sym, ap, ◌∙◌}
use Rattle.std.proofs.lemmas.List.{append-nil}
use Rattle.zy_edge.specs.Link.{Hears, IsHeard, Mail, Parcel}
use Rattle.zy_edge.specs.declared.link.Heard.TheVariants.{Datagram, Quiet}
use Rattle.zy_node.specs.Told.{Moves, next_of}
use Rattle.zy_node.proofs.SendLemmas.{told}

taken : (coming : List (List ℕ)) (sent : List Parcel) (room : ℕ) (bytes : List ℕ) (after : Option Mail) → room ≡ 8229 → Hears coming sent room bytes after
    → (Some bytes ≡ next_of coming) × (after ≡ Some (record { coming = drop 1 coming; sent = sent ++ [] }))
taken [] sent room bytes after fits hears = absurd hears
taken (datagram ∷ later) sent room bytes after fits hears = (
  ap Some (hears.0 ∙ ap (λ (n : ℕ). take n datagram) fits),
  hears.1 ∙ ap (told later) (sym (append-nil sent)),
)

pub datagram_moves : (len : ℕ) (room bytes : List ℕ) (before after : Option Mail) → length room ≡ 8229 → bytes ≡ take len room → IsHeard (Datagram len) room before after → Moves (Some bytes) [] before after
datagram_moves len room bytes None after fits is heard = tt
datagram_moves len room bytes (Some mail) after fits is heard =
    let moved = taken mail.coming mail.sent (length room) (take len room) after fits heard.1 in
    (ap Some is ∙ moved.0, moved.1)

none_left : (coming : List (List ℕ)) (sent : List Parcel) (after : Option Mail) → coming ≡ [] → after ≡ Some (record { coming = coming; sent = sent })
    → (None ≡ next_of coming) × (after ≡ Some (record { coming = drop 1 coming; sent = sent ++ [] }))
none_left [] sent after none stays = (refl, stays ∙ ap (told []) (sym (append-nil sent)))
none_left (datagram ∷ later) sent after none stays = absurd cc

pub quiet_moves : (room : List ℕ) (before after : Option Mail) → IsHeard Quiet room before after → Moves None [] before after
quiet_moves room None after heard = tt
quiet_moves room (Some mail) after heard = none_left mail.coming mail.sent after heard.0 heard.1
