-- Which marks a stretch of a history has, under what one entry more makes of a head.
use Rattle.std.specs.Prelude.{◌≡◌, ◌-◌, ◌≤◌, nat_eq, nat_le, Bool, ◌&&◌, take, fold}
use Rattle.std.specs.Cmp.Lexicographic.{pointwise}
use Rattle.zy_base.specs.declared.ids.Digest.{Digest}
use Rattle.zy_base.specs.declared.ids.Place.{Place}
use Rattle.zy_chain.specs.declared.entry.Entry.{Entry}
use Rattle.zy_chain.specs.Entries.{digest_of_entry}
use Rattle.zy_chain.specs.Heads.{head_after}
use Rattle.zy_chain.specs.Stretch.{Mark, Stretch, end_of}

-- what one entry more makes of a head
abbrev pub link : Digest → Entry → Digest
link head e = head_after head (digest_of_entry e)

-- the stretch's head at the mark's place is the mark's
pub record Has (next : Digest → Entry → Digest) (s : Stretch) (m : Mark) : Type 0 where
  pub above : s.base.place ≤ m.place
  pub below : m.place ≤ end_of s
  pub head : fold next s.base.head (take (m.place - s.base.place) s.entries) ≡ m.head

-- the same as a test, so that it can be counted
abbrev pub has_mark : (Digest → Entry → Digest) → Stretch → Mark → Bool
has_mark next s m =
    nat_le s.base.place m.place
    && nat_le m.place (end_of s)
    && pointwise nat_eq (fold next s.base.head (take (m.place - s.base.place) s.entries)).0 m.head.0

-- a place with its head
abbrev pub mark_of : Place × Digest → Mark
mark_of told = record { place = told.0.0; head = told.1 }
