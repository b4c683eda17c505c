-- The choice out of reports as a function of them: it is what the choice's definition relates to them.
use Rattle.std.specs.Prelude.{ℕ, zero, suc, ◌+◌, ◌-◌, max, nat_eq, nat_lt, nat_le, ◌&&◌, not, Bool, if◌then◌else◌, List, fold, find, filter_map, flat_map, count_by, Option, Some, None, option_map, unwrap_or}
use Rattle.zy_base.specs.declared.ids.Place.{Place}
use Rattle.zy_chain.specs.Heads.{empty_head}
use Rattle.zy_chain.specs.Stretch.{Mark, end_of, head_in}
use Rattle.zy_cert.specs.Equal.{same_digest}
use Rattle.zy_choose.specs.Choice.{last_in, provider_of}
use Rattle.zy_choose.specs.Marks.{has_mark, link}
use Rattle.zy_choose.specs.Reports.{PlainReport, proven}
use Rattle.zy_choose.specs.declared.choice.Choice.{Choice}
use Rattle.zy_choose.specs.declared.choice.Choice.TheVariants.{Chosen, AnchorClash}
use Rattle.zy_choose.specs.declared.furthest.Furthest.{Furthest}
use Rattle.zy_choose.specs.declared.furthest.Furthest.TheVariants.{Nothing, One, Two}

-- the greatest last view
abbrev pub greatest_view : List PlainReport → ℕ
greatest_view reports = fold (λ view r. max view r.last_view) 0 reports

-- ---- the anchor

abbrev pub place_of : Mark → Place
place_of m = record { 0 = m.place }

-- the furthest mark, or two at one place, with one mark more
abbrev pub and_mark : Furthest → Mark → Furthest
and_mark Nothing m = One (place_of m) m.head
and_mark (One place head) m =
    if nat_lt place.0 m.place then One (place_of m) m.head
    else (if nat_eq place.0 m.place && not (same_digest head m.head) then Two place head m.head else One place head)
and_mark (Two place first second) m = if nat_lt place.0 m.place then One (place_of m) m.head else Two place first second

abbrev pub furthest_of : List Mark → Furthest
furthest_of marks = fold and_mark Nothing marks

-- ---- what enough of the reports agree on past the anchor

-- the mark of a report at a place
abbrev pub mark_at : ℕ → PlainReport → Option Mark
mark_at place r = option_map (λ head. record { place = place; head = head }) (head_in r.stretch place)

abbrev pub is_agreed : ℕ → List PlainReport → Mark → Mark → Bool
is_agreed agree reports anchor m =
    nat_le agree (count_by (λ r. has_mark link r.stretch anchor && has_mark link r.stretch m) reports)

abbrev pub agreed_at : ℕ → List PlainReport → Mark → ℕ → Option Mark
agreed_at agree reports anchor place = find (is_agreed agree reports anchor) (filter_map (mark_at place) reports)

abbrev pub or_else : Option Mark → Option Mark → Option Mark
or_else None other = other
or_else (Some m) other = Some m

-- the furthest within so many places behind the anchor
abbrev pub agreed_within : ℕ → List PlainReport → Mark → ℕ → Option Mark
agreed_within agree reports anchor zero = None
agreed_within agree reports anchor (suc more) =
    or_else (agreed_at agree reports anchor (anchor.place + suc more)) (agreed_within agree reports anchor more)

abbrev pub furthest_end : List PlainReport → ℕ
furthest_end reports = fold (λ end r. max end (end_of r.stretch)) 0 reports

abbrev pub agreed_past : ℕ → List PlainReport → Mark → Option Mark
agreed_past agree reports anchor = agreed_within agree reports anchor (furthest_end reports - anchor.place)

-- ---- the choice

abbrev pub chosen_by : Option ℕ → Mark → Choice
chosen_by provider m = Chosen (unwrap_or provider 0) (place_of m) m.head

abbrev pub provided : ℕ → List PlainReport → Mark → Choice
provided view reports m = chosen_by (provider_of link view m reports) m

abbrev pub choice_past : ℕ → ℕ → List PlainReport → Mark → Choice
choice_past agree view reports anchor = provided view reports (unwrap_or (agreed_past agree (last_in view reports) anchor) anchor)

-- a choice out of no reports is the empty history, but none is ever made
abbrev pub choice_at : ℕ → ℕ → List PlainReport → Furthest → Choice
choice_at agree view reports Nothing = Chosen 0 (record { 0 = 0 }) empty_head
choice_at agree view reports (One place head) = choice_past agree view reports (record { place = place.0; head = head })
choice_at agree view reports (Two place first second) = AnchorClash first second

unfoldable pub choice_of : ℕ → List PlainReport → Choice
choice_of agree reports =
    let view = greatest_view reports in
    choice_at agree view reports (furthest_of (flat_map proven (last_in view reports)))
