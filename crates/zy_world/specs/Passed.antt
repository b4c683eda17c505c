-- What flows have left of the frames that were sent.
use Rattle.std.specs.Prelude.{◌≡◌, ℕ, ◌<◌, ◌≤◌, ◌||◌, ◌&&◌, Bool, true, false, not, List, length, slice_get, Some}
use Rattle.zy_world.specs.Shown.{Shown, Seated, Mutes, Posted, seat_of, is_correct_seat, muted_in}
use Rattle.zy_world_law.specs.World.{Mail}

-- it was delivered or dropped, or goes to no correct party
abbrev pub is_past : {S : Type 0} → Seated S → Mail → Bool
is_past seats mail = mail.delivered || (mail.dropped || not (is_correct_seat (seat_of seats mail.to)))

-- flows have it left while these are muted
abbrev pub is_left : {S : Type 0} → Seated S → Mutes → Mail → Bool
is_left seats mutes mail = not (is_past seats mail) && not (muted_in mutes mail.to)

abbrev pub is_due_in : {S : Type 0} → Shown S → Mail → Bool
is_due_in v mail = is_left v.seats v.mutes mail

-- each of so many first ones is so
abbrev pub AreSo : (Mail → Type 0) → ℕ → List Mail → Type 0
AreSo P many mails = (before : ℕ) (mail : Mail) → before < many → slice_get mails before ≡ Some mail → P mail

-- Of the past ones flows have nothing left, whoever is muted; of the idle ones while these are.
pub record ArePast {S : Type 0} (seats : Seated S) (mutes : Mutes) (bag : Posted) : Type 0 where
  pub past : AreSo (λ mail. is_past seats mail ≡ true) bag.passed.past bag.mails
  pub idle : AreSo (λ mail. is_left seats mutes mail ≡ false) bag.passed.idle bag.mails

-- they are no more than were sent
abbrev pub AreWithin : Posted → Type 0
AreWithin bag = (bag.passed.past ≤ length bag.mails) × (bag.passed.idle ≤ length bag.mails)
