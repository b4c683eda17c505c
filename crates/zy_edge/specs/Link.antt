-- What the calls of a link do to the datagrams that are heard and sent.
use Rattle.std.specs.Prelude.{◌≡◌, ℕ, ◌≤◌, Bool, true, false, Option, Some, IfSome, List, [], ◌∷◌, ◌++◌, length, take}
use Rattle.zy_base.specs.declared.ids.Party.{Party}
use Rattle.zy_edge.specs.declared.link.Bound as bound
use Rattle.zy_edge.specs.declared.link.Heard as heard
use Rattle.zy_edge.specs.declared.link.Sent as sent

pub record Parcel : Type 0 where
  pub to : Party
  pub bytes : List ℕ

-- the datagrams that are left to be heard, and those that were sent
pub record Mail : Type 0 where
  pub coming : List (List ℕ)
  pub sent : List Parcel

abbrev pub bind_failed : bound.Bound → Bool
bind_failed bound.TheVariants.Bound = false
bind_failed bound.TheVariants.Failed = true

abbrev pub receive_failed : heard.Heard → Bool
receive_failed (heard.TheVariants.Datagram _) = false
receive_failed heard.TheVariants.Quiet = false
receive_failed heard.TheVariants.Failed = true

abbrev pub send_failed : sent.Sent → Bool
send_failed sent.TheVariants.Sent = false
send_failed sent.TheVariants.Failed = true

abbrev pub StaysAsTold : Option Mail → Option Mail → Type 0
StaysAsTold before after = IfSome before (λ mail. after ≡ Some mail)

-- the bytes are the first of the datagrams, cut to the room, and it leaves
abbrev pub Hears : List (List ℕ) → List Parcel → ℕ → List ℕ → Option Mail → Type 0
Hears [] sent room bytes after = ⊥
Hears (datagram ∷ later) sent room bytes after = (bytes ≡ take room datagram) × (after ≡ Some (record { coming = later; sent = sent }))

-- what stands at the front of the buffer is the next datagram, or none is left; a failure leaves all
abbrev pub IsHeard : heard.Heard → List ℕ → Option Mail → Option Mail → Type 0
IsHeard (heard.TheVariants.Datagram k) buf before after = (k ≤ length buf) × IfSome before (λ mail. Hears mail.coming mail.sent (length buf) (take k buf) after)
IsHeard heard.TheVariants.Quiet buf before after = IfSome before (λ mail. (mail.coming ≡ []) × (after ≡ Some mail))
IsHeard heard.TheVariants.Failed buf before after = StaysAsTold before after

abbrev pub with_parcel : Mail → Party → List ℕ → Mail
with_parcel mail to bytes = record { coming = mail.coming; sent = mail.sent ++ (record { to = to; bytes = bytes }) ∷ [] }

-- the datagram is behind those that were sent; a failure leaves all
abbrev pub IsSent : sent.Sent → Party → List ℕ → Option Mail → Option Mail → Type 0
IsSent sent.TheVariants.Sent to bytes before after = IfSome before (λ mail. after ≡ Some (with_parcel mail to bytes))
IsSent sent.TheVariants.Failed to bytes before after = StaysAsTold before after
