-- The world: the parties, the frames that were sent, what completed, and the texts that are kept.
use Rattle.std.specs.Prelude.{ℕ, ◌+◌, ◌-◌, zero, suc, nat_eq, nat_lt, ◌&&◌, Bool, true, false, not, if◌then◌else◌, List, [], ◌∷◌, ◌++◌, length, map, position, slice_get, slice_set, Option, Some, None, option_map}
use Rattle.std.specs.List.{range_with_len, list_any, list_all}
use Rattle.zy_base.specs.Machine.{Rules}
use Rattle.zy_base.specs.declared.ids.ClientId.{ClientId}
use Rattle.zy_base.specs.declared.ids.Party.{Party}
use Rattle.zy_base.specs.declared.ids.Party.TheVariants as parties
use Rattle.zy_chain.specs.Heads.{empty_head}
use Rattle.zy_admit.specs.Judging.{same_digest}
use Rattle.zy_law.specs.World.{Stand}
use Rattle.zy_table.specs.ClientState.{ClientState, client_start}
use Rattle.zy_table.specs.State.{State, start_of}
use Rattle.zy_table.specs.declared.client.Done.{Done}
pub use Rattle.zy_law_views.specs.Texts.{Texts}
use Rattle.zy_world_law.specs.Setup.{Setup, sealer_of, keys_of}

-- a signed text, and the number of its speaker's last stand when it was said
pub record Remark : Type 0 where
  pub text : List ℕ
  pub when : ℕ

-- a correct replica: its state, what it said, and where it stood, both in order
pub record Replica (S : Type 0) : Type 0 where
  pub state : State S
  pub said : List Remark
  pub past : List Stand

-- a correct client: its state, and the texts that it signed
pub record Client : Type 0 where
  pub state : ClientState
  pub said : List (List ℕ)

-- a frame that was sent
pub record Mail : Type 0 where
  pub to : Party
  pub bytes : List ℕ
  -- an event brought it to some party
  pub delivered : Bool
  -- flows pass over it
  pub dropped : Bool

-- a request that its client counts as complete
pub record Completed : Type 0 where
  pub client : ClientId
  pub done : Done

pub record World (S : Type 0) : Type 0 where
  pub setup : Setup
  -- by their numbers; none where a party lies
  pub replicas : List (Option (Replica S))
  pub clients : List (Option Client)
  -- the number of the next signature of each party that lies
  pub used : Party → ℕ
  -- every frame that was sent, in order; none is taken out
  pub bag : List Mail
  pub muted : Party → Bool
  -- in order
  pub done : List Completed
  pub texts : Texts

-- ---- parties

abbrev pub same_party : Party → Party → Bool
same_party (parties.Replica a) (parties.Replica b) = nat_eq a.0 b.0
same_party (parties.Client a) (parties.Client b) = nat_eq a.0 b.0
same_party (parties.Replica a) (parties.Client b) = false
same_party (parties.Client a) (parties.Replica b) = false

-- what stands in a seat, if there is one
abbrev pub correct_in : {A : Type 0} → Option (Option A) → Option A
correct_in None = None
correct_in (Some seat) = seat

-- the correct replica, or client, of this number, if it is one
abbrev pub replica_at : {S : Type 0} → World S → ℕ → Option (Replica S)
replica_at w id = correct_in (slice_get w.replicas id)

abbrev pub client_at : {S : Type 0} → World S → ℕ → Option Client
client_at w id = correct_in (slice_get w.clients id)

-- what a correct party said
abbrev pub texts_said : {S : Type 0} → World S → Party → Option (List (List ℕ))
texts_said w (parties.Replica id) = option_map (λ x. map (λ remark. remark.text) x.said) (replica_at w id.0)
texts_said w (parties.Client id) = option_map (λ x. x.said) (client_at w id.0)

abbrev pub is_party : {S : Type 0} → World S → Party → Bool
is_party w (parties.Replica id) = nat_lt id.0 (length w.replicas)
is_party w (parties.Client id) = nat_lt id.0 (length w.clients)

abbrev pub is_told : {A : Type 0} → Option A → Bool
is_told None = false
is_told (Some x) = true

abbrev pub is_correct : {S : Type 0} → World S → Party → Bool
is_correct w party = is_told (texts_said w party)

abbrev pub is_liar : {S : Type 0} → World S → Party → Bool
is_liar w party = is_party w party && not (is_correct w party)

abbrev pub are_parties : {S : Type 0} → World S → List Party → Bool
are_parties w to = list_all (is_party w) to

-- ---- frames

-- by their numbers, from 1
abbrev pub mail_at : {S : Type 0} → World S → ℕ → Option Mail
mail_at w zero = None
mail_at w (suc before) = slice_get w.bag before

abbrev pub with_mail_at : {S : Type 0} → World S → ℕ → Mail → World S
with_mail_at w number mail = record w { bag = slice_set w.bag (number - 1) mail }

abbrev pub mail_to : Party × List ℕ → Mail
mail_to x = record { to = x.0; bytes = x.1; delivered = false; dropped = false }

-- frames that are sent go to the end of the bag
abbrev pub with_sent : {S : Type 0} → World S → List (Party × List ℕ) → World S
with_sent w sent = record w { bag = w.bag ++ map mail_to sent }

-- the frame is brought to a party
abbrev pub delivered : {S : Type 0} → World S → ℕ → Mail → World S
delivered w number mail = with_mail_at w number (record mail { delivered = true })

-- ---- what flows have left

-- it was never delivered or dropped, and goes to a correct party that isn't muted
abbrev pub is_due : {S : Type 0} → World S → Mail → Bool
is_due w mail = not mail.delivered && (not mail.dropped && (is_correct w mail.to && not (w.muted mail.to)))

-- the least number of such a frame
abbrev pub next_undelivered : {S : Type 0} → World S → Option ℕ
next_undelivered w = option_map (λ before. before + 1) (position (is_due w) w.bag)

abbrev pub dropped_if : {S : Type 0} → World S → ℕ → Option Mail → World S
dropped_if w number None = w
dropped_if w number (Some mail) = with_mail_at w number (record mail { dropped = true })

abbrev pub drop_frame : {S : Type 0} → World S → ℕ → World S
drop_frame w number = dropped_if w number (mail_at w number)

-- a party that there isn't can't be muted
abbrev pub set_muted : {S : Type 0} → World S → Party → Bool → World S
set_muted w party on =
    if is_party w party then record w { muted = λ other. if same_party other party then on else w.muted other } else w

-- ---- the start

abbrev pub starting_replica : {S : Type 0} → Rules S → Setup → ℕ → Replica S
starting_replica R setup id =
    record {
      state = start_of R setup.interval (record { 0 = id }) setup.counts (keys_of setup) (sealer_of setup (parties.Replica (record { 0 = id })) 0);
      said = [];
      past = record { view = 0; history = [] } ∷ [];
    }

abbrev pub starting_client : Setup → ℕ → Client
starting_client setup id =
    record {
      state = client_start (record { 0 = id }) setup.counts (keys_of setup) (sealer_of setup (parties.Client (record { 0 = id })) 0) (record { 0 = 0 });
      said = [];
    }

-- one for each number below n, but none for those that lie
unfoldable pub seats : {A : Type 0} → ℕ → List ℕ → (ℕ → A) → List (Option A)
seats n lying starts = map (λ id. if list_any (nat_eq id) lying then None else Some (starts id)) (range_with_len 0 n)

-- the empty history's head is kept for the empty text
abbrev pub first_texts : Texts
first_texts d = if same_digest d empty_head then Some [] else None

-- each key begins at its signature 0, each client at the stamp 0, and nothing was sent
abbrev pub start : {S : Type 0} → Rules S → Setup → World S
start R setup =
    record {
      setup = setup;
      replicas = seats setup.counts.n setup.liars (starting_replica R setup);
      clients = seats setup.clients setup.lying_clients (starting_client setup);
      used = λ party. 0;
      bag = [];
      muted = λ party. false;
      done = [];
      texts = first_texts;
    }
