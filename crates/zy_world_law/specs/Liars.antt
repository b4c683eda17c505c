-- What liars sign.
use Rattle.std.specs.Prelude.{ℕ, ◌-◌, ◌==◌, nat_le, Bool, if◌then◌else◌, List, [], ◌∷◌, length, map, slice_get, Option, Some, None, option_map, Result, Ok, Err}
use Rattle.std.specs.Option.{option_and_then}
use Rattle.zy_base.specs.declared.frame_fault.FrameFault.{FrameFault}
use Rattle.zy_base.specs.declared.ids.Party.{Party}
use Rattle.zy_base.specs.declared.ids.Party.TheVariants as parties
use Rattle.zy_base.specs.declared.ids.View.{View}
use Rattle.zy_chain.specs.Entries.{digest_of_entry}
use Rattle.zy_chain.specs.Heads.{head_of}
use Rattle.zy_admit.specs.Judging.{entry_of}
use Rattle.zy_frames.specs.Frames.{frame_in}
use Rattle.zy_frames.specs.declared.frame.Frame.{Frame}
use Rattle.zy_frames.specs.declared.frame.Frame.TheVariants as frames
use Rattle.zy_parts.specs.Numbers as numbers
use Rattle.zy_parts.specs.Reports.{change_fields, new_fields, began_fields, fetch_fields}
use Rattle.zy_parts.specs.Statements.{ask_fields, order_fields, spec_fields, local_fields, hole_fields, hate_fields, check_fields}
use Rattle.zy_parts.specs.declared.signed.Signed.{Signed}
use Rattle.zy_parts.specs.declared.statements.Ask.{Ask}
use Rattle.zy_parts.specs.declared.statements.Order.{Order}
use Rattle.zy_parts.specs.declared.statements.Spec.{Spec}
use Rattle.zy_seal.specs.Sealing.{SealerState, sealed_by}
use Rattle.zy_table.specs.Roles.{is_client}
use Rattle.zy_table.specs.Sending.{spelling_of}
use Rattle.zy_table.specs.declared.deeds.AnyFrame.{AnyFrame}
use Rattle.zy_table.specs.declared.deeds.AnyFrame.TheVariants as any_frames
use Rattle.zy_vframes.specs.declared.frame.ViewFrame.{ViewFrame}
use Rattle.zy_vframes.specs.declared.frame.ViewFrame.TheVariants as views
use Rattle.zy_wire.specs.Kind.{frame_limit}
use Rattle.zy_wire.specs.Spelling.{Spelling, whole}
use Rattle.zy_world_law.specs.Setup.{Setup, sealer_of}
use Rattle.zy_world_law.specs.World.{World, mail_at}
use Rattle.zy_chain.specs.Answers.{digest_of_answers}

-- a frame as whoever signs it makes it
abbrev pub Telling : Type 0
Telling = SealerState → AnyFrame

-- ---- the requests of some frames

abbrev pub request_read : Result Frame FrameFault → Option (Signed Ask)
request_read (Ok (frames.Request ask)) = if is_client ask.by then Some ask else None
request_read _ = None

-- a client's request that the frame of this number is
abbrev pub request_at : {S : Type 0} → World S → ℕ → Option (Signed Ask)
request_at w number = option_and_then (λ mail. request_read (frame_in mail.bytes)) (mail_at w number)

-- if each of them is one
abbrev pub requests_at : {S : Type 0} → World S → List ℕ → Option (List (Signed Ask))
requests_at w [] = Some []
requests_at w (number ∷ more) = option_and_then (λ ask. option_map (λ asks. ask ∷ asks) (requests_at w more)) (request_at w number)

abbrev pub last_of : List (Signed Ask) → Option (Signed Ask)
last_of asks = slice_get asks (length asks - 1)

-- ---- orders and responses for the history of some requests

abbrev pub order_of : View → List (Signed Ask) → Signed Ask → Order
order_of view asks last =
    record { view = view; place = record { 0 = length asks }; head = head_of (map entry_of asks); request = digest_of_entry (entry_of last) }

abbrev pub order_told : View → List (Signed Ask) → Option Telling
order_told view asks =
    option_map (λ last sealer. any_frames.Plain (frames.Order (record { order = sealed_by numbers.order order_fields sealer (order_of view asks last); ask = last }))) (last_of asks)

abbrev pub spec_of : View → List ℕ → List (Signed Ask) → Signed Ask → Spec
spec_of view reply asks last =
    record {
      view = view;
      place = record { 0 = length asks };
      head = head_of (map entry_of asks);
      reply = digest_of_answers reply;
      client = (entry_of last).client;
      stamp = (entry_of last).stamp;
    }

abbrev pub spec_told : View → List ℕ → List (Signed Ask) → Option Telling
spec_told view reply asks =
    option_map (λ last sealer. any_frames.Plain (frames.SpecResponse (sealed_by numbers.spec spec_fields sealer (spec_of view reply asks last)) reply None)) (last_of asks)

-- only replicas sign these
abbrev pub by_replica : Party → Option Telling → Option Telling
by_replica (parties.Replica id) telling = telling
by_replica (parties.Client id) telling = None

-- ---- statements by their numbers and fields

abbrev pub told : {A : Type 0} → (Signed A → AnyFrame) → ℕ → Spelling A → Result A FrameFault → Option Telling
told make number fields (Err fault) = None
told make number fields (Ok stmt) = Some (λ sealer. make (sealed_by number fields sealer stmt))

abbrev pub told_as : {A : Type 0} → (Signed A → AnyFrame) → ℕ → Spelling A → List ℕ → Option Telling
told_as make number fields bytes = told make number fields (whole fields bytes)

abbrev pub told_plain : {A : Type 0} → (Signed A → Frame) → ℕ → Spelling A → List ℕ → Option Telling
told_plain make number fields bytes = told_as (λ signed. any_frames.Plain (make signed)) number fields bytes

abbrev pub told_of_view : {A : Type 0} → (Signed A → ViewFrame) → ℕ → Spelling A → List ℕ → Option Telling
told_of_view make number fields bytes = told_as (λ signed. any_frames.View (make signed)) number fields bytes

-- a request, a local commit, what asks for orders, a hate, a checkpoint, and what is said of a view change and of a snapshot can
-- be told, each in its own frame
abbrev pub statement_numbered : ℕ → List ℕ → Option Telling
statement_numbered number bytes =
    if number == numbers.ask then told_plain frames.Request numbers.ask ask_fields bytes
    else (if number == numbers.local then told_plain frames.LocalCommit numbers.local local_fields bytes
    else (if number == numbers.hole then told_plain frames.FillHole numbers.hole hole_fields bytes
    else (if number == numbers.hate then told_plain frames.Hate numbers.hate hate_fields bytes
    else (if number == numbers.check then told_plain frames.Checkpoint numbers.check check_fields bytes
    else (if number == numbers.change then told_of_view views.ViewChange numbers.change change_fields bytes
    else (if number == numbers.new then told_of_view views.NewView numbers.new new_fields bytes
    else (if number == numbers.began then told_of_view views.ViewConfirm numbers.began began_fields bytes
    else (if number == numbers.fetch then told_of_view views.Fetch numbers.fetch fetch_fields bytes
    else None))))))))

unfoldable pub statement_told : List ℕ → Option Telling
statement_told [] = None
statement_told (number ∷ fields) = statement_numbered number fields

-- ---- how long a frame may be

-- A party's frame is no longer than a frame may be. All signatures are of one length, so this is judged by the first one, and is
-- so whether a signature is left or not.
abbrev pub is_short : Setup → Party → Telling → Bool
is_short setup party telling = nat_le (length (spelling_of (telling (sealer_of setup party 0)))) frame_limit

-- what is told in such a frame
abbrev pub if_short : Setup → Party → Option Telling → Option Telling
if_short setup party None = None
if_short setup party (Some telling) = if is_short setup party telling then Some telling else None
