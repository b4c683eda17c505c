-- What liars and forgers are told to sign, and when they may.
use Rattle.std.specs.Prelude.{◌≡◌, ℕ, ◌<◌, ◌≤◌, ◌^◌, List, length, Option, Some, None}
use Rattle.std.specs.List.{AllByRecursion}
use Rattle.zy_base.specs.declared.ids.View.{View}
use Rattle.zy_frames.specs.declared.frame.Frame.TheVariants as frames
use Rattle.zy_parts.specs.Numbers as numbers
use Rattle.zy_parts.specs.Reports.{change_fields, IsChangeInRange, new_fields, IsNewInRange, began_fields, IsBeganInRange, fetch_fields, IsFetchInRange}
use Rattle.zy_parts.specs.Signing.{IsSignedInRange}
use Rattle.zy_parts.specs.Statements.{ask_fields, IsAskInRange, local_fields, IsLocalInRange, hole_fields, IsHoleInRange, hate_fields, IsHateInRange, check_fields, IsCheckInRange}
use Rattle.zy_parts.specs.declared.signed.Signed.{Signed}
use Rattle.zy_parts.specs.declared.statements.Ask.{Ask}
use Rattle.zy_seal.specs.Sealing.{SealerState, sealed_by}
use Rattle.zy_world_setup.specs.declared.tellable.Tellable.{Tellable}
use Rattle.zy_world_setup.specs.declared.tellable.Tellable.TheVariants as tellables
use Rattle.zy_table.specs.Sending.{spelling_of}
use Rattle.zy_table.specs.declared.deeds.AnyFrame.{AnyFrame}
use Rattle.zy_table.specs.declared.deeds.AnyFrame.TheVariants as any
use Rattle.zy_vframes.specs.declared.frame.ViewFrame.TheVariants as views
use Rattle.zy_wire.specs.Kind.{frame_limit}
use Rattle.zy_world_law.specs.Liars.{Telling}

-- a statement in its own frame, as whoever signs it makes it
abbrev pub telling_of : Tellable → Telling
telling_of (tellables.Ask ask) = λ sealer. any.Plain (frames.Request (sealed_by numbers.ask ask_fields sealer ask))
telling_of (tellables.Local local) = λ sealer. any.Plain (frames.LocalCommit (sealed_by numbers.local local_fields sealer local))
telling_of (tellables.Hole hole) = λ sealer. any.Plain (frames.FillHole (sealed_by numbers.hole hole_fields sealer hole))
telling_of (tellables.Hate hate) = λ sealer. any.Plain (frames.Hate (sealed_by numbers.hate hate_fields sealer hate))
telling_of (tellables.Check check) = λ sealer. any.Plain (frames.Checkpoint (sealed_by numbers.check check_fields sealer check))
telling_of (tellables.Change change) = λ sealer. any.View (views.ViewChange (sealed_by numbers.change change_fields sealer change))
telling_of (tellables.New new) = λ sealer. any.View (views.NewView (sealed_by numbers.new new_fields sealer new))
telling_of (tellables.Began began) = λ sealer. any.View (views.ViewConfirm (sealed_by numbers.began began_fields sealer began))
telling_of (tellables.Fetch fetch) = λ sealer. any.View (views.Fetch (sealed_by numbers.fetch fetch_fields sealer fetch))

-- the bytes of its fields
abbrev pub fields_told : Tellable → List ℕ
fields_told (tellables.Ask ask) = ask_fields.spell ask
fields_told (tellables.Local local) = local_fields.spell local
fields_told (tellables.Hole hole) = hole_fields.spell hole
fields_told (tellables.Hate hate) = hate_fields.spell hate
fields_told (tellables.Check check) = check_fields.spell check
fields_told (tellables.Change change) = change_fields.spell change
fields_told (tellables.New new) = new_fields.spell new
fields_told (tellables.Began began) = began_fields.spell began
fields_told (tellables.Fetch fetch) = fetch_fields.spell fetch

-- what its fields may hold, beside what their types say
abbrev pub IsTellable : Tellable → Type 0
IsTellable (tellables.Ask ask) = IsAskInRange ask
IsTellable (tellables.Local local) = IsLocalInRange local
IsTellable (tellables.Hole hole) = IsHoleInRange hole
IsTellable (tellables.Hate hate) = IsHateInRange hate
IsTellable (tellables.Check check) = IsCheckInRange check
IsTellable (tellables.Change change) = IsChangeInRange change
IsTellable (tellables.New new) = IsNewInRange new
IsTellable (tellables.Began began) = IsBeganInRange began
IsTellable (tellables.Fetch fetch) = IsFetchInRange fetch

-- a view, and the requests of a history with at least one and at most 64 entries
pub record IsOrderable (at : View) (history : List (Signed Ask)) : Type 0 where
  pub view : at.0 < 2 ^ 62
  pub some : 1 ≤ length history
  pub few : length history ≤ 64
  pub asks : AllByRecursion (IsSignedInRange IsAskInRange) history

-- the bytes of a frame, which are no more than a frame may have; none where there would be more
abbrev pub IsEncoded : AnyFrame → Option (List ℕ) → Type 0
IsEncoded frame (Some bytes) = (bytes ≡ spelling_of frame) × (length bytes ≤ frame_limit)
IsEncoded frame None = frame_limit < length (spelling_of frame)

-- so of the frame that is told, as this sealer signs it
abbrev pub IsToldBy : Option Telling → SealerState → Option (List ℕ) → Type 0
IsToldBy told sealer bytes = (telling : Telling) × (told ≡ Some telling) × IsEncoded (telling sealer) bytes
