-- What is decoded of a frame of normal operation can be spelled again, whatever the bytes are.
use Rattle.std.proofs.Common.{◌≡◌, ℕ, List, Ok}
use Rattle.std.specs.Prelude.{All}
use Rattle.std.specs.Int.{w16}
use Rattle.zy_frames.specs.Frames.{frame_in, frame_at, request, order, ordered, spec_response, commit, confirm_request, misbehaviour}
use Rattle.zy_frames.specs.declared.frame.Frame.{Frame}
use Rattle.zy_frames.specs.declared.frame.Frame.TheVariants as frames
use Rattle.zy_parts.specs.Signing.{signed}
use Rattle.zy_parts.specs.Statements.{ask_fields, order_fields, spec_fields, local_fields, confirm_fields, hole_fields, hate_fields, check_fields}
use Rattle.zy_parts.specs.declared.statements.Spec.{Spec}
use Rattle.zy_law_steps.proofs.Decoded.{Gives, IsSignedRead, all_give, check_gives, counted_gives, digest_gives, made_gives, pair_gives, read_gives, sized_gives, spec_gives, u62_gives}
use Rattle.zy_law_steps.proofs.DecodedFrames.{fault_gives, framed_gives, or_gives, other_gives}
use Rattle.zy_law_views.specs.Told.{spec_spelled}
use Rattle.zy_wire.specs.Fields.{FitsList, bytes16, digest, u62}
use Rattle.zy_wire.specs.Spelling.{pair}
use Rattle.zy_chain.specs.Answers.{answers_fields}

-- a response with its client's number as it is spelled
abbrev pub FitsSpelled : Spec → Type 0
FitsSpelled spec = spec_fields.Fits (spec_spelled spec)

-- the request of a frame, its order, its local commit, its checkpoint, and its responses but for the client's number
abbrev pub IsReadable : Frame → Type 0
IsReadable (frames.Request ask) = ask_fields.Fits ask.stmt
IsReadable (frames.Order both) = order_fields.Fits both.order.stmt × ask_fields.Fits both.ask.stmt
IsReadable (frames.SpecResponse spec reply with_order) = FitsSpelled spec.stmt
IsReadable (frames.Commit specs) = All (λ spec. FitsSpelled spec.stmt) specs
IsReadable (frames.LocalCommit local) = local_fields.Fits local.stmt
IsReadable (frames.ConfirmReq confirm ask) = ask_fields.Fits ask.stmt
IsReadable (frames.Checkpoint check) = check_fields.Fits check.stmt
IsReadable _ = Unit {0}

-- ---- statements

ask_gives : Gives ask_fields.at ask_fields.Fits
unfolding ask_fields
ask_gives = made_gives _ (pair (u62 0) (bytes16 1100)) _ _ (pair_gives (u62 0) (bytes16 1100) _ _ (u62_gives 0) (sized_gives w16 1100)) (λ x fits. fits)

local_gives : Gives local_fields.at local_fields.Fits
unfolding local_fields
local_gives =
    made_gives _ (pair (u62 0) (pair (u62 1) digest)) _ _
    (pair_gives (u62 0) (pair (u62 1) digest) _ _ (u62_gives 0) (pair_gives (u62 1) digest _ _ (u62_gives 1) digest_gives)) (λ x fits. fits)

order_stmt_gives : Gives order_fields.at order_fields.Fits
unfolding order_fields
order_stmt_gives =
    made_gives _ (pair (u62 0) (pair (u62 1) (pair digest digest))) _ _
    (pair_gives (u62 0) (pair (u62 1) (pair digest digest)) _ _ (u62_gives 0)
    (pair_gives (u62 1) (pair digest digest) _ _ (u62_gives 1) (pair_gives digest digest _ _ digest_gives digest_gives))) (λ x fits. fits)

-- ---- frames

order_gives : Gives order.at (λ both. order_fields.Fits both.order.stmt × ask_fields.Fits both.ask.stmt)
order_gives =
    made_gives _ (pair (signed order_fields) (signed ask_fields)) (λ x. IsSignedRead order_fields.Fits x.0 × IsSignedRead ask_fields.Fits x.1) (λ both. order_fields.Fits both.order.stmt × ask_fields.Fits both.ask.stmt)
    (pair_gives (signed order_fields) (signed ask_fields) (IsSignedRead order_fields.Fits) (IsSignedRead ask_fields.Fits) (read_gives order_fields order_fields.Fits order_stmt_gives) (read_gives ask_fields ask_fields.Fits ask_gives))
    (λ x fits. (fits.0.1.0, fits.1.1.0))

response_gives : Gives spec_response.at (λ x. IsSignedRead FitsSpelled x.0 × Unit {0})
response_gives =
    pair_gives (signed spec_fields) (pair answers_fields ordered) (IsSignedRead FitsSpelled) (λ x. Unit {0})
    (read_gives spec_fields FitsSpelled spec_gives) (all_give (pair answers_fields ordered).at)

commit_gives : Gives commit.at (FitsList (IsSignedRead FitsSpelled) 1 16)
commit_gives = counted_gives (signed spec_fields) (IsSignedRead FitsSpelled) (read_gives spec_fields FitsSpelled spec_gives) 1 16

confirm_gives : Gives confirm_request.at (λ x. Unit {0} × IsSignedRead ask_fields.Fits x.1)
confirm_gives =
    pair_gives (signed confirm_fields) (signed ask_fields) (λ x. Unit {0}) (IsSignedRead ask_fields.Fits)
    (all_give (signed confirm_fields).at) (read_gives ask_fields ask_fields.Fits ask_gives)

frame_gives : (kind : ℕ) → Gives (frame_at kind) IsReadable
unfolding frame_at
frame_gives kind =
    or_gives IsReadable _ _ _ (made_gives frames.Request request _ IsReadable (read_gives ask_fields ask_fields.Fits ask_gives) (λ ask fits. fits.1.0))
    (or_gives IsReadable _ _ _ (made_gives frames.Order order (λ both. order_fields.Fits both.order.stmt × ask_fields.Fits both.ask.stmt) IsReadable order_gives (λ both fits. fits))
    (or_gives IsReadable _ _ _ (made_gives (λ x. frames.SpecResponse x.0 x.1.0 x.1.1) spec_response (λ x. IsSignedRead FitsSpelled x.0 × Unit {0}) IsReadable response_gives (λ x fits. fits.0.1.0))
    (or_gives IsReadable _ _ _ (made_gives frames.Commit commit (FitsList (IsSignedRead FitsSpelled) 1 16) IsReadable commit_gives (λ x fits k d within. (fits.each k d within).1.0))
    (or_gives IsReadable _ _ _ (made_gives frames.LocalCommit (signed local_fields) (IsSignedRead local_fields.Fits) IsReadable (read_gives local_fields local_fields.Fits local_gives) (λ local fits. fits.1.0))
    (or_gives IsReadable _ _ _ (made_gives (λ x. frames.ConfirmReq x.0 x.1) confirm_request (λ x. Unit {0} × IsSignedRead ask_fields.Fits x.1) IsReadable confirm_gives (λ x fits. fits.1.1.0))
    (or_gives IsReadable _ _ _ (other_gives IsReadable frames.FillHole (signed hole_fields) (λ x. tt))
    (or_gives IsReadable _ _ _ (other_gives IsReadable frames.Hate (signed hate_fields) (λ x. tt))
    (or_gives IsReadable _ _ _ (other_gives IsReadable (λ x. frames.Pom x.0 x.1) misbehaviour (λ x. tt))
    (or_gives IsReadable _ _ _ (made_gives frames.Checkpoint (signed check_fields) (IsSignedRead check_fields.Fits) IsReadable (read_gives check_fields check_fields.Fits check_gives) (λ check fits. fits.1.0)) (fault_gives IsReadable _))))))))))

pub decoded_readable : (bytes : List ℕ) (frame : Frame) → frame_in bytes ≡ Ok frame → IsReadable frame
decoded_readable bytes frame is = framed_gives IsReadable frame_at frame_gives bytes frame is
