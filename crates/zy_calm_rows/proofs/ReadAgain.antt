-- A frame that fits, whose signatures are accepted and whose signers are in their roles, is read and answered by its row.
use Rattle.std.proofs.Common.{◌≡◌, ℕ, ◌≤◌, true, Bool, List, [], length, Option, None, Ok, ap, ◌∙◌, subst, arith}
use Rattle.std.proofs.lemmas.List.{append-nil}
use Rattle.std.specs.Prelude.{if◌then◌else◌}
use Rattle.zy_base.specs.Machine.{Rules}
use Rattle.zy_base.specs.declared.cause.Cause.{Cause}
use Rattle.zy_base.specs.declared.cause.Cause.TheVariants as causes
use Rattle.zy_base.specs.declared.step.Event.TheVariants.{Heard}
use Rattle.zy_frames.proofs.FrameLengths.{spelling-len}
use Rattle.zy_frames.specs.FrameLaws.{frame-laws}
use Rattle.zy_frames.specs.Frames.{FitsFrame, fields_of, frame_at, frame_in, kind_of_frame, parts_of, spelling}
use Rattle.zy_frames.specs.declared.frame.Frame.{Frame}
use Rattle.zy_seal.specs.Screening.{screen}
use Rattle.zy_table.specs.ClientRows as clients
use Rattle.zy_table.specs.ClientRows.{client_step, hear}
use Rattle.zy_table.specs.ClientState.{ClientState}
use Rattle.zy_table.specs.Deeds.{refused}
use Rattle.zy_table.specs.Roles.{in_role}
use Rattle.zy_table.specs.State.{State}
use Rattle.zy_table.specs.Whole.{decoded_as, hear_plain, plain_row, unless, whole_step}
use Rattle.zy_wire.proofs.KindLaws.{kind_again}
use Rattle.zy_wire.proofs.Parts.{bind_at}
use Rattle.zy_wire.specs.Framing.{framed_in}
use Rattle.zy_wire.specs.Kind.{frame_limit, kind_in}
use Rattle.zy_wire.specs.Spelling.{◌>>=◌, ended}

pub read_again : (f : Frame) → FitsFrame f → frame_in (spelling f) ≡ Ok f
unfolding framed_in
read_again f fits =
    let short : length (spelling f) ≤ frame_limit = omega (arith, spelling-len f fits) in
    let one = kind_again (kind_of_frame f) (fields_of f) (frame-laws.least f) (frame-laws.most f) short in
    let two : frame_at (kind_of_frame f) (fields_of f) ≡ Ok (f, []) = subst (λ (r : List ℕ). frame_at (kind_of_frame f) r ≡ Ok (f, [])) (append-nil (fields_of f)) (frame-laws.choice.again f [] fits) in
    bind_at (kind_in (spelling f)) (λ k. frame_at k (fields_of f) >>= λ read. ended read.0 read.1) (kind_of_frame f) one
    ∙ bind_at (frame_at (kind_of_frame f) (fields_of f)) (λ read. ended read.0 read.1) (f, []) two

pub heard : {S : Type 0} (R : Rules S) (s : State S) (f : Frame) → FitsFrame f → screen s.keys (parts_of f) ≡ None → in_role s f ≡ true
    → whole_step R s (Heard (spelling f)) ≡ plain_row R s f
unfolding whole_step
heard R s f fits accepted role =
    ap (decoded_as R s (spelling f)) (read_again f fits)
    ∙ ap (λ (c : Option Cause). unless c s (hear_plain R s f)) accepted
    ∙ ap (λ (b : Bool). if b then plain_row R s f else refused causes.WrongRole s) role

pub client_heard : (c : ClientState) (f : Frame) → FitsFrame f → screen c.keys (parts_of f) ≡ None → client_step c (Heard (spelling f)) ≡ hear c f
unfolding client_step
client_heard c f fits accepted =
    ap (clients.decoded_as c (spelling f)) (read_again f fits)
    ∙ ap (λ (cause : Option Cause). clients.unless cause c (hear c f)) accepted
