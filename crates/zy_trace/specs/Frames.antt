-- What a trace tells of a frame: its kind, and the statement that it holds first.
use Rattle.std.specs.Prelude.{ℕ, ◌==◌, if◌then◌else◌, List, codes, slice_get, Option, Some, None, option_map}
use Rattle.std.specs.Option.{option_and_then}
use Rattle.zy_base.specs.declared.ids.Party.{Party}
use Rattle.zy_frames.specs.declared.frame.Frame.{Frame}
use Rattle.zy_frames.specs.declared.frame.Frame.TheVariants as frames
use Rattle.zy_parts.specs.declared.reports.New.{New}
use Rattle.zy_parts.specs.declared.signed.Signed.{Signed}
use Rattle.zy_parts.specs.declared.statements.Order.{Order}
use Rattle.zy_parts.specs.declared.statements.Spec.{Spec}
use Rattle.zy_seal.specs.Sealing.{number_told}
use Rattle.zy_table.specs.declared.deeds.AnyFrame.{AnyFrame}
use Rattle.zy_table.specs.declared.deeds.AnyFrame.TheVariants.{Plain, View}
use Rattle.zy_vframes.specs.declared.frame.ViewFrame.{ViewFrame}
use Rattle.zy_vframes.specs.declared.frame.ViewFrame.TheVariants as views
use Rattle.zy_world_law.specs.Reading.{any_frame_in}
use Rattle.zy_trace.specs.declared.statement.Saying.{Saying}
use Rattle.zy_trace.specs.declared.statement.Saying.TheVariants as says
use Rattle.zy_trace.specs.declared.statement.Statement.{Statement}

-- ---- kinds

-- by its number
abbrev pub kind_numbered : ℕ → List ℕ
kind_numbered kind =
    if kind == 1 then codes "REQUEST"
    else (if kind == 2 then codes "ORDER"
    else (if kind == 3 then codes "SPEC-RESPONSE"
    else (if kind == 4 then codes "COMMIT"
    else (if kind == 5 then codes "LOCAL-COMMIT"
    else (if kind == 6 then codes "CONFIRM-REQ"
    else (if kind == 7 then codes "FILL-HOLE"
    else (if kind == 8 then codes "HATE"
    else (if kind == 9 then codes "POM"
    else (if kind == 10 then codes "CHECKPOINT"
    else (if kind == 11 then codes "VIEW-CHANGE"
    else (if kind == 12 then codes "NEW-VIEW"
    else (if kind == 13 then codes "VIEW-CONFIRM"
    else (if kind == 14 then codes "VIEW-CERT"
    else (if kind == 15 then codes "FETCH"
    else (if kind == 16 then codes "STATE"
    else codes "-")))))))))))))))

abbrev pub kind_there : Option ℕ → List ℕ
kind_there None = codes "-"
kind_there (Some kind) = kind_numbered kind

-- a frame's kind is its second byte
abbrev pub kind_name : List ℕ → List ℕ
kind_name bytes = kind_there (slice_get bytes 1)

-- ---- statements

abbrev pub saying_name : Saying → List ℕ
saying_name says.Ask = codes "ask"
saying_name says.Order = codes "order"
saying_name says.Response = codes "response"
saying_name says.Local = codes "local"
saying_name says.Confirm = codes "confirm"
saying_name says.Hole = codes "hole"
saying_name says.Hate = codes "hate"
saying_name says.Checkpoint = codes "checkpoint"
saying_name says.Report = codes "report"
saying_name says.View = codes "view"
saying_name says.Began = codes "began"
saying_name says.Fetch = codes "fetch"

-- who is said to have signed, the number that the signature tells, what it says, and the view and the place of which it speaks
abbrev pub stated : Party → List ℕ → Saying → Option ℕ → Option ℕ → Statement
stated by sig saying view place = record { by = by; spent = number_told sig; saying = saying; view = view; place = place }

abbrev pub order_stated : Signed Order → Statement
order_stated order = stated order.by order.sig says.Order (Some order.stmt.view.0) (Some order.stmt.place.0)

abbrev pub response_stated : Signed Spec → Statement
response_stated spec = stated spec.by spec.sig says.Response (Some spec.stmt.view.0) (Some spec.stmt.place.0)

abbrev pub view_stated : Signed New → Statement
view_stated new = stated new.by new.sig says.View (Some new.stmt.view.0) None

-- in a frame of normal operation
abbrev pub plain_statement : Frame → Option Statement
plain_statement (frames.Request ask) = Some (stated ask.by ask.sig says.Ask None None)
plain_statement (frames.Order both) = Some (order_stated both.order)
plain_statement (frames.SpecResponse spec reply with_order) = Some (response_stated spec)
plain_statement (frames.Commit specs) = option_map response_stated (slice_get specs 0)
plain_statement (frames.LocalCommit local) = Some (stated local.by local.sig says.Local (Some local.stmt.view.0) (Some local.stmt.place.0))
plain_statement (frames.ConfirmReq confirm ask) = Some (stated confirm.by confirm.sig says.Confirm (Some confirm.stmt.view.0) None)
plain_statement (frames.FillHole hole) = Some (stated hole.by hole.sig says.Hole (Some hole.stmt.view.0) (Some hole.stmt.from.0))
plain_statement (frames.Hate hate) = Some (stated hate.by hate.sig says.Hate (Some hate.stmt.view.0) None)
plain_statement (frames.Pom first second) = Some (order_stated first)
plain_statement (frames.Checkpoint check) = Some (stated check.by check.sig says.Checkpoint (Some check.stmt.view.0) (Some check.stmt.place.0))

-- in one of a change of view
abbrev pub view_statement : ViewFrame → Option Statement
view_statement (views.ViewChange change) = Some (stated change.by change.sig says.Report (Some change.stmt.view.0) None)
view_statement (views.NewView new) = Some (view_stated new)
view_statement (views.ViewConfirm began) = Some (stated began.by began.sig says.Began (Some began.stmt.view.0) (Some began.stmt.place.0))
view_statement (views.ViewCert certificate) = Some (view_stated certificate.new)
view_statement (views.Fetch fetch) = Some (stated fetch.by fetch.sig says.Fetch None (Some fetch.stmt.place.0))
view_statement (views.State place snapshot) = None

abbrev pub frame_statement : AnyFrame → Option Statement
frame_statement (Plain frame) = plain_statement frame
frame_statement (View frame) = view_statement frame

-- none where the bytes spell no frame
abbrev pub statement_in : List ℕ → Option Statement
statement_in bytes = option_and_then frame_statement (any_frame_in bytes)
