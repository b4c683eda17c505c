-- How an order is judged where a replica stands.
use Rattle.std.specs.Prelude.{ℕ, ◌+◌, ◌&&◌, nat_lt, nat_le, nat_eq, Bool, if◌then◌else◌, Option, Some, None}
use Rattle.std.specs.Cmp.Lexicographic.{pointwise}
use Rattle.zy_base.specs.declared.ids.Digest.{Digest}
use Rattle.zy_base.specs.declared.ids.Party.{Party}
use Rattle.zy_base.specs.declared.ids.Party.TheVariants.{Replica, Client}
use Rattle.zy_base.specs.declared.ids.ClientId.{ClientId}
use Rattle.zy_base.specs.declared.cause.Cause.TheVariants as causes
use Rattle.zy_chain.specs.declared.entry.Entry.{Entry}
use Rattle.zy_chain.specs.Entries.{digest_of_entry, newer}
use Rattle.zy_chain.specs.Heads.{head_after}
use Rattle.zy_parts.specs.declared.signed.Signed.{Signed}
use Rattle.zy_parts.specs.declared.statements.Ask.{Ask}
use Rattle.zy_parts.specs.declared.statements.Order.{Order}
use Rattle.zy_frames.specs.declared.frame.OrderFrame.{OrderFrame}
use Rattle.zy_admit.specs.declared.judging.Position.{Position}
use Rattle.zy_admit.specs.declared.judging.Admit.{Admit}
use Rattle.zy_admit.specs.declared.judging.Admit.TheVariants as admits
use Rattle.zy_admit.specs.Orders.{Orders, stored_in}

abbrev pub same_digest : Digest → Digest → Bool
same_digest a b = pointwise nat_eq a.0 b.0

abbrev pub same_order : Order → Order → Bool
same_order a b =
    nat_eq a.view.0 b.view.0 && (nat_eq a.place.0 b.place.0 && (same_digest a.head b.head && same_digest a.request b.request))

-- the number of a client
abbrev pub asking : Party → ClientId
asking (Client id) = id
asking (Replica id) = record { 0 = id.0 }

-- the entry that a request asks for
abbrev pub entry_of : Signed Ask → Entry
entry_of ask = record { client = asking ask.by; stamp = ask.stmt.stamp; op = ask.stmt.op }

-- The entry that an order's frame brings. An order is for an entry, wherever it is judged, run, counted or told.
abbrev pub ordered_entry : OrderFrame → Entry
ordered_entry frame = entry_of frame.ask

-- the order that is next, if it has the head and the stamp that it has to have
abbrev pub judge_at_end : Order → Entry → Position → Admit
judge_at_end order e now =
    if same_digest order.head (head_after now.head (digest_of_entry e))
    then (if newer e.stamp now.last then admits.Next else admits.Refused causes.OldStamp)
    else admits.Refused causes.WrongHead

-- an order of a place for which none is kept
abbrev pub judge_fresh : Order → Entry → Position → Admit
judge_fresh order e now =
    if nat_le order.place.0 now.end.0 then admits.Refused causes.OldPlace
    else (if nat_lt now.window.0 order.place.0 then admits.Refused (causes.WindowFull now.window)
    else (if same_digest order.request (digest_of_entry e)
    then (if nat_lt (now.end.0 + 1) order.place.0 then admits.Held else judge_at_end order e now)
    else admits.Refused causes.Unmatched))

-- an order beside the one that is kept at its place
abbrev pub judge_beside : Option OrderFrame → Order → Entry → Position → Admit
judge_beside None order e now = judge_fresh order e now
judge_beside (Some kept) order e now =
    if same_order kept.order.stmt order then admits.Refused causes.Repeat else admits.Evidence

abbrev pub judge_in : Orders → Order → Entry → Position → Admit
judge_in orders order e now = judge_beside (stored_in orders order.place.0) order e now
