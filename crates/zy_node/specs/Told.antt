-- What a node's calls do, as far as the link and the clock tell it.
use Rattle.std.specs.Prelude.{◌≡◌, ◌⊎◌, ℕ, ◌+◌, ◌-◌, ◌^◌, ◌<◌, ◌≤◌, Bool, true, false, List, [], ◌∷◌, ◌++◌, length, map, take, drop, Option, Some, None, IfSome, Result, Ok, Err, ⊤}
use Rattle.zy_edge.specs.Clock.{IsReading}
use Rattle.zy_edge.specs.Faults.{raised}
use Rattle.zy_edge.specs.Link.{Mail, Parcel, StaysAsTold}
use Rattle.zy_edge.specs.declared.link.Sent as sent
use Rattle.zy_node.specs.Rules.{Rules}
use Rattle.zy_base.specs.declared.step.TimerKind.{TimerKind}
use Rattle.zy_base.specs.declared.step.TimerKind.TheVariants as kinds
use Rattle.zy_node.specs.Turn.{HostState, Reached, Stage, Begun, Heard, Fired, Turn, hears, fires_to, reached, run, turned}
use Rattle.zy_node.specs.declared.fault.NodeFault.{NodeFault}
use Rattle.zy_node.specs.declared.fault.NodeFault.TheVariants.{Link, Want}
use Rattle.zy_node.specs.declared.fault.SendFault.{SendFault}
use Rattle.zy_node.specs.declared.fault.SendFault.TheVariants as send_faults

-- ---- what is sent

-- the datagrams stand behind those that were sent
abbrev pub Sends : List Parcel → Option Mail → Option Mail → Type 0
Sends sent before after = IfSome before (λ mail. after ≡ Some (record { coming = mail.coming; sent = mail.sent ++ sent }))

-- a front of them does
pub record SendsFront (all : List Parcel) (before after : Option Mail) : Type 0 where
  pub front : List Parcel
  pub rest : List Parcel
  pub parts : all ≡ front ++ rest
  pub sent : Sends front before after

-- all of them, or where a call of the link failed, a front
abbrev pub SendsAs : sent.Sent → List Parcel → Option Mail → Option Mail → Type 0
SendsAs sent.TheVariants.Sent all before after = Sends all before after
SendsAs sent.TheVariants.Failed all before after = SendsFront all before after

abbrev pub is_send_fault : {A : Type 0} → Result A SendFault → Bool
is_send_fault (Ok value) = false
is_send_fault (Err send_faults.Link) = true
is_send_fault (Err send_faults.Want) = false

-- a call that was to come to this: where it fails, the node has taken the step all the same
abbrev pub ComesTo : {S : Type 0} → Reached S → Result (HostState S) (NodeFault (HostState S)) → Option Mail → Option Mail → Type 0
ComesTo r (Ok host) before after = (host ≡ r.host) × Sends r.sent before after
ComesTo r (Err (Link host)) before after = (host ≡ r.host) × SendsFront r.sent before after
ComesTo r (Err Want) before after = SendsFront r.sent before after

abbrev pub is_link_fault : {A N : Type 0} → Result A (NodeFault N) → Bool
is_link_fault (Ok value) = false
is_link_fault (Err (Link host)) = true
is_link_fault (Err Want) = false

-- ---- a turn

-- the link and the clock, as far as they tell: datagrams, how often something was received, and the moments that were read
pub record Outside : Type 0 where
  pub mail : Option Mail
  pub receives : ℕ
  pub moments : Option (List ℕ)

-- the next datagram, as much as a node takes of it
abbrev pub next_of : List (List ℕ) → Option (List ℕ)
next_of [] = None
next_of (datagram ∷ later) = Some (take 8229 datagram)

-- what is heard is the next datagram, which leaves, and these are sent
abbrev pub Moves : Option (List ℕ) → List Parcel → Option Mail → Option Mail → Type 0
Moves heard sent before after = IfSome before (λ mail. (heard ≡ next_of mail.coming) × (after ≡ Some (record { coming = drop 1 mail.coming; sent = mail.sent ++ sent })))

pub record IsTurn {S : Type 0} (R : Rules S) (before after : HostState S) (from to : Outside) : Type 0 where
  pub turn : Turn
  pub host : after ≡ (turned R turn before).host
  pub mail : Moves turn.heard (turned R turn before).sent from.mail to.mail
  pub receives : to.receives ≡ raised from.receives
  pub moments : IsReading turn.now from.moments to.moments

-- of a turn that is cut off at a stage, a front of what the stage sends was sent; a link that heard nothing is as before
pub record MovesFront (heard : Option (List ℕ)) (all : List Parcel) (before after : Option Mail) : Type 0 where
  pub front : List Parcel
  pub rest : List Parcel
  pub parts : all ≡ front ++ rest
  pub mail : Moves heard front before after

abbrev pub MailAt : Stage → Option (List ℕ) → List Parcel → Option Mail → Option Mail → Type 0
MailAt Begun heard sent before after = StaysAsTold before after
MailAt Heard heard sent before after = MovesFront heard sent before after
MailAt (Fired kind) heard sent before after = MovesFront heard sent before after

-- the clock is read before the timers alone
abbrev pub MomentsAt : Stage → ℕ → Option (List ℕ) → Option (List ℕ) → Type 0
MomentsAt Begun now before after = after ≡ before
MomentsAt Heard now before after = after ≡ before
MomentsAt (Fired kind) now before after = IsReading now before after

pub record IsCutTurn {S : Type 0} (R : Rules S) (before : HostState S) (from to : Outside) : Type 0 where
  pub stage : Stage
  pub turn : Turn
  pub mail : MailAt stage turn.heard (reached R stage turn before).sent from.mail to.mail
  pub receives : to.receives ≡ raised from.receives
  pub moments : MomentsAt stage turn.now from.moments to.moments

-- the node that is handed back stands where the turn was cut off
pub record IsCutTurnOf {S : Type 0} (R : Rules S) (before after : HostState S) (from to : Outside) : Type 0 where
  pub cut : IsCutTurn R before from to
  pub host : after ≡ (reached R cut.stage cut.turn before).host

-- what a turn hears and makes of it, before the clock is read
pub record IsHearing {S : Type 0} (R : Rules S) (before after : HostState S) (from to : Option Mail) : Type 0 where
  pub heard : Option (List ℕ)
  pub host : after ≡ (hears R heard before).host
  pub mail : Moves heard (hears R heard before).sent from to

-- the timers fire, or where the link failed or memory was wanted, the first of them
abbrev pub FiresAs : {S : Type 0} → Rules S → ℕ → HostState S → Result (HostState S) (NodeFault (HostState S)) → Option Mail → Option Mail → Type 0
FiresAs R now before (Ok after) from to = ComesTo (fires_to R kinds.Answer now before) (Ok after) from to
FiresAs R now before (Err fault) from to = (kind : TimerKind) × ComesTo (fires_to R kind now before) (Err fault) from to

-- a turn, or where the link failed or memory was wanted, the front of one
abbrev pub TurnsTo : {S : Type 0} → Rules S → HostState S → Result (HostState S) (NodeFault (HostState S)) → Outside → Outside → Type 0
TurnsTo R before (Ok after) from to = IsTurn R before after from to
TurnsTo R before (Err (Link after)) from to = IsCutTurnOf R before after from to
TurnsTo R before (Err Want) from to = IsCutTurn R before from to

-- the front of a turn that doesn't read the clock, whatever it tells
abbrev pub HearsTo : {S : Type 0} → Rules S → HostState S → Result (HostState S) (NodeFault (HostState S)) → Option Mail → Option Mail → ℕ → ℕ → Type 0
HearsTo R before (Ok after) from to received receives = IsHearing R before after from to
HearsTo R before (Err fault) from to received receives = (moments : Option (List ℕ)) →
    TurnsTo R before (Err fault) (record { mail = from; receives = received; moments = moments }) (record { mail = to; receives = receives; moments = moments })

-- ---- a run

-- the turns hear one datagram after another, and nothing where none is left
abbrev pub AreHeard : List Turn → List (List ℕ) → Type 0
AreHeard [] coming = ⊤
AreHeard (t ∷ turns) coming = (t.heard ≡ next_of coming) × AreHeard turns (drop 1 coming)

-- none of the turns begins where the core is done
abbrev pub AreNeeded : {S : Type 0} → Rules S → List Turn → HostState S → Type 0
AreNeeded R [] host = ⊤
AreNeeded R (t ∷ turns) host = (R.is_done host.core ≡ false) × AreNeeded R turns (turned R t host).host

abbrev pub MovesAll : List Turn → List Parcel → Option Mail → Option Mail → Type 0
MovesAll turns sent before after = IfSome before (λ mail. AreHeard turns mail.coming × (after ≡ Some (record { coming = drop (length turns) mail.coming; sent = mail.sent ++ sent })))

-- the turns read these moments, where they are told
abbrev pub AreReadings : List ℕ → Option (List ℕ) → Option (List ℕ) → Type 0
AreReadings moments before None = ⊤
AreReadings moments before (Some after) = (earlier : List ℕ) × (before ≡ Some earlier) × (after ≡ earlier ++ moments)

-- the count of receives rose by so many, or stands at its last value
abbrev pub RoseBy : ℕ → ℕ → ℕ → Type 0
RoseBy many before after = (after ≡ before + many) ⊎ (after ≡ 2 ^ 64 - 1)

-- so many turns, each of which was needed
pub record IsRun {S : Type 0} (R : Rules S) (many : ℕ) (before after : HostState S) (from to : Outside) : Type 0 where
  pub turns : List Turn
  pub number : length turns ≡ many
  pub needed : AreNeeded R turns before
  pub host : after ≡ (run R turns before).host
  pub mail : MovesAll turns (run R turns before).sent from.mail to.mail
  pub receives : RoseBy many from.receives to.receives
  pub moments : AreReadings (map (λ t. t.now) turns) from.moments to.moments

-- a run that took all its turns, or ended earlier since the core was done
pub record IsWholeRun {S : Type 0} (R : Rules S) (most : ℕ) (before after : HostState S) (from to : Outside) : Type 0 where
  pub many : ℕ
  pub in_reach : many ≤ most
  pub run : IsRun R many before after from to
  pub ended : (R.is_done after.core ≡ true) ⊎ (many ≡ most)

-- fewer turns than it was to take, and then one that was cut off
pub record IsCutRun {S : Type 0} (R : Rules S) (most : ℕ) (before : HostState S) (from to : Outside) : Type 0 where
  pub many : ℕ
  pub fewer : many < most
  pub last : HostState S
  pub between : Outside
  pub run : IsRun R many before last from between
  pub needed : R.is_done last.core ≡ false
  pub cut : IsCutTurn R last between to

pub record IsCutRunOf {S : Type 0} (R : Rules S) (most : ℕ) (before after : HostState S) (from to : Outside) : Type 0 where
  pub run : IsCutRun R most before from to
  pub host : after ≡ (reached R run.cut.stage run.cut.turn run.last).host

abbrev pub RunsTo : {S : Type 0} → Rules S → ℕ → HostState S → Result (HostState S) (NodeFault (HostState S)) → Outside → Outside → Type 0
RunsTo R most before (Ok after) from to = IsWholeRun R most before after from to
RunsTo R most before (Err (Link after)) from to = IsCutRunOf R most before after from to
RunsTo R most before (Err Want) from to = IsCutRun R most before from to

-- the same of a core that is never done: it takes all its turns
abbrev pub ServesTo : {S : Type 0} → Rules S → ℕ → HostState S → Result (HostState S) (NodeFault (HostState S)) → Outside → Outside → Type 0
ServesTo R most before (Ok after) from to = IsRun R most before after from to
ServesTo R most before (Err (Link after)) from to = IsCutRunOf R most before after from to
ServesTo R most before (Err Want) from to = IsCutRun R most before from to
