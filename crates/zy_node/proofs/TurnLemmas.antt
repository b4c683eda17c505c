-- What a turn hears, then the timers that fire: together a turn, or the front of one.
use Rattle.std.proofs.Common.{◌≡◌, ℕ, List, [], ◌++◌, drop, Option, Some, None, Result, Ok, Err, refl, sym, ap, subst, ◌∙◌, append_assoc}
use Rattle.zy_base.specs.declared.step.TimerKind.TheVariants as kinds
use Rattle.zy_edge.specs.Clock.{IsReading}
use Rattle.zy_edge.specs.Faults.{raised}
use Rattle.zy_edge.specs.Link.{Mail, Parcel, StaysAsTold}
use Rattle.zy_node.specs.Rules.{Rules}
use Rattle.zy_node.specs.Told.{ComesTo, FiresAs, HearsTo, IsHearing, Moves, MovesFront, Sends, SendsFront, TurnsTo}
use Rattle.zy_node.specs.Turn.{HostState, Begun, Heard, Fired, fires, fires_to, hears, reads, turned}
use Rattle.zy_node.specs.declared.fault.NodeFault.{NodeFault}
use Rattle.zy_node.specs.declared.fault.NodeFault.TheVariants.{Link, Want}
use Rattle.zy_node.proofs.SendLemmas.{comes_after, told}

-- ---- datagrams

pub Moves-append : (heard : Option (List ℕ)) (first second : List Parcel) (before between after : Option Mail) → Moves heard first before between → Sends second between after → Moves heard (first ++ second) before after
Moves-append heard first second None between after one two = tt
Moves-append heard first second (Some mail) between after one two =
    let there = subst (λ (m : Option Mail). Sends second m after) one.1 two in
    (one.0, there ∙ ap (told (drop 1 mail.coming)) (append_assoc mail.sent first second))

pub MovesFront-append : (heard : Option (List ℕ)) (first second : List Parcel) (before between after : Option Mail) → Moves heard first before between → SendsFront second between after → MovesFront heard (first ++ second) before after
MovesFront-append heard first second before between after one two = record {
  front = first ++ two.front;
  rest = two.rest;
  parts = ap (λ (all : List Parcel). first ++ all) two.parts ∙ sym (append_assoc first two.front two.rest);
  mail = Moves-append heard first two.front before between after one two.sent;
}

-- ---- before the clock is read

-- a call of the link that fails at once
pub fails_at_once : {S : Type 0} (R : Rules S) (host : HostState S) (received receives : ℕ) (before after : Option Mail) → StaysAsTold before after → receives ≡ raised received → HearsTo R host (Err (Link host)) before after received receives
fails_at_once R host received receives before after same raises moments = record {
  cut = record { stage = Begun; turn = record { heard = None; now = 0 }; mail = same; receives = raises; moments = refl };
  host = refl;
}

-- what was heard, and what comes of it
pub hears_to : {S : Type 0} (R : Rules S) (host : HostState S) (heard : Option (List ℕ)) (result : Result (HostState S) (NodeFault (HostState S))) (received receives : ℕ) (before between after : Option Mail)
    → Moves heard [] before between → receives ≡ raised received → ComesTo (hears R heard host) result between after → HearsTo R host result before after received receives
hears_to R host heard (Ok next) received receives before between after moves raises comes =
    record { heard = heard; host = comes.0; mail = Moves-append heard [] (hears R heard host).sent before between after moves comes.1 }
hears_to R host heard (Err (Link next)) received receives before between after moves raises comes = λ moments. record {
  cut = record {
    stage = Heard;
    turn = record { heard = heard; now = 0 };
    mail = MovesFront-append heard [] (hears R heard host).sent before between after moves comes.1;
    receives = raises;
    moments = refl;
  };
  host = comes.0;
}
hears_to R host heard (Err Want) received receives before between after moves raises comes = λ moments. record {
  stage = Heard;
  turn = record { heard = heard; now = 0 };
  mail = MovesFront-append heard [] (hears R heard host).sent before between after moves comes;
  receives = raises;
  moments = refl;
}

-- ---- the timers

pub change_fails : {S : Type 0} (R : Rules S) (now : ℕ) (host first : HostState S) (fault : NodeFault (HostState S)) (before between after : Option Mail)
    → ComesTo (fires R kinds.Request now host) (Ok first) before between → ComesTo (fires R kinds.Change now first) (Err fault) between after → FiresAs R now host (Err fault) before after
change_fails R now host first fault before between after one two =
    (kinds.Change, comes_after (fires R kinds.Request now host) (fires R kinds.Change now) first (Err fault) before between after one.0 one.1 two)

pub all_fire : {S : Type 0} (R : Rules S) (now : ℕ) (host first second : HostState S) (result : Result (HostState S) (NodeFault (HostState S))) (before between later after : Option Mail)
    → ComesTo (fires R kinds.Request now host) (Ok first) before between → ComesTo (fires R kinds.Change now first) (Ok second) between later → ComesTo (fires R kinds.Answer now second) result later after
    → FiresAs R now host result before after
all_fire {S} R now host first second result before between later after one two three =
    let both = comes_after (fires R kinds.Request now host) (fires R kinds.Change now) first (Ok second) before between later one.0 one.1 two in
    let all = comes_after (fires_to R kinds.Change now host) (fires R kinds.Answer now) second result before later after both.0 both.1 three in
    by result all
  where
    by : (r : Result (HostState S) (NodeFault (HostState S))) → ComesTo (fires_to R kinds.Answer now host) r before after → FiresAs R now host r before after
    by (Ok next) comes = comes
    by (Err fault) comes = (kinds.Answer, comes)

-- ---- the whole turn

pub then_fires : {S : Type 0} (R : Rules S) (host middle : HostState S) (now : ℕ) (result : Result (HostState S) (NodeFault (HostState S))) (received receives : ℕ) (read later : Option (List ℕ)) (before between after : Option Mail)
    → IsHearing R host middle before between → receives ≡ raised received → IsReading now read later → FiresAs R now (reads R now middle) result between after
    → TurnsTo R host result (record { mail = before; receives = received; moments = read }) (record { mail = after; receives = receives; moments = later })
unfolding turned
then_fires {S} R host middle now (Ok next) received receives read later before between after hearing raises reading fires =
    let heard = hears R hearing.heard host in
    let comes = subst (λ (h : HostState S). ComesTo (fires_to R kinds.Answer now (reads R now h)) (Ok next) between after) hearing.host fires in
    record {
      turn = record { heard = hearing.heard; now = now };
      host = comes.0;
      mail = Moves-append hearing.heard heard.sent (fires_to R kinds.Answer now (reads R now heard.host)).sent before between after hearing.mail comes.1;
      receives = raises;
      moments = reading;
    }
then_fires {S} R host middle now (Err (Link next)) received receives read later before between after hearing raises reading fired =
    let kind = fired.0 in
    let heard = hears R hearing.heard host in
    let comes = subst (λ (h : HostState S). ComesTo (fires_to R kind now (reads R now h)) (Err (Link next)) between after) hearing.host fired.1 in
    record {
      cut = record {
        stage = Fired kind;
        turn = record { heard = hearing.heard; now = now };
        mail = MovesFront-append hearing.heard heard.sent (fires_to R kind now (reads R now heard.host)).sent before between after hearing.mail comes.1;
        receives = raises;
        moments = reading;
      };
      host = comes.0;
    }
then_fires {S} R host middle now (Err Want) received receives read later before between after hearing raises reading fired =
    let kind = fired.0 in
    let heard = hears R hearing.heard host in
    let comes = subst (λ (h : HostState S). ComesTo (fires_to R kind now (reads R now h)) (Err Want) between after) hearing.host fired.1 in
    record {
      stage = Fired kind;
      turn = record { heard = hearing.heard; now = now };
      mail = MovesFront-append hearing.heard heard.sent (fires_to R kind now (reads R now heard.host)).sent before between after hearing.mail comes;
      receives = raises;
      moments = reading;
    }
