-- An ask that is refused, and one whose turns have ended.
use Rattle.std.proofs.Common.{◌≡◌, ◌⊎◌, ℕ, inl, inr, nat_le, Bool, true, false, List, Option, Some, None, Ok, refl, sym, ap, subst, ◌∙◌}
use Rattle.std.specs.Prelude.{if◌then◌else◌}
use Rattle.zy_base.specs.declared.cause.Cause.{Cause}
use Rattle.zy_base.specs.declared.cause.Cause.TheVariants as causes
use Rattle.zy_base.specs.declared.step.Answer.{Answer}
use Rattle.zy_base.specs.declared.step.Answer.TheVariants as answers
use Rattle.zy_edge.specs.Link.{Mail}
use Rattle.zy_parts.specs.declared.signed.Signed.{Signed}
use Rattle.zy_parts.specs.declared.statements.Ask.{Ask}
use Rattle.zy_table.specs.ClientRows.{ask, ask_while, asked as asked_row, next_ask}
use Rattle.zy_table.specs.ClientState.{ClientState, signs_left, refused}
use Rattle.zy_node.specs.Asking.{BeginsAs, WaitsAs, refusal, refusal_of}
use Rattle.zy_node.specs.Clients.{client_rules, is_complete}
use Rattle.zy_node.specs.Told.{IsRun, IsWholeRun, Outside}
use Rattle.zy_node.specs.Turn.{HostState}
use Rattle.zy_node.specs.declared.asker.Asked.TheVariants as asked
use Rattle.zy_node.specs.declared.asker.Begun.TheVariants as begun

-- ---- a refusal

refused_asking : (s : ClientState) (op : List ℕ) (cause : Cause) → refusal s op ≡ Some cause → (ask s op).state ≡ s
unfolding ask
refused_asking s op cause = by s.waiting
  where
    left : (b : Bool) → refusal_of (if b then asked_row s (next_ask s op) else refused causes.KeySpent s).answer ≡ Some cause → (if b then asked_row s (next_ask s op) else refused causes.KeySpent s).state ≡ s
    left true is = absurd cc
    left false is = refl

    by : (waiting : Option (Signed Ask)) → refusal_of (ask_while s waiting op).answer ≡ Some cause → (ask_while s waiting op).state ≡ s
    by (Some waiting) is = refl
    by None is = left (nat_le 1 (signs_left s)) is

pub begin_refused : (s : ClientState) (op : List ℕ) (answer : Answer) (cause : Cause) (client : ClientState) (mail : Option Mail)
    → answer ≡ (ask s op).answer → client ≡ (ask s op).state → answer ≡ answers.Refused cause → BeginsAs s op (Ok (begun.Refused client cause)) mail mail
begin_refused s op answer cause client mail answered left is =
    let why : refusal s op ≡ Some cause = ap refusal_of (sym answered ∙ is) in
    (why, left ∙ refused_asking s op cause why, refl)

-- ---- the end

pub waits_done : (before : HostState ClientState) (most : ℕ) (host : HostState ClientState) (client : ClientState) (from to : Outside)
    → IsWholeRun client_rules most before host from to → client ≡ host.core → is_complete client ≡ true → WaitsAs before most (Ok (asked.Done client)) from to
waits_done before most host client from to ran last complete = (ran.many, ran.in_reach, record { host = host; run = ran.run; client = last }, complete)

pub waits_spent : (before : HostState ClientState) (most : ℕ) (host : HostState ClientState) (client : ClientState) (from to : Outside)
    → IsWholeRun client_rules most before host from to → client ≡ host.core → is_complete client ≡ false → WaitsAs before most (Ok (asked.Spent client)) from to
waits_spent before most host client from to ran last unfinished = (record { host = host; run = all ran.ended; client = last }, unfinished)
  where
    all : (is_complete host.core ≡ true) ⊎ (ran.many ≡ most) → IsRun client_rules most before host from to
    all (inl done) = (let other : is_complete host.core ≡ false = ap is_complete (sym last) ∙ unfinished in absurd cc)
    all (inr taken) = subst (λ (n : ℕ). IsRun client_rules n before host from to) taken ran.run
