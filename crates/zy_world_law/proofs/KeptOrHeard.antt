-- What a client keeps after a step was kept before, or came with the frame; and what a step leaves as it is.
use Rattle.std.proofs.Common.{◌≡◌, ◌⊎◌, inl, inr, ℕ, zero, suc, Bool, true, false, List, [], ◌∷◌, ◌++◌, replicate, Option, Some, None, Result, Ok, Err, refl, sym, ap, ◌∙◌, subst}
use Rattle.std.specs.Prelude.{if◌then◌else◌, nat_le, slice_set, slice_index_or}
use Rattle.std.specs.List.{AllByRecursion}
use Rattle.std.proofs.lemmas.Option.{same_Some}
use Rattle.zy_base.specs.declared.cause.Cause.{Cause}
use Rattle.zy_base.specs.declared.cause.Cause.TheVariants as causes
use Rattle.zy_base.specs.declared.frame_fault.FrameFault.{FrameFault}
use Rattle.zy_base.specs.declared.frame_fault.FrameFault.TheVariants as faults
use Rattle.zy_base.specs.declared.ids.Party.{Party}
use Rattle.zy_base.specs.declared.ids.Party.TheVariants.{Replica, Client}
use Rattle.zy_base.specs.declared.ids.View.{View}
use Rattle.zy_base.specs.declared.step.Event.TheVariants.{Heard, Timer}
use Rattle.zy_base.specs.declared.step.TimerKind.{TimerKind}
use Rattle.zy_base.specs.declared.step.TimerKind.TheVariants as timers
use Rattle.zy_frames.specs.Frames.{frame_in, part_of_optional, parts_of}
use Rattle.zy_frames.specs.declared.frame.Frame.{Frame}
use Rattle.zy_frames.specs.declared.frame.Frame.TheVariants as frames
use Rattle.zy_parts.specs.Numbers as numbers
use Rattle.zy_parts.specs.Signing.{part_of}
use Rattle.zy_parts.specs.Statements.{spec_fields}
use Rattle.zy_parts.specs.declared.signed.Signed.{Signed}
use Rattle.zy_parts.specs.declared.statements.Ask.{Ask}
use Rattle.zy_parts.specs.declared.statements.Local.{Local}
use Rattle.zy_parts.specs.declared.statements.Order.{Order}
use Rattle.zy_cert.specs.Equal.{same_local}
use Rattle.zy_cert.specs.Votes.{answer_to as vote_answer, poll_after}
use Rattle.zy_cert.specs.declared.votes.Vote.{Vote}
use Rattle.zy_cert.specs.declared.votes.Vote.TheVariants as votes
use Rattle.zy_seal.specs.Screening.{screen, answer_to}
use Rattle.zy_seal.specs.declared.directory.SealAnswer.TheVariants as answers
use Rattle.zy_table.specs.ClientRows.{ask, ask_while, asked, next_ask, kept_of, keep, completed_if, complete, done_of, agreeing, response_cause, evidence_by, told, keep_unless, respond, respond_while, is_for, done_by, complete_by, vote_on, local_beside, local_while, count_local, certified_in, ask_or_commit, run_out_while, run_out, is_by_primary, hear_response, hear, unless, decoded, decoded_as, view_decoded, client_step}
use Rattle.zy_vframes.specs.Parts as view_parts
use Rattle.zy_vframes.specs.ViewFrames as views
use Rattle.zy_vframes.specs.declared.frame.ViewFrame.{ViewFrame}
use Rattle.zy_table.specs.ClientState.{ClientState, ClientOutcome, signs_left, refused, is_waiting}
use Rattle.zy_table.specs.Roles.{is_replica}
use Rattle.zy_table.specs.declared.client.Commit.{Commit}
use Rattle.zy_table.specs.declared.client.Done.{Done}
use Rattle.zy_table.specs.declared.client.Response.{Response}
use Rattle.zy_world_law.specs.Events.{completed_by}
use Rattle.zy_world_law.proofs.Screened.{Verifies, all_verify}

-- a response that came with the frame, which the replica of its slot signed
pub record IsHeard (s : ClientState) (bytes : List ℕ) (id : ℕ) (r : Response) : Type 0 where
  pub frame : frame_in bytes ≡ Ok (frames.SpecResponse r.spec r.reply r.order)
  pub by : r.spec.by ≡ Replica (record { 0 = id })
  pub signed : answer_to s.keys (part_of numbers.spec spec_fields r.spec) ≡ answers.Yes
  -- an order beside it, which the primary of its view signed
  pub primary : is_by_primary s r.order ≡ true
  pub ordered : AllByRecursion (Verifies s.keys) (part_of_optional r.order)

-- all stays; or a response is kept, with whom it blames; or another certificate is held, or more local commits to it; or it completes
pub data Comes (s : ClientState) (Brought : ℕ → Response → Type 0) (o : ClientOutcome) : Type 0 where
  same : o.state ≡ s → Comes s Brought o
  fills : (id : ℕ) (r : Response) (blamed : List View) → Brought id r → o.state ≡ record (completed_if (keep s id r) r) { blamed = blamed } → Comes s Brought o
  holds : (held : Option Commit) → o.state ≡ record s { commit = held } → Comes s Brought o
  completes : (c : Commit) → s.commit ≡ Some c → o.state ≡ complete_by s c → Comes s Brought o

module _ (s : ClientState) (Brought : ℕ → Response → Type 0) where
  if_comes : (b : Bool) (x y : ClientOutcome) → Comes s Brought x → Comes s Brought y → Comes s Brought (if b then x else y)
  if_comes true x y one other = one
  if_comes false x y one other = other

  blames : (evidence : Option (Signed Order × Signed Order)) (id : ℕ) (r : Response) → Brought id r → Comes s Brought (told evidence (completed_if (keep s id r) r))
  blames None id r brought = fills id r (completed_if (keep s id r) r).blamed brought refl
  blames (Some orders) id r brought = fills id r ((completed_if (keep s id r) r).blamed ++ orders.1.stmt.view ∷ []) brought refl

  kept_unless : (cause : Option Cause) (id : ℕ) (r : Response) → Brought id r → Comes s Brought (keep_unless cause s id r)
  kept_unless (Some cause) id r brought = same refl
  kept_unless None id r brought = blames (evidence_by (keep s id r) r.order) id r brought

  responds : (wait : Option (Signed Ask)) (id : ℕ) (r : Response) → Brought id r → Comes s Brought (respond_while s wait id r)
  responds None id r brought = same refl
  responds (Some waiting) id r brought = kept_unless (response_cause s waiting id r) id r brought

  if_primary : (primary : Bool) (id : ℕ) (r : Response) → (primary ≡ true → Brought id r) → Comes s Brought (if primary then respond s id r else refused causes.WrongRole s)
  unfolding respond
  if_primary true id r brought = responds s.waiting id r (brought refl)
  if_primary false id r brought = same refl

  hears_response : (r : Response) (by : Party) → ((id : ℕ) → by ≡ Replica (record { 0 = id }) → is_by_primary s r.order ≡ true → Brought id r) → Comes s Brought (hear_response s r by)
  hears_response r (Client id) brought = same refl
  hears_response r (Replica id) brought = if_primary (is_by_primary s r.order) id.0 r (brought id.0 refl)

  voted : (c : Commit) (vote : Signed Local) (answer : Vote) → s.commit ≡ Some c → Comes s Brought (vote_on s c vote answer)
  voted c vote votes.Repeat held = same refl
  voted c vote votes.Mixed held = same refl
  voted c vote (votes.Counted number) held = holds (Some (record c { locals = poll_after same_local c.locals vote })) refl
  voted c vote votes.Full held = completes c held refl

  beside : (commit : Option Commit) (vote : Signed Local) → s.commit ≡ commit → Comes s Brought (local_beside s commit vote)
  beside None vote held = same refl
  beside (Some c) vote held = if_comes (is_for c.spec vote.stmt) _ _ (voted c vote (vote_answer same_local c.locals vote) held) (same refl)

  counts_while : (wait : Option (Signed Ask)) (vote : Signed Local) → Comes s Brought (local_while s wait vote)
  counts_while None vote = same refl
  counts_while (Some waiting) vote = beside s.commit vote refl

  hears_local : (replica : Bool) (vote : Signed Local) → Comes s Brought (if replica then count_local s vote else refused causes.WrongRole s)
  unfolding count_local
  hears_local replica vote = if_comes replica _ _ (counts_while s.waiting vote) (same refl)

  asks_or_commits : (waiting : Signed Ask) (certified : Option Response) → Comes s Brought (ask_or_commit s waiting certified)
  asks_or_commits waiting None = same refl
  asks_or_commits waiting (Some r) = holds (ask_or_commit s waiting (Some r)).state.commit refl

  runs_out : (wait : Option (Signed Ask)) → Comes s Brought (run_out_while s wait)
  runs_out None = same refl
  runs_out (Some waiting) = asks_or_commits waiting (certified_in s)

module _ (s : ClientState) (bytes : List ℕ) where
  hears : (frame : Frame) → frame_in bytes ≡ Ok frame → screen s.keys (parts_of frame) ≡ None → Comes s (IsHeard s bytes) (hear s frame)
  hears (frames.SpecResponse spec reply order) is clear =
      hears_response s (IsHeard s bytes) (record { spec = spec; reply = reply; order = order }) spec.by
      (λ id by primary.
      let verify = all_verify s.keys (parts_of (frames.SpecResponse spec reply order)) clear in
      record { frame = is; by = by; signed = verify.0; primary = primary; ordered = verify.1 })
  hears (frames.LocalCommit local) is clear = hears_local s (IsHeard s bytes) (is_replica local.by) local
  hears (frames.Request ask) is clear = same refl
  hears (frames.Order both) is clear = same refl
  hears (frames.Commit specs) is clear = same refl
  hears (frames.ConfirmReq confirm ask) is clear = same refl
  hears (frames.FillHole hole) is clear = same refl
  hears (frames.Hate hate) is clear = same refl
  hears (frames.Pom first second) is clear = same refl
  hears (frames.Checkpoint check) is clear = same refl

  hears_unless : (frame : Frame) → frame_in bytes ≡ Ok frame → (cause : Option Cause) → screen s.keys (parts_of frame) ≡ cause → Comes s (IsHeard s bytes) (unless cause s (hear s frame))
  hears_unless frame is (Some cause) screened = same refl
  hears_unless frame is None screened = hears frame is screened

  hears_read : (read : Result Frame FrameFault) → frame_in bytes ≡ read → Comes s (IsHeard s bytes) (decoded s read)
  hears_read (Err fault) is = same refl
  hears_read (Ok frame) is = hears_unless frame is (screen s.keys (parts_of frame)) refl

  -- frames of a change of view leave all as it was
  hears_view : (read : Result ViewFrame FrameFault) → Comes s (IsHeard s bytes) (view_decoded s read)
  hears_view (Err fault) = same refl
  hears_view (Ok frame) = screened (screen s.keys (view_parts.parts_of frame))
    where
      screened : (cause : Option Cause) → Comes s (IsHeard s bytes) (unless cause s (refused causes.WrongRole s))
      screened (Some cause) = same refl
      screened None = same refl

  hears_either : (read : Result Frame FrameFault) → frame_in bytes ≡ read → Comes s (IsHeard s bytes) (decoded_as s bytes read)
  hears_either (Err faults.Kind) is = hears_view (views.frame_in bytes)
  hears_either (Err faults.Short) is = same refl
  hears_either (Err faults.Version) is = same refl
  hears_either (Err faults.TooLong) is = same refl
  hears_either (Err faults.Trailing) is = same refl
  hears_either (Err faults.Range) is = same refl
  hears_either (Ok frame) is = hears_read (Ok frame) is

  pub heard_comes : Comes s (IsHeard s bytes) (client_step s (Heard bytes))
  unfolding client_step
  heard_comes = hears_either (frame_in bytes) refl

abbrev pub Nothing : ℕ → Response → Type 0
Nothing id r = ⊥

pub timer_comes : (s : ClientState) (kind : TimerKind) → Comes s Nothing (client_step s (Timer kind))
unfolding client_step run_out
timer_comes s timers.Answer = runs_out s Nothing s.waiting
timer_comes s timers.Request = same refl
timer_comes s timers.Change = same refl

-- ---- what it then keeps

kept_or_filled : (xs : List (Option Response)) (id at : ℕ) (r q : Response) → slice_index_or (slice_set xs id (Some r)) at None ≡ Some q
    → ((at ≡ id) × (q ≡ r)) ⊎ (slice_index_or xs at None ≡ Some q)
kept_or_filled [] id at r q is = inr is
kept_or_filled (x ∷ xs) zero zero r q is = inl (refl, cc)
kept_or_filled (x ∷ xs) zero (suc at) r q is = inr is
kept_or_filled (x ∷ xs) (suc id) zero r q is = inr is
kept_or_filled (x ∷ xs) (suc id) (suc at) r q is =
    elim (kept_or_filled xs id at r q is) [ inl both ↦ inl (ap suc both.0, both.1) | inr other ↦ inr other ]

-- a completion changes nothing of what is kept
kept_if : (t : ClientState) (r : Response) (b : Bool) → (if b then complete t r else t).responses ≡ t.responses
kept_if t r true = refl
kept_if t r false = refl

kept_filled : (s : ClientState) (id : ℕ) (r : Response) → (completed_if (keep s id r) r).responses ≡ slice_set s.responses id (Some r)
kept_filled s id r = kept_if (keep s id r) r (nat_le (keep s id r).counts.fast (agreeing (keep s id r) r.spec.stmt))

pub kept_or_brought : (s : ClientState) (Brought : ℕ → Response → Type 0) (o : ClientOutcome) → Comes s Brought o → (at : ℕ) (q : Response) → kept_of o.state at ≡ Some q → (kept_of s at ≡ Some q) ⊎ Brought at q
kept_or_brought s Brought o (same is) at q kept = inl (ap (λ (t : ClientState). kept_of t at) (sym is) ∙ kept)
kept_or_brought s Brought o (holds held is) at q kept = inl (ap (λ (t : ClientState). kept_of t at) (sym is) ∙ kept)
kept_or_brought s Brought o (completes c held is) at q kept = inl (ap (λ (t : ClientState). kept_of t at) (sym is) ∙ kept)
kept_or_brought s Brought o (fills id r blamed brought is) at q kept =
    let lists : o.state.responses ≡ slice_set s.responses id (Some r) = ap (λ (t : ClientState). t.responses) is ∙ kept_filled s id r in
    let there : slice_index_or (slice_set s.responses id (Some r)) at None ≡ Some q = ap (λ (l : List (Option Response)). slice_index_or l at None) (sym lists) ∙ kept in
    elim (kept_or_filled s.responses id at r q there) [
      | inl both ↦ inr (subst (λ (n : ℕ). Brought n q) (sym both.0) (subst (λ (p : Response). Brought id p) (sym both.1) brought))
      | inr other ↦ inl other
    ]

-- who it is, the counts and the keys
pub record IsSame (s t : ClientState) : Type 0 where
  pub me : t.me ≡ s.me
  pub counts : t.counts ≡ s.counts
  pub keys : t.keys ≡ s.keys

same_as : (s u t : ClientState) → t ≡ u → IsSame s u → IsSame s t
same_as s u t is alike = subst (λ (x : ClientState). IsSame s x) (sym is) alike

same_if : (s : ClientState) (id : ℕ) (r : Response) (b : Bool) → IsSame s (if b then complete (keep s id r) r else keep s id r)
same_if s id r true = record { me = refl; counts = refl; keys = refl }
same_if s id r false = record { me = refl; counts = refl; keys = refl }

pub step_same : (s : ClientState) (Brought : ℕ → Response → Type 0) (o : ClientOutcome) → Comes s Brought o → IsSame s o.state
step_same s Brought o (same is) = same_as s s o.state is (record { me = refl; counts = refl; keys = refl })
step_same s Brought o (holds held is) = same_as s (record s { commit = held }) o.state is (record { me = refl; counts = refl; keys = refl })
step_same s Brought o (completes c held is) = same_as s (complete_by s c) o.state is (record { me = refl; counts = refl; keys = refl })
step_same s Brought o (fills id r blamed brought is) =
    let alike = same_if s id r (nat_le (keep s id r).counts.fast (agreeing (keep s id r) r.spec.stmt)) in
    same_as s (record (completed_if (keep s id r) r) { blamed = blamed }) o.state is (record { me = alike.me; counts = alike.counts; keys = alike.keys })

-- a request that waits then waited before
waits_if : (s : ClientState) (r : Response) (waiting : Signed Ask) (b : Bool) → (if b then complete s r else s).waiting ≡ Some waiting → s.waiting ≡ Some waiting
waits_if s r waiting true waits = absurd cc
waits_if s r waiting false waits = waits

pub waited_before : (s : ClientState) (Brought : ℕ → Response → Type 0) (o : ClientOutcome) → Comes s Brought o → (waiting : Signed Ask) → o.state.waiting ≡ Some waiting → s.waiting ≡ Some waiting
waited_before s Brought o (same is) waiting waits = ap (λ (t : ClientState). t.waiting) (sym is) ∙ waits
waited_before s Brought o (holds held is) waiting waits = ap (λ (t : ClientState). t.waiting) (sym is) ∙ waits
waited_before s Brought o (completes c held is) waiting waits =
    let none : None ≡ Some waiting = ap (λ (t : ClientState). t.waiting) (sym is) ∙ waits in absurd cc
waited_before s Brought o (fills id r blamed brought is) waiting waits =
    waits_if (keep s id r) r waiting (nat_le (keep s id r).counts.fast (agreeing (keep s id r) r.spec.stmt)) (ap (λ (t : ClientState). t.waiting) (sym is) ∙ waits)

-- ---- what is complete

stays_open : (s t : ClientState) (d : Done) (b : Bool) → (if b then (if b then None else t.done) else None) ≡ Some d → ⊥
stays_open s t d true is = cc
stays_open s t d false is = cc

filled_done : (s : ClientState) (id : ℕ) (r : Response) (d : Done) (b enough : Bool) → is_waiting s.waiting ≡ b
    → (if b then (if is_waiting (if enough then complete (keep s id r) r else keep s id r).waiting then None else (if enough then complete (keep s id r) r else keep s id r).done) else None) ≡ Some d → d ≡ done_of r
filled_done s id r d true true waits is = let back : Some (done_of r) ≡ Some d = is in sym (same_Some (done_of r) d back)
filled_done s id r d true false waits is =
    let open_still : (if true then (if true then None else s.done) else None) ≡ Some d =
    ap (λ (b : Bool). if true then (if b then None else s.done) else None) (sym waits) ∙ is in
    absurd (stays_open s s d true open_still)
filled_done s id r d false enough waits is = absurd cc

told_by : (s : ClientState) (c : Commit) (d : Done) (b : Bool) → (if b then Some (done_by c) else None) ≡ Some d → d ≡ done_by c
told_by s c d true is = sym (same_Some (done_by c) d is)
told_by s c d false is = absurd cc

-- a completion is of a response that came with the frame, or of the certificate
pub data Tells (s : ClientState) (Brought : ℕ → Response → Type 0) (d : Done) : Type 0 where
  response : (id : ℕ) (r : Response) → Brought id r → d ≡ done_of r → Tells s Brought d
  certificate : (c : Commit) → s.commit ≡ Some c → d ≡ done_by c → Tells s Brought d

pub completed_reply : (s : ClientState) (Brought : ℕ → Response → Type 0) (o : ClientOutcome) (d : Done) → Comes s Brought o → completed_by s o.state ≡ Some d → Tells s Brought d
completed_reply s Brought o d (same is) done =
    absurd (stays_open s s d (is_waiting s.waiting) (ap (λ (t : ClientState). completed_by s t) (sym is) ∙ done))
completed_reply s Brought o d (holds held is) done =
    absurd (stays_open s s d (is_waiting s.waiting) (ap (λ (t : ClientState). completed_by s t) (sym is) ∙ done))
completed_reply s Brought o d (completes c held is) done =
    certificate c held (told_by s c d (is_waiting s.waiting) (ap (λ (t : ClientState). completed_by s t) (sym is) ∙ done))
completed_reply s Brought o d (fills id r blamed brought is) done =
    response id r brought
    (filled_done s id r d (is_waiting s.waiting) (nat_le (keep s id r).counts.fast (agreeing (keep s id r) r.spec.stmt)) refl
    (ap (λ (t : ClientState). completed_by s t) (sym is) ∙ done))

-- ---- a request

pub none_filled : (n at : ℕ) (q : Response) → slice_index_or (replicate n None) at None ≡ Some q → ⊥
none_filled zero at q is = cc
none_filled (suc n) zero q is = cc
none_filled (suc n) (suc at) q is = none_filled n at q is

-- a request drops what was kept, or leaves all
pub record IsAsked (s : ClientState) (o : ClientOutcome) : Type 0 where
  pub same : IsSame s o.state
  pub kept : (at : ℕ) (q : Response) → kept_of o.state at ≡ Some q → kept_of s at ≡ Some q
  pub committed : (waiting : Signed Ask) (c : Commit) → o.state.waiting ≡ Some waiting → o.state.commit ≡ Some c → (s.waiting ≡ Some waiting) × (s.commit ≡ Some c)
  pub incomplete : completed_by s o.state ≡ None

stays_incomplete : (s : ClientState) (b : Bool) → (if b then (if b then None else s.done) else None) ≡ None
stays_incomplete s true = refl
stays_incomplete s false = refl

waits_incomplete : (s t : ClientState) (b : Bool) → (if b then (if true then None else t.done) else None) ≡ None
waits_incomplete s t true = refl
waits_incomplete s t false = refl

with_left : (s : ClientState) (op : List ℕ) (number : Bool) → IsAsked s (if number then asked s (next_ask s op) else refused causes.KeySpent s)
with_left s op true =
    record {
      same = record { me = refl; counts = refl; keys = refl };
      kept = λ at q is. absurd (none_filled s.counts.n at q is);
      committed = λ waiting c waits held. absurd cc;
      incomplete = waits_incomplete s (asked s (next_ask s op)).state (is_waiting s.waiting);
    }
with_left s op false = record { same = record { me = refl; counts = refl; keys = refl }; kept = λ at q is. is; committed = λ waiting c waits held. (waits, held); incomplete = stays_incomplete s (is_waiting s.waiting) }

asks_while : (s : ClientState) (wait : Option (Signed Ask)) (op : List ℕ) → IsAsked s (ask_while s wait op)
asks_while s (Some waiting) op = record { same = record { me = refl; counts = refl; keys = refl }; kept = λ at q is. is; committed = λ waiting c waits held. (waits, held); incomplete = stays_incomplete s (is_waiting s.waiting) }
asks_while s None op = with_left s op (nat_le 1 (signs_left s))

pub ask_comes : (s : ClientState) (op : List ℕ) → IsAsked s (ask s op)
unfolding ask
ask_comes s op = asks_while s s.waiting op
