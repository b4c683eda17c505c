-- An event at a correct client keeps a good world good.
use Rattle.std.proofs.Common.{◌≡◌, inl, inr, ℕ, ◌≤◌, Bool, true, false, List, [], ◌∷◌, Option, Some, None, Result, Ok, refl, sym, ap, ◌∙◌, subst, arith}
use Rattle.std.specs.Prelude.{if◌then◌else◌}
use Rattle.std.specs.List.{AllByRecursion}
use Rattle.std.proofs.lemmas.Option.{same_Some}
use Rattle.zy_base.specs.Machine.{Rules}
use Rattle.zy_base.specs.declared.counts.Counts.{Counts}
use Rattle.zy_base.specs.declared.ids.ClientId.{ClientId}
use Rattle.zy_base.specs.declared.ids.Digest.{Digest}
use Rattle.zy_base.specs.declared.ids.Place.{Place}
use Rattle.zy_base.specs.declared.ids.View.{View}
use Rattle.zy_base.specs.declared.frame_fault.FrameFault.{FrameFault}
use Rattle.zy_base.specs.declared.step.Event.{Event}
use Rattle.zy_base.specs.declared.step.Event.TheVariants.{Heard}
use Rattle.zy_cert.specs.Equal.{same_spec, spec-equal}
use Rattle.zy_client.specs.Held.{IsHeardLocal, CommitComes, IsComplete}
use Rattle.zy_client.specs.Held.CommitComes.{stays, counts, certifies}
use Rattle.zy_client.specs.Held.IsComplete.{fast, slow}
use Rattle.zy_frames.specs.Frames.{frame_in}
use Rattle.zy_frames.specs.declared.frame.Frame.{Frame}
use Rattle.zy_frames.specs.declared.frame.Frame.TheVariants as frames
use Rattle.zy_law.specs.World.{Statement}
use Rattle.zy_law_normal.specs.Tied.{IsVouchedBy}
use Rattle.zy_parts.specs.Numbers as numbers
use Rattle.zy_parts.specs.Signing.{part_of, text_of}
use Rattle.zy_parts.specs.Statements.{local_fields}
use Rattle.zy_parts.specs.declared.signed.Signed.{Signed}
use Rattle.zy_parts.specs.declared.statements.Ask.{Ask}
use Rattle.zy_parts.specs.declared.statements.Local.{Local}
use Rattle.zy_parts.specs.declared.statements.Spec.{Spec}
use Rattle.zy_seal.specs.Keys.{Keys}
use Rattle.zy_seal.specs.Screening.{answer_to}
use Rattle.zy_seal.specs.declared.directory.SealAnswer.TheVariants as answers
use Rattle.zy_table.specs.ClientRows.{kept_of, agreeing, locals_for, done_of, done_by, client_step}
use Rattle.zy_table.specs.ClientState.{ClientState, ClientOutcome}
use Rattle.zy_table.specs.Roles.{is_replica}
use Rattle.zy_table.specs.declared.client.Commit.{Commit}
use Rattle.zy_table.specs.declared.client.Done.{Done}
use Rattle.zy_table.specs.declared.client.Response.{Response}
use Rattle.zy_world_law.specs.Events.{client_goes, completed_by}
use Rattle.zy_world_law.specs.Events.Happened.{Goes}
use Rattle.zy_world_law.specs.Good.{IsGood, IsClientTied, IsBackedBy, IsCommitBacked, IsKept, local_to}
use Rattle.zy_world_law.specs.Honest.{forger_in}
use Rattle.zy_world_law.specs.Safe.{completion_of}
use Rattle.zy_table.specs.declared.deeds.AnyFrame.TheVariants.{Plain}
use Rattle.zy_law_views.proofs.ReadBack.{local_back}
use Rattle.zy_law_views.specs.Told.{statement_in}
use Rattle.zy_evidence.specs.Reading.{number_of_party}
use Rattle.zy_world_law.specs.Reading.{either_read}
use Rattle.zy_world_law.specs.Seen.{seen}
use Rattle.zy_law.specs.Completed.{IsCompleted}
use Rattle.zy_world_law.specs.Setup.{keys_of}
use Rattle.zy_world_law.specs.World.{World, Client, Texts, client_at}
use Rattle.zy_world_law.specs.declared.note.Note.{Note}
use Rattle.zy_world_law.proofs.Completing.{IsEnded, backed, fast_completed, slow_completed, completes}
use Rattle.zy_world_law.proofs.DecodedInRange.{decoded_readable}
use Rattle.zy_world_law.proofs.Goings.{IsAfter, IsEnd, client_goes_good}
use Rattle.zy_world_law.proofs.HeldLaw.{HeldLaw}
use Rattle.zy_world_law.proofs.HonestEvents.{same_heard}
use Rattle.zy_world_law.proofs.KeptOrHeard.{IsSame, Comes, Tells, kept_or_brought, step_same, waited_before, completed_reply}
use Rattle.zy_world_law.proofs.KeptTexts.{IsKeeping}
use Rattle.zy_world_law.proofs.NotForged.{parts_said}
use Rattle.zy_law_normal.proofs.Goes.{all_of_both}
use Rattle.zy_world_law.proofs.Vouched.{part_vouched}

abbrev local_at : View × Place × Digest → Statement
local_at p = Statement.Local p.0.0 (record { place = p.1.0; head = p.2 })

-- a local commit that came with a frame that isn't forged
pub heard_vouched : {S : Type 0} (R : Rules S) (w : World S) (s : ClientState) → s.keys ≡ keys_of w.setup → (bytes : List ℕ) → forger_in w bytes ≡ None → (spec : Spec) (vote : Signed Local)
    → IsHeardLocal s (Heard bytes) spec vote → IsVouchedBy (seen R w) (local_to spec) vote.by
heard_vouched R w s keys bytes none spec vote heard =
    let frame : Frame = frames.LocalCommit vote in
    let is : frame_in bytes ≡ Ok frame = ap frame_in (same_heard bytes heard.bytes heard.heard) ∙ heard.frame in
    let signed : answer_to (keys_of w.setup) (part_of numbers.local local_fields vote) ≡ answers.Yes =
    subst (λ (k : Keys). answer_to k (part_of numbers.local local_fields vote) ≡ answers.Yes) keys heard.counted.signed in
    let said = (parts_said w bytes (Plain frame) none (ap (λ (r : Result Frame FrameFault). either_read bytes r) is)).0 signed in
    let reads : statement_in (number_of_party vote.by) (text_of numbers.local local_fields vote.by vote.stmt) ≡ local_to spec =
    local_back (number_of_party vote.by) vote.by vote.stmt (decoded_readable bytes frame is) ∙ ap local_at heard.counted.point in
    part_vouched R w vote.by (text_of numbers.local local_fields vote.by vote.stmt) vote.sig (local_to spec) (ap is_replica heard.counted.by) reads signed said

-- ---- the certificate that is held then

module _ {S : Type 0} (R : Rules S) (w : World S) (good : IsGood R w) (id : ClientId) (x : Client) (at : client_at w id.0 ≡ Some x) (event : Event)
    (waiting : Signed Ask) (waited : x.state.waiting ≡ Some waiting)
    (heard : (spec : Spec) (vote : Signed Local) → IsHeardLocal x.state event spec vote → IsVouchedBy (seen R w) (local_to spec) vote.by) where
  tie : IsClientTied R w id.0 x
  tie = good.client_tied id.0 x at

  abbrev IsCounted : Spec → Signed Local → Type 0
  IsCounted spec vote = IsVouchedBy (seen R w) (local_to spec) vote.by

  counted_if : (spec : Spec) (before : Commit) → AllByRecursion (IsCounted before.spec) before.locals.votes → (b : Bool) → same_spec before.spec spec ≡ b
      → AllByRecursion (IsCounted spec) (if b then before.locals else record { count = x.state.counts.local; votes = [] }).votes
  counted_if spec before counted true same = subst (λ (s : Spec). AllByRecursion (IsCounted s) before.locals.votes) ((spec-equal before.spec spec).0 same) counted
  counted_if spec before counted false same = tt

  -- those that go on counting for the same responses
  still_counted : (spec : Spec) (before : Option Commit) → x.state.commit ≡ before → AllByRecursion (IsCounted spec) (locals_for x.state.counts.local spec before).votes
  still_counted spec None held = tt
  still_counted spec (Some c) held = counted_if spec c (tie.committed waiting c waited held).counted (same_spec c.spec spec) refl

  pub commit_backed : (c : Commit) → CommitComes x.state event c → IsCommitBacked (seen R w) w.texts c
  commit_backed c (stays held) = tie.committed waiting c waited held
  commit_backed c (counts before vote held local is) =
      let b = tie.committed waiting before waited held in
      subst (λ (d : Commit). IsCommitBacked (seen R w) w.texts d) (sym is)
      (record {
        certified = b.certified;
        reply = b.reply;
        counted = all_of_both (IsCounted before.spec) before.locals.votes (vote ∷ []) b.counted (heard before.spec vote local, tt);
      })
  commit_backed c (certifies number r kept enough is) =
      let spec : Spec = r.spec.stmt in
      let many : w.setup.counts.cert ≤ agreeing x.state spec = omega (arith, enough, ap (λ (n : Counts). n.cert) tie.counts) in
      let same : IsSame x.state x.state = record { me = refl; counts = refl; keys = refl } in
      subst (λ (d : Commit). IsCommitBacked (seen R w) w.texts d) (sym is)
      (record {
        certified = backed R w good id x at x.state same tie.backed waiting (tie.holds.responses waiting waited) spec w.setup.counts.cert many;
        reply = (tie.backed number r kept).reply;
        counted = still_counted spec x.state.commit refl;
      })

  -- a completion by it, or by responses
  pub completed : (t : ClientState) (same : IsSame x.state t) (kept : (number : ℕ) (r : Response) → kept_of t number ≡ Some r → IsBackedBy w number r) (d : Done)
      → IsComplete x.state event t waiting → t.done ≡ Some d → IsCompleted (seen R w) (completion_of (record { client = id; done = d }))
  completed t same kept d (fast c) done =
      subst (λ (e : Done). IsCompleted (seen R w) (completion_of (record { client = id; done = e }))) (same_Some (done_of c.response) d (sym c.done ∙ done))
      (fast_completed R w good id x at t same kept waiting c)
  completed t same kept d (slow c) done =
      subst (λ (e : Done). IsCompleted (seen R w) (completion_of (record { client = id; done = e }))) (same_Some (done_by c.commit) d (sym c.done ∙ done))
      (slow_completed R w good id x at t same kept waiting c.commit c.vote (tie.holds.commit waiting c.commit waited c.held) (tie.committed waiting c.commit waited c.held)
      (heard c.commit.spec c.vote c.heard) c.votes c.enough)

-- ---- the event

module _ {S : Type 0} (R : Rules S) (law : HeldLaw) (w : World S) (good : IsGood R w) (id : ClientId) (x : Client) (at : client_at w id.0 ≡ Some x) (event : Event) (texts : List (List ℕ))
    (Brought : ℕ → Response → Type 0) (comes : Comes x.state Brought (client_step x.state event)) where
  abbrev o : ClientOutcome
  o = client_step x.state event

  abbrev with_texts : Texts → World S
  with_texts more = record w { texts = more }

  same : IsSame x.state o.state
  same = step_same x.state Brought o comes

  module _ (brought_backed : (more : Texts) → IsKeeping w.texts texts more → (number : ℕ) (r : Response) → Brought number r → IsBackedBy (with_texts more) number r)
      (heard : (more : Texts) (spec : Spec) (vote : Signed Local) → IsHeardLocal x.state event spec vote → IsVouchedBy (seen R (with_texts more)) (local_to spec) vote.by) where
    kept_backed : (more : Texts) → IsKeeping w.texts texts more → IsGood R (with_texts more) → (number : ℕ) (r : Response) → kept_of o.state number ≡ Some r → IsBackedBy (with_texts more) number r
    kept_backed more keeping good1 number r kept = elim (kept_or_brought x.state Brought o comes number r kept) [
      | inl before ↦ (good1.client_tied id.0 x at).backed number r before
      | inr brought ↦ brought_backed more keeping number r brought
    ]

    held_backed : (more : Texts) → IsKeeping w.texts texts more → IsGood R (with_texts more) → (waiting : Signed Ask) (c : Commit) → o.state.waiting ≡ Some waiting → o.state.commit ≡ Some c
        → IsCommitBacked (seen R (with_texts more)) more c
    held_backed more keeping good1 waiting c waits held =
        commit_backed R (with_texts more) good1 id x at event waiting (waited_before x.state Brought o comes waiting waits) (heard more) c (law.commits x.state event c held)

    -- the reply that is told is kept
    reply_kept : (more : Texts) → IsKeeping w.texts texts more → IsGood R (with_texts more) → (waiting : Signed Ask) → x.state.waiting ≡ Some waiting → (d : Done) → Tells x.state Brought d → IsKept more d.reply
    reply_kept more keeping good1 waiting waited d (Tells.response number r brought is) =
        subst (λ (e : Done). IsKept more e.reply) (sym is) (brought_backed more keeping number r brought).reply
    reply_kept more keeping good1 waiting waited d (Tells.certificate c held is) =
        subst (λ (e : Done). IsKept more e.reply) (sym is) ((good1.client_tied id.0 x at).committed waiting c waited held).reply

    ends : (more : Texts) → IsKeeping w.texts texts more → IsGood R (with_texts more) → (d : Done) → completed_by x.state o.state ≡ Some d → IsEnd R (with_texts more) id d
    ends more keeping good1 d is =
        let e : IsEnded x.state event d = completes law x.state event d (good.client_tied id.0 x at).holds is in
        record {
          completed = completed R (with_texts more) good1 id x at event e.waiting e.waited (heard more) o.state same (kept_backed more keeping good1) d e.complete e.done;
          reply = reply_kept more keeping good1 e.waiting e.waited d (completed_reply x.state Brought o d comes is);
        }

    pub client_event : (v : World S) (note : Note) → client_goes w id x texts o ≡ Goes v note → IsAfter R w v
    client_event v note is =
        client_goes_good R w good id x texts o v note at same (law.steps x.state event (good.client_tied id.0 x at).holds) kept_backed held_backed ends is
