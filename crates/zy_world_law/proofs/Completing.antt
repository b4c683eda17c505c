-- A completion rests on responses, or local commits of a certificate, of so many different replicas.
use Rattle.std.proofs.Common.{◌≡◌, ℕ, ◌+◌, ◌<◌, ◌≤◌, Bool, true, false, List, [], ◌∷◌, ◌++◌, length, get_or, Option, Some, None, refl, sym, ap, ◌∙◌, subst, arith}
use Rattle.std.specs.Prelude.{slice_get, if◌then◌else◌}
use Rattle.std.specs.List.{AllByRecursion}
use Rattle.std.proofs.lemmas.List.{length-append}
use Rattle.std.proofs.lemmas.Option.{slice_get_within}
use Rattle.std.proofs.lemmas.Nat.{from_be_bytes-to_be_bytes_4}
use Rattle.zy_base.specs.Machine.{Rules}
use Rattle.zy_base.specs.declared.counts.Counts.{Counts}
use Rattle.zy_base.specs.declared.ids.ClientId.{ClientId}
use Rattle.zy_base.specs.declared.ids.Party.{Party}
use Rattle.zy_base.specs.declared.ids.Party.TheVariants as parties
use Rattle.zy_base.specs.declared.step.Event.{Event}
use Rattle.zy_cert.specs.Equal.{spec-equal}
use Rattle.zy_cert.specs.Votes.{AreVotes}
use Rattle.zy_client.specs.Held.{Holds, AreHeld, IsHeldBy, IsCommitHeld, IsCompleteFast, IsComplete}
use Rattle.zy_law.specs.Completed.{IsCompleted}
use Rattle.zy_law.specs.Completed.IsCompleted.{fast, slow}
use Rattle.zy_law.specs.Said.{IsVouched, IsBacked}
use Rattle.zy_law.specs.World.{Statement}
use Rattle.zy_law_normal.proofs.Backing.{all_from, signed_backed}
use Rattle.zy_law_normal.specs.Acts.{spec_statement, answer_told}
use Rattle.zy_law_normal.specs.Tied.{IsVouchedBy}
use Rattle.zy_parts.specs.Numbers as numbers
use Rattle.zy_parts.specs.Signing.{text_of}
use Rattle.zy_parts.specs.Statements.{spec_fields}
use Rattle.zy_parts.specs.declared.signed.Signed.{Signed}
use Rattle.zy_parts.specs.declared.statements.Ask.{Ask}
use Rattle.zy_parts.specs.declared.statements.Local.{Local}
use Rattle.zy_parts.specs.declared.statements.Spec.{Spec}
use Rattle.zy_table.specs.ClientRows.{kept_of, agrees, agreeing, done_of, done_by, client_step}
use Rattle.zy_table.specs.ClientState.{ClientState, is_waiting}
use Rattle.zy_table.specs.declared.client.Commit.{Commit}
use Rattle.zy_table.specs.declared.client.Done.{Done}
use Rattle.zy_table.specs.declared.client.Response.{Response}
use Rattle.zy_world_law.specs.Events.{completed_by}
use Rattle.zy_world_law.specs.Good.{IsGood, IsClientTied, IsBackedBy, IsCommitBacked, local_to}
use Rattle.zy_world_law.specs.Safe.{completion_of}
use Rattle.zy_world_law.specs.Seen.{seen}
use Rattle.zy_law_views.proofs.ReadBack.{spec_back}
use Rattle.zy_law_views.specs.Told.{statement_in}
use Rattle.zy_law_views.proofs.AtWork.{told_alike}
use Rattle.zy_world_law.specs.World.{World, Client, client_at}
use Rattle.zy_world_law.proofs.Agreeing.{Picked, picked, rising_differ}
use Rattle.zy_world_law.proofs.HeldLaw.{HeldLaw}
use Rattle.zy_world_law.proofs.KeptOrHeard.{IsSame}
use Rattle.zy_world_law.proofs.Seats.{seat_of}
use Rattle.zy_law_normal.proofs.Goes.{all_of_both}
use Rattle.zy_world_law.proofs.Vouched.{text_vouched}
use Rattle.zy_chain.specs.Answers.{digest_of_answers}

-- ---- what a response to a client that there may be says

spec_read : (r : ℕ) (by : Party) (spec : Spec) → spec.client.0 < 64 → spec_fields.Fits spec → statement_in r (text_of numbers.spec spec_fields by spec) ≡ spec_statement spec
spec_read r by spec small fits =
    spec_back r by spec (subst (λ (n : ℕ). spec_fields.Fits (record spec { client = record { 0 = n } })) (sym (from_be_bytes-to_be_bytes_4 spec.client.0 (omega arith))) fits) ∙ sym (told_alike spec small)

-- ---- equal responses

agreed_by : (spec : Spec) (o : Option Response) → agrees spec o ≡ true → (r : Response) × (o ≡ Some r) × (r.spec.stmt ≡ spec)
agreed_by spec None is = absurd cc
agreed_by spec (Some r) is = (r, refl, (spec-equal r.spec.stmt spec).0 is)

-- ---- kept responses

module _ {S : Type 0} (R : Rules S) (w : World S) (good : IsGood R w) (id : ClientId) (x : Client) (at : client_at w id.0 ≡ Some x) (t : ClientState) (same : IsSame x.state t)
    (kept : (number : ℕ) (r : Response) → kept_of t number ≡ Some r → IsBackedBy w number r) where
  tie : IsClientTied R w id.0 x
  tie = good.client_tied id.0 x at

  own_number : id.0 < 64
  own_number = omega (arith, slice_get_within w.clients id.0 (Some x) (seat_of (slice_get w.clients id.0) x at), good.clients, good.setup.clients)

  me_is : t.me.0 ≡ id.0
  me_is = ap (λ (c : ClientId). c.0) same.me ∙ tie.me

  counts_are : t.counts ≡ w.setup.counts
  counts_are = same.counts ∙ tie.counts

  vouched : (number : ℕ) (r : Response) → IsBackedBy w number r → r.spec.stmt.client.0 < 64 → IsVouched (seen R w) (spec_statement r.spec.stmt) number
  vouched number r b client =
      text_vouched R w number (text_of numbers.spec spec_fields (parties.Replica (record { 0 = number })) r.spec.stmt) (spec_statement r.spec.stmt) b.within b.said
      (spec_read number (parties.Replica (record { 0 = number })) r.spec.stmt client (b.spelled (omega (arith, client))))

  module _ (waiting : Signed Ask) (held : AreHeld t waiting) where
    vouched_at : (spec : Spec) (number : ℕ) → number < length t.responses → agrees spec (get_or t.responses number None) ≡ true → IsVouched (seen R w) (spec_statement spec) (0 + number)
    vouched_at spec number within is =
        let (r, there, same) = agreed_by spec (get_or t.responses number None) is in
        let own : IsHeldBy t waiting number r = held number r there in
        let client : r.spec.stmt.client.0 < 64 = omega (arith, own.client, me_is, own_number) in
        let one : IsVouched (seen R w) (spec_statement r.spec.stmt) number = vouched number r (kept number r there) client in
        let none : number ≡ 0 + number = omega arith in
        subst (λ (n : ℕ). IsVouched (seen R w) (spec_statement spec) n) none (subst (λ (s : Spec). IsVouched (seen R w) (spec_statement s) number) same one)

    -- as many responses as are equal to one stand behind it
    pub backed : (spec : Spec) (count : ℕ) → count ≤ agreeing t spec → IsBacked (seen R w) count (spec_statement spec)
    backed spec count enough =
        let them : Picked 0 count (IsVouched (seen R w) (spec_statement spec)) =
        picked (agrees spec) None (IsVouched (seen R w) (spec_statement spec)) t.responses 0 count (vouched_at spec) enough in
        record {
          who = them.numbers;
          many = them.many;
          different = rising_differ 0 them.numbers them.rising;
          vouched = all_from (IsVouched (seen R w) (spec_statement spec)) them.numbers them.each;
        }

  -- ---- completions

  -- what the law reads of a response to this client, with a reply that has its digest
  told_is : (spec : Spec) (reply : List ℕ) (d : Done) → spec.client.0 ≡ id.0 → digest_of_answers reply ≡ spec.reply → d.view ≡ spec.view → d.place ≡ spec.place → d.head ≡ spec.head → d.stamp ≡ spec.stamp → d.reply ≡ reply
      → spec_statement spec ≡ Statement.Spec (completion_of (record { client = id; done = d })).view (completion_of (record { client = id; done = d })).mark (completion_of (record { client = id; done = d })).answer
  told_is spec reply d client digest view place head stamp told =
      λ i. Statement.Spec (sym view i).0 (record { place = (sym place i).0; head = sym head i })
      (answer_told (client i) (sym stamp i).0 ((sym digest ∙ ap digest_of_answers (sym told)) i))

  pub fast_completed : (waiting : Signed Ask) (c : IsCompleteFast t waiting) → IsCompleted (seen R w) (completion_of (record { client = id; done = done_of c.response }))
  fast_completed waiting c =
      let spec : Spec = c.response.spec.stmt in
      let enough : w.setup.counts.fast ≤ agreeing t spec = omega (arith, c.enough, ap (λ (n : Counts). n.fast) counts_are) in
      fast (subst (λ (s : Statement). IsBacked (seen R w) w.setup.counts.fast s)
      (told_is spec c.response.reply (done_of c.response) (c.own.client ∙ me_is) c.own.reply refl refl refl refl refl)
      (backed waiting c.held spec w.setup.counts.fast enough))

  pub slow_completed : (waiting : Signed Ask) (commit : Commit) (vote : Signed Local) → IsCommitHeld x.state waiting commit → IsCommitBacked (seen R w) w.texts commit
      → IsVouchedBy (seen R w) (local_to commit.spec) vote.by → AreVotes (commit.locals.votes ++ vote ∷ []) → length commit.locals.votes + 1 ≡ x.state.counts.local
      → IsCompleted (seen R w) (completion_of (record { client = id; done = done_by commit }))
  slow_completed waiting commit vote held is counted votes enough =
      let list : List (Signed Local) = commit.locals.votes ++ vote ∷ [] in
      let long : length list ≡ w.setup.counts.local = length-append commit.locals.votes (vote ∷ []) ∙ enough ∙ ap (λ (n : Counts). n.local) tie.counts in
      let all : AllByRecursion (λ (v : Signed Local). IsVouchedBy (seen R w) (local_to commit.spec) v.by) list =
      all_of_both (λ (v : Signed Local). IsVouchedBy (seen R w) (local_to commit.spec) v.by) commit.locals.votes (vote ∷ []) is.counted (counted, tt) in
      slow (subst (λ (s : Statement). IsBacked (seen R w) w.setup.counts.cert s)
      (told_is commit.spec commit.reply (done_by commit) (held.client ∙ tie.me) held.reply refl refl refl refl refl) is.certified)
      (signed_backed (seen R w) (local_to commit.spec) w.setup.counts.local list long votes.different all)

-- ---- which step completes

ends_waiting : (s t : ClientState) (d : Done) (b e : Bool) → (if b then (if e then None else t.done) else None) ≡ Some d → (b ≡ true) × (e ≡ false) × (t.done ≡ Some d)
ends_waiting s t d true true is = absurd cc
ends_waiting s t d true false is = (refl, refl, is)
ends_waiting s t d false e is = absurd cc

waits : (o : Option (Signed Ask)) → is_waiting o ≡ true → (ask : Signed Ask) × (o ≡ Some ask)
waits None is = absurd cc
waits (Some ask) is = (ask, refl)

waits_not : (o : Option (Signed Ask)) → is_waiting o ≡ false → o ≡ None
waits_not None is = refl
waits_not (Some ask) is = absurd cc

-- a step that completes a request ends its waiting
pub record IsEnded (s : ClientState) (event : Event) (d : Done) : Type 0 where
  pub waiting : Signed Ask
  pub waited : s.waiting ≡ Some waiting
  pub complete : IsComplete s event (client_step s event).state waiting
  pub done : (client_step s event).state.done ≡ Some d

pub completes : HeldLaw → (s : ClientState) (event : Event) (d : Done) → Holds s → completed_by s (client_step s event).state ≡ Some d → IsEnded s event d
completes law s event d holds is =
    let t : ClientState = (client_step s event).state in
    let ends = ends_waiting s t d (is_waiting s.waiting) (is_waiting t.waiting) is in
    let (ask, waited) = waits s.waiting ends.0 in
    record { waiting = ask; waited = waited; complete = law.completes s event ask holds waited (waits_not t.waiting ends.1); done = ends.2 }
