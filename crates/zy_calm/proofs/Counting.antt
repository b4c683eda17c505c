-- The local commits reach the client: it counts them until they complete its request, and refuses those that come later.
use Rattle.std.proofs.Common.{◌≡◌, ℕ, zero, suc, ◌+◌, ◌<◌, Bool, false, not, List, [], ◌∷◌, ◌++◌, length, map, replicate, Option, Some, None, refl, sym, ap, ◌∙◌, subst, arith}
use Rattle.std.proofs.lemmas.Bool.{or_from, or_parts}
use Rattle.std.proofs.lemmas.List.{length-append}
use Rattle.std.specs.List.{AllByRecursion, list_any}
use Rattle.std.specs.Prelude.{nat_eq, if◌then◌else◌}
use Rattle.zy_base.specs.Machine.{Rules}
use Rattle.zy_base.specs.declared.cause.Cause.TheVariants as causes
use Rattle.zy_base.specs.declared.ids.Party.{Party}
use Rattle.zy_base.specs.declared.ids.Party.TheVariants.{Replica}
use Rattle.zy_base.specs.declared.step.Answer.TheVariants.{Taken}
use Rattle.zy_calm_rows.proofs.ClientRows.{late_local, local_completes, local_counted}
use Rattle.zy_calm_rows.specs.Waiting.{Answered, IsFresh, commit_with, local_to}
use Rattle.zy_cert.specs.Equal.{local-equal, same_local}
use Rattle.zy_cert.specs.Signers.{has_other, has_signer, same_party}
use Rattle.zy_exec.specs.Replay.{Point}
use Rattle.zy_frames.specs.declared.frame.Frame.TheVariants as frames
use Rattle.zy_parts.specs.declared.signed.Signed.{Signed}
use Rattle.zy_parts.specs.declared.statements.Ask.{Ask}
use Rattle.zy_parts.specs.declared.statements.Local.{Local}
use Rattle.zy_parts.specs.declared.statements.Order.{Order}
use Rattle.zy_parts.specs.declared.statements.Spec.{Spec}
use Rattle.zy_table.specs.ClientRows.{complete_by, count_local, hear, own_reply}
use Rattle.zy_table.specs.ClientState.{ClientOutcome, ClientState, client_outgoing, is_waiting, refused, taken}
use Rattle.zy_table.specs.Roles.{is_replica}
use Rattle.zy_table.specs.declared.client.Done.{Done}
use Rattle.zy_table.specs.declared.client.Path.TheVariants.{Slow}
use Rattle.zy_world_law.specs.Events.{client_note, completed_by}
use Rattle.zy_world_law.specs.Runs.{Rest, flow}
use Rattle.zy_world_law.specs.Setup.{Setup, keys_of}
use Rattle.zy_world_law.specs.World as world
use Rattle.zy_world_law.specs.World.{World, client_at}
use Rattle.zy_world_law.specs.declared.note.Note.{Note}
use Rattle.zy_world_law.specs.declared.note.Note.TheVariants as notes
use Rattle.zy_world_law.specs.declared.note.Note.TheVariants.{Quiet}
use Rattle.zy_calm.proofs.Committing.{IsVote}
use Rattle.zy_calm.proofs.Happens.{IsClientNext, IsDelivery}
use Rattle.zy_calm.proofs.Leads.{Leads, joined}
use Rattle.zy_calm.proofs.Numbers.{AreDifferent}
use Rattle.zy_calm.proofs.Queue.{Hears}
use Rattle.zy_calm.proofs.Receiving.{AreReadable, IsAround, IsClientOf, IsServed, all_late, late_at, new_client, received, step_of}
use Rattle.zy_calm.proofs.Round.{IsRound, answer}

-- ---- who is counted

not_signed_more : (by : Party) (counted : List (Signed Local)) (vote : Signed Local) → has_signer by counted ≡ false → same_party vote.by by ≡ false → has_signer by (counted ++ vote ∷ []) ≡ false
not_signed_more by [] vote none other = or_from (same_party vote.by by) false other refl
not_signed_more by (one ∷ counted) vote none other =
    let parts = or_parts (same_party one.by by) (has_signer by counted) none in
    or_from (same_party one.by by) (has_signer by (counted ++ vote ∷ [])) parts.0 (not_signed_more by counted vote parts.1 other)

all_same_more : (local : Local) (counted : List (Signed Local)) (vote : Signed Local) → has_other same_local local counted ≡ false → vote.stmt ≡ local → has_other same_local local (counted ++ vote ∷ []) ≡ false
all_same_more local [] vote none same = or_from (not (same_local vote.stmt local)) false (ap not ((local-equal vote.stmt local).1 same)) refl
all_same_more local (one ∷ counted) vote none same =
    let parts = or_parts (not (same_local one.stmt local)) (has_other same_local local counted) none in
    or_from (not (same_local one.stmt local)) (has_other same_local local (counted ++ vote ∷ [])) parts.0 (all_same_more local counted vote parts.1 same)

module _ {S : Type 0} (R : Rules S) (s : Setup) (hears : Hears) (client stamp : ℕ) (p : Point S) (ask : Signed Ask) (order : Signed Order) (round : IsRound R s p client ask order) (specs : List (Signed Spec))
    (Stays : List (Option (world.Replica S)) → Type 0) (Other : ℕ → Option world.Client → Type 0) where
  abbrev pub Votes : Type 0
  Votes = List (ℕ × Signed Local)

  abbrev pub a : Answered
  a = answer R s p client ask order

  abbrev pub votes_read : AreReadable s (Signed Local) (IsVote R s p client ask order round specs) frames.LocalCommit
  votes_read = record { fits = λ id vote good. good.fits; accepted = λ id vote good. good.accepted }

  abbrev pub VotesCome : World S → Votes → Type 0
  VotesCome w votes = IsAround R s hears client stamp (Signed Local) (IsVote R s p client ask order round specs) frames.LocalCommit votes_read Stays Other w votes

  abbrev pub VotesServed : World S → Votes → Type 0
  VotesServed w votes = IsServed R s hears client stamp (Signed Local) (IsVote R s p client ask order round specs) frames.LocalCommit votes_read Stays Other w votes

  -- none of these is counted yet
  abbrev pub AreUncounted : List (Signed Local) → Votes → Type 0
  AreUncounted counted votes = AllByRecursion (λ x. has_signer (Replica (record { 0 = x.0 })) counted ≡ false) votes

  -- It waits, and has counted these.
  pub record IsCounting (w : World S) (counted : List (Signed Local)) (votes : Votes) : Type 0 where
    pub around : VotesCome w votes
    pub asking : world.Client
    pub there : client_at w client ≡ Some asking
    pub of : IsClientOf s client stamp asking.state
    pub waits : asking.state.waiting ≡ Some ask
    pub commit : asking.state.commit ≡ Some (commit_with s.counts.local a counted)
    pub fresh : AreUncounted counted votes
    pub same : has_other same_local (local_to a) counted ≡ false
    pub different : AreDifferent (map (λ x. x.0) votes)

  abbrev counted_in : ClientState → List (Signed Local) → ClientState
  counted_in c counted = record c { commit = Some (commit_with s.counts.local a counted) }

  still_fresh : (counted : List (Signed Local)) (i : ℕ) (vote : Signed Local) (votes : Votes) → vote.by ≡ Replica (record { 0 = i }) → list_any (nat_eq i) (map (λ x. x.0) votes) ≡ false → AreUncounted counted votes → AreUncounted (counted ++ vote ∷ []) votes
  still_fresh counted i vote [] by gone fresh = tt
  still_fresh counted i vote (x ∷ votes) by gone fresh =
      let parts = or_parts (nat_eq i x.0) (list_any (nat_eq i) (map (λ z. z.0) votes)) gone in
      (not_signed_more (Replica (record { 0 = x.0 })) counted vote fresh.0 (ap (λ (party : Party). same_party party (Replica (record { 0 = x.0 }))) by ∙ parts.0), still_fresh counted i vote votes by parts.1 fresh.1)

  hears_local : (c : ClientState) (id : ℕ) (vote : Signed Local) → IsVote R s p client ask order round specs id vote → hear c (frames.LocalCommit vote) ≡ count_local c vote
  hears_local c id vote good = ap (λ (b : Bool). if b then count_local c vote else refused causes.WrongRole c) (ap is_replica good.by)

  is_fresh : (counted : List (Signed Local)) (id : ℕ) (vote : Signed Local) → IsVote R s p client ask order round specs id vote → has_signer (Replica (record { 0 = id })) counted ≡ false → has_other same_local (local_to a) counted ≡ false → IsFresh a counted vote
  is_fresh counted id vote good fresh same =
      record { stmt = good.stmt; by = ap (λ (by : Party). has_signer by counted) good.by ∙ fresh; same = ap (λ (x : Local). has_other same_local x counted) good.stmt ∙ same }

  abbrev receive : (w : World S) (y : ℕ × Signed Local) (votes : Votes) (around : VotesCome w (y ∷ votes)) (x : world.Client) → client_at w client ≡ Some x → x.state.keys ≡ keys_of s → (o : ClientOutcome) (note : Note) (Holds : World S → Type 0)
      → hear x.state (frames.LocalCommit y.1) ≡ o → client_note (record { 0 = client }) (completed_by x.state o.state) o.answer ≡ note → client_outgoing o.state.counts.n o.sent ≡ []
      → ((v : World S) → IsClientNext w v client o.state → VotesCome v votes → Holds v) → IsDelivery R hears w note Holds
  receive w y votes around x there keys o note Holds step told nothing leads =
      received R s hears client stamp (Signed Local) (IsVote R s p client ask order round specs) frames.LocalCommit votes_read Stays Other w y votes around x there keys o note Holds step told nothing leads

  counts_one : (w : World S) (counted : List (Signed Local)) (y : ℕ × Signed Local) (votes : Votes) → IsCounting w counted (y ∷ votes) → length counted + 1 < s.counts.local → IsDelivery R hears w Quiet (λ v. IsCounting v (counted ++ y.1 ∷ []) votes)
  counts_one w counted y votes is few =
      let c = is.asking.state in
      let good = is.around.good.0 in
      let after = counted_in c (counted ++ y.1 ∷ []) in
      receive w y votes is.around is.asking is.there is.of.keys (taken after) Quiet (λ v. IsCounting v (counted ++ y.1 ∷ []) votes)
      (hears_local c y.0 y.1 good ∙ local_counted c ask a s.counts.local counted y.1 is.waits is.commit (is_fresh counted y.0 y.1 good is.fresh.0 is.same) few)
      (ap (λ (o : Option (Signed Ask)). client_note (record { 0 = client }) (if is_waiting o then (if is_waiting o then None else c.done) else None) Taken) is.waits)
      refl
      (λ v next around. record {
        around = around;
        asking = next.client;
        there = new_client w v client after is.asking is.there next;
        of = subst (IsClientOf s client stamp) (sym next.state) (record { me = is.of.me; counts = is.of.counts; keys = is.of.keys; view = is.of.view; stamp = is.of.stamp; sealer = is.of.sealer });
        waits = ap (λ (d : ClientState). d.waiting) next.state ∙ is.waits;
        commit = ap (λ (d : ClientState). d.commit) next.state;
        fresh = still_fresh counted y.0 y.1 votes good.by is.different.0 is.fresh.1;
        same = all_same_more (local_to a) counted y.1 is.same good.stmt;
        different = is.different.1;
      })

  abbrev pub done : Done
  done = record { stamp = a.spec.stamp; view = a.spec.view; place = a.spec.place; head = a.spec.head; path = Slow; reply = own_reply a.reply }

  completes_one : (w : World S) (counted : List (Signed Local)) (y : ℕ × Signed Local) (votes : Votes) → IsCounting w counted (y ∷ votes) → length counted + 1 ≡ s.counts.local
      → IsDelivery R hears w (notes.Done (record { 0 = client }) done) (λ v. VotesServed v votes)
  completes_one w counted y votes is all =
      let c = is.asking.state in
      let good = is.around.good.0 in
      let after = complete_by c (commit_with s.counts.local a counted) in
      receive w y votes is.around is.asking is.there is.of.keys (taken after) (notes.Done (record { 0 = client }) done) (λ v. VotesServed v votes)
      (hears_local c y.0 y.1 good ∙ local_completes c ask a s.counts.local counted y.1 is.waits is.commit (is_fresh counted y.0 y.1 good is.fresh.0 is.same) all)
      (ap (λ (o : Option (Signed Ask)). client_note (record { 0 = client }) (if is_waiting o then Some done else None) Taken) is.waits)
      refl
      (λ v next around. record {
        around = around;
        client' = next.client;
        there = new_client w v client after is.asking is.there next;
        of = subst (IsClientOf s client stamp) (sym next.state) (record { me = is.of.me; counts = is.of.counts; keys = is.of.keys; view = refl; stamp = is.of.stamp; sealer = is.of.sealer });
        idle = ap (λ (d : ClientState). d.waiting) next.state;
      })

  refuses : (c : ClientState) (id : ℕ) (vote : Signed Local) → IsVote R s p client ask order round specs id vote → IsClientOf s client stamp c → c.waiting ≡ None → hear c (frames.LocalCommit vote) ≡ refused causes.Finished c
  refuses c id vote good of idle = hears_local c id vote good ∙ late_local c vote idle

  abbrev step_so : (n : ℕ) (rest : Rest S) (w : World S) (note : Note) (Holds : World S → Type 0) → IsDelivery R hears w note Holds → Leads (flow R (suc n) rest w) (note ∷ []) (flow R n rest) Holds
  step_so = step_of R s hears client stamp (Signed Local) (IsVote R s p client ask order round specs) frames.LocalCommit votes_read Stays Other

  -- so many are counted, one completes, the others come too late
  pub all_counted : (votes : Votes) (w : World S) (counted : List (Signed Local)) (more behind : ℕ) → IsCounting w counted votes → length counted + more + 1 ≡ s.counts.local → length votes ≡ more + 1 + behind → (n all : ℕ) (rest : Rest S)
      → all ≡ length votes + n
      → Leads (flow R all rest w) (replicate more Quiet ++ notes.Done (record { 0 = client }) done ∷ replicate behind (late_at client)) (flow R n rest) (λ v. VotesServed v [])
  all_counted [] w counted more behind is enough long n all rest same = absurd (omega (arith, long))
  all_counted (y ∷ votes) w counted more behind is enough long n zero rest same = absurd (omega (arith, same))
  all_counted (y ∷ votes) w counted zero behind is enough long n (suc all) rest same =
      joined _ (notes.Done (record { 0 = client }) done ∷ []) (replicate behind (late_at client)) (flow R all rest) (flow R n rest) _ _
      (step_so all rest w _ _ (completes_one w counted y votes is (omega (arith, enough))))
      (λ v next. subst (λ (k : ℕ). Leads (flow R all rest v) (replicate k (late_at client)) (flow R n rest) (λ u. VotesServed u [])) (let e : length votes ≡ behind = omega (arith, long) in e)
      (all_late R s hears client stamp (Signed Local) (IsVote R s p client ask order round specs) frames.LocalCommit votes_read Stays Other refuses votes v next n all rest (let e : all ≡ length votes + n = omega (arith, same) in e)))
  all_counted (y ∷ votes) w counted (suc more) behind is enough long n (suc all) rest same =
      joined _ (Quiet ∷ []) (replicate more Quiet ++ notes.Done (record { 0 = client }) done ∷ replicate behind (late_at client)) (flow R all rest) (flow R n rest) _ _
      (step_so all rest w Quiet _ (counts_one w counted y votes is (omega (arith, enough))))
      (λ v next. all_counted votes v (counted ++ y.1 ∷ []) more behind next (let e : length (counted ++ y.1 ∷ []) + more + 1 ≡ s.counts.local = omega (arith, enough, length-append counted (y.1 ∷ [])) in e)
      (let e : length votes ≡ more + 1 + behind = omega (arith, long) in e) n all rest (let e : all ≡ length votes + n = omega (arith, same) in e))
