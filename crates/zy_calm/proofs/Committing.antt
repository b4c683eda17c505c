-- The certificate of one request: what live replicas make of it, and their local commits.
use Rattle.std.proofs.Common.{◌≡◌, ℕ, ◌+◌, ◌<◌, ◌≤◌, Bool, true, false, List, [], ◌∷◌, ◌++◌, cond, Some, None, refl, sym, ap, ◌∙◌, subst, arith}
use Rattle.std.proofs.lemmas.Bool.{ne_eqb}
use Rattle.std.specs.List.{AllByRecursion, find, list_all}
use Rattle.std.specs.Prelude.{◌&&◌, nat_eq, if◌then◌else◌}
use Rattle.zy_admit.specs.Judging.{asking, entry_of}
use Rattle.zy_base.specs.Machine.{Rules}
use Rattle.zy_base.specs.declared.ids.Party.{Party}
use Rattle.zy_base.specs.declared.ids.Party.TheVariants.{Client, Replica}
use Rattle.zy_base.specs.declared.step.Event.TheVariants.{Heard}
use Rattle.zy_calm_rows.proofs.CommitRow.{commit_calm, commit_row}
use Rattle.zy_calm_rows.proofs.ReadAgain.{heard}
use Rattle.zy_calm_rows.specs.Calm as rows
use Rattle.zy_calm_rows.specs.Outcomes.{committed_calmly}
use Rattle.zy_calm_rows.specs.Waiting.{Answered, IsCertificateOf, local_to}
use Rattle.zy_cert.specs.Equal.{same_digest, same_local}
use Rattle.zy_change.specs.Views.{is_further}
use Rattle.zy_chain.specs.Entries.{digest_of_entry}
use Rattle.zy_exec.specs.Replay.{Point, step}
use Rattle.zy_frames.specs.Frames.{FitsFrame, parts_of, spelling}
use Rattle.zy_frames.specs.declared.frame.Frame.TheVariants as frames
use Rattle.zy_parts.specs.Numbers as numbers
use Rattle.zy_parts.specs.Statements.{local_fields}
use Rattle.zy_parts.specs.declared.signed.Signed.{Signed}
use Rattle.zy_parts.specs.declared.statements.Ask.{Ask}
use Rattle.zy_parts.specs.declared.statements.Local.{Local}
use Rattle.zy_parts.specs.declared.statements.Order.{Order}
use Rattle.zy_parts.specs.declared.statements.Spec.{Spec}
use Rattle.zy_seal.specs.Keys.{Keys}
use Rattle.zy_seal.specs.Screening.{screen}
use Rattle.zy_seal.specs.Sealing.{SealerState, sealed_by, signatures_by}
use Rattle.zy_table.specs.Deeds.{outgoing_of}
use Rattle.zy_table.specs.Gathering.{with_certificate}
use Rattle.zy_table.specs.Roles.{is_replica}
use Rattle.zy_table.specs.State.{State}
use Rattle.zy_table.specs.Whole.{whole_step}
use Rattle.zy_world_law.specs.Setup.{Setup, keys_of, sealer_of}
use Rattle.zy_calm.proofs.Genuine.{AreAccepted, accepted, is_accepted, is_spelled, next_long}
use Rattle.zy_calm.proofs.Round.{IsAt, IsRound, Stand, all_up_to, answer, left_is, signs_one}

-- ---- local commits of earlier places

other_place : (view place digest : Bool) → place ≡ false → (view && (place && digest)) ≡ false
other_place true place digest other = ap (λ (b : Bool). b && digest) other
other_place false place digest other = refl

none_said : (told : ℕ) (local : Local) (locals : List (Signed Local)) → told < local.place.0 → AllByRecursion (λ said. said.stmt.place.0 ≤ told) locals → find (λ said. same_local said.stmt local) locals ≡ None
none_said told local [] later all = refl
none_said told local (said ∷ locals) later all =
    ap (λ (b : Bool). cond b (Some said) (find (λ x. same_local x.stmt local) locals))
    (other_place (nat_eq said.stmt.view.0 local.view.0) (nat_eq said.stmt.place.0 local.place.0) (same_digest said.stmt.head local.head) (ne_eqb said.stmt.place.0 local.place.0 (λ same. omega (arith, later, all.0))))
    ∙ none_said told local locals later all.1

all_with : (most : ℕ) (locals : List (Signed Local)) (one : Signed Local) → AllByRecursion (λ said. said.stmt.place.0 ≤ most) locals → one.stmt.place.0 ≤ most → AllByRecursion (λ said. said.stmt.place.0 ≤ most) (locals ++ one ∷ [])
all_with most [] one all last = (last, tt)
all_with most (said ∷ locals) one all last = (all.0, all_with most locals one all.1 last)

module _ {S : Type 0} (R : Rules S) (s : Setup) (p : Point S) (client : ℕ) (ask : Signed Ask) (order : Signed Order) (round : IsRound R s p client ask order) (specs : List (Signed Spec)) where
  abbrev pub certified : Answered
  certified = answer R s p client ask order

  abbrev pub next_point : Point S
  next_point = step R p (entry_of ask)

  -- these responses certify the answer, and everybody can read them
  pub record IsCertificate : Type 0 where
    pub certifies : IsCertificateOf certified s.counts.cert specs
    pub fits : FitsFrame (frames.Commit specs)
    pub accepted : AreAccepted (keys_of s) (parts_of (frames.Commit specs))
    pub role : list_all (λ spec. is_replica spec.by) specs ≡ true

  -- a local commit of the replica with this number
  pub record IsVote (id : ℕ) (vote : Signed Local) : Type 0 where
    pub by : vote.by ≡ Replica (record { 0 = id })
    pub stmt : vote.stmt ≡ local_to certified
    pub fits : FitsFrame (frames.LocalCommit vote)
    pub accepted : AreAccepted (keys_of s) (parts_of (frames.LocalCommit vote))

  local_spelled : local_fields.Fits (local_to certified)
  unfolding local_fields
  local_spelled =
      let inside = round.next.inside in
      let small = round.next.small in
      ((omega arith, omega arith), ((omega arith, omega arith), next_long p.head (digest_of_entry (entry_of ask))))

  module _ (cert : IsCertificate) (at : Stand S) (same : at.point ≡ next_point) (untold : at.told < p.place + 1) (id : ℕ) (inside : id < s.counts.n) (state : State S) (is : IsAt R s at id state)
      (left : at.used + 1 ≤ signatures_by s.height) where
    calm_here : rows.IsCalm R next_point state
    calm_here = subst (λ (q : Point S). rows.IsCalm R q state) same is.calm

    commit_screened : screen state.keys (parts_of (frames.Commit specs)) ≡ None
    commit_screened = ap (λ (keys : Keys). screen keys (parts_of (frames.Commit specs))) is.keys ∙ accepted (keys_of s) (parts_of (frames.Commit specs)) cert.accepted

    pub commit_taken : whole_step R state (Heard (spelling (frames.Commit specs))) ≡ committed_calmly R state specs certified.spec.client (local_to certified)
    commit_taken =
        heard R state (frames.Commit specs) cert.fits commit_screened cert.role
        ∙ commit_row R next_point state calm_here certified (omega arith) (let next : p.place + 1 < state.kept.interval = omega (arith, is.interval, round.next.inside) in next) refl refl specs refl
        (subst (λ counts. IsCertificateOf certified counts.cert specs) (sym is.counts) cert.certifies)
        (none_said at.told (local_to certified) state.locals untold is.locals)
        (omega (arith, left_is R s p client ask order round is.used state (Replica (record { 0 = id })) is.sealer, is.spent, left))

    -- the certificate is kept beside the rest
    either_at : (b : Bool) (t : State S) → IsAt R s at id t → IsAt R s at id (if b then t else state)
    either_at true t here = here
    either_at false t here = is

    abbrev certain : State S
    certain = with_certificate state (local_to certified).place specs

    certain_at : IsAt R s at id certain
    certain_at =
        let calm = is.calm in
        either_at (is_further certified.spec.place state.views.specs) (record state { views = record state.views { specs = Some (record { place = certified.spec.place; specs = specs }) } })
        (record {
          calm = record { mode = calm.mode; now = calm.now; place = calm.place; base = calm.base; orders = calm.orders; slots = calm.slots; pending = calm.pending };
          me = is.me;
          counts = is.counts;
          keys = is.keys;
          interval = is.interval;
          used = is.used;
          sealer = is.sealer;
          spent = is.spent;
          locals = is.locals;
        })

    -- what it says
    abbrev pub vote : Signed Local
    vote = sealed_by numbers.local local_fields certain.sealer (local_to certified)

    pub commit_after : IsAt R s (record { point = next_point; used = at.used + 1; told = p.place + 1 }) id (committed_calmly R state specs certified.spec.client (local_to certified)).state
    commit_after =
        signs_one at (record { point = next_point; used = at.used + 1; told = p.place + 1 }) (committed_calmly R state specs certified.spec.client (local_to certified)).state certain_at
        (commit_calm R next_point state calm_here certified specs certified.spec.client) refl refl refl refl refl (omega arith)
        (all_with (p.place + 1) certain.locals vote (all_up_to at.told (p.place + 1) certain.locals (omega (arith, untold)) certain_at.locals) (omega arith))

    pub commit_sent : (m n : ℕ) → outgoing_of m n (committed_calmly R state specs certified.spec.client (local_to certified)).deeds.sent ≡ (Client (record { 0 = client }), spelling (frames.LocalCommit vote)) ∷ []
    commit_sent m n = ap (λ (by : Party). (Client (asking by), spelling (frames.LocalCommit vote)) ∷ []) round.asked_by

    vote_by : ℕ → Signed Local
    vote_by used = sealed_by numbers.local local_fields (sealer_of s (Replica (record { 0 = id })) used) (local_to certified)

    vote_is : vote ≡ vote_by certain_at.used
    unfolding vote_by
    vote_is = ap (λ (x : SealerState). sealed_by numbers.local local_fields x (local_to certified)) certain_at.sealer

    vote_good_as : IsVote id (vote_by certain_at.used)
    unfolding vote_by FitsFrame
    vote_good_as =
        let low : certain_at.used < signatures_by s.height = omega (arith, certain_at.spent, left) in
        let party = Replica (record { 0 = id }) in
        record {
          by = refl;
          stmt = refl;
          fits = is_spelled s party certain_at.used low numbers.local local_fields (local_to certified) inside (omega (arith, round.few, inside)) local_spelled;
          accepted = (is_accepted s party certain_at.used low numbers.local local_fields (local_to certified) inside, tt);
        }

    pub vote_good : IsVote id vote
    vote_good = subst (IsVote id) (sym vote_is) vote_good_as
