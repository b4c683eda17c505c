-- What is chosen out of a new view whose reports are held is the choice of a proper one, and a certificate for it is one of the law.
use Rattle.std.proofs.Common.{◌≡◌, ℕ, nat_eq, nat_lt, Bool, true, false, if◌then◌else◌, List, [], ◌∷◌, length, map, get_or, Option, Some, None, Result, Ok, Err, refl, sym, ap, ◌∙◌, subst, arith, eqb-true}
use Rattle.std.specs.Prelude.{All}
use Rattle.std.proofs.lemmas.Bool.{and_parts, ltb-false}
use Rattle.zy_base.specs.declared.cause.Cause.{Cause}
use Rattle.zy_base.specs.declared.cause.Cause.TheVariants as causes
use Rattle.zy_base.specs.declared.counts.Counts.{Counts}
use Rattle.zy_base.specs.declared.ids.Digest.{Digest}
use Rattle.zy_base.specs.declared.ids.Party.{Party}
use Rattle.zy_base.specs.declared.ids.Party.TheVariants.{Replica, Client}
use Rattle.zy_base.specs.declared.ids.Place.{Place}
use Rattle.zy_base.specs.declared.ids.View.{View}
use Rattle.zy_cert.proofs.CertificateLemmas.{certified-taken}
use Rattle.zy_cert.proofs.SignerLemmas.{no_repeat}
use Rattle.zy_cert.specs.Certificates.{IsCertificate, certified, point_of_equal}
use Rattle.zy_cert.specs.Equal.{began-equal, digest-equal, same_began}
use Rattle.zy_cert.specs.Signers.{has_other, has_repeat}
use Rattle.zy_cert.specs.Points.{point_of_began}
use Rattle.zy_change.specs.Choosing.{choice_of}
use Rattle.zy_change.specs.declared.kept.Chosen.{Chosen}
use Rattle.zy_choose.specs.Marks.{link}
use Rattle.zy_choose.specs.declared.choice.Choice.{Choice}
use Rattle.zy_choose.specs.declared.choice.Choice.TheVariants as choices
use Rattle.zy_change.proofs.JudgingLemmas.{all_given, chosen_from}
use Rattle.zy_change.specs.Judging.{chosen_in, chosen_unless, first_broken, is_for_other}
use Rattle.zy_evidence.proofs.ProofLemmas.{all_clear}
use Rattle.zy_evidence.specs.Reading.{IsReplica, read}
use Rattle.zy_evidence.specs.Rules.{is_certified_at, number_of, rule_of}
use Rattle.zy_evidence.specs.declared.rule.Rule.{Rule}
use Rattle.zy_evidence.specs.WellFormed.{IsWellFormedChange}
use Rattle.zy_law.specs.Lawful.{IsLawful}
use Rattle.zy_law.specs.World.{Statement, World}
use Rattle.zy_parts.specs.declared.reports.Began.{Began}
use Rattle.zy_parts.specs.declared.reports.Change.{Change}
use Rattle.zy_parts.specs.declared.reports.New.{New}
use Rattle.zy_parts.specs.declared.signed.Signed.{Signed}
use Rattle.zy_law_views.proofs.LawfulChoice.{chosen_is, never_clashes}
use Rattle.zy_law_views.specs.Held.{IsHeldChange, IsHeldPart, IsProperNew, IsVouchedBy}
use Rattle.zy_law_views.specs.Tied.{IsChosenNew, IsViewCert}
use Rattle.zy_law_views.specs.Told.{began_told}
use Rattle.zy_law_views.specs.Rows.{blames}

is_replica : (w : World) (s : Statement) (by : Party) → IsVouchedBy w s by → IsReplica by
is_replica w s (Replica id) vouched = tt
is_replica w s (Client id) vouched = vouched

module _ (w : World) (lawful : IsLawful w) (links : w.next ≡ link) (counts : Counts) (interval : ℕ) (same : counts ≡ w.counts) (n : New) (held : All (IsHeldChange w) n.changes) where
  formed : (c : Signed Change) → rule_of counts interval c.stmt ≡ None → IsWellFormedChange w.counts interval c
  formed c clear = subst (λ (k : Counts). IsWellFormedChange k interval c) same ((all_clear counts interval c).0 clear)

  -- whose reports pass all tests
  passed : nat_lt (length n.changes) counts.change ≡ false → nat_lt counts.change (length n.changes) ≡ false → has_repeat n.changes ≡ false → is_for_other n.view n.changes ≡ false → first_broken counts interval n.changes ≡ None
      → IsProperNew w interval n
  passed not_few not_many once for_view clear =
      let given = all_given counts interval n.view n.changes (λ k d within. is_replica w _ _ (held k d within).signer) for_view clear in
      let few = ltb-false _ _ not_few in
      let many = ltb-false _ _ not_many in
      record {
        many = (let exact : length n.changes ≡ counts.change = omega arith in exact) ∙ ap (λ (k : Counts). k.change) same;
        different = no_repeat n.changes once;
        of_view = λ k d within. (given k d within).view_is;
        well_formed = λ k d within. formed (get_or n.changes k d) (given k d within).keeps_rules;
        held = held;
      }

  out : (choice : Choice) → choice_of counts.agree (map read n.changes) ≡ choice → choice_of w.counts.agree (map read n.changes) ≡ choice
  out choice told = ap (λ (k : Counts). choice_of k.agree (map read n.changes)) (sym same) ∙ told

  pub judged_new : (chosen : Chosen) → chosen_in counts interval n ≡ Ok chosen → IsChosenNew interval w n chosen
  judged_new chosen is =
      let from = chosen_from counts interval n chosen is in
      let proper = passed from.not_few from.not_many from.no_repeat from.for_view from.clear in
      record { proper = proper; choice = chosen_is w lawful links interval n proper chosen.provider chosen.place chosen.head (out _ from.choice) }

  -- what is against it blames no correct replica: the reports of a new view that passes never clash
  pub refused_new : (cause : Cause) → chosen_in counts interval n ≡ Err cause → blames cause ≡ false
  refused_new cause =
      by (nat_lt (length n.changes) counts.change) (nat_lt counts.change (length n.changes)) (has_repeat n.changes) (is_for_other n.view n.changes) (first_broken counts interval n.changes)
      (choice_of counts.agree (map read n.changes)) refl refl refl refl refl refl
    where
      is_cause : (other : Cause) → blames other ≡ false → ◌≡◌ {A = Result Chosen Cause} (Err other) (Err cause) → blames cause ≡ false
      is_cause other free is = let same_cause : other ≡ cause = cc in subst (λ (c : Cause). blames c ≡ false) same_cause free

      by : (short long repeats others : Bool) (broken : Option Rule) (choice : Choice) → nat_lt (length n.changes) counts.change ≡ short → nat_lt counts.change (length n.changes) ≡ long → has_repeat n.changes ≡ repeats
          → is_for_other n.view n.changes ≡ others → first_broken counts interval n.changes ≡ broken → choice_of counts.agree (map read n.changes) ≡ choice
          → (if short then Err (causes.TooFew (length n.changes))
          else (if long then Err causes.Mixed
          else (if repeats then Err causes.Repeat
          else (if others then Err causes.Mixed
          else chosen_unless broken choice)))) ≡ Err cause
          → blames cause ≡ false
      by true long repeats others broken choice few many once for_view clear told is = is_cause (causes.TooFew (length n.changes)) refl is
      by false true repeats others broken choice few many once for_view clear told is = is_cause causes.Mixed refl is
      by false false true others broken choice few many once for_view clear told is = is_cause causes.Repeat refl is
      by false false false true broken choice few many once for_view clear told is = is_cause causes.Mixed refl is
      by false false false false (Some rule) choice few many once for_view clear told is = is_cause (causes.BadReport (number_of rule)) refl is
      by false false false false None (choices.AnchorClash first second) few many once for_view clear told is =
          absurd (never_clashes w lawful links interval n (passed few many once for_view clear) first second (out (choices.AnchorClash first second) told))
      by false false false false None (choices.Chosen provider place head) few many once for_view clear told is = absurd cc

-- what is against a certificate blames nobody
pub uncertified : {S : Type 0} (equal : S → S → Bool) (at : S → View × Place × Digest) (count : ℕ) (list : List (Signed S)) (cause : Cause) → certified equal at count list ≡ Err cause → blames cause ≡ false
uncertified {S} equal at count list cause = by (nat_lt (length list) count) (nat_lt count (length list)) (has_repeat list)
  where
    is_cause : (other : Cause) → blames other ≡ false → ◌≡◌ {A = Result (View × Place × Digest) Cause} (Err other) (Err cause) → blames cause ≡ false
    is_cause other free is = let same_cause : other ≡ cause = cc in subst (λ (c : Cause). blames c ≡ false) same_cause free

    mixed : (first : Signed S) (other : Bool) → (if other then Err causes.Mixed else Ok (at first.stmt)) ≡ Err cause → blames cause ≡ false
    mixed first true is = is_cause causes.Mixed refl is
    mixed first false is = absurd cc

    points : (list : List (Signed S)) → point_of_equal equal at list ≡ Err cause → blames cause ≡ false
    points [] is = is_cause causes.Mixed refl is
    points (first ∷ others) is = mixed first (has_other equal first.stmt others) is

    by : (few many repeats : Bool)
        → (if few then Err (causes.TooFew (length list)) else (if many then Err causes.Mixed else (if repeats then Err causes.Repeat else point_of_equal equal at list))) ≡ Err cause → blames cause ≡ false
    by true many repeats is = is_cause (causes.TooFew (length list)) refl is
    by false true repeats is = is_cause causes.Mixed refl is
    by false false true is = is_cause causes.Repeat refl is
    by false false false is = points list is

-- the point that was looked for
point_is : (view : View) (place : Place) (head : Digest) (found : View × Place × Digest) → is_certified_at (view, place, head) (Ok found) ≡ true → found ≡ (view, place, head)
point_is view place head found is =
    let both = and_parts (nat_eq found.0.0 view.0) _ is in
    let rest = and_parts (nat_eq found.1.0 place.0) _ both.1 in
    let same_view : found.0 ≡ view = ap (λ (n : ℕ). record { 0 = n }) (eqb-true found.0.0 view.0 both.0) in
    let same_place : found.1 ≡ place = ap (λ (n : ℕ). record { 0 = n }) (eqb-true found.1.0 place.0 rest.0) in
    let same_head : found.2 ≡ head = (digest-equal found.2 head).0 rest.1 in
    ap (λ (v : View). (v, found.1, found.2)) same_view ∙ ap (λ (p : Place). (view, p, found.2)) same_place ∙ ap (λ (d : Digest). (view, place, d)) same_head

pub judged_cert : (w : World) (counts : Counts) → counts ≡ w.counts → (view : View) (chosen : Chosen) (begans : List (Signed Began)) (found : View × Place × Digest) → All (IsHeldPart w began_told) begans
    → certified same_began point_of_began counts.cert begans ≡ Ok found → is_certified_at (view, chosen.place, chosen.head) (Ok found) ≡ true → (n : New) → n.view ≡ view → IsViewCert w n chosen begans
judged_cert w counts same view chosen begans found held is at n of_view =
    let point : found ≡ (n.view, chosen.place, chosen.head) = point_is view chosen.place chosen.head found at ∙ ap (λ (v : View). (v, chosen.place, chosen.head)) (sym of_view) in
    let proven = certified-taken same_began began-equal point_of_began counts.cert begans found is in
    record {
      certificate =
          subst (λ (k : Counts). IsCertificate point_of_began k.cert begans (n.view, chosen.place, chosen.head)) same
          (subst (λ (x : View × Place × Digest). IsCertificate point_of_began counts.cert begans x) point proven);
      held = held;
    }
