-- What is owed is the row: its composition without a key is the composition with one.
use Rattle.std.proofs.Common.{◌≡◌, ◌<◌, ◌≤◌, ◌+◌, ◌^◌, ℕ, zero, suc, nat_eq, nat_lt, nat_le, Bool, true, false, if◌then◌else◌, List, [], ◌∷◌, ◌++◌, length, take, Option, Some, None, Err, refl, sym, ap, ◌∙◌, subst, arith}
use Rattle.std.proofs.lemmas.Bool.{ltb-true, leb-true, leb-false, lt-leb, le-ltb, lt-ltb}
use Rattle.std.specs.Prelude.{◌||◌, is_some, option_map, slice_get, slice_set}
use Rattle.std.proofs.lemmas.Option.{same_Some}
use Rattle.std.specs.List.{cons_option, list_any}
use Rattle.std.proofs.lemmas.List.Folds.{list_any-append}
use Rattle.std.specs.Option.{ForSome}
use Rattle.zy_base.specs.Machine.{Rules}
use Rattle.zy_base.specs.declared.cause.Cause.{Cause}
use Rattle.zy_base.specs.declared.counts.Counts.{Counts}
use Rattle.zy_base.specs.declared.cause.Cause.TheVariants as causes
use Rattle.zy_base.specs.declared.ids.Party.{Party}
use Rattle.zy_base.specs.declared.ids.Party.TheVariants.{Replica, Client}
use Rattle.zy_base.specs.declared.ids.ReplicaId.{ReplicaId}
use Rattle.zy_base.specs.declared.ids.View.{View}
use Rattle.zy_base.specs.declared.step.Answer.{Answer}
use Rattle.zy_base.specs.declared.step.Answer.TheVariants.{Taken, Held, Refused}
use Rattle.zy_lms.specs.Hss.{hss_signature_of}
use Rattle.zy_seal.specs.Sealing.{SealerState, sealed_by, spent_one, signatures_by}
use Rattle.zy_parts.specs.Numbers as numbers
use Rattle.zy_parts.specs.Signing.{text_of}
use Rattle.zy_parts.specs.Reports.{began_fields, change_fields}
use Rattle.zy_parts.specs.declared.signed.Signed.{Signed}
use Rattle.zy_parts.specs.declared.reports.Began.{Began}
use Rattle.zy_parts.specs.declared.reports.Change.{Change}
use Rattle.zy_parts.specs.declared.reports.New.{New}
use Rattle.zy_parts.specs.declared.statements.Hate.{Hate}
use Rattle.zy_vframes.specs.declared.frame.ViewCert.{ViewCert}
use Rattle.zy_cert.specs.Equal.{same_began}
use Rattle.zy_choose.specs.declared.choice.Choice.{Choice}
use Rattle.zy_choose.specs.declared.choice.Choice.TheVariants as choices
use Rattle.zy_evidence.specs.Reading.{IsReplica, number_of_party}
use Rattle.zy_evidence.specs.Rules.{rule_of, number_of}
use Rattle.zy_evidence.specs.declared.rule.Rule.{Rule}
use Rattle.zy_change.specs.declared.kept.Accepted.{Accepted}
use Rattle.zy_change.specs.declared.kept.Chosen.{Chosen}
use Rattle.zy_change.specs.declared.owed.Adoption.{Adoption}
use Rattle.zy_change.specs.declared.owed.Owed.{Owed}
use Rattle.zy_change.specs.Views.{Views, began_equal, began_for, begans_equal, without_others, left, with_change, with_hate, certificate_if, certificate_of, first_of, own_view as views_own, views_above, view_above, has_begun, is_from, slot_of, is_hated_by}
use Rattle.zy_change.specs.Owing.{Pens, Onward, new_of, nothing, onward, is_gathering, choice_in, next_view, hated_by_many, is_left_behind, least_above, change_to, signed_by}
use Rattle.zy_change.specs.Owing as owing
use Rattle.zy_change.specs.Owing.{accept as accept_owed, collect as collect_owed, leave as leave_owed}
use Rattle.zy_change.proofs.AheadLemmas.{above_own, first_above}
use Rattle.zy_change.proofs.FitLemmas.{all_there}
use Rattle.zy_table.specs.declared.deeds.Act.{Act}
use Rattle.zy_table.specs.declared.deeds.Act.TheVariants.{Says}
use Rattle.zy_table.specs.declared.deeds.Body.TheVariants as bodies
use Rattle.zy_table.specs.declared.deeds.Remark.{Remark}
use Rattle.zy_table.specs.State.{State, own_view, signs_left, stood_of}
use Rattle.zy_table.specs.Deeds.{Going, Outcome, begin, ends, refused}
use Rattle.zy_table.specs.Leaving.{Attempt, goes, report_of, sealed_change, concluded, is_overspent}
use Rattle.zy_table.specs.Leaving as rows
use Rattle.zy_table.specs.Leaving.{leave_alone, accept, give_new, leave as leave_row}
use Rattle.zy_table.specs.Beginning.{adopt, adopt_from, adopt_if, begun, certify, certify_with, confirms, is_began}
use Rattle.zy_table.specs.Hates.{hate as hate_row, hate_of, hate_counted as counted_row, with_hate_of}
use Rattle.zy_table.specs.Changes.{change as change_row, change_kept, change_judged, send_cert}
use Rattle.zy_replica_views.specs.Carrying.{leave_if, give, carried, attempted_as, concluded_as, carried_out, kept_unless}
use Rattle.zy_replica_views.specs.Follows.{spent_many, signs_for, Follows, IsSigner, SignsAsItself, Begins, IsLeaveOwed, IsCountedOwed, IsHateOwed, IsChangeOwed}

pub for_none : {A : Type 0} (P : A → Type 0) → ForSome None P
for_none P = λ x is. absurd cc

pub for_some : {A : Type 0} (x : A) (P : A → Type 0) → P x → ForSome (Some x) P
for_some x P holds = λ y is. let e : x ≡ y = cc in subst P e holds

-- the signatures that a replica makes; that of the report is its next one
abbrev pub pens_of : {S : Type 0} → State S → Pens
pens_of s =
    record {
      change = λ c. hss_signature_of s.sealer.key (text_of numbers.change change_fields s.sealer.me c);
      new = λ n. [];
      began = λ b. [];
    }

pub none_spent : (s : SealerState) → s ≡ spent_many 0 s
none_spent s = let e : s.key.next ≡ s.key.next + 0 = omega arith in ap (λ n. record s { key = record s.key { next = n } }) e

pub spent_both : (n m : ℕ) (s : SealerState) → spent_many m (spent_many n s) ≡ spent_many (n + m) s
spent_both n m s = let e : s.key.next + n + m ≡ s.key.next + (n + m) = omega arith in ap (λ (k : ℕ). record s { key = record s.key { next = k } }) e

-- ---- confirmations that are equal

count_cons : {A : Type 0} (o p : Option A) (rest : List A) → is_some o ≡ is_some p → length (cons_option o rest) ≡ length (cons_option p rest)
count_cons None None rest same = refl
count_cons None (Some x) rest same = absurd cc
count_cons (Some x) None rest same = absurd cc
count_cons (Some x) (Some y) rest same = refl

count_both : {A : Type 0} (o : Option A) (xs ys : List A) → length xs ≡ length ys → length (cons_option o xs) ≡ length (cons_option o ys)
count_both None xs ys same = same
count_both (Some x) xs ys same = ap suc same

both_or_none : {A : Type 0} (x y : A) (a b : Bool) → a ≡ b → is_some (if a then Some x else None) ≡ is_some (if b then Some y else None)
both_or_none x y true true same = refl
both_or_none x y true false same = absurd cc
both_or_none x y false true same = absurd cc
both_or_none x y false false same = refl

-- whatever the signature on one of them is
as_many_equal : (own : Began) (slots : List (Option (Signed Began))) (me : ℕ) (one two : Signed Began) → one.stmt ≡ two.stmt
    → length (begans_equal own (slice_set slots me (Some one))) ≡ length (begans_equal own (slice_set slots me (Some two)))
as_many_equal own [] me one two same = refl
as_many_equal own (slot ∷ slots) zero one two same =
    count_cons (began_equal own (Some one)) (began_equal own (Some two)) (begans_equal own slots)
    (both_or_none one two (same_began one.stmt own) (same_began two.stmt own) (ap (λ (b : Began). same_began b own) same))
as_many_equal own (None ∷ slots) (suc me) one two same = as_many_equal own slots me one two same
as_many_equal own (Some it ∷ slots) (suc me) one two same = count_both (began_equal own (Some it)) _ _ (as_many_equal own slots me one two same)

-- ---- what was confirmed

or_none : (b : Bool) → (b || false) ≡ b
or_none true = refl
or_none false = refl

-- a list of acts with one more remark confirms a new view where the remark does, or the others do
pub said_last : (acts : List Act) (remark : Remark) → list_any confirms (acts ++ Says remark ∷ []) ≡ (list_any confirms acts || is_began remark.body)
said_last acts remark = list_any-append confirms acts (Says remark ∷ []) ∙ ap (λ (b : Bool). list_any confirms acts || b) (or_none (is_began remark.body))

pub or_last : (b : Bool) → (b || true) ≡ true
or_last true = refl
or_last false = refl

-- the certificate out of a list of confirmations
abbrev certificate_in : ℕ → Signed New → List (Signed Began) → Option ViewCert
certificate_in count new list = option_map (λ begans. record { new = new; begans = begans }) (first_of count list)

abbrev certificate_as : Bool → ℕ → Signed New → List (Signed Began) → Option ViewCert
certificate_as enough count new list = option_map (λ begans. record { new = new; begans = begans }) (if enough then Some (take count list) else None)

some_both : (one two : Signed New) (count : ℕ) (xs ys : List (Signed Began)) (enough : Bool) → is_some (certificate_as enough count one xs) ≡ is_some (certificate_as enough count two ys)
some_both one two count xs ys true = refl
some_both one two count xs ys false = refl

pub new_of_cert : (new : Signed New) (begans : Option (List (Signed Began))) (cert : ViewCert) → option_map (λ list. record { new = new; begans = list }) begans ≡ Some cert → cert.new ≡ new
new_of_cert new None cert is = absurd cc
new_of_cert new (Some list) cert is = sym (ap (λ (c : ViewCert). c.new) (same_Some (record { new = new; begans = list }) cert is))

module _ {S : Type 0} (R : Rules S) where
  -- what follows, and isn't just told to another
  abbrev Row : Attempt S → Owed → Going S → Type 0
  Row attempt owed g = Follows R attempt owed g × (owed.send ≡ None)

  -- ---- no view begins

  pub quiet : (answer : Answer) (g : Going S) → list_any confirms g.deeds.acts ≡ false → begun R (goes answer g) ≡ goes answer g
  quiet answer g none = rw none refl

  pub none_begins : (end : Going S) (attempt : Attempt S) → begun R attempt ≡ attempt → Begins R None end attempt
  none_begins end attempt same = record { rests = λ none. same; adopts = for_none _ }

  -- ---- nothing is owed

  refused_follows : (cause : Cause) (g : Going S) → Follows R (Err cause) (owing.refused cause) g
  refused_follows cause g =
      record {
        same = refl;
        spends = none_spent g.state.sealer;
        can = record { above = for_none _; below = for_none _; gathers = for_none _; chosen = for_none _; signs = refl };
        begins = λ none. none_begins g (Err cause) refl;
      }

  refusal : (cause : Cause) (g : Going S) → Row (Err cause) (owing.refused cause) g
  refusal cause g = (refused_follows cause g, refl)

  pub taken : (g : Going S) → Row (goes Taken g) nothing g
  taken g = (
    record {
      same = refl;
      spends = none_spent g.state.sealer;
      can = record { above = for_none _; below = for_none _; gathers = for_none _; chosen = for_none _; signs = refl };
      begins = λ none. none_begins g (goes Taken g) (quiet Taken g none);
    },
    refl,
  )

  -- ---- a new view is confirmed

  module _ (now : Going S) (stmt : New) (chosen : Chosen) (by other : Party) (sig another : List ℕ) (pens : Pens) (leave gather : Option View) (signs : ℕ) where
    -- as it is told, and as it is kept: with another signature
    abbrev ahead : Accepted
    ahead = record { new = record { by = by; stmt = stmt; sig = sig }; chosen = chosen }

    abbrev done : Accepted
    done = record { new = record { by = other; stmt = stmt; sig = another }; chosen = chosen }

    abbrev told_so_far : Onward
    told_so_far = record { views = now.state.views; owed = record nothing { leave = leave; gather = gather; signs = signs } }

    abbrev w : Onward
    w = owing.accepting ahead pens told_so_far

    -- what is told to be adopted begins
    pub record Accepts : Type 0 where
      pub adopt : Option Adoption
      pub begins : Begins R adopt (accept R done now) (goes Taken (accept R done now))
      pub owed_is : accept_owed ahead pens told_so_far ≡ record w.owed { adopt = adopt }

    module _ (signer : SignsAsItself now.state) where
      abbrev own : Began
      own = began_for stmt.view chosen

      end : Going S
      end = accept R done now

      end_accepted : end.state.views.accepted ≡ Some done
      unfolding accept end
      end_accepted = refl

      end_confirms : list_any confirms end.deeds.acts ≡ true
      unfolding accept end
      end_confirms = said_last now.deeds.acts (record { body = bodies.Began own; stood = stood_of R now.state }) ∙ or_last (list_any confirms now.deeds.acts)

      as_many : length (begans_equal own w.views.begans) ≡ length (begans_equal own end.state.views.begans)
      unfolding accept end
      as_many =
          let slots = without_others own now.state.views.begans in
          let sealed = sealed_by numbers.began began_fields now.state.sealer own in
          as_many_equal own slots (number_of_party (Replica now.state.views.me)) (signed_by now.state.views pens.began own) sealed refl
          ∙ ap (λ (by : Party). length (begans_equal own (slice_set slots (number_of_party by) (Some sealed)))) (sym signer)

      end_counts : end.state.views.counts ≡ now.state.views.counts
      unfolding accept end
      end_counts = refl

      as_certain : is_some (certificate_of w.views ahead) ≡ is_some (certificate_of end.state.views done)
      as_certain =
          let many : ℕ = length (begans_equal own end.state.views.begans) in
          ap (λ (n : ℕ). is_some (certificate_as (nat_le now.state.views.counts.cert n) now.state.views.counts.cert ahead.new (begans_equal own w.views.begans))) as_many
          ∙ some_both ahead.new done.new now.state.views.counts.cert (begans_equal own w.views.begans) (begans_equal own end.state.views.begans) (nat_le now.state.views.counts.cert many)
          ∙ ap (λ (c : Counts). is_some (certificate_in c.cert done.new (begans_equal own end.state.views.begans))) (sym end_counts)

      certifies : begun R (goes Taken end) ≡ certify R Taken end
      certifies = rw end_confirms refl

      certify_is : (cert : Option ViewCert) → certificate_of end.state.views done ≡ cert → certify R Taken end ≡ adopt_if R cert chosen Taken end
      certify_is cert is = ap (λ (accepted : Option Accepted). certify_with R accepted Taken end) end_accepted ∙ ap (λ (c : Option ViewCert). adopt_if R c chosen Taken end) is

      adopts_none : (c : ViewCert) → c.new ≡ done.new → owing.provider_in done ≡ None → adopt R c chosen end ≡ goes Taken end
      unfolding adopt
      adopts_none c new none = ap (λ (o : Option (Signed Change)). adopt_from R c chosen o end) (ap (λ (x : Signed New). slice_get x.stmt.changes chosen.provider) new ∙ none)

      provided : (cert : ViewCert) → certificate_of end.state.views done ≡ Some cert → (provider : Option (Signed Change)) → owing.provider_in done ≡ provider → Begins R (owing.adoption_by done provider) end (goes Taken end)
      provided cert is None none =
          let new : cert.new ≡ done.new = new_of_cert done.new _ cert is in
          none_begins end (goes Taken end) (certifies ∙ certify_is (Some cert) is ∙ adopts_none cert new none)
      provided cert is (Some provider) some =
          let new : cert.new ≡ done.new = new_of_cert done.new _ cert is in
          record {
            rests = λ none. absurd cc;
            adopts = for_some _ _ (
                record {
                  cert = cert;
                  view = ap (λ (x : Signed New). x.stmt.view) new;
                  accepted = end_accepted ∙ ap (λ (x : Signed New). Some (record { new = x; chosen = chosen })) (sym new);
                  enough = ap (certificate_if end.state.views) end_accepted ∙ is;
                  provider = provider;
                  given = ap (λ (x : Signed New). slice_get x.stmt.changes chosen.provider) new ∙ some;
                  told = refl;
                  same = certifies;
                }
                );
          }

      by_certificate : (here there : Option ViewCert) → is_some here ≡ is_some there → certificate_of end.state.views done ≡ there → certificate_of w.views ahead ≡ here → Accepts
      unfolding accept_owed end
      by_certificate None None same is told = record { adopt = None; begins = none_begins end (goes Taken end) (certifies ∙ certify_is None is); owed_is = ap (λ (c : Option ViewCert). owing.adopt_if ahead c w.owed) told }
      by_certificate (Some one) None same is told = absurd cc
      by_certificate None (Some cert) same is told = absurd cc
      by_certificate (Some one) (Some cert) same is told =
          record {
            adopt = owing.adoption_by done (owing.provider_in done);
            begins = provided cert is (owing.provider_in done) refl;
            owed_is = ap (λ (c : Option ViewCert). owing.adopt_if ahead c w.owed) told;
          }

      pub accepts_all : Accepts
      accepts_all = by_certificate (certificate_of w.views ahead) (certificate_of end.state.views done) as_certain refl refl

  -- ---- a new view is given

  -- what is owed by a leave alone, if by any
  abbrev after_leave : Option View → ℕ → Owed
  after_leave leave signs = record nothing { leave = leave; signs = signs }

  more_signs : (leave : Option View) (view : View) (n : ℕ) → signs_for leave None ≡ n → signs_for leave (Some view) ≡ n + 1 + 1
  more_signs None view n is = omega arith
  more_signs (Some w) view n is = omega arith

  spent_more : (s : SealerState) (n : ℕ) → spent_one (spent_one (spent_many n s)) ≡ spent_many (n + 1 + 1) s
  spent_more s n = let e : s.key.next + n + 1 + 1 ≡ s.key.next + (n + 1 + 1) = omega arith in ap (λ m. record s { key = record s.key { next = m } }) e

  -- how far a step has come that left for a view, or didn't
  record Left (leave : Option View) (n : ℕ) (before : Going S) : Type 0 where
    spent : (leave_if R leave before).state.sealer ≡ spent_many n before.state.sealer
    signs : signs_for leave None ≡ n
    above : ForSome leave (λ view. own_view before.state < view.0)
    below : ForSome leave (λ view. view.0 < 2 ^ 62)
    signer : SignsAsItself (leave_if R leave before).state
    quiet : list_any confirms before.deeds.acts ≡ false → list_any confirms (leave_if R leave before).deeds.acts ≡ false

  module _ (leave : Option View) (n : ℕ) (before : Going S) (far : Left leave n before) (pens : Pens) (view : View) where
    abbrev now : Going S
    now = leave_if R leave before

    abbrev so_far : Onward
    so_far = record { views = now.state.views; owed = after_leave leave n }

    module _ (gathers : is_gathering now.state.views view.0 ≡ true) (chosen : Chosen) (is : choice_in now.state.views view.0 ≡ choices.Chosen chosen.provider chosen.place chosen.head) where
      abbrev sealed : Signed New
      sealed = rows.sealed_new now.state view

      abbrev gave : Going S
      gave = give_new R sealed now

      gave_signer : SignsAsItself gave.state
      unfolding give_new
      gave_signer = far.signer

      abbrev accepts : Accepts gave (new_of now.state.views view) chosen (Replica now.state.views.me) sealed.by (pens.new (new_of now.state.views view)) sealed.sig pens leave (Some view) (n + 1)
      accepts = accepts_all gave (new_of now.state.views view) chosen (Replica now.state.views.me) sealed.by (pens.new (new_of now.state.views view)) sealed.sig pens leave (Some view) (n + 1) gave_signer

      all_given : Row (rows.given R view (choices.Chosen chosen.provider chosen.place chosen.head) now) (owing.give view pens (choices.Chosen chosen.provider chosen.place chosen.head) so_far) before
      unfolding accept give_new give
      all_given =
          subst (λ (o : Owed). Row (rows.given R view (choices.Chosen chosen.provider chosen.place chosen.head) now) o before) (sym accepts.owed_is) (
            record {
              same = refl;
              spends = ap (λ s. spent_one (spent_one s)) far.spent ∙ spent_more before.state.sealer n;
              can = record { above = far.above; below = far.below; gathers = for_some view _ gathers; chosen = for_some view _ (for_some chosen _ is); signs = more_signs leave view n far.signs };
              begins = λ none. accepts.begins;
            },
            refl,
          )

    given : is_gathering now.state.views view.0 ≡ true → (choice : Choice) → choice_in now.state.views view.0 ≡ choice → Row (rows.given R view choice now) (owing.give view pens choice so_far) before
    given gathers (choices.AnchorClash first second) is = refusal (causes.AnchorClash first second) before
    given gathers (choices.Chosen provider place head) is = all_given gathers (record { provider = provider; place = place; head = head }) is

    gave_none : Row (goes Taken now) (after_leave leave n) before
    gave_none = (
      record {
        same = refl;
        spends = far.spent;
        can = record { above = far.above; below = far.below; gathers = for_none _; chosen = for_none _; signs = far.signs };
        begins = λ none. none_begins now (goes Taken now) (quiet Taken now (far.quiet none));
      },
      refl,
    )

    collected : Row (rows.collect R view now) (owing.collect view pens so_far) before
    unfolding collect_owed
    collected = by (is_gathering now.state.views view.0) refl
      where
        by : (b : Bool) → is_gathering now.state.views view.0 ≡ b
            → Row (if b then rows.given R view (choice_in now.state.views view.0) now else goes Taken now) (if b then owing.give view pens (choice_in now.state.views view.0) so_far else after_leave leave n) before
        by true gathers = given gathers (choice_in now.state.views view.0) refl
        by false not = gave_none

  -- ---- a leave

  sealed_same : (s : State S) (view : View) → SignsAsItself s → signed_by s.views (pens_of s).change (change_to view (report_of s)) ≡ sealed_change s view
  sealed_same s view signer =
      let change = change_to view (report_of s) in
      let sig = hss_signature_of s.sealer.key (text_of numbers.change change_fields s.sealer.me change) in
      ap (λ (by : Party). record { by = by; stmt = change; sig = sig }) (sym signer)

  pub views_left : (g : Going S) (view : View) → SignsAsItself g.state → left view (with_change (signed_by g.state.views (pens_of g.state).change (change_to view (report_of g.state))) g.state.views) ≡ (rows.leave_alone R view g).state.views
  unfolding leave_alone
  views_left g view signer = ap (λ (c : Signed Change). left view (with_change c g.state.views)) (sealed_same g.state view signer)

  left_far : (g : Going S) (view : View) → SignsAsItself g.state → own_view g.state < view.0 → view.0 < 2 ^ 62 → Left (Some view) 1 g
  unfolding leave_alone
  left_far g view signer above below =
      record {
        spent = refl;
        signs = refl;
        above = for_some view _ above;
        below = for_some view _ below;
        signer = signer;
        quiet = λ none. said_last g.deeds.acts _ ∙ ap (λ (b : Bool). b || false) none;
      }

  not_left : (g : Going S) → SignsAsItself g.state → Left None 0 g
  not_left g signer = record { spent = none_spent g.state.sealer; signs = refl; above = for_none _; below = for_none _; signer = signer; quiet = λ none. none }

  abbrev collects : Going S → View → Views → Owed
  collects g view v = collect_owed view (pens_of g.state) (record { views = v; owed = after_leave (Some view) 1 })

  leave_is : (g : Going S) (view : View) → SignsAsItself g.state → own_view g.state < view.0 → Row (leave_row R view g) (leave_owed view (report_of g.state) (pens_of g.state) (onward g.state.views)) g
  unfolding leave_row leave_owed
  leave_is g view signer above = by (nat_lt view.0 (2 ^ 62)) refl
    where
      by : (b : Bool) → nat_lt view.0 (2 ^ 62) ≡ b
          → Row (if b then rows.collect R view (leave_alone R view g) else Err causes.NewerView)
          (if b then collects g view (left view (with_change (signed_by g.state.views (pens_of g.state).change (change_to view (report_of g.state))) g.state.views)) else owing.refused causes.NewerView) g
      by true below =
          subst (λ (v : Views). Row (rows.collect R view (leave_alone R view g)) (collects g view v) g) (sym (views_left g view signer))
          (collected (Some view) 1 g (left_far g view signer above (ltb-true _ _ below)) (pens_of g.state) view)
      by false beyond = refusal causes.NewerView g

  pub leave_follows : (g : Going S) (view : View) (owed : Owed) → SignsAsItself g.state → own_view g.state < view.0 → IsLeaveOwed g.state view owed → Follows R (rows.leave R view g) owed g
  leave_follows g view owed signer above is = subst (λ (o : Owed). Follows R (rows.leave R view g) o g) (sym (is (pens_of g.state))) (leave_is g view signer above).0

  -- ---- a hate

  counted_is : (g : Going S) → SignsAsItself g.state → Row (counted_row R g) (owing.hate_counted g.state.views (report_of g.state) (pens_of g.state)) g
  counted_is g signer = by (hated_by_many g.state.views)
    where
      by : (b : Bool) → Row (if b then rows.leave R (next_view g.state.views) g else goes Taken g) (if b then owing.leave (next_view g.state.views) (report_of g.state) (pens_of g.state) (onward g.state.views) else nothing) g
      by true = leave_is g (next_view g.state.views) signer (omega arith)
      by false = taken g

  pub counted_follows : (g : Going S) (owed : Owed) → SignsAsItself g.state → IsCountedOwed g.state owed → Follows R (counted_row R g) owed g
  counted_follows g owed signer is = subst (λ (o : Owed). Follows R (counted_row R g) o g) (sym (is (pens_of g.state))) (counted_is g signer).0

  module _ (s : State S) (by : Party) (view : View) (signer : SignsAsItself s) where
    abbrev hated : Going S
    hated = with_hate_of by (begin s)

    abbrev hate_made : Attempt S
    hate_made = counted_row R hated

    abbrev hate_owed : Owed
    hate_owed = owing.hate_counted (with_hate by s.views) (report_of s) (pens_of s)

    again : (b : Bool) → Row (if b then Err causes.Repeat else hate_made) (if b then owing.refused causes.Repeat else hate_owed) hated
    again true = refusal causes.Repeat hated
    again false = counted_is hated (signer)

    newer : (b : Bool)
        → Row (if b then Err causes.NewerView else (if is_hated_by s.views by then Err causes.Repeat else hate_made))
        (if b then owing.refused causes.NewerView else (if is_hated_by s.views by then owing.refused causes.Repeat else hate_owed)) hated
    newer true = refusal causes.NewerView hated
    newer false = again (is_hated_by s.views by)

    older : (b : Bool)
        → Row (if b then Err causes.OldView else (if nat_lt (own_view s) view.0 then Err causes.NewerView else (if is_hated_by s.views by then Err causes.Repeat else hate_made)))
        (if b then owing.refused causes.OldView else (if nat_lt (own_view s) view.0 then owing.refused causes.NewerView else (if is_hated_by s.views by then owing.refused causes.Repeat else hate_owed))) hated
    older true = refusal causes.OldView hated
    older false = newer (nat_lt (own_view s) view.0)

    hate_is : Row (hate_of R s by view) (owing.hate_owes_of s.views by view (report_of s) (pens_of s)) hated
    hate_is = older (nat_lt view.0 (own_view s))

  pub hate_follows : (s : State S) (vote : Signed Hate) (owed : Owed) → SignsAsItself s → IsHateOwed s vote owed → Follows R (hate_row R s vote) owed (with_hate_of vote.by (begin s))
  unfolding hate_row
  hate_follows s vote owed signer is =
      subst (λ (o : Owed). Follows R (hate_of R s vote.by vote.stmt.view) o (with_hate_of vote.by (begin s))) (sym (is (pens_of s))) (hate_is s vote.by vote.stmt.view signer).0

  -- ---- another's report

  least_is_above : (v : Views) → is_left_behind v ≡ true → views_own v < (least_above v).0
  least_is_above v behind =
      let own = views_own v in
      let many = ltb-true v.counts.f (length (views_above own v.changes)) behind in
      first_above own (views_above own v.changes) (all_there (λ n. own < n) (view_above own) (λ o n is. above_own own o n is) v.changes) (omega (arith, many))

  kept_is : (g : Going S) (view : View) → SignsAsItself g.state → Row (change_kept R view g) (owing.change_kept g.state.views view (report_of g.state) (pens_of g.state)) g
  kept_is g view signer = by (is_left_behind g.state.views) refl
    where
      collects_now : (b : Bool) → Row (if b then rows.collect R view g else goes Taken g) (if b then collect_owed view (pens_of g.state) (onward g.state.views) else nothing) g
      collects_now true = collected None 0 g (not_left g signer) (pens_of g.state) view
      collects_now false = taken g

      by : (b : Bool) → is_left_behind g.state.views ≡ b
          → Row (if b then leave_row R (least_above g.state.views) g else (if nat_eq view.0 (own_view g.state) then rows.collect R view g else goes Taken g))
          (if b then leave_owed (least_above g.state.views) (report_of g.state) (pens_of g.state) (onward g.state.views) else (if nat_eq view.0 (own_view g.state) then collect_owed view (pens_of g.state) (onward g.state.views) else nothing)) g
      by true behind = leave_is g (least_above g.state.views) signer (least_is_above g.state.views behind)
      by false not = collects_now (nat_eq view.0 (own_view g.state))

  same_sealer : (by : Party) (cert : Option ViewCert) (g : Going S) → (send_cert by cert g).state.sealer ≡ g.state.sealer
  same_sealer by None g = refl
  same_sealer by (Some cert) g = refl

  same_acts : (by : Party) (cert : Option ViewCert) (g : Going S) → (send_cert by cert g).deeds.acts ≡ g.deeds.acts
  same_acts by None g = refl
  same_acts by (Some cert) g = refl

  told_begun : (by : Party) (s : State S) → IsReplica by → Follows R (goes Taken (send_cert by s.views.view_cert (begin s))) (owing.sends_to by) (begin s)
  told_begun (Replica id) s is =
      record {
        same = refl;
        spends = same_sealer (Replica id) s.views.view_cert (begin s) ∙ none_spent s.sealer;
        can = record { above = for_none _; below = for_none _; gathers = for_none _; chosen = for_none _; signs = refl };
        begins = λ none. none_begins _ _ (quiet Taken (send_cert (Replica id) s.views.view_cert (begin s)) (ap (list_any confirms) (same_acts (Replica id) s.views.view_cert (begin s))));
      }
  told_begun (Client id) s is = absurd is

  module _ (s : State S) (vote : Signed Change) (signer : SignsAsItself s) (replica : IsReplica vote.by) where
    -- the state in which what is owed is carried out depends on it
    abbrev Comes : Attempt S → Owed → Type 0
    Comes attempt owed = Follows R attempt owed (begin (kept_unless owed.send vote s))

    abbrev kept : State S
    kept = record s { views = with_change vote s.views }

    judged : (rule : Option Rule) → Comes (change_judged R s vote rule) (owing.change_judged rule s.views vote (report_of s) (pens_of s))
    judged (Some rule) = refused_follows (causes.BadReport (number_of rule)) (begin kept)
    judged None =
        let owed = owing.change_kept kept.views vote.stmt.view (report_of s) (pens_of s) in
        let row = kept_is (begin kept) vote.stmt.view (signer) in
        subst (λ (send : Option ReplicaId). Follows R (change_kept R vote.stmt.view (begin kept)) owed (begin (kept_unless send vote s))) (sym row.1) row.0

    abbrev judged_row : Attempt S
    judged_row = change_judged R s vote (rule_of s.views.counts s.views.interval vote.stmt)

    abbrev judged_owed : Owed
    judged_owed = owing.change_judged (rule_of s.views.counts s.views.interval vote.stmt) s.views vote (report_of s) (pens_of s)

    twice : (b : Bool) → Comes (if b then Err causes.Repeat else judged_row) (if b then owing.refused causes.Repeat else judged_owed)
    twice true = refused_follows causes.Repeat (begin kept)
    twice false = judged (rule_of s.views.counts s.views.interval vote.stmt)

    abbrev is_twice : Bool
    is_twice = is_from vote.stmt.view.0 (slot_of vote.by s.views.changes)

    begun_or : (b : Bool)
        → Comes (if b then goes Taken (send_cert vote.by s.views.view_cert (begin s)) else (if is_twice then Err causes.Repeat else judged_row)) (if b then owing.sends_to vote.by else (if is_twice then owing.refused causes.Repeat else judged_owed))
    begun_or true = told_begun vote.by s replica
    begun_or false = twice is_twice

    abbrev is_begun : Bool
    is_begun = has_begun s.views.mode vote.stmt.view.0

    earlier : (b : Bool)
        → Comes (if b then Err causes.OldView else (if is_begun then goes Taken (send_cert vote.by s.views.view_cert (begin s)) else (if is_twice then Err causes.Repeat else judged_row)))
        (if b then owing.refused causes.OldView else (if is_begun then owing.sends_to vote.by else (if is_twice then owing.refused causes.Repeat else judged_owed)))
    earlier true = refused_follows causes.OldView (begin kept)
    earlier false = begun_or is_begun

    change_is : Comes (change_row R s vote) (owing.change_owes s.views vote (report_of s) (pens_of s))
    unfolding change_row
    change_is = earlier (nat_lt vote.stmt.view.0 (own_view s))

    pub change_follows : (owed : Owed) → IsChangeOwed s vote owed → Follows R (change_row R s vote) owed (begin (kept_unless owed.send vote s))
    change_follows owed is = subst (λ (o : Owed). Comes (change_row R s vote) o) (sym (is (pens_of s))) change_is

  -- ---- the leaves are counted before anything is signed

  pub counted_first : (s : State S) (signs : ℕ) (sealer : SealerState) (after : Outcome S) → IsSigner s → sealer ≡ spent_many signs s.sealer
      → (if is_overspent sealer then refused causes.KeySpent s else after) ≡ (if nat_le signs (signs_left s) then after else refused causes.KeySpent s)
  counted_first s signs sealer after signer spends = turned (nat_le signs (signs_left s)) refl
    where
      over : is_overspent sealer ≡ nat_lt (signatures_by s.sealer.key.height) (s.sealer.key.next + signs)
      over = ap is_overspent spends

      turned : (b : Bool) → nat_le signs (signs_left s) ≡ b → (if is_overspent sealer then refused causes.KeySpent s else after) ≡ (if b then after else refused causes.KeySpent s)
      turned true is =
          let few = leb-true _ _ is in
          let within = signer.within in
          let e : nat_lt (signatures_by s.sealer.key.height) (s.sealer.key.next + signs) ≡ false = le-ltb _ _ (omega (arith, few, within)) in
          rw (over, e) refl
      turned false is =
          let many = leb-false _ _ is in
          let within = signer.within in
          let e : nat_lt (signatures_by s.sealer.key.height) (s.sealer.key.next + signs) ≡ true = lt-ltb _ _ (omega (arith, many, within)) in
          rw (over, e) refl

  module _ (s : State S) (g : Going S) (owed : Owed) (more : ℕ) (signer : IsSigner s) (so_far : g.state.sealer ≡ spent_many more s.sealer) (spends : (carried R owed g).state.sealer ≡ spent_many owed.signs g.state.sealer) where
    abbrev counted : Outcome S → Type 0
    counted after = (if is_overspent (carried R owed g).state.sealer then refused causes.KeySpent s else after) ≡ (if nat_le (more + owed.signs) (signs_left s) then after else refused causes.KeySpent s)

    judged_first : (after : Outcome S) → counted after
    judged_first after =
        counted_first s (more + owed.signs) (carried R owed g).state.sealer after signer (spends ∙ ap (spent_many owed.signs) so_far ∙ spent_both more owed.signs s.sealer)

    concluded_is : (answer : Answer) → concluded s (attempted_as R answer owed g) ≡ concluded_as R s (more + owed.signs) answer owed g
    concluded_is Taken = judged_first (ends Taken (carried R owed g))
    concluded_is Held = judged_first (ends Held (carried R owed g))
    concluded_is (Refused cause) = refl

  pub conclusion : (s : State S) (attempt : Attempt S) (owed : Owed) (g : Going S) (more : ℕ) → IsSigner s → g.state.sealer ≡ spent_many more s.sealer → Follows R attempt owed g → concluded s attempt ≡ carried_out R s (more + owed.signs) owed g
  conclusion s attempt owed g more signer so_far f = ap (concluded s) f.same ∙ concluded_is s g owed more signer so_far f.spends owed.answer
