-- A replica's own report breaks no rule, from its start on and through all that touches the report.
use Rattle.std.proofs.Common.{◌≡◌, ◌≢◌, ◌⊎◌, inl, inr, ℕ, ◌+◌, ◌-◌, ◌*◌, ◌%◌, ◌^◌, ◌<◌, ◌≤◌, Bool, true, false, nat_lt, nat_le, ◌||◌, List, [], ◌∷◌, ◌++◌, length, take, drop, fold, All, IfSome, Option, Some, None, Ok, refl, sym, ap, ◌∙◌, subst, arith}
use Rattle.std.specs.Bool.{Decides}
use Rattle.std.specs.Prelude.{if◌then◌else◌}
use Rattle.std.proofs.Math.Nat.{zero-mod}
use Rattle.std.proofs.Math.Seq.{take-add, take-append_seam}
use Rattle.std.proofs.lemmas.Bool.{and_from, cases_eq, le-leb, leb-true, lt-ltb, ltb-false, or_parts}
use Rattle.std.proofs.lemmas.List.{get_or-take, length-append, length-drop, length-take, length-take-le, take-append-le}
use Rattle.std.proofs.lemmas.List.Elements.{All-append, All-cons, All-drop, All-filter, All-nil, All-take, All-weaker, filter_passes}
use Rattle.std.proofs.lemmas.List.Sums.{fold-append}
use Rattle.std.proofs.lemmas.Option.{cond_some, IfSome_then, same_Some}
use Rattle.zy_base.specs.Machine.{Rules}
use Rattle.zy_base.specs.declared.counts.Counts.{Counts}
use Rattle.zy_base.specs.declared.ids.Digest.{Digest}
use Rattle.zy_base.specs.declared.ids.Party.{Party}
use Rattle.zy_base.specs.declared.ids.Place.{Place}
use Rattle.zy_base.specs.declared.ids.ReplicaId.{ReplicaId}
use Rattle.zy_base.specs.declared.ids.View.{View}
use Rattle.zy_base.specs.declared.ids.Party.TheVariants.{Replica}
use Rattle.zy_chain.specs.Entries.{IsEntryInRange, IsOfClients}
use Rattle.zy_chain.specs.Heads.{head_from}
use Rattle.zy_chain.specs.Stretch.{Mark, Stretch, end_of, head_in, with_entry, from_place}
use Rattle.zy_chain.specs.declared.entry.Entry.{Entry}
use Rattle.zy_wire.specs.Fields.{FitsList}
use Rattle.zy_parts.specs.Reports.{IsToldInRange, IsBeganInRange}
use Rattle.zy_parts.specs.Signing.{IsSignedInRange}
use Rattle.zy_parts.specs.Statements.{IsSpecInRange, IsCheckInRange}
use Rattle.zy_parts.specs.declared.reports.Began.{Began}
use Rattle.zy_parts.specs.declared.reports.Change.{Change}
use Rattle.zy_parts.specs.declared.reports.Told.{Told}
use Rattle.zy_parts.specs.declared.signed.Signed.{Signed}
use Rattle.zy_parts.specs.declared.statements.Check.{Check}
use Rattle.zy_parts.specs.declared.statements.Spec.{Spec}
use Rattle.zy_vframes.specs.ViewFrames.{IsShortCertificate, IsShortReport}
use Rattle.zy_seal.specs.Keys.{Keys}
use Rattle.zy_seal.specs.Sealing.{SealerState}
use Rattle.zy_exec.proofs.ReplayLemmas.{head-along}
use Rattle.zy_exec.proofs.SettleLemmas.{settled_place}
use Rattle.zy_exec.specs.Kept.{Kept, last_place, longer, stretch_of}
use Rattle.zy_cert.proofs.CertificateLemmas.{certified-taken, certified-found}
use Rattle.zy_cert.specs.Certificates.{IsCertificate, certified}
use Rattle.zy_cert.specs.Equal.{same_spec, spec-equal, same_check, check-equal, view-equal}
use Rattle.zy_cert.specs.Points.{point_of_check, point_of_spec}
use Rattle.zy_check.proofs.BoardLemmas.{round_at-is}
use Rattle.zy_check.proofs.VoteLemmas.{only-rising, rising-different}
use Rattle.zy_check.specs.Board.{Board, IsBoard, Stays, specs_at, checks_at, stated, with_stable}
use Rattle.zy_check.specs.Votes.{IsRising, only}
use Rattle.zy_choose.proofs.MarkLemmas.{Has-has_mark}
use Rattle.zy_choose.specs.Marks.{link}
use Rattle.zy_choose.specs.Rules.{Fits, IsWellFormed}
use Rattle.zy_choose.specs.declared.report.ReportRule.{ReportRule}
use Rattle.zy_choose.specs.declared.report.ReportRule.TheVariants as itself
use Rattle.zy_evidence.proofs.ItselfLemmas.{itself_clear}
use Rattle.zy_evidence.proofs.ProofLemmas.{all_clear}
use Rattle.zy_evidence.specs.Reading.{began_of, mark_of_first, read_by, spec_of}
use Rattle.zy_evidence.specs.Reading as reading
use Rattle.zy_evidence.specs.Rules.{are_entries_in_range, fits, fits_if, is_began_proven, is_stable_in_order, is_of_view, is_spec_proven, is_stable_proven, rule_of, rule_of_itself, rule_of_proofs, rule_or}
use Rattle.zy_evidence.specs.WellFormed.{IsSpecProven, IsWellFormedChange}
use Rattle.zy_evidence.specs.declared.rule.Rule.{Rule}
use Rattle.zy_evidence.specs.declared.rule.Rule.TheVariants as rules
use Rattle.zy_change.specs.Fit.{IsTrueReport}
use Rattle.zy_change.specs.Views.{Views, told_of, is_further, with_hate, with_change, with_new, left, specs_in, begans_in}
use Rattle.zy_change.specs.declared.kept.Accepted.{Accepted}
use Rattle.zy_table.specs.Checkpoints.{with_board}
use Rattle.zy_table.specs.Gathering.{first_of, with_certificate, certificate_at, proof_at, settled_at}
use Rattle.zy_table.specs.Leaving.{report_of}
use Rattle.zy_table.specs.State.{State, start_of, window_of}

-- ---- what the lemmas are about

-- The own report breaks no rule. It is in range too, so that the kept entries are.
abbrev pub TellsTrue : {S : Type 0} → State S → Type 0
TellsTrue s = IsTrueReport s.views (report_of s)

-- What a report rests on besides: what is kept for changes of view knows the same numbers, and the stable checkpoint is
-- where the kept history begins, with the same head.
pub record IsJoined {S : Type 0} (s : State S) : Type 0 where
  pub counts : s.views.counts ≡ s.counts
  pub interval : s.views.interval ≡ s.kept.interval
  pub place : s.board.stable.place.0 ≡ s.kept.base.place
  pub head : s.board.stable.head ≡ s.kept.base.head

-- ---- marks

-- a mark fits a stretch with one entry more
fits-longer : (s : Stretch) (e : Entry) (m : Mark) → Fits s m → Fits (with_entry s e) m
fits-longer s e m fits =
    let many = length-append s.entries (e ∷ []) in
    let within = fits.within in
    record {
      within = omega (arith, many);
      shared = λ above. (record {
        above = above;
        below = omega (arith, many);
        head = ap (fold link s.base.head) (take-append-le (m.place - s.base.place) s.entries (e ∷ []) (omega arith)) ∙ (fits.shared above).head;
      });
    }

-- and its part from a place on
pub fits-settled : (s : Stretch) (place : ℕ) (m : Mark) → s.base.place ≤ place → place ≤ end_of s → Fits s m → Fits (from_place place s) m
fits-settled s place m above below fits =
    let within = fits.within in
    let n : ℕ = place - s.base.place in
    let many = length-drop n s.entries in
    record {
      within = omega (arith, many);
      shared = λ higher. (
          let both : n + (m.place - place) ≡ m.place - s.base.place = omega arith in
          record {
            above = higher;
            below = omega (arith, many);
            head =
                sym (fold-append link s.base.head (take n s.entries) (take (m.place - place) (drop n s.entries)))
                ∙ ap (fold link s.base.head) (sym (take-add n (m.place - place) s.entries))
                ∙ ap (λ (i : ℕ). fold link s.base.head (take i s.entries)) both
                ∙ (fits.shared (omega arith)).head;
          }
          );
    }

some_head : (outside : Bool) (found head : Digest) → (if outside then None else Some found) ≡ Some head → (outside ≡ false) × (found ≡ head)
some_head true found head is = absurd cc
some_head false found head is = (refl, same_Some found head is)

-- a mark of the stretch's own fits it
pub own-fits : (s : Stretch) (place : ℕ) (head : Digest) → head_in s place ≡ Some head → Fits s (record { place = place; head = head })
own-fits s place head is =
    let found = some_head (nat_lt place s.base.place || nat_lt (end_of s) place) (head_from s.base.head (take (place - s.base.place) s.entries)) head is in
    let outside = or_parts (nat_lt place s.base.place) (nat_lt (end_of s) place) found.0 in
    let below : place ≤ end_of s = ltb-false _ _ outside.1 in
    record { within = below; shared = λ above. (record { above = above; below = below; head = found.1 }) }

own-test : (s : Stretch) (place : ℕ) (head : Digest) → head_in s place ≡ Some head → fits s (record { place = place; head = head }) ≡ true
own-test s place head is =
    let fit = own-fits s place head is in
    let outside = or_parts (nat_lt place s.base.place) (nat_lt (end_of s) place) (some_head (nat_lt place s.base.place || nat_lt (end_of s) place) (head_from s.base.head (take (place - s.base.place) s.entries)) head is).0 in
    and_from _ _ (le-leb _ _ fit.within) (rw outside.0 (Has-has_mark link s (record { place = place; head = head }) (fit.shared (ltb-false _ _ outside.0))))

-- ---- the rules in two parts

abbrev next_change : Told → Change
next_change told = record { view = record { 0 = told.last_view.0 + 1 }; told = told }

both_none : (a : Option Rule) (b : Option ReportRule) → rule_or a b ≡ None → (a ≡ None) × (b ≡ None)
both_none (Some rule) b none = absurd cc
both_none None (Some rule) none = absurd cc
both_none None None none = (refl, refl)

both_kept : (a : Option Rule) (b : Option ReportRule) → a ≡ None → b ≡ None → rule_or a b ≡ None
both_kept a b first second = ap (λ (o : Option Rule). rule_or o b) first ∙ ap (λ (o : Option ReportRule). rule_or None o) second

record KeepsRules (v : Views) (told : Told) : Type 0 where
  proofs : rule_of_proofs v.counts (next_change told) ≡ None
  itself : IsWellFormed v.interval (read_by 0 told)

parts : (v : Views) (told : Told) → IsTrueReport v told → KeepsRules v told
parts v told is = let both = both_none _ _ is.keeps_rules in record { proofs = both.0; itself = (itself_clear v.interval 0 told).0 both.1 }

true_of : (v : Views) (told : Told) → told.last_view ≡ v.last_view → IsToldInRange told → KeepsRules v told → IsTrueReport v told
true_of v told last in_range kept =
    record {
      last = last;
      in_range = in_range;
      keeps_rules = both_kept _ _ kept.proofs ((itself_clear v.interval 0 told).1 kept.itself);
    }

-- what others' statements prove
record Proven (counts : Counts) (told : Told) : Type 0 where
  began : is_began_proven counts told ≡ true
  spec : is_spec_proven counts told.last_view told.specs ≡ true
  stable : is_stable_proven counts told ≡ true

past : {A : Type 0} (b : Bool) (rule : A) (rest : Option A) → (if b then rest else Some rule) ≡ None → (b ≡ true) × (rest ≡ None)
past true rule rest none = (refl, none)
past false rule rest none = absurd cc

proven : (counts : Counts) (c : Change) → rule_of_proofs counts c ≡ None → Proven counts c.told
proven counts c none =
    let last = past _ rules.LastView _ none in
    let began = past _ rules.Began _ last.1 in
    let spec = past _ rules.Spec _ began.1 in
    let stable = past _ rules.Stable _ spec.1 in
    record { began = began.0; spec = spec.0; stable = stable.0 }

-- so what it tells of its stable checkpoint is proven
pub rule-stable : (counts : Counts) (interval : ℕ) (c : Change) → rule_of counts interval c ≡ None → is_stable_proven counts c.told ≡ true
rule-stable counts interval c none = let p = proven counts c (both_none _ _ none).0 in p.stable

pub true-stable : (v : Views) (told : Told) → IsTrueReport v told → is_stable_proven v.counts told ≡ true
true-stable v told is = rule-stable v.counts v.interval (next_change told) is.keeps_rules

unbroken : (counts : Counts) (told : Told) → Proven counts told → rule_of_proofs counts (next_change told) ≡ None
unbroken counts told p = rw (lt-ltb told.last_view.0 (told.last_view.0 + 1) (omega arith), p.began, p.spec, p.stable) refl

-- ---- at the start

pub start-true : {S : Type 0} (R : Rules S) (interval : ℕ) (me : ReplicaId) (counts : Counts) (keys : Keys) (sealer : SealerState) → 4 ≤ interval → TellsTrue (start_of R interval me counts keys sealer)
start-true R interval me counts keys sealer least =
    record {
      last = refl;
      in_range = record {
        last_view = (omega arith, omega arith);
        began_place = (omega arith, omega arith);
        began = record { least = omega arith; most = omega arith; each = All-nil (IsSignedInRange IsBeganInRange) };
        specs = tt;
        stable_view = (omega arith, omega arith);
        stable_place = (omega arith, omega arith);
        checks = record { least = omega arith; most = omega arith; each = All-nil (IsSignedInRange IsCheckInRange) };
        entries = record { least = omega arith; most = omega arith; each = All-nil IsEntryInRange };
      };
      keeps_rules = rw (zero-mod interval, le-leb 0 (2 * interval) (omega arith)) refl;
    }

-- ---- what doesn't touch it: what changes none of views, history and board leaves the very same report

-- what a report is made of is the same
pub record TellsAlike {S : Type 0} (s t : State S) : Type 0 where
  pub counts : t.views.counts ≡ s.views.counts
  pub interval : t.views.interval ≡ s.views.interval
  pub last_view : t.views.last_view ≡ s.views.last_view
  pub began_place : t.views.began_place ≡ s.views.began_place
  pub began_head : t.views.began_head ≡ s.views.began_head
  pub view_cert : t.views.view_cert ≡ s.views.view_cert
  pub specs : t.views.specs ≡ s.views.specs
  pub stable : t.board.stable ≡ s.board.stable
  pub proof : t.board.proof ≡ s.board.proof
  pub entries : t.kept.entries ≡ s.kept.entries

pub alike-true : {S : Type 0} (s t : State S) → TellsAlike s t → TellsTrue s → TellsTrue t
alike-true s t same is =
    let told : report_of t ≡ report_of s =
    λ i. record {
      last_view = same.last_view i;
      began_place = same.began_place i;
      began_head = same.began_head i;
      began = begans_in (same.view_cert i);
      specs = specs_in (same.specs i);
      stable_view = (same.stable i).view;
      stable_place = (same.stable i).place;
      stable_head = (same.stable i).head;
      state = (same.stable i).state;
      checks = same.proof i;
      entries = same.entries i;
    } in
    record { last = refl; in_range = subst IsToldInRange (sym told) is.in_range; keeps_rules = (λ i. rule_of (same.counts i) (same.interval i) (next_change (told i))) ∙ is.keeps_rules }

module _ {S : Type 0} (s : State S) (is : TellsTrue s) where
  pub with_board-true : (b : Board) → Stays s.board b → TellsTrue (with_board s b)
  with_board-true b stays =
      alike-true s (with_board s b)
      (record { counts = refl; interval = refl; last_view = refl; began_place = refl; began_head = refl; view_cert = refl; specs = refl; stable = stays.stable; proof = stays.proof; entries = refl })
      is

  pub with_hate-true : (by : Party) → TellsTrue (record s { views = with_hate by s.views })
  with_hate-true by = record { last = refl; in_range = is.in_range; keeps_rules = is.keeps_rules }

  pub with_change-true : (c : Signed Change) → TellsTrue (record s { views = with_change c s.views })
  with_change-true c = record { last = refl; in_range = is.in_range; keeps_rules = is.keeps_rules }

  pub left-true : (view : View) → TellsTrue (record s { views = left view s.views })
  left-true view = record { last = refl; in_range = is.in_range; keeps_rules = is.keeps_rules }

  pub with_new-true : (a : Accepted) (own : Signed Began) → TellsTrue (record s { views = with_new a own s.views })
  with_new-true a own = record { last = refl; in_range = is.in_range; keeps_rules = is.keeps_rules }

-- ---- one entry more, and fewer

module _ {S : Type 0} (s : State S) (is : TellsTrue s) where
  pub longer-true : (e : Entry) → IsJoined s → s.orders.base ≡ s.kept.base.place → s.kept.interval ≤ 32 → last_place s.kept < window_of s → IsOfClients e → IsEntryInRange e → TellsTrue (record s { kept = longer s.kept e })
  longer-true e joined base most room client in_range =
      let was = parts s.views (report_of s) is in
      let itself = was.itself in
      let spine : Stretch = reading.stretch_of (report_of s) in
      let many = length-append s.kept.entries (e ∷ []) in
      let few : length (s.kept.entries ++ e ∷ []) ≤ 2 * s.views.interval = omega (arith, many, room, joined.interval, base) in
      true_of s.views (report_of (record s { kept = longer s.kept e })) refl
      (record {
        last_view = is.in_range.last_view;
        began_place = is.in_range.began_place;
        began = is.in_range.began;
        specs = is.in_range.specs;
        stable_view = is.in_range.stable_view;
        stable_place = is.in_range.stable_place;
        checks = is.in_range.checks;
        entries = record {
          least = omega arith;
          most = omega (arith, few, joined.interval);
          each = All-append IsEntryInRange s.kept.entries (e ∷ []) is.in_range.entries.each (All-cons IsEntryInRange e [] in_range (All-nil IsEntryInRange));
        };
      })
      (record {
        proofs = was.proofs;
        itself = record {
          stable = record { view = itself.stable.view; multiple = itself.stable.multiple };
          entries = record {
            few = few;
            clients = All-append IsOfClients s.kept.entries (e ∷ []) itself.entries.clients (All-cons IsOfClients e [] client (All-nil IsOfClients));
            end = omega (arith, many, room, joined.place);
          };
          began = fits-longer spine e (began_of (report_of s)) itself.began;
          spec = IfSome_then (spec_of (report_of s).specs) itself.spec (fits-longer spine e);
        };
      })

-- one entry more comes from one history
pub longer-one : {S : Type 0} (k j : Kept S) (e f : Entry) → longer k e ≡ longer j f → k ≡ j
longer-one {S} k j e f same =
    let all : k.entries ++ e ∷ [] ≡ j.entries ++ f ∷ [] = ap (λ (x : Kept S). x.entries) same in
    let one : length k.entries ≡ length j.entries = omega (arith, length-append k.entries (e ∷ []), length-append j.entries (f ∷ []), ap length all) in
    let entries : k.entries ≡ j.entries =
    sym (take-append_seam k.entries (e ∷ []))
    ∙ ap (take (length k.entries)) all
    ∙ ap (λ (n : ℕ). take n (j.entries ++ f ∷ [])) one
    ∙ take-append_seam j.entries (f ∷ []) in
    λ i. record { interval = (same i).interval; base = (same i).base; entries = entries i }

-- The entry that was run last is taken out again: so the history before it is the one that went on, whose report was true.
pub unrun-true : {S : Type 0} (s : State S) (e : Entry) → TellsTrue s → (k : Kept S) (f : Entry) → longer s.kept e ≡ longer k f → TellsTrue (record s { kept = k })
unrun-true {S} s e is k f same = subst (λ (x : Kept S). TellsTrue (record s { kept = x })) (longer-one s.kept k e f same) is

-- ---- so many of the first

stmts_of : {A : Type 0} (same : A → A → Bool) → ((x y : A) → Decides (same x y) (x ≡ y)) → (stmt : A) (list : List (Signed A)) → All (λ s. s.stmt ≡ stmt) (only same stmt list)
stmts_of same equal stmt list =
    All-weaker (λ s. same s.stmt stmt ≡ true) (λ s. s.stmt ≡ stmt) (λ s told. (equal s.stmt stmt).0 told) (only same stmt list) (filter_passes (λ s. same s.stmt stmt) list)

take-rising : {A : Type 0} (n : ℕ) (list : List (Signed A)) → IsRising list → IsRising (take n list)
take-rising n list rising i j d before small =
    let fewer : length (take n list) ≤ n = omega (arith, length-take n list) in
    let whole : length (take n list) ≤ length list = omega (arith, length-take n list) in
    rw (get_or-take n list i d (omega arith), get_or-take n list j d (omega arith)) (rising i j d before (omega arith))

-- so many equal statements of rising signers are a certificate for what they say
module _ {A : Type 0} (same : A → A → Bool) (equal : (x y : A) → Decides (same x y) (x ≡ y)) (at : A → View × Place × Digest) (count : ℕ) (stmt : A) (list taken : List (Signed A)) (found : first_of count (only same stmt list) ≡ Some taken) where
  enough : (count ≤ length (only same stmt list)) × (take count (only same stmt list) ≡ taken)
  enough = let both = cond_some (nat_le count (length (only same stmt list))) (take count (only same stmt list)) taken found in (leb-true _ _ both.0, both.1)

  first-all : (P : Signed A → Type 0) → All P list → All P taken
  first-all P all = subst (All P) enough.1 (All-take P count (only same stmt list) (All-filter (λ s. same s.stmt stmt) P list all))

  first-equal : All (λ s. s.stmt ≡ stmt) taken
  first-equal = subst (All (λ s. s.stmt ≡ stmt)) enough.1 (All-take (λ s. s.stmt ≡ stmt) count (only same stmt list) (stmts_of same equal stmt list))

  first-certificate : IsRising list → IsCertificate at count taken (at stmt)
  first-certificate rising =
      record {
        stmt = stmt;
        located = refl;
        len = ap length (sym enough.1) ∙ length-take-le count (only same stmt list) enough.0;
        different = rising-different taken (subst IsRising enough.1 (take-rising count (only same stmt list) (only-rising same stmt list rising)));
        equal = first-equal;
      }

-- neither number of a certificate is zero
certain-some : (counts : Counts) → (0 < counts.cert) × (0 < counts.local)
certain-some counts = (omega (arith, counts.sound.two_certificates), omega (arith, counts.sound.local_and_change, counts.sound.change_in_reach))

-- ---- a commit certificate

-- as it was heard, or is gathered: in the last view, for a mark of the own history
module _ {S : Type 0} (s : State S) (specs : List (Signed Spec)) (point : View × Place × Digest) (proves : certified same_spec point_of_spec s.counts.cert specs ≡ Ok point) where
  cert : IsCertificate point_of_spec s.counts.cert specs point
  cert = certified-taken same_spec spec-equal point_of_spec s.counts.cert specs point proves

  pub certificate-in_range : All (IsSignedInRange IsSpecInRange) specs → FitsList (IsSignedInRange IsSpecInRange) 1 16 specs
  certificate-in_range all =
      let len = cert.len in
      record { least = omega (arith, (certain-some s.counts).0); most = omega (arith, s.counts.sound.short_certificate); each = all }

  pub certificate-proven : (view : View) → point.0 ≡ view → is_spec_proven s.counts view (Some specs) ≡ true
  certificate-proven view own = ap (is_of_view view) proves ∙ (view-equal point.0 view).1 own

  pub certificate-fits : s.board.stable.place.0 ≡ s.kept.base.place → s.board.stable.head ≡ s.kept.base.head → head_in (stretch_of s.kept) point.1.0 ≡ Some point.2
      → fits_if (reading.stretch_of (report_of s)) (spec_of (Some specs)) ≡ true
  certificate-fits place head here = by specs cert.equal
    where
      spine : Stretch
      spine = reading.stretch_of (report_of s)

      mark_here : head_in spine point.1.0 ≡ Some point.2
      mark_here = ap (λ (m : Mark). head_in (record { base = m; entries = s.kept.entries }) point.1.0) (λ i. record { place = place i; head = head i }) ∙ here

      by : (list : List (Signed Spec)) → All (λ x. x.stmt ≡ cert.stmt) list → fits_if spine (mark_of_first list) ≡ true
      by [] all = refl
      by (first ∷ others) all =
          let mark = sym (ap point_of_spec (all 0 first (omega arith)) ∙ cert.located) in
          (λ i. fits spine (record { place = (sym mark i).1.0; head = (sym mark i).2 })) ∙ own-test spine point.1.0 point.2 mark_here

-- what a report says of itself, with another certificate
itself-specs : (interval : ℕ) (told : Told) (specs : List (Signed Spec)) → rule_of_itself interval told ≡ None → fits_if (reading.stretch_of told) (spec_of (Some specs)) ≡ true → rule_of_itself interval (record told { specs = Some specs }) ≡ None
itself-specs interval told specs none fitting =
    let stable = past (is_stable_in_order interval told) itself.Stable _ none in
    let entries = past (are_entries_in_range interval told) itself.Entries _ stable.1 in
    let began = past (fits (reading.stretch_of told) (began_of told)) itself.Began _ entries.1 in
    rw (stable.0, entries.0, began.0, fitting) refl

module _ {S : Type 0} (s : State S) (is : TellsTrue s) (same : s.views.counts ≡ s.counts) where
  pub certificate-true : (place : Place) (specs : List (Signed Spec)) → FitsList (IsSignedInRange IsSpecInRange) 1 16 specs → is_spec_proven s.counts s.views.last_view (Some specs) ≡ true
      → fits_if (reading.stretch_of (report_of s)) (spec_of (Some specs)) ≡ true → TellsTrue (with_certificate s place specs)
  certificate-true place specs in_range proves fitting = by (is_further place s.views.specs)
    where
      kept : State S
      kept = record s { views = record s.views { specs = Some (record { place = place; specs = specs }) } }

      with_it : TellsTrue kept
      with_it =
          let was = both_none _ _ is.keeps_rules in
          let others = proven s.views.counts (next_change (report_of s)) was.0 in
          let spec = ap (λ (c : Counts). is_spec_proven c s.views.last_view (Some specs)) same ∙ proves in
          let in_range : IsToldInRange (report_of kept) =
          record {
            last_view = is.in_range.last_view;
            began_place = is.in_range.began_place;
            began = is.in_range.began;
            specs = in_range;
            stable_view = is.in_range.stable_view;
            stable_place = is.in_range.stable_place;
            checks = is.in_range.checks;
            entries = is.in_range.entries;
          } in
          record {
            last = refl;
            in_range = in_range;
            keeps_rules =
                both_kept _ _
                (unbroken s.views.counts (report_of kept) (record { began = others.began; spec = spec; stable = others.stable }))
                (itself-specs s.views.interval (report_of s) specs was.1 fitting);
          }

      by : (b : Bool) → TellsTrue (if b then kept else s)
      by true = with_it
      by false = is

-- the kept responses that make one certify the point of the own one
module _ {S : Type 0} (s : State S) (own : Spec) (specs : List (Signed Spec)) (found : certificate_at s own ≡ Some specs) where
  pub certificate_at-certified : IsBoard s.board → certified same_spec point_of_spec s.counts.cert specs ≡ Ok (point_of_spec own)
  certificate_at-certified board =
      certified-found same_spec spec-equal point_of_spec s.counts.cert specs (point_of_spec own) (certain-some s.counts).0
      (first-certificate same_spec spec-equal point_of_spec s.counts.cert own (specs_at s.board own.place.0) specs found (round_at-is s.board own.place.0 board).specs_rise)

  pub certificate_at-all : (P : Signed Spec → Type 0) → All P (specs_at s.board own.place.0) → All P specs
  certificate_at-all P all = first-all same_spec spec-equal point_of_spec s.counts.cert own (specs_at s.board own.place.0) specs found P all

-- ---- a stable place

-- the kept checkpoints that make a proof say what the own one says, and certify its point
module _ {S : Type 0} (s : State S) (own : Check) (proof : List (Signed Check)) (found : proof_at s own ≡ Some proof) where
  pub proof_at-certified : IsBoard s.board → certified same_check point_of_check s.counts.local proof ≡ Ok (point_of_check own)
  proof_at-certified board =
      certified-found same_check check-equal point_of_check s.counts.local proof (point_of_check own) (certain-some s.counts).1
      (first-certificate same_check check-equal point_of_check s.counts.local own (checks_at s.board own.place.0) proof found (round_at-is s.board own.place.0 board).checks_rise)

  pub proof_at-equal : All (λ c. c.stmt ≡ own) proof
  proof_at-equal = first-equal same_check check-equal point_of_check s.counts.local own (checks_at s.board own.place.0) proof found

  pub proof_at-all : (P : Signed Check → Type 0) → All P (checks_at s.board own.place.0) → All P proof
  proof_at-all P all = first-all same_check check-equal point_of_check s.counts.local own (checks_at s.board own.place.0) proof found P all

-- a checkpoint of the last view and of the own history, at a multiple of the interval above the base
pub record IsOwnCheck {S : Type 0} (s : State S) (own : Check) : Type 0 where
  pub view : own.view ≡ s.views.last_view
  pub head : head_in (stretch_of s.kept) own.place.0 ≡ Some own.head
  pub above : s.kept.base.place < own.place.0
  pub within : own.place.0 ≤ last_place s.kept
  pub multiple : own.place.0 % s.kept.interval ≡ 0

stated-own : (other own : Check) (proof : List (Signed Check)) → 0 < length proof → All (λ c. c.stmt ≡ own) proof → stated other proof ≡ own
stated-own other own [] some all = absurd (omega arith)
stated-own other own (first ∷ others) some all = all 0 first (omega arith)

module _ {S : Type 0} (R : Rules S) (s : State S) (own : Check) (joined : IsJoined s) (here : IsOwnCheck s own) (proof : List (Signed Check)) (proves : certified same_check point_of_check s.counts.local proof ≡ Ok (point_of_check own)) (equal : All (λ c. c.stmt ≡ own) proof) where
  abbrev place : ℕ
  place = own.place.0

  abbrev above : ℕ
  above = place - s.kept.base.place

  abbrev told_with : Told
  told_with = told_of s.views (own.view, own.place, own.head, own.state) proof (record { base = record { place = place; head = own.head }; entries = drop above s.kept.entries })

  head_here : head_from s.kept.base.head (take above s.kept.entries) ≡ own.head
  head_here = (some_head (nat_lt place s.kept.base.place || nat_lt (last_place s.kept) place) (head_from s.kept.base.head (take above s.kept.entries)) own.head here.head).1

  cert-here : IsCertificate point_of_check s.counts.local proof (point_of_check own)
  cert-here = certified-taken same_check check-equal point_of_check s.counts.local proof (point_of_check own) proves

  stable-own : stated s.board.stable proof ≡ own
  stable-own = stated-own s.board.stable own proof (omega (arith, cert-here.len, (certain-some s.counts).1)) equal

  told-settled : told_with ≡ report_of (settled_at R place proof s)
  unfolding with_stable
  told-settled = ap (λ (c : Check). told_of s.views (c.view, c.place, c.head, c.state) proof (record { base = record { place = place; head = own.head }; entries = drop above s.kept.entries })) (sym stable-own)

  told_with-true : TellsTrue s → All (IsSignedInRange IsCheckInRange) proof → IsTrueReport s.views told_with
  told_with-true is in_range =
      let counts : Counts = s.views.counts in
      let was = (all_clear counts s.views.interval (record { by = Replica (record { 0 = 0 }); stmt = next_change (report_of s); sig = [] })).0 is.keeps_rules in
      let itself = was.itself in
      let spine : Stretch = reading.stretch_of (report_of s) in
      let view : own.view.0 ≡ s.views.last_view.0 = ap (λ (v : View). v.0) here.view in
      let cert : IsCertificate point_of_check counts.local proof (point_of_check own) = subst (λ (c : Counts). IsCertificate point_of_check c.local proof (point_of_check own)) (sym joined.counts) cert-here in
      let many = length-drop above s.kept.entries in
      let part : from_place place spine ≡ reading.stretch_of told_with =
      ap (λ (m : Mark). from_place place (record { base = m; entries = s.kept.entries })) (λ i. record { place = joined.place i; head = joined.head i })
      ∙ ap (λ (h : Digest). record { base = record { place = place; head = h }; entries = drop above s.kept.entries }) head_here in
      let higher : spine.base.place ≤ place = omega (arith, joined.place, here.above) in
      let within : place ≤ end_of spine = omega (arith, joined.place, here.within) in
      let end : place + length (drop above s.kept.entries) < 2 ^ 62 = omega (arith, many, joined.place, here.above, here.within, itself.entries.end) in
      record {
        last = refl;
        in_range = record {
          last_view = is.in_range.last_view;
          began_place = is.in_range.began_place;
          began = is.in_range.began;
          specs = is.in_range.specs;
          stable_view = (omega arith, omega (arith, view, is.in_range.last_view.1));
          stable_place = (omega arith, omega (arith, end));
          checks = record {
            least = omega arith;
            most = omega (arith, cert.len, counts.sound.short_local);
            each = in_range;
          };
          entries = record { least = omega arith; most = omega (arith, many, is.in_range.entries.most); each = All-drop IsEntryInRange above s.kept.entries is.in_range.entries.each };
        };
        keeps_rules = (all_clear counts s.views.interval (record { by = Replica (record { 0 = 0 }); stmt = next_change told_with; sig = [] })).1 (record {
          last = was.last;
          began = record { first = λ zero. (let f = was.began.first zero in record { place = f.place; head = f.head; unconfirmed = f.unconfirmed }); later = was.began.later };
          spec = was.spec;
          stable = record {
            first = λ zero. absurd (omega (arith, zero, here.above));
            later = λ other. (record { certificate = cert; state = All-weaker (λ c. c.stmt ≡ own) (λ c. c.stmt.state ≡ own.state) (λ c same. ap (λ (x : Check). x.state) same) proof equal });
          };
          itself = record {
            stable = record { view = omega (arith, view); multiple = ap (λ (k : ℕ). place % k) joined.interval ∙ here.multiple };
            entries = record { few = omega (arith, many, itself.entries.few); clients = All-drop IsOfClients above s.kept.entries itself.entries.clients; end = end };
            began = subst (λ (x : Stretch). Fits x (began_of (report_of s))) part (fits-settled spine place (began_of (report_of s)) higher within itself.began);
            spec = subst (λ (x : Stretch). IfSome (spec_of (report_of s).specs) (Fits x)) part (IfSome_then (spec_of (report_of s).specs) itself.spec (λ m. fits-settled spine place m higher within));
          };
        });
      }

  pub settle-true : TellsTrue s → All (IsSignedInRange IsCheckInRange) proof → TellsTrue (settled_at R place proof s)
  settle-true is in_range = subst (IsTrueReport s.views) told-settled (told_with-true is in_range)

  pub settle-joined : IsJoined (settled_at R place proof s)
  unfolding with_stable
  settle-joined =
      record {
        counts = joined.counts;
        interval = joined.interval;
        place = ap (λ (c : Check). c.place.0) stable-own ∙ sym (settled_place R s.kept place (omega (arith, here.above)) here.within);
        head = ap (λ (c : Check). c.head) stable-own ∙ sym head_here ∙ sym (head-along R s.kept.base (take above s.kept.entries));
      }

-- ---- lists are short

-- a report that breaks no rule has certificates of at most nine
pub rule-short : (counts : Counts) (interval : ℕ) (c : Change) → rule_of counts interval c ≡ None → IsShortReport c.told
rule-short counts interval c none = record { began = began (cases_eq c.told.last_view.0 0); specs = specs c.told.specs well.spec; checks = checks (cases_eq c.told.stable_place.0 0) }
  where
    well : IsWellFormedChange counts interval (record { by = Replica (record { 0 = 0 }); stmt = c; sig = [] })
    well = (all_clear counts interval (record { by = Replica (record { 0 = 0 }); stmt = c; sig = [] })).0 none

    began : (c.told.last_view.0 ≡ 0) ⊎ (c.told.last_view.0 ≢ 0) → length c.told.began ≤ 9
    began (inl first) = omega (arith, ap length (well.began.first first).unconfirmed)
    began (inr later) = omega (arith, (well.began.later later).len, counts.sound.short_certificate)

    checks : (c.told.stable_place.0 ≡ 0) ⊎ (c.told.stable_place.0 ≢ 0) → length c.told.checks ≤ 9
    checks (inl first) = omega (arith, ap length (well.stable.first first).unproven)
    checks (inr later) = omega (arith, (well.stable.later later).certificate.len, counts.sound.short_local)

    specs : (o : Option (List (Signed Spec))) → ((list : List (Signed Spec)) → o ≡ Some list → IsSpecProven counts c.told.last_view list) → IsShortCertificate o
    specs None proves = tt
    specs (Some list) proves = omega (arith, (proves list refl).certificate.len, counts.sound.short_certificate)

pub true-short : (v : Views) (told : Told) → IsTrueReport v told → IsShortReport told
true-short v told is = rule-short v.counts v.interval (record { view = record { 0 = told.last_view.0 + 1 }; told = told }) is.keeps_rules
