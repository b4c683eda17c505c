-- The requests of a frame that isn't forged may run, and its responses and its checkpoint are held.
use Rattle.std.proofs.Common.{◌≡◌, ◌⊎◌, inl, inr, ℕ, zero, suc, ◌<◌, true, ◌&&◌, List, [], ◌∷◌, length, Option, Some, None, Result, refl, sym, ap, ◌∙◌, subst, arith}
use Rattle.std.specs.Prelude.{option_map, is_none, Contains, slice_get, map}
use Rattle.std.specs.List.{AllByRecursion, filter_map, cons_option, list_all}
use Rattle.std.proofs.lemmas.Bool.{and_parts}
use Rattle.std.proofs.lemmas.List.FromFn.{length-map-range_with_len}
use Rattle.std.proofs.lemmas.Option.{same_Some, slice_get_within}
use Rattle.zy_base.specs.Machine.{Rules}
use Rattle.zy_base.specs.declared.counts.Counts.{Counts}
use Rattle.zy_base.specs.declared.frame_fault.FrameFault.{FrameFault}
use Rattle.zy_base.specs.declared.ids.ClientId.{ClientId}
use Rattle.zy_base.specs.declared.ids.Party.{Party}
use Rattle.zy_base.specs.declared.ids.Party.TheVariants as parties
use Rattle.zy_base.specs.declared.step.Event.TheVariants.{Heard}
use Rattle.zy_admit.specs.Judging.{entry_of}
use Rattle.zy_evidence.specs.Reading.{number_of_party}
use Rattle.zy_frames.specs.Frames.{parts_of}
use Rattle.zy_frames.specs.declared.frame.Frame.{Frame}
use Rattle.zy_frames.specs.declared.frame.Frame.TheVariants as frames
use Rattle.zy_law.specs.World.{Statement}
use Rattle.zy_law_normal.proofs.Backing.{all_from, all_listed}
use Rattle.zy_law_normal.specs.Tied.{MayRun}
use Rattle.zy_law_steps.specs.Heard.{IsEventHeld, IsFrameHeld}
use Rattle.zy_parts.specs.Exact.{ask-in_range}
use Rattle.zy_parts.specs.Numbers as numbers
use Rattle.zy_parts.specs.Signing.{part_of, text_of}
use Rattle.zy_parts.specs.Statements.{ask_fields, order_fields, spec_fields, check_fields}
use Rattle.zy_parts.specs.Statements as statements
use Rattle.zy_parts.specs.declared.signed.Part.{Part}
use Rattle.zy_parts.specs.declared.signed.Signed.{Signed}
use Rattle.zy_parts.specs.declared.statements.Ask.{Ask}
use Rattle.zy_parts.specs.declared.statements.Spec.{Spec}
use Rattle.zy_seal.specs.Keys.{Keys}
use Rattle.zy_seal.specs.Screening.{answer_to, screen}
use Rattle.zy_seal.specs.declared.directory.SealAnswer.TheVariants as answers
use Rattle.zy_table.specs.Roles.{in_role, is_client, is_order_of_primary, is_replica, is_primary_of}
use Rattle.zy_table.specs.State.{State}
use Rattle.zy_table.specs.declared.deeds.AnyFrame.TheVariants.{Plain}
use Rattle.zy_law_views.proofs.ReadBack.{check_back, order_back, spec_back}
use Rattle.zy_law_views.specs.Held.{IsHeldPart, IsVouchedBy}
use Rattle.zy_law_views.specs.Told.{check_told, order_told, response_told, statement_in}
use Rattle.zy_wire.specs.Spelling.{Spelling}
use Rattle.zy_world_law.specs.Good.{IsGood}
use Rattle.zy_world_law.specs.Honest.{forger_in}
use Rattle.zy_world_law.specs.Reading.{either_read}
use Rattle.zy_world_law.specs.Seen.{seen, asked_by, asked_of, entry_in}
use Rattle.zy_world_law.specs.Setup.{keys_of, public_key_of}
use Rattle.zy_world_law.specs.World.{World, Client, client_at, texts_said}
use Rattle.zy_world_law.proofs.DecodedInRange.{FitsSpelled, IsReadable, decoded_readable}
use Rattle.zy_world_law.proofs.NotForged.{IsSaid, parts_said}
use Rattle.zy_world_law.proofs.ReadBack.{entry_back}
use Rattle.zy_world_law.proofs.Screened.{all_verify}
use Rattle.zy_world_law.proofs.Vouched.{under_some, part_honest}

-- ---- lists

contains_behind : {B : Type 0} (o : Option B) (ys : List B) (y : B) → Contains ys y → Contains (cons_option o ys) y
contains_behind None ys y has = has
contains_behind (Some z) ys y (k, within, is) = (suc k, omega arith, is)

contains_first : {B : Type 0} (o : Option B) (ys : List B) (y : B) → o ≡ Some y → Contains (cons_option o ys) y
contains_first None ys y is = absurd cc
contains_first (Some z) ys y is = (0, omega arith, same_Some z y is)

pub contains_mapped : {A B : Type 0} (f : A → Option B) (xs : List A) (x : A) (y : B) → Contains xs x → f x ≡ Some y → Contains (filter_map f xs) y
contains_mapped f [] x y (k, within, is) maps = absurd (omega arith)
contains_mapped f (first ∷ xs) x y (zero, within, is) maps = contains_first (f first) (filter_map f xs) y (ap f is ∙ maps)
contains_mapped f (first ∷ xs) x y (suc k, within, is) maps = contains_behind (f first) (filter_map f xs) y (contains_mapped f xs x y (k, omega arith, is) maps)

module _ {S : Type 0} (R : Rules S) (w : World S) (good : IsGood R w) where
  -- a signature verifies only under the key of one of the clients
  client_within : (id : ClientId) (text sig : List ℕ) → answer_to (keys_of w.setup) (record { by = parties.Client id; text = text; sig = sig }) ≡ answers.Yes → id.0 < 64
  unfolding keys_of
  client_within id text sig signed =
      let key = under_some (slice_get (keys_of w.setup).clients id.0) text sig signed in
      let within : id.0 < length (keys_of w.setup).clients = slice_get_within (keys_of w.setup).clients id.0 key.0 key.1 in
      let many : length (keys_of w.setup).clients ≡ w.setup.clients =
      length-map-range_with_len (λ (n : ℕ). public_key_of w.setup (parties.Client (record { 0 = n }))) 0 w.setup.clients in
      omega (arith, good.setup.clients)

  -- ---- a client's request

  asked_text : (id : ClientId) (ask : Ask) (o : Option Client) → client_at w id.0 ≡ o → ask_fields.Fits ask
      → IsSaid (option_map (λ (x : Client). x.said) o) (text_of numbers.ask ask_fields (parties.Client id) ask)
      → (is_none (client_at w id.0) ≡ true) ⊎ Contains (asked_by w id.0) (statements.entry_of id ask)
  asked_text id ask None at fits said = inl (ap (λ (o : Option Client). is_none o) at)
  asked_text id ask (Some x) at fits said = elim said.said [
    | inl none ↦ absurd cc
    | inr there ↦
        let (texts, is, has) = there in
        let own : Contains x.said (text_of numbers.ask ask_fields (parties.Client id) ask) =
        subst (λ (l : List (List ℕ)). Contains l (text_of numbers.ask ask_fields (parties.Client id) ask)) (sym (same_Some x.said texts is)) has in
        inr (subst (λ (o : Option Client). Contains (asked_of id o) (statements.entry_of id ask)) (sym at)
        (contains_mapped (entry_in id) x.said (text_of numbers.ask ask_fields (parties.Client id) ask) (statements.entry_of id ask) own (entry_back id (parties.Client id) ask fits)))
  ]

  request_by : (by : Party) (stmt : Ask) (sig : List ℕ) → is_client by ≡ true → ask_fields.Fits stmt
      → answer_to (keys_of w.setup) (part_of numbers.ask ask_fields (record { by = by; stmt = stmt; sig = sig })) ≡ answers.Yes
      → IsSaid (texts_said w by) (text_of numbers.ask ask_fields by stmt) → MayRun (seen R w) (entry_of (record { by = by; stmt = stmt; sig = sig }))
  request_by (parties.Client id) stmt sig client fits signed said =
      let ranges = ask-in_range stmt fits in
      record {
        client = client_within id (text_of numbers.ask ask_fields (parties.Client id) stmt) sig signed;
        range = record { stamp = ranges.0.1; op = ranges.1 };
        asked = asked_text id stmt (client_at w id.0) refl fits said;
      }
  request_by (parties.Replica id) stmt sig client fits signed said = absurd cc

  abbrev Verifies : Part → Type 0
  Verifies part = answer_to (keys_of w.setup) part ≡ answers.Yes

  abbrev WasSaid : Part → Type 0
  WasSaid part = answer_to (keys_of w.setup) part ≡ answers.Yes → IsSaid (texts_said w part.by) part.text

  -- ---- parts that are held

  -- a replica's part that is read back so
  part_held : {A : Type 0} (number : ℕ) (fields : Spelling A) (say : A → Statement) (x : Signed A) → is_replica x.by ≡ true → statement_in (number_of_party x.by) (text_of number fields x.by x.stmt) ≡ say x.stmt
      → Verifies (part_of number fields x) → WasSaid (part_of number fields x) → IsHeldPart (seen R w) say x
  part_held number fields say x role back signed said =
      subst (λ (s : Statement). IsVouchedBy (seen R w) s x.by) back (part_honest R w (part_of number fields x) role signed (said signed))

  response_held : (spec : Signed Spec) → FitsSpelled spec.stmt → is_replica spec.by ≡ true → Verifies (part_of numbers.spec spec_fields spec) → WasSaid (part_of numbers.spec spec_fields spec) → IsHeldPart (seen R w) response_told spec
  response_held spec fits role signed said =
      part_held numbers.spec spec_fields response_told spec role (spec_back (number_of_party spec.by) spec.by spec.stmt fits) signed said

  responses_held : (specs : List (Signed Spec)) → AllByRecursion (λ spec. FitsSpelled spec.stmt) specs → list_all (λ spec. is_replica spec.by) specs ≡ true
      → AllByRecursion Verifies (map (part_of numbers.spec spec_fields) specs) → AllByRecursion WasSaid (map (part_of numbers.spec spec_fields) specs) → AllByRecursion (IsHeldPart (seen R w) response_told) specs
  responses_held [] fits role signed said = tt
  responses_held (spec ∷ specs) fits role signed said =
      let roles = and_parts (is_replica spec.by) (list_all (λ spec. is_replica spec.by) specs) role in
      (response_held spec fits.0 roles.0 signed.0 said.0, responses_held specs fits.1 roles.1 signed.1 said.1)

  primary_replica : (counts : Counts) (view : ℕ) (by : Party) → is_primary_of counts view by ≡ true → is_replica by ≡ true
  primary_replica counts view (parties.Replica id) is = refl
  primary_replica counts view (parties.Client id) is = absurd cc

  -- ---- a frame of normal operation

  frame_held : (s : State S) (frame : Frame) → IsReadable frame → in_role s frame ≡ true → AllByRecursion Verifies (parts_of frame) → AllByRecursion WasSaid (parts_of frame) → IsFrameHeld (seen R w) frame
  frame_held s (frames.Request ask) fits role signed said = request_by ask.by ask.stmt ask.sig role fits signed.0 (said.0 signed.0)
  frame_held s (frames.Order both) fits role signed said =
      let roles = and_parts (is_primary_of s.counts both.order.stmt.view.0 both.order.by) (is_client both.ask.by) role in (
        request_by both.ask.by both.ask.stmt both.ask.sig roles.1 fits.1 signed.1.0 (said.1.0 signed.1.0),
        part_held numbers.order order_fields order_told both.order (primary_replica s.counts both.order.stmt.view.0 both.order.by roles.0)
            (order_back (number_of_party both.order.by) both.order.by both.order.stmt fits.0) signed.0 said.0,
      )
  frame_held s (frames.SpecResponse spec reply with_order) fits role signed said = response_held spec fits (and_parts (is_replica spec.by) (is_order_of_primary s.counts with_order) role).0 signed.0 said.0
  frame_held s (frames.Commit specs) fits role signed said =
      all_from (IsHeldPart (seen R w) response_told) specs (responses_held specs (all_listed (λ (spec : Signed Spec). FitsSpelled spec.stmt) specs fits) role signed said)
  frame_held s (frames.LocalCommit local) fits role signed said = tt
  frame_held s (frames.ConfirmReq confirm ask) fits role signed said =
      let asked = and_parts (is_replica confirm.by) (is_client ask.by && is_primary_of s.counts confirm.stmt.view.0 (parties.Replica s.me)) role in
      request_by ask.by ask.stmt ask.sig (and_parts (is_client ask.by) (is_primary_of s.counts confirm.stmt.view.0 (parties.Replica s.me)) asked.1).0 fits signed.1.0 (said.1.0 signed.1.0)
  frame_held s (frames.FillHole hole) fits role signed said = tt
  frame_held s (frames.Hate hate) fits role signed said = tt
  frame_held s (frames.Pom first second) fits role signed said = tt
  frame_held s (frames.Checkpoint check) fits role signed said =
      part_held numbers.check check_fields check_told check role (check_back (number_of_party check.by) check.by check.stmt fits) signed.0 said.0

  module _ (s : State S) (keys : s.keys ≡ keys_of w.setup) (bytes : List ℕ) (none : forger_in w bytes ≡ None) where
    -- nothing is found against the parts of a frame, and it isn't forged
    pub verified : (parts : List Part) → screen s.keys parts ≡ None → AllByRecursion Verifies parts
    verified parts clear = subst (λ (k : Keys). AllByRecursion (λ (part : Part). answer_to k part ≡ answers.Yes) parts) keys (all_verify s.keys parts clear)

    pub event_held : IsEventHeld (seen R w) s (Heard bytes)
    event_held frame is clear role =
        frame_held s frame (decoded_readable bytes frame is) role (verified (parts_of frame) clear) (parts_said w bytes (Plain frame) none (ap (λ (r : Result Frame FrameFault). either_read bytes r) is))
