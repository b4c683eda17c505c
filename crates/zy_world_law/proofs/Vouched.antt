-- A statement whose text a correct replica said, or a liar signed, is vouched for in the law's world.
use Rattle.std.proofs.Common.{◌≡◌, ◌⊎◌, inl, inr, ℕ, ◌<◌, true, List, length, map, Option, Some, None, refl, sym, ap, ◌∙◌, subst, arith}
use Rattle.std.specs.Prelude.{is_none, Contains, slice_get, option_map}
use Rattle.std.proofs.lemmas.List.FromFn.{length-map-range_with_len}
use Rattle.std.proofs.lemmas.Option.{same_Some, slice_get-get_or, slice_get-map, slice_get_within}
use Rattle.zy_base.specs.Machine.{Rules}
use Rattle.zy_base.specs.declared.ids.Party.{Party}
use Rattle.zy_base.specs.declared.ids.Party.TheVariants as parties
use Rattle.zy_evidence.specs.Reading.{number_of_party}
use Rattle.zy_law.specs.Said.{HasSaid, IsVouched}
use Rattle.zy_law.specs.World.{Statement}
use Rattle.zy_law_normal.specs.Tied.{IsVouchedBy}
use Rattle.zy_parts.specs.declared.signed.Part.{Part}
use Rattle.zy_seal.specs.Checking.{answer_under}
use Rattle.zy_seal.specs.Screening.{answer_to}
use Rattle.zy_seal.specs.declared.directory.SealAnswer.TheVariants as answers
use Rattle.zy_table.specs.Roles.{is_replica}
use Rattle.zy_law_views.specs.Held as held
use Rattle.zy_law_views.specs.Held.{IsHonestPart}
use Rattle.zy_law_views.specs.Told.{statement_in}
use Rattle.zy_world_law.specs.Seen.{seen, said_of, spoken_by}
use Rattle.zy_world_law.specs.Setup.{keys_of, public_key_of}
use Rattle.zy_world_law.specs.World.{World, Replica, Remark, replica_at, texts_said}
use Rattle.zy_world_law.proofs.NotForged.{IsSaid}

pub under_some : (o : Option (List ℕ)) (text sig : List ℕ) → answer_under o text sig ≡ answers.Yes → (key : List ℕ) × (o ≡ Some key)
under_some None text sig is = absurd cc
under_some (Some key) text sig is = (key, refl)

remark_with : (said : List Remark) (text : List ℕ) → Contains (map (λ (remark : Remark). remark.text) said) text → (k : ℕ) × (remark : Remark) × (slice_get said k ≡ Some remark) × (remark.text ≡ text)
remark_with said text (k, within, is) =
    let there : slice_get (map (λ (remark : Remark). remark.text) said) k ≡ Some text = slice_get-get_or (map (λ (remark : Remark). remark.text) said) k text within ∙ ap (λ (t : List ℕ). Some t) is in
    from (slice_get said k) refl (sym (slice_get-map (λ (remark : Remark). remark.text) said k) ∙ there)
  where
    from : (o : Option Remark) → slice_get said k ≡ o → option_map (λ (remark : Remark). remark.text) o ≡ Some text → (k : ℕ) × (remark : Remark) × (slice_get said k ≡ Some remark) × (remark.text ≡ text)
    from None at is = absurd cc
    from (Some remark) at is = (k, remark, at, same_Some remark.text text is)

module _ {S : Type 0} (w : World S) where
  -- the replica of this number said the text, or it lies
  abbrev pub SaidOrLies : ℕ → List ℕ → Type 0
  SaidOrLies id text = (replica_at w id ≡ None) ⊎ ((x : Replica S) × (replica_at w id ≡ Some x) × Contains (map (λ remark. remark.text) x.said) text)

  said_or_lies : (number : ℕ) (text : List ℕ) (o : Option (Replica S)) → replica_at w number ≡ o → IsSaid (option_map (λ (x : Replica S). map (λ remark. remark.text) x.said) o) text → SaidOrLies number text
  said_or_lies number text None at said = inl at
  said_or_lies number text (Some x) at said = elim said.said [
    | inl none ↦ absurd cc
    | inr there ↦
        let (texts, is, has) = there in
        inr (x, at, subst (λ (l : List (List ℕ)). Contains l text) (sym (same_Some (map (λ remark. remark.text) x.said) texts is)) has)
  ]

  -- a signature verifies only under the key of one of the replicas
  replica_within : (number : ℕ) (text sig : List ℕ) → answer_to (keys_of w.setup) (record { by = parties.Replica (record { 0 = number }); text = text; sig = sig }) ≡ answers.Yes → number < w.setup.counts.n
  unfolding keys_of
  replica_within number text sig signed =
      let key = under_some (slice_get (keys_of w.setup).replicas number) text sig signed in
      let within : number < length (keys_of w.setup).replicas = slice_get_within (keys_of w.setup).replicas number key.0 key.1 in
      let many : length (keys_of w.setup).replicas ≡ w.setup.counts.n =
      length-map-range_with_len (λ (n : ℕ). public_key_of w.setup (parties.Replica (record { 0 = n }))) 0 w.setup.counts.n in
      omega arith

  -- what verifies under a replica's key, and isn't forged
  pub verified_said : (number : ℕ) (text sig : List ℕ) → answer_to (keys_of w.setup) (record { by = parties.Replica (record { 0 = number }); text = text; sig = sig }) ≡ answers.Yes
      → IsSaid (texts_said w (parties.Replica (record { 0 = number }))) text → (number < w.setup.counts.n) × SaidOrLies number text
  verified_said number text sig signed said = (replica_within number text sig signed, said_or_lies number text (replica_at w number) refl said)

module _ {S : Type 0} (R : Rules S) (w : World S) where
  said_so : (id : ℕ) (y : Replica S) (text : List ℕ) (s : Statement) → replica_at w id ≡ Some y → statement_in id text ≡ s → Contains (map (λ (remark : Remark). remark.text) y.said) text → HasSaid (seen R w) id s
  said_so id y text s at reads has =
      let (k, remark, there, is) = remark_with y.said text has in
      let spoken : slice_get (said_of id (replica_at w id)) k ≡ Some (spoken_by id remark) =
      ap (λ (o : Option (Replica S)). slice_get (said_of id o) k) at ∙ slice_get-map (spoken_by id) y.said k ∙ ap (λ (o : Option Remark). option_map (spoken_by id) o) there in
      (k, spoken_by id remark, spoken, ap (statement_in id) is ∙ reads)

  -- by what is read in the text
  pub text_vouched : (id : ℕ) (text : List ℕ) (s : Statement) → id < w.setup.counts.n → SaidOrLies w id text → statement_in id text ≡ s → IsVouched (seen R w) s id
  text_vouched id text s within said reads =
      record {
        within = within;
        said = elim said [
          | inl none ↦ inl (ap (λ (o : Option (Replica S)). is_none o) none)
          | inr there ↦ let (y, at, has) = there in inr (said_so id y text s at reads has)
        ];
      }

  pub part_vouched : (by : Party) (text sig : List ℕ) (s : Statement) → is_replica by ≡ true → statement_in (number_of_party by) text ≡ s
      → answer_to (keys_of w.setup) (record { by = by; text = text; sig = sig }) ≡ answers.Yes → IsSaid (texts_said w by) text → IsVouchedBy (seen R w) s by
  part_vouched (parties.Replica id) text sig s role reads signed said =
      let both = verified_said w id.0 text sig signed said in
      text_vouched id.0 text s both.0 both.1 reads
  part_vouched (parties.Client id) text sig s role reads signed said = absurd cc

  -- so is a replica's part
  pub part_honest : (part : Part) → is_replica part.by ≡ true → answer_to (keys_of w.setup) part ≡ answers.Yes → IsSaid (texts_said w part.by) part.text → IsHonestPart (seen R w) part
  part_honest part role signed said = by part.by role (part_vouched part.by part.text part.sig (statement_in (number_of_party part.by) part.text) role refl signed said)
    where
      by : (by : Party) → is_replica by ≡ true → IsVouchedBy (seen R w) (statement_in (number_of_party part.by) part.text) by → held.IsVouchedBy (seen R w) (statement_in (number_of_party part.by) part.text) by
      by (parties.Replica id) role is = is
      by (parties.Client id) role is = absurd cc
