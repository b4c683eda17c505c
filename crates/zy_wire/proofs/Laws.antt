-- The laws of the fields that statements and frames are made of.
use Rattle.std.proofs.Common.{◌≡◌, ℕ, zero, suc, ◌+◌, ◌*◌, ◌^◌, ◌<◌, Bool, true, false, cond, ltb, List, ◌++◌, length, Option, Some, None, Ok, refl, sym, ap, subst, ◌∙◌, append_assoc, arith}
use Rattle.std.specs.Int.{Width, w8, w16, w32, w64, byte_len}
use Rattle.std.proofs.lemmas.Bool.{ltb-true}
use Rattle.std.proofs.lemmas.List.Elements.{All-from_recursion, recursion_from_All}
use Rattle.std.proofs.lemmas.Bool.Decides.{nat_tests}
use Rattle.zy_base.specs.declared.ids.Digest.{Digest}
use Rattle.zy_base.specs.declared.ids.Party.{Party}
use Rattle.zy_base.specs.declared.ids.Party.TheVariants.{Replica, Client}
use Rattle.zy_wire.specs.Spelling.{Spelling, IsBytes, IsExact, bytes_of, word, exactly, pair, number_at, repeated}
use Rattle.zy_wire.specs.Fields.{u62, digest, digest_at, party, party_of, party_fields, party_bytes, party_at, IsParty, sized, bytes_at, list, list_at, list_bytes, optional, optional_at, optional_bytes, flagged_at, FitsOptional, FitsList}
use Rattle.zy_wire.proofs.Parts.{IsBytes-after, bind_ok, bind_at, ok_is, IsWide, wide8, wide16, wide32, wide64, exactly-exact, word-exact, pair-exact, converted-exact, refined-exact, number-exact, counted-exact, repeated-exact}

pub u62-exact : (least : ℕ) → IsExact (u62 least)
u62-exact least = number-exact w64 least (2 ^ 62) wide64 (omega arith)

pub digest-exact : IsExact digest
unfolding digest_at
digest-exact =
    let s = converted-exact (λ xs. let d : Digest = record { 0 = xs } in d) (λ d. d.0) (exactly 32) (exactly-exact 32) (λ d. refl) (λ xs. refl) in
    record { takes = s.takes; again = s.again }

party_valid : (p : Party) → IsParty p → (pair (word w8) (word w32)).Fits (party_fields p) × (party_of (party_fields p) ≡ Some p)
party_valid (Replica id) h = ((omega arith, omega arith), grind (arith, nat_tests))
party_valid (Client id) h = ((omega arith, h), refl)

replica_only : (b : Bool) (n : ℕ) (p : Party) → ltb n 256 ≡ b → cond b (Some (Replica (record { 0 = n }))) None ≡ Some p → (party_fields p ≡ (0, n)) × IsParty p
replica_only true n p small e =
    let same : Replica (record { 0 = n }) ≡ p = cc in
    subst (λ (q : Party). (party_fields q ≡ (0, n)) × IsParty q) same (refl, ltb-true _ _ small)
replica_only false n p small e = absurd cc

party_only : (x : ℕ × ℕ) (p : Party) → (pair (word w8) (word w32)).Fits x → party_of x ≡ Some p → (party_fields p ≡ x) × IsParty p
party_only (zero, n) p fits e = replica_only (ltb n 256) n p refl e
party_only (suc zero, n) p fits e =
    let same : Client (record { 0 = n }) ≡ p = cc in
    subst (λ (q : Party). (party_fields q ≡ (1, n)) × IsParty q) same (refl, fits.1)
party_only (suc (suc k), n) p fits e = absurd cc

pub party-exact : IsExact party
unfolding party_at party_bytes
party-exact =
    let s = refined-exact party_of party_fields IsParty (pair (word w8) (word w32)) (pair-exact (word w8) (word w32) (word-exact w8 wide8) (word-exact w32 wide32)) party_valid party_only in
    record { takes = s.takes; again = s.again }

module _ (w : Width) (max : ℕ) (wide : IsWide w) (small : max < 2 ^ (8 * byte_len w)) where
  pub sized-exact : IsExact (sized w max)
  unfolding bytes_at
  sized-exact =
      let s = counted-exact w 0 (max + 1) exactly length wide (omega (arith, small)) exactly-exact (λ n x fits. fits) in
      record {
        takes = λ bytes x rest fits e. let t = s.takes bytes x rest fits e in (t.0, omega (arith, t.1.1));
        again = λ x rest fits. s.again x rest (omega arith, omega (arith, fits), refl);
      }

module _ {A : Type 0} (min max : ℕ) (S : Spelling A) (s : IsExact S) (small : max < 2 ^ 16) where
  pub list-exact : IsExact (list min max S)
  unfolding list_at list_bytes
  list-exact =
      let c = counted-exact w16 min (max + 1) (repeated S) length wide16 (omega (arith, small)) (repeated-exact S s) (λ n xs fits. fits.0) in
      record {
        takes = λ bytes xs rest fits e. let t = c.takes bytes xs rest fits e in (t.0, record { least = t.1.0; most = omega (arith, t.1.1); each = All-from_recursion _ xs t.1.2.1 });
        again = λ xs rest fits. c.again xs rest (fits.least, omega (arith, fits.most), (refl, recursion_from_All _ xs fits.each));
      }

module _ {A : Type 0} (S : Spelling A) (s : IsExact S) where
  flagged_takes : (n : ℕ) (bytes : List ℕ) (o : Option A) (rest : List ℕ) → n < 2 → IsBytes bytes → flagged_at S n bytes ≡ Ok (o, rest) → (bytes_of w8 n ++ bytes ≡ optional_bytes S.spell o ++ rest) × FitsOptional S.Fits o
  unfolding optional_bytes
  flagged_takes zero bytes o rest small fits e =
      subst (λ (p : Option A × List ℕ). (bytes_of w8 0 ++ bytes ≡ optional_bytes S.spell p.0 ++ p.1) × FitsOptional S.Fits p.0) (ok_is (None, bytes) (o, rest) e) (refl, tt)
  flagged_takes (suc zero) bytes o rest small fits e =
      let a = bind_ok (S.at bytes) (λ x. Ok (Some x.0, x.1)) (o, rest) e in
      let first = s.takes bytes a.0.0 a.0.1 fits a.1 in
      let parts : bytes_of w8 1 ++ bytes ≡ (bytes_of w8 1 ++ S.spell a.0.0) ++ a.0.1 = ap (λ (r : List ℕ). bytes_of w8 1 ++ r) first.0 ∙ sym (append_assoc (bytes_of w8 1) (S.spell a.0.0) a.0.1) in
      subst (λ (p : Option A × List ℕ). (bytes_of w8 1 ++ bytes ≡ optional_bytes S.spell p.0 ++ p.1) × FitsOptional S.Fits p.0) (ok_is _ _ a.2) (parts, first.1)
  flagged_takes (suc (suc n)) bytes o rest small fits e = absurd (omega arith)

  optional_takes : (bytes : List ℕ) (o : Option A) (rest : List ℕ) → IsBytes bytes → optional_at S bytes ≡ Ok (o, rest) → (bytes ≡ optional_bytes S.spell o ++ rest) × FitsOptional S.Fits o
  unfolding optional_at
  optional_takes bytes o rest fits e =
      let a = bind_ok (number_at w8 0 2 bytes) (λ n. flagged_at S n.0 n.1) (o, rest) e in
      let first = (number-exact w8 0 2 wide8 (omega arith)).takes bytes a.0.0 a.0.1 fits a.1 in
      let second = flagged_takes a.0.0 a.0.1 o rest first.1.1 (IsBytes-after bytes (bytes_of w8 a.0.0) a.0.1 fits first.0) a.2 in
      (first.0 ∙ second.0, second.1)

  optional_again : (o : Option A) (rest : List ℕ) → FitsOptional S.Fits o → optional_at S (optional_bytes S.spell o ++ rest) ≡ Ok (o, rest)
  unfolding optional_at optional_bytes
  optional_again None rest fits =
      bind_at (number_at w8 0 2 (bytes_of w8 0 ++ rest)) (λ n. flagged_at S n.0 n.1) _ ((number-exact w8 0 2 wide8 (omega arith)).again 0 rest (omega arith, omega arith))
  optional_again (Some x) rest fits =
      ap (optional_at S) (append_assoc (bytes_of w8 1) (S.spell x) rest)
      ∙ bind_at (number_at w8 0 2 (bytes_of w8 1 ++ (S.spell x ++ rest))) (λ n. flagged_at S n.0 n.1) _ ((number-exact w8 0 2 wide8 (omega arith)).again 1 (S.spell x ++ rest) (omega arith, omega arith))
      ∙ bind_at (S.at (S.spell x ++ rest)) (λ y. Ok (Some y.0, y.1)) _ (s.again x rest fits)

  pub optional-exact : IsExact (optional S)
  optional-exact = record { takes = optional_takes; again = optional_again }

-- ---- what is weaker than having a spelling

module _ {A : Type 0} (P Q : A → Type 0) (weaker : (x : A) → P x → Q x) where
  pub FitsList-weaker : (min max : ℕ) (xs : List A) → FitsList P min max xs → FitsList Q min max xs
  FitsList-weaker min max xs h = record { least = h.least; most = h.most; each = λ k d small. weaker _ (h.each k d small) }

  pub FitsOptional-weaker : (o : Option A) → FitsOptional P o → FitsOptional Q o
  FitsOptional-weaker None h = tt
  FitsOptional-weaker (Some x) h = weaker x h
