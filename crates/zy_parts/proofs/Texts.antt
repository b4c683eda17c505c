-- A signed text says who signed what: two texts that are one are of one number, one signer and one statement.
use Rattle.std.proofs.Common.{◌≡◌, ℕ, List, [], ◌++◌, ap}
use Rattle.zy_base.specs.declared.ids.Party.{Party}
use Rattle.zy_wire.specs.Spelling.{Spelling, IsExact}
use Rattle.zy_wire.specs.Fields.{party, party_bytes, IsParty}
use Rattle.zy_wire.proofs.Parts.{one_spelling}
use Rattle.zy_wire.proofs.Laws.{party-exact}
use Rattle.zy_parts.specs.Signing.{text_of}

module _ {S T : Type 0} (fields : Spelling S) (others : Spelling T) where
  -- of two kinds of statements: the number and the signer
  pub one_signer : (n m : ℕ) (by from : Party) (x : S) (y : T) → IsParty by → IsParty from → text_of n fields by x ≡ text_of m others from y → (n ≡ m) × (by ≡ from) × (fields.spell x ≡ others.spell y)
  unfolding text_of
  one_signer n m by from x y by_fits from_fits e =
      let number : n ≡ m = cc in
      let behind : party_bytes by ++ fields.spell x ≡ party_bytes from ++ others.spell y = cc in
      let both = one_spelling party party-exact by from (fields.spell x) (others.spell y) by_fits from_fits behind in
      (number, both.0, both.1)

module _ {S : Type 0} (fields : Spelling S) (exact : IsExact fields) where
  -- of one kind of statement: the statement too
  pub one_statement : (n : ℕ) (by from : Party) (x y : S) → IsParty by → IsParty from → fields.Fits x → fields.Fits y → text_of n fields by x ≡ text_of n fields from y → (by ≡ from) × (x ≡ y)
  one_statement n by from x y by_fits from_fits x_fits y_fits e =
      let same = one_signer fields fields n n by from x y by_fits from_fits e in
      let whole = ap (λ (b : List ℕ). b ++ []) same.2 in
      (same.1, (one_spelling fields exact x y [] [] x_fits y_fits whole).0)
