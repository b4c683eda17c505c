-- A kind that is read stands behind the version, and one that stands there is read.
use Rattle.std.proofs.Common.{◌≡◌, ℕ, ◌≤◌, Bool, true, false, cond, eqb, ltb, ◌||◌, List, [], ◌∷◌, length, drop, Result, Ok, Err, refl, arith}
use Rattle.std.proofs.lemmas.Bool.{eqb-true, le-ltb}
use Rattle.std.proofs.lemmas.Bool.Decides.{nat_tests}
use Rattle.zy_base.specs.declared.frame_fault.FrameFault.{FrameFault}
use Rattle.zy_base.specs.declared.frame_fault.FrameFault.TheVariants.{Version, Kind, TooLong}
use Rattle.zy_wire.specs.Kind.{frame_version, frame_limit, greatest_kind, kind_in, kind_of_parts, kind_behind}
use Rattle.zy_wire.proofs.Parts.{ok_is}

if_ok : (b : Bool) (fault : FrameFault) (r : Result ℕ FrameFault) (k : ℕ) → cond b (Err fault) r ≡ Ok k → r ≡ Ok k
if_ok true fault r k e = absurd cc
if_ok false fault r k e = e

unless_ok : (b : Bool) (fault : FrameFault) (r : Result ℕ FrameFault) (k : ℕ) → cond b r (Err fault) ≡ Ok k → (b ≡ true) × (r ≡ Ok k)
unless_ok true fault r k e = (refl, e)
unless_ok false fault r k e = absurd cc

parts_take : (bytes : List ℕ) (k : ℕ) → kind_of_parts bytes ≡ Ok k → bytes ≡ frame_version ∷ k ∷ drop 2 bytes
parts_take [] k e = absurd cc
parts_take (version ∷ []) k e =
    let a = unless_ok (eqb version frame_version) Version (kind_behind []) k e in
    absurd cc
parts_take (version ∷ kind ∷ fields) k e =
    let a = unless_ok (eqb version frame_version) Version (kind_behind (kind ∷ fields)) k e in
    let b = if_ok (eqb kind 0 || ltb greatest_kind kind) Kind (Ok kind) k a.1 in
    let same : kind ≡ k = ok_is kind k b in
    let first : version ≡ frame_version = eqb-true version frame_version a.0 in
    rw (same, first) refl

pub kind_takes : (bytes : List ℕ) (k : ℕ) → kind_in bytes ≡ Ok k → bytes ≡ frame_version ∷ k ∷ drop 2 bytes
kind_takes bytes k e = parts_take bytes k (if_ok (ltb frame_limit (length bytes)) TooLong (kind_of_parts bytes) k e)

pub kind_again : (k : ℕ) (fields : List ℕ) → 1 ≤ k → k ≤ greatest_kind → length (frame_version ∷ k ∷ fields) ≤ frame_limit → kind_in (frame_version ∷ k ∷ fields) ≡ Ok k
kind_again k fields low high short =
    let a : ltb frame_limit (length (frame_version ∷ k ∷ fields)) ≡ false = le-ltb _ _ short in
    let b : eqb k 0 ≡ false = grind (arith, nat_tests) in
    let c : ltb greatest_kind k ≡ false = le-ltb _ _ high in
    rw (a, b, c) refl
