-- What tests on bytes and digests say.
use Rattle.std.proofs.Common.{◌≡◌, ℕ, true, List, refl, ap}
use Rattle.std.specs.Str.{bytes_eq}
use Rattle.std.proofs.lemmas.Slice.Eq.{bytes_eq-Decides}
use Rattle.zy_base.specs.declared.ids.Digest.{Digest}
use Rattle.zy_admit.specs.Judging.{same_digest}

pub same_bytes : (a b : List ℕ) → bytes_eq a b ≡ true → a ≡ b
same_bytes a b is = (bytes_eq-Decides a b).0 is

pub bytes_same : (a : List ℕ) → bytes_eq a a ≡ true
bytes_same a = (bytes_eq-Decides a a).1 refl

pub digest_is : (a b : Digest) → same_digest a b ≡ true → a ≡ b
digest_is a b is = let inner : a.0 ≡ b.0 = same_bytes a.0 b.0 is in ap (λ (l : List ℕ). record { 0 = l }) inner

pub digest_same : (a : Digest) → same_digest a a ≡ true
digest_same a = bytes_same a.0
