-- A client that begins is ready.
use Rattle.std.proofs.Common.{◌≡◌, ℕ, zero, suc, ◌≤◌, ◌+◌, ◌^◌, List, length, replicate, Option, None, sym, ap, ◌∙◌, subst, arith}
use Rattle.std.specs.List.{AllByRecursion}
use Rattle.std.specs.Option.{ForSome}
use Rattle.std.proofs.lemmas.List.{length-replicate}
use Rattle.zy_seal.proofs.SignatureLemmas.{few_signatures}
use Rattle.zy_seal.specs.Sealing.{SealerState, left_of}
use Rattle.zy_table.specs.declared.client.Response.{Response}
use Rattle.zy_client.specs.Ready.{IsKeepable}

abbrev pub AreKept : List (Option Response) → Type 0
AreKept slots = AllByRecursion (λ slot. ForSome slot IsKeepable) slots

none_kept : (n : ℕ) → AreKept (replicate n None)
none_kept zero = tt
none_kept (suc n) = (λ x is. absurd cc, none_kept n)

pub starts_kept : (slots : List (Option Response)) (n : ℕ) → slots ≡ replicate n None → AreKept slots
starts_kept slots n none = subst AreKept (sym none) (none_kept n)

pub starts_long : (slots : List (Option Response)) (n : ℕ) → slots ≡ replicate n None → length slots ≡ n
starts_long slots n none = ap (λ (l : List (Option Response)). length l) none ∙ length-replicate {A = Option Response} n None

-- the stamps of all that its key may sign
pub stamps_fit : (stamp : ℕ) (sealer : SealerState) → stamp ≤ 2 ^ 61 → stamp + left_of sealer ≤ 2 ^ 61 + 2 ^ 20
stamps_fit stamp sealer low = let few = few_signatures sealer.key.height in omega (arith, low, few)
