-- Those that proved a checkpoint are asked for its snapshot, by their numbers.
use Rattle.std.proofs.Common.{◌≡◌, ℕ, suc, nat_eq, Bool, true, false, if◌then◌else◌, List, [], ◌∷◌, ◌++◌, map, filter, refl, ap, ◌∙◌}
use Rattle.std.specs.List.{AllByRecursion}
use Rattle.std.proofs.lemmas.List.Elements.{filter-append}
use Rattle.zy_base.specs.declared.ids.Party.{Party}
use Rattle.zy_parts.specs.declared.signed.Signed.{Signed}
use Rattle.zy_parts.specs.declared.statements.Check.{Check}
use Rattle.zy_parts.specs.declared.reports.Fetch.{Fetch}
use Rattle.zy_parts.specs.Reports.{IsFetchInRange}
use Rattle.zy_parts.specs.Signing.{IsSignedInRange}
use Rattle.zy_cert.specs.Signers.{has_signer}
use Rattle.zy_table.specs.Beginning.{fetch_to}
use Rattle.zy_table.specs.Deeds.{others}
use Rattle.zy_table.specs.Sending.{CanBeSent}
use Rattle.zy_table.specs.declared.deeds.Sent.{Sent}
use Rattle.zy_replica_state.proofs.OthersLemmas.{name, kept, others_next}

abbrev pub asked_below : List (Signed Check) → ℕ → ℕ → List Party
asked_below proof me n = filter (λ by. has_signer by proof) (others me n)

one : (proof : List (Signed Check)) (n : ℕ) (b signs : Bool) → has_signer (name n) proof ≡ signs → filter (λ by. has_signer by proof) (kept b n) ≡ (if b then [] else (if signs then name n ∷ [] else []))
one proof n true signs is = refl
one proof n false true is = rw is refl
one proof n false false is = rw is refl

pub asked_next : (proof : List (Signed Check)) (me n : ℕ)
    → asked_below proof me (suc n) ≡ asked_below proof me n ++ (if nat_eq n me then [] else (if has_signer (name n) proof then name n ∷ [] else []))
asked_next proof me n =
    let p = λ (by : Party). has_signer by proof in
    ap (filter p) (others_next me n (nat_eq n me) refl)
    ∙ filter-append p (others me n) (kept (nat_eq n me) n)
    ∙ ap (λ (xs : List Party). asked_below proof me n ++ xs) (one proof n (nat_eq n me) (has_signer (name n) proof) refl)

abbrev can_be_sent : Sent → Type 0
can_be_sent one = CanBeSent one.frame

-- what is sent already, and a fetch to each of these
pub fetched_too : (said : Signed Fetch) → IsSignedInRange IsFetchInRange said → (sent : List Sent) (parties : List Party) → AllByRecursion can_be_sent sent → AllByRecursion can_be_sent (sent ++ map (fetch_to said) parties)
fetched_too said range [] [] all = all
fetched_too said range [] (by ∷ parties) all = ((range, cc), fetched_too said range [] parties all)
fetched_too said range (one ∷ sent) parties all = (all.0, fetched_too said range sent parties all.1)
