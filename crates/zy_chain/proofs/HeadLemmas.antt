-- The heads after each entry, by place.
use Rattle.std.proofs.Common.{◌≡◌, ℕ, zero, suc, ◌<◌, List, [], ◌∷◌, ◌++◌, length, take, drop, get_or, refl, ap, arith}
use Rattle.std.specs.List.{AllByRecursion}
use Rattle.zy_base.specs.declared.ids.Digest.{Digest}
use Rattle.zy_chain.specs.declared.entry.Entry.{Entry}
use Rattle.zy_chain.specs.Entries.{IsEntryInRange, digest_of_entry}
use Rattle.zy_chain.specs.Heads.{head_after, head_from}
use Rattle.zy_chain.specs.Stretch.{heads_from}

pub length-heads_from : (head : Digest) (entries : List Entry) → length (heads_from head entries) ≡ length entries
length-heads_from head [] = refl
length-heads_from head (e ∷ entries) = ap suc (length-heads_from (head_after head (digest_of_entry e)) entries)

-- the head after so many entries
pub get_or-heads_from : (head : Digest) (entries : List Entry) (i : ℕ) (d : Digest) → i < length entries
    → get_or (heads_from head entries) i d ≡ head_from head (take (suc i) entries)
get_or-heads_from head [] i d within = absurd (omega arith)
get_or-heads_from head (e ∷ entries) zero d within = refl
get_or-heads_from head (e ∷ entries) (suc i) d within = get_or-heads_from (head_after head (digest_of_entry e)) entries i d (omega arith)

pub heads_from-append : (head : Digest) (entries : List Entry) (e : Entry)
    → heads_from head (entries ++ e ∷ []) ≡ heads_from head entries ++ head_after (head_from head entries) (digest_of_entry e) ∷ []
heads_from-append head [] e = refl
heads_from-append head (first ∷ entries) e =
    ap (λ (heads : List Digest). head_after head (digest_of_entry first) ∷ heads) (heads_from-append (head_after head (digest_of_entry first)) entries e)

pub take-heads_from : (n : ℕ) (head : Digest) (entries : List Entry) → take n (heads_from head entries) ≡ heads_from head (take n entries)
take-heads_from zero head entries = refl
take-heads_from (suc n) head [] = refl
take-heads_from (suc n) head (e ∷ entries) =
    ap (λ (heads : List Digest). head_after head (digest_of_entry e) ∷ heads) (take-heads_from n (head_after head (digest_of_entry e)) entries)

pub drop-heads_from : (n : ℕ) (head : Digest) (entries : List Entry) → drop n (heads_from head entries) ≡ heads_from (head_from head (take n entries)) (drop n entries)
drop-heads_from zero head entries = refl
drop-heads_from (suc n) head [] = refl
drop-heads_from (suc n) head (e ∷ entries) = drop-heads_from n (head_after head (digest_of_entry e)) entries

pub in_range-append : (entries : List Entry) (e : Entry) → AllByRecursion IsEntryInRange entries → IsEntryInRange e → AllByRecursion IsEntryInRange (entries ++ e ∷ [])
in_range-append [] e all one = (one, tt)
in_range-append (first ∷ entries) e all one = (all.0, in_range-append entries e all.1 one)

pub in_range-take : (n : ℕ) (entries : List Entry) → AllByRecursion IsEntryInRange entries → AllByRecursion IsEntryInRange (take n entries)
in_range-take zero entries all = tt
in_range-take (suc n) [] all = tt
in_range-take (suc n) (e ∷ entries) all = (all.0, in_range-take n entries all.1)

pub in_range-drop : (n : ℕ) (entries : List Entry) → AllByRecursion IsEntryInRange entries → AllByRecursion IsEntryInRange (drop n entries)
in_range-drop zero entries all = all
in_range-drop (suc n) [] all = tt
in_range-drop (suc n) (e ∷ entries) all = in_range-drop n entries all.1

pub in_range_at : (entries : List Entry) (i : ℕ) (d : Entry) → i < length entries → AllByRecursion IsEntryInRange entries → IsEntryInRange (get_or entries i d)
in_range_at [] i d within all = absurd (omega arith)
in_range_at (e ∷ entries) zero d within all = all.0
in_range_at (e ∷ entries) (suc i) d within all = in_range_at entries i d (omega arith) all.1
