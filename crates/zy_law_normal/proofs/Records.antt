-- What is known of a client after a history is its last entry there.
use Rattle.std.proofs.Common.{◌≡◌, ◌≢◌, ℕ, zero, suc, ◌+◌, ◌-◌, ◌<◌, ◌≤◌, inl, inr, List, [], ◌∷◌, ◌++◌, length, take, get_or, set, replicate, Option, Some, None, refl, sym, ap, ◌∙◌, subst, arith}
use Rattle.std.specs.Prelude.{slice_get, option_map}
use Rattle.std.specs.List.{AllByRecursion}
use Rattle.std.proofs.lemmas.List.{length-append, length-replicate, get_or-set_same, get_or-set_other, take-append-le, take_all}
use Rattle.std.proofs.lemmas.List.Sums.{fold-append}
use Rattle.std.proofs.lemmas.Bool.{cases_eq, cases_lt}
use Rattle.std.proofs.lemmas.Option.{same_Some}
use Rattle.zy_base.specs.Machine.{Rules}
use Rattle.zy_base.specs.declared.ids.Digest.{Digest}
use Rattle.zy_chain.specs.declared.entry.Entry.{Entry}
use Rattle.zy_chain.specs.Entries.{digest_of_entry, IsOfClients}
use Rattle.zy_chain.specs.Heads.{head_after, head_of, empty_head}
use Rattle.zy_exec.specs.declared.known.Known.{Known}
use Rattle.zy_exec.specs.Replay.{Point, origin, known_of, along, answer_at, answers_of}
use Rattle.zy_exec.proofs.ReplayLemmas.{by_last, along-append, along-nil, place-along, head-along, length-known-along, clients_pop}
use Rattle.zy_law.specs.Histories.{IsEntryAt}
use Rattle.zy_law.proofs.EntriesAskedFor.{entry_within, entry_longer, entry_shorter}

-- ---- the reply to an entry of a longer history

entry_of_front : {A : Type 0} (xs ys : List A) (i : ℕ) → i < length xs → slice_get (xs ++ ys) i ≡ slice_get xs i
entry_of_front [] ys i within = absurd (omega arith)
entry_of_front (x ∷ xs) ys zero within = refl
entry_of_front (x ∷ xs) ys (suc i) within = entry_of_front xs ys i (omega arith)

pub entry_pushed : {A : Type 0} (xs : List A) (x : A) → slice_get (xs ++ x ∷ []) (length xs) ≡ Some x
entry_pushed [] x = refl
entry_pushed (y ∷ xs) x = entry_pushed xs x

pub answer_longer : {S : Type 0} (R : Rules S) (xs ys : List Entry) (place : ℕ) → place ≤ length xs → answer_at R (xs ++ ys) place ≡ answer_at R xs place
answer_longer R xs ys zero within = refl
answer_longer {S} R xs ys (suc before) within =
    ap (λ (es : List Entry). option_map (λ (e : Entry). answers_of R (along R (origin R) es).state e) (slice_get (xs ++ ys) before)) (take-append-le before xs ys (omega arith))
    ∙ ap (λ (o : Option Entry). option_map (λ (e : Entry). answers_of R (along R (origin R) (take before xs)).state e) o) (entry_of_front xs ys before (omega arith))

pub answer_pushed : {S : Type 0} (R : Rules S) (xs : List Entry) (e : Entry) → answer_at R (xs ++ e ∷ []) (suc (length xs)) ≡ Some (answers_of R (along R (origin R) xs).state e)
answer_pushed {S} R xs e =
    ap (λ (o : Option Entry). option_map (λ (d : Entry). answers_of R (along R (origin R) (take (length xs) (xs ++ e ∷ []))).state d) o) (entry_pushed xs e)
    ∙ ap (λ (es : List Entry). Some (answers_of R (along R (origin R) es).state e)) (take-append-le (length xs) xs (e ∷ []) (omega arith) ∙ take_all (length xs) xs (omega arith))

-- ---- the entry at a place of a longer history

pub entry_last : (h : List Entry) (e : Entry) (place : ℕ) (d : Entry) → length h < place → IsEntryAt (h ++ e ∷ []) place d → (place ≡ length h + 1) × (e ≡ d)
entry_last h e place d past at =
    let inside = entry_within (h ++ e ∷ []) place d at in
    let is : place ≡ length h + 1 = omega (arith, length-append h (e ∷ [])) in
    let before : place - 1 ≡ length h = omega arith in
    (is, same_Some e d (sym (entry_pushed h e) ∙ ap (λ (i : ℕ). slice_get (h ++ e ∷ []) i) (sym before) ∙ at.there))

pub entry_before : (h : List Entry) (e : Entry) (place : ℕ) (d : Entry) → place ≤ length h → IsEntryAt (h ++ e ∷ []) place d → IsEntryAt h place d
entry_before h e place d within at = entry_shorter h (h ++ e ∷ []) place d (e ∷ [], refl) within at

-- ---- the last entry of a client

pub record IsLastOf {S : Type 0} (R : Rules S) (h : List Entry) (client : ℕ) (k : Known) : Type 0 where
  pub entry : Entry
  pub there : IsEntryAt h k.place.0 entry
  pub client_is : entry.client.0 ≡ client
  pub stamp : entry.stamp ≡ k.stamp
  pub head : head_of (take k.place.0 h) ≡ k.head
  pub reply : answer_at R h k.place.0 ≡ Some k.reply
  pub last : (later : ℕ) (d : Entry) → k.place.0 < later → IsEntryAt h later d → d.client.0 ≡ client → ⊥

abbrev pub IsRecord : {S : Type 0} → Rules S → List Entry → ℕ → Option Known → Type 0
IsRecord R h client None = (place : ℕ) (d : Entry) → IsEntryAt h place d → d.client.0 ≡ client → ⊥
IsRecord R h client (Some k) = IsLastOf R h client k

-- the entry that was run last is its client's last one
pub last_of_next : {S : Type 0} (R : Rules S) (h : List Entry) (e : Entry) → IsLastOf R (h ++ e ∷ []) e.client.0 (known_of R (along R (origin R) h) e)
last_of_next {S} R h e =
    let place : (along R (origin R) h).place ≡ length h = omega (arith, place-along R (origin R) h) in
    let all : length (h ++ e ∷ []) ≡ (along R (origin R) h).place + 1 = omega (arith, length-append h (e ∷ [])) in
    let before : (along R (origin R) h).place + 1 - 1 ≡ length h = omega arith in
    let after : (along R (origin R) h).place + 1 ≡ suc (length h) = omega arith in
    record {
      entry = e;
      there = record { first = omega arith; there = ap (λ (i : ℕ). slice_get (h ++ e ∷ []) i) before ∙ entry_pushed h e };
      client_is = refl;
      stamp = refl;
      head = ap head_of (take_all ((along R (origin R) h).place + 1) (h ++ e ∷ []) (omega arith))
          ∙ fold-append (λ (head : Digest) (d : Entry). head_after head (digest_of_entry d)) empty_head h (e ∷ [])
          ∙ ap (λ (d : Digest). head_after d (digest_of_entry e)) (sym (head-along R (origin R) h));
      reply = ap (answer_at R (h ++ e ∷ [])) after ∙ answer_pushed R h e;
      last = λ later d past at same. absurd (omega (arith, entry_within (h ++ e ∷ []) later d at));
    }

record_longer : {S : Type 0} (R : Rules S) (h : List Entry) (e : Entry) (client : ℕ) (o : Option Known) → e.client.0 ≢ client → IsRecord R h client o → IsRecord R (h ++ e ∷ []) client o
record_longer R h e client None other is = λ place d at same.
    elim (cases_lt (length h) place) [
      | inr within ↦ is place d (entry_before h e place d within at) same
      | inl past ↦ other (ap (λ (x : Entry). x.client.0) (entry_last h e place d past at).1 ∙ same)
    ]
record_longer R h e client (Some k) other is =
    let within = entry_within h k.place.0 is.entry is.there in
    record {
      entry = is.entry;
      there = entry_longer h (h ++ e ∷ []) k.place.0 is.entry (e ∷ [], refl) is.there;
      client_is = is.client_is;
      stamp = is.stamp;
      head = ap head_of (take-append-le k.place.0 h (e ∷ []) within) ∙ is.head;
      reply = answer_longer R h (e ∷ []) k.place.0 within ∙ is.reply;
      last = λ later d past at same.
          elim (cases_lt (length h) later) [
            | inr inside ↦ is.last later d past (entry_before h e later d inside at) same
            | inl above ↦ other (ap (λ (x : Entry). x.client.0) (entry_last h e later d above at).1 ∙ same)
          ];
    }

abbrev pub known_after : {S : Type 0} → Rules S → List Entry → ℕ → Option Known
known_after R h client = get_or (along R (origin R) h).known client None

none_long : (n : ℕ) (none : Option Known) → length (replicate n none) ≡ n
none_long n none = length-replicate n none

record_next : {S : Type 0} (R : Rules S) (h : List Entry) (e : Entry) (client : ℕ) → IsOfClients e → IsRecord R h client (known_after R h client)
    → IsRecord R (h ++ e ∷ []) client (known_after R (h ++ e ∷ []) client)
record_next {S} R h e client small is =
    let p = along R (origin R) h in
    let long : length p.known ≡ 64 = length-known-along R (origin R) h ∙ none_long 64 None in
    let after : known_after R (h ++ e ∷ []) client ≡ get_or (set p.known e.client.0 (Some (known_of R p e))) client None =
    ap (λ (q : Point S). get_or q.known client None) (along-append R (origin R) h e) in
    subst (λ (o : Option Known). IsRecord R (h ++ e ∷ []) client o) (sym after)
    (elim (cases_eq e.client.0 client) [
      | inl same ↦ subst (λ (c : ℕ). IsRecord R (h ++ e ∷ []) c (get_or (set p.known e.client.0 (Some (known_of R p e))) c None)) same
          (subst (λ (o : Option Known). IsRecord R (h ++ e ∷ []) e.client.0 o) (sym (get_or-set_same p.known e.client.0 (Some (known_of R p e)) None (omega arith))) (last_of_next R h e))
      | inr other ↦ subst (λ (o : Option Known). IsRecord R (h ++ e ∷ []) client o)
          (sym (get_or-set_other p.known e.client.0 client (Some (known_of R p e)) None (λ same. other (sym same)))) (record_longer R h e client (known_after R h client) other is)
    ])

pub none_of : {A : Type 0} (n i : ℕ) → ◌≡◌ {A = Option A} (get_or (replicate n None) i None) None
none_of zero i = refl
none_of (suc n) zero = refl
none_of (suc n) (suc i) = none_of n i

record_start : {S : Type 0} (R : Rules S) (client : ℕ) → IsRecord R [] client (known_after R [] client)
record_start {S} R client =
    subst (λ (o : Option Known). IsRecord R [] client o)
    (sym (ap (λ (q : Point S). get_or q.known client None) (along-nil R (origin R)) ∙ none_of 64 client))
    (λ place d at same. let within = entry_within [] place d at in let first = at.first in absurd (omega arith))

-- what is known of each client after a history is its last entry
pub records : {S : Type 0} (R : Rules S) (client : ℕ) (h : List Entry) → AllByRecursion IsOfClients h → IsRecord R h client (known_after R h client)
records R client =
    by_last (λ h. AllByRecursion IsOfClients h → IsRecord R h client (known_after R h client))
    (λ all. record_start R client)
    (λ h e before all. let parts = clients_pop h e all in record_next R h e client parts.1 (before parts.0))
