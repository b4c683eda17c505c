-- Replay by one entry more, and what is kept of each entry.
use Rattle.std.proofs.Common.{◌≡◌, ℕ, zero, suc, ◌+◌, ◌-◌, ◌^◌, ◌<◌, ◌≤◌, leb, inl, inr, List, [], ◌∷◌, ◌++◌, length, take, get_or, set, replicate, Option, Some, None, refl, sym, ap, ◌∙◌, subst, arith, append_assoc, append-nil}
use Rattle.std.specs.Prelude.{slice_get, option_map}
use Rattle.std.specs.List.{AllByRecursion}
use Rattle.std.proofs.lemmas.List.{take_at, length-append, length-set, length-replicate, set-set, set-get_or, get_or-set_same, get_or-set_other, same_from_push}
use Rattle.std.proofs.lemmas.List.Sums.{fold-append}
use Rattle.std.proofs.lemmas.Bool.{cases_eq, cases_Bool, le-leb, lt-leb, leb-false}
use Rattle.std.proofs.lemmas.Option.{same_Some}
use Rattle.zy_base.specs.Machine.{Rules}
use Rattle.zy_base.specs.declared.ids.Digest.{Digest}
use Rattle.zy_base.specs.declared.ids.Place.{Place}
use Rattle.zy_chain.specs.declared.entry.Entry.{Entry}
use Rattle.zy_chain.specs.Entries.{digest_of_entry, IsOfClients}
use Rattle.zy_chain.specs.Heads.{head_after, head_from}
use Rattle.zy_chain.specs.Stretch.{Stretch, end_of, with_entry, up_to}
use Rattle.zy_exec.specs.declared.known.Known.{Known}
use Rattle.zy_exec.specs.declared.known.Done.{Done}
use Rattle.zy_exec.specs.Known.{IsKnownInRange}
use Rattle.zy_exec.specs.Replay.{Point, known_of, step, along, answers_of, state_after}
use Rattle.zy_exec.specs.Kept.{Kept, reply_in}
use Rattle.zy_exec.specs.Trail.{base_of, oldest_state, states_from, placed, last_from, done_from, known_at, IsPopped, IsDoneInRange, IsBaseInRange, IsBefore, IsReplayed}
use Rattle.zy_chain.specs.Answers.{FitsAnswers}

-- what holds of no entries, and with one entry more, holds of all lists
pub by_last : (P : List Entry → Type 0) → P [] → ((entries : List Entry) (e : Entry) → P entries → P (entries ++ e ∷ [])) → (entries : List Entry) → P entries
by_last P none more entries = go [] entries none
  where
    go : (front back : List Entry) → P front → P (front ++ back)
    go front [] holds = subst P (sym (append-nil front)) holds
    go front (e ∷ back) holds = subst P (append_assoc front (e ∷ []) back) (go (front ++ e ∷ []) back (more front e holds))

pub along-append : {S : Type 0} (R : Rules S) (p : Point S) (entries : List Entry) (e : Entry) → along R p (entries ++ e ∷ []) ≡ step R (along R p entries) e
unfolding along
along-append R p entries e = fold-append (step R) p entries (e ∷ [])

pub along-cons : {S : Type 0} (R : Rules S) (p : Point S) (e : Entry) (entries : List Entry) → along R p (e ∷ entries) ≡ along R (step R p e) entries
unfolding along
along-cons R p e entries = refl

pub along-nil : {S : Type 0} (R : Rules S) (p : Point S) → along R p [] ≡ p
unfolding along
along-nil R p = refl

pub place-along : {S : Type 0} (R : Rules S) (p : Point S) (entries : List Entry) → (along R p entries).place ≡ p.place + length entries
unfolding along
place-along R p [] = omega arith
place-along R p (e ∷ entries) = let rest = place-along R (step R p e) entries in omega arith

pub head-along : {S : Type 0} (R : Rules S) (p : Point S) (entries : List Entry) → (along R p entries).head ≡ head_from p.head entries
unfolding along
head-along R p [] = refl
head-along R p (e ∷ entries) = head-along R (step R p e) entries

pub length-known-along : {S : Type 0} (R : Rules S) (p : Point S) (entries : List Entry) → length (along R p entries).known ≡ length p.known
unfolding along
length-known-along R p [] = refl
length-known-along R p (e ∷ entries) = length-known-along R (step R p e) entries ∙ length-set p.known e.client.0 (Some (known_of R p e))

pub states-append : {S : Type 0} (R : Rules S) (p : Point S) (entries : List Entry) (e : Entry)
    → states_from R p (entries ++ e ∷ []) ≡ states_from R p entries ++ (along R p entries).state ∷ []
unfolding along
states-append R p [] e = refl
states-append {S} R p (first ∷ entries) e = ap (λ (states : List S). p.state ∷ states) (states-append R (step R p first) entries e)

pub length-states : {S : Type 0} (R : Rules S) (p : Point S) (entries : List Entry) → length (states_from R p entries) ≡ length entries
length-states R p [] = refl
length-states R p (e ∷ entries) = ap suc (length-states R (step R p e) entries)

pub oldest-append : {S : Type 0} (states : List S) (state next : S) → oldest_state (states ++ state ∷ []) next ≡ oldest_state states state
oldest-append [] state next = refl
oldest-append (first ∷ states) state next = refl

pub last-append : (place : ℕ) (last : List (Option Place)) (entries : List Entry) (e : Entry)
    → last_from place last (entries ++ e ∷ []) ≡ placed (last_from place last entries) e (place + length entries + 1)
last-append place last [] e = ap (placed last e) (omega arith)
last-append place last (first ∷ entries) e =
    last-append (place + 1) (placed last first (place + 1)) entries e ∙ ap (placed (last_from (place + 1) (placed last first (place + 1)) entries) e) (omega arith)

pub length-last : (place : ℕ) (last : List (Option Place)) (entries : List Entry) → length (last_from place last entries) ≡ length last
length-last place last [] = refl
length-last place last (e ∷ entries) =
    length-last (place + 1) (placed last e (place + 1)) entries ∙ length-set last e.client.0 (Some (record { 0 = place + 1 }))

-- what is kept of one entry more
abbrev pub done_next : {S : Type 0} → Rules S → Point S → List (Option Place) → List Entry → Entry → Done
done_next R p last entries e = record {
  client = e.client;
  known = known_of R (along R p entries) e;
  earlier = get_or (last_from p.place last entries) e.client.0 None;
}

pub done-append : {S : Type 0} (R : Rules S) (p : Point S) (last : List (Option Place)) (entries : List Entry) (e : Entry)
    → done_from R p last (entries ++ e ∷ []) ≡ done_from R p last entries ++ done_next R p last entries e ∷ []
unfolding along
done-append R p last [] e = refl
done-append R p last (first ∷ entries) e =
    ap (λ (done : List Done). record { client = first.client; known = known_of R p first; earlier = get_or last first.client.0 None } ∷ done)
    (done-append R (step R p first) (placed last first (p.place + 1)) entries e)

pub length-done : {S : Type 0} (R : Rules S) (p : Point S) (last : List (Option Place)) (entries : List Entry) → length (done_from R p last entries) ≡ length entries
length-done R p last [] = refl
length-done R p last (e ∷ entries) = ap suc (length-done R (step R p e) (placed last e (p.place + 1)) entries)

pub in_range_push : (done : List Done) (d : Done) → AllByRecursion IsDoneInRange done → IsDoneInRange d → AllByRecursion IsDoneInRange (done ++ d ∷ [])
in_range_push [] d all one = (one, tt)
in_range_push (first ∷ done) d all one = (all.0, in_range_push done d all.1 one)

pub in_range_pop : (done : List Done) (d : Done) → AllByRecursion IsDoneInRange (done ++ d ∷ []) → AllByRecursion IsDoneInRange done
in_range_pop [] d all = tt
in_range_pop (first ∷ done) d all = (all.0, in_range_pop done d all.1)

pub clients_push : (entries : List Entry) (e : Entry) → AllByRecursion IsOfClients entries → IsOfClients e → AllByRecursion IsOfClients (entries ++ e ∷ [])
clients_push [] e all one = (one, tt)
clients_push (first ∷ entries) e all one = (all.0, clients_push entries e all.1 one)

pub clients_pop : (entries : List Entry) (e : Entry) → AllByRecursion IsOfClients (entries ++ e ∷ []) → AllByRecursion IsOfClients entries × IsOfClients e
clients_pop [] e all = (tt, all.0)
clients_pop (first ∷ entries) e all = let rest = clients_pop entries e all.1 in ((all.0, rest.0), rest.1)

-- ---- one entry on, one back

pub replayed_on : {S : Type 0} (R : Rules S) (base : Point S) (entries : List Entry) (state : S) (trail : List S) (done : List Done) (last : List (Option Place)) (e : Entry) (known : Known)
    → IsReplayed R base entries state trail done last → IsOfClients e → known ≡ known_of R (along R base entries) e → IsKnownInRange known
    → IsReplayed R base (entries ++ e ∷ []) (state_after R state e) (trail ++ state ∷ [])
    (done ++ record { client = e.client; known = known; earlier = get_or last e.client.0 None } ∷ []) (set last e.client.0 (Some known.place))
replayed_on {S} R base entries state trail done last e known was client known_is in_range =
    let here = along R base entries in
    record {
      state_is = ap (λ (s : S). state_after R s e) was.state_is ∙ sym (ap (λ (p : Point S). p.state) (along-append R base entries e));
      trail_is = ap (λ (s : S). trail ++ s ∷ []) was.state_is ∙ ap (λ (t : List S). t ++ here.state ∷ []) was.trail_is ∙ sym (states-append R base entries e);
      before = was.before;
      is_before = was.is_before;
      done_is = rw (known_is, was.last_is, was.done_is) (sym (done-append R base was.before entries e));
      last_is = rw (known_is, was.last_is, place-along R base entries) (sym (last-append base.place was.before entries e));
      clients = clients_push entries e was.clients client;
      all_clients = was.all_clients;
      in_range = in_range_push done _ was.in_range (client, in_range);
      base_in_range = was.base_in_range;
    }

pub replayed_back : {S : Type 0} (R : Rules S) (base : Point S) (entries : List Entry) (e : Entry) (state state' : S) (trail trail' : List S) (done done' : List Done) (last last' : List (Option Place))
    → IsReplayed R base (entries ++ e ∷ []) state trail done last → trail ≡ trail' ++ state' ∷ [] → IsPopped done done' last last'
    → IsReplayed R base entries state' trail' done' last'
replayed_back {S} R base entries e state state' trail trail' done done' last last' was back pop =
    let trails = same_from_push trail' (states_from R base entries) state' (along R base entries).state (sym back ∙ was.trail_is ∙ states-append R base entries e) in
    let dones = same_from_push done' (done_from R base was.before entries) pop.popped (done_next R base was.before entries e) (sym pop.done_was ∙ was.done_is ∙ done-append R base was.before entries e) in
    let before = last_from base.place was.before entries in
    let placed_at : Option Place = Some (record { 0 = base.place + length entries + 1 }) in
    record {
      state_is = trails.1;
      trail_is = trails.0;
      before = was.before;
      is_before = was.is_before;
      done_is = dones.0;
      last_is = pop.last_now
          ∙ ap (λ (d : Done). set last d.client.0 d.earlier) dones.1
          ∙ ap (λ (l : List (Option Place)). set l e.client.0 (get_or before e.client.0 None)) (was.last_is ∙ last-append base.place was.before entries e)
          ∙ set-set before e.client.0 placed_at (get_or before e.client.0 None)
          ∙ set-get_or before e.client.0 None;
      clients = (clients_pop entries e was.clients).0;
      all_clients = was.all_clients;
      in_range = in_range_pop done' pop.popped (subst (AllByRecursion IsDoneInRange) pop.done_was was.in_range);
      base_in_range = was.base_in_range;
    }

-- ---- replies and clients

pub reply-done : {S : Type 0} (R : Rules S) (p : Point S) (last : List (Option Place)) (entries : List Entry) (i : ℕ)
    → option_map (λ (d : Done). d.known.reply) (slice_get (done_from R p last entries) i)
    ≡ option_map (λ (e : Entry). answers_of R (along R p (take i entries)).state e) (slice_get entries i)
unfolding along
reply-done R p last [] i = refl
reply-done R p last (e ∷ entries) zero = refl
reply-done R p last (e ∷ entries) (suc i) = reply-done R (step R p e) (placed last e (p.place + 1)) entries i

slice_get-last : {A : Type 0} (xs : List A) (x : A) → slice_get (xs ++ x ∷ []) (length xs) ≡ Some x
slice_get-last [] x = refl
slice_get-last (y ∷ xs) x = slice_get-last xs x

slice_get-append : {A : Type 0} (xs ys : List A) (i : ℕ) → i < length xs → slice_get (xs ++ ys) i ≡ slice_get xs i
slice_get-append [] ys i within = absurd (omega arith)
slice_get-append (x ∷ xs) ys zero within = refl
slice_get-append (x ∷ xs) ys (suc i) within = slice_get-append xs ys i (omega arith)

-- a place up to the end
record IsUpTo (end : ℕ) (last : Option Place) : Type 0 where
  below : (place : Place) → last ≡ Some place → place.0 ≤ end

known_at-more : (base : ℕ) (base_known : List (Option Known)) (done : List Done) (d : Done) (client : ℕ) (last : Option Place) → IsUpTo (base + length done) last
    → known_at base base_known (done ++ d ∷ []) client last ≡ known_at base base_known done client last
known_at-more base base_known done d client None up = refl
known_at-more base base_known done d client (Some place) up =
    let below = up.below place refl in
    elim (cases_Bool (leb place.0 base)) [
      | inl low ↦ rw low refl
      | inr high ↦
          let above = leb-false place.0 base high in
          rw high (ap (option_map (λ (k : Done). k.known)) (slice_get-append done (d ∷ []) (place.0 - base - 1) (omega arith)))
    ]

known_below : (base : ℕ) (base_known : List (Option Known)) (client : ℕ) (last : Option Place) → IsUpTo base last → known_at base base_known [] client last ≡ get_or base_known client None
known_below base base_known client None up = refl
known_below base base_known client (Some place) up = rw (le-leb place.0 base (up.below place refl)) refl

-- what is known of a client's last entry, and where that entry stands
abbrev pub last_place_of : {S : Type 0} → Point S → List (Option Place) → List Entry → ℕ → Option Place
last_place_of p before entries client = get_or (last_from p.place before entries) client None

record IsKnown {S : Type 0} (R : Rules S) (p : Point S) (before : List (Option Place)) (client : ℕ) (entries : List Entry) : Type 0 where
  known : known_at p.place p.known (done_from R p before entries) client (last_place_of p before entries client) ≡ get_or (along R p entries).known client None
  up : IsUpTo (p.place + length entries) (last_place_of p before entries client)

known_none : {S : Type 0} (R : Rules S) (p : Point S) (before : List (Option Place)) (client : ℕ) → IsBefore p.place before → IsKnown R p before client []
unfolding along
known_none R p before client is =
    record {
      known = known_below p.place p.known client (get_or before client None) (record { below = is.below client });
      up = record { below = λ place some. let low = is.below client place some in omega arith };
    }

known_more : {S : Type 0} (R : Rules S) (p : Point S) (before : List (Option Place)) (client : ℕ) (entries : List Entry) (e : Entry) → length p.known ≡ 64 → length before ≡ 64 → IsOfClients e
    → IsKnown R p before client entries → IsKnown R p before client (entries ++ e ∷ [])
known_more R p before client entries e all all_before within was =
    let last = last_from p.place before entries in
    let here = along R p entries in
    let done = done_from R p before entries in
    let next = done_next R p before entries e in
    let place : Place = record { 0 = p.place + length entries + 1 } in
    let done_now : done_from R p before (entries ++ e ∷ []) ≡ done ++ next ∷ [] = done-append R p before entries e in
    let last_now : last_from p.place before (entries ++ e ∷ []) ≡ set last e.client.0 (Some place) = last-append p.place before entries e in
    let known_now : (along R p (entries ++ e ∷ [])).known ≡ set here.known e.client.0 (Some next.known) = ap (λ (q : Point _). q.known) (along-append R p entries e) in
    let fits : length (entries ++ e ∷ []) ≡ length entries + 1 = length-append entries (e ∷ []) in
    let many : length done ≡ length entries = length-done R p before entries in
    elim (cases_eq client e.client.0) [
      | inl same ↦
          let last_len : length last ≡ 64 = length-last p.place before entries ∙ all_before in
          let known_len : length here.known ≡ 64 = length-known-along R p entries ∙ all in
          let last_at : get_or (set last e.client.0 (Some place)) client None ≡ Some place =
          ap (λ (c : ℕ). get_or (set last e.client.0 (Some place)) c None) same ∙ get_or-set_same last e.client.0 (Some place) None (omega arith) in
          let known_here : get_or (set here.known e.client.0 (Some next.known)) client None ≡ Some next.known =
          ap (λ (c : ℕ). get_or (set here.known e.client.0 (Some next.known)) c None) same ∙ get_or-set_same here.known e.client.0 (Some next.known) None (omega arith) in
          let high = lt-leb place.0 p.place (omega arith) in
          let at : place.0 - p.place - 1 ≡ length done = omega arith in
          record {
            known = rw (done_now, last_now, known_now, last_at, known_here, high, at) (ap (option_map (λ (d : Done). d.known)) (slice_get-last done next));
            up = rw (last_now, last_at) (record { below = λ q some. let is : place ≡ q = same_Some place q some in subst (λ (at_q : Place). at_q.0 ≤ p.place + length (entries ++ e ∷ [])) is (omega arith) });
          }
      | inr apart ↦
          record {
            known = rw (done_now, last_now, known_now, get_or-set_other last e.client.0 client (Some place) None apart, get_or-set_other here.known e.client.0 client (Some next.known) None apart)
                (known_at-more p.place p.known done next client (get_or last client None) (rw many was.up) ∙ was.known);
            up = rw (last_now, get_or-set_other last e.client.0 client (Some place) None apart)
                (record { below = λ q some. let bound = was.up.below q some in omega (arith, bound, fits) });
          }
    ]

known_all : {S : Type 0} (R : Rules S) (p : Point S) (before : List (Option Place)) (client : ℕ) → length p.known ≡ 64 → IsBefore p.place before → (entries : List Entry) → AllByRecursion IsOfClients entries
    → IsKnown R p before client entries
known_all R p before client all is =
    by_last (λ (entries : List Entry). AllByRecursion IsOfClients entries → IsKnown R p before client entries)
    (λ none. known_none R p before client is)
    (λ entries e was clients. let both = clients_pop entries e clients in known_more R p before client entries e all is.all_clients both.1 (was both.0))

-- what is kept tells what is known now
pub known_is : {S : Type 0} (R : Rules S) (base : Point S) (entries : List Entry) (state : S) (trail : List S) (done : List Done) (last : List (Option Place)) (client : ℕ)
    → IsReplayed R base entries state trail done last
    → known_at base.place base.known done client (get_or last client None) ≡ get_or (along R base entries).known client None
known_is R base entries state trail done last client was =
    rw (was.done_is, was.last_is) ((known_all R base was.before client was.all_clients was.is_before entries was.clients).known)

pub reply_is : {S : Type 0} (R : Rules S) (base : Point S) (entries : List Entry) (state : S) (trail : List S) (done : List Done) (last : List (Option Place)) (i : ℕ)
    → IsReplayed R base entries state trail done last
    → option_map (λ (d : Done). d.known.reply) (slice_get done i)
    ≡ option_map (λ (e : Entry). answers_of R (along R base (take i entries)).state e) (slice_get entries i)
reply_is R base entries state trail done last i was = rw was.done_is (reply-done R base was.before entries i)

-- a list that isn't empty has a last entry
pub snoc : (entries : List Entry) → 0 < length entries → (front : List Entry) × (e : Entry) × (entries ≡ front ++ e ∷ [])
snoc [] some = absurd (omega arith)
snoc (e ∷ []) some = ([], e, refl)
snoc (e ∷ next ∷ entries) some = let rest = snoc (next ∷ entries) (omega arith) in (e ∷ rest.0, rest.1, ap (λ (others : List Entry). e ∷ others) rest.2)

-- ---- the parts of an execution

pub replayed_push : {S : Type 0} (R : Rules S) (spine spine' : Stretch) (base_known : List (Option Known)) (state state' : S) (trail trail' : List S) (done done' : List Done) (last last' : List (Option Place)) (e : Entry)
    (place : Place) (head : Digest) (reply : List ℕ)
    → IsReplayed R (base_of spine trail state base_known) spine.entries state trail done last → IsOfClients e → spine' ≡ with_entry spine e
    → state' ≡ state_after R state e → trail' ≡ trail ++ state ∷ []
    → e.stamp.0 < 2 ^ 62 → FitsAnswers reply → end_of spine < 2 ^ 62 - 1
    → place.0 ≡ end_of spine' → head ≡ head_from spine'.base.head spine'.entries → reply ≡ answers_of R state e
    → done' ≡ done ++ record { client = e.client; known = record { stamp = e.stamp; place = place; head = head; reply = reply }; earlier = get_or last e.client.0 None } ∷ []
    → last' ≡ set last e.client.0 (Some place)
    → IsReplayed R (base_of spine' trail' state' base_known) spine'.entries state' trail' done' last'
replayed_push {S} R spine spine' base_known state state' trail trail' done done' last last' e place head reply was client spine_is state_is trail_is stamp short room place_is head_is reply_is done_is last_is =
    let base = base_of spine trail state base_known in
    let entries = spine.entries in
    let here = along R base entries in
    let place_now : place.0 ≡ here.place + 1 =
    place_is ∙ ap (λ (s : Stretch). end_of s) spine_is ∙ omega (arith, length-append entries (e ∷ []), place-along R base entries) in
    let head_now : head ≡ head_after here.head (digest_of_entry e) =
    head_is ∙ ap (λ (s : Stretch). head_from s.base.head s.entries) spine_is ∙ fold-append (λ (h : Digest) (x : Entry). head_after h (digest_of_entry x)) spine.base.head entries (e ∷ [])
    ∙ ap (λ (h : Digest). head_after h (digest_of_entry e)) (sym (head-along R base entries)) in
    let reply_now : reply ≡ answers_of R here.state e = reply_is ∙ ap (λ (s : S). answers_of R s e) was.state_is in
    let known : Known = record { stamp = e.stamp; place = place; head = head; reply = reply } in
    let known_now : known ≡ known_of R here e =
    ap (λ (n : ℕ). record known { place = record { 0 = n } }) place_now
    ∙ ap (λ (h : Digest). record { stamp = e.stamp; place = record { 0 = here.place + 1 }; head = h; reply = reply }) head_now
    ∙ ap (λ (r : List ℕ). record { stamp = e.stamp; place = record { 0 = here.place + 1 }; head = head_after here.head (digest_of_entry e); reply = r }) reply_now in
    rw (spine_is, state_is, trail_is, done_is, last_is, oldest-append trail state (state_after R state e))
    (replayed_on R base entries state trail done last e known was client known_now
    (let next : end_of spine' ≡ end_of spine + 1 = ap (λ (s : Stretch). end_of s) spine_is ∙ omega (arith, length-append entries (e ∷ [])) in
    record { stamp = stamp; place_least = omega arith; place_most = omega arith; reply = short }))

pub replayed_cut : {S : Type 0} (R : Rules S) (spine spine' : Stretch) (base_known : List (Option Known)) (state state' : S) (trail trail' : List S) (done done' : List Done) (last last' : List (Option Place))
    → IsReplayed R (base_of spine trail state base_known) spine.entries state trail done last → 0 < length spine.entries
    → trail ≡ trail' ++ state' ∷ [] → IsPopped done done' last last' → spine' ≡ up_to (end_of spine - 1) spine
    → IsReplayed R (base_of spine' trail' state' base_known) spine'.entries state' trail' done' last'
replayed_cut {S} R spine spine' base_known state state' trail trail' done done' last last' was some back pop spine_is =
    let ends = snoc spine.entries some in
    let base = base_of spine trail state base_known in
    let front : take (end_of spine - 1 - spine.base.place) spine.entries ≡ ends.0 =
    ap (take (end_of spine - 1 - spine.base.place)) ends.2
    ∙ take_at ends.0 (ends.1 ∷ []) (end_of spine - 1 - spine.base.place) (omega (arith, ap length ends.2, length-append ends.0 (ends.1 ∷ []))) in
    let oldest : oldest_state trail' state' ≡ oldest_state trail state = sym (ap (λ (t : List S). oldest_state t state) back ∙ oldest-append trail' state' state) in
    rw (spine_is, front, oldest)
    (replayed_back R base ends.0 ends.1 state state' trail trail' done done' last last' (subst (λ (es : List Entry). IsReplayed R base es state trail done last) ends.2 was) back pop)

-- an entry that was taken out is above the place before it
pub popped_is : (spine spine' : Stretch) (e : Entry) → spine ≡ with_entry spine' e → (spine' ≡ up_to (end_of spine - 1) spine) × (0 < length spine.entries)
popped_is spine spine' e is =
    let all = spine'.entries ++ e ∷ [] in
    let many = length-append spine'.entries (e ∷ []) in
    let n = spine'.base.place + length all - 1 - spine'.base.place in
    let front : take n all ≡ spine'.entries = take_at spine'.entries (e ∷ []) n (omega (arith, many)) in (
      sym (ap (λ (s : Stretch). up_to (end_of s - 1) s) is ∙ ap (λ (es : List Entry). record { base = spine'.base; entries = es }) front),
      omega (arith, many, ap (λ (s : Stretch). length s.entries) is),
    )

-- an entry that was run is one step
pub now_next : {S : Type 0} (R : Rules S) (spine spine' : Stretch) (base_known : List (Option Known)) (state state' : S) (trail trail' : List S) (e : Entry)
    → spine' ≡ with_entry spine e → trail' ≡ trail ++ state ∷ []
    → along R (base_of spine' trail' state' base_known) spine'.entries ≡ step R (along R (base_of spine trail state base_known) spine.entries) e
now_next R spine spine' base_known state state' trail trail' e spine_is trail_is =
    rw (spine_is, trail_is, oldest-append trail state state') (along-append R (base_of spine trail state base_known) spine.entries e)

pub reply_above : {S : Type 0} (R : Rules S) (k : Kept S) (place : ℕ) → k.base.place < place
    → option_map (λ (e : Entry). answers_of R (along R k.base (take (place - k.base.place - 1) k.entries)).state e) (slice_get k.entries (place - k.base.place - 1)) ≡ reply_in R k place
reply_above R k place above = rw (lt-leb place k.base.place above) refl

-- nobody stood anywhere before the base
pub nowhere : (base : ℕ) → IsBefore base (replicate 64 None)
nowhere base =
    let none : Option Place = None in
    record {
      all_clients = length-replicate 64 none;
      below = λ client place some. let clash : None ≡ Some place = sym (get_or-none 64 client) ∙ some in absurd (cc);
    }
  where
    get_or-none : (n i : ℕ) → ◌≡◌ {A = Option Place} (get_or (replicate n None) i None) None
    get_or-none zero i = refl
    get_or-none (suc n) zero = refl
    get_or-none (suc n) (suc i) = get_or-none n i

pub base_none : (n : ℕ) → AllByRecursion IsBaseInRange (replicate n None)
base_none zero = tt
base_none (suc n) = (tt, base_none n)

pub replayed_start : {S : Type 0} (R : Rules S) (spine : Stretch) (base_known : List (Option Known)) (state : S) (trail : List S) (done : List Done) (last : List (Option Place)) (place : ℕ) (head : Digest)
    → spine ≡ record { base = record { place = place; head = head }; entries = [] } → trail ≡ [] → length base_known ≡ 64 → AllByRecursion IsBaseInRange base_known → done ≡ [] → last ≡ replicate 64 None
    → IsReplayed R (base_of spine trail state base_known) spine.entries state trail done last
unfolding along
replayed_start R spine base_known state trail done last place head spine_is trail_is all_clients in_range done_is last_is =
    rw (spine_is, trail_is, done_is, last_is) (record {
      state_is = refl;
      trail_is = refl;
      before = replicate 64 None;
      is_before = nowhere place;
      done_is = refl;
      last_is = refl;
      clients = tt;
      all_clients = all_clients;
      in_range = tt;
      base_in_range = in_range;
    })
