-- What a replica that stands in the world may say there, and where it may stand next.
use Rattle.std.proofs.Common.{◌≡◌, ℕ, ◌+◌, ◌-◌, ◌<◌, ◌≤◌, inl, inr, Bool, true, List, [], ◌∷◌, ◌++◌, length, take, get_or, Option, Some, None, refl, sym, ap, ◌∙◌, subst, arith, ltb-true}
use Rattle.std.specs.Prelude.{slice_get, option_map, fold}
use Rattle.std.specs.List.{AllByRecursion}
use Rattle.std.proofs.lemmas.Bool.{cases_lt}
use Rattle.std.proofs.lemmas.Option.{same_Some}
use Rattle.zy_base.specs.Machine.{Rules}
use Rattle.zy_base.specs.declared.ids.Digest.{Digest}
use Rattle.zy_base.specs.declared.ids.ClientId.{ClientId}
use Rattle.zy_base.specs.declared.ids.Stamp.{Stamp}
use Rattle.zy_chain.specs.declared.entry.Entry.{Entry}
use Rattle.zy_chain.specs.Entries.{digest_of_entry, newer}
use Rattle.zy_chain.specs.Heads.{empty_head, head_of}
use Rattle.zy_chain.specs.Stretch.{Mark}
use Rattle.zy_admit.specs.Judging.{ordered_entry}
use Rattle.zy_frames.specs.declared.frame.OrderFrame.{OrderFrame}
use Rattle.zy_exec.specs.declared.known.Known.{Known}
use Rattle.zy_exec.specs.Replay.{Point, origin, known_of, is_new_to}
use Rattle.zy_exec.specs.Kept.{longer, now_of, known_in}
use Rattle.zy_exec.proofs.ReplayLemmas.{place-along, head-along}
use Rattle.zy_exec.proofs.HistoryLemmas.{stands_leads}
use Rattle.zy_law.specs.Histories.{IsEntryAt, AreKept}
use Rattle.zy_law.specs.Lawful.{IsLawful, IsOrdered, IsAskedFor}
use Rattle.zy_law.specs.Said.{IsCorrect, Says, Moment}
use Rattle.zy_law.specs.Steps.{MayStand, after_saying}
use Rattle.zy_law.specs.World.{Spoken, World}
use Rattle.zy_law.specs.World.Statement.{Order}
use Rattle.zy_law.proofs.EntriesAskedFor.{entry_within, entry_longer, all_asked_for}
use Rattle.zy_law.proofs.GrownLemmas.{each_item}
use Rattle.zy_law.proofs.HistoryLemmas.{Passes-longer}
use Rattle.zy_law_normal.specs.Tied.{Agrees, MayRun, MaySlotRun, IsStanding, AreOrdersUpTo}
use Rattle.zy_law_normal.proofs.Records.{IsLastOf, IsRecord, records, last_of_next, entry_last, entry_before}
use Rattle.zy_table.specs.State.{State, own_view}

-- ---- lists

kept_pushed : (kept : Digest → Entry → Bool) (next : Digest → Entry → Digest) (head : Digest) (es : List Entry) (e : Entry) → AreKept kept next head es → kept (fold next head es) e ≡ true
    → AreKept kept next head (es ++ e ∷ [])
kept_pushed kept next head [] e all link = (link, tt)
kept_pushed kept next head (d ∷ es) e all link = (all.0, kept_pushed kept next (next head d) es e all.1 link)

slot_more : (w v : World) → ((e : Entry) → MayRun w e → MayRun v e) → (o : Option OrderFrame) → MaySlotRun w o → MaySlotRun v o
slot_more w v more None may = tt
slot_more w v more (Some o) may = more (ordered_entry o) may

pub slots_more : (w v : World) → ((e : Entry) → MayRun w e → MayRun v e) → (slots : List (Option OrderFrame)) → AllByRecursion (MaySlotRun w) slots → AllByRecursion (MaySlotRun v) slots
slots_more w v more [] all = tt
slots_more w v more (o ∷ slots) all = (slot_more w v more o all.0, slots_more w v more slots all.1)

-- each order that the replica gave in a view is one of this history
abbrev pub AreOrdersOf : World → ℕ → ℕ → List Entry → Type 0
AreOrdersOf w r view history =
    (said : ℕ) (x : Spoken) (m : Mark) (request : Digest) → Says w r said x → x.what ≡ Order view m request → m.place ≤ length history → IsOrdered w history m request

-- what holds of all that a replica said, and of one thing more
pub own_said : (w : World) (r : ℕ) (y : Spoken) (P : Spoken → Type 0) → ((number : ℕ) (z : Spoken) → Says w r number z → P z) → P y → (number : ℕ) (z : Spoken) → Says (after_saying w r y) r number z → P z
own_said w r y P all one number z says =
    each_item w.said r y (λ q i z. q ≡ r → P z) (λ q i z at own. all i z (subst (λ (p : ℕ). Says w p i z) own at)) (λ own. one) r number z says refl

-- ---- a replica that stands in a lawful world

module _ {S : Type 0} (R : Rules S) (w : World) (r : ℕ) (s : State S) (h : List Entry) (lawful : IsLawful w) (agrees : Agrees R w) (correct : IsCorrect w r) (x : IsStanding R w r s h) where
  abbrev here : Moment w
  here = record { by = r; correct = correct; number = x.number; stand = record { view = own_view s; history = h }; stood = x.stood }

  pub fold_is : (es : List Entry) → fold w.next empty_head es ≡ head_of es
  fold_is es = ap (λ (f : Digest → Entry → Digest). fold f empty_head es) agrees.next

  pub place_now : (now_of R s.kept).place ≡ length h
  place_now = ap (λ (p : Point S). p.place) (stands_leads R s.kept h x.stands) ∙ (let at = place-along R (origin R) h in omega arith)

  head_now : (now_of R s.kept).head ≡ head_of h
  head_now = ap (λ (p : Point S). p.head) (stands_leads R s.kept h x.stands) ∙ head-along R (origin R) h

  pub known_now : (client : ℕ) → IsRecord R h client (known_in R s.kept client)
  known_now client = subst (λ (p : Point S). IsRecord R h client (get_or p.known client None)) (sym (stands_leads R s.kept h x.stands)) (records R client h x.clients)

  -- the entry that runs next is its client's last one then
  pub known_next : (e : Entry) → IsLastOf R (h ++ e ∷ []) e.client.0 (known_of R (now_of R s.kept) e)
  known_next e = subst (λ (p : Point S). IsLastOf R (h ++ e ∷ []) e.client.0 (known_of R p e)) (sym (stands_leads R s.kept h x.stands)) (last_of_next R h e)

  -- a stamp above the one that is known is above those of all the client's entries
  newer_than : (e : Entry) (o : Option Known) → IsRecord R h e.client.0 o → newer e.stamp (option_map (λ (known : Known). known.stamp) o) ≡ true
      → (place : ℕ) (d : Entry) → IsEntryAt h place d → d.client ≡ e.client → d.stamp.0 < e.stamp.0
  newer_than e None is new place d at same = absurd (is place d at (ap (λ (c : ClientId). c.0) same))
  newer_than e (Some k) is new place d at same =
      let above : k.stamp.0 < e.stamp.0 = ltb-true k.stamp.0 e.stamp.0 new in
      let stamp : is.entry.stamp.0 ≡ k.stamp.0 = ap (λ (t : Stamp). t.0) is.stamp in
      let make : ℕ → ClientId = λ n. record { 0 = n } in
      let client : is.entry.client ≡ e.client = ap make is.client_is in
      let asked = all_asked_for w lawful here k.place.0 is.entry is.there.first is.there in
      let equal : place ≡ k.place.0 → d.stamp.0 ≡ is.entry.stamp.0 = λ places.
      ap (λ (c : Entry). c.stamp.0) (same_Some d is.entry (sym at.there ∙ ap (λ (i : ℕ). slice_get h (i - 1)) places ∙ is.there.there)) in
      elim (cases_lt place k.place.0) [
        | inl before ↦ omega (arith, asked.newer place d before at (same ∙ sym client))
        | inr from ↦ elim (cases_lt k.place.0 place) [
          | inl after ↦ absurd (is.last place d after at (ap (λ (c : ClientId). c.0) same))
          | inr to ↦ omega (arith, equal (omega arith))
        ]
      ]

  -- it may stand next with one entry more, which was asked for with a newer stamp, and whose link is kept
  pub may_stand : (e : Entry) → MayRun w e → is_new_to (now_of R s.kept).known e ≡ true → w.kept (now_of R s.kept).head e ≡ true
      → AreOrdersOf w r (own_view s) (h ++ e ∷ []) → MayStand w r (record { view = own_view s; history = h ++ e ∷ [] })
  may_stand e may new link orders =
      record {
        last = record { view = own_view s; history = h };
        number = x.number;
        stood = x.stood;
        now = x.last;
        growth = inl (refl, (e ∷ [], refl));
        asked_for = λ same place d past at.
            let is = entry_last h e place d past at in
            subst (λ (c : Entry). IsAskedFor w (h ++ e ∷ []) place c) is.1 (record {
              asked = may.asked;
              newer = λ earlier b before there of.
                  newer_than e (known_in R s.kept e.client.0) (known_now e.client.0) new earlier b (entry_before h e earlier b (omega (arith, is.0)) there) of;
            });
        begun = λ less. absurd (omega arith);
        texts = kept_pushed w.kept w.next empty_head h e (lawful.texts here) (subst (λ (d : Digest). w.kept d e ≡ true) (head_now ∙ sym (fold_is h)) link);
        no_return = x.left;
        ordered = orders;
      }

  -- its earlier orders are of a longer history too
  pub orders_of_longer : (e : Entry) → AreOrdersUpTo w r (own_view s) (length h) → AreOrdersOf w r (own_view s) (h ++ e ∷ [])
  orders_of_longer e up said y m request says what far =
      let is = lawful.ordered_entries r said x.number y (record { view = own_view s; history = h }) m request correct says x.stood what (up said y m request says what) in
      record {
        passes = Passes-longer w.next h (h ++ e ∷ []) m (e ∷ [], refl) is.passes;
        entry = is.entry;
        there = entry_longer h (h ++ e ∷ []) m.place is.entry (e ∷ [], refl) is.there;
        digest = is.digest;
      }

  -- what the next entry's order says is of the history with the entry
  pub next_ordered : (e : Entry) → IsOrdered w (h ++ e ∷ []) (record { place = (known_of R (now_of R s.kept) e).place.0; head = (known_of R (now_of R s.kept) e).head }) (digest_of_entry e)
  next_ordered e =
      let is = known_next e in
      let last = entry_last h e (known_of R (now_of R s.kept) e).place.0 is.entry (omega (arith, place_now)) is.there in
      record {
        passes = record { within = entry_within (h ++ e ∷ []) (known_of R (now_of R s.kept) e).place.0 is.entry is.there; head = fold_is (take (known_of R (now_of R s.kept) e).place.0 (h ++ e ∷ [])) ∙ is.head };
        entry = is.entry;
        there = is.there;
        digest = ap (λ (f : Entry → Digest). f is.entry) agrees.digest ∙ ap digest_of_entry (sym last.1);
      }

pub orders_of_said : (w : World) (r view : ℕ) (history : List Entry) (y : Spoken) → ((m : Mark) (request : Digest) → y.what ≡ Order view m request → IsOrdered w history m request) → AreOrdersOf w r view history
    → AreOrdersOf (after_saying w r y) r view history
orders_of_said w r view history y new of number z m request says what far =
    let is : IsOrdered w history m request =
    own_said w r y (λ z. z.what ≡ Order view m request → IsOrdered w history m request) (λ i z at is. of i z m request at is far) (λ is. new m request is) number z says what in
    record { passes = is.passes; entry = is.entry; there = is.there; digest = is.digest }
