-- What a world shows after a change of one part.
use Rattle.std.proofs.Common.{◌≡◌, ℕ, zero, suc, ◌+◌, ◌-◌, ◌<◌, ◌≤◌, Bool, true, false, not, ◌&&◌, ◌||◌, List, [], ◌∷◌, ◌++◌, length, map, get_or, Option, Some, None, refl, sym, ap, ◌∙◌, subst, arith, inl, inr}
use Rattle.std.specs.Prelude.{slice_get, slice_set, option_map, option_to_list, nat_eq}
use Rattle.std.proofs.lemmas.Bool.{cases_lt, eqb-true, eqb-false}
use Rattle.std.proofs.lemmas.List.{append-nil, map-append}
use Rattle.std.proofs.lemmas.List.Sums.{fold-append}
use Rattle.std.proofs.lemmas.Option.{same_Some, slice_get-get_or}
use Rattle.zy_base.specs.declared.ids.ClientId.{ClientId}
use Rattle.zy_base.specs.declared.ids.Party.{Party}
use Rattle.zy_chain.specs.Stretch.{Mark}
use Rattle.zy_law.specs.Completed as law
use Rattle.zy_law.specs.Histories.{origin}
use Rattle.zy_table.specs.declared.client.Done.{Done}
use Rattle.zy_world_setup.specs.Kept.{Pairs, IsShown}
use Rattle.zy_world.specs.Passed.{ArePast, AreSo, AreWithin, is_left, is_past}
use Rattle.zy_world.specs.Shown.{Shown, Seated, Mutes, Posted, numbered, delivered_if, with_delivered, dropped_if, with_dropped, mark_after, muted_in}
use Rattle.zy_world.specs.Shows.{Shows}
use Rattle.zy_world_law.specs.Events.{with_done}
use Rattle.zy_world_law.specs.Safe.{completion_of}
use Rattle.zy_world_law.specs.World as whole
use Rattle.zy_world_law.specs.World.{World, Mail, Completed, mail_at, mail_to, with_sent, delivered, drop_frame}
use Rattle.zy_world_law.proofs.Seats.{get_set, get_set_other}

-- ---- the bag

-- flows go over other ones in front
pub with_bag : {S : Type 0} (g : World S) (v : Shown S) (bag : Posted) → Shows g v → ArePast v.seats v.mutes bag → Shows (record g { bag = bag.mails }) (record v { bag = bag })
with_bag g v bag s past =
    record {
      setup = s.setup;
      keys = s.keys;
      seats = s.seats;
      liars = s.liars;
      mails = refl;
      past = past;
      mutes = s.mutes;
      agreed = s.agreed;
      texts = s.texts;
      said = s.said;
    }

-- flows go over more frames in front
pub shows_passed : {S : Type 0} (g : World S) (v : Shown S) (bag : Posted) → Shows g v → bag.mails ≡ v.bag.mails → ArePast v.seats v.mutes bag → Shows g (record v { bag = bag })
shows_passed g v bag s same past =
    record {
      setup = s.setup;
      keys = s.keys;
      seats = s.seats;
      liars = s.liars;
      mails = s.mails ∙ sym same;
      past = past;
      mutes = s.mutes;
      agreed = s.agreed;
      texts = s.texts;
      said = s.said;
    }

get_front : {A : Type 0} (xs ys : List A) (i : ℕ) (x : A) → i < length xs → slice_get (xs ++ ys) i ≡ Some x → slice_get xs i ≡ Some x
get_front [] ys i x within is = absurd (omega arith)
get_front (y ∷ xs) ys zero x within is = is
get_front (y ∷ xs) ys (suc i) x within is = get_front xs ys i x (omega (arith, within)) is

-- frames that are sent
so_sent : (P : Mail → Type 0) (many : ℕ) (mails more : List Mail) → many ≤ length mails → AreSo P many mails → AreSo P many (mails ++ more)
so_sent P many mails more within so before mail below is = so before mail below (get_front mails more before mail (omega (arith, within, below)) is)

pub past_sent : {S : Type 0} (seats : Seated S) (mutes : Mutes) (bag : Posted) (more : List Mail) → AreWithin bag → ArePast seats mutes bag → ArePast seats mutes (record { mails = bag.mails ++ more; passed = bag.passed })
past_sent seats mutes bag more within past =
    record {
      past = so_sent (λ mail. is_past seats mail ≡ true) bag.passed.past bag.mails more within.0 past.past;
      idle = so_sent (λ mail. is_left seats mutes mail ≡ false) bag.passed.idle bag.mails more within.1 past.idle;
    }

pub shows_sent : {S : Type 0} (g : World S) (v : Shown S) (sent : List (Party × List ℕ)) (bag : Posted) → Shows g v → AreWithin v.bag
    → bag ≡ record { mails = v.bag.mails ++ map mail_to sent; passed = v.bag.passed } → Shows (with_sent g sent) (record v { bag = bag })
shows_sent {S = S} g v sent bag s within is =
    let mails : List Mail = v.bag.mails ++ map mail_to sent in
    rw is
    (rw s.mails (with_bag g v (record { mails = mails; passed = v.bag.passed }) s (past_sent v.seats v.mutes v.bag (map mail_to sent) within s.past)))

-- one frame is marked
module _ (P : Mail → Type 0) (many : ℕ) (mails : List Mail) (at : ℕ) (old marked : Mail) (there : slice_get mails at ≡ Some old) (gone : P marked) (so : AreSo P many mails) where
  so_at : (before : ℕ) (mail : Mail) → before < many → slice_get (slice_set mails at marked) before ≡ Some mail → (b : Bool) → nat_eq before at ≡ b → P mail
  so_at before mail below is true same =
      let here : before ≡ at = eqb-true before at same in
      let found : Some marked ≡ Some mail = sym (get_set mails at marked old there) ∙ ap (λ (n : ℕ). slice_get (slice_set mails at marked) n) (sym here) ∙ is in
      subst P (same_Some marked mail found) gone
  so_at before mail below is false other =
      so before mail below (sym (get_set_other mails at before marked (eqb-false before at other)) ∙ is)

  so_set : AreSo P many (slice_set mails at marked)
  so_set before mail below is = so_at before mail below is (nat_eq before at) refl

not_left : (past muted : Bool) → past ≡ true → (not past && not muted) ≡ false
not_left past muted is = ap (λ (b : Bool). not b && not muted) is

past_set : {S : Type 0} (seats : Seated S) (mutes : Mutes) (bag : Posted) (at : ℕ) (old marked : Mail) → slice_get bag.mails at ≡ Some old → is_past seats marked ≡ true → ArePast seats mutes bag
    → ArePast seats mutes (record { mails = slice_set bag.mails at marked; passed = bag.passed })
past_set seats mutes bag at old marked there gone past =
    record {
      past = so_set (λ mail. is_past seats mail ≡ true) bag.passed.past bag.mails at old marked there gone past.past;
      idle = so_set (λ mail. is_left seats mutes mail ≡ false) bag.passed.idle bag.mails at old marked there (not_left (is_past seats marked) (muted_in mutes marked.to) gone) past.idle;
    }

true_or : (b : Bool) → (b || true) ≡ true
true_or true = refl
true_or false = refl

past_delivered_if : {S : Type 0} (seats : Seated S) (mutes : Mutes) (bag : Posted) (before : ℕ) (o : Option Mail) → slice_get bag.mails before ≡ o → ArePast seats mutes bag
    → ArePast seats mutes (record { mails = delivered_if bag.mails (suc before) o; passed = bag.passed })
past_delivered_if seats mutes bag before None there past = past
past_delivered_if seats mutes bag before (Some mail) there past =
    let one : suc before - 1 ≡ before = omega arith in rw one (past_set seats mutes bag before mail (record mail { delivered = true }) there refl past)

pub past_delivered : {S : Type 0} (seats : Seated S) (mutes : Mutes) (bag : Posted) (number : ℕ) → ArePast seats mutes bag → ArePast seats mutes (record { mails = with_delivered bag.mails number; passed = bag.passed })
past_delivered seats mutes bag zero past = past
past_delivered seats mutes bag (suc before) past = past_delivered_if seats mutes bag before (slice_get bag.mails before) refl past

past_dropped_if : {S : Type 0} (seats : Seated S) (mutes : Mutes) (bag : Posted) (before : ℕ) (o : Option Mail) → slice_get bag.mails before ≡ o → ArePast seats mutes bag
    → ArePast seats mutes (record { mails = dropped_if bag.mails (suc before) o; passed = bag.passed })
past_dropped_if seats mutes bag before None there past = past
past_dropped_if seats mutes bag before (Some mail) there past =
    let one : suc before - 1 ≡ before = omega arith in rw one (past_set seats mutes bag before mail (record mail { dropped = true }) there (true_or mail.delivered) past)

pub past_dropped : {S : Type 0} (seats : Seated S) (mutes : Mutes) (bag : Posted) (number : ℕ) → ArePast seats mutes bag → ArePast seats mutes (record { mails = with_dropped bag.mails number; passed = bag.passed })
past_dropped seats mutes bag zero past = past
past_dropped seats mutes bag (suc before) past = past_dropped_if seats mutes bag before (slice_get bag.mails before) refl past

-- ---- the marks of frames, by the whole world

pub mail_is : {S : Type 0} (g : World S) (number : ℕ) → mail_at g number ≡ numbered g.bag number
mail_is g zero = refl
mail_is g (suc before) = refl

-- the frame that is marked stays in its place
pub mail_marked : {S : Type 0} (g : World S) (number : ℕ) (mail : Mail) → mail_at g number ≡ Some mail → mail_at (delivered g number mail) number ≡ Some (record mail { delivered = true })
mail_marked g zero mail is = absurd cc
mail_marked g (suc before) mail is =
    let marked : Mail = record mail { delivered = true } in
    let one : suc before - 1 ≡ before = omega arith in
    ap (λ (n : ℕ). slice_get (slice_set g.bag n marked) before) one ∙ get_set g.bag before marked mail is

pub mail_there : {S : Type 0} (g : World S) (v : Shown S) (number : ℕ) (o : Option Mail) → Shows g v → o ≡ numbered v.bag.mails number → mail_at g number ≡ o
mail_there g v number o s is = mail_is g number ∙ ap (λ (mails : List Mail). numbered mails number) s.mails ∙ sym is

pub mail_held : {S : Type 0} (g : World S) (v : Shown S) (number : ℕ) (mail : Mail) → Shows g v → mail_at g number ≡ Some mail → numbered v.bag.mails number ≡ Some mail
mail_held g v number mail s there = ap (λ (mails : List Mail). numbered mails number) (sym s.mails) ∙ sym (mail_is g number) ∙ there

delivered_by : {S : Type 0} (g : World S) (before : ℕ) (mail : Mail) (o : Option Mail) → o ≡ Some mail → delivered g (suc before) mail ≡ record g { bag = delivered_if g.bag (suc before) o }
delivered_by g before mail None is = absurd cc
delivered_by {S = S} g before mail (Some other) is = ap (λ (m : Mail). record g { bag = slice_set g.bag (suc before - 1) (record m { delivered = true }) }) (sym (same_Some other mail is))

pub delivered_is : {S : Type 0} (g : World S) (number : ℕ) (mail : Mail) → numbered g.bag number ≡ Some mail → delivered g number mail ≡ record g { bag = with_delivered g.bag number }
delivered_is g zero mail is = absurd cc
delivered_is g (suc before) mail is = delivered_by g before mail (slice_get g.bag before) is

dropped_by : {S : Type 0} (g : World S) (before : ℕ) (o : Option Mail) → whole.dropped_if g (suc before) o ≡ record g { bag = dropped_if g.bag (suc before) o }
dropped_by g before None = refl
dropped_by g before (Some mail) = refl

pub dropped_is : {S : Type 0} (g : World S) (number : ℕ) → drop_frame g number ≡ record g { bag = with_dropped g.bag number }
dropped_is g zero = refl
dropped_is g (suc before) = dropped_by g before (slice_get g.bag before)

pub shows_dropped : {S : Type 0} (g : World S) (v : Shown S) (number : ℕ) (bag : Posted) → Shows g v → bag.mails ≡ with_dropped v.bag.mails number → ArePast v.seats v.mutes bag
    → Shows (drop_frame g number) (record v { bag = bag })
shows_dropped {S = S} g v number bag s is past =
    let same : with_dropped g.bag number ≡ bag.mails = ap (λ (mails : List Mail). with_dropped mails number) s.mails ∙ sym is in
    rw (dropped_is g number) (subst (λ (mails : List Mail). Shows (record g { bag = mails }) (record v { bag = bag })) (sym same) (with_bag g v bag s past))

pub shows_delivered : {S : Type 0} (g : World S) (v : Shown S) (number : ℕ) (mail : Mail) (bag : Posted) → Shows g v → numbered g.bag number ≡ Some mail → bag.mails ≡ with_delivered v.bag.mails number → ArePast v.seats v.mutes bag
    → Shows (delivered g number mail) (record v { bag = bag })
shows_delivered {S = S} g v number mail bag s there is past =
    let same : with_delivered g.bag number ≡ bag.mails = ap (λ (mails : List Mail). with_delivered mails number) s.mails ∙ sym is in
    rw (delivered_is g number mail there) (subst (λ (mails : List Mail). Shows (record g { bag = mails }) (record v { bag = bag })) (sym same) (with_bag g v bag s past))

-- ---- texts

pub with_texts : {S : Type 0} (g : World S) (v : Shown S) (texts : whole.Texts) (pairs : Pairs) → Shows g v → IsShown texts pairs → Shows (record g { texts = texts }) (record v { texts = pairs })
with_texts g v texts pairs s shown =
    record {
      setup = s.setup;
      keys = s.keys;
      seats = s.seats;
      liars = s.liars;
      mails = s.mails;
      past = s.past;
      mutes = s.mutes;
      agreed = s.agreed;
      texts = shown;
      said = s.said;
    }

-- ---- completions

further_is : (m : Mark) (c : Completed) → law.further m (completion_of c) ≡ mark_after m (Some c.done)
further_is m c = refl

agreed_more : (done : List Completed) (id : ClientId) (more : Option Done) (m : Mark) → law.agreed_mark (map completion_of done) ≡ m
    → law.agreed_mark (map completion_of (done ++ option_to_list (option_map (λ d. record { client = id; done = d }) more))) ≡ mark_after m more
agreed_more done id None m is = ap (λ (xs : List Completed). law.agreed_mark (map completion_of xs)) (append-nil done) ∙ is
agreed_more done id (Some d) m is =
    let c : Completed = record { client = id; done = d } in
    ap law.agreed_mark (map-append completion_of done (c ∷ [])) ∙ fold-append law.further origin (map completion_of done) (completion_of c ∷ []) ∙ ap (λ (n : Mark). law.further n (completion_of c)) is

pub shows_done : {S : Type 0} (g : World S) (v : Shown S) (id : ClientId) (done : Option Done) (m : Mark) → Shows g v → m ≡ mark_after v.agreed done → Shows (with_done g id done) (record v { agreed = m })
shows_done g v id done m s is =
    record {
      setup = s.setup;
      keys = s.keys;
      seats = s.seats;
      liars = s.liars;
      mails = s.mails;
      past = s.past;
      mutes = s.mutes;
      agreed = agreed_more g.done id done v.agreed s.agreed ∙ sym is;
      texts = s.texts;
      said = s.said;
    }

-- the frame at an index, as it is read there
pub mail_at_index : (mails items : List Mail) (at : ℕ) (here : Mail) → items ≡ mails → at < length items → here ≡ get_or items at here → slice_get mails at ≡ Some here
mail_at_index mails items at here same below is =
    ap (λ (l : List Mail). slice_get l at) (sym same) ∙ slice_get-get_or items at here below ∙ ap (λ (m : Mail). Some m) (sym is)

-- flows go over one frame more
so_one : (P : Mail → Type 0) (mails : List Mail) (many : ℕ) (here : Mail) → slice_get mails many ≡ Some here → P here → AreSo P many mails → AreSo P (many + 1) mails
so_one P mails many here at gone so before mail below is = elim (cases_lt before many) [
  | inl within ↦ so before mail within is
  | inr behind ↦
      let same : before ≡ many = omega (arith, below, behind) in
      let found : Some here ≡ Some mail = sym at ∙ ap (λ (k : ℕ). slice_get mails k) (sym same) ∙ is in
      subst P (same_Some here mail found) gone
]

pub past_one : {S : Type 0} (seats : Seated S) (mutes : Mutes) (mails : List Mail) (past idle : ℕ) (here : Mail) → slice_get mails past ≡ Some here → is_past seats here ≡ true
    → ArePast seats mutes (record { mails = mails; passed = record { past = past; idle = idle } }) → ArePast seats mutes (record { mails = mails; passed = record { past = past + 1; idle = idle } })
past_one seats mutes mails past idle here at gone are =
    record { past = so_one (λ mail. is_past seats mail ≡ true) mails past here at gone are.past; idle = are.idle }

pub idle_one : {S : Type 0} (seats : Seated S) (mutes : Mutes) (mails : List Mail) (past idle : ℕ) (here : Mail) → slice_get mails idle ≡ Some here → is_left seats mutes here ≡ false
    → ArePast seats mutes (record { mails = mails; passed = record { past = past; idle = idle } }) → ArePast seats mutes (record { mails = mails; passed = record { past = past; idle = idle + 1 } })
idle_one seats mutes mails past idle here at none are =
    record { past = are.past; idle = so_one (λ mail. is_left seats mutes mail ≡ false) mails idle here at none are.idle }

-- they go over those alone of which they have nothing left, whoever is muted
pub all_looked : {S : Type 0} (seats : Seated S) (mutes others : Mutes) (mails : List Mail) (past idle : ℕ) → ArePast seats mutes (record { mails = mails; passed = record { past = past; idle = idle } })
    → ArePast seats others (record { mails = mails; passed = record { past = past; idle = past } })
all_looked seats mutes others mails past idle are =
    record { past = are.past; idle = λ before mail below is. not_left (is_past seats mail) (muted_in others mail.to) (are.past before mail below is) }
