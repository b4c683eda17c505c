-- Inside one view all that is certified, fast or stable lies on one list, and on that of the view's begin.
use Rattle.std.proofs.Common.{◌≡◌, ℕ, ◌+◌, ◌<◌, ◌≤◌, inl, inr, refl, sym, ◌∙◌, subst, arith}
use Rattle.std.proofs.lemmas.Bool.{cases_lt}
use Rattle.zy_chain.specs.Stretch.{Mark}
use Rattle.zy_law.specs.Fixed.{IsCertified, IsFixed}
use Rattle.zy_law.specs.Fixed.IsFixed.{fast, slow, stable}
use Rattle.zy_law.specs.World.{Answer, World}
use Rattle.zy_law.specs.World.Statement.{Spec, Check}
use Rattle.zy_law.specs.Said.{IsCorrect, Moment, At, HasSaid, IsBacked}
use Rattle.zy_law.specs.Lawful.{IsLawful, StoodAt}
use Rattle.zy_law.specs.Lists.{Extends, IsKnown}
use Rattle.zy_law.proofs.HistoryLemmas.{Passes-longer}
use Rattle.zy_law.proofs.PastLemmas.{later_front}
use Rattle.zy_law.proofs.ListLemmas.{Extends-passed, passed_below}
use Rattle.zy_law.proofs.QuorumLemmas.{both_said, one_said}
use Rattle.zy_law.proofs.BeganOnce.{IsBegin, begin_passed}

-- as many as any two of such quorums share a correct replica
pub data IsQuorum (w : World) (k : ℕ) : Type 0 where
  certificate : k ≡ w.counts.cert → IsQuorum w k
  everyone : k ≡ w.counts.fast → IsQuorum w k

-- a mark of a view behind which a quorum stands
pub record IsHeld (w : World) (view : ℕ) (m : Mark) : Type 0 where
  pub count : ℕ
  pub answer : Answer
  pub backed : IsBacked w count (Spec view m answer)
  pub quorum : IsQuorum w count

-- a correct history of the view or an earlier one passes both marks
pub record Together (w : World) (view : ℕ) (m k : Mark) : Type 0 where
  pub moment : Moment w
  pub order : moment.stand.view ≤ view
  pub first : At moment m
  pub second : At moment k

pub Together-swapped : {w : World} {view : ℕ} {m k : Mark} → Together w view m k → Together w view k m
Together-swapped t = record { moment = t.moment; order = t.order; first = t.second; second = t.first }

-- a mark that is held in the view, or with which the view's begin extends it
pub data IsSolid (w : World) (view : ℕ) (begin m : Mark) : Type 0 where
  below : Extends w m begin → IsSolid w view begin m
  held : IsHeld w view m → IsSolid w view begin m

module _ (w : World) (lawful : IsLawful w) where
  quorums_meet : (k l : ℕ) → IsQuorum w k → IsQuorum w l → w.counts.n + w.counts.f < k + l
  quorums_meet k l (certificate a) (certificate b) = omega (arith, w.counts.sound.two_certificates)
  quorums_meet k l (certificate a) (everyone b) = omega (arith, w.counts.sound.certificate_and_fast)
  quorums_meet k l (everyone a) (certificate b) = omega (arith, w.counts.sound.certificate_and_fast)
  quorums_meet k l (everyone a) (everyone b) = omega (arith, w.counts.sound.fast_and_change, w.counts.sound.two_agreements, w.counts.sound.change_in_reach)

  pub one_of_quorum : (k : ℕ) → IsQuorum w k → w.counts.f < k
  one_of_quorum k (certificate a) = omega (arith, w.counts.sound.two_certificates, w.counts.sound.certificate_in_reach)
  one_of_quorum k (everyone a) = omega (arith, w.counts.sound.certificate_and_fast, w.counts.sound.certificate_in_reach)

  pub local_has_one : w.counts.f < w.counts.local
  local_has_one = omega (arith, w.counts.sound.local_and_change, w.counts.sound.change_in_reach)

  -- a stand of a correct replica in the view, from a response that it said
  pub responded : (r view : ℕ) (m : Mark) (a : Answer) → IsCorrect w r → (said : HasSaid w r (Spec view m a)) → StoodAt w r said.1.when view m
  responded r view m a correct said = (lawful.true_responses r said.0 said.1 view m a correct said.2 said.3).at

  -- ---- what is held

  both_at : (r i j view : ℕ) (m k : Mark) → IsCorrect w r → i ≤ j → StoodAt w r i view m → StoodAt w r j view k → Together w view m k
  both_at r i j view m k correct order x y =
      record {
        moment = record { by = r; correct = correct; number = j; stand = y.stand; stood = y.stood };
        order = omega (arith, y.view_is);
        first = Passes-longer w.next x.stand.history y.stand.history m (later_front w lawful r i j x.stand y.stand correct order x.stood y.stood (x.view_is ∙ sym y.view_is)) x.passes;
        second = y.passes;
      }

  pub held_together : (view : ℕ) (m k : Mark) → IsHeld w view m → IsHeld w view k → Together w view m k
  held_together view m k a b =
      let both = both_said w lawful a.count b.count (Spec view m a.answer) (Spec view k b.answer) a.backed b.backed (quorums_meet a.count b.count a.quorum b.quorum) in
      let x = responded both.0 view m a.answer both.1 both.2 in
      let y = responded both.0 view k b.answer both.1 both.3 in
      elim (cases_lt both.2.1.when both.3.1.when) [
        | inl before ↦ both_at both.0 both.2.1.when both.3.1.when view m k both.1 (omega arith) x y
        | inr after ↦ Together-swapped (both_at both.0 both.3.1.when both.2.1.when view k m both.1 after y x)
      ]

  -- a correct history of the view itself passes it
  pub held_at : (view : ℕ) (m : Mark) → IsHeld w view m → (t : Moment w) × (t.stand.view ≡ view) × At t m
  held_at view m a =
      let one = one_said w lawful a.count (Spec view m a.answer) a.backed (one_of_quorum a.count a.quorum) in
      let at = responded one.0 view m a.answer one.1 one.2 in
      (record { by = one.0; correct = one.1; number = one.2.1.when; stand = at.stand; stood = at.stood }, at.view_is, at.passes)

  pub certified_held : (view : ℕ) (m : Mark) → IsCertified w view m → IsHeld w view m
  certified_held view m a = record { count = w.counts.cert; answer = a.0; backed = a.1; quorum = certificate refl }

  pub fixed_held : (view : ℕ) (m : Mark) → IsFixed w view m → IsHeld w view m
  fixed_held view m (fast a backed) = record { count = w.counts.fast; answer = a; backed = backed; quorum = everyone refl }
  fixed_held view m (slow a backed) = certified_held view m a
  fixed_held view m (stable state backed) =
      let one = one_said w lawful w.counts.local (Check view m state) backed local_has_one in
      certified_held view m (lawful.true_checks one.0 one.2.0 one.2.1 view m state one.1 one.2.2 one.2.3).vote.certified

  -- Two fixed marks of one view lie on one list.
  pub fixed_in_one_view : (view : ℕ) (m k : Mark) → IsFixed w view m → IsFixed w view k → m.place ≤ k.place → Extends w m k
  fixed_in_one_view view m k a b order =
      let both = held_together view m k (fixed_held view m a) (fixed_held view k b) in
      Extends-passed w lawful both.moment m k both.first both.second order

  pub fixed_known : (view : ℕ) (m : Mark) → IsFixed w view m → IsKnown w (view + 1) m
  fixed_known view m a =
      let one = held_at view m (fixed_held view m a) in
      record { moment = one.0; earlier = omega (arith, one.1); passes = one.2 }

  -- ---- and what the view's begin has

  below_held : (view : ℕ) (begin m k : Mark) → IsBegin w view begin → Extends w m begin → IsHeld w view k → Together w view m k
  below_held view begin m k is a b =
      let one = held_at view k b in
      record {
        moment = one.0;
        order = omega (arith, one.1);
        first = passed_below w lawful one.0 m begin a (begin_passed w lawful one.0 begin (subst (λ (v : ℕ). IsBegin w v begin) (sym one.1) is));
        second = one.2;
      }

  -- any two solid marks of a view lie on one correct history
  pub solid_together : (view : ℕ) (begin m k : Mark) → IsBegin w view begin → IsKnown w (view + 1) begin → IsSolid w view begin m → IsSolid w view begin k → Together w view m k
  solid_together view begin m k is known (below a) (below b) =
      record {
        moment = known.moment;
        order = omega (arith, known.earlier);
        first = passed_below w lawful known.moment m begin a known.passes;
        second = passed_below w lawful known.moment k begin b known.passes;
      }
  solid_together view begin m k is known (below a) (held b) = below_held view begin m k is a b
  solid_together view begin m k is known (held a) (below b) = Together-swapped (below_held view begin k m is b a)
  solid_together view begin m k is known (held a) (held b) = held_together view m k a b
