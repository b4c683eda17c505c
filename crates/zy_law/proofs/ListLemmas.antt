-- Marks that one correct history passes lie on one list.
use Rattle.std.proofs.Common.{◌≡◌, ◌≤◌, List, take, refl, sym, ap, ◌∙◌, subst, arith}
use Rattle.std.specs.Prelude.{fold}
use Rattle.std.proofs.lemmas.List.{length-take-le, take-take, take_all}
use Rattle.zy_chain.specs.declared.entry.Entry.{Entry}
use Rattle.zy_chain.specs.Heads.{empty_head}
use Rattle.zy_chain.specs.Stretch.{Mark}
use Rattle.zy_law.specs.Histories.{origin}
use Rattle.zy_law.specs.World.{World}
use Rattle.zy_law.specs.Said.{Moment, At}
use Rattle.zy_law.specs.Lawful.{IsLawful}
use Rattle.zy_law.specs.Lists.{IsListOf, Extends}
use Rattle.zy_law.proofs.HistoryLemmas.{same_texts, AreKept-take}

module _ (w : World) (lawful : IsLawful w) where
  -- the list of a mark that a correct history passes
  pub list_passed : (t : Moment w) (m : Mark) → At t m → IsListOf w m (take m.place t.stand.history)
  list_passed t m passes =
      record {
        long = length-take-le m.place t.stand.history passes.within;
        head = passes.head;
        texts = AreKept-take w.kept w.next m.place empty_head t.stand.history (lawful.texts t);
      }

  -- a mark has one list
  pub one_list : (m : Mark) (xs ys : List Entry) → IsListOf w m xs → IsListOf w m ys → xs ≡ ys
  one_list m xs ys a b =
      (same_texts w.kept w.next lawful.one_text empty_head empty_head xs ys (a.long ∙ sym b.long) a.texts b.texts (a.head ∙ sym b.head)).1

  pub passed_fronts : (t s : Moment w) (m : Mark) → At t m → At s m → take m.place t.stand.history ≡ take m.place s.stand.history
  passed_fronts t s m x y = one_list m _ _ (list_passed t m x) (list_passed s m y)

  pub Extends-itself : (m : Mark) → Extends w m m
  Extends-itself m = record { order = omega arith; front = λ list is. subst (λ (l : List Entry). IsListOf w m l) (sym (take_all m.place list (omega (arith, is.long)))) is }

  pub Extends-further : (a b c : Mark) → Extends w a b → Extends w b c → Extends w a c
  Extends-further a b c x y =
      record {
        order = omega (arith, x.order, y.order);
        front = λ list is. subst (λ (l : List Entry). IsListOf w a l) (take-take a.place b.place list x.order) (x.front (take b.place list) (y.front list is));
      }

  pub Extends-origin : (m : Mark) → Extends w origin m
  Extends-origin m = record { order = omega arith; front = λ list is. record { long = refl; head = refl; texts = tt } }

  -- two marks that one correct history passes
  pub Extends-passed : (t : Moment w) (near far : Mark) → At t near → At t far → near.place ≤ far.place → Extends w near far
  Extends-passed t near far x y order =
      record {
        order = order;
        front = λ list is.
            let whole : list ≡ take far.place t.stand.history = one_list far list (take far.place t.stand.history) is (list_passed t far y) in
            let front : take near.place t.stand.history ≡ take near.place list =
            sym (ap (λ (l : List Entry). take near.place l) whole ∙ take-take near.place far.place t.stand.history order) in
            subst (λ (l : List Entry). IsListOf w near l) front (list_passed t near x);
      }

  pub passed_below : (t : Moment w) (near far : Mark) → Extends w near far → At t far → At t near
  passed_below t near far x y =
      let is = x.front (take far.place t.stand.history) (list_passed t far y) in
      record {
        within = omega (arith, x.order, y.within);
        head = sym (ap (λ (l : List Entry). fold w.next empty_head l) (take-take near.place far.place t.stand.history x.order)) ∙ is.head;
      }
