use Rattle.std.proofs.Common.{◌≡◌, ◌<◌, List, [], ◌∷◌, ◌++◌, length, refl, sym, ap, ◌∙◌, subst, arith}
use Rattle.zy_slots.specs.Cells.{Cell, Kept, Cells, with_live, with_stack, Stands, IsLive, kept, relinked, CanRelink, CanTakeLast}
use Rattle.zy_cases.proofs.slots.goes_back.Goals as goal

module _ {T : Type 0} where
  three : (s s1 s2 s3 : Cells T) (a b c : Cell T) → s ≡ record { live = []; stack = [] } → s1 ≡ with_live s (s.live ++ a ∷ []) → s2 ≡ with_live s1 (s1.live ++ b ∷ []) → s3 ≡ with_live s2 (s2.live ++ c ∷ [])
      → s3 ≡ record { live = a ∷ b ∷ c ∷ []; stack = [] }
  three s s1 s2 s3 a b c none one two all =
      all ∙ ap (λ (v : Cells T). with_live v (v.live ++ c ∷ [])) (two ∙ ap (λ (v : Cells T). with_live v (v.live ++ b ∷ [])) (one ∙ ap (λ (v : Cells T). with_live v (v.live ++ a ∷ [])) none))

  second_live : (s : Cells T) (a b c : Cell T) → s ≡ record { live = a ∷ b ∷ c ∷ []; stack = [] } → IsLive s b.id
  second_live s a b c all = (a ∷ [], b, c ∷ [], record { split = ap (λ (v : Cells T). v.live) all; named = refl })

  -- without the second
  two_left : (s s' : Cells T) (a b c : Cell T) → s ≡ record { live = a ∷ b ∷ c ∷ []; stack = [] }
      → ((earlier : List (Cell T)) (cell : Cell T) (later : List (Cell T)) → Stands s b.id earlier cell later → s' ≡ record { live = earlier ++ later; stack = kept earlier cell later ∷ s.stack })
      → s' ≡ record { live = a ∷ c ∷ []; stack = kept (a ∷ []) b (c ∷ []) ∷ [] }
  two_left s s' a b c all moved =
      moved (a ∷ []) b (c ∷ []) (record { split = ap (λ (v : Cells T). v.live) all; named = refl })
      ∙ ap (λ (v : Cells T). let w : Cells T = record { live = a ∷ c ∷ []; stack = kept (a ∷ []) b (c ∷ []) ∷ v.stack } in w) all

  -- two unlinked ones are relinked
  back : (s s1 s2 r1 r2 : Cells T) → r2 ≡ relinked r1 → r1 ≡ relinked s2 → relinked s2 ≡ s1 → relinked s1 ≡ s → r2 ≡ s
  back s s1 s2 r1 r2 second first undo undo' = second ∙ ap relinked (first ∙ undo) ∙ undo'

  first_live : (s : Cells T) (a c : Cell T) (items : List (Kept T)) → s ≡ record { live = a ∷ c ∷ []; stack = items } → IsLive s a.id
  first_live s a c items left = ([], a, c ∷ [], record { split = ap (λ (v : Cells T). v.live) left; named = refl })

  some_kept : (s : Cells T) (live : List (Cell T)) (item : Kept T) → s ≡ record { live = live; stack = item ∷ [] } → 0 < length s.stack
  some_kept s live item left = subst (λ (v : Cells T). 0 < length v.stack) (sym left) (omega arith)

  can_take : (s s' : Cells T) (a c : Cell T) (item : Kept T) → s ≡ record { live = a ∷ c ∷ []; stack = item ∷ [] }
      → ((above : List (Kept T)) (lowest : Kept T) → s.stack ≡ above ++ lowest ∷ [] → s' ≡ with_stack s above) → CanTakeLast s'
  can_take s s' a c item left taken =
      let now : s' ≡ record { live = a ∷ c ∷ []; stack = [] } = taken [] item (ap (λ (v : Cells T). v.stack) left) ∙ ap (λ (v : Cells T). with_stack v []) left in
      subst CanTakeLast (sym now) (record { front = a ∷ []; last = c; split = refl; kept_by_none = tt })

pub unlink-requires : goal.unlink-requires
unlink-requires c = second_live _ _ _ _ (three _ _ _ _ _ _ _ c.new-slots.ensures c.in_ok-a.ensures c.in_ok-b.ensures c.in_ok-c.ensures)

pub unlink-requires-2 : goal.unlink-requires-2
unlink-requires-2 c =
    first_live _ _ _ _ (two_left _ _ _ _ _ (three _ _ _ _ _ _ _ c.new-slots.ensures c.in_ok-a.ensures c.in_ok-b.ensures c.in_ok-c.ensures) c.unlink.ensures.moved)

pub relink-requires : goal.relink-requires
relink-requires c = c.unlink-2.ensures.ready

pub relink-requires-2 : goal.relink-requires-2
relink-requires-2 c = subst CanRelink (sym (c.relink.ensures ∙ c.unlink-2.ensures.back)) c.unlink.ensures.ready

-- it is as it was before the first of the two
pub unlink-requires-3 : goal.unlink-requires-3
unlink-requires-3 c =
    second_live _ _ _ _ (back _ _ c.unlink-2.new.self _ _ c.relink-2.ensures c.relink.ensures c.unlink-2.ensures.back c.unlink.ensures.back
    ∙ three _ _ _ _ _ _ _ c.new-slots.ensures c.in_ok-a.ensures c.in_ok-b.ensures c.in_ok-c.ensures)

pub forget-forgotten-requires : goal.forget-forgotten-requires
forget-forgotten-requires c =
    some_kept _ _ _ (two_left _ _ _ _ _ (back _ _ c.unlink-2.new.self _ _ c.relink-2.ensures c.relink.ensures c.unlink-2.ensures.back c.unlink.ensures.back
    ∙ three _ _ _ _ _ _ _ c.new-slots.ensures c.in_ok-a.ensures c.in_ok-b.ensures c.in_ok-c.ensures) c.unlink-3.ensures.moved)

pub take_last-taken-requires : goal.take_last-taken-requires
take_last-taken-requires c =
    can_take _ _ _ _ _ (two_left _ _ _ _ _ (back _ _ c.unlink-2.new.self _ _ c.relink-2.ensures c.relink.ensures c.unlink-2.ensures.back c.unlink.ensures.back
    ∙ three _ _ _ _ _ _ _ c.new-slots.ensures c.in_ok-a.ensures c.in_ok-b.ensures c.in_ok-c.ensures) c.unlink-3.ensures.moved) c.forget-forgotten.ensures.taken
