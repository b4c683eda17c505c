-- One place more or less in a ring.
use Rattle.std.proofs.Common.{◌≡◌, ◌≢◌, ◌⊎◌, ℕ, ◌+◌, ◌<◌, ◌≤◌, List, [], ◌∷◌, ◌++◌, Option, Some, None, refl, sym, ap, ◌∙◌, subst, inl, inr, arith, append_assoc, append-nil}
use Rattle.zy_slots.specs.declared.link.Link.{Link}
use Rattle.zy_slots.specs.Rings.{first_of, last_of, between, IsRing}
use Rattle.zy_slots.specs.Columns.{IsJoined, IsDetached, IsAttached}
use Rattle.zy_slots.specs.Shape.{times}
use Rattle.zy_slots.proofs.PutLemmas.{next_of, prev_of, same_link}
use Rattle.zy_slots.proofs.TimesLemmas.{times-append, times_there, not_there, first_among, last_among, last-append, some_last, split_cases}

-- a ring whose links are the same
pub ring_same : (at at' : Option ℕ → Link) (places : List ℕ) → IsRing at places → at' None ≡ at None
    → ((place : ℕ) → 0 < times place places → at' (Some place) ≡ at (Some place)) → IsRing at' places
ring_same at at' places ring ends links =
    record {
      ends = ends ∙ ring.ends;
      links = λ earlier place later split.
          let there : times place places ≡ times place earlier + 1 + times place later = ap (times place) split ∙ times_there earlier place later in
          links place (omega arith) ∙ ring.links earlier place later split;
    }

-- before the joint
left_side : (at at' : Option ℕ → Link) (earlier : List ℕ) (place : ℕ) (rest others others' : List ℕ) (right before : Option ℕ)
    → IsJoined at at' (last_of (earlier ++ place ∷ rest)) right (first_of others') before → Some place ≢ right → times place rest ≡ 0
    → at (Some place) ≡ between earlier (rest ++ others) → at' (Some place) ≡ between earlier (rest ++ others')
left_side at at' earlier place [] others others' right before joined apart once was =
    let here : (at' (Some place)).next ≡ first_of others' = subst (λ (left : Option ℕ). (at' left).next ≡ first_of others') (last-append None earlier place []) joined.next in
    same_link _ _ (joined.prev_stays (Some place) apart ∙ ap prev_of was) here
left_side at at' earlier place (other ∷ rest) others others' right before joined apart once was =
    let last : last_of (earlier ++ place ∷ other ∷ rest) ≡ last_of (other ∷ rest) = last-append None earlier place (other ∷ rest) in
    let elsewhere : Some place ≢ last_of (earlier ++ place ∷ other ∷ rest) =
    λ same. not_there place (other ∷ rest) (last_of (other ∷ rest)) (last_among (other ∷ rest)) once (same ∙ last) in
    same_link _ _ (joined.prev_stays (Some place) apart ∙ ap prev_of was) (joined.next_stays (Some place) elsewhere ∙ ap next_of was)

-- behind the joint
right_side : (at at' : Option ℕ → Link) (rest : List ℕ) (place : ℕ) (later others others' : List ℕ) (left after : Option ℕ)
    → IsJoined at at' left (first_of (rest ++ place ∷ later)) after (last_of others') → Some place ≢ left → times place rest ≡ 0
    → at (Some place) ≡ between (others ++ rest) later → at' (Some place) ≡ between (others' ++ rest) later
right_side at at' [] place later others others' left after joined apart once was =
    same_link _ _ (joined.prev ∙ ap last_of (sym (append-nil others'))) (joined.next_stays (Some place) apart ∙ ap next_of was)
right_side at at' (other ∷ rest) place later others others' left after joined apart once was =
    let elsewhere : Some place ≢ Some other = not_there place (other ∷ rest) (Some other) (first_among (other ∷ rest)) once in
    same_link _ _
    (joined.prev_stays (Some place) elsewhere ∙ ap prev_of was ∙ last-append None others other rest ∙ sym (last-append None others' other rest))
    (joined.next_stays (Some place) apart ∙ ap next_of was)

-- the ring's own link
next_end : (at at' : Option ℕ → Link) (front others others' : List ℕ) (right before : Option ℕ)
    → IsJoined at at' (last_of front) right (first_of others') before → (at None).next ≡ first_of (front ++ others) → (at' None).next ≡ first_of (front ++ others')
next_end at at' [] others others' right before joined was = joined.next
next_end at at' (place ∷ front) others others' right before joined was =
    joined.next_stays None (λ same. some_last place front (sym same)) ∙ was

prev_end : (at at' : Option ℕ → Link) (back others others' : List ℕ) (left after : Option ℕ)
    → IsJoined at at' left (first_of back) after (last_of others') → (at None).prev ≡ last_of (others ++ back) → (at' None).prev ≡ last_of (others' ++ back)
prev_end at at' [] others others' left after joined was = joined.prev ∙ ap last_of (sym (append-nil others'))
prev_end at at' (place ∷ back) others others' left after joined was =
    joined.prev_stays None (λ same. cc) ∙ was ∙ last-append None others place back ∙ sym (last-append None others' place back)

-- other places in the middle of a ring
pub rejoined : (at at' : Option ℕ → Link) (front middle middle' back : List ℕ)
    → IsRing at (front ++ (middle ++ back)) → ((place : ℕ) → times place front + times place back ≤ 1)
    → IsJoined at at' (last_of front) (first_of back) (first_of (middle' ++ back)) (last_of (front ++ middle'))
    → ((earlier : List ℕ) (place : ℕ) (later : List ℕ) → middle' ≡ earlier ++ place ∷ later → at' (Some place) ≡ between (front ++ earlier) (later ++ back))
    → IsRing at' (front ++ (middle' ++ back))
rejoined at at' front middle middle' back ring once joined members =
    record {
      ends = same_link _ _
          (prev_end at at' back (front ++ middle) (front ++ middle') _ _ joined (ap prev_of ring.ends ∙ ap last_of (sym (append_assoc front middle back))) ∙ ap last_of (append_assoc front middle' back))
          (next_end at at' front (middle ++ back) (middle' ++ back) _ _ joined (ap next_of ring.ends));
      links = λ earlier place later split. elim (split_cases front (middle' ++ back) earlier place later split) [
        | inl found ↦ in_front earlier place later found.0 found.1 found.2
        | inr found ↦ elim (split_cases middle' back found.0 place later found.2) [
          | inl within ↦
              subst (λ (list : List ℕ). at' (Some place) ≡ between list later) (sym found.1)
              (subst (λ (list : List ℕ). at' (Some place) ≡ between (front ++ found.0) list) (sym within.2) (members found.0 place within.0 within.1))
          | inr behind ↦
              let split' : earlier ≡ front ++ middle' ++ behind.0 = found.1 ∙ ap (λ (list : List ℕ). front ++ list) behind.1 ∙ sym (append_assoc front middle' behind.0) in
              subst (λ (list : List ℕ). at' (Some place) ≡ between list later) (sym split') (in_back place later behind.0 behind.2)
        ]
      ];
    }
  where
    in_front : (earlier : List ℕ) (place : ℕ) (later rest : List ℕ) → front ≡ earlier ++ place ∷ rest → later ≡ rest ++ (middle' ++ back) → at' (Some place) ≡ between earlier later
    in_front earlier place later rest split split' =
        let there : times place front ≡ times place earlier + 1 + times place rest = ap (times place) split ∙ times_there earlier place rest in
        let few = once place in
        let whole : front ++ (middle ++ back) ≡ earlier ++ place ∷ (rest ++ (middle ++ back)) =
        ap (λ (list : List ℕ). list ++ (middle ++ back)) split ∙ append_assoc earlier (place ∷ rest) (middle ++ back) in
        let joined' : IsJoined at at' (last_of (earlier ++ place ∷ rest)) (first_of back) (first_of (middle' ++ back)) (last_of (front ++ middle')) =
        subst (λ (list : List ℕ). IsJoined at at' (last_of list) (first_of back) (first_of (middle' ++ back)) (last_of (front ++ middle'))) split joined in
        subst (λ (list : List ℕ). at' (Some place) ≡ between earlier list) (sym split')
        (left_side at at' earlier place rest (middle ++ back) (middle' ++ back) (first_of back) _ joined'
        (not_there place back (first_of back) (first_among back) (omega arith)) (omega arith) (ring.links earlier place (rest ++ (middle ++ back)) whole))

    in_back : (place : ℕ) (later rest : List ℕ) → back ≡ rest ++ place ∷ later → at' (Some place) ≡ between (front ++ middle' ++ rest) later
    in_back place later rest split =
        let there : times place back ≡ times place rest + 1 + times place later = ap (times place) split ∙ times_there rest place later in
        let few = once place in
        let whole : front ++ (middle ++ back) ≡ (front ++ middle ++ rest) ++ place ∷ later =
        sym (append_assoc front middle back) ∙ ap (λ (list : List ℕ). front ++ middle ++ list) split ∙ sym (append_assoc (front ++ middle) rest (place ∷ later)) in
        let joined' : IsJoined at at' (last_of front) (first_of (rest ++ place ∷ later)) (first_of (middle' ++ back)) (last_of (front ++ middle')) =
        subst (λ (list : List ℕ). IsJoined at at' (last_of front) (first_of list) (first_of (middle' ++ back)) (last_of (front ++ middle'))) split joined in
        right_side at at' rest place later (front ++ middle) (front ++ middle') (last_of front) _ joined'
        (not_there place front (last_of front) (last_among front) (omega arith)) (omega arith) (ring.links (front ++ middle ++ rest) place later whole)

-- a place is taken out
pub detached : (at at' : Option ℕ → Link) (front : List ℕ) (place : ℕ) (back : List ℕ)
    → IsRing at (front ++ place ∷ back) → ((other : ℕ) → times other (front ++ place ∷ back) ≤ 1) → IsDetached at at' place → IsRing at' (front ++ back)
detached at at' front place back ring once joined =
    let own = ring.links front place back refl in
    rejoined at at' front (place ∷ []) [] back ring
    (λ other. let few = once other in omega (arith, times-append other front (place ∷ back)))
    (subst (λ (list : List ℕ). IsJoined at at' (last_of front) (first_of back) (first_of back) (last_of list)) (sym (append-nil front))
    (subst (λ (link : Link). IsJoined at at' link.prev link.next link.next link.prev) own joined))
    (λ earlier other later split. absurd (no_split earlier other later split))
  where
    no_split : (earlier : List ℕ) (other : ℕ) (later : List ℕ) → [] ≡ earlier ++ other ∷ later → ⊥
    no_split [] other later split = cc
    no_split (x ∷ earlier) other later split = cc

-- the links of other places stay
pub joined_elsewhere : (at at' : Option ℕ → Link) (left right after before other : Option ℕ) → IsJoined at at' left right after before
    → other ≢ left → other ≢ right → at' other ≡ at other
joined_elsewhere at at' left right after before other joined not_left not_right =
    same_link _ _ (joined.prev_stays other not_right) (joined.next_stays other not_left)

pub detached_elsewhere : (at at' : Option ℕ → Link) (front : List ℕ) (place : ℕ) (back : List ℕ) (other : ℕ)
    → IsRing at (front ++ place ∷ back) → IsDetached at at' place → times other front ≡ 0 → times other back ≡ 0 → at' (Some other) ≡ at (Some other)
detached_elsewhere at at' front place back other ring joined not_front not_back =
    let own = ring.links front place back refl in
    joined_elsewhere at at' _ _ _ _ (Some other) (subst (λ (link : Link). IsJoined at at' link.prev link.next link.next link.prev) own joined)
    (not_there other front (last_of front) (last_among front) not_front) (not_there other back (first_of back) (first_among back) not_back)

pub attached_elsewhere : (at at' : Option ℕ → Link) (front : List ℕ) (place : ℕ) (back : List ℕ) (other : ℕ)
    → IsAttached at at' place (between front back) → other ≢ place → times other front ≡ 0 → times other back ≡ 0 → at' (Some other) ≡ at (Some other)
attached_elsewhere at at' front place back other attached apart not_front not_back =
    joined_elsewhere attached.middle at' _ _ _ _ (Some other) attached.joined
    (not_there other front (last_of front) (last_among front) not_front) (not_there other back (first_of back) (first_among back) not_back)
    ∙ attached.put.elsewhere (Some other) (λ same. apart (cc))

pub attached_own : (at at' : Option ℕ → Link) (front : List ℕ) (place : ℕ) (back : List ℕ) → IsAttached at at' place (between front back)
    → times place front ≡ 0 → times place back ≡ 0 → at' (Some place) ≡ between front back
attached_own at at' front place back attached not_front not_back =
    joined_elsewhere attached.middle at' _ _ _ _ (Some place) attached.joined
    (not_there place front (last_of front) (last_among front) not_front) (not_there place back (first_of back) (first_among back) not_back)
    ∙ attached.put.here

-- a place is put in
pub attached : (at at' : Option ℕ → Link) (front : List ℕ) (place : ℕ) (back : List ℕ)
    → IsRing at (front ++ back) → ((other : ℕ) → times other front + times other back ≤ 1) → times place front ≡ 0 → times place back ≡ 0
    → IsAttached at at' place (between front back) → IsRing at' (front ++ place ∷ back)
attached at at' front place back ring once not_front not_back put =
    let ring' : IsRing put.middle (front ++ back) =
    ring_same at put.middle (front ++ back) ring (put.put.elsewhere None (λ same. cc))
    (λ other some. put.put.elsewhere (Some other) (λ same.
    let equal : other ≡ place = cc in
    let there : 0 < times place (front ++ back) = subst (λ (at : ℕ). 0 < times at (front ++ back)) equal some in
    omega (arith, times-append place front back))) in
    rejoined put.middle at' front [] (place ∷ []) back ring' once
    (subst (λ (o : Option ℕ). IsJoined put.middle at' (last_of front) (first_of back) (Some place) o) (sym (last-append None front place [])) put.joined)
    (λ earlier other later split. only earlier other later split)
  where
    only : (earlier : List ℕ) (other : ℕ) (later : List ℕ) → place ∷ [] ≡ earlier ++ other ∷ later → at' (Some other) ≡ between (front ++ earlier) (later ++ back)
    only [] other later split =
        let same : place ≡ other = cc in
        let none : [] ≡ later = cc in
        subst (λ (list : List ℕ). at' (Some other) ≡ between (front ++ []) (list ++ back)) none
        (subst (λ (list : List ℕ). at' (Some other) ≡ between list back) (sym (append-nil front))
        (subst (λ (at : ℕ). at' (Some at) ≡ between front back) same (attached_own at at' front place back put not_front not_back)))
    only (x ∷ []) other later split = absurd (cc)
    only (x ∷ y ∷ earlier) other later split = absurd (cc)
