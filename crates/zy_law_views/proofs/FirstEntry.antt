-- The entry that client 0 asked for: its link is the only one that is kept, and a replica that begins may run it.
use Rattle.std.proofs.Common.{◌≡◌, ℕ, ◌-◌, ◌<◌, inr, nat_eq, Bool, true, List, [], ◌∷◌, ◌&&◌, length, Some, refl, sym, ap, ◌∙◌, subst, arith, eqb-true}
use Rattle.std.specs.Prelude.{Contains, slice_get}
use Rattle.std.proofs.lemmas.Bool.{and_parts}
use Rattle.std.proofs.lemmas.Option.{same_Some, slice_get_within}
use Rattle.zy_base.specs.declared.bytes.Bytes.{Bytes}
use Rattle.zy_base.specs.declared.ids.ClientId.{ClientId}
use Rattle.zy_base.specs.declared.ids.Digest.{Digest}
use Rattle.zy_base.specs.declared.ids.Stamp.{Stamp}
use Rattle.zy_cert.specs.Equal.{digest-equal, same_digest}
use Rattle.zy_chain.specs.Heads.{empty_head}
use Rattle.zy_chain.specs.declared.entry.Entry.{Entry}
use Rattle.zy_choose.specs.Marks.{link}
use Rattle.zy_law.specs.Example.{first_entry}
use Rattle.zy_law.specs.Histories.{HaveOneText}
use Rattle.zy_law.specs.Lawful.{AreAskedFor}
use Rattle.zy_law.specs.World.{Spoken, World}
use Rattle.zy_law_views.specs.Tied.{Core, IsRunnableNext}
use Rattle.zy_law_views.proofs.CommonPlaces.{same_itself}
use Rattle.zy_law_views.specs.Example.{is_first_link}

pub is_first : (head : Digest) (e : Entry) → is_first_link head e ≡ true → (head ≡ empty_head) × (e ≡ first_entry)
is_first head e is =
    let both = and_parts (same_digest head empty_head) _ is in
    let rest = and_parts (nat_eq e.client.0 0) _ both.1 in
    let last = and_parts (nat_eq e.stamp.0 1) _ rest.1 in
    let client : e.client ≡ first_entry.client = ap (λ (n : ℕ). record { 0 = n }) (eqb-true e.client.0 0 rest.0) in
    let stamp : e.stamp ≡ first_entry.stamp = ap (λ (n : ℕ). record { 0 = n }) (eqb-true e.stamp.0 1 last.0) in
    let op : e.op ≡ [] = none e.op (eqb-true (length e.op) 0 last.1) in
    let whole : record { client = e.client; stamp = e.stamp; op = e.op } ≡ first_entry =
    ap (λ (c : ClientId). record { client = c; stamp = e.stamp; op = e.op }) client
    ∙ ap (λ (t : Stamp). record { client = first_entry.client; stamp = t; op = e.op }) stamp
    ∙ ap (λ (l : Bytes). record { client = first_entry.client; stamp = first_entry.stamp; op = l }) op in
    ((digest-equal head empty_head).0 both.0, whole)
  where
    none : (l : List ℕ) → length l ≡ 0 → l ≡ []
    none [] short = refl
    none (x ∷ l) short = absurd (omega arith)

-- one head has one text
pub one_link : HaveOneText is_first_link link
one_link h k d e first second same =
    let a = is_first h d first in
    let b = is_first k e second in
    (a.0 ∙ sym b.0, a.1 ∙ sym b.1)

pub first_linked : is_first_link empty_head first_entry ≡ true
first_linked = ap (λ (b : Bool). b && true) (same_itself empty_head)

-- a replica that said nothing and ran nothing may run it
pub first_runs : {S : Type 0} (interval : ℕ) (w : World) (r : ℕ) (c : Core S) → 0 < interval → Contains (w.asked 0) first_entry → w.kept empty_head first_entry ≡ true → w.said r ≡ [] → length c.kept.entries ≡ 0 → c.kept.base.place ≡ 0
    → IsRunnableNext interval w r c [] first_entry
first_runs interval w r c some asks linked silent none base =
    record {
      asked = asked_there;
      link = linked;
      ordered = λ number x m request says what low. let never : slice_get [] number ≡ Some x = ap (λ (l : List Spoken). slice_get l number) (sym silent) ∙ says in absurd cc;
      client = omega arith;
      room = omega (arith, none);
      end = omega (arith, none, base);
    }
  where
    asked_there : AreAskedFor w 0 (first_entry ∷ [])
    asked_there place e past at =
        let within = slice_get_within (first_entry ∷ []) (place - 1) e at.there in
        let zero_is : 0 ≡ place - 1 = omega arith in
        let same : first_entry ≡ e = same_Some first_entry e (ap (slice_get (first_entry ∷ [])) zero_is ∙ at.there) in
        record {
          asked = inr (subst (λ (d : Entry). Contains (w.asked d.client.0) d) same asks);
          newer = λ earlier d before there. let first = there.first in absurd (omega arith);
        }
