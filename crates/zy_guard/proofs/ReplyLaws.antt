-- The text of each reply, by its bytes.
use Rattle.std.proofs.Common.{◌≡◌, ℕ, zero, suc, ◌≤◌, Bool, true, false, cond, eqb, leb, ◌&&◌, List, [], ◌∷◌, ◌++◌, Result, Ok, Err, refl, sym, ap, ◌∙◌, arith}
use Rattle.std.specs.Prelude.{codes, IsErr}
use Rattle.std.specs.Fmt.{decimal}
use Rattle.std.proofs.lemmas.Bool.{and_parts, eqb-true, leb-true}
use Rattle.zy_base.specs.declared.frame_fault.FrameFault.{FrameFault}
use Rattle.zy_base.specs.declared.frame_fault.FrameFault.TheVariants.{Range}
use Rattle.zy_wire.specs.Spelling.{bytes_of, word_at}
use Rattle.zy_wire.proofs.Parts.{ok_is}
use Rattle.zy_tuple.specs.declared.values.Reply.{Reply}
use Rattle.zy_tuple.specs.Bytes.{reply_at, reply_in}
use Rattle.zy_tuple.proofs.BytesLaws.{reply_again}
use Rattle.zy_guard.specs.declared.values.Denial.{Denial}
use Rattle.zy_guard.specs.declared.values.Denial.TheVariants.{UnknownClient, OwnerNotReader, TakerNotReader, NotTaker}
use Rattle.zy_guard.specs.declared.values.GuardReply.{GuardReply}
use Rattle.zy_guard.specs.declared.values.GuardReply.TheVariants.{Plain, Denied}
use Rattle.zy_guard.specs.Bytes.{denial_bytes, guard_reply_bytes}
use Rattle.zy_guard.specs.GuardedSpace.{IsGuardReply, rule_of}
use Rattle.zy_guard.specs.Lines.{guard_reply_text, raw_text, other_text}

denied_none : (denial : Denial) → reply_in (denial_bytes denial) ≡ Err Range
unfolding reply_in reply_at word_at bytes_of
denied_none UnknownClient = refl
denied_none OwnerNotReader = refl
denied_none TakerNotReader = refl
denied_none NotTaker = refl

denied_bytes : (denial : Denial) → denial_bytes denial ≡ 7 ∷ rule_of denial ∷ []
unfolding bytes_of
denied_bytes UnknownClient = refl
denied_bytes OwnerNotReader = refl
denied_bytes TakerNotReader = refl
denied_bytes NotTaker = refl

denied_text : (denial : Denial) → other_text (7 ∷ rule_of denial ∷ []) ≡ guard_reply_text (Denied denial)
denied_text UnknownClient = refl
denied_text OwnerNotReader = refl
denied_text TakerNotReader = refl
denied_text NotTaker = refl

-- bytes that are read as a reply of the tuple space spell that one alone
pub plain_is : (bytes : List ℕ) (given : Reply) (reply : GuardReply) → IsGuardReply reply → bytes ≡ guard_reply_bytes reply → reply_in bytes ≡ Ok given → reply ≡ Plain given
plain_is bytes given (Plain reply) fits is read = ap Plain (ok_is reply given (sym (reply_again reply fits) ∙ ap reply_in (sym is) ∙ read))
plain_is bytes given (Denied denial) fits is read = let both : Err Range ≡ Ok given = sym (denied_none denial) ∙ ap reply_in (sym is) ∙ read in absurd (cc)

read_and_not : (read : Result Reply FrameFault) (reply : Reply) → IsErr read → read ≡ Ok reply → ⊥
read_and_not (Ok other) reply failed is = absurd (cc)
read_and_not (Err fault) reply failed is = absurd (cc)

-- other bytes that spell a reply spell a denial
pub other_is : (bytes : List ℕ) (reply : GuardReply) → IsGuardReply reply → bytes ≡ guard_reply_bytes reply → IsErr (reply_in bytes) → other_text bytes ≡ guard_reply_text reply
other_is bytes (Plain reply) fits is failed =
    absurd (read_and_not (reply_in bytes) reply failed (ap reply_in is ∙ reply_again reply fits))
other_is bytes (Denied denial) fits is failed = ap other_text (is ∙ denied_bytes denial) ∙ denied_text denial

rule_named : (rule : ℕ) → 1 ≤ rule → rule ≤ 4 → (denial : Denial) × (rule_of denial ≡ rule)
rule_named zero low high = absurd (omega (arith, low))
rule_named (suc zero) low high = (UnknownClient, refl)
rule_named (suc (suc zero)) low high = (OwnerNotReader, refl)
rule_named (suc (suc (suc zero))) low high = (TakerNotReader, refl)
rule_named (suc (suc (suc (suc zero)))) low high = (NotTaker, refl)
rule_named (suc (suc (suc (suc (suc rule))))) low high = absurd (omega (arith, high))

abbrev SpellsNone : List ℕ → Type 0
SpellsNone bytes = (reply : GuardReply) → IsGuardReply reply → bytes ≡ guard_reply_bytes reply → ⊥

two_raw : (kind rule : ℕ) (named : Bool) → (eqb kind 7 && (leb 1 rule && leb rule 4)) ≡ named → SpellsNone (kind ∷ rule ∷ [])
    → cond named (codes "denied " ++ decimal rule) (raw_text (kind ∷ rule ∷ [])) ≡ raw_text (kind ∷ rule ∷ [])
two_raw kind rule false is none = refl
two_raw kind rule true is none =
    let kinds = and_parts (eqb kind 7) (leb 1 rule && leb rule 4) is in
    let rules = and_parts (leb 1 rule) (leb rule 4) kinds.1 in
    let named = rule_named rule (leb-true 1 rule rules.0) (leb-true rule 4 rules.1) in
    let spelled : kind ∷ rule ∷ [] ≡ denial_bytes named.0 =
    ap (λ (k : ℕ). k ∷ rule ∷ []) (eqb-true kind 7 kinds.0) ∙ ap (λ (r : ℕ). 7 ∷ r ∷ []) (sym named.1) ∙ sym (denied_bytes named.0) in
    absurd (none (Denied named.0) tt spelled)

pub other_raw : (bytes : List ℕ) → ((reply : GuardReply) → IsGuardReply reply → bytes ≡ guard_reply_bytes reply → ⊥) → other_text bytes ≡ raw_text bytes
other_raw [] none = refl
other_raw (kind ∷ []) none = refl
other_raw (kind ∷ rule ∷ []) none = two_raw kind rule (eqb kind 7 && (leb 1 rule && leb rule 4)) refl none
other_raw (kind ∷ rule ∷ c ∷ bytes) none = refl
