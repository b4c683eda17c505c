use Rattle.std.proofs.Common.{rules, ◌≡◌, ℕ, suc, ◌+◌, List, ◌∷◌, [], ◌++◌, take, drop, sym, ap, ◌∙◌, subst, arith}
use Rattle.zy_base.specs.declared.ids.Digest.{Digest}
use Rattle.zy_chain.specs.Entries.{bytes_of_entry, digest_of_entry}
use Rattle.zy_chain.specs.Heads.{head_after, head_from}
use Rattle.zy_chain.specs.declared.entry.Entry.{Entry}
use Rattle.zy_world_law.specs.Texts.{entry_texts, link_text}
use Rattle.zy_world_setup.specs.Kept.{Keeps, Clashes}
use Rattle.zy_world_setup.proofs.KeptLemmas.{clashes_first, clashes_then, entries_next, entries_split, head_next, keeps_both}
use Rattle.zy_world_setup.proofs.kept.KeptTexts.keep_entries.Goals as goal

-- an entry's texts behind a head
abbrev two : Entry → Digest → List (List ℕ)
two e head = bytes_of_entry e ∷ link_text head e ∷ []

pub returns-in_err-head-clause-clash : goal.returns-in_err-head-clause-clash
returns-in_err-head-clause-clash c d err =
    let i = c.loop-entry.entry-index in
    let head = c.args.head in
    let entries = c.args.entries.now in
    let e = c.entry-item.result in
    let old = c.args.self.now in
    let mid = c.loop-entry.self in
    let before = take i entries in
    let rest = entry_texts (head_after (head_from head before) (digest_of_entry e)) (drop (suc i) entries) in
    subst (λ (l : List (List ℕ)). Clashes l old d) (sym (entries_split head entries i e c.loop-entry-test.true c.entry-item.is))
    (clashes_then (entry_texts head before) (two e (head_from head before) ++ rest) old mid d c.loop-entry.invariant.1
    (clashes_first (two e (head_from head before)) rest mid d
    (subst (λ (h : Digest). Clashes (two e h) mid d) c.loop-entry.invariant.0 (c.in_err-head.ensures.clash d (search rules)))))

pub loop-entry-preserved : goal.loop-entry-preserved
loop-entry-preserved c =
    let i = c.loop-entry.entry-index in
    let head = c.args.head in
    let entries = c.args.entries.now in
    let e = c.entry-item.result in
    let before = take i entries in
    let next : i + 1 ≡ suc i = omega arith in (
      c.in_ok-head.ensures.head
          ∙ ap (λ (h : Digest). head_after h (digest_of_entry e)) c.loop-entry.invariant.0
          ∙ sym (head_next head entries i e c.loop-entry-test.true c.entry-item.is)
          ∙ ap (λ (n : ℕ). head_from head (take n entries)) (sym next),
      subst (λ (n : ℕ). Keeps (entry_texts head (take n entries)) c.args.self.now c.keep_linked.new.self) (sym next)
          (subst (λ (l : List (List ℕ)). Keeps l c.args.self.now c.keep_linked.new.self) (sym (entries_next head entries i e c.loop-entry-test.true c.entry-item.is))
          (keeps_both (entry_texts head before) (two e (head_from head before)) c.args.self.now c.loop-entry.self c.keep_linked.new.self c.loop-entry.invariant.1
          (subst (λ (h : Digest). Keeps (two e h) c.loop-entry.self c.keep_linked.new.self) c.loop-entry.invariant.0 c.in_ok-head.ensures.keeps))),
    )
