use Rattle.std.proofs.Common.{rules, ◌≡◌, ◌∙◌, sym, ap, subst, arith, List, ℕ, ◌<◌, length, take}
use Rattle.std.specs.List.{prefix_len}
use Rattle.std.proofs.lemmas.List.Sums.{prefix_len-le-length}
use Rattle.zy_tuple.specs.Reading.{is_plain, short_text}
use Rattle.zy_tuple.proofs.Quoted.{quoted-plain, behind-long}
use Rattle.zy_tuple.proofs.reading.text_of.Goals as goal

pub split_at-requires : goal.split_at-requires
split_at-requires c = rw c.plain_len.ensures (prefix_len-le-length is_plain c.args.line.now)

pub returns-then-plain-gt-TEXT_LIMIT : goal.returns-then-plain-gt-TEXT_LIMIT
returns-then-plain-gt-TEXT_LIMIT c =
    let front : c.split_at.result.0.now ≡ take (prefix_len is_plain c.args.line.now) c.args.line.now = c.split_at.ensures.front ∙ ap (λ (n : ℕ). take n c.args.line.now) c.plain_len.ensures in
    ap short_text (sym (quoted-plain c.args.line.now))
    ∙ behind-long (take (prefix_len is_plain c.args.line.now) c.args.line.now) _ (subst (λ (text : List ℕ). 64 < length text) front c.if-plain-gt-TEXT_LIMIT.true)

pub characters-init : goal.characters-init
characters-init c =
    let plain : c.in_ok-text.text.items ≡ c.split_at.result.0.now = search rules in
    record {
      so_far = rw plain (rw c.split_at.ensures.front (rw c.split_at.ensures.back (rw c.plain_len.ensures (quoted-plain c.args.line.now))));
      short = rw plain (omega (arith, c.if-plain-gt-TEXT_LIMIT.false));
    }
