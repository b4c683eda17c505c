-- Texts kept one after another.
use Rattle.std.proofs.Common.{◌≡◌, ◌≢◌, ℕ, zero, suc, ◌<◌, length, take, drop, get_or, Bool, true, false, cond, List, [], ◌∷◌, ◌++◌, Option, Some, None, Result, Ok, Err, refl, sym, ap, ◌∙◌, append_assoc, subst, arith}
use Rattle.std.specs.Cmp.Lexicographic.{nat_list_eq_equiv}
use Rattle.std.specs.Int.{w16, w32, w64, to_be_bytes}
use Rattle.std.specs.List.{flat_map}
use Rattle.std.specs.Option.{option_map_or}
use Rattle.std.specs.Prelude.{IfErr, IsOk}
use Rattle.std.specs.Str.{bytes_eq}
use Rattle.std.proofs.lemmas.Bool.{false≢true}
use Rattle.std.proofs.lemmas.List.{append-nil}
use Rattle.zy_base.specs.declared.ids.ClientId.{ClientId}
use Rattle.zy_base.specs.declared.ids.Digest.{Digest}
use Rattle.zy_base.specs.declared.ids.Stamp.{Stamp}
use Rattle.zy_admit.specs.Judging.{same_digest}
use Rattle.zy_book.specs.Texts.{text_under, with_text}
use Rattle.zy_book.specs.declared.fault.KeepFault.{KeepFault}
use Rattle.zy_book.specs.declared.fault.KeepFault.TheVariants.{Clash, Want}
use Rattle.zy_chain.specs.Entries.{bytes_of_entry, bytes_of_request, digest_of_entry, digest_of_request}
use Rattle.zy_chain.specs.Heads.{empty_head, head_after, head_from}
use Rattle.zy_chain.specs.declared.entry.Entry.{Entry}
use Rattle.zy_table.specs.declared.deeds.Got.{Got}
use Rattle.zy_world_law.specs.Texts.{digest_of, entry_texts, got_texts, link_text, snapshot_texts, keep, keep_all, keep_beside, and_then}
use Rattle.zy_world_law.specs.World.{Texts, first_texts}
use Rattle.zy_world_law.proofs.Tests.{bytes_same, digest_is as alike, same_bytes}
use Rattle.zy_world_setup.specs.Kept.{Pairs, IsShown, Keeps, Clashes, look_up}

-- the texts that pairs show are their look-up
pub shown_is : (texts : Texts) (pairs : Pairs) → IsShown texts pairs → texts ≡ look_up pairs
shown_is texts pairs shown = λ j d. shown d j

bound : (r : Result Texts Digest) (more b : List (List ℕ)) → ((texts : Texts) → keep_all (more ++ b) texts ≡ and_then (keep_all more texts) (keep_all b))
    → and_then r (keep_all (more ++ b)) ≡ and_then (and_then r (keep_all more)) (keep_all b)
bound (Ok texts) more b rest = rest texts
bound (Err d) more b rest = refl

-- one list of texts after another
pub keep_all-append : (a b : List (List ℕ)) (texts : Texts) → keep_all (a ++ b) texts ≡ and_then (keep_all a texts) (keep_all b)
keep_all-append [] b texts = refl
keep_all-append (text ∷ more) b texts = bound (keep texts text) more b (keep_all-append more b)

pub keeps_none : (pairs : Pairs) → Keeps [] pairs pairs
keeps_none pairs texts shown = (texts, refl, shown)

pub keeps_both : (a b : List (List ℕ)) (old mid new : Pairs) → Keeps a old mid → Keeps b mid new → Keeps (a ++ b) old new
keeps_both a b old mid new first second texts shown =
    let one = first texts shown in
    let two = second one.0 one.2 in
    (two.0, keep_all-append a b texts ∙ ap (λ (r : Result Texts Digest). and_then r (keep_all b)) one.1 ∙ two.1, two.2)

-- a clash in the first of two lists, and in the second
pub clashes_first : (a b : List (List ℕ)) (old : Pairs) (d : Digest) → Clashes a old d → Clashes (a ++ b) old d
clashes_first a b old d clash texts shown = keep_all-append a b texts ∙ ap (λ (r : Result Texts Digest). and_then r (keep_all b)) (clash texts shown)

pub clashes_then : (a b : List (List ℕ)) (old mid : Pairs) (d : Digest) → Keeps a old mid → Clashes b mid d → Clashes (a ++ b) old d
clashes_then a b old mid d first clash texts shown =
    let one = first texts shown in
    keep_all-append a b texts ∙ ap (λ (r : Result Texts Digest). and_then r (keep_all b)) one.1 ∙ clash one.0 one.2

-- ---- one text

abbrev one : Texts → List ℕ → Option (List ℕ) → Result Texts Digest
one texts text kept = and_then (keep_beside texts text kept) (keep_all [])

abbrev beside : Texts → List ℕ → Bool → Result Texts Digest
beside texts text same = and_then (cond same (Ok texts) (Err (digest_of text))) (keep_all [])

symm : (a b : Digest) → same_digest a b ≡ same_digest b a
symm a b = nat_list_eq_equiv.symm a.0 b.0

module _ (old : Pairs) (text : List ℕ) where
  pub keeps_same : look_up old (digest_of text) ≡ Some text → Keeps (text ∷ []) old old
  keeps_same there texts shown =
      (texts, ap (one texts text) (shown (digest_of text) ∙ there) ∙ ap (beside texts text) (bytes_same text), shown)

  pub clashes_other : (kept : List ℕ) → look_up old (digest_of text) ≡ Some kept → bytes_eq kept text ≡ false → Clashes (text ∷ []) old (digest_of text)
  clashes_other kept there differs texts shown =
      ap (one texts text) (shown (digest_of text) ∙ there) ∙ ap (beside texts text) differs

  pub keeps_fresh : (new : Pairs) → look_up old (digest_of text) ≡ None
      → ((q : Digest) → look_up new q ≡ cond (same_digest (digest_of text) q) (Some text) (look_up old q)) → Keeps (text ∷ []) old new
  keeps_fresh new free updates texts shown = (
    _,
    ap (one texts text) (shown (digest_of text) ∙ free),
    λ d. ap (λ (b : Bool). cond b (Some text) (texts d)) (symm d (digest_of text))
        ∙ ap (λ (o : Option (List ℕ)). cond (same_digest (digest_of text) d) (Some text) o) (shown d)
        ∙ sym (updates d),
  )

-- a text more, under a digest that had none
two_heads : (p : Digest × List ℕ) (d q : Digest) (text : List ℕ) (found rest : Option (List ℕ)) → same_digest d p.0 ≡ false → found ≡ cond (same_digest d q) (Some text) rest
    → cond (same_digest q p.0) (Some p.1) found ≡ cond (same_digest d q) (Some text) (cond (same_digest q p.0) (Some p.1) rest)
two_heads p d q text found rest other is = ap (λ (o : Option (List ℕ)). cond (same_digest q p.0) (Some p.1) o) is ∙ by (same_digest d q) refl
  where
    by : (b : Bool) → same_digest d q ≡ b → cond (same_digest q p.0) (Some p.1) (cond b (Some text) rest) ≡ cond b (Some text) (cond (same_digest q p.0) (Some p.1) rest)
    by true same = ap (λ (b : Bool). cond b (Some p.1) (Some text)) (sym (ap (λ (e : Digest). same_digest e p.0) (alike d q same)) ∙ other)
    by false differs = refl

abbrev LooksUp : Pairs → Digest → List ℕ → Digest → Type 0
LooksUp old d text q = look_up (old ++ (d, text) ∷ []) q ≡ cond (same_digest d q) (Some text) (look_up old q)

looks_up_next : (p : Digest × List ℕ) (ps : Pairs) (d : Digest) (text : List ℕ) (q : Digest) (c : Bool) → same_digest d p.0 ≡ c → look_up (p ∷ ps) d ≡ None
    → (look_up ps d ≡ None → LooksUp ps d text q) → LooksUp (p ∷ ps) d text q
looks_up_next p ps d text q true here free rest =
    let taken : Some p.1 ≡ None = sym (ap (λ (b : Bool). cond b (Some p.1) (look_up ps d)) here) ∙ free in
    absurd cc
looks_up_next p ps d text q false other free rest =
    two_heads p d q text (look_up (ps ++ (d, text) ∷ []) q) (look_up ps q) other (rest (sym (ap (λ (b : Bool). cond b (Some p.1) (look_up ps d)) other) ∙ free))

looks_up_last : (old : Pairs) (d : Digest) (text : List ℕ) (q : Digest) → look_up old d ≡ None → LooksUp old d text q
looks_up_last [] d text q free = ap (λ (b : Bool). cond b (Some text) None) (symm q d)
looks_up_last (p ∷ ps) d text q free = looks_up_next p ps d text q (same_digest d p.0) refl free (looks_up_last ps d text q)

-- what a book answers that is to keep a text under its own digest
module _ {T : Type 0} (old new : Pairs) (text : List ℕ) (r : Result T KeepFault)
    (known : text_under old (digest_of text) ≡ Some text → IsOk r)
    (other : (kept : List ℕ) → text_under old (digest_of text) ≡ Some kept → kept ≢ text → r ≡ Err Clash)
    (fresh : text_under old (digest_of text) ≡ None → IfErr r (λ fault. fault ≡ Want)) where
  differs_from : (kept : List ℕ) → bytes_eq kept text ≡ false → kept ≢ text
  differs_from kept differs same = false≢true (sym differs ∙ ap (λ (l : List ℕ). bytes_eq l text) same ∙ bytes_same text)

  book_keeps : IsOk r → new ≡ with_text old (digest_of text) text → Keeps (text ∷ []) old new
  book_keeps ok is = by (look_up old (digest_of text)) refl
    where
      there : (kept : List ℕ) (same : Bool) → look_up old (digest_of text) ≡ Some kept → bytes_eq kept text ≡ same → Keeps (text ∷ []) old new
      there kept true found same =
          let stays : new ≡ old = is ∙ ap (λ (o : Option (List ℕ)). option_map_or (λ _. old) o (old ++ (digest_of text, text) ∷ [])) found in
          subst (λ (p : Pairs). Keeps (text ∷ []) old p) (sym stays) (keeps_same old text (found ∙ ap (λ (l : List ℕ). Some l) (same_bytes kept text same)))
      there kept false found differs = absurd (false≢true (subst (λ (s : Result T KeepFault). IsOk s) (other kept found (differs_from kept differs)) ok))

      by : (o : Option (List ℕ)) → look_up old (digest_of text) ≡ o → Keeps (text ∷ []) old new
      by None free =
          let put : new ≡ old ++ (digest_of text, text) ∷ [] = is ∙ ap (λ (o : Option (List ℕ)). option_map_or (λ _. old) o (old ++ (digest_of text, text) ∷ [])) free in
          keeps_fresh old text new free (λ q. ap (λ (p : Pairs). look_up p q) put ∙ looks_up_last old (digest_of text) text q free)
      by (Some kept) found = there kept (bytes_eq kept text) found refl

  book_clashes : r ≡ Err Clash → Clashes (text ∷ []) old (digest_of text)
  book_clashes err = by (look_up old (digest_of text)) refl
    where
      there : (kept : List ℕ) (same : Bool) → look_up old (digest_of text) ≡ Some kept → bytes_eq kept text ≡ same → Clashes (text ∷ []) old (digest_of text)
      there kept true found same = absurd (false≢true (subst (λ (s : Result T KeepFault). IsOk s) err (known (found ∙ ap (λ (l : List ℕ). Some l) (same_bytes kept text same)))))
      there kept false found differs = clashes_other old text kept found differs

      by : (o : Option (List ℕ)) → look_up old (digest_of text) ≡ o → Clashes (text ∷ []) old (digest_of text)
      by None free = let want : Clash ≡ Want = subst (λ (s : Result T KeepFault). IfErr s (λ fault. fault ≡ Want)) err (fresh free) in absurd cc
      by (Some kept) found = there kept (bytes_eq kept text) found refl

-- likewise under a digest that is the text's own
module _ {T : Type 0} (old new : Pairs) (text : List ℕ) (r : Result T KeepFault) (d : Digest) (own : d ≡ digest_of text)
    (known : text_under old d ≡ Some text → IsOk r)
    (other : (kept : List ℕ) → text_under old d ≡ Some kept → kept ≢ text → r ≡ Err Clash)
    (fresh : text_under old d ≡ None → IfErr r (λ fault. fault ≡ Want)) where
  at_own : {o : Option (List ℕ)} → text_under old (digest_of text) ≡ o → text_under old d ≡ o
  at_own found = ap (text_under old) own ∙ found

  pub kept_by_book : IsOk r → new ≡ with_text old d text → Keeps (text ∷ []) old new
  kept_by_book ok is =
      book_keeps old new text r (λ found. known (at_own found)) (λ kept found differs. other kept (at_own found) differs) (λ free. fresh (at_own free))
      ok (is ∙ ap (λ (e : Digest). with_text old e text) own)

  pub clash_by_book : r ≡ Err Clash → Clashes (text ∷ []) old d
  clash_by_book err =
      subst (λ (e : Digest). Clashes (text ∷ []) old e) (sym own)
      (book_clashes old new text r (λ found. known (at_own found)) (λ kept found differs. other kept (at_own found) differs) (λ free. fresh (at_own free)) err)

pub first_shown : (pairs : Pairs) → pairs ≡ (empty_head, []) ∷ [] → IsShown first_texts pairs
first_shown pairs is d = ap (λ (p : Pairs). look_up p d) (sym is)

-- ---- entries

-- an entry's bytes, which lie in two pieces
pub entry_joined : (client : ClientId) (stamp : Stamp) (op front : List ℕ)
    → front ≡ to_be_bytes w32 client.0 ++ to_be_bytes w64 stamp.0 ++ to_be_bytes w16 (length op) → front ++ op ≡ bytes_of_request client stamp op
unfolding bytes_of_request
entry_joined client stamp op front is =
    let a = to_be_bytes w32 client.0 in
    let b = to_be_bytes w64 stamp.0 in
    let c = to_be_bytes w16 (length op) in
    ap (λ (l : List ℕ). l ++ op) is ∙ append_assoc a (b ++ c) op ∙ ap (λ (l : List ℕ). a ++ l) (append_assoc b c op)

pub entry_digest : (e : Entry) → digest_of (bytes_of_entry e) ≡ digest_of_entry e
unfolding digest_of_request
entry_digest e = refl

-- ---- entries in a row

-- one item more
pub flat_next : {X A : Type 0} (f : X → List A) (xs : List X) (i : ℕ) (x : X) → i < length xs → x ≡ get_or xs i x
    → flat_map f (take (suc i) xs) ≡ flat_map f (take i xs) ++ f x
flat_next f [] i x within is = absurd (omega (arith, within))
flat_next f (y ∷ xs) zero x within is = append-nil (f y) ∙ ap f (sym is)
flat_next f (y ∷ xs) (suc i) x within is =
    ap (λ l. f y ++ l) (flat_next f xs i x (omega (arith, within)) is) ∙ sym (append_assoc (f y) (flat_map f (take i xs)) (f x))

-- those before an item, the item, and those behind it
pub flat_split : {X A : Type 0} (f : X → List A) (xs : List X) (i : ℕ) (x : X) → i < length xs → x ≡ get_or xs i x
    → flat_map f xs ≡ flat_map f (take i xs) ++ (f x ++ flat_map f (drop (suc i) xs))
flat_split f [] i x within is = absurd (omega (arith, within))
flat_split f (y ∷ xs) zero x within is = ap (λ z. f z ++ flat_map f xs) (sym is)
flat_split f (y ∷ xs) (suc i) x within is =
    ap (λ l. f y ++ l) (flat_split f xs i x (omega (arith, within)) is) ∙ sym (append_assoc (f y) (flat_map f (take i xs)) (f x ++ flat_map f (drop (suc i) xs)))

-- ---- an entry, and the link by which it stands behind a head

-- an entry, by its operation
abbrev text_with : Entry → List ℕ → List ℕ
text_with e op = bytes_of_request e.client e.stamp op

module _ (head : Digest) (e : Entry) (old mid : Pairs) (op : List ℕ) (is : op ≡ e.op) where
  pub entry_clashes : (d : Digest) → Clashes (text_with e op ∷ []) old d → Clashes (bytes_of_entry e ∷ link_text head e ∷ []) old d
  entry_clashes d clash = clashes_first (bytes_of_entry e ∷ []) (link_text head e ∷ []) old d (subst (λ (l : List ℕ). Clashes (text_with e l ∷ []) old d) is clash)

  module _ (digest : Digest) (spelled : digest ≡ digest_of (text_with e op)) where
    digest_is : digest ≡ digest_of_entry e
    digest_is = spelled ∙ ap (λ (l : List ℕ). digest_of (text_with e l)) is ∙ entry_digest e

    link_is : head.0 ++ digest.0 ≡ link_text head e
    link_is = ap (λ (d : Digest). head.0 ++ d.0) digest_is

    pub head_behind : (d : Digest) → d ≡ digest_of (head.0 ++ digest.0) → d ≡ head_after head (digest_of_entry e)
    unfolding head_after
    head_behind d hashed = hashed ∙ ap digest_of link_is

    module _ (kept : Keeps (text_with e op ∷ []) old mid) where
      own : Keeps (bytes_of_entry e ∷ []) old mid
      own = subst (λ (l : List ℕ). Keeps (text_with e l ∷ []) old mid) is kept

      pub link_clashes : (d : Digest) → Clashes ((head.0 ++ digest.0) ∷ []) mid d → Clashes (bytes_of_entry e ∷ link_text head e ∷ []) old d
      link_clashes d clash = clashes_then (bytes_of_entry e ∷ []) (link_text head e ∷ []) old mid d own (subst (λ (l : List ℕ). Clashes (l ∷ []) mid d) link_is clash)

      pub linked_keeps : (new : Pairs) → Keeps ((head.0 ++ digest.0) ∷ []) mid new → Keeps (bytes_of_entry e ∷ link_text head e ∷ []) old new
      linked_keeps new joined = keeps_both (bytes_of_entry e ∷ []) (link_text head e ∷ []) old mid new own (subst (λ (l : List ℕ). Keeps (l ∷ []) mid new) link_is joined)

-- ---- entries behind a head

-- one entry more
pub entries_next : (head : Digest) (es : List Entry) (i : ℕ) (e : Entry) → i < length es → e ≡ get_or es i e
    → entry_texts head (take (suc i) es) ≡ entry_texts head (take i es) ++ bytes_of_entry e ∷ link_text (head_from head (take i es)) e ∷ []
entries_next head [] i e within is = absurd (omega (arith, within))
entries_next head (y ∷ es) zero e within is = ap (λ (x : Entry). bytes_of_entry x ∷ link_text head x ∷ []) (sym is)
entries_next head (y ∷ es) (suc i) e within is =
    ap (λ (l : List (List ℕ)). bytes_of_entry y ∷ link_text head y ∷ l) (entries_next (head_after head (digest_of_entry y)) es i e (omega (arith, within)) is)

-- and the head behind it
pub head_next : (head : Digest) (es : List Entry) (i : ℕ) (e : Entry) → i < length es → e ≡ get_or es i e
    → head_from head (take (suc i) es) ≡ head_after (head_from head (take i es)) (digest_of_entry e)
head_next head [] i e within is = absurd (omega (arith, within))
head_next head (y ∷ es) zero e within is = ap (λ (x : Entry). head_after head (digest_of_entry x)) (sym is)
head_next head (y ∷ es) (suc i) e within is = head_next (head_after head (digest_of_entry y)) es i e (omega (arith, within)) is

-- those before an entry, the entry, and those behind it
pub entries_split : (head : Digest) (es : List Entry) (i : ℕ) (e : Entry) → i < length es → e ≡ get_or es i e
    → entry_texts head es ≡ entry_texts head (take i es)
    ++ ((bytes_of_entry e ∷ link_text (head_from head (take i es)) e ∷ []) ++ entry_texts (head_after (head_from head (take i es)) (digest_of_entry e)) (drop (suc i) es))
entries_split head [] i e within is = absurd (omega (arith, within))
entries_split head (y ∷ es) zero e within is =
    ap (λ (x : Entry). bytes_of_entry x ∷ link_text head x ∷ entry_texts (head_after head (digest_of_entry x)) es) (sym is)
entries_split head (y ∷ es) (suc i) e within is =
    ap (λ (l : List (List ℕ)). bytes_of_entry y ∷ link_text head y ∷ l) (entries_split (head_after head (digest_of_entry y)) es i e (omega (arith, within)) is)

-- ---- an entry that a step executed

module _ (got : Got) where
  abbrev linked_texts : List (List ℕ)
  linked_texts = bytes_of_entry got.entry ∷ link_text got.before got.entry ∷ []

  abbrev snap : List (List ℕ)
  snap = snapshot_texts got.snapshot

  pub got_clashes : (old : Pairs) (d : Digest) → Clashes linked_texts old d → Clashes (got_texts got) old d
  got_clashes old d clash = clashes_first linked_texts (got.reply ∷ snap) old d clash

  module _ (old linked : Pairs) (kept : Keeps linked_texts old linked) where
    pub reply_clashes : (d : Digest) → Clashes (got.reply ∷ []) linked d → Clashes (got_texts got) old d
    reply_clashes d clash = clashes_then linked_texts (got.reply ∷ snap) old linked d kept (clashes_first (got.reply ∷ []) snap linked d clash)

    module _ (replied : Pairs) (reply : Keeps (got.reply ∷ []) linked replied) where
      three_kept : Keeps (linked_texts ++ got.reply ∷ []) old replied
      three_kept = keeps_both linked_texts (got.reply ∷ []) old linked replied kept reply

      pub snapshot_clashes : (d : Digest) → Clashes snap replied d → Clashes (got_texts got) old d
      snapshot_clashes d clash = clashes_then (linked_texts ++ got.reply ∷ []) snap old replied d three_kept clash

      pub got_keeps : (new : Pairs) → Keeps snap replied new → Keeps (got_texts got) old new
      got_keeps new kept = keeps_both (linked_texts ++ got.reply ∷ []) snap old replied new three_kept kept
