-- The texts that are kept, one under each digest, and the history that is read back out of them.
use Rattle.std.specs.Prelude.{◌≡◌, ℕ, zero, suc, true, List, [], ◌∷◌, ◌++◌, take, drop, Option, Some, None, option_map, Result, Ok, Err}
use Rattle.std.specs.Option.{option_and_then}
use Rattle.sha2.specs.Sha256.{sha256}
use Rattle.zy_base.specs.declared.frame_fault.FrameFault.{FrameFault}
use Rattle.zy_base.specs.declared.ids.Digest.{Digest}
use Rattle.zy_chain.specs.Entries.{bytes_of_entry, digest_of_entry}
use Rattle.zy_chain.specs.Fields.{entry_fields}
use Rattle.zy_chain.specs.declared.entry.Entry.{Entry}
use Rattle.zy_exec.specs.Installed.{IsRunnable}
use Rattle.zy_law.specs.World.{World}
use Rattle.zy_wire.specs.Spelling.{whole}

abbrev pub Texts : Type 0
Texts = Digest → Option (List ℕ)

abbrev pub digest_of : List ℕ → Digest
digest_of text = record { 0 = sha256 text }

abbrev pub IsKept : Texts → List ℕ → Type 0
IsKept texts text = texts (digest_of text) ≡ Some text

-- ---- links

-- the text of a link of histories: the head before, and the entry's digest
abbrev pub link_text : Digest → Entry → List ℕ
link_text head e = head.0 ++ (digest_of_entry e).0

-- the link from a head by an entry can be read back
pub record IsLink (texts : Texts) (head : Digest) (e : Entry) : Type 0 where
  pub runnable : IsRunnable e
  pub entry : IsKept texts (bytes_of_entry e)
  pub link : IsKept texts (link_text head e)

-- the law's kept links are those of the texts
abbrev pub AreLinks : World → Texts → Type 0
AreLinks w texts = (head : Digest) (e : Entry) → w.kept head e ≡ true → IsLink texts head e

-- ---- reading back

abbrev pub entry_read : Result Entry FrameFault → Option Entry
entry_read (Err fault) = None
entry_read (Ok e) = Some e

abbrev pub entry_under : Texts → Digest → Option Entry
entry_under texts d = option_and_then (λ bytes. entry_read (whole entry_fields bytes)) (texts d)

-- the head before a head, and the entry that leads from the one to the other
abbrev pub link_read : Texts → List ℕ → Option (Digest × Entry)
link_read texts text = option_map (λ e. (record { 0 = take 32 text }, e)) (entry_under texts (record { 0 = drop 32 text }))

abbrev pub link_under : Texts → Digest → Option (Digest × Entry)
link_under texts head = option_and_then (link_read texts) (texts head)

abbrev pub list_behind : (Digest → Option (List Entry)) → Digest × Entry → Option (List Entry)
list_behind before link = option_map (λ list. list ++ link.1 ∷ []) (before link.0)

-- the history of so many entries whose head this is, read link by link
abbrev pub list_in : Texts → ℕ → Digest → Option (List Entry)
list_in texts zero head = Some []
list_in texts (suc place) head = option_and_then (list_behind (list_in texts place)) (link_under texts head)
