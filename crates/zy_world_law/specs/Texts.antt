-- The texts that events bring, and how they are kept: one for each SHA-256 value.
use Rattle.std.specs.Prelude.{ℕ, nat_lt, nat_le, ◌^◌, ◌&&◌, Bool, false, if◌then◌else◌, List, [], ◌∷◌, length, Option, Some, None, option_map, unwrap_or, Result, Ok, Err}
use Rattle.std.specs.List.{flat_map}
use Rattle.std.specs.Str.{bytes_eq}
use Rattle.zy_base.specs.declared.ids.Digest.{Digest}
use Rattle.zy_base.specs.declared.ids.Party.{Party}
use Rattle.zy_base.specs.declared.ids.Party.TheVariants.{Replica, Client}
use Rattle.zy_chain.specs.Entries.{bytes_of_entry, digest_of_entry}
use Rattle.zy_chain.specs.Heads.{head_after}
use Rattle.zy_chain.specs.declared.entry.Entry.{Entry}
use Rattle.zy_admit.specs.Judging.{same_digest}
use Rattle.zy_frames.specs.declared.frame.Frame.{Frame}
use Rattle.zy_frames.specs.declared.frame.Frame.TheVariants as frames
use Rattle.zy_parts.specs.Statements.{entry_of}
use Rattle.zy_parts.specs.declared.reports.Change.{Change}
use Rattle.zy_parts.specs.declared.signed.Signed.{Signed}
use Rattle.zy_parts.specs.declared.statements.Ask.{Ask}
use Rattle.zy_table.specs.Deeds.{gains_in}
use Rattle.zy_table.specs.declared.deeds.Act.{Act}
use Rattle.zy_table.specs.declared.deeds.AnyFrame.{AnyFrame}
use Rattle.zy_table.specs.declared.deeds.AnyFrame.TheVariants.{Plain, View}
use Rattle.zy_table.specs.declared.deeds.Got.{Got}
use Rattle.zy_vframes.specs.declared.frame.ViewFrame.{ViewFrame}
use Rattle.zy_vframes.specs.declared.frame.ViewFrame.TheVariants as views
pub use Rattle.zy_law_views.specs.Texts.{digest_of, link_text}
use Rattle.zy_world_law.specs.Reading.{any_frame_in}
use Rattle.zy_world_law.specs.World.{Texts}

-- ---- what a frame brings

-- the entry of a client's request
abbrev pub request_texts : Party → Ask → List (List ℕ)
request_texts (Client id) ask = bytes_of_entry (entry_of id ask) ∷ []
request_texts (Replica id) ask = []

abbrev pub ask_texts : Signed Ask → List (List ℕ)
ask_texts ask = request_texts ask.by ask.stmt

abbrev pub frame_texts : Frame → List (List ℕ)
frame_texts (frames.Request ask) = ask_texts ask
frame_texts (frames.Order both) = ask_texts both.ask
frame_texts (frames.SpecResponse spec reply with_order) = reply ∷ []
frame_texts (frames.Commit specs) = []
frame_texts (frames.LocalCommit local) = []
frame_texts (frames.ConfirmReq confirm ask) = ask_texts ask
frame_texts (frames.FillHole hole) = []
frame_texts (frames.Hate hate) = []
frame_texts (frames.Pom first second) = []
frame_texts (frames.Checkpoint check) = []

-- of some entries above a head: the bytes of each, and the links along them
abbrev pub entry_texts : Digest → List Entry → List (List ℕ)
entry_texts head [] = []
entry_texts head (e ∷ entries) = bytes_of_entry e ∷ link_text head e ∷ entry_texts (head_after head (digest_of_entry e)) entries

-- of a report: its entries above its stable place
abbrev pub report_texts : Signed Change → List (List ℕ)
report_texts c = entry_texts c.stmt.told.stable_head c.stmt.told.entries

abbrev pub view_frame_texts : ViewFrame → List (List ℕ)
view_frame_texts (views.ViewChange change) = report_texts change
view_frame_texts (views.NewView new) = flat_map report_texts new.stmt.changes
view_frame_texts (views.ViewConfirm began) = []
view_frame_texts (views.ViewCert cert) = flat_map report_texts cert.new.stmt.changes
view_frame_texts (views.Fetch fetch) = []
view_frame_texts (views.State place snapshot) = snapshot ∷ []

abbrev pub texts_of : AnyFrame → List (List ℕ)
texts_of (Plain frame) = frame_texts frame
texts_of (View frame) = view_frame_texts frame

-- what bytes bring that spell a frame
abbrev pub texts_in : List ℕ → List (List ℕ)
texts_in bytes = unwrap_or (option_map texts_of (any_frame_in bytes)) []

-- ---- what a step brings

abbrev pub snapshot_texts : Option (List ℕ) → List (List ℕ)
snapshot_texts None = []
snapshot_texts (Some snapshot) = snapshot ∷ []

-- of an entry that a history gets: its bytes, the link, the reply, and at a checkpoint the snapshot
abbrev pub got_texts : Got → List (List ℕ)
got_texts got = bytes_of_entry got.entry ∷ link_text got.before got.entry ∷ got.reply ∷ snapshot_texts got.snapshot

abbrev pub step_texts : List Act → List (List ℕ)
step_texts acts = flat_map got_texts (gains_in acts)

-- ---- keeping

abbrev pub with_text : Texts → List ℕ → Texts
with_text texts text d = if same_digest d (digest_of text) then Some text else texts d

abbrev pub keep_beside : Texts → List ℕ → Option (List ℕ) → Result Texts Digest
keep_beside texts text None = Ok (with_text texts text)
keep_beside texts text (Some kept) = if bytes_eq kept text then Ok texts else Err (digest_of text)

-- a text is kept, unless another is kept under its digest
abbrev pub keep : Texts → List ℕ → Result Texts Digest
keep texts text = keep_beside texts text (texts (digest_of text))

abbrev pub and_then : {A B : Type 0} → Result A Digest → (A → Result B Digest) → Result B Digest
and_then (Err d) next = Err d
and_then (Ok x) next = next x

-- so one after another; the digest of the first that clashes
abbrev pub keep_all : List (List ℕ) → Texts → Result Texts Digest
keep_all [] texts = Ok texts
keep_all (text ∷ more) texts = and_then (keep texts text) (keep_all more)

-- ---- what is kept

abbrev pub is_text : List ℕ → Option (List ℕ) → Bool
is_text text None = false
is_text text (Some kept) = bytes_eq kept text

abbrev pub is_kept : Texts → List ℕ → Bool
is_kept texts text = is_text text (texts (digest_of text))

-- an entry that a history may have: of a client from 0 to 63, with a stamp below 2^62 and at most 1,100 bytes
abbrev pub is_entry : Entry → Bool
is_entry e = nat_lt e.client.0 64 && (nat_lt e.stamp.0 (2 ^ 62) && nat_le (length e.op) 1100)

-- the text of the link from a head by an entry is kept, and so is the entry
abbrev pub is_link : Texts → Digest → Entry → Bool
is_link texts head e = is_entry e && (is_kept texts (bytes_of_entry e) && is_kept texts (link_text head e))
