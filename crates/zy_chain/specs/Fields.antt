-- An entry and answers as fields of others: their spellings are exact, and what has one is in range.
use Rattle.std.proofs.Common.{◌≡◌, refl, arith}
use Rattle.std.specs.Int.{w16, w32}
use Rattle.zy_wire.specs.Spelling.{Spelling, IsExact, pair, converted, word, bytes_of}
use Rattle.zy_wire.specs.Fields.{u62, bytes16}
use Rattle.zy_wire.proofs.Parts.{pair-exact, converted-exact, word-exact, wide16, wide32}
use Rattle.zy_wire.proofs.Laws.{u62-exact, sized-exact}
use Rattle.zy_chain.specs.declared.entry.Entry.{Entry}
use Rattle.zy_chain.specs.Entries.{IsEntryInRange, bytes_of_entry, bytes_of_request}
use Rattle.zy_chain.specs.Answers.{answers_fields}

-- the client, the stamp, and the operation behind its length
unfoldable pub entry_fields : Spelling Entry
entry_fields = converted (λ x. record { client = record { 0 = x.0 }; stamp = record { 0 = x.1.0 }; op = x.1.1 }) (λ e. (e.client.0, (e.stamp.0, e.op))) (pair (word w32) (pair (u62 0) (bytes16 1100)))

-- an entry's fields are the bytes of which its digest is made
pub entry-is_bytes : (e : Entry) → entry_fields.spell e ≡ bytes_of_entry e
unfolding entry_fields bytes_of bytes_of_request
entry-is_bytes e = refl

pub entry-exact : IsExact entry_fields
unfolding entry_fields
entry-exact = converted-exact _ _ _ (pair-exact _ _ (word-exact w32 wide32) (pair-exact _ _ (u62-exact 0) (sized-exact w16 1100 wide16 (omega arith)))) (λ s. refl) (λ x. refl)

pub entry-in_range : (e : Entry) → entry_fields.Fits e → IsEntryInRange e
unfolding entry_fields
entry-in_range e fits = record { stamp = fits.1.0.1; op = fits.1.1 }

pub answers-exact : IsExact answers_fields
answers-exact = sized-exact w16 1100 wide16 (omega arith)
