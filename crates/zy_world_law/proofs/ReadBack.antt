-- What a client signed is read back out of its text.
use Rattle.std.proofs.Common.{◌≡◌, ℕ, ◌++◌, length, drop, Some, sym, ap, ◌∙◌, arith}
use Rattle.std.proofs.Math.Seq.{drop-append_seam}
use Rattle.std.proofs.lemmas.List.{length-append}
use Rattle.std.specs.Int.{w8, w32}
use Rattle.std.specs.Prelude.{List}
use Rattle.zy_base.specs.declared.ids.ClientId.{ClientId}
use Rattle.zy_base.specs.declared.ids.Party.{Party}
use Rattle.zy_parts.specs.Exact.{ask-exact}
use Rattle.zy_parts.specs.Numbers as numbers
use Rattle.zy_parts.specs.Signing.{text_of}
use Rattle.zy_parts.specs.Statements.{ask_fields, entry_of}
use Rattle.zy_parts.specs.declared.statements.Ask.{Ask}
use Rattle.zy_wire.proofs.Parts.{wide8, wide32, whole_again}
use Rattle.zy_wire.specs.Fields.{party_bytes, party_fields}
use Rattle.zy_wire.specs.Spelling.{bytes_of, whole}
use Rattle.zy_world_law.specs.Seen.{fields_of, entry_in, ask_read}

five : (by : Party) → length (party_bytes by) ≡ 5
unfolding party_bytes bytes_of
five by = omega (arith, length-append (bytes_of w8 (party_fields by).0) (bytes_of w32 (party_fields by).1), wide8.len (party_fields by).0, wide32.len (party_fields by).1)

behind_signer : (by : Party) (ask : Ask) → fields_of (text_of numbers.ask ask_fields by ask) ≡ ask_fields.spell ask
unfolding text_of
behind_signer by ask = ap (λ (n : ℕ). drop n (party_bytes by ++ ask_fields.spell ask)) (sym (five by)) ∙ drop-append_seam (party_bytes by) (ask_fields.spell ask)

pub entry_back : (client : ClientId) (by : Party) (ask : Ask) → ask_fields.Fits ask → entry_in client (text_of numbers.ask ask_fields by ask) ≡ Some (entry_of client ask)
unfolding entry_in text_of
entry_back client by ask fits = ap (λ (bytes : List ℕ). ask_read client (whole ask_fields bytes)) (behind_signer by ask) ∙ ap (ask_read client) (whole_again ask_fields ask-exact ask fits)
