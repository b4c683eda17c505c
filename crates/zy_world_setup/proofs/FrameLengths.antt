-- How long the frames of statements are.
use Rattle.std.proofs.Common.{◌≡◌, ℕ, ◌+◌, ◌-◌, ◌≤◌, Bool, true, false, ◌∷◌, ◌++◌, length, refl, sym, ap, ◌∙◌, arith}
use Rattle.std.specs.Prelude.{nat_le}
use Rattle.std.proofs.lemmas.Bool.{le-leb, lt-leb, leb-true, leb-false}
use Rattle.std.proofs.lemmas.List.{length-append}
use Rattle.std.specs.Int.{w16}
use Rattle.zy_base.specs.declared.ids.Party.{Party}
use Rattle.zy_frames.specs.Frames as plain
use Rattle.zy_lms.specs.Hss.{hss_signature_of}
use Rattle.zy_parts.specs.Numbers as numbers
use Rattle.zy_parts.specs.Reports.{change_fields, new_fields, began_fields, fetch_fields}
use Rattle.zy_parts.specs.Signing.{signed, text_of}
use Rattle.zy_parts.specs.Statements.{ask_fields, local_fields, hole_fields, hate_fields, check_fields}
use Rattle.zy_seal.specs.Sealing.{SealerState, sealed_by, signature_size}
use Rattle.zy_table.specs.Sending.{spelling_of}
use Rattle.zy_vframes.specs.ViewFrames as views
use Rattle.zy_wire.specs.Fields.{party_bytes}
use Rattle.zy_wire.specs.Kind.{frame_limit, frame_version}
use Rattle.zy_wire.specs.Spelling.{Spelling, bytes_of}
use Rattle.zy_world_setup.specs.Telling.{fields_told, telling_of}
use Rattle.zy_world_law.specs.Setup.{Setup, sealer_of}
use Rattle.zy_world_setup.specs.declared.tellable.Tellable.{Tellable}
use Rattle.zy_seal.proofs.SignatureLemmas.{few_bytes, signature_long}
use Rattle.zy_world_setup.specs.declared.tellable.Tellable.TheVariants as tellables

party_long : (party : Party) → length (party_bytes party) ≡ 5
unfolding party_bytes bytes_of
party_long party = refl

two_long : (n : ℕ) → length (bytes_of w16 n) ≡ 2
unfolding bytes_of
two_long n = refl

frame_long : {A : Type 0} (number kind : ℕ) (fields : Spelling A) (sealer : SealerState) (stmt : A)
    → length (frame_version ∷ kind ∷ (signed fields).spell (sealed_by number fields sealer stmt)) ≡ length (fields.spell stmt) + 9 + signature_size sealer.key.height sealer.key.ots
unfolding signed
frame_long number kind fields sealer stmt =
    let sig = hss_signature_of sealer.key (text_of number fields sealer.me stmt) in
    let spelled = fields.spell stmt in
    let behind = bytes_of w16 (length sig) ++ sig in
    omega (
      arith,
      length-append (party_bytes sealer.me) (spelled ++ behind),
      length-append spelled behind,
      length-append (bytes_of w16 (length sig)) sig,
      party_long sealer.me,
      two_long (length sig),
      signature_long sealer.key (text_of number fields sealer.me stmt),
    )

pub told_long : (told : Tellable) (sealer : SealerState) → length (spelling_of (telling_of told sealer)) ≡ length (fields_told told) + 9 + signature_size sealer.key.height sealer.key.ots
unfolding plain.fields_of views.fields_of
told_long (tellables.Ask ask) sealer = frame_long numbers.ask 1 ask_fields sealer ask
told_long (tellables.Local local) sealer = frame_long numbers.local 5 local_fields sealer local
told_long (tellables.Hole hole) sealer = frame_long numbers.hole 7 hole_fields sealer hole
told_long (tellables.Hate hate) sealer = frame_long numbers.hate 8 hate_fields sealer hate
told_long (tellables.Check check) sealer = frame_long numbers.check 10 check_fields sealer check
told_long (tellables.Change change) sealer = frame_long numbers.change 11 change_fields sealer change
told_long (tellables.New new) sealer = frame_long numbers.new 12 new_fields sealer new
told_long (tellables.Began began) sealer = frame_long numbers.began 13 began_fields sealer began
told_long (tellables.Fetch fetch) sealer = frame_long numbers.fetch 15 fetch_fields sealer fetch

-- room that is left for some bytes is room for these with the others
room_left : (few others most : ℕ) → others ≤ most → nat_le few (most - others) ≡ nat_le (few + others) most
room_left few others most within = by (nat_le few (most - others)) refl
  where
    by : (b : Bool) → nat_le few (most - others) ≡ b → b ≡ nat_le (few + others) most
    by true is = let fits = leb-true few (most - others) is in sym (le-leb (few + others) most (omega (arith, fits, within)))
    by false is = let long = leb-false few (most - others) is in sym (lt-leb (few + others) most (omega (arith, long, within)))

-- where others are all bytes but those of the fields
pub short_is : (told : Tellable) (setup : Setup) (party : Party) (number fields others : ℕ) → fields ≡ length (fields_told told) → others ≡ 9 + signature_size setup.height setup.ots
    → nat_le fields (frame_limit - others) ≡ nat_le (length (spelling_of (telling_of told (sealer_of setup party number)))) frame_limit
short_is told setup party number fields others is_fields is_others =
    let few = few_bytes setup.height setup.ots in
    let long = told_long told (sealer_of setup party number) in
    let all : fields + others ≡ length (spelling_of (telling_of told (sealer_of setup party number))) = omega (arith, is_fields, is_others, long) in
    room_left fields others frame_limit (omega (arith, few, is_others)) ∙ ap (λ (n : ℕ). nat_le n frame_limit) all
