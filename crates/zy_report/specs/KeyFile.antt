-- The secret file of a party's key: lines of TOML, each ended by a line feed (10).
use Rattle.std.specs.Prelude.{ℕ, List, [], ◌∷◌, ◌++◌, codes}
use Rattle.std.specs.Fmt.{decimal}
use Rattle.hex.specs.Hex.{encode_lower}
use Rattle.zy_base.specs.declared.ids.Party.{Party}
use Rattle.zy_tuple.specs.Parties.{party_text}

-- NAME = "VALUE", with quotes (34)
abbrev pub text_line : List ℕ → List ℕ → List ℕ
text_line name value = name ++ codes " = " ++ 34 ∷ value ++ 34 ∷ 10 ∷ []

abbrev pub number_line : List ℕ → ℕ → List ℕ
number_line name value = name ++ codes " = " ++ decimal value ++ 10 ∷ []

-- the file's version, the party, its own seed and identifier, the levels of each tree and the type of its one-time keys; no signature
-- and no stamp is spent; and the public key
unfoldable pub key_lines : Party → List ℕ → List ℕ → ℕ → ℕ → List ℕ → List ℕ
key_lines party seed id height ots public =
    number_line (codes "version") 2
    ++ text_line (codes "party") (party_text party)
    ++ text_line (codes "seed") (encode_lower seed)
    ++ text_line (codes "id") (encode_lower id)
    ++ number_line (codes "height") height
    ++ number_line (codes "ots") ots
    ++ number_line (codes "next") 0
    ++ number_line (codes "stamp") 0
    ++ text_line (codes "public") (encode_lower public)
