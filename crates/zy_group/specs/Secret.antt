-- What a party is told of its own key, and a client of the requests that it made.
use Rattle.std.specs.Prelude.{ℕ, codes, Option, Result, Ok}
use Rattle.toml.specs.Data.{Members}
use Rattle.zy_group.specs.Fields.{bytes_at, height_at, told_ots_at, next_at, stamp_at, version_at}
use Rattle.zy_group.specs.Reading.{field}
use Rattle.zy_group.specs.declared.secret.Secret.{Secret}

-- The fields in their order, of which that with the number 19 is the first, with so many signatures left at least.
unfoldable pub secret : ℕ → Members → Result Secret ℕ
secret left table =
    field 19 (version_at table) (λ version.
    field 12 (bytes_at 32 (codes "seed") table) (λ seed.
    field 13 (bytes_at 16 (codes "id") table) (λ id.
    field 14 (height_at table) (λ height.
    field 15 (told_ots_at table) (λ ots.
    field 16 (next_at version height left table) (λ next.
    field 17 (stamp_at table) (λ stamp.
    Ok (record { version = version; seed = seed; id = id; height = height; ots = ots; next = next; stamp = stamp }))))))))

-- and before them the text, which must be TOML
abbrev pub text_secret : ℕ → Option Members → Result Secret ℕ
text_secret left text = field 11 text (secret left)
