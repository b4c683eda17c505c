-- The secret file of a party's key, which `keys` writes.
use Rattle.std.specs.Prelude.{ℕ, List}
use Rattle.zy_base.specs.declared.ids.Party.{Party}
use Rattle.zy_ots.specs.declared.ots_type.OtsType.TheVariants.{W4}
use Rattle.zy_lms.specs.declared.height.Height.{Height}
use Rattle.zy_lms.specs.Height.{levels_of}
use Rattle.zy_lms.specs.Hss.{hss_public_of}
use Rattle.zy_report.specs.KeyFile.{key_lines}
use Rattle.zy_seal.specs.Derived.{seed_of, id_of}

-- the secret file of the party's key of which no signature is spent, whose one-time keys are of LM-OTS type 3
unfoldable pub key_file : List ℕ → Party → Height → List ℕ
key_file seed by height =
    let own = seed_of seed by in
    let id = id_of seed by in
    key_lines by own id (levels_of height) 3 (hss_public_of (record { seed = own; id = id; height = height; ots = W4; next = 0 }))
