-- What a replay is told of its group, as what its world begins with, and the group of a made schedule.
use Rattle.std.specs.Prelude.{ℕ, List, [], ◌++◌, replicate, Result}
use Rattle.std.specs.Int.{w32, to_be_bytes}
use Rattle.zy_group.specs.Counts.{plain_counts}
use Rattle.zy_group.specs.Reading.{toml_of}
use Rattle.zy_group.specs.Replay.{text_group}
use Rattle.zy_group.specs.declared.replay.ReplayGroup.{ReplayGroup}
use Rattle.zy_lms.specs.declared.height.Height.TheVariants.{H10}
use Rattle.zy_ots.specs.declared.ots_type.OtsType.TheVariants.{W4}
use Rattle.zy_world_law.specs.Setup.{Setup}

-- ---- groups

-- the group that a file's text tells of, or the first field that fails
abbrev pub group_of : List ℕ → Result ReplayGroup ℕ
group_of text = text_group (toml_of text)

-- what its world begins with
abbrev pub setup_of : ReplayGroup → Setup
setup_of group =
    record {
      counts = plain_counts group.f;
      interval = group.k;
      clients = group.clients;
      liars = group.liars;
      lying_clients = group.lying_clients;
      seed = group.seed;
      height = group.height;
      ots = group.ots;
    }

-- ---- made schedules

-- 28 zeros, and the number in four bytes, its highest first
abbrev pub made_seed : ℕ → List ℕ
made_seed number = replicate 28 0 ++ to_be_bytes w32 number

-- four replicas and four clients, none of which lies, a checkpoint after every 32 places, and keys of height 10
abbrev pub made_setup : ℕ → Setup
made_setup number =
    record {
      counts = plain_counts 1;
      interval = 32;
      clients = 4;
      liars = [];
      lying_clients = [];
      seed = made_seed number;
      height = H10;
      ots = W4;
    }
