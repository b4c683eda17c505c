-- What the files of a replica tell that keeps its events in a journal.
use Rattle.std.specs.Prelude.{Result, Ok, Err}
use Rattle.zy_top_hosting.specs.declared.serving.files.KeptSeat.{KeptSeat}
use Rattle.zy_top_hosting.specs.Calls.{node_in}
use Rattle.zy_top_hosting.specs.Files.{Replica, Seat}
use Rattle.zy_top_words.specs.declared.exit.Exit.{Exit}

-- the replica and its address, without the identity of its journal
abbrev pub kept_in : Result KeptSeat Exit → Result (Seat Replica) Exit
kept_in (Ok kept) = node_in (Ok kept.seat)
kept_in (Err exit) = Err exit
