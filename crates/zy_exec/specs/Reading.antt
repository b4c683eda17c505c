-- Inner forms, which only private contracts cite: what reading a snapshot's bytes answers.
use Rattle.std.specs.Prelude.{◌≡◌, ℕ, ◌+◌, ◌≤◌, nat_le, nat_lt, ◌&&◌, Bool, true, List, [], ◌∷◌, length, Option, Result, Ok, Err, IsErr}
use Rattle.std.specs.List.{AllByRecursion}
use Rattle.zy_base.specs.declared.frame_fault.FrameFault.{FrameFault}
use Rattle.zy_base.specs.declared.restore_fault.RestoreFault.{RestoreFault}
use Rattle.zy_base.specs.declared.restore_fault.RestoreFault.TheVariants as restore_faults
use Rattle.zy_wire.specs.declared.get_fault.GetFault.{GetFault}
use Rattle.zy_wire.specs.declared.get_fault.GetFault.TheVariants as get_faults
use Rattle.zy_exec.specs.declared.known.Known.{Known}
use Rattle.zy_exec.specs.declared.row.Row.{Row}
use Rattle.zy_exec.specs.declared.install_fault.InstallFault.{InstallFault}
use Rattle.zy_exec.specs.declared.install_fault.InstallFault.TheVariants.{NotState, Want}
use Rattle.zy_exec.specs.Snapshot.{listed, snapshot_fields}
use Rattle.zy_exec.specs.Installed.{IsShownSlot}
use Rattle.zy_chain.specs.Sizes.{greatest_state}

-- faults of other readers, as faults of this one
abbrev pub fault_of_get : GetFault → InstallFault
fault_of_get (get_faults.Frame fault) = NotState
fault_of_get get_faults.Want = Want

abbrev pub fault_of_restore : RestoreFault → InstallFault
fault_of_restore restore_faults.NotState = NotState
fault_of_restore restore_faults.Want = Want

-- what was read, seen by view; NotState only where nothing is spelled
abbrev pub Fails : {A : Type 0} → InstallFault → Result A FrameFault → Type 0
Fails NotState read = IsErr read
Fails Want read = Unit {0}

abbrev pub Spells : {X A : Type 0} → (X → A) → Result X InstallFault → Result A FrameFault → Type 0
Spells view (Ok x) read = read ≡ Ok (view x)
Spells view (Err e) read = Fails e read

-- the clients rise from a number on, and are below 64
abbrev pub is_rising : ℕ → List Row → Bool
is_rising least [] = true
is_rising least (r ∷ rows) = (nat_le least r.client.0 && nat_lt r.client.0 64) && is_rising (r.client.0 + 1) rows

-- The bytes spell what is known of each client, and the bytes of a state.
pub record IsSpelledBy (bytes : List ℕ) (known : List (Option Known)) (state : List ℕ) : Type 0 where
  pub all_clients : length known ≡ 64
  pub in_range : AllByRecursion IsShownSlot known
  pub fits : length state ≤ greatest_state
  pub spelled : snapshot_fields.spell (listed 0 known, state) ≡ bytes
