-- All that a replica keeps as it begins can be spelled.
use Rattle.std.proofs.Common.{◌≡◌, ℕ, zero, suc, ◌<◌, ◌≤◌, ◌^◌, replicate, None, refl, sym, subst, arith}
use Rattle.std.specs.List.{AllByRecursion}
use Rattle.std.specs.Prelude.{IfSome}
use Rattle.std.proofs.lemmas.List.Elements.{All-nil}
use Rattle.sha2.proofs.Facts256.{length-sha256}
use Rattle.zy_base.specs.Machine.{Rules}
use Rattle.zy_base.specs.declared.counts.Counts.{Counts}
use Rattle.zy_base.specs.declared.ids.Party.TheVariants.{Replica}
use Rattle.zy_base.specs.declared.ids.ReplicaId.{ReplicaId}
use Rattle.zy_law_normal.proofs.KeptVotes.{none_kept}
use Rattle.zy_seal.specs.Keys.{Keys}
use Rattle.zy_seal.specs.Sealing.{SealerState}
use Rattle.zy_table.specs.State.{start_of}
use Rattle.zy_wire.specs.Fields.{IsParty}
use Rattle.zy_law_steps.specs.Spelled.{IsBeganSpelled, IsChangeSpelled, IsCheckSpelled, IsSpecSpelled, IsSpelled}

none_there : {A : Type 0} (P : A → Type 0) (n : ℕ) → AllByRecursion (λ slot. IfSome slot P) (replicate n None)
none_there P zero = tt
none_there P (suc n) = (tt, none_there P n)

pub start_spelled : {S : Type 0} (R : Rules S) (interval : ℕ) (me : ReplicaId) (counts : Counts) (keys : Keys) (sealer : SealerState) → interval ≤ 32 → me.0 < 2 ^ 8 → sealer.me ≡ Replica me
    → IsSpelled (start_of R interval me counts keys sealer)
start_spelled R interval me counts keys sealer spaced small itself =
    record {
      signer = subst IsParty (sym itself) small;
      views = record {
        spaced = spaced;
        own = omega arith;
        last = (omega arith, omega arith);
        began_place = (omega arith, omega arith);
        began_head = refl;
        began = record { least = omega arith; most = omega arith; each = All-nil IsBeganSpelled };
        specs = tt;
        changes = none_there IsChangeSpelled counts.n;
        begans = none_there IsBeganSpelled counts.n;
        accepted = tt;
        waiting = tt;
      };
      history = record { head = refl; entries = tt };
      board = record {
        view = (omega arith, omega arith);
        place = (omega arith, omega arith);
        head = refl;
        state = length-sha256 _;
        proof = record { least = omega arith; most = omega arith; each = All-nil IsCheckSpelled };
        near = none_kept IsSpecSpelled IsCheckSpelled;
        far = none_kept IsSpecSpelled IsCheckSpelled;
      };
    }
