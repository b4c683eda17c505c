-- A replicated state machine: what each operation of a client makes of a state, and the one spelling of a state.
use Rattle.std.specs.Prelude.{ℕ, List, Option}
use Rattle.zy_base.specs.declared.ids.ClientId.{ClientId}

pub record Rules (S : Type 0) : Type 0 where
  -- the state before the first operation
  pub initial : S
  -- the state after an operation of a client, given by its bytes
  pub next : S → ClientId → List ℕ → S
  -- the bytes of its reply
  pub reply : S → ClientId → List ℕ → List ℕ
  -- the bytes that spell a state
  pub spelled : S → List ℕ
  -- the state that bytes spell, where they spell one
  pub read : List ℕ → Option S
