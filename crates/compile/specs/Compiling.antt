-- What `compile` promises.
use Rattle.std.specs.Prelude.{ℕ, ◌-◌, ◌*◌, ◌≤◌, ◌≡◌, true, List, ◌++◌, [], ◌∷◌, T, Result, Ok, Err, length, take, drop}
use Rattle.rules.specs.declared.Refusal.{Refusal}
use Rattle.rules.specs.declared.Settings.{Settings}
use Rattle.rules.specs.Cell.{cells}
use Rattle.rules.specs.Limits.{limits_of, limits_sound}
use Rattle.rules.specs.Verdict.{Verdict, accepted, refused, result_of, says, answer_of}
use Rattle.rules.specs.Network.{Record, network_bytes, network_sound, evaluate}
use Rattle.rules.specs.Demands.{Inside, Capped, EveryStage, compiled_records, Compiled}
use Rattle.rules.specs.CompileCall.{compile_work, table_room, lent_limits, compile_call}
use Rattle.rules.specs.Forecast.{network_depth}
use Rattle.rules.specs.Bytes.{Past}
use Rattle.shape.specs.declared.Shape.{Shape}
use Rattle.shape.specs.Shapes.{cards_of, places_of, is_sound}
use Rattle.stage_steps.specs.declared.gates.Extent.{Extent}

-- the network buffer after a call: the records and what lay behind them, or all as it was
abbrev pub network_after : Verdict (List Record) → List ℕ → List ℕ
network_after (accepted rs) network = network_bytes rs ++ drop (16 * length rs) network
network_after (refused r) network = network

-- the rows of document 01 for compiling under settings, with a work and a network buffer of these lengths
abbrev pub table_rows : Settings → Shape → List ℕ → List ℕ → ℕ → ℕ → Verdict (List Record)
table_rows how shape lower upper work network =
    compile_call how shape.n (cards_of shape) shape.m (length lower) (length upper) work network (lent_limits (places_of shape) lower upper)

abbrev pub compile_rows : Settings → Shape → List ℕ → List ℕ → List ℕ → List ℕ → Verdict (List Record)
compile_rows how shape lower upper work network = table_rows how shape lower upper (length work) (length network)

-- the first n records of a buffer, as bytes
abbrev pub written : ℕ → List ℕ → List ℕ
written n network = take (16 * n) network

-- demand 3 of a table and the n records that stand in the network buffer. It holds of the records that the table's stages give, and
-- these are the bytes of those: so every cell's grade, as evaluation reads the bytes, is within the cell's limits, no record is faulty,
-- none has a grade above its byte 2, and there are no more of them than 01 allows
pub record KeepsTable (how : Settings) (shape : Shape) (lower upper : List ℕ) (n : ℕ) (network : List ℕ) : Type 0 where
  pub compiled : Compiled how (places_of shape) shape.m (lent_limits (places_of shape) lower upper)
  pub bytes : written n network ≡ network_bytes (compiled_records how (places_of shape) shape.m (lent_limits (places_of shape) lower upper))
  pub within : Inside (places_of shape) (limits_of lower upper) (evaluate (places_of shape) (written n network))
  pub sound : T (network_sound (places_of shape) shape.m (written n network))
  pub capped : Capped (places_of shape) (written n network)
  pub one : cells (places_of shape) ≡ 1 → n ≡ 1
  pub most : 2 ≤ cells (places_of shape) → n ≤ 3 * cells (places_of shape) - 5
  pub stages : EveryStage how (places_of shape) shape.m (lent_limits (places_of shape) lower upper)

-- the answer, which is how many records were written, and every byte of the network buffer by the rows of document 01, for every shape
-- and all buffers; a refusal leaves the work buffer too, and nothing changes its length or its bytes past those that it asks for; records are what demand 3 asks for
pub record Compiles (how : Settings) (shape : Shape) (lower upper work network : List ℕ) (answer : Result ℕ Refusal) (work' network' : List ℕ) : Type 0 where
  pub answers : answer ≡ result_of length (compile_rows how shape lower upper work network)
  pub means : says (λ n. n ∷ []) answer ≡ answer_of (λ rs. length rs ∷ []) (compile_rows how shape lower upper work network)
  pub network-after : network' ≡ network_after (compile_rows how shape lower upper work network) network
  pub refusal_keeps : (r : Refusal) → answer ≡ Err r → work' ≡ work
  pub kept : Past (compile_work (cells (places_of shape))) work work'
  pub keeps-table : (n : ℕ) → answer ≡ Ok n → KeepsTable how shape lower upper n network'

-- a table that no row stops, with a work buffer of this length
pub record Accepted (shape : Shape) (lower upper : List ℕ) (work : ℕ) : Type 0 where
  pub shape-sound : is_sound shape ≡ true
  pub room : table_room (cells (places_of shape)) (length lower) (length upper) work ≡ true
  pub limits-sound : limits_sound (places_of shape) shape.m (lent_limits (places_of shape) lower upper) ≡ true

-- its network: how far it reaches, and its bytes in a network buffer that has room for them
module _ (how : Settings) (shape : Shape) (lower upper work network : List ℕ) where
  abbrev rs : List Record
  rs = compiled_records how (places_of shape) shape.m (lent_limits (places_of shape) lower upper)

  pub record Recorded (of : Extent) (work' network' : List ℕ) : Type 0 where
    pub count : of.next ≡ length rs
    pub depth : of.depth ≡ network_depth rs
    pub bytes : 16 * length rs ≤ length network → network' ≡ network_after (accepted rs) network
    pub kept : Past (compile_work (cells (places_of shape))) work work'
