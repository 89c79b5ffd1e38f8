-- 01, Stages and "Places where a call stops": the call that compiles a table.
use Rattle.std.specs.Prelude.{ℕ, ◌-◌, ◌*◌, Bool, ◌&&◌, List, [], ◌∷◌, leb, eqb, take}
use Rattle.rules.specs.declared.Refusal.TheVariants.{ShapeRange, GradeLimits, ShortBuffer}
use Rattle.rules.specs.declared.Settings.{Settings}
use Rattle.rules.specs.Bytes.{pick}
use Rattle.rules.specs.Cell.{cells}
use Rattle.rules.specs.Shape.{places, shape_sound}
use Rattle.rules.specs.Limits.{Limits, limits_of, limits_sound}
use Rattle.rules.specs.Verdict.{Verdict, accepted, unless, roomy}
use Rattle.rules.specs.Network.{Record}
use Rattle.rules.specs.Demands.{compiled_records}

-- the most records that a table of c cells can need
abbrev pub most_records : ℕ → ℕ
most_records c = pick (eqb c 1) 1 (3 * c - 5)

-- the bytes of work for a table of c cells; by request 5, which takes the place of 01's 16 for each
abbrev pub compile_work : ℕ → ℕ
compile_work c = 32 * c

-- row 10, by lengths: a byte for each of c cells in both limit buffers, and the work
abbrev pub table_room : ℕ → ℕ → ℕ → ℕ → Bool
table_room c lower upper work = roomy c (lower ∷ upper ∷ []) && leb (compile_work c) work

-- and sixteen bytes for each of the most records in the network buffer
abbrev pub compile_room : ℕ → ℕ → ℕ → ℕ → ℕ → Bool
compile_room c lower upper work network = table_room c lower upper work && leb (16 * most_records c) network

-- a table's limits: those that the lent buffers hold for its cells, which may be fewer than the bytes lent
abbrev pub lent_limits : List ℕ → List ℕ → List ℕ → Limits
lent_limits ks lower upper = limits_of (take (cells ks) lower) (take (cells ks) upper)

-- the settings, a shape's bytes, the lengths of the four buffers, and the table's limits: rows 4, 10 and 5, then the records of the
-- table's network
abbrev pub compile_call : Settings → ℕ → List ℕ → ℕ → ℕ → ℕ → ℕ → ℕ → Limits → Verdict (List Record)
compile_call how n cards m lower upper work network l =
    unless (shape_sound n cards m) ShapeRange
    (unless (compile_room (cells (places cards)) lower upper work network) ShortBuffer
    (unless (limits_sound (places cards) m l) GradeLimits
    (accepted (compiled_records how (places cards) m l))))
