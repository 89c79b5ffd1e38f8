-- What `grades_compile_with` promises, and `grades_compile` of the usual settings.
use Rattle.std.specs.Prelude.{ℕ, ◌≤◌, ◌<◌, ◌≡◌, List, length}
use Rattle.rules.specs.declared.Settings.{Settings}
use Rattle.rules.specs.Verdict.{Verdict}
use Rattle.rules.specs.Network.{Record}
use Rattle.rules.specs.Bytes.{Past}
use Rattle.rules.specs.Cell.{cells}
use Rattle.rules.specs.CompileCall.{compile_work}
use Rattle.shape.specs.Shapes.{places_of}
use Rattle.compile.specs.Compiling.{compile_rows, network_after, KeepsTable}
use Rattle.panel_answers.specs.Answers.{lent_shape, lent, call_number}

module _ (how : Settings) (bytes lower upper work network : List ℕ) where
  abbrev verdict : Verdict (List Record)
  verdict = lent bytes (λ shape. compile_rows how shape lower upper work network)

  -- how many records, and every byte of the network buffer, by the rows of document 01; a refusal leaves the work buffer too, and nothing
  -- changes its length or its bytes past those that it asks for; records are what demand 3 asks for
  pub record Compiles (r : ℕ) (work' network' : List ℕ) : Type 0 where
    pub answer : r ≡ call_number verdict length
    pub network-after : network' ≡ network_after verdict network
    pub refusal_keeps : 65536 ≤ r → work' ≡ work
    pub kept : Past (compile_work (cells (places_of (lent_shape bytes)))) work work'
    pub keeps-table : r < 65536 → KeepsTable how (lent_shape bytes) lower upper r network'
