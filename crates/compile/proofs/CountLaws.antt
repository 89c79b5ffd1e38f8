-- What a caller may take for granted of a compile: the verdict behind its answer, and how many records it has written at most.
use Prim.Native.Nat.{ℕ, ◌≤◌}
use mathlib.Core.Path.{◌≡◌, refl, sym, ◌∙◌}
use mathlib.Core.Bool.{true}
use mathlib.Core.List.{List}
use native.Mathlib.Omega.{arith}
use lib.ListN.{length}
use Rattle.std.specs.Prelude.{Result, Ok}
use Rattle.rules.specs.declared.Refusal.{Refusal}
use Rattle.rules.specs.declared.Refusal.TheVariants.{ShapeRange, ShortBuffer, GradeLimits}
use Rattle.rules.specs.declared.Settings.{Settings}
use Rattle.rules.specs.Cell.{cells}
use Rattle.rules.specs.Shape.{places, shape_sound}
use Rattle.rules.specs.Limits.{Limits, limits_sound}
use Rattle.rules.specs.Verdict.{Verdict, accepted, refused, result_of}
use Rattle.rules.specs.Network.{Record}
use Rattle.rules.specs.Demands.{compiled_records}
use Rattle.rules.specs.CompileCall.{compile_room, compile_call}
use Rattle.laws.proofs.TestLaws.{by_order}
use Rattle.laws.proofs.VerdictLaws.{accepted-same, row_passed, ok-err, ok_same}
use Rattle.shape.specs.declared.Shape.{Shape}
use Rattle.shape.specs.Shapes.{places_of, is_sound}
use Rattle.compile.specs.Compiling.{compile_rows, Compiles}
use Rattle.compile.proofs.RowLaws.{cells-between}

-- the verdict behind an answer
pub was_accepted : (v : Verdict (List Record)) {n : ℕ} → Ok n ≡ result_of length v → (rs : List Record) × (v ≡ accepted rs) × (n ≡ length rs)
was_accepted (accepted rs) e = (rs, refl, ok_same e)
was_accepted (refused q) e = ok-err e

-- what is accepted is the table's records
pub accepted-records : (how : Settings) (n m lower upper work network : ℕ) (cards : List ℕ) (l : Limits) {rs : List Record} → compile_call how n cards m lower upper work network l ≡ accepted rs
    → compiled_records how (places cards) m l ≡ rs
accepted-records how n m lower upper work network cards l e =
    let a = row_passed (shape_sound n cards m) ShapeRange _ e in
    let b = row_passed (compile_room (cells (places cards)) lower upper work network) ShortBuffer _ a.1 in
    accepted-same (row_passed (limits_sound (places cards) m l) GradeLimits _ b.1).1

module _ {how : Settings} {shape : Shape} {lower upper work network : List ℕ} {answer : Result ℕ Refusal} {work' network' : List ℕ} (c : Compiles how shape lower upper work network answer work' network') (n : ℕ)
    (e : answer ≡ Ok n) where
  pub shape-sound : is_sound shape ≡ true
  shape-sound = (row_passed (is_sound shape) ShapeRange _ (was_accepted (compile_rows how shape lower upper work network) (sym e ∙ c.answers)).1).0

  pub few-records : n ≤ 3067
  few-records =
      let d = c.keeps-table n e in
      let between = cells-between shape (cells (places_of shape)) refl shape-sound in
      by_order 2 (cells (places_of shape)) (λ h. omega (arith, d.most h, between.1)) (λ h. omega (arith, d.one (omega (arith, between.0))))
