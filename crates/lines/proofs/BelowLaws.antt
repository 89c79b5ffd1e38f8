-- A grade against the grades along a line: whether it is above the least of them.
use Prim.Native.Nat.{ℕ, ◌+◌, ◌*◌, ◌≤◌, ◌<◌}
use mathlib.Core.Path.{◌≡◌, sym, ◌∙◌, ap, subst}
use mathlib.Core.Bool.{Bool, true, false, not}
use mathlib.Core.List.{List}
use native.Mathlib.Nat.{zero-add}
use native.Mathlib.Omega.{arith}
use lib.Dec.{leb}
use lib.ListN.{length}
use Rattle.std.specs.Bool.{MatchBool}
use Rattle.std.specs.List.{range_with_len, HoldsAt, AllWithin}
use Rattle.std.proofs.lemmas.List.FromFn.{length-range_with_len, get_or-range_with_len}
use borrow.Author.Tests.{le-leb, lt-leb}
use Rattle.rules.specs.Bytes.{at}
use Rattle.laws.proofs.OverLaws.{min-bound, over_to-at, over_to-both}
use Rattle.tables.specs.Line.{line_best}

module _ (w : List ℕ) (a step card g : ℕ) where
  pub line_passed : 0 < card → ((v : ℕ) → v < card → g ≤ at w (a + step * v)) → false ≡ not (leb g (line_best false w a step card))
  unfolding line_best
  line_passed some h =
      let first : g ≤ at w a = subst (λ (x : ℕ). g ≤ at w x) (omega arith) (h 0 some) in
      sym (ap not (le-leb g _ (over_to-both min-bound (λ v. true) (λ v. at w (a + step * v)) (at w a) g card first (λ d l t. h d l))))

  pub line_failed : (v : ℕ) → v < card → at w (a + step * v) < g → true ≡ not (leb g (line_best false w a step card))
  unfolding line_best
  line_failed v l b =
      let least = over_to-at min-bound (λ v. true) (λ v. at w (a + step * v)) (at w a) card v l tt in
      sym (ap not (lt-leb g _ (omega (arith, least))))

  -- as `any` finds it
  pub line-any : (r : Bool) → 0 < card
      → MatchBool r ((k : ℕ) × (k < length (range_with_len 0 card)) × HoldsAt (λ v. at w (a + step * v) < g) (range_with_len 0 card) k)
      (AllWithin (λ v. g ≤ at w (a + step * v)) (range_with_len 0 card) 0 (length (range_with_len 0 card)))
      → r ≡ not (leb g (line_best false w a step card))
  line-any true some f =
      let h : f.0 < card = omega (arith, f.1, length-range_with_len 0 card) in
      line_failed f.0 h (subst (λ (v : ℕ). at w (a + step * v) < g) (get_or-range_with_len 0 card f.0 0 h ∙ zero-add f.0) (f.2 0))
  line-any false some f =
      line_passed some
      (λ v h. subst (λ (u : ℕ). g ≤ at w (a + step * u)) (get_or-range_with_len 0 card v 0 h ∙ zero-add v) (f v 0 (omega arith) (omega (arith, length-range_with_len 0 card))))
