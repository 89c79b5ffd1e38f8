-- The cell that a check finds outside its limits.
use Prim.Native.Nat.{ℕ, zero, suc, ◌+◌, ◌≤◌, ◌<◌}
use mathlib.Core.Path.{◌≡◌, refl, sym, ap, subst, ◌∙◌}
use mathlib.Core.Bool.{Bool, true, false, cond, ◌&&◌}
use mathlib.Core.List.{List, [], ◌∷◌}
use native.Mathlib.Omega.{arith}
use lib.Dec.{T, leb, leb→le, le→leb}
use lib.ListN.{length}
use Rattle.rules.specs.declared.Refusal.TheVariants.{ShapeRange, GradeLimits, ShortBuffer, Network}
use Rattle.rules.specs.Bytes.{at}
use Rattle.rules.specs.Cell.{cells}
use Rattle.rules.specs.Limits.{Limits, limits_of, limits_sound}
use Rattle.rules.specs.Verdict.{accepted, roomy}
use Rattle.rules.specs.Network.{evaluate, network_sound}
use Rattle.rules.specs.NetworkCalls.{outside, check_from}
use Rattle.laws.proofs.TestLaws.{and_l, and_r, and_i, by_order, passes}
use Rattle.laws.proofs.AcceptLaws.{accepted-table}
use Rattle.laws.proofs.VerdictLaws.{row_passed, outside-within}
use Rattle.shape.specs.declared.Shape.{Shape}
use Rattle.shape.specs.Shapes.{cards_of, places_of, is_sound}
use Rattle.shape.proofs.ShapeLaws.{eight-cards}
use Rattle.network.specs.Checking.{check_rows}
use Rattle.network_run.proofs.BelowLaws.{evaluate-below}
use Rattle.network.proofs.CallLaws.{room_test}
use Rattle.network.proofs.CheckLaws.{cell_within}
use Rattle.panel_networks.specs.Checks.{FirstOutside}

module _ (ks : List ℕ) (l : Limits) (net : List ℕ) where
  -- of n cells from c on, d is the first outside
  record Found (c n d q : ℕ) : Type 0 where
    low : c ≤ d
    high : d < c + n
    grade : q ≡ evaluate ks net d
    out : T (cell_within ks l net d) → ⊥
    first : (e : ℕ) → c ≤ e → e < d → T (cell_within ks l net e)

  found_by : (b : Bool) (n c d q : ℕ) → cell_within ks l net c ≡ b → (check_from ks l net (suc c) n ≡ outside d q → Found (suc c) n d q)
      → cond b (check_from ks l net (suc c) n) (outside c (evaluate ks net c)) ≡ outside d q → Found c (suc n) d q
  found_by true n c d q t later e =
      let f = later e in
      record {
        low = omega (arith, f.low);
        high = omega (arith, f.high);
        grade = f.grade;
        out = f.out;
        first = λ i a b. by_order i c (λ le. let same : c ≡ i = omega arith in subst (λ (k : ℕ). T (cell_within ks l net k)) same (passes t)) (λ lt. f.first i lt b);
      }
  found_by false n c d q t later e =
      let cell : c ≡ d = cc in
      let read : evaluate ks net c ≡ q = cc in
      record {
        low = omega arith;
        high = omega arith;
        grade = sym read ∙ ap (evaluate ks net) cell;
        out = λ h. subst T (ap (cell_within ks l net) (sym cell) ∙ t) h;
        first = λ i a b. absurd (omega arith);
      }

  found : (n c d q : ℕ) → check_from ks l net c n ≡ outside d q → Found c n d q
  found zero c d q e = outside-within (sym e)
  found (suc n) c d q e = found_by (cell_within ks l net c) n c d q refl (found n (suc c) d q) e

-- what a check that finds a cell outside has passed, and found
pub record Outside (shape : Shape) (net lower upper : List ℕ) (cell grade : ℕ) : Type 0 where
  pub cell-few : cell < 1024
  pub grade-few : grade < 16
  pub is : FirstOutside shape net lower upper cell grade

module _ (shape : Shape) (net lower upper work : List ℕ) (cell grade : ℕ) where
  pub outside-is : check_rows shape net lower upper work ≡ accepted (outside cell grade) → Outside shape net lower upper cell grade
  outside-is e =
      let ks : List ℕ = places_of shape in
      let limits : Limits = limits_of lower upper in
      let sound = row_passed (is_sound shape) ShapeRange _ e in
      let room = row_passed (roomy (cells ks) (length lower ∷ length upper ∷ []) && room_test shape net work) ShortBuffer _ sound.1 in
      let ordered = row_passed (limits_sound ks shape.m limits) GradeLimits _ room.1 in
      let network = row_passed (network_sound ks shape.m net) Network _ ordered.1 in
      let result : check_from ks limits net 0 (cells ks) ≡ outside cell grade = cc in
      let f = found ks limits net (cells ks) 0 cell grade result in
      let table = accepted-table shape.n (cards_of shape) shape.m (eight-cards shape) (passes sound.0) limits (passes ordered.0) in
      let q : ℕ = evaluate ks net cell in
      record {
        cell-few = omega (arith, f.high, table.few-cells);
        grade-few = omega (arith, f.grade, table.few-grades, evaluate-below shape.m (omega (arith, table.grades)) ks net cell table.few-values network.0);
        is =
            record {
              there = omega (arith, f.high);
              reads = f.grade;
              out = λ a b. f.out (and_i (leb (at lower cell) q) (leb q (at upper cell)) (le→leb (at lower cell) q (omega (arith, f.grade))) (le→leb q (at upper cell) (omega (arith, f.grade))));
              first = λ c h.
                  let p : ℕ = evaluate ks net c in
                  let t = f.first c (omega arith) h in
                  (leb→le (at lower c) p (and_l (leb (at lower c) p) (leb p (at upper c)) t), leb→le p (at upper c) (and_r (leb (at lower c) p) (leb p (at upper c)) t));
            };
      }
