-- A literal is sound where its byte 2 is a grade, the greatest of its eight bytes, and those past the cardinality are zero.
use Prim.Native.Nat.{ℕ, suc, ◌+◌, ◌-◌, ◌≤◌, ◌<◌}
use mathlib.Core.Path.{◌≡◌, sym, ◌∙◌, ap}
use mathlib.Core.Bool.{◌&&◌}
use mathlib.Core.List.{List}
use native.Mathlib.Omega.{arith}
use borrow.Author.Tests.{eq-eqb, lt-ltb, le-ltb}
use lib.Dec.{T, eqb, eqb→eq, ltb, ltb→lt, lt→ltb, nltb→le, not_T}
use lib.ListN.{length, take, drop, length-take, get_or-eq_default}
use lib.Seq.{get_or-take, get_or-drop}
use Rattle.rules.specs.Bytes.{at, zeros, tabulate, greatest}
use Rattle.rules.specs.Network.{literal_byte_sound}
use Rattle.laws.proofs.TestLaws.{and_l, and_r, and_i, by_order, cond_ok, passes, same_test}
use Rattle.laws.proofs.TableLaws.{all-at, all_of, at-tabulate, tabulate_from_below}
use Rattle.laws.proofs.CeilingLaws.{at-greatest, greatest-bound}
use Rattle.network_scan.specs.Kinds.{grades_sound, ceiling_is}

module _ (values m : ℕ) (r : List ℕ) (long : length r ≡ 16) (some : 1 ≤ values) where
  abbrev byte : ℕ → ℕ
  byte v = at r (8 + v)

  abbrev grades : List ℕ
  grades = tabulate values byte

  abbrev bytes : List ℕ
  bytes = take 8 (drop 8 r)

  byte_at : (v : ℕ) → v < 8 → at bytes v ≡ byte v
  byte_at v h = get_or-take 8 (drop 8 r) v 0 h ∙ get_or-drop 8 r v 0

  behind : (v : ℕ) → 8 ≤ v → byte v ≡ 0
  behind v h = get_or-eq_default r 0 (omega arith)

  grades-bound : (b : ℕ) → ((v : ℕ) → byte v ≤ b) → (v : ℕ) → at grades v ≤ b
  grades-bound b h v = let low = tabulate_from_below (suc b) byte 0 values (omega arith) (λ w p q. omega (arith, h w)) v in omega arith

  -- the others being zeros, the greatest byte is the greatest grade
  module _ (past : (v : ℕ) → values ≤ v → byte v ≡ 0) where
    few_bytes : (v : ℕ) → at bytes v ≤ greatest grades
    few_bytes v =
        by_order 8 v
        (λ le. let none : at bytes v ≡ 0 = get_or-eq_default bytes 0 (omega (arith, length-take 8 (drop 8 r))) in omega arith)
        (λ lt.
        by_order values v (λ le. omega (arith, byte_at v lt, past v le))
        (λ l. omega (arith, byte_at v lt, at-tabulate values byte v l, at-greatest grades v)))

    few-grades : (v : ℕ) → at grades v ≤ greatest bytes
    few-grades =
        grades-bound (greatest bytes)
        (λ v. by_order 8 v (λ le. omega (arith, behind v le)) (λ lt. omega (arith, byte_at v lt, at-greatest bytes v)))

    greatest-bytes : greatest bytes ≡ greatest grades
    greatest-bytes = omega (arith, greatest-bound bytes (greatest grades) few_bytes, greatest-bound grades (greatest bytes) few-grades)

  -- in a sound literal they are zeros, and byte 2 is a grade as all grades are
  module _ (sound : T (grades_sound values m r)) where
    byte-sound : (v : ℕ) → v < 8 → T (literal_byte_sound values m v (byte v))
    byte-sound = all-at 8 (λ v. literal_byte_sound values m v (byte v)) sound

    sound_past : (v : ℕ) → values ≤ v → byte v ≡ 0
    sound_past v h =
        by_order 8 v (behind v)
        (λ lt. let t = byte-sound v lt in eqb→eq (byte v) 0 (rw (le-ltb v values h) at t))

    sound-below : (v : ℕ) → v < 8 → v < values → byte v < m
    sound-below v lt h = let t = byte-sound v lt in ltb→lt (byte v) m (rw (lt-ltb v values h) at t)

    grade-below : (v : ℕ) → at grades v ≤ m - 1
    grade-below =
        grades-bound (m - 1)
        (λ v. by_order 8 v (λ le. omega (arith, behind v le)) (λ lt. by_order values v (λ le. omega (arith, sound_past v le)) (λ l. omega (arith, sound-below v lt l))))

    greatest-below : greatest grades < m
    greatest-below = omega (arith, greatest-bound grades (m - 1) grade-below, sound-below 0 (omega arith) some)

    sound-zeros : T (zeros r (8 + values) 16)
    sound-zeros =
        all_of (16 - (8 + values)) (λ j. eqb (at r (8 + values + j)) 0)
        (λ j l. let e : 8 + values + j ≡ 8 + (values + j) = omega arith in passes (eq-eqb _ 0 (ap (at r) e ∙ sound_past (values + j) (omega arith))))

  -- and the other way round
  zeros_past : T (zeros r (8 + values) 16) → (v : ℕ) → values ≤ v → byte v ≡ 0
  zeros_past z v h =
      by_order 8 v (behind v)
      (λ lt.
      let e : 8 + values + (v - values) ≡ 8 + v = omega arith in
      sym (ap (at r) e) ∙ eqb→eq _ 0 (all-at (16 - (8 + values)) (λ j. eqb (at r (8 + values + j)) 0) z (v - values) (omega arith)))

  bytes-sound : at r 2 < m → T (zeros r (8 + values) 16) → at r 2 ≡ greatest grades → T (grades_sound values m r)
  bytes-sound top z e =
      all_of 8 (λ v. literal_byte_sound values m v (byte v))
      (λ v l.
      cond_ok T (ltb v values) _ _
      (λ t. lt→ltb (byte v) m (omega (arith, at-tabulate values byte v (ltb→lt v values t), at-greatest grades v)))
      (λ n. passes (eq-eqb (byte v) 0 (zeros_past z v (nltb→le v values (not_T (ltb v values) n))))))

  pub literal_tests : (grades_sound values m r && ceiling_is (greatest grades) r) ≡ (ltb (at r 2) m && (zeros r (8 + values) 16 && eqb (at r 2) (greatest bytes)))
  literal_tests =
      same_test (grades_sound values m r && ceiling_is (greatest grades) r) (ltb (at r 2) m && (zeros r (8 + values) 16 && eqb (at r 2) (greatest bytes)))
      (λ t.
      let sound : T (grades_sound values m r) = and_l (grades_sound values m r) (ceiling_is (greatest grades) r) t in
      let top : at r 2 ≡ greatest grades = eqb→eq _ _ (and_r (grades_sound values m r) (ceiling_is (greatest grades) r) t) in
      and_i (ltb (at r 2) m) _ (lt→ltb (at r 2) m (omega (arith, greatest-below sound)))
      (and_i (zeros r (8 + values) 16) _ (sound-zeros sound) (passes (eq-eqb _ _ (top ∙ sym (greatest-bytes (sound_past sound)))))))
      (λ t.
      let rest : T (zeros r (8 + values) 16 && eqb (at r 2) (greatest bytes)) = and_r (ltb (at r 2) m) _ t in
      let z : T (zeros r (8 + values) 16) = and_l (zeros r (8 + values) 16) (eqb (at r 2) (greatest bytes)) rest in
      let top : at r 2 ≡ greatest grades = eqb→eq _ _ (and_r (zeros r (8 + values) 16) (eqb (at r 2) (greatest bytes)) rest) ∙ greatest-bytes (zeros_past z) in
      and_i (grades_sound values m r) _ (bytes-sound (ltb→lt (at r 2) m (and_l (ltb (at r 2) m) _ t)) z top) (passes (eq-eqb _ _ top)))
