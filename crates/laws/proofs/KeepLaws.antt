-- What step 1 leaves can't be dropped; and the first block of a weak join loses no condition in step 1.
use Prim.Native.Nat.{ℕ, zero, suc, ◌+◌, ◌*◌, ◌≤◌, ◌<◌}
use mathlib.Core.Path.{◌≡◌, refl, sym, ◌∙◌, ap, ap₂, subst}
use mathlib.Core.Bool.{Bool, true, false, ◌&&◌, ◌||◌}
use mathlib.Core.List.{List, [], ◌∷◌}
use mathlib.Core.Logic.{◌⊎◌, inl, inr, ⊎_elim}
use native.Mathlib.Nat.{le_refl, le_trans, not-suc-le-zero, le_of_suc-le-suc, eq-or-lt_of_le}
use native.Mathlib.Omega.{arith}
use borrow.Author.Tests.{lt-ltb, le-ltb}
use lib.Dec.{T, leb, le→leb, leb→le, ltb, ltb→lt, eqb, eqb→eq, eqb_refl}
use lib.ListN.{length}
use Rattle.rules.specs.Bytes.{at, numbers_from}
use Rattle.rules.specs.Cell.{Blind, Positive, cells, card, present, width, value, remap, has, singleton, without, agree_outside}
use Rattle.rules.specs.Limits.{Limits}
use Rattle.rules.specs.Join.{join_exists, first_limits}
use Rattle.rules.specs.Network.{combine}
use Rattle.rules.specs.Stage.{Stage, outside, merged, fits, drop_one, drops, left, first_stage, may_left, whole_table}
use Rattle.rules.specs.Demands.{Inside, Pair, Sets, Admits, Table, StageOf, itself, first_block, second_block, cofactor, weak-first, weak-second}
use Rattle.rules.specs.declared.Gate.{Gate}
use Rattle.rules.specs.declared.Settings.{Settings}
use Rattle.laws.proofs.TestLaws.{and_l, and_i, by_test, cond_ok}
use Rattle.laws.proofs.TableLaws.{all-at, all_of}
use Rattle.laws.proofs.OverLaws.{max-bound, min-bound, over_self, over-least, over_blind}
use Rattle.laws.proofs.SetLaws.{has_same, has-none, singleton-has}
use Rattle.laws.proofs.CellLaws.{not-above, present_lt, value_lt, value_inj, cell_lt, agree-value, value-agree, present-out, sub-present, sub-without, remap-value, cells_pos, without_pos, without_lt, without-half, moved_blind}
use Rattle.laws.proofs.GateLaws.{BlindTo, first_good, first_blind}
use Rattle.laws.proofs.JoinExactLaws.{good_exact}
use Rattle.laws.proofs.WeakLaws.{WeakOf, weak-exists, tried_may}
use Rattle.laws.proofs.GroupLaws.{exact}
use Rattle.laws.proofs.StageLaws.{Ready, drops-none, drops_shrunk, left_shrunk, left-ready, stages-ready}

-- a function within limits that is blind to condition i
pub record Free (ks : List ℕ) (l : Limits) (i : ℕ) : Type 0 where
  pub function : ℕ → ℕ
  pub blind : Blind ks (singleton i) function
  pub inside : Inside ks l function

-- there is one exactly when step 1 could drop i
pub fits_free : (x : Stage) (i : ℕ) → T (fits x.ks (merged i x)) → Free x.ks x.limits i
fits_free x i h =
    record {
      function = at (merged i x).lower;
      blind = over_blind max-bound x.ks (singleton i) x.limits.lower;
      inside = λ c hc. (
        over_self max-bound x.ks (singleton i) x.limits.lower c hc,
        le_trans (leb→le _ _ (all-at (cells x.ks) (λ c. leb (at (merged i x).lower c) (at (merged i x).upper c)) h c hc))
            (over_self min-bound x.ks (singleton i) x.limits.upper c hc),
      );
    }

pub free_fits : (x : Stage) (i : ℕ) → Free x.ks x.limits i → T (fits x.ks (merged i x))
free_fits x i f =
    all_of (cells x.ks) (λ c. leb (at (merged i x).lower c) (at (merged i x).upper c))
    (λ c hc.
    le→leb _ _
    (le_trans (over-least max-bound x.ks (singleton i) x.limits.lower f.function f.blind (λ d hd. (f.inside d hd).0) c hc)
    (over-least min-bound x.ks (singleton i) x.limits.upper f.function f.blind (λ d hd. (f.inside d hd).1) c hc)))

-- one over the shape without t, where the limits are blind to t, is one over the shape
module _ (x : Stage) (t i : ℕ) (l : Limits) (p : Positive x.ks) (bl : BlindTo x.ks t l) where
  abbrev b : List ℕ
  b = without t x.ks

  q : Positive b
  q = without_pos t x.ks p

  agree-back : (c d : ℕ) → T (agree_outside x.ks (singleton i) c d) → T (agree_outside b (singleton i) (remap x.ks b c) (remap x.ks b d))
  agree-back c d a =
      value-agree b (singleton i) (remap x.ks b c) (remap x.ks b d)
      (λ j n.
      by_test (present b j)
      (λ h. remap-value x.ks b c j p q (sub-without t x.ks) h ∙ agree-value x.ks (singleton i) c d j a n ∙ sym (remap-value x.ks b d j p q (sub-without t x.ks) h))
      (λ o. omega (arith, value_lt b (remap x.ks b c) j q, value_lt b (remap x.ks b d) j q, not-above (card b j) o)))

  pub free_outside : Free b (outside t x l).limits i → Free x.ks l i
  free_outside f =
      record {
        function = λ c. f.function (remap x.ks b c);
        blind = λ c d hc hd a. f.blind _ _ (cell_lt b (value x.ks c) q) (cell_lt b (value x.ks d) q) (agree-back c d a);
        inside = λ c hc.
            rw (moved_blind x.ks t l.lower c p bl.lows hc, moved_blind x.ks t l.upper c p bl.highs hc)
            at (f.inside (remap x.ks b c) (cell_lt b (value x.ks c) q));
      }

drop_free : (a : ℕ) (x : Stage) (i : ℕ) → Positive x.ks → Free (without (singleton a) x.ks) (outside (singleton a) x (merged a x)).limits i → Free x.ks x.limits i
drop_free a x i p f =
    record {
      function = g.function;
      blind = g.blind;
      inside = λ c hc. (
        le_trans (over_self max-bound x.ks (singleton a) x.limits.lower c hc) (g.inside c hc).0,
        le_trans (g.inside c hc).1 (over_self min-bound x.ks (singleton a) x.limits.upper c hc),
      );
    }
  where
    g : Free x.ks (merged a x) i
    g =
        free_outside x (singleton a) i (merged a x) p
        (record { lows = over_blind max-bound x.ks (singleton a) x.limits.lower; highs = over_blind min-bound x.ks (singleton a) x.limits.upper }) f

-- no condition below a can be dropped
abbrev Final : ℕ → Stage → Type 0
Final a x = (i : ℕ) → i < a → T (present x.ks i) → Free x.ks x.limits i → ⊥

final_one : (a : ℕ) (x : Stage) → Positive x.ks → Final a x → Final (suc a) (drop_one a x)
final_one a x p h =
    cond_ok (Final (suc a)) (present x.ks a && fits x.ks (merged a x)) (outside (singleton a) x (merged a x)) x
    (λ b i l o f.
    let out = present-out (singleton a) x.ks i o in
    ⊎_elim (λ e. out.0 (subst (λ (z : ℕ). T (has (singleton a) z)) (sym e) (has_same 0 a))) (λ lt. h i lt out.1 (drop_free a x i p f)) (eq-or-lt_of_le (le_of_suc-le-suc l)))
    (λ n i l o f.
    ⊎_elim
    (λ e.
    n (and_i (present x.ks a) (fits x.ks (merged a x)) (subst (λ (z : ℕ). T (present x.ks z)) e o) (free_fits x a (subst (Free x.ks x.limits) e f))))
    (λ lt. h i lt o f) (eq-or-lt_of_le (le_of_suc-le-suc l)))

pos_one : (a : ℕ) (x : Stage) → Positive x.ks → Positive (drop_one a x).ks
pos_one a x p =
    cond_ok (λ (y : Stage). Positive y.ks) (present x.ks a && fits x.ks (merged a x)) (outside (singleton a) x (merged a x)) x (λ b. without_pos (singleton a) x.ks p) (λ n. p)

drops_final : (a n : ℕ) (x : Stage) → Positive x.ks → Final a x → Final (a + n) (drops (numbers_from a n) x)
drops_final a zero x p h = let e : a ≡ a + 0 = omega arith in subst (λ (b : ℕ). Final b x) e h
drops_final a (suc n) x p h =
    let e : suc a + n ≡ a + suc n = omega arith in
    subst (λ (b : ℕ). Final b (drops (numbers_from (suc a) n) (drop_one a x))) e (drops_final (suc a) n (drop_one a x) (pos_one a x p) (final_one a x p h))

pub left_final : (x : Stage) → Positive x.ks → (i : ℕ) → T (present (left x).ks i) → Free (left x).ks (left x).limits i → ⊥
left_final x p i h f =
    drops_final 0 (length x.ks) x p (λ j l. absurd (not-suc-le-zero l)) i
    (omega (arith, present_lt x.ks i (sub-present (left x).ks x.ks (left_shrunk x p).sub i h))) h f

-- what step 1 leaves has the stage's own shape, or one with fewer conditions and half of the cells at most
record Lost (a b : List ℕ) : Type 0 where
  pub fewer : width b < width a
  pub half : 2 * cells b ≤ cells a

drops_lost : (is : List ℕ) (x : Stage) → Positive x.ks → ((drops is x).ks ≡ x.ks) ⊎ Lost x.ks (drops is x).ks
drops_lost [] x p = inl refl
drops_lost (i ∷ is) x p =
    ⊎_elim
    (λ e. subst (λ (b : List ℕ). (b ≡ x.ks) ⊎ Lost x.ks b) (sym e) one)
    (λ h. let s = drops_shrunk (i ∷ []) x p in inr (record { fewer = le_trans h.fewer s.fewer; half = le_trans h.half s.less }))
    (drops_lost is (drop_one i x) (pos_one i x p))
  where
    one : ((drop_one i x).ks ≡ x.ks) ⊎ Lost x.ks (drop_one i x).ks
    one =
        cond_ok (λ (y : Stage). (y.ks ≡ x.ks) ⊎ Lost x.ks y.ks) (present x.ks i && fits x.ks (merged i x)) (outside (singleton i) x (merged i x)) x
        (λ b.
        let h = and_l (present x.ks i) (fits x.ks (merged i x)) b in
        inr (record { fewer = without_lt (singleton i) x.ks i h (has_same 0 i); half = without-half (singleton i) x.ks i p h (has_same 0 i) }))
        (λ n. inl refl)

pub left-half : (x : Stage) → Positive x.ks → width (left x).ks < width x.ks → 2 * cells (left x).ks ≤ cells x.ks
left-half x p h =
    ⊎_elim (λ e. absurd (omega (arith, ap width e))) (λ q. q.half) (drops_lost (numbers_from 0 (length x.ks)) x p)

-- so cells tell whether a condition was lost
pub may_cells : (may : Bool) (x : Stage) → Positive x.ks → may_left may x ≡ (may || ltb (cells (left x).ks) (cells x.ks))
may_cells true x p = refl
may_cells false x p =
    ⊎_elim
    (λ e. ap (λ (b : List ℕ). ltb (width b) (width x.ks)) e ∙ le-ltb (width x.ks) (width x.ks) (le_refl _) ∙ sym (ap (λ (b : List ℕ). ltb (cells b) (cells x.ks)) e ∙ le-ltb (cells x.ks) (cells x.ks) (le_refl _)))
    (λ q.
    let fewer : cells (left x).ks < cells x.ks = let h = q.half in omega (arith, cells_pos (left x).ks (left_shrunk x p).pos) in
    lt-ltb (width (left x).ks) (width x.ks) q.fewer ∙ sym (lt-ltb (cells (left x).ks) (cells x.ks) fewer))
    (drops_lost (numbers_from 0 (length x.ks)) x p)

-- a stage of which no condition can be dropped and no two sets join, and a weak join by a gate at condition i
module _ (m : ℕ) (y : Stage) (r : Ready m y) (final : (j : ℕ) → T (present y.ks j) → Free y.ks y.limits j → ⊥)
    (none : (op : Gate) (s t : ℕ) → Admits m y op s t → ⊥) (op : Gate) (i : ℕ) (hi : T (present y.ks i)) where
  abbrev ks : List ℕ
  ks = y.ks

  abbrev first : Limits
  first = first_limits op ks m (singleton i) 0 y.limits

  exists : T (join_exists op ks m (singleton i) 0 y.limits)
  exists = weak-exists op ks m (singleton i) y.limits r.pos r.good

  two-sets : (j : ℕ) → T (present ks j) → (i ≡ j → ⊥) → Sets ks (singleton i) (singleton j)
  two-sets j hj ne =
      record {
        some_s = (i, has_same 0 i);
        some_t = (j, has_same 0 j);
        in_s = λ k h. subst (λ (z : ℕ). T (present ks z)) (sym (singleton-has i k h)) hi;
        in_t = λ k h. subst (λ (z : ℕ). T (present ks z)) (sym (singleton-has j k h)) hj;
        disjoint = λ k h g. ne (sym (singleton-has i k h) ∙ singleton-has j k g);
      }

  -- the first block's limits admit no function that is blind to one condition: with the second block it would be a join of two sets, or a function of y blind to i
  no_free : (j : ℕ) → T (present ks j) → Free ks first j → ⊥
  no_free j hj f =
      by_test (eqb i j)
      (λ b.
      final i hi
      (record {
        function = λ c. combine op (f.function c) (pair.0 c);
        blind = λ c d hc hd a.
            ap₂ (combine op) (subst (λ (z : ℕ). Blind ks (singleton z) f.function) (sym (eqb→eq i j b)) f.blind c d hc hd a) (pair.1.second_blind c d hc hd a);
        inside = pair.1.inside;
      }))
      (λ n. go (join_exists op ks m (singleton i) (singleton j) y.limits) refl (λ e. n (subst (λ (z : ℕ). T (eqb i z)) e (eqb_refl i))))
    where
      pair : (h : ℕ → ℕ) × Pair op ks m (singleton i) 0 y.limits f.function h
      pair =
          ((good_exact op ks m (singleton i) 0 y.limits r.good).first-exact exists f.function
          (λ c hc. le_trans (f.inside c hc).1 ((first_good ks m (singleton i) 0 op y.limits r.good exists).top c hc))
          (λ c d hc hd a. ap f.function (value_inj ks r.pos c d hc hd (λ k. agree-value ks 0 c d k a (has-none k))))).0 f.inside

      go : (b : Bool) → join_exists op ks m (singleton i) (singleton j) y.limits ≡ b → (i ≡ j → ⊥) → ⊥
      go true e ne = none op (singleton i) (singleton j) (record { sets = two-sets j hj ne; joins = subst T (sym e) tt })
      go false e ne =
          (good_exact op ks m (singleton i) (singleton j) y.limits r.good).refused.0 e f.function pair.0
          (record {
            first-grades = pair.1.first-grades;
            second-grades = pair.1.second-grades;
            first_blind = f.blind;
            second_blind = pair.1.second_blind;
            inside = pair.1.inside;
          })

  abbrev A : Stage
  A = first_stage m op (singleton i) 0 y

  pub weak-keeps : left A ≡ A
  weak-keeps =
      drops-none A
      (λ j h f. no_free j (present-out 0 ks j h).1 (free_outside y 0 j first r.pos (first_blind ks m (singleton i) 0 op y.limits) (fits_free A j f)))
      (numbers_from 0 (length A.ks))

-- so step 1 never changes whether a stage of a table may take a weak join
module _ (how : Settings) (ks : List ℕ) (m : ℕ) (l : Limits) (w : Table ks m l) where
  kept : {may : Bool} {x : Stage} → StageOf how m (whole_table ks l) may x → may ≡ false → left x ≡ x
  kept itself e = absurd (subst T e tt)
  kept (first_block op s t o h c) e = absurd (subst T e tt)
  kept (second_block op s t o h c) e = absurd (subst T e tt)
  kept (cofactor k o h c hk) e = absurd (subst T e tt)
  kept (weak-first {may = may} {x = x} op i o h c t) e =
      let r = stages-ready how ks m l w o in
      weak-keeps m (left x) (left-ready m x r) (left_final x r.pos) ((exact how m (left x)).splits.0 c) op i
      (subst (WeakOf (λ op i. T (may_left may x) × T (present (left x).ks i))) t (tried_may how m (may_left may x) (left x))).1
  kept (weak-second op i o h c t) e = absurd (subst T e tt)

  pub may_same : (may : Bool) (x : Stage) → StageOf how m (whole_table ks l) may x → may_left may x ≡ may
  may_same true x o = refl
  may_same false x o = ap (λ (y : Stage). ltb (width y.ks) (width x.ks)) (kept o refl) ∙ same (width x.ks)
    where
      never : (b : Bool) → (T b → ⊥) → b ≡ false
      never true h = absurd (h tt)
      never false h = refl

      same : (n : ℕ) → ltb n n ≡ false
      same n = never (ltb n n) (λ b. omega (arith, ltb→lt n n b))
