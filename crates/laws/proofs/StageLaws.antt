-- Every stage's network is within its limits, and well formed.
use Prim.Native.Nat.{ℕ, zero, suc, ◌-◌, ◌≤◌, ◌<◌, min}
use mathlib.Core.Path.{◌≡◌, refl, sym, ◌∙◌, ap, subst}
use mathlib.Core.Bool.{Bool, true, false, ◌&&◌}
use mathlib.Core.List.{List, [], ◌∷◌}
use native.Mathlib.Nat.{le_refl, le_trans}
use native.Mathlib.Omega.{arith}
use lib.Dec.{T, leb, ltb, eqb, leb→le, le→leb, ltb→lt, eqb→eq, eqb_refl}
use lib.ListN.{length}
use Rattle.rules.specs.Bytes.{at, tabulate, all, pick, numbers_from}
use Rattle.rules.specs.Cell.{Positive, cells, card, present, width, lowest, value, remap, without, singleton, least_over}
use Rattle.rules.specs.Limits.{Limits}
use Rattle.rules.specs.Join.{join_exists, first_limits, second_limits}
use Rattle.rules.specs.Tree.{Tree, fixed, lookup, gated, tree_grade, size}
use Rattle.rules.specs.Stage.{Stage, outside, computed, merged, fits, drop_one, drops, left, Choice, split, joining, chosen, Weak, nowhere, weakly, tried, first_stage, second_stage, cofactor_cell, cofactor_stage, join_tree, split_part, split_to, split_tree, weak_tree, fewest, choice_tree, left_tree, may_left, rank, stage_tree, tree_of, whole_table, compiled}
use Rattle.rules.specs.Demands.{Between, Inside, Admits, Table, StageOf, itself, first_block, second_block, cofactor, weak-first, weak-second}
use Rattle.rules.specs.Settings.{split_condition}
use Rattle.rules.specs.declared.Gate.{Gate}
use Rattle.rules.specs.declared.Settings.{Settings}
use Rattle.laws.proofs.TestLaws.{same_test, and_l, and_r, by_order, cond_ok, pick_ok}
use Rattle.laws.proofs.TableLaws.{at-tabulate, all-at, all_of}
use Rattle.laws.proofs.OverLaws.{max-bound, min-bound, over_self, over-least, over_blind}
use Rattle.laws.proofs.SetLaws.{has_same}
use Rattle.laws.proofs.CellLaws.{cells_pos, cell_lt, value_lt, Sub, sub_trans, sub-without, without_pos, without_le, without_lt, without-cells, without-half, moved_at, moved_blind}
use Rattle.laws.proofs.LowestLaws.{no_width, lowest-present, one-cells, one_value}
use Rattle.laws.proofs.SplitLaws.{cofactor_lt, cofactor_of, split-present}
use Rattle.laws.proofs.TreeLaws.{Made, made_tabulate, made_wider, made_below, made_remap, computed-at}
use Rattle.laws.proofs.GroupLaws.{ChoiceOf, chosen_ok}
use Rattle.laws.proofs.WeakLaws.{WeakOf, weak-exists, tried_may, rank_left, rank-fewer, weak-first-rank, one_fewer}
use Rattle.laws.proofs.GateLaws.{Good, BlindTo, first_good, first_blind, second_good, second_blind, gate-within}

-- a stage that can be started
pub record Ready (m : ℕ) (x : Stage) : Type 0 where
  pub grades : 0 < m
  pub pos : Positive x.ks
  pub good : Good x.ks m x.limits

-- a network of it
pub record NetOk (m : ℕ) (x : Stage) (n : Tree) : Type 0 where
  pub within : Inside x.ks x.limits (λ c. tree_grade n (value x.ks c))
  pub made : Made x.ks m n

-- fewer conditions
module _ (m t : ℕ) (x : Stage) (l : Limits) (p : Positive x.ks) where
  abbrev b : List ℕ
  b = without t x.ks

  pub outside-ready : 0 < m → Good x.ks m l → Ready m (outside t x l)
  outside-ready h g =
      record {
        grades = h;
        pos = without_pos t x.ks p;
        good =
            record {
              room = λ c hc. rw (moved_at x.ks b l.lower c hc, moved_at x.ks b l.upper c hc) (g.room _ (cell_lt x.ks (value b c) p));
              top = λ c hc. rw (moved_at x.ks b l.upper c hc) (g.top _ (cell_lt x.ks (value b c) p));
            };
      }

  outside-within : BlindTo x.ks t l → (n : Tree) → NetOk m (outside t x l) n → Inside x.ks l (λ c. tree_grade n (value x.ks c))
  outside-within bl n o c hc =
      rw (moved_blind x.ks t l.lower c p bl.lows hc, moved_blind x.ks t l.upper c p bl.highs hc, made_remap x.ks b m n c p (without_pos t x.ks p) (sub-without t x.ks) o.made)
      at (o.within (remap x.ks b c) (cell_lt b (value x.ks c) (without_pos t x.ks p)))

-- 1. Drop: a condition can be dropped where no lower grade is above the least upper grade over it, since that is blind to it
pub drop-is : (ks : List ℕ) (i : ℕ) (l : Limits)
    → all (cells ks) (λ c. leb (at l.lower c) (at (least_over ks (singleton i) l.upper) c))
    ≡ fits ks (merged i (record { ks = ks; limits = l }))
drop-is ks i l =
    let s = singleton i in
    same_test _ _
    (λ t.
    all_of (cells ks) _
    (λ c hc.
    le→leb _ _
    (over-least max-bound ks s l.lower (at (least_over ks s l.upper)) (over_blind min-bound ks s l.upper)
    (λ d hd. leb→le _ _ (all-at (cells ks) _ t d hd)) c hc)))
    (λ t.
    all_of (cells ks) _
    (λ c hc. le→leb _ _ (le_trans (over_self max-bound ks s l.lower c hc) (leb→le _ _ (all-at (cells ks) _ t c hc)))))

-- where none of those that are there can be, nothing is dropped
pub drops-none : (x : Stage) → ((i : ℕ) → T (present x.ks i) → T (fits x.ks (merged i x)) → ⊥) → (is : List ℕ) → drops is x ≡ x
drops-none x h [] = refl
drops-none x h (i ∷ is) =
    let there = present x.ks i in
    let fit = fits x.ks (merged i x) in
    ap (drops is)
    (cond_ok (λ (y : Stage). y ≡ x) (there && fit) (outside (singleton i) x (merged i x)) x
    (λ t. absurd (h i (and_l there fit t) (and_r there fit t))) (λ n. refl))
    ∙ drops-none x h is

-- the shape
pub record Shrunk (x y : Stage) : Type 0 where
  pub pos : Positive y.ks
  pub sub : Sub y.ks x.ks
  pub fewer : width y.ks ≤ width x.ks
  pub less : cells y.ks ≤ cells x.ks
  pub same : cells y.ks ≡ cells x.ks → y.ks ≡ x.ks

shrunk_one : (i : ℕ) (x : Stage) → Positive x.ks → Shrunk x (drop_one i x)
shrunk_one i x p =
    cond_ok (Shrunk x) (present x.ks i && fits x.ks (merged i x)) (outside (singleton i) x (merged i x)) x
    (λ h.
    record {
      pos = without_pos (singleton i) x.ks p;
      sub = sub-without (singleton i) x.ks;
      fewer = without_le (singleton i) x.ks;
      less = without-cells (singleton i) x.ks p;
      same = λ e.
          absurd
          (let f = without-half (singleton i) x.ks i p (and_l (present x.ks i) (fits x.ks (merged i x)) h) (has_same 0 i) in
          omega (arith, cells_pos x.ks p));
    })
    (λ h. record { pos = p; sub = λ j q. refl; fewer = le_refl _; less = le_refl _; same = λ e. refl })

pub drops_shrunk : (is : List ℕ) (x : Stage) → Positive x.ks → Shrunk x (drops is x)
drops_shrunk [] x p = record { pos = p; sub = λ j q. refl; fewer = le_refl _; less = le_refl _; same = λ e. refl }
drops_shrunk (i ∷ is) x p =
    let a = shrunk_one i x p in
    let r = drops_shrunk is (drop_one i x) a.pos in
    record {
      pos = r.pos;
      sub = sub_trans (drops is (drop_one i x)).ks (drop_one i x).ks x.ks r.sub a.sub;
      fewer = le_trans r.fewer a.fewer;
      less = le_trans r.less a.less;
      same = λ e. let f = r.less in let g = a.less in r.same (omega arith) ∙ a.same (omega arith);
    }

pub left_shrunk : (x : Stage) → Positive x.ks → Shrunk x (left x)
left_shrunk x p = drops_shrunk (numbers_from 0 (length x.ks)) x p

-- the limits
record Dropped (m : ℕ) (x y : Stage) : Type 0 where
  pub ready : Ready m y
  pub back : (n : Tree) → NetOk m y n → NetOk m x n

drop-one : (m i : ℕ) (x : Stage) → Ready m x → T (fits x.ks (merged i x)) → Dropped m x (outside (singleton i) x (merged i x))
drop-one m i x r h =
    record {
      ready = outside-ready m (singleton i) x (merged i x) r.pos r.grades good;
      back = λ n o.
          record {
            within = λ c hc.
                let w = outside-within m (singleton i) x (merged i x) r.pos blind n o c hc in
                (le_trans (over_self max-bound x.ks (singleton i) x.limits.lower c hc) w.0, le_trans w.1 (over_self min-bound x.ks (singleton i) x.limits.upper c hc));
            made = made_wider (without (singleton i) x.ks) x.ks m n (sub-without (singleton i) x.ks) o.made;
          };
    }
  where
    good : Good x.ks m (merged i x)
    good =
        record {
          room = λ c hc. leb→le _ _ (all-at (cells x.ks) (λ c. leb (at (merged i x).lower c) (at (merged i x).upper c)) h c hc);
          top = λ c hc. le_trans (over_self min-bound x.ks (singleton i) x.limits.upper c hc) (r.good.top c hc);
        }

    blind : BlindTo x.ks (singleton i) (merged i x)
    blind = record { lows = over_blind max-bound x.ks (singleton i) x.limits.lower; highs = over_blind min-bound x.ks (singleton i) x.limits.upper }

drops_ok : (m : ℕ) (is : List ℕ) (x : Stage) → Ready m x → Dropped m x (drops is x)
drops_ok m [] x r = record { ready = r; back = λ n o. o }
drops_ok m (i ∷ is) x r =
    let one = cond_ok (Dropped m x) (present x.ks i && fits x.ks (merged i x)) (outside (singleton i) x (merged i x)) x
    (λ h. drop-one m i x r (and_r (present x.ks i) (fits x.ks (merged i x)) h)) (λ h. record { ready = r; back = λ n o. o }) in
    let more = drops_ok m is (drop_one i x) one.ready in
    record { ready = more.ready; back = λ n o. one.back n (more.back n o) }

pub left-ready : (m : ℕ) (x : Stage) → Ready m x → Ready m (left x)
left-ready m x r = (drops_ok m (numbers_from 0 (length x.ks)) x r).ready

-- 2. None left, one left
leaf-between : (m : ℕ) (x : Stage) → Ready m x → (c : ℕ) → c < cells x.ks → Between x.limits c (at x.limits.lower c)
leaf-between m x r c hc = (le_refl _, r.good.room c hc)

leaf-below : (m : ℕ) (x : Stage) → Ready m x → (c : ℕ) → c < cells x.ks → at x.limits.lower c < m
leaf-below m x r c hc = below (leaf-between m x r c hc).1 (r.good.top c hc) r.grades
  where
    below : {q u m : ℕ} → q ≤ u → u ≤ m - 1 → 0 < m → q < m
    below h g p = omega arith

pub fixed_ok : (m : ℕ) (x : Stage) → Ready m x → width x.ks ≡ 0 → NetOk m x (fixed (at x.limits.lower 0))
fixed_ok m x r e =
    record {
      within = λ c hc.
          let z : c ≡ 0 = omega (arith, no_width x.ks r.pos e) in
          subst (λ (d : ℕ). Between x.limits d (at x.limits.lower 0)) (sym z) (leaf-between m x r 0 h0);
      made = leaf-below m x r 0 h0;
    }
  where
    h0 : 0 < cells x.ks
    h0 = omega (arith, no_width x.ks r.pos e)

pub literal-grade : (ks : List ℕ) (f : List ℕ) (c : ℕ) → Positive ks → width ks ≡ 1 → c < cells ks
    → tree_grade (lookup (lowest ks) (tabulate (card ks (lowest ks)) (at f))) (value ks c) ≡ at f c
literal-grade ks f c p e hc =
    at-tabulate (card ks (lowest ks)) (at f) (value ks c (lowest ks)) (value_lt ks c (lowest ks) p) ∙ ap (at f) (one_value ks p e c hc)

literal_ok : (m : ℕ) (x : Stage) → Ready m x → width x.ks ≡ 1
    → NetOk m x (lookup (lowest x.ks) (tabulate (card x.ks (lowest x.ks)) (at x.limits.lower)))
literal_ok m x r e =
    record {
      within = λ c hc. subst (Between x.limits c) (sym (literal-grade x.ks x.limits.lower c r.pos e hc)) (leaf-between m x r c hc);
      made =
          made_tabulate x.ks m (lowest x.ks) (at x.limits.lower) r.grades (lowest-present x.ks r.pos (omega arith))
          (λ v hv. leaf-below m x r v (omega (arith, one-cells x.ks r.pos e)));
    }

-- the stages that a stage starts can be started
module _ (x : Stage) (p : Positive x.ks) (i k : ℕ) where
  abbrev sub : List ℕ
  sub = without (singleton i) x.ks

  cofactor-at : (f : List ℕ) (c : ℕ) → c < cells sub → at (tabulate (cells sub) (λ c. at f (cofactor_cell x.ks i k c))) c ≡ at f (cofactor_cell x.ks i k c)
  cofactor-at f = at-tabulate (cells sub) (λ c. at f (cofactor_cell x.ks i k c))

  pub cofactor-ready : (m : ℕ) → Ready m x → k < card x.ks i → Ready m (cofactor_stage i k x)
  cofactor-ready m r hk =
      record {
        grades = r.grades;
        pos = without_pos (singleton i) x.ks p;
        good =
            record {
              room = λ c hc. rw (cofactor-at x.limits.lower c hc, cofactor-at x.limits.upper c hc) (r.good.room _ (cofactor_lt x.ks i p k c hk));
              top = λ c hc. rw (cofactor-at x.limits.upper c hc) (r.good.top _ (cofactor_lt x.ks i p k c hk));
            };
      }

module _ (m : ℕ) (op : Gate) (s t : ℕ) (x : Stage) (r : Ready m x) (e : T (join_exists op x.ks m s t x.limits)) where
  pub first-ready : Ready m (first_stage m op s t x)
  first-ready = outside-ready m t x (first_limits op x.ks m s t x.limits) r.pos r.grades (first_good x.ks m s t op x.limits r.good e)

  pub second-ready : (g : List ℕ) → Inside x.ks (first_limits op x.ks m s t x.limits) (at g) → Ready m (second_stage m op s t x g)
  second-ready g w =
      outside-ready m s x (second_limits op x.ks m s t x.limits g) r.pos r.grades (second_good x.ks m s t op x.limits g r.good e w)

  -- 5. the blocks' networks
  module _ (a : Tree) (first_ok : NetOk m (first_stage m op s t x) a) where
    abbrev g : List ℕ
    g = computed x.ks a

    pub first-inside : Inside x.ks (first_limits op x.ks m s t x.limits) (at g)
    first-inside c hc =
        rw (computed-at x.ks a c hc)
        (outside-within m t x (first_limits op x.ks m s t x.limits) r.pos (first_blind x.ks m s t op x.limits) a first_ok c hc)

    pub second-start : Ready m (second_stage m op s t x g)
    second-start = second-ready g first-inside

    pub blocks_ok : (b : Tree) → NetOk m (second_stage m op s t x g) b → NetOk m x (gated op a b)
    blocks_ok b second_ok =
        record {
          within = λ c hc.
              rw (computed-at x.ks a c hc) at
              (gate-within x.ks m s t op x.limits g (λ c. tree_grade b (value x.ks c)) r.good e first-inside
              (outside-within m s x (second_limits op x.ks m s t x.limits g) r.pos (second_blind x.ks m s t op x.limits g) b second_ok) c hc);
          made = (
            made_wider (without t x.ks) x.ks m a (sub-without t x.ks) first_ok.made,
            made_wider (without s x.ks) x.ks m b (sub-without s x.ks) second_ok.made,
          );
        }

-- 6. the grade of a split: that of the stage for the value
module _ (m : ℕ) (net : Bool → Stage → Tree) (i : ℕ) (x : Stage) (v : ℕ → ℕ) (low : (k : ℕ) → k < card x.ks i → tree_grade (net true (cofactor_stage i k x)) v < m) where
  abbrev top : ℕ
  top = card x.ks i

  abbrev here : ℕ
  here = v i

  part-grade : (k : ℕ) → here < top → k < top → ((here ≡ k → tree_grade (split_part m net i x k) v ≡ tree_grade (net true (cofactor_stage i k x)) v) × ((here ≡ k → ⊥) → tree_grade (split_part m net i x k) v ≡ 0))
  part-grade k hv hk =
      rw (at-tabulate top (λ w. pick (eqb w k) (m - 1) 0) here hv)
      (go (eqb here k) (eqb→eq here k) (λ n e. n (subst (λ (z : ℕ). T (eqb here z)) e (eqb_refl here))) (tree_grade (net true (cofactor_stage i k x)) v) (low k hk))
    where
      go : (o : Bool) → (T o → here ≡ k) → ((T o → ⊥) → here ≡ k → ⊥) → (y : ℕ) → y < m
          → (here ≡ k → min (pick o (m - 1) 0) y ≡ y) × ((here ≡ k → ⊥) → min (pick o (m - 1) 0) y ≡ 0)
      go true f n y h = ((λ e. omega arith), (λ o. absurd (o (f tt))))
      go false f n y h = ((λ e. absurd (n (λ z. z) e)), (λ o. omega arith))

  split-to : (k : ℕ) → here < top → k < top
      → (here ≤ k → tree_grade (split_to m net i x k) v ≡ tree_grade (net true (cofactor_stage i here x)) v) × (k < here → tree_grade (split_to m net i x k) v ≡ 0)
  split-to zero hv hk =
      let q = part-grade 0 hv hk in
      ((λ le. let e : here ≡ 0 = omega arith in q.0 e ∙ ap (λ (j : ℕ). tree_grade (net true (cofactor_stage i j x)) v) (sym e)), (λ lt. q.1 (λ e. omega arith)))
  split-to (suc k) hv hk =
      let r = split-to k hv (omega arith) in
      let q = part-grade (suc k) hv hk in (
        (λ le.
            by_order here k (λ a. omega (arith, r.0 a, q.1 (λ e. omega arith)))
            (λ lt. let e : here ≡ suc k = omega arith in omega (arith, r.1 lt, q.0 e, ap (λ (j : ℕ). tree_grade (net true (cofactor_stage i j x)) v) e))),
        (λ lt. omega (arith, r.1 (omega arith), q.1 (λ e. omega arith))),
      )

  pub split-grade : here < top → tree_grade (split_to m net i x (top - 1)) v ≡ tree_grade (net true (cofactor_stage i here x)) v
  split-grade hv = (split-to (top - 1) hv (omega arith)).0 (omega arith)

-- what is asked of the stages of rank f at most
abbrev pub SubOk : ℕ → (Bool → Stage → Tree) → ℕ → Type 0
SubOk m net f = (may : Bool) (x : Stage) → rank may x ≤ f → Ready m x → NetOk m x (net may x)

module _ (how : Settings) (m : ℕ) (net : Bool → Stage → Tree) (f : ℕ) (ok : SubOk m net f) (may : Bool) (x : Stage) (hf : rank may x ≤ suc f) (r : Ready m x) where
  below-rank : (q : Bool) (z : Stage) → width z.ks < width x.ks → Ready m z → NetOk m z (net q z)
  below-rank q z h p = ok q z (omega (arith, rank-fewer q may z x h)) p

  -- 5.
  module _ (op : Gate) (s t : ℕ) (ad : Admits m x op s t) where
    pub first_ok : NetOk m (first_stage m op s t x) (net true (first_stage m op s t x))
    first_ok =
        let a = ad.sets.some_t in
        below-rank true (first_stage m op s t x) (without_lt t x.ks a.0 (ad.sets.in_t a.0 a.1) a.1) (first-ready m op s t x r ad.joins)

    abbrev B : Stage
    B = second_stage m op s t x (computed x.ks (net true (first_stage m op s t x)))

    pub second_ok : NetOk m B (net true B)
    second_ok =
        let a = ad.sets.some_s in
        below-rank true B (without_lt s x.ks a.0 (ad.sets.in_s a.0 a.1) a.1) (second-start m op s t x r ad.joins _ first_ok)

    join_ok : NetOk m x (join_tree m net true op s t x)
    join_ok = blocks_ok m op s t x r ad.joins _ first_ok _ second_ok

  -- a weak join
  module _ (op : Gate) (i : ℕ) (yes : T may) (h : T (present x.ks i)) where
    joins : T (join_exists op x.ks m (singleton i) 0 x.limits)
    joins = weak-exists op x.ks m (singleton i) x.limits r.pos r.good

    pub weak-first_ok : NetOk m (first_stage m op (singleton i) 0 x) (net false (first_stage m op (singleton i) 0 x))
    weak-first_ok =
        ok false (first_stage m op (singleton i) 0 x) (omega (arith, weak-first-rank may m op (singleton i) x yes)) (first-ready m op (singleton i) 0 x r joins)

    abbrev weak_B : Stage
    weak_B = second_stage m op (singleton i) 0 x (computed x.ks (net false (first_stage m op (singleton i) 0 x)))

    pub weak-second_ok : NetOk m weak_B (net true weak_B)
    weak-second_ok = below-rank true weak_B (one_fewer x.ks i h) (second-start m op (singleton i) 0 x r joins _ weak-first_ok)

    weak_ok : NetOk m x (weak_tree m net op i x)
    weak_ok = blocks_ok m op (singleton i) 0 x r joins _ weak-first_ok _ weak-second_ok

  -- 6. a split on condition i
  module _ (i : ℕ) (h : T (present x.ks i)) where
    pub cofactor_ok : (k : ℕ) → k < card x.ks i → NetOk m (cofactor_stage i k x) (net true (cofactor_stage i k x))
    cofactor_ok k hk = below-rank true (cofactor_stage i k x) (one_fewer x.ks i h) (cofactor-ready x r.pos i k m r hk)

    part_made : (k : ℕ) → k < card x.ks i → Made x.ks m (split_part m net i x k)
    part_made k hk = (
      made_tabulate x.ks m i (λ v. pick (eqb v k) (m - 1) 0) r.grades h
          (λ v hv. pick_ok (λ (q : ℕ). q < m) (eqb v k) (m - 1) 0 (λ o. omega (arith, r.grades)) (λ o. r.grades)),
      made_wider (without (singleton i) x.ks) x.ks m (net true (cofactor_stage i k x)) (sub-without (singleton i) x.ks) (cofactor_ok k hk).made,
    )

    split_to_made : (k : ℕ) → k < card x.ks i → Made x.ks m (split_to m net i x k)
    split_to_made zero hk = part_made 0 hk
    split_to_made (suc k) hk = (split_to_made k (omega arith), part_made (suc k) hk)

    -- its function is that of the stage for the value
    pub split_at : (v : ℕ → ℕ) → v i < card x.ks i → tree_grade (split_tree m net i x) v ≡ tree_grade (net true (cofactor_stage i (v i) x)) v
    split_at v hv = split-grade m net i x v (λ k hk. made_below (without (singleton i) x.ks) m (net true (cofactor_stage i k x)) (cofactor_ok k hk).made v) hv

    split_ok : NetOk m x (split_tree m net i x)
    split_ok =
        record {
          within = λ c hc.
              let k = value x.ks c i in
              let hk : k < card x.ks i = value_lt x.ks c i r.pos in
              let b = without (singleton i) x.ks in
              let p = without_pos (singleton i) x.ks r.pos in
              let hd = cell_lt b (value x.ks c) p in
              let n = net true (cofactor_stage i k x) in
              let o = cofactor_ok k hk in
              subst (Between x.limits c) (sym (split_at (value x.ks c) hk))
              (rw (cofactor-at x r.pos i k x.limits.lower (remap x.ks b c) hd, cofactor-at x r.pos i k x.limits.upper (remap x.ks b c) hd, cofactor_of x.ks i r.pos c hc, made_remap x.ks b m n c r.pos p (sub-without (singleton i) x.ks) o.made)
              at (o.within (remap x.ks b c) hd));
          made = split_to_made (card x.ks i - 1) (omega (arith, ltb→lt 1 (card x.ks i) h));
        }

  -- 2. to 6.
  fewest_ok : (w : Weak) (j : ℕ) → T (present x.ks j) → WeakOf (λ op i. T may × T (present x.ks i)) w → NetOk m x (fewest m net w j x)
  fewest_ok nowhere j h o = split_ok j h
  fewest_ok (weakly op i) j h o =
      cond_ok (NetOk m x) (ltb (size (weak_tree m net op i x)) (size (split_tree m net j x))) (weak_tree m net op i x) (split_tree m net j x)
      (λ b. weak_ok op i o.0 o.1) (λ n. split_ok j h)

  choice_ok : (ch : Choice) → 1 ≤ width x.ks → ChoiceOf (Admits m x) ch → NetOk m x (choice_tree how m net may ch x)
  choice_ok split w o =
      fewest_ok (tried how m may x) (split_condition how.splits x.ks) (split-present how.splits x.ks w) (tried_may how m may x)
  choice_ok (joining op s t) w o = join_ok op s t o

  pub left_ok : (n : ℕ) → width x.ks ≡ n → NetOk m x (left_tree how m net may n x)
  left_ok zero e = fixed_ok m x r e
  left_ok (suc zero) e = literal_ok m x r e
  left_ok (suc (suc n)) e = choice_ok (chosen how m x) (omega arith) (chosen_ok how m x)

-- every stage
pub stage_ok : (how : Settings) (m f : ℕ) → SubOk m (stage_tree how m f) f
stage_ok how m zero may x hf r = fixed_ok m x r (omega arith)
stage_ok how m (suc f) may x hf r =
    let d = drops_ok m (numbers_from 0 (length x.ks)) x r in
    d.back _
    (left_ok how m (stage_tree how m f) f (stage_ok how m f) (may_left may x) (left x) (le_trans (rank_left may x (left_shrunk x r.pos).fewer) hf) d.ready (width (left x).ks) refl)

pub network_ok : (how : Settings) (m : ℕ) (may : Bool) (x : Stage) → Ready m x → NetOk m x (tree_of how m may x)
network_ok how m may x r = stage_ok how m (rank may x) may x (le_refl _) r

-- the whole table
pub whole_ready : (ks : List ℕ) (m : ℕ) (l : Limits) → Table ks m l → Ready m (whole_table ks l)
whole_ready ks m l t = record { grades = omega (arith, t.grades); pos = t.positive; good = record { room = t.ordered; top = t.top } }

pub compiled_ok : (how : Settings) (ks : List ℕ) (m : ℕ) (l : Limits) → Table ks m l → NetOk m (whole_table ks l) (compiled how ks m l)
compiled_ok how ks m l t = network_ok how m true (whole_table ks l) (whole_ready ks m l t)

-- every stage of a table
pub admitted : (how : Settings) (m : ℕ) (y : Stage) (op : Gate) (s t : ℕ) → chosen how m y ≡ joining op s t → Admits m y op s t
admitted how m y op s t e = subst (ChoiceOf (Admits m y)) e (chosen_ok how m y)

-- the stages that a join of two sets, or a weak join, starts: `may` for its first block
module _ (how : Settings) (m : ℕ) (op : Gate) (s t : ℕ) (y : Stage) (r : Ready m y) (e : T (join_exists op y.ks m s t y.limits)) (may : Bool) where
  pub second_of : Ready m (second_stage m op s t y (computed y.ks (tree_of how m may (first_stage m op s t y))))
  second_of = second-start m op s t y r e _ (network_ok how m may (first_stage m op s t y) (first-ready m op s t y r e))

pub weak-joins : (m : ℕ) (op : Gate) (s : ℕ) (y : Stage) → Ready m y → T (join_exists op y.ks m s 0 y.limits)
weak-joins m op s y r = weak-exists op y.ks m s y.limits r.pos r.good

pub stages-ready : (how : Settings) (ks : List ℕ) (m : ℕ) (l : Limits) → Table ks m l → {may : Bool} {x : Stage} → StageOf how m (whole_table ks l) may x → Ready m x
stages-ready how ks m l w itself = whole_ready ks m l w
stages-ready how ks m l w (first_block {x = x} op s t o h e) =
    first-ready m op s t (left x) (left-ready m x (stages-ready how ks m l w o)) (admitted how m (left x) op s t e).joins
stages-ready how ks m l w (second_block {x = x} op s t o h e) =
    second_of how m op s t (left x) (left-ready m x (stages-ready how ks m l w o)) (admitted how m (left x) op s t e).joins true
stages-ready how ks m l w (cofactor {x = x} k o h e hk) =
    let r = left-ready m x (stages-ready how ks m l w o) in
    cofactor-ready (left x) r.pos (split_condition how.splits (left x).ks) k m r hk
stages-ready how ks m l w (weak-first {x = x} op i o h e c) =
    let r = left-ready m x (stages-ready how ks m l w o) in
    first-ready m op (singleton i) 0 (left x) r (weak-joins m op (singleton i) (left x) r)
stages-ready how ks m l w (weak-second {x = x} op i o h e c) =
    let r = left-ready m x (stages-ready how ks m l w o) in
    second_of how m op (singleton i) 0 (left x) r (weak-joins m op (singleton i) (left x) r) false
