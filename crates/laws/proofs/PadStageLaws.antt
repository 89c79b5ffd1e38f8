-- The network of a shape and of the padded shape are one.
use Prim.Native.Nat.{ℕ, zero, suc, ◌+◌, ◌-◌, ◌*◌, ◌≤◌, min, max}
use mathlib.Core.Path.{◌≡◌, refl, ◌∙◌, ap, ap₂, fun_ext}
use mathlib.Core.Bool.{Bool, true, false, not, cond, ◌&&◌, ◌||◌}
use mathlib.Core.List.{List, [], ◌∷◌}
use native.Mathlib.Nat.{le_refl, suc-add, zero-add}
use native.Mathlib.Omega.{arith}
use lib.Dec.{T, eqb, leb, ltb}
use lib.ListN.{length, replicate, length-append, length-replicate}
use Rattle.rules.specs.Bytes.{pick, at, tabulate, all, numbers_from}
use Rattle.rules.specs.Cell.{cells, card, present, width, lowest, remap, put, has, singleton, without, moved}
use Rattle.rules.specs.Limits.{Limits, each}
use Rattle.rules.specs.Join.{join_exists, first_limits, second_limits, weak_counts}
use Rattle.rules.specs.Tree.{Tree, lookup, gated, tree_grade, size}
use Rattle.rules.specs.Stage.{Stage, outside, computed, merged, fits, drop_one, drops, left, Grouping, none, sets, pair_with, first_pair, add_condition, grow, grouping, groups, Choice, split, joining, choose, chosen, Weak, nowhere, weakly, first_weak, weak_found, tried, first_stage, second_stage, cofactor_stage, selector, join_tree, split_part, split_to, split_tree, fewest, choice_tree, left_tree, may_left, rank, stage_tree, whole_table, compiled}
use Rattle.rules.specs.declared.Gate.{Gate}
use Rattle.rules.specs.declared.SplitOn.{SplitOn}
use Rattle.rules.specs.declared.SplitOn.TheVariants.{Lowest, MostValues}
use Rattle.rules.specs.declared.Settings.{Settings}
use Rattle.rules.specs.Settings.{split_condition}
use Rattle.rules.specs.declared.Gate.TheVariants.{Min, Max}
use Rattle.laws.proofs.TestLaws.{and_l, and_r, cond_ok}
use Rattle.laws.proofs.CellLaws.{present_lt, length_without}
use Rattle.laws.proofs.WeakLaws.{weak-none}
use Rattle.laws.proofs.SplitLaws.{split-present}
use Rattle.laws.proofs.PadLaws.{more, cells-more, value-more, card-more, width-more, lowest-more, most-more, remap-more, put-more, without_more, over-more, moved_more, exists-more, first_more, second_more, weak_more}

-- places past the end
length-drop : (i : ℕ) (x : Stage) → length (drop_one i x).ks ≡ length x.ks
length-drop i x =
    cond_ok (λ (y : Stage). length y.ks ≡ length x.ks) (present x.ks i && fits x.ks (merged i x)) (outside (singleton i) x (merged i x)) x (λ h. length_without (singleton i) x.ks) (λ h. refl)

past : (ks : List ℕ) (i : ℕ) → length ks ≤ i → T (present ks i) → ⊥
past ks i h t = omega (arith, present_lt ks i t)

drops_past : (a n : ℕ) (x : Stage) → length x.ks ≤ a → drops (numbers_from a n) x ≡ x
drops_past a zero x h = refl
drops_past a (suc n) x h =
    ap (drops (numbers_from (suc a) n))
    (cond_ok (λ (y : Stage). y ≡ x) (present x.ks a && fits x.ks (merged a x)) (outside (singleton a) x (merged a x)) x (λ b. absurd (past x.ks a h (and_l (present x.ks a) _ b))) (λ b. refl))
    ∙ drops_past (suc a) n x (omega arith)

drops-cut : (a n p : ℕ) (x : Stage) → length x.ks ≤ a + n → drops (numbers_from a (n + p)) x ≡ drops (numbers_from a n) x
drops-cut a zero p x h = rw (zero-add p) (drops_past a p x (omega arith))
drops-cut a (suc n) p x h = rw (suc-add n p) (drops-cut (suc a) n p (drop_one a x) (omega (arith, length-drop a x)))

module _ (is : ℕ → Bool) (joins : ℕ → ℕ → Bool) (e : ℕ) (end : (i : ℕ) → e ≤ i → T (is i) → ⊥) where
  pair_past : (i a n : ℕ) (other : Grouping) → e ≤ a → pair_with is joins i (numbers_from a n) other ≡ other
  pair_past i a zero other h = refl
  pair_past i a (suc n) other h =
      cond_ok (λ (g : Grouping). g ≡ other) (is i && (is a && joins (singleton i) (singleton a))) _ _ (λ b. absurd (end a h (and_l (is a) _ (and_r (is i) _ b)))) (λ b. pair_past i (suc a) n other (omega arith))

  pair_cut : (i a n p : ℕ) (other : Grouping) → e ≤ a + n → pair_with is joins i (numbers_from a (n + p)) other ≡ pair_with is joins i (numbers_from a n) other
  pair_cut i a zero p other h = rw (zero-add p) (pair_past i a p other (omega arith))
  pair_cut i a (suc n) p other h =
      rw (suc-add n p) (ap (cond (is i && (is a && joins (singleton i) (singleton a))) (sets (singleton i) (singleton a))) (pair_cut i (suc a) n p other (omega arith)))

  first_past : (a n : ℕ) → e ≤ a → first_pair is joins (numbers_from a n) ≡ none
  first_past a zero h = refl
  first_past a (suc n) h = pair_past a (suc a) n _ (omega arith) ∙ first_past (suc a) n (omega arith)

  first-cut : (a n p : ℕ) → e ≤ a + n → first_pair is joins (numbers_from a (n + p)) ≡ first_pair is joins (numbers_from a n)
  first-cut a zero p h = rw (zero-add p) (first_past a p (omega arith))
  first-cut a (suc n) p h =
      rw (suc-add n p) (pair_cut a (suc a) n p _ (omega arith) ∙ ap (pair_with is joins a (numbers_from (suc a) n)) (first-cut (suc a) n p (omega arith)))

  add_past : (i : ℕ) (g : Grouping) → e ≤ i → add_condition is joins i g ≡ g
  add_past i none h = refl
  add_past i (sets s t) h = cond_ok (λ (g : Grouping). g ≡ sets s t) (is i && (not (has s i) && not (has t i))) _ (sets s t) (λ b. absurd (end i h (and_l (is i) _ b))) (λ b. refl)

  grow_past : (a n : ℕ) (g : Grouping) → e ≤ a → grow is joins (numbers_from a n) g ≡ g
  grow_past a zero g h = refl
  grow_past a (suc n) g h = ap (grow is joins (numbers_from (suc a) n)) (add_past a g h) ∙ grow_past (suc a) n g (omega arith)

  grow-cut : (a n p : ℕ) (g : Grouping) → e ≤ a + n → grow is joins (numbers_from a (n + p)) g ≡ grow is joins (numbers_from a n) g
  grow-cut a zero p g h = rw (zero-add p) (grow_past a p g (omega arith))
  grow-cut a (suc n) p g h = rw (suc-add n p) (grow-cut (suc a) n p (add_condition is joins a g) (omega arith))

  grouping-cut : (n p : ℕ) → e ≤ n → grouping is joins (numbers_from 0 (n + p)) ≡ grouping is joins (numbers_from 0 n)
  grouping-cut n p h = grow-cut 0 n p _ (omega arith) ∙ ap (grow is joins (numbers_from 0 n)) (first-cut 0 n p (omega arith))

-- weak joins, at numbers below the end only
module _ (counts : Gate → ℕ → Bool) (e : ℕ) (end : (op : Gate) (i : ℕ) → e ≤ i → T (counts op i) → ⊥) where
  weak-cut : (a n p : ℕ) → e ≤ a + n → first_weak counts (numbers_from a (n + p)) ≡ first_weak counts (numbers_from a n)
  weak-cut a zero p h = rw (zero-add p) (weak-none counts a p (λ op i l u. end op i (omega arith)))
  weak-cut a (suc n) p h =
      rw (suc-add n p) (ap (λ (w : Weak). cond (counts Max a) (weakly Max a) (cond (counts Min a) (weakly Min a) w)) (weak-cut (suc a) n p (omega arith)))

-- stages
module _ (p : ℕ) where
  abbrev pad_s : Stage → Stage
  pad_s x = record { ks = more p x.ks; limits = x.limits }

  abbrev stage : List ℕ → Limits → Stage
  stage b l = record { ks = b; limits = l }

  abbrev lims : List ℕ → List ℕ → Limits
  lims a b = record { lower = a; upper = b }

  length_more : (ks : List ℕ) → length (more p ks) ≡ length ks + p
  length_more ks = length-append ks (replicate p 1) ∙ ap (λ (n : ℕ). length ks + n) (length-replicate p 1)

  present-more : (ks : List ℕ) → present (more p ks) ≡ present ks
  present-more ks = fun_ext (λ i. ap (ltb 1) (card-more p ks i))

  outside-more : (t : ℕ) (x : Stage) (l : Limits) → outside t (pad_s x) l ≡ pad_s (outside t x l)
  outside-more t x l =
      ap (λ (b : List ℕ). stage b (each (moved (more p x.ks) b) l)) (without_more p t x.ks)
      ∙ ap₂ (λ (a b : List ℕ). stage (more p (without t x.ks)) (lims a b)) (moved_more p x.ks (without t x.ks) l.lower) (moved_more p x.ks (without t x.ks) l.upper)

  merged-more : (i : ℕ) (x : Stage) → merged i (pad_s x) ≡ merged i x
  merged-more i x = ap₂ lims (over-more p max x.ks (singleton i) x.limits.lower) (over-more p min x.ks (singleton i) x.limits.upper)

  fits_more : (ks : List ℕ) (l : Limits) → fits (more p ks) l ≡ fits ks l
  fits_more ks l = ap (λ (n : ℕ). all n (λ c. leb (at l.lower c) (at l.upper c))) (cells-more p ks)

  drop_more : (i : ℕ) (x : Stage) → drop_one i (pad_s x) ≡ pad_s (drop_one i x)
  drop_more i x =
      ap (λ (l : Limits). cond (present (more p x.ks) i && fits (more p x.ks) l) (outside (singleton i) (pad_s x) l) (pad_s x)) (merged-more i x)
      ∙ ap₂ (λ (o : Bool) (y : Stage). cond o y (pad_s x)) (ap₂ (λ (a b : Bool). a && b) (ap (λ (f : ℕ → Bool). f i) (present-more x.ks)) (fits_more x.ks (merged i x))) (outside-more (singleton i) x (merged i x))
      ∙ go (present x.ks i && fits x.ks (merged i x))
    where
      go : (o : Bool) → cond o (pad_s (outside (singleton i) x (merged i x))) (pad_s x) ≡ pad_s (cond o (outside (singleton i) x (merged i x)) x)
      go true = refl
      go false = refl

  drops-more : (is : List ℕ) (x : Stage) → drops is (pad_s x) ≡ pad_s (drops is x)
  drops-more [] x = refl
  drops-more (i ∷ is) x = ap (drops is) (drop_more i x) ∙ drops-more is (drop_one i x)

  left-more : (x : Stage) → left (pad_s x) ≡ pad_s (left x)
  left-more x =
      ap (λ (n : ℕ). drops (numbers_from 0 n) (pad_s x)) (length_more x.ks)
      ∙ drops-more (numbers_from 0 (length x.ks + p)) x
      ∙ ap pad_s (drops-cut 0 (length x.ks) p x (omega arith))

  groups-more : (m : ℕ) (x : Stage) (op : Gate) → groups m (pad_s x) op ≡ groups m x op
  groups-more m x op =
      ap₂ (λ (is : ℕ → Bool) (joins : ℕ → ℕ → Bool). grouping is joins (numbers_from 0 (length (more p x.ks)))) (present-more x.ks) (fun_ext (λ s. fun_ext (λ t. exists-more p op x.ks m s t x.limits)))
      ∙ ap (λ (n : ℕ). grouping (present x.ks) j (numbers_from 0 n)) (length_more x.ks)
      ∙ grouping-cut (present x.ks) j (length x.ks) (past x.ks) (length x.ks) p (le_refl _)
    where
      j : ℕ → ℕ → Bool
      j s t = join_exists op x.ks m s t x.limits

  pub chosen_more : (how : Settings) (m : ℕ) (x : Stage) → chosen how m (pad_s x) ≡ chosen how m x
  chosen_more how m x = ap₂ (choose how.tie) (groups-more m x Max) (groups-more m x Min)

  found-more : (m : ℕ) (x : Stage) → weak_found m (pad_s x) ≡ weak_found m x
  found-more m x =
      ap₂ (λ (is : ℕ → Bool) (w : Gate → ℕ → Bool). first_weak (λ op i. is i && w op i) (numbers_from 0 (length (more p x.ks)))) (present-more x.ks) (fun_ext (λ op. fun_ext (λ i. weak_more p op x.ks m i x.limits)))
      ∙ ap (λ (n : ℕ). first_weak counts (numbers_from 0 n)) (length_more x.ks)
      ∙ weak-cut counts (length x.ks) (λ op i h b. past x.ks i h (and_l (present x.ks i) (weak_counts op x.ks m i x.limits) b)) 0 (length x.ks) p (omega arith)
    where
      counts : Gate → ℕ → Bool
      counts op i = present x.ks i && weak_counts op x.ks m i x.limits

  computed_more : (ks : List ℕ) (n : Tree) → computed (more p ks) n ≡ computed ks n
  computed_more ks n = ap₂ (λ (k : ℕ) (v : ℕ → ℕ → ℕ). tabulate k (λ c. tree_grade n (v c))) (cells-more p ks) (fun_ext (λ c. fun_ext (λ i. value-more p ks c i)))

  low-card : (ks : List ℕ) → 1 ≤ width ks → card (more p ks) (lowest (more p ks)) ≡ card ks (lowest ks)
  low-card ks w = ap (card (more p ks)) (lowest-more p ks w) ∙ card-more p ks (lowest ks)

  cofactor-more : (i k : ℕ) (x : Stage) → T (present x.ks i) → cofactor_stage i k (pad_s x) ≡ pad_s (cofactor_stage i k x)
  cofactor-more i k x h =
      ap (λ (b : List ℕ). stage b (each (λ f. tabulate (cells b) (λ c. at f (put (more p x.ks) (remap b (more p x.ks) c) i k))) x.limits)) (without_more p (singleton i) x.ks)
      ∙ ap₂ (λ (n : ℕ) (g : ℕ → ℕ). stage (more p b) (each (λ f. tabulate n (λ c. at f (g c))) x.limits)) (cells-more p b)
      (fun_ext (λ c. put-more p x.ks (remap (more p b) (more p x.ks) c) i k h ∙ ap (λ (d : ℕ). put x.ks d i k) (remap-more p b x.ks c)))
    where
      b : List ℕ
      b = without (singleton i) x.ks

  selector-more : (m : ℕ) (ks : List ℕ) (i k : ℕ) → selector m (more p ks) i k ≡ selector m ks i k
  selector-more m ks i k = ap (λ (q : ℕ). lookup i (tabulate q (λ v. pick (eqb v k) (m - 1) 0))) (card-more p ks i)

  condition-more : (on : SplitOn) (ks : List ℕ) → 1 ≤ width ks → split_condition on (more p ks) ≡ split_condition on ks
  condition-more Lowest ks h = lowest-more p ks h
  condition-more MostValues ks h = most-more p ks

  module _ (m : ℕ) (net : Bool → Stage → Tree) (same : (q : Bool) (z : Stage) → net q (pad_s z) ≡ net q z) where
    part-more : (i : ℕ) (x : Stage) (k : ℕ) → T (present x.ks i) → split_part m net i (pad_s x) k ≡ split_part m net i x k
    part-more i x k h = ap₂ (gated Min) (selector-more m x.ks i k) (ap (net true) (cofactor-more i k x h) ∙ same true (cofactor_stage i k x))

    split_to-more : (i : ℕ) (x : Stage) (k : ℕ) → T (present x.ks i) → split_to m net i (pad_s x) k ≡ split_to m net i x k
    split_to-more i x zero h = part-more i x 0 h
    split_to-more i x (suc k) h = ap₂ (gated Max) (split_to-more i x k h) (part-more i x (suc k) h)

    split-more : (i : ℕ) (x : Stage) → T (present x.ks i) → split_tree m net i (pad_s x) ≡ split_tree m net i x
    split-more i x h = ap (λ (q : ℕ). split_to m net i (pad_s x) (q - 1)) (card-more p x.ks i) ∙ split_to-more i x (card x.ks i - 1) h

    join_more : (may : Bool) (op : Gate) (s t : ℕ) (x : Stage) → join_tree m net may op s t (pad_s x) ≡ join_tree m net may op s t x
    join_more may op s t x =
        ap (λ (a : Tree). gated op a (net true (second_stage m op s t (pad_s x) (computed (more p x.ks) a))))
        (ap (λ (l : Limits). net may (outside t (pad_s x) l)) (first_more p op x.ks m s t x.limits) ∙ ap (net may) (outside-more t x (first_limits op x.ks m s t x.limits)) ∙ same may (first_stage m op s t x))
        ∙ ap (gated op a)
        (ap (λ (g : List ℕ). net true (second_stage m op s t (pad_s x) g)) (computed_more x.ks a)
        ∙ ap (λ (l : Limits). net true (outside s (pad_s x) l)) (second_more p op x.ks m s t x.limits (computed x.ks a))
        ∙ ap (net true) (outside-more s x (second_limits op x.ks m s t x.limits (computed x.ks a)))
        ∙ same true (second_stage m op s t x (computed x.ks a)))
      where
        a : Tree
        a = net may (first_stage m op s t x)

    fewest-more : (w : Weak) (i : ℕ) (x : Stage) → T (present x.ks i) → fewest m net w i (pad_s x) ≡ fewest m net w i x
    fewest-more nowhere i x h = split-more i x h
    fewest-more (weakly op j) i x h = ap₂ (λ (a b : Tree). cond (ltb (size a) (size b)) a b) (join_more false op (singleton j) 0 x) (split-more i x h)

    module _ (how : Settings) where
      choice_more : (may : Bool) (ch : Choice) (x : Stage) → 1 ≤ width x.ks → choice_tree how m net may ch (pad_s x) ≡ choice_tree how m net may ch x
      choice_more may split x h =
          ap₂ (λ (w : Weak) (i : ℕ). fewest m net (cond (how.weak && may) w nowhere) i (pad_s x)) (found-more m x) (condition-more how.splits x.ks h)
          ∙ fewest-more (tried how m may x) (split_condition how.splits x.ks) x (split-present how.splits x.ks h)
      choice_more may (joining op s t) x h = join_more true op s t x

      left_tree-more : (may : Bool) (n : ℕ) (x : Stage) → width x.ks ≡ n → left_tree how m net may n (pad_s x) ≡ left_tree how m net may n x
      left_tree-more may zero x e = refl
      left_tree-more may (suc zero) x e = ap₂ (λ (i q : ℕ). lookup i (tabulate q (at x.limits.lower))) (lowest-more p x.ks (omega arith)) (low-card x.ks (omega arith))
      left_tree-more may (suc (suc n)) x e = ap (λ (ch : Choice). choice_tree how m net may ch (pad_s x)) (chosen_more how m x) ∙ choice_more may (chosen how m x) x (omega arith)

  may_more : (may : Bool) (x : Stage) → may_left may (pad_s x) ≡ may_left may x
  may_more may x =
      ap (λ (y : Stage). may || ltb (width y.ks) (width (more p x.ks))) (left-more x)
      ∙ ap₂ (λ (a b : ℕ). may || ltb a b) (width-more p (left x).ks) (width-more p x.ks)

  stage-more : (how : Settings) (m f : ℕ) (may : Bool) (x : Stage) → stage_tree how m f may (pad_s x) ≡ stage_tree how m f may x
  stage-more how m zero may x = refl
  stage-more how m (suc f) may x =
      ap₂ (λ (q : Bool) (y : Stage). left_tree how m (stage_tree how m f) q (width y.ks) y) (may_more may x) (left-more x)
      ∙ ap (λ (n : ℕ). left_tree how m (stage_tree how m f) (may_left may x) n (pad_s (left x))) (width-more p (left x).ks)
      ∙ left_tree-more m (stage_tree how m f) (stage-more how m f) how (may_left may x) (width (left x).ks) (left x) refl

  pub compiled-more : (how : Settings) (ks : List ℕ) (m : ℕ) (l : Limits) → compiled how (more p ks) m l ≡ compiled how ks m l
  compiled-more how ks m l =
      ap (λ (w : ℕ). stage_tree how m (2 * w + 1) true (pad_s (whole_table ks l))) (width-more p ks) ∙ stage-more how m (rank true (whole_table ks l)) true (whole_table ks l)
