-- Places past the end, of cardinality 1, change nothing: the network of a shape and of the padded shape are one.
use Prim.Native.Nat.{ℕ, zero, suc, ◌+◌, ◌-◌, ◌*◌, ◌/◌, ◌%◌, ◌≤◌, min, max}
use mathlib.Core.Path.{◌≡◌, refl, ◌∙◌, ap, ap₂, fun_ext}
use mathlib.Core.Bool.{Bool, true, false, ◌&&◌, ◌||◌}
use mathlib.Core.List.{List, [], ◌∷◌, ◌++◌}
use native.Mathlib.Nat.{mod-one, not-suc-le-zero}
use native.Mathlib.Omega.{arith}
use lib.Dec.{T, eqb, leb, ltb}
use lib.ListN.{replicate}
use Rattle.rules.specs.Bytes.{pick, at, tabulate, all, some}
use Rattle.rules.specs.Cell.{cells, card, present, width, lowest, most_values, value, cell, remap, put, has, singleton, without, moved, agree_outside, over, over_to}
use Rattle.rules.specs.Limits.{Limits}
use Rattle.rules.specs.Join.{above, u_a, u_b, l_a, l_b, max_exists, complement, exchange_for, exchange_block_for, join_exists, first_limits, second_limits, max_counts, weak_counts}
use Rattle.rules.specs.declared.Gate.{Gate}
use Rattle.rules.specs.declared.Gate.TheVariants.{Min, Max}
use Rattle.laws.proofs.TestLaws.{pick_ok}

module _ (p : ℕ) where
  -- the shape with p places more
  abbrev pub more : List ℕ → List ℕ
  more ks = ks ++ replicate p 1

  ones_cells : (p : ℕ) → cells (replicate p 1) ≡ 1
  ones_cells zero = refl
  ones_cells (suc p) = ap (λ (x : ℕ). 1 * x) (ones_cells p)

  pub cells-more : (ks : List ℕ) → cells (more ks) ≡ cells ks
  cells-more [] = ones_cells p
  cells-more (k ∷ ks) = ap (λ (x : ℕ). k * x) (cells-more ks)

  ones_value : (p c i : ℕ) → value (replicate p 1) c i ≡ 0
  ones_value zero c i = refl
  ones_value (suc p) c zero = mod-one c
  ones_value (suc p) c (suc i) = ones_value p (c / 1) i

  pub value-more : (ks : List ℕ) (c i : ℕ) → value (more ks) c i ≡ value ks c i
  value-more [] c i = ones_value p c i
  value-more (k ∷ ks) c zero = refl
  value-more (k ∷ ks) c (suc i) = value-more ks (c / k) i

  ones_card : (p i : ℕ) → card (replicate p 1) i ≡ 1
  ones_card zero i = refl
  ones_card (suc p) zero = refl
  ones_card (suc p) (suc i) = ones_card p i

  pub card-more : (ks : List ℕ) (i : ℕ) → card (more ks) i ≡ card ks i
  card-more [] i = ones_card p i
  card-more (k ∷ ks) zero = refl
  card-more (k ∷ ks) (suc i) = card-more ks i

  ones_cell : (p : ℕ) (v : ℕ → ℕ) → cell (replicate p 1) v ≡ 0
  ones_cell zero v = refl
  ones_cell (suc p) v = omega (arith, mod-one (v 0), ones_cell p (λ i. v (suc i)))

  pub cell-more : (ks : List ℕ) (v : ℕ → ℕ) → cell (more ks) v ≡ cell ks v
  cell-more [] v = ones_cell p v
  cell-more (k ∷ ks) v = ap (λ (x : ℕ). v 0 % k + k * x) (cell-more ks (λ i. v (suc i)))

  ones_agree : (p t c d : ℕ) → agree_outside (replicate p 1) t c d ≡ true
  ones_agree zero t c d = refl
  ones_agree (suc p) t c d = rw (mod-one c, mod-one d) (go (eqb (t % 2) 1) ∙ ones_agree p (t / 2) (c / 1) (d / 1))
    where
      go : (o : Bool) → (o || true) && agree_outside (replicate p 1) (t / 2) (c / 1) (d / 1) ≡ agree_outside (replicate p 1) (t / 2) (c / 1) (d / 1)
      go true = refl
      go false = refl

  pub agree-more : (ks : List ℕ) (t c d : ℕ) → agree_outside (more ks) t c d ≡ agree_outside ks t c d
  agree-more [] t c d = ones_agree p t c d
  agree-more (k ∷ ks) t c d = ap (λ (o : Bool). (eqb (t % 2) 1 || eqb (c % k) (d % k)) && o) (agree-more ks (t / 2) (c / k) (d / k))

  ones_width : (p : ℕ) → width (replicate p 1) ≡ 0
  ones_width zero = refl
  ones_width (suc p) = omega (arith, ones_width p)

  pub width-more : (ks : List ℕ) → width (more ks) ≡ width ks
  width-more [] = ones_width p
  width-more (k ∷ ks) = ap (λ (x : ℕ). pick (ltb 1 k) 1 0 + x) (width-more ks)

  pub lowest-more : (ks : List ℕ) → 1 ≤ width ks → lowest (more ks) ≡ lowest ks
  lowest-more [] h = absurd (not-suc-le-zero h)
  lowest-more (k ∷ ks) h = go (ltb 1 k) h (lowest-more ks)
    where
      go : (o : Bool) → 1 ≤ pick o 1 0 + width ks → (1 ≤ width ks → lowest (more ks) ≡ lowest ks) → pick o 0 (suc (lowest (more ks))) ≡ pick o 0 (suc (lowest ks))
      go true h r = refl
      go false h r = ap suc (r (omega arith))

  ones_most : (p : ℕ) → most_values (replicate p 1) ≡ 0
  ones_most zero = refl
  ones_most (suc p) = ap (λ (x : ℕ). pick (leb x 1) 0 (suc (most_values (replicate p 1)))) (ones_card p (most_values (replicate p 1)))

  pub most-more : (ks : List ℕ) → most_values (more ks) ≡ most_values ks
  most-more [] = ones_most p
  most-more (k ∷ ks) = ap₂ (λ (x i : ℕ). pick (leb x k) 0 (suc i)) (ap (card (more ks)) (most-more ks) ∙ card-more ks (most_values ks)) (most-more ks)

  pub remap-more : (a b : List ℕ) (c : ℕ) → remap (more a) (more b) c ≡ remap a b c
  remap-more a b c = cell-more b (value (more a) c) ∙ ap (cell b) (fun_ext (λ i. value-more a c i))

  pub put-more : (ks : List ℕ) (c i v : ℕ) → T (present ks i) → put (more ks) c i v ≡ put ks c i v
  put-more [] c i v h = absurd h
  put-more (k ∷ ks) c zero v h = refl
  put-more (k ∷ ks) c (suc i) v h = ap (λ (x : ℕ). c % k + k * x) (put-more ks (c / k) i v h)

  ones_without : (p t : ℕ) → without t (replicate p 1) ≡ replicate p 1
  ones_without zero t = refl
  ones_without (suc p) t = ap₂ (λ (x : ℕ) (l : List ℕ). x ∷ l) (pick_ok (λ (x : ℕ). x ≡ 1) (has t 0) 1 1 (λ b. refl) (λ n. refl)) (ones_without p (t / 2))

  pub without_more : (t : ℕ) (ks : List ℕ) → without t (more ks) ≡ more (without t ks)
  without_more t [] = ones_without p t
  without_more t (k ∷ ks) = ap (λ (l : List ℕ). pick (has t 0) 1 k ∷ l) (without_more (t / 2) ks)

  -- tables
  pub over-more : (op : ℕ → ℕ → ℕ) (ks : List ℕ) (t : ℕ) (f : List ℕ) → over op (more ks) t f ≡ over op ks t f
  over-more op ks t f =
      ap₂ (λ (n : ℕ) (a : ℕ → ℕ → Bool). tabulate n (λ c. over_to op (a c) (at f) (at f c) n)) (cells-more ks) (fun_ext (λ c. fun_ext (λ d. agree-more ks t c d)))

  pub moved_more : (a b : List ℕ) (f : List ℕ) → moved (more a) (more b) f ≡ moved a b f
  moved_more a b f =
      ap₂ (λ (n : ℕ) (r : ℕ → ℕ). tabulate n (λ c. at f (r c))) (cells-more b) (fun_ext (λ c. cell-more a (value (more b) c) ∙ ap (cell a) (fun_ext (λ i. value-more b c i))))

  -- joins
  exists_more₁ : (ks : List ℕ) (s t : ℕ) (l u : List ℕ) → max_exists (more ks) s t l u ≡ max_exists ks s t l u
  exists_more₁ ks s t l u =
      ap (λ (n : ℕ). all n (λ c. leb (at l c) (max (at (over min (more ks) t u) c) (at (over min (more ks) s u) c)))) (cells-more ks)
      ∙ ap₂ (λ (a b : List ℕ). all (cells ks) (λ c. leb (at l c) (max (at a c) (at b c)))) (over-more min ks t u) (over-more min ks s u)

  l_a-more : (ks : List ℕ) (s t : ℕ) (l u : List ℕ) → l_a (more ks) s t l u ≡ l_a ks s t l u
  l_a-more ks s t l u =
      over-more max ks t (tabulate (cells (more ks)) (λ c. above (at l c) (at (over min (more ks) s u) c))) ∙ ap (over max ks t) (ap₂ (λ (n : ℕ) (b : List ℕ). tabulate n (λ c. above (at l c) (at b c))) (cells-more ks) (over-more min ks s u))

  l_b-more : (ks : List ℕ) (s t : ℕ) (l u g : List ℕ) → l_b (more ks) s t l u g ≡ l_b ks s t l u g
  l_b-more ks s t l u g =
      over-more max ks s (tabulate (cells (more ks)) (λ c. above (at l c) (at g c))) ∙ ap (over max ks s) (ap (λ (n : ℕ). tabulate n (λ c. above (at l c) (at g c))) (cells-more ks))

  complement-more : (ks : List ℕ) (m : ℕ) (f : List ℕ) → complement (more ks) m f ≡ complement ks m f
  complement-more ks m f = ap (λ (n : ℕ). tabulate n (λ c. m - 1 - at f c)) (cells-more ks)

  abbrev lims : List ℕ → List ℕ → Limits
  lims a b = record { lower = a; upper = b }

  exchange_for-more : (op : Gate) (ks : List ℕ) (m : ℕ) (l : Limits) → exchange_for op (more ks) m l ≡ exchange_for op ks m l
  exchange_for-more Max ks m l = refl
  exchange_for-more Min ks m l = ap₂ lims (complement-more ks m l.upper) (complement-more ks m l.lower)

  block_more : (op : Gate) (ks : List ℕ) (m : ℕ) (g : List ℕ) → exchange_block_for op (more ks) m g ≡ exchange_block_for op ks m g
  block_more Max ks m g = refl
  block_more Min ks m g = complement-more ks m g

  pub exists-more : (op : Gate) (ks : List ℕ) (m s t : ℕ) (l : Limits) → join_exists op (more ks) m s t l ≡ join_exists op ks m s t l
  exists-more op ks m s t l =
      ap (λ (x : Limits). max_exists (more ks) s t x.lower x.upper) (exchange_for-more op ks m l) ∙ exists_more₁ ks s t (exchange_for op ks m l).lower (exchange_for op ks m l).upper

  pub first_more : (op : Gate) (ks : List ℕ) (m s t : ℕ) (l : Limits) → first_limits op (more ks) m s t l ≡ first_limits op ks m s t l
  first_more op ks m s t l =
      let x = exchange_for op (more ks) m l in
      exchange_for-more op ks m (lims (l_a (more ks) s t x.lower x.upper) (u_a (more ks) s t x.lower x.upper))
      ∙ ap (λ (x : Limits). exchange_for op ks m (lims (l_a (more ks) s t x.lower x.upper) (u_a (more ks) s t x.lower x.upper))) (exchange_for-more op ks m l)
      ∙ ap₂ (λ (a b : List ℕ). exchange_for op ks m (lims a b)) (l_a-more ks s t (exchange_for op ks m l).lower (exchange_for op ks m l).upper) (over-more min ks t (exchange_for op ks m l).upper)

  pub second_more : (op : Gate) (ks : List ℕ) (m s t : ℕ) (l : Limits) (g : List ℕ) → second_limits op (more ks) m s t l g ≡ second_limits op ks m s t l g
  second_more op ks m s t l g =
      let x = exchange_for op (more ks) m l in
      exchange_for-more op ks m (lims (l_b (more ks) s t x.lower x.upper (exchange_block_for op (more ks) m g)) (u_b (more ks) s t x.lower x.upper))
      ∙ ap₂ (λ (x : Limits) (h : List ℕ). exchange_for op ks m (lims (l_b (more ks) s t x.lower x.upper h) (u_b (more ks) s t x.lower x.upper))) (exchange_for-more op ks m l) (block_more op ks m g)
      ∙ ap₂ (λ (a b : List ℕ). exchange_for op ks m (lims a b)) (l_b-more ks s t (exchange_for op ks m l).lower (exchange_for op ks m l).upper (exchange_block_for op ks m g)) (over-more min ks s (exchange_for op ks m l).upper)

  -- weak joins
  counts-more : (ks : List ℕ) (i : ℕ) (l u : List ℕ) → max_counts (more ks) i l u ≡ max_counts ks i l u
  counts-more ks i l u =
      ap₂ (λ (n : ℕ) (b : List ℕ). some n (λ c. ltb 0 (at l c) && leb (at l c) (at b c))) (cells-more ks) (over-more min ks (singleton i) u)

  pub weak_more : (op : Gate) (ks : List ℕ) (m i : ℕ) (l : Limits) → weak_counts op (more ks) m i l ≡ weak_counts op ks m i l
  weak_more op ks m i l =
      ap (λ (x : Limits). max_counts (more ks) i x.lower x.upper) (exchange_for-more op ks m l) ∙ counts-more ks i (exchange_for op ks m l).lower (exchange_for op ks m l).upper
