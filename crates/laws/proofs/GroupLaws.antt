-- Grouping and choice: what is found joins, something is found where two sets join, and what is found can't be made larger.
use Prim.Native.Nat.{ℕ, zero, suc, ◌+◌, ◌≤◌, ◌<◌}
use mathlib.Core.Path.{◌≡◌, refl, sym, subst}
use mathlib.Core.Bool.{Bool, true, false, not, ◌&&◌}
use mathlib.Core.List.{List}
use mathlib.Core.Logic.{◌⊎◌, inl, inr, ⊎_elim}
use native.Mathlib.Nat.{eq-or-lt_of_le}
use native.Mathlib.Omega.{arith}
use lib.Dec.{T, leb}
use lib.ListN.{length}
use Rattle.rules.specs.Bytes.{numbers_from}
use Rattle.rules.specs.Cell.{present, has, insert, singleton}
use Rattle.rules.specs.Limits.{Limits}
use Rattle.rules.specs.Join.{join_exists, exchange_for}
use Rattle.rules.specs.Stage.{Stage, Grouping, none, sets, pair_with, first_pair, add_condition, grow, grouping, count, Choice, split, joining, keeps_max, choose, groups, chosen}
use Rattle.rules.specs.Demands.{Subset, Larger, Sets, Admits, Exact}
use Rattle.rules.specs.declared.Gate.{Gate}
use Rattle.rules.specs.declared.Settings.{Settings}
use Rattle.rules.specs.declared.Gate.TheVariants.{Min, Max}
use Rattle.laws.proofs.TestLaws.{and_l, and_r, and_i, by_order, cond_ok}
use Rattle.laws.proofs.JoinLaws.{exists-at, exists_of, exists-part}
use Rattle.laws.proofs.SetLaws.{has_same, has_keep, insert-has, insert-part, singleton-part, singleton-has, part_of}
use Rattle.laws.proofs.CellLaws.{present_lt}

-- joins go down to parts, and are symmetric
exists_down : (op : Gate) (ks : List ℕ) (m : ℕ) (l : Limits) (s t s' t' : ℕ) → Subset s s' → Subset t t' → T (join_exists op ks m s' t' l) → T (join_exists op ks m s t l)
exists_down op ks m l s t s' t' p q e =
    exists-part ks s' t' s t (exchange_for op ks m l).lower (exchange_for op ks m l).upper (part_of ks s s' p) (part_of ks t t' q) e

exists_swap : (op : Gate) (ks : List ℕ) (m : ℕ) (l : Limits) (s t : ℕ) → T (join_exists op ks m s t l) → T (join_exists op ks m t s l)
exists_swap op ks m l s t e =
    let x = exchange_for op ks m l in
    exists_of ks t s x.lower x.upper (λ c hc. omega (arith, exists-at ks s t x.lower x.upper e c hc))

-- pairs of sets
module _ (ks : List ℕ) where
  sets_swap : {s t : ℕ} → Sets ks s t → Sets ks t s
  sets_swap a = record { some_s = a.some_t; some_t = a.some_s; in_s = a.in_t; in_t = a.in_s; disjoint = λ i x y. a.disjoint i y x }

  sets-add : (s t i : ℕ) → T (present ks i) → (T (has t i) → ⊥) → Sets ks s t → Sets ks (insert s i) t
  sets-add s t i hi ne a =
      record {
        some_s = (i, has_same s i);
        some_t = a.some_t;
        in_s = λ j h. ⊎_elim (λ e. subst (λ (x : ℕ). T (present ks x)) (sym e) hi) (λ r. a.in_s j r) (insert-has s i j h);
        in_t = a.in_t;
        disjoint = λ j x y. ⊎_elim (λ e. ne (subst (λ (z : ℕ). T (has t z)) e y)) (λ r. a.disjoint j r y) (insert-has s i j x);
      }

  sets-singleton : (i j : ℕ) → i < j → T (present ks i) → T (present ks j) → Sets ks (singleton i) (singleton j)
  sets-singleton i j h hi hj =
      record {
        some_s = (i, has_same 0 i);
        some_t = (j, has_same 0 j);
        in_s = λ k x. subst (λ (z : ℕ). T (present ks z)) (sym (singleton-has i k x)) hi;
        in_t = λ k x. subst (λ (z : ℕ). T (present ks z)) (sym (singleton-has j k x)) hj;
        disjoint = λ k x y. omega (arith, singleton-has i k x, singleton-has j k y);
      }

not_of : (b : Bool) → T (not b) → T b → ⊥
not_of true h x = h
not_of false h x = x

of_not : (b : Bool) → (T b → ⊥) → T (not b)
of_not true n = absurd (n tt)
of_not false n = tt

-- a property of the sets that a grouping names; Z where it names none
abbrev pub Of : Type 0 → (ℕ → ℕ → Type 0) → Grouping → Type 0
Of Z P none = Z
Of Z P (sets s t) = P s t

abbrev Found : Grouping → Type 0
Found = Of ⊥ (λ s t. Unit {0})

-- may be added: a condition in neither set
abbrev Open : (ℕ → Bool) → ℕ → ℕ → ℕ → Bool
Open is i s t = is i && (not (has s i) && not (has t i))

module _ (is : ℕ → Bool) (joins : ℕ → ℕ → Bool) where
  -- the parts of `Open`
  open_is : (i s t : ℕ) → T (Open is i s t) → T (is i)
  open_is i s t o = and_l (is i) (not (has s i) && not (has t i)) o

  open_s : (i s t : ℕ) → T (Open is i s t) → T (has s i) → ⊥
  open_s i s t o = not_of (has s i) (and_l (not (has s i)) (not (has t i)) (and_r (is i) (not (has s i) && not (has t i)) o))

  open_t : (i s t : ℕ) → T (Open is i s t) → T (has t i) → ⊥
  open_t i s t o = not_of (has t i) (and_r (not (has s i)) (not (has t i)) (and_r (is i) (not (has s i) && not (has t i)) o))

  open_of : (i s t : ℕ) → T (is i) → (T (has s i) → ⊥) → (T (has t i) → ⊥) → T (Open is i s t)
  open_of i s t h x y = and_i (is i) _ h (and_i (not (has s i)) _ (of_not (has s i) x) (of_not (has t i) y))

  -- the test of a pair
  abbrev Both : ℕ → ℕ → Bool
  Both i j = is i && (is j && joins (singleton i) (singleton j))

  both_of : (i j : ℕ) → T (is i) → T (is j) → T (joins (singleton i) (singleton j)) → T (Both i j)
  both_of i j h g t = and_i (is i) _ h (and_i (is j) _ g t)

  -- growing by one condition: a property that holds of the sets as they were, if no set takes it, and of each set that took it
  module _ (Z : Type 0) (P : ℕ → ℕ → Type 0) (i s t : ℕ)
      (closed : (T (Open is i s t) → ⊥) → P s t)
      (to-s : T (Open is i s t) → T (joins (insert s i) t) → P (insert s i) t)
      (to-t : T (Open is i s t) → T (joins s (insert t i)) → P s (insert t i))
      (shared : (T (joins (insert s i) t) → ⊥) → (T (joins s (insert t i)) → ⊥) → P s t) where
    pub add_of : Of Z P (add_condition is joins i (sets s t))
    add_of =
        cond_ok (Of Z P) (Open is i s t) _ (sets s t)
        (λ f.
        cond_ok (Of Z P) (leb (count s) (count t)) _ _
        (λ h.
        cond_ok (Of Z P) (joins (insert s i) t) _ _ (to-s f)
        (λ a. cond_ok (Of Z P) (joins s (insert t i)) _ _ (to-t f) (λ b. shared a b)))
        (λ h.
        cond_ok (Of Z P) (joins s (insert t i)) _ _ (to-t f)
        (λ b. cond_ok (Of Z P) (joins (insert s i) t) _ _ (to-s f) (λ a. shared a b))))
        closed

  -- something is found where two conditions join
  pair_later : (i a k : ℕ) (other : Grouping) → Found other → Found (pair_with is joins i (numbers_from a k) other)
  pair_later i a zero other o = o
  pair_later i a (suc k) other o = cond_ok Found (Both i a) _ _ (λ j. tt) (λ f. pair_later i (suc a) k other o)

  pair_found : (i a k : ℕ) (other : Grouping) (j : ℕ) → a ≤ j → j < a + k → T (Both i j) → Found (pair_with is joins i (numbers_from a k) other)
  pair_found i a zero other j h g t = absurd (omega arith)
  pair_found i a (suc k) other j h g t =
      cond_ok Found (Both i a) _ _ (λ y. tt)
      (λ f. ⊎_elim (λ e. absurd (f (subst (λ (x : ℕ). T (Both i x)) (sym e) t))) (λ l. pair_found i (suc a) k other j l (omega arith) t) (eq-or-lt_of_le h))

  first_found : (a k i j : ℕ) → a ≤ i → i < j → j < a + k → T (Both i j) → Found (first_pair is joins (numbers_from a k))
  first_found a zero i j h l g t = absurd (omega arith)
  first_found a (suc k) i j h l g t =
      ⊎_elim (λ e. pair_found a (suc a) k _ j (omega arith) (omega arith) (subst (λ (x : ℕ). T (Both x j)) (sym e) t))
      (λ r. pair_later a (suc a) k _ (first_found (suc a) k i j r l (omega arith) t)) (eq-or-lt_of_le h)

  add-found : (i : ℕ) (g : Grouping) → Found g → Found (add_condition is joins i g)
  add-found i none o = o
  add-found i (sets s t) o = add_of ⊥ (λ s t. Unit {0}) i s t (λ h. tt) (λ f j. tt) (λ f j. tt) (λ a b. tt)

  grow-found : (a k : ℕ) (g : Grouping) → Found g → Found (grow is joins (numbers_from a k) g)
  grow-found a zero g o = o
  grow-found a (suc k) g o = grow-found (suc a) k (add_condition is joins a g) (add-found a g o)

  -- what is found can't be made larger by one condition
  module _ (down : (s t s' t' : ℕ) → Subset s s' → Subset t t' → T (joins s' t') → T (joins s t)) where
    abbrev Kept : ℕ → ℕ → ℕ → Type 0
    Kept i s t = T (is i) → (T (has s i) → ⊥) → (T (has t i) → ⊥) → (T (joins (insert s i) t) → ⊥) × (T (joins s (insert t i)) → ⊥)

    -- so for all conditions below a
    abbrev Full : ℕ → ℕ → ℕ → Type 0
    Full a s t = (i : ℕ) → i < a → Kept i s t

    kept_more : (i s t s' t' : ℕ) → Subset s s' → Subset t t' → Kept i s t → Kept i s' t'
    kept_more i s t s' t' p q k o x y =
        let r = k o (λ h. x (p i h)) (λ h. y (q i h)) in (
          (λ j. r.0 (down (insert s i) t (insert s' i) t' (insert-part s i _ (λ c h. has_keep s' i c (p c h)) (has_same s' i)) q j)),
          (λ j. r.1 (down s (insert t i) s' (insert t' i) p (insert-part t i _ (λ c h. has_keep t' i c (q c h)) (has_same t' i)) j)),
        )

    full_more : (a s t s' t' : ℕ) → Subset s s' → Subset t t' → Full a s t → Kept a s' t' → Full (suc a) s' t'
    full_more a s t s' t' p q f k i h =
        ⊎_elim (λ e. subst (λ (x : ℕ). Kept x s' t') (sym e) k) (λ l. kept_more i s t s' t' p q (f i l)) (eq-or-lt_of_le (omega arith))

    add_full : (a : ℕ) (g : Grouping) → Of Unit (Full a) g → Of Unit (Full (suc a)) (add_condition is joins a g)
    add_full a none f = tt
    add_full a (sets s t) f =
        add_of Unit (Full (suc a)) a s t
        (λ n. full_more a s t s t (λ c x. x) (λ c x. x) f (λ o x y. absurd (n (open_of a s t o x y))))
        (λ n j. full_more a s t (insert s a) t (has_keep s a) (λ c x. x) f (λ o x y. absurd (x (has_same s a))))
        (λ n j. full_more a s t s (insert t a) (λ c x. x) (has_keep t a) f (λ o x y. absurd (y (has_same t a))))
        (λ p q. full_more a s t s t (λ c x. x) (λ c x. x) f (λ o x y. (p, q)))

    grow_full : (a k n : ℕ) (g : Grouping) → a + k ≡ n → Of Unit (Full a) g → Of Unit (Full n) (grow is joins (numbers_from a k) g)
    grow_full a zero n g e f = let q : a ≡ n = omega arith in subst (λ (b : ℕ). Of Unit (Full b) g) q f
    grow_full a (suc k) n g e f = grow_full (suc a) k n (add_condition is joins a g) (omega arith) (add_full a g f)

    start_full : (g : Grouping) → Of Unit (Full 0) g
    start_full none = tt
    start_full (sets s t) = λ i h. absurd (omega arith)

-- what is found joins
module _ (ks : List ℕ) (joins : ℕ → ℕ → Bool) where
  abbrev Ok : ℕ → ℕ → Type 0
  Ok s t = Sets ks s t × T (joins s t)

  pair_ok : (i a k : ℕ) (other : Grouping) → i < a → Of Unit Ok other → Of Unit Ok (pair_with (present ks) joins i (numbers_from a k) other)
  pair_ok i a zero other h o = o
  pair_ok i a (suc k) other h o =
      cond_ok (Of Unit Ok) (Both (present ks) joins i a) _ _
      (λ b.
      let c = and_r (present ks i) (present ks a && joins (singleton i) (singleton a)) b in
      (sets-singleton ks i a h (and_l (present ks i) _ b) (and_l (present ks a) _ c), and_r (present ks a) _ c))
      (λ f. pair_ok i (suc a) k other (omega arith) o)

  first_ok : (a k : ℕ) → Of Unit Ok (first_pair (present ks) joins (numbers_from a k))
  first_ok a zero = tt
  first_ok a (suc k) = pair_ok a (suc a) k _ (omega arith) (first_ok (suc a) k)

  add_ok : (i : ℕ) (g : Grouping) → Of Unit Ok g → Of Unit Ok (add_condition (present ks) joins i g)
  add_ok i none o = tt
  add_ok i (sets s t) o =
      add_of (present ks) joins Unit Ok i s t (λ h. o)
      (λ f j. (sets-add ks s t i (open_is (present ks) joins i s t f) (open_t (present ks) joins i s t f) o.0, j))
      (λ f j. (sets_swap ks (sets-add ks t s i (open_is (present ks) joins i s t f) (open_s (present ks) joins i s t f) (sets_swap ks o.0)), j))
      (λ a b. o)

  grow_ok : (a k : ℕ) (g : Grouping) → Of Unit Ok g → Of Unit Ok (grow (present ks) joins (numbers_from a k) g)
  grow_ok a zero g o = o
  grow_ok a (suc k) g o = grow_ok (suc a) k (add_condition (present ks) joins a g) (add_ok a g o)

-- the choice
abbrev pub ChoiceOf : (Gate → ℕ → ℕ → Type 0) → Choice → Type 0
ChoiceOf P split = Unit {0}
ChoiceOf P (joining op s t) = P op s t

choose_of : (tie : Gate) (P : Gate → ℕ → ℕ → Type 0) (g h : Grouping) → Of Unit (P Max) g → Of Unit (P Min) h → ChoiceOf P (choose tie g h)
choose_of tie P none none p q = tt
choose_of tie P none (sets s t) p q = q
choose_of tie P (sets s t) none p q = p
choose_of tie P (sets s t) (sets s' t') p q = cond_ok (ChoiceOf P) (keeps_max tie s t s' t') (joining Max s t) (joining Min s' t') (λ h. p) (λ f. q)

abbrev Joins : Choice → Type 0
Joins split = ⊥
Joins (joining op s t) = Unit {0}

choose-found : (tie : Gate) (g h : Grouping) → Found g ⊎ Found h → Joins (choose tie g h)
choose-found tie none none f = ⊎_elim (λ x. x) (λ x. x) f
choose-found tie none (sets s t) f = tt
choose-found tie (sets s t) none f = tt
choose-found tie (sets s t) (sets s' t') f = cond_ok Joins (keeps_max tie s t s' t') (joining Max s t) (joining Min s' t') (λ h. tt) (λ f. tt)

module _ (how : Settings) (m : ℕ) (y : Stage) where
  -- what is chosen is admitted, and full
  record Best (op : Gate) (s t : ℕ) : Type 0 where
    pub ok : Admits m y op s t
    pub full : (i : ℕ) → T (present y.ks i) → (T (has s i) → ⊥) → (T (has t i) → ⊥) → (T (join_exists op y.ks m (insert s i) t y.limits) → ⊥) × (T (join_exists op y.ks m s (insert t i) y.limits) → ⊥)

  found-best : (op : Gate) → Of Unit (Best op) (groups m y op)
  found-best op =
      go (grouping (present y.ks) j (numbers_from 0 n)) (grow_ok y.ks j 0 n _ (first_ok y.ks j 0 n))
      (grow_full (present y.ks) j (exists_down op y.ks m y.limits) 0 n n _ (omega arith)
      (start_full (present y.ks) j (exists_down op y.ks m y.limits) (first_pair (present y.ks) j (numbers_from 0 n))))
    where
      n : ℕ
      n = length y.ks

      j : ℕ → ℕ → Bool
      j s t = join_exists op y.ks m s t y.limits

      go : (g : Grouping) → Of Unit (λ s t. Sets y.ks s t × T (j s t)) g
          → Of Unit (λ s t. (i : ℕ) → i < n → T (present y.ks i) → (T (has s i) → ⊥) → (T (has t i) → ⊥) → (T (j (insert s i) t) → ⊥) × (T (j s (insert t i)) → ⊥)) g → Of Unit (Best op) g
      go none o f = tt
      go (sets s t) o f = record { ok = record { sets = o.0; joins = o.1 }; full = λ i h. f i (present_lt y.ks i h) h }

  best : ChoiceOf Best (chosen how m y)
  best = choose_of how.tie Best (groups m y Max) (groups m y Min) (found-best Max) (found-best Min)

  pub chosen_ok : ChoiceOf (Admits m y) (chosen how m y)
  chosen_ok = go (chosen how m y) best
    where
      go : (ch : Choice) → ChoiceOf Best ch → ChoiceOf (Admits m y) ch
      go split b = tt
      go (joining op s t) b = b.ok

  found : (op : Gate) (s t : ℕ) → Admits m y op s t → Found (groups m y op)
  found op s t a =
      grow-found is j 0 n (first_pair is j (numbers_from 0 n))
      (by_order p.0 q.0
      (λ le. first_found is j 0 n p.0 q.0 (omega arith) (difference le) (omega (arith, present_lt y.ks q.0 in_q)) (both_of is j p.0 q.0 in_p in_q one))
      (λ lt. first_found is j 0 n q.0 p.0 (omega arith) lt (omega (arith, present_lt y.ks p.0 in_p)) (both_of is j q.0 p.0 in_q in_p (exists_swap op y.ks m y.limits (singleton p.0) (singleton q.0) one))))
    where
      n : ℕ
      n = length y.ks

      j : ℕ → ℕ → Bool
      j s t = join_exists op y.ks m s t y.limits

      p : (i : ℕ) × T (has s i)
      p = a.sets.some_s

      q : (i : ℕ) × T (has t i)
      q = a.sets.some_t

      is : ℕ → Bool
      is = present y.ks

      in_p : T (present y.ks p.0)
      in_p = a.sets.in_s p.0 p.1

      in_q : T (present y.ks q.0)
      in_q = a.sets.in_t q.0 q.1

      one : T (j (singleton p.0) (singleton q.0))
      one = exists_down op y.ks m y.limits _ _ s t (singleton-part p.0 s p.1) (singleton-part q.0 t q.1) a.joins

      difference : p.0 ≤ q.0 → p.0 < q.0
      difference le =
          ⊎_elim (λ e. absurd (a.sets.disjoint q.0 (subst (λ (x : ℕ). T (has s x)) e p.1) q.1)) (λ l. l) (eq-or-lt_of_le le)

  chosen-joins : (op : Gate) (s t : ℕ) → Admits m y op s t → Joins (chosen how m y)
  chosen-joins Max s t a = choose-found how.tie (groups m y Max) (groups m y Min) (inl (found Max s t a))
  chosen-joins Min s t a = choose-found how.tie (groups m y Max) (groups m y Min) (inr (found Min s t a))

  pub exact : Exact how m y
  exact =
      record {
        splits = ((λ e op s t a. subst Joins e (chosen-joins op s t a)), (λ n. go (chosen how m y) best n));
        admitted = λ op s t e. subst (ChoiceOf (Admits m y)) e chosen_ok;
        largest = λ op s t e s' t' p q big a. larger op s t (subst (ChoiceOf Best) e best) s' t' p q big a;
      }
    where
      go : (ch : Choice) → ChoiceOf Best ch → ((op : Gate) (s t : ℕ) → Admits m y op s t → ⊥) → ch ≡ split
      go split b n = refl
      go (joining op s t) b n = absurd (n op s t b.ok)

      larger : (op : Gate) (s t : ℕ) → Best op s t → (s' t' : ℕ) → Subset s s' → Subset t t' → Larger s s' ⊎ Larger t t' → Admits m y op s' t' → ⊥
      larger op s t b s' t' p q big a =
          ⊎_elim
          (λ w.
          (b.full w.0 (a.sets.in_s w.0 w.1) w.2 (λ h. a.sets.disjoint w.0 w.1 (q w.0 h))).0
          (exists_down op y.ks m y.limits (insert s w.0) t s' t' (insert-part s w.0 s' p w.1) q a.joins))
          (λ w.
          (b.full w.0 (a.sets.in_t w.0 w.1) (λ h. a.sets.disjoint w.0 (p w.0 h) w.1) w.2).1
          (exists_down op y.ks m y.limits s (insert t w.0) s' t' p (insert-part t w.0 t' q w.1) a.joins))
          big
