-- The cell records of a file laid over a table, record by record.
use Prim.Native.Nat.{ℕ, zero, suc, ◌+◌, ◌-◌, ◌/◌, ◌≤◌, ◌<◌}
use mathlib.Core.Path.{◌≡◌, refl, sym, ◌∙◌, ap, subst}
use mathlib.Core.Bool.{Bool, true, false, cond}
use mathlib.Core.List.{List, ◌++◌}
use mathlib.Core.Logic.{◌⊎◌, inl, inr, ⊎_elim}
use native.Mathlib.Nat.{eq-or-lt_of_le}
use native.Mathlib.Omega.{arith}
use borrow.Author.Tests.{eq-eqb}
use lib.Dec.{T, eqb, eqb→eq, eqb_refl}
use lib.ListN.{length, set, length-set}
use lib.Seq.{set-append_left, get_or-set_same, get_or-set_other}
use Rattle.rules.specs.Bytes.{at, record_at}
use Rattle.rules.specs.Cell.{cells}
use Rattle.rules.specs.TableFile.{listed_cell, laid_over, listed_over}
use Rattle.laws.proofs.TestLaws.{cond_ok, by_test}
use Rattle.laws.proofs.NumberLaws.{number_lt}
use Rattle.table_file.specs.Reading.{RecordBelow, ListedBelow}

module _ (r ks : List ℕ) (j : ℕ) (t : List ℕ) where
  laid_cell : at r 0 ≡ 3 → laid_over r ks j t ≡ set t (listed_cell ks r) (at r j)
  laid_cell e = ap (λ (b : Bool). cond b (set t (listed_cell ks r) (at r j)) t) (eq-eqb (at r 0) 3 e)

  length-laid : length (laid_over r ks j t) ≡ length t
  length-laid = cond_ok (λ (l : List ℕ). length l ≡ length t) (eqb (at r 0) 3) (set t (listed_cell ks r) (at r j)) t (λ b. length-set t _ _) (λ n. refl)

  -- at a cell that the record names, and at any other
  pub laid-here : at r 0 ≡ 3 → listed_cell ks r < length t → at (laid_over r ks j t) (listed_cell ks r) ≡ at r j
  laid-here e h = ap (λ (l : List ℕ). at l (listed_cell ks r)) (laid_cell e) ∙ get_or-set_same t (listed_cell ks r) (at r j) 0 h

  pub laid_elsewhere : (c : ℕ) → (at r 0 ≡ 3 → listed_cell ks r ≡ c → ⊥) → at (laid_over r ks j t) c ≡ at t c
  laid_elsewhere c n =
      cond_ok (λ (l : List ℕ). at l c ≡ at t c) (eqb (at r 0) 3) (set t (listed_cell ks r) (at r j)) t
      (λ b. get_or-set_other t (listed_cell ks r) c (at r j) 0 (λ e. n (eqb→eq (at r 0) 3 b) (sym e))) (λ f. refl)

-- the cell that a record names is one of the table's
pub listed_lt : (r ks : List ℕ) → length ks ≡ 8 → RecordBelow r ks → at r 0 ≡ 3 → listed_cell ks r < cells ks
listed_lt r ks eight below e = number_lt ks (λ i. at r (8 + i)) (λ i l. below e i (omega arith))

module _ (file ks : List ℕ) (j : ℕ) where
  -- one record more is laid
  pub listed_next : (k n : ℕ) (r t : List ℕ) {u : List ℕ} → k < n → r ≡ record_at file k → u ≡ laid_over r ks j t → listed_over file ks j (k + 1) (n - (k + 1)) u ≡ listed_over file ks j k (n - k) t
  listed_next k n r t h is laid =
      let e : suc (n - (k + 1)) ≡ n - k = omega arith in
      let f : k + 1 ≡ suc k = omega arith in
      ap (listed_over file ks j (k + 1) (n - (k + 1))) (laid ∙ ap (λ (x : List ℕ). laid_over x ks j t) is)
      ∙ ap (λ (i : ℕ). listed_over file ks j i (n - (k + 1)) (laid_over (record_at file k) ks j t)) f
      ∙ ap (λ (i : ℕ). listed_over file ks j k i t) e

  pub length-listed : (k n : ℕ) (t : List ℕ) → length (listed_over file ks j k n t) ≡ length t
  length-listed k zero t = refl
  length-listed k (suc n) t = length-listed (suc k) n (laid_over (record_at file k) ks j t) ∙ length-laid (record_at file k) ks j t

  -- what lies behind the table stays
  module _ (below : ListedBelow file ks) (eight : length ks ≡ 8) (back : List ℕ) where
    laid-front : (k : ℕ) (t : List ℕ) → k < length file / 16 → cells ks ≤ length t
        → laid_over (record_at file k) ks j (t ++ back) ≡ laid_over (record_at file k) ks j t ++ back
    laid-front k t h l = go (eqb (at (record_at file k) 0) 3) (eqb→eq (at (record_at file k) 0) 3)
      where
        go : (b : Bool) → (T b → at (record_at file k) 0 ≡ 3)
            → cond b (set (t ++ back) (listed_cell ks (record_at file k)) (at (record_at file k) j)) (t ++ back) ≡ cond b (set t (listed_cell ks (record_at file k)) (at (record_at file k) j)) t ++ back
        go true e = set-append_left t back (listed_cell ks (record_at file k)) (at (record_at file k) j) (omega (arith, listed_lt (record_at file k) ks eight (below k h) (e tt)))
        go false e = refl

    pub listed-front : (k n : ℕ) (t : List ℕ) → k + n ≤ length file / 16 → cells ks ≤ length t → listed_over file ks j k n (t ++ back) ≡ listed_over file ks j k n t ++ back
    listed-front k zero t h l = refl
    listed-front k (suc n) t h l =
        ap (listed_over file ks j (suc k) n) (laid-front k t (omega arith) l)
        ∙ listed-front (suc k) n (laid_over (record_at file k) ks j t) (omega arith) (omega (arith, length-laid (record_at file k) ks j t))

-- What n records from k on lay at a cell, whichever byte of theirs it is: that of the last one that names the cell, or nothing.
module _ (file ks : List ℕ) (c : ℕ) where
  abbrev pub Names : ℕ → Type 0
  Names i = (at (record_at file i) 0 ≡ 3) × (listed_cell ks (record_at file i) ≡ c)

  pub record ByRecord (k n : ℕ) : Type 0 where
    pub last : ℕ
    pub to : last < k + n
    pub names : Names last
    pub byte : (j : ℕ) (t : List ℕ) → c < length t → at (listed_over file ks j k n t) c ≡ at (record_at file last) j

  pub record Untouched (k n : ℕ) : Type 0 where
    pub none : (i : ℕ) → k ≤ i → i < k + n → Names i → ⊥
    pub stays : (j : ℕ) (t : List ℕ) → at (listed_over file ks j k n t) c ≡ at t c

  -- one more record before them
  module _ (k n : ℕ) where
    abbrev r : List ℕ
    r = record_at file k

    later : ByRecord (suc k) n → ByRecord k (suc n)
    later b =
        record {
          last = b.last;
          to = omega (arith, b.to);
          names = b.names;
          byte = λ j t h. b.byte j (laid_over r ks j t) (omega (arith, length-laid r ks j t));
        }

    first : Untouched (suc k) n → Names k → ByRecord k (suc n)
    first u e =
        record {
          last = k;
          to = omega arith;
          names = e;
          byte = λ j t h.
              u.stays j (laid_over r ks j t)
              ∙ subst (λ (i : ℕ). i < length t → at (laid_over r ks j t) i ≡ at r j) e.1 (laid-here r ks j t e.0) h;
        }

    still : Untouched (suc k) n → (Names k → ⊥) → Untouched k (suc n)
    still u e =
        record {
          none = λ i h l. ⊎_elim (λ q. subst (λ (i : ℕ). Names i → ⊥) q e) (λ lt. u.none i lt (omega arith)) (eq-or-lt_of_le h);
          stays = λ j t. u.stays j (laid_over r ks j t) ∙ laid_elsewhere r ks j t c (λ a b. e (a, b));
        }

    -- does it name the cell?
    more : Untouched (suc k) n → ByRecord k (suc n) ⊎ Untouched k (suc n)
    more u =
        by_test (eqb (at r 0) 3)
        (λ a. by_test (eqb (listed_cell ks r) c) (λ b. inl (first u (eqb→eq (at r 0) 3 a, eqb→eq (listed_cell ks r) c b))) (λ b. inr (still u (λ e. b (subst (λ (i : ℕ). T (eqb (listed_cell ks r) i)) e.1 (eqb_refl (listed_cell ks r)))))))
        (λ a. inr (still u (λ e. a (subst (λ (i : ℕ). T (eqb i 3)) (sym e.0) (eqb_refl 3)))))

  pub laid-at : (k n : ℕ) → ByRecord k n ⊎ Untouched k n
  laid-at k zero = inr (record { none = λ i h l. absurd (omega arith); stays = λ j t. refl })
  laid-at k (suc n) = ⊎_elim (λ b. inl (later k n b)) (λ u. more k n u) (laid-at (suc k) n)
