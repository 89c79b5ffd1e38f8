-- A split leaves masks true for the other conditions.
use Prim.Native.Nat.{ℕ, ◌+◌, ◌-◌, ◌*◌, ◌/◌, ◌%◌, ◌<◌}
use mathlib.Core.Path.{◌≡◌, refl, sym, ◌∙◌, ap, ap₂, subst}
use mathlib.Core.Bool.{true}
use mathlib.Core.List.{List}
use native.Mathlib.Nat.{mod-eq_of_lt}
use lib.Dec.{T, ltb}
use Rattle.rules.specs.Bytes.{at, tabulate}
use Rattle.rules.specs.Cell.{Positive, cells, card, value, put, step, has, singleton, without, least_over, over, over_to}
use Rattle.rules.specs.Limits.{Limits, limits_of, each}
use Rattle.rules.specs.Join.{complement, exchange_for}
use Rattle.rules.specs.Stage.{cofactor_cell, cofactor_stage}
use Rattle.rules.specs.declared.Gate.{Gate}
use Rattle.rules.specs.declared.Gate.TheVariants.{Min, Max}
use Rattle.laws.proofs.OverLaws.{Bound, min-bound}
use Rattle.laws.proofs.TestLaws.{by_equal}
use Rattle.laws.proofs.TableLaws.{at-tabulate, tabulate-same}
use Rattle.laws.proofs.SetLaws.{has_same, singleton-has}
use Rattle.laws.proofs.GateLaws.{complement-at}
use Rattle.laws.proofs.CellLaws.{value_lt, value_cell, value_inj, card-out, present-out, without_pos}
use Rattle.laws.proofs.LineLaws.{put_lt, put_same, put_other, over-line}
use Rattle.laws.proofs.SplitLaws.{cofactor_lt, cofactor-value, cofactor-rest, cofactor-step}
use Rattle.tables.proofs.LineLaws.{over-along}
use Rattle.masks.specs.Masks.{above_least, Masked, Beside}

-- the cells of a table where condition a is k
abbrev pub cofactored : List ℕ → ℕ → ℕ → List ℕ → List ℕ
cofactored ks a k f = tabulate (cells (without (singleton a) ks)) (λ c. at f (cofactor_cell ks a k c))

-- in rows, by the numbers of cells, of values and of a row's cells, as a caller has counted them
pub cofactored_as : (ks f : List ℕ) (a n stp values k : ℕ) → Positive ks → k < card ks a → n ≡ cells (without (singleton a) ks) → stp ≡ step ks a
    → values ≡ card ks a → tabulate n (λ c. at f (c % stp + stp * (k + values * (c / stp)))) ≡ cofactored ks a k f
cofactored_as ks f a n stp values k p hk e es ev =
    ap (λ (x : ℕ). tabulate x (λ c. at f (c % stp + stp * (k + values * (c / stp))))) e
    ∙ ap₂ (λ (s v : ℕ). tabulate (cells (without (singleton a) ks)) (λ c. at f (c % s + s * (k + v * (c / s))))) es ev
    ∙ tabulate-same (cells (without (singleton a) ks)) _ _ (λ c hc. ap (at f) (sym (cofactor-step ks a k c p hk hc)))

module _ (ks : List ℕ) (a k : ℕ) (p : Positive ks) (hk : k < card ks a) where
  abbrev b : List ℕ
  b = without (singleton a) ks

  -- cell c of those left, among all
  abbrev whole : ℕ → ℕ
  whole c = cofactor_cell ks a k c

  inside : (c : ℕ) → whole c < cells ks
  inside c = cofactor_lt ks a p k c hk

  cofactored-at : (f : List ℕ) (c : ℕ) → c < cells b → at (cofactored ks a k f) c ≡ at f (whole c)
  cofactored-at f = at-tabulate (cells b) (λ c. at f (whole c))

  rest_pos : Positive b
  rest_pos = without_pos (singleton a) ks p

  -- the other conditions: their cardinalities, and their values at a cell
  same-card : (i : ℕ) → (i ≡ a → ⊥) → card b i ≡ card ks i
  same-card i ne = card-out (singleton a) ks i (λ t. ne (singleton-has a i t))

  same-value : (c i : ℕ) → c < cells b → (i ≡ a → ⊥) → value ks (whole c) i ≡ value b c i
  same-value c i hc ne =
      sym
      (ap (λ (x : ℕ). value b x i) (sym (cofactor-rest ks a p k c hk hc))
      ∙ value_cell b (value ks (whole c)) i rest_pos
      ∙ ap (λ (x : ℕ). value ks (whole c) i % x) (same-card i ne)
      ∙ mod-eq_of_lt (value_lt ks (whole c) i p))

  module _ (i : ℕ) (ne : i ≡ a → ⊥) where
    put_rest : (c v : ℕ) → c < cells b → v < card ks i → put b c i v < cells b
    put_rest c v hc hv = put_lt b c i v rest_pos hc (rw (same-card i ne) hv)

    -- to put a value there, and to go to the cell of the whole, in either order
    put-cofactor : (c v : ℕ) → c < cells b → v < card ks i → whole (put b c i v) ≡ put ks (whole c) i v
    put-cofactor c v hc hv =
        let hd = put_rest c v hc hv in
        let hv' : v < card b i = rw (same-card i ne) hv in
        value_inj ks p _ _ (inside (put b c i v)) (put_lt ks (whole c) i v p (inside c) hv)
        (λ j.
        by_equal j a
        (λ e.
        subst (λ (x : ℕ). value ks (whole (put b c i v)) x ≡ value ks (whole c) x) (sym e)
        (cofactor-value ks a p k (put b c i v) hk ∙ sym (cofactor-value ks a p k c hk))
        ∙ sym (put_other ks (whole c) i j v p hv (λ q. ne (sym q ∙ e))))
        (λ low.
        same-value (put b c i v) j hd low
        ∙ by_equal j i
        (λ e.
        subst (λ (x : ℕ). value b (put b c i v) x ≡ value ks (put ks (whole c) i v) x) (sym e)
        (put_same b c i v rest_pos hv' ∙ sym (put_same ks (whole c) i v p hv)))
        (λ apart.
        put_other b c i j v rest_pos hv' apart ∙ sym (same-value c j hc low) ∙ sym (put_other ks (whole c) i j v p hv apart))))

    -- over one of the other conditions, of the cells where a is k
    over-cofactor : {op : ℕ → ℕ → ℕ} {R : ℕ → ℕ → Type 0} → Bound op R → (f : List ℕ) (c : ℕ) → c < cells b
        → at (over op b (singleton i) (cofactored ks a k f)) c ≡ at (over op ks (singleton i) f) (whole c)
    over-cofactor {op} B f c hc =
        let g = cofactored ks a k f in
        over-line B b g i c rest_pos hc
        ∙ ap (over_to op (λ v. true) (λ v. at g (put b c i v)) (at g c)) (same-card i ne)
        ∙ over-along op (λ v. at g (put b c i v)) (λ v. at f (put ks (whole c) i v)) _ _ (card ks i) (cofactored-at f c hc)
        (λ v hv. cofactored-at f (put b c i v) (put_rest c v hc hv) ∙ ap (at f) (put-cofactor c v hc hv))
        ∙ sym (over-line B ks f i (whole c) p (inside c))

  -- the exchange, and the cells where a is k, in either order
  exchange-cofactor : (op : Gate) (m : ℕ) (l : Limits)
      → exchange_for op b m (each (cofactored ks a k) l) ≡ each (cofactored ks a k) (exchange_for op ks m l)
  exchange-cofactor Max m l = refl
  exchange-cofactor Min m l = ap₂ limits_of (one l.upper) (one l.lower)
    where
      one : (f : List ℕ) → complement b m (cofactored ks a k f) ≡ cofactored ks a k (complement ks m f)
      one f =
          tabulate-same (cells b) _ _
          (λ c hc. ap (λ (x : ℕ). m - 1 - x) (cofactored-at f c hc) ∙ sym (complement-at ks m f (whole c) (inside c)))

  -- the masks of the stage that a split on a starts for value k are those of its cells
  pub masked_cofactor : (op : Gate) (m : ℕ) (l : Limits) (t : List ℕ) → Masked op ks m l t
      → let y = cofactor_stage a k (record { ks = ks; limits = l }) in Masked op y.ks m y.limits (cofactored ks a k t)
  unfolding above_least
  masked_cofactor op m l t h =
      record {
        bit = λ c i hc hi.
            let o = present-out (singleton a) ks i hi in
            let x = exchange_for op ks m l in
            let ne : i ≡ a → ⊥ =
            λ e. o.0 (subst (λ (j : ℕ). T (has (singleton a) j)) (sym e) (has_same 0 a)) in
            ap (λ (s : ℕ). has s i) (cofactored-at t c hc)
            ∙ h.bit (whole c) i (inside c) o.1
            ∙ sym
            (ap (λ (y : Limits). ltb (at (least_over b (singleton i) y.upper) c) (at y.lower c)) (exchange-cofactor op m l)
            ∙ ap₂ ltb (over-cofactor i ne min-bound x.upper c hc) (cofactored-at x.lower c hc));
      }

  -- and so are those that have more or less of a, which is not there
  pub masked_beside : (op : Gate) (m : ℕ) (l : Limits) (t t' : List ℕ) → Beside a (cells b) t t' → Masked op b m l t → Masked op b m l t'
  masked_beside op m l t t' s h =
      record {
        bit = λ c i hc hi. s.bit c i hc (λ e. (present-out (singleton a) ks i hi).0 (subst (λ (j : ℕ). T (has (singleton a) j)) (sym e) (has_same 0 a))) ∙ h.bit c i hc hi;
      }
