-- Rows of a table, laid one behind the other, and laid back.
use Prim.Native.Nat.{ℕ, suc, ◌+◌, ◌-◌, ◌*◌, ◌/◌, ◌%◌, ◌≤◌, ◌<◌}
use mathlib.Core.Path.{◌≡◌, refl, sym, ◌∙◌, ap, ap₂, subst}
use mathlib.Core.List.{List}
use mathlib.Core.Logic.{⊎_elim, inl, inr}
use native.Mathlib.Nat.{mul-zero, mod-lt, mod-one, div-one, mul_comm, mul_assoc, mul-add, mul-suc, mul-le-mul_left, mul-le-mul_right, mul-div_cancel_left, mod-add-div}
use native.Mathlib.Omega.{arith}
use Rattle.rules.specs.Bytes.{at, tabulate}
use Rattle.laws.proofs.TestLaws.{by_order}
use Rattle.laws.proofs.TableLaws.{tabulate-same}
use Rattle.laws.proofs.UnionLaws.{digit_mod, digit_div, digit-below}
use Rattle.laws.proofs.CellLaws.{div_below}
use Rattle.tables.specs.Part.{part, Laid, Apart, Two}
use Rattle.tables.specs.Line.{Spread}
use Rattle.tables.proofs.PartLaws.{Filled, part_at, read_part}
use Rattle.moves.specs.Row.{in_row, Rows, Scattered, Given}

pub in_row-at : (stp card k r o : ℕ) → o < stp → in_row stp card k (stp * r + o) ≡ stp * (k + card * r) + o
in_row-at stp card k r o h =
    let e : stp * r + o ≡ o + stp * r = omega arith in
    ap (in_row stp card k) e ∙ ap₂ (λ (x y : ℕ). x + stp * (k + card * y)) (digit_mod stp o r h) (digit_div stp o r h) ∙ omega arith

pub in_row-one : (card k c : ℕ) → in_row 1 card k c ≡ k + card * c
in_row-one card k c = omega (arith, mod-one c, ap (λ (x : ℕ). card * x) (div-one c))

swap : (a b c : ℕ) → a * (b * c) ≡ b * (a * c)
swap a b c = sym (mul_assoc a b c) ∙ ap (λ (x : ℕ). x * c) (mul_comm a b) ∙ mul_assoc b a c

pub rows-count : {stp n : ℕ} (u : Rows stp n) → n / stp ≡ u.count
rows-count {stp} u = ap (λ (x : ℕ). x / stp) u.all ∙ mul-div_cancel_left u.count u.some

-- row k of block r is within the table
module _ {stp n card k r : ℕ} (u : Rows stp n) (hk : k < card) (hr : r < n / stp) where
  in_count : r < u.count
  in_count = subst (λ (x : ℕ). r < x) (rows-count u) hr

  pub row_next : stp * (r + 1) ≡ stp * r + stp
  row_next = let e : r + 1 ≡ suc r = omega arith in ap (λ (x : ℕ). stp * x) e ∙ mul-suc stp r

  -- of those that are laid
  pub row_fits : stp * r + stp ≤ n
  row_fits = omega (arith, u.all, mul-le-mul_left stp in_count, mul-suc stp r)

  pub row_inside : stp * (k + card * r) + stp ≤ card * n
  row_inside =
      omega (arith, mul-le-mul_left stp (digit-below card k r u.count hk in_count), mul-suc stp (k + card * r), swap stp card u.count, ap (λ (x : ℕ). card * x) u.all)

  pub row_number : k + card * r ≤ stp * (k + card * r)
  row_number = let e = mul-le-mul_right (k + card * r) u.some in omega arith

-- so the bytes of row k are within the table
pub in_row-below : {stp n card k : ℕ} → Rows stp n → k < card → (c : ℕ) → c < n → in_row stp card k c < card * n
in_row-below {stp} {n} {card} {k} u hk c hc =
    let q : c / stp < n / stp = subst (λ (x : ℕ). c / stp < x) (sym (rows-count u)) (div_below c stp u.count u.some (subst (λ (x : ℕ). c < x) u.all hc)) in
    omega (arith, row_inside u hk q, mod-lt c u.some)

-- all rows
pub rows_all : {stp n : ℕ} → Rows stp n → stp * (n / stp) ≡ n
rows_all {stp} u = ap (λ (x : ℕ). stp * x) (rows-count u) ∙ sym u.all

-- behind b bytes of whole rows there are card times as many in the table
pub in_row_past : {stp b : ℕ} (card k c : ℕ) → Rows stp b → in_row stp card k (b + c) ≡ card * b + in_row stp card k c
in_row_past {stp} {b} card k c u =
    let o : ℕ = c % stp in
    let x : ℕ = c / stp in
    let y : ℕ = u.count in
    let z = mod-add-div c stp in
    let a = u.all in
    let m = mul-add stp y x in
    let e : b + c ≡ stp * (y + x) + o = omega arith in
    let f : k + card * (y + x) ≡ k + card * x + card * y = omega (arith, mul-add card y x) in
    let g = mul-add stp (k + card * x) (card * y) in
    let h = swap stp card y in
    let i = ap (λ (v : ℕ). card * v) a in
    ap (in_row stp card k) e ∙ in_row-at stp card k (y + x) o (mod-lt c u.some) ∙ ap (λ (v : ℕ). stp * v + o) f ∙ omega arith

-- several tables of whole rows
pub rows_times : {stp n : ℕ} (q : ℕ) → Rows stp n → Rows stp (q * n)
rows_times {stp} q u = record { some = u.some; count = q * u.count; all = ap (λ (x : ℕ). q * x) u.all ∙ swap q stp u.count }

-- a run more
filled_run : {w : List ℕ} {a : ℕ} {f : ℕ → ℕ} {c len : ℕ} {w' t w'' : List ℕ} → Filled w a f c w' → Laid w' (a + c) t len w''
    → ((o : ℕ) → o < len → at t o ≡ f (c + o)) → Filled w a f (c + len) w''
filled_run {w} {a} {f} {c} {len} {w'} {t} {w''} l d h =
    record {
      len = d.len ∙ l.len;
      here = λ k lt.
          by_order c k
          (λ le.
          let o : ℕ = k - c in
          let e : c + o ≡ k = omega arith in
          let g : a + k ≡ a + c + o = omega arith in
          ap (at w'') g ∙ d.here o (omega arith) ∙ h o (omega arith) ∙ ap f e)
          (λ lt'. d.before (a + k) (omega arith) ∙ l.here k lt');
      before = λ j lt. d.before j (omega arith) ∙ l.before j lt;
      after = λ j lt. d.after j (omega arith) ∙ l.after j (omega arith);
    }

module _ {w : List ℕ} {from to n stp card k : ℕ} (hk : k < card) (u : Rows stp n) where
  -- a table taken by rows
  module _ (p : Apart w from (card * n) to n) {r : ℕ} {w' : List ℕ} (hr : r < n / stp) (l : Filled w to (λ c. at (part w from (card * n)) (in_row stp card k c)) (stp * r) w') where
    pub taken-room : Two w' (from + stp * (k + card * r)) (to + stp * r) stp
    taken-room =
        let s = p.src in
        let d = p.dst in
        let e = l.len in
        let a = row_fits u hk hr in
        let b = row_inside u hk hr in
        record { src = omega arith; dst = omega arith; apart = ⊎_elim (λ q. inl (omega arith)) (λ q. inr (omega arith)) p.apart }

    pub taken_more : {w'' : List ℕ} → Laid w' (to + stp * r) (part w' (from + stp * (k + card * r)) stp) stp w''
        → Filled w to (λ c. at (part w from (card * n)) (in_row stp card k c)) (stp * (r + 1)) w''
    taken_more {w''} d =
        subst (λ (x : ℕ). Filled w to (λ c. at (part w from (card * n)) (in_row stp card k c)) x w'') (sym (row_next u hk hr))
        (filled_run l d
        (λ o lt.
        let a = row_fits u hk hr in
        let b = row_inside u hk hr in
        let g : from + stp * (k + card * r) + o ≡ from + (stp * (k + card * r) + o) = omega arith in
        part_at w' (from + stp * (k + card * r)) stp o lt ∙ ap (at w') g ∙ read_part p l (omega arith) (stp * (k + card * r) + o) (omega arith)
        ∙ ap (at (part w from (card * n))) (sym (in_row-at stp card k r o lt))))

-- the bytes before a row, and those from it on, stand before it and from it on in the table
module _ {stp n card k : ℕ} (u : Rows stp n) (hk : k < card) (r : ℕ) where
  pub row_before : (v : ℕ) → v < stp * r → in_row stp card k v < stp * (k + card * r)
  row_before v lt =
      let q : v / stp < r = div_below v stp r u.some lt in
      let z = mod-lt v u.some in
      let y = mul-le-mul_left card q in
      let x = mul-suc card (v / stp) in
      let f : k + card * (v / stp) < k + card * r = omega (arith, hk) in
      omega (arith, mul-le-mul_left stp f, mul-suc stp (k + card * (v / stp)))

  pub row_behind : (v : ℕ) → stp * r ≤ v → stp * (k + card * r) ≤ in_row stp card k v
  row_behind v le =
      let h : Rows stp (stp * r) = record { some = u.some; count = r; all = refl } in
      let o : ℕ = v - stp * r in
      let e : stp * r + o ≡ v = omega arith in
      let i = ap (in_row stp card k) (sym e) ∙ in_row_past card k o h in
      let low : stp * k ≤ stp * (k + card * (o / stp)) = mul-le-mul_left stp (let z : k ≤ k + card * (o / stp) = omega arith in z) in
      omega (arith, mul-add stp k (card * r), swap stp card r)

-- rows given back, of a part that is apart from the table
module _ {w : List ℕ} {from to n stp card k : ℕ} (hk : k < card) (u : Rows stp n) (p : Apart w from n to (card * n)) where
  pub given_room : {r : ℕ} → r < n / stp → Two w (from + stp * r) (to + stp * (k + card * r)) stp
  given_room hr =
      let s = p.src in
      let d = p.dst in
      let a = row_fits u hk hr in
      let b = row_inside u hk hr in
      record { src = omega arith; dst = omega arith; apart = ⊎_elim (λ q. inl (omega arith)) (λ q. inr (omega arith)) p.apart }

  -- one
  pub given_row : {r : ℕ} {w' : List ℕ} → r < n / stp → Laid w (to + stp * (k + card * r)) (part w (from + stp * r) stp) stp w'
      → Given w from to n stp card k r (r + 1) w'
  given_row {r} {w'} hr l =
      record {
        len = l.len;
        on = λ v le lt.
            let o : ℕ = v - stp * r in
            let f = row_fits u hk hr in
            let x = row_next u hk hr in
            let ho : o < stp = omega arith in
            let e : stp * r + o ≡ v = omega arith in
            let i = in_row-at stp card k r o ho in
            let j : to + in_row stp card k v ≡ to + stp * (k + card * r) + o = let q = ap (in_row stp card k) e in omega arith in
            let g : from + stp * r + o ≡ from + v = omega arith in
            ap (at w') j ∙ l.here o ho ∙ part_at w (from + stp * r) stp o ho ∙ ap (at w) g ∙ sym (part_at w from n v (omega arith));
        off = λ j no.
            by_order (to + stp * (k + card * r)) j
            (λ le.
            by_order (to + stp * (k + card * r) + stp) j (λ le'. l.after j le')
            (λ lt.
            let o : ℕ = j - (to + stp * (k + card * r)) in
            let x = row_next u hk hr in
            let i = in_row-at stp card k r o (omega arith) in
            absurd (no (stp * r + o) (omega arith) (omega arith) (omega arith))))
            (λ lt. l.before j lt);
      }

  -- and one row behind the other
  pub given_both : {first middle last : ℕ} {w' w'' : List ℕ} → first ≤ middle → middle ≤ last → last ≤ n / stp → Given w from to n stp card k first middle w'
      → Given w' from to n stp card k middle last w'' → Given w from to n stp card k first last w''
  given_both {first} {middle} {last} {w'} {w''} hf hm hl a b =
      record {
        len = b.len ∙ a.len;
        on = λ v le lt.
            by_order (stp * middle) v
            (λ ge. b.on v ge lt ∙ same v (omega (arith, low-all)))
            (λ less.
            b.off (to + in_row stp card k v)
            (λ x ge lx e. let y = row_before u hk middle v less in let z = row_behind u hk middle x ge in omega arith)
            ∙ a.on v le less);
        off = λ j no. b.off j (λ v ge lt e. no v (omega (arith, low_first)) lt e) ∙ a.off j (λ v ge lt e. no v ge (omega (arith, low-last)) e);
      }
    where
      low_first : stp * first ≤ stp * middle
      low_first = mul-le-mul_left stp hf

      low-last : stp * middle ≤ stp * last
      low-last = mul-le-mul_left stp hm

      low-all : stp * last ≤ n
      low-all = omega (arith, mul-le-mul_left stp hl, rows_all u)

      -- what is given back stays
      same : (v : ℕ) → v < n → at (part w' from n) v ≡ at (part w from n) v
      same v lt =
          part_at w' from n v lt
          ∙ a.off (from + v)
          (λ x ge lx e.
          let i = in_row-below u hk x (omega (arith, low-last, low-all)) in
          ⊎_elim (λ q. omega arith) (λ q. omega arith) p.apart)
          ∙ sym (part_at w from n v lt)

  pub given_all : {w' : List ℕ} → Given w from to n stp card k 0 (n / stp) w' → Scattered w to (in_row stp card k) (at (part w from n)) n w'
  given_all g =
      let e = rows_all u in
      let z = mul-zero stp in
      record {
        len = g.len;
        on = λ v lt. g.on v (omega arith) (omega arith);
        off = λ j no. g.off j (λ v ge lt q. no v (omega arith) q);
      }

-- the rows of the lowest condition are single bytes
pub taken-single : {w : List ℕ} {to n stp : ℕ} {w' : List ℕ} (card k : ℕ) (t : List ℕ) → stp ≡ 1 → Laid w to (tabulate n (λ c. at t (k + card * c))) n w'
    → Laid w to (tabulate n (λ c. at t (in_row stp card k c))) n w'
taken-single {w} {to} {n} {stp} {w'} card k t e l =
    subst (λ (s : ℕ). Laid w to (tabulate n (λ c. at t (in_row s card k c))) n w') (sym e)
    (subst (λ (x : List ℕ). Laid w to x n w') (tabulate-same n _ _ (λ c hc. ap (at t) (sym (in_row-one card k c)))) l)

pub given_single : {w : List ℕ} {n stp card : ℕ} {f : ℕ → ℕ} {w' : List ℕ} (to k : ℕ) → stp ≡ 1 → Spread w (to + k) card f n w' → Scattered w to (in_row stp card k) f n w'
given_single {w} {n} {stp} {card} {f} {w'} to k e l =
    subst (λ (s : ℕ). Scattered w to (in_row s card k) f n w') (sym e)
    (record {
      len = l.len;
      on = λ v lt. let g : to + in_row 1 card k v ≡ to + k + card * v = let q = in_row-one card k v in omega arith in ap (at w') g ∙ l.on v lt;
      off = λ j no. l.off j (λ v lt q. no v lt (let y = in_row-one card k v in omega arith));
    })
