-- The walk over the classes of a set: what each of its steps leaves.
use Prim.Native.Nat.{ℕ, zero, suc, ◌+◌, ◌-◌, ◌*◌, ◌/◌, ◌%◌, ◌≤◌, ◌<◌}
use mathlib.Core.Path.{◌≡◌, refl, sym, ◌∙◌, ap, ap₂, subst}
use mathlib.Core.Bool.{Bool, true}
use mathlib.Core.List.{List, []}
use mathlib.Core.Logic.{inl}
use native.Mathlib.Omega.{arith}
use native.Mathlib.Numerals.{add-one}
use native.Mathlib.Nat.{mod-lt, mod-eq_of_lt, mod-add-div, mul-suc, mul_comm, mul_assoc, mul-add, mod-one, one-mul, div-div-eq-div-mul, mul-one, mul-pos, add-zero, mul-div_cancel_left}
use lib.Dec.{T}
use lib.ListN.{length, get_or}
use Rattle.rules.specs.Bytes.{at, tabulate}
use Rattle.rules.specs.Cell.{cells, card, present, step, has, agree_outside, over_to, over}
use Rattle.laws.proofs.OverLaws.{Bound, over_to-at, over_to-both, agree_refl}
use Rattle.laws.proofs.TableLaws.{at-tabulate}
use Rattle.laws.proofs.TestLaws.{by_order}
use Rattle.laws.proofs.CellLaws.{div_below, card_pos, cells_pos}
use Rattle.laws.proofs.LineLaws.{step_pos, step-next, step-all}
use Rattle.laws.proofs.UnionLaws.{digit_mod, digit_div, digit-below}
use Rattle.tables.specs.Part.{part, Laid, Shaped}
use Rattle.tables.specs.Line.{best, order, line_best, along_lines}
use Rattle.tables.proofs.PartLaws.{part_at}
use Rattle.tables.proofs.LineLaws.{best-bound, line-end}
use Rattle.tables.proofs.OverLaws.{blocks_some}
use Rattle.tables.proofs.OverLaws.{counted as counts}
use Rattle.laws.proofs.LoopLaws.{card_read}
use Rattle.rows.specs.Grades.{source, Room, Reads}
use Rattle.rows.specs.Blocks.{Several, Tables, Repeated}
use Rattle.extremes.specs.Walk.{Extreme, Class, Swept}
use Rattle.rows.proofs.GradesLaws.{unread, reads_on, room-same, fewer}
use Rattle.rows.proofs.BlockLaws.{counted, run_end}
use Rattle.extremes.proofs.AgreeLaws.{low-low, low-high, agree-none, agree-all, agree-low, agree-top, agree_up}

-- the same extreme, of numbers that are told otherwise
pub extreme_as : {greatest : Bool} {f : ℕ → ℕ} {P Q : ℕ → Type 0} {x : ℕ} → ((d : ℕ) → P d → Q d) → ((d : ℕ) → Q d → P d) → Extreme greatest f P x → Extreme greatest f Q x
extreme_as to from e = record { bound = λ d q. e.bound d (from d q); first = λ b h. e.first b (λ d p. h d (to d p)) }

-- a line's extreme bounds its grades, and is the first that does
module _ (greatest : Bool) (w : List ℕ) (a stp crd : ℕ) where
  pub line-bound : (v : ℕ) → v < crd → order greatest (at w (a + stp * v)) (line_best greatest w a stp crd)
  unfolding line_best
  line-bound v lt = over_to-at (best-bound greatest) (λ u. true) (λ u. at w (a + stp * u)) (at w a) crd v lt tt

  pub line_first : (b : ℕ) → 0 < crd → ((v : ℕ) → v < crd → order greatest (at w (a + stp * v)) b) → order greatest (line_best greatest w a stp crd) b
  unfolding line_best
  line_first b some h =
      let z : a + stp * 0 ≡ a = omega arith in
      over_to-both (best-bound greatest) (λ u. true) (λ u. at w (a + stp * u)) (at w a) b crd (subst (λ (i : ℕ). order greatest (at w i) b) z (h 0 some)) (λ v lt t. h v lt)

-- d lies on c's line, of n cells in blocks
pub record OnLine (stp crd n c d : ℕ) : Type 0 where
  pub below : d < n
  pub block : c / (stp * crd) ≡ d / (stp * crd)
  pub row : c % stp ≡ d % stp

-- the extremes along lines are those over them
pub along-extreme : (greatest : Bool) (g : List ℕ) (stp crd count n c : ℕ) → 0 < stp → 0 < crd → n ≡ stp * crd * count → c < n
    → Extreme greatest (at g) (OnLine stp crd n c) (at (along_lines greatest g stp crd count) c)
unfolding along_lines
along-extreme greatest g stp crd count n c hs hc e lt =
    subst (Extreme greatest (at g) (OnLine stp crd n c)) (sym (at-tabulate (stp * crd * count) _ c (omega arith)))
    (record {
      bound = λ d on.
          subst (λ (i : ℕ). order greatest (at g i) (over_to (best greatest) (λ v. true) (λ v. at g (cell v)) (at g c) crd)) (there d on)
          (over_to-at (best-bound greatest) (λ v. true) (λ v. at g (cell v)) (at g c) crd (d / stp % crd) (mod-lt (d / stp) hc) tt);
      first = λ b h.
          over_to-both (best-bound greatest) (λ v. true) (λ v. at g (cell v)) (at g c) b crd (h c (record { below = lt; block = refl; row = refl }))
          (λ v hv t. h (cell v) (on_line v hv));
    })
  where
    q : ℕ
    q = c / stp / crd

    cell : ℕ → ℕ
    cell v = c % stp + c / stp / crd * crd * stp + v * stp

    digits : (v : ℕ) → cell v ≡ c % stp + stp * (v + crd * q)
    digits v =
        let x : q * crd * stp ≡ stp * (crd * q) = mul_comm (q * crd) stp ∙ ap (λ (y : ℕ). stp * y) (mul_comm q crd) in
        omega (arith, x, mul_comm v stp, mul-add stp v (crd * q))

    few : q < count
    few = div_below (c / stp) crd count hc (div_below c stp (crd * count) hs (omega (arith, mul_assoc stp crd count)))

    on_line : (v : ℕ) → v < crd → OnLine stp crd n c (cell v)
    on_line v hv =
        let high : cell v / stp ≡ v + crd * q = ap (λ (x : ℕ). x / stp) (digits v) ∙ digit_div stp (c % stp) (v + crd * q) (mod-lt c hs) in
        record {
          below = let b = digit-below stp (c % stp) (v + crd * q) (crd * count) (mod-lt c hs) (digit-below crd v q count hv few) in omega (arith, digits v, mul_assoc stp crd count);
          block =
              sym
              (sym (div-div-eq-div-mul (cell v) stp crd) ∙ ap (λ (x : ℕ). x / crd) high ∙ digit_div crd v q hv ∙ div-div-eq-div-mul c stp crd);
          row = sym (ap (λ (x : ℕ). x % stp) (digits v) ∙ digit_mod stp (c % stp) (v + crd * q) (mod-lt c hs));
        }

    there : (d : ℕ) → OnLine stp crd n c d → cell (d / stp % crd) ≡ d
    there d on =
        let same : q ≡ d / stp / crd = div-div-eq-div-mul c stp crd ∙ on.block ∙ sym (div-div-eq-div-mul d stp crd) in
        let r = on.row in
        digits (d / stp % crd) ∙ ap₂ (λ (x y : ℕ). x + stp * (d / stp % crd + crd * y)) r same ∙ ap (λ (x : ℕ). d % stp + stp * x) (mod-add-div (d / stp) crd) ∙ mod-add-div d stp

-- tables of the places up to i, the step and the cardinality there, and what classes come to
module _ {ks : List ℕ} {i size n : ℕ} (p : Tables ks i size n) (set stp crd : ℕ) (es : stp ≡ step ks i) (ec : crd ≡ card ks i) where
  pub steps : 0 < stp
  steps = rw es (step_pos ks i p.positive)

  pub values : 0 < crd
  values = rw ec (card_pos ks i p.positive)

  pub sized : size ≡ stp * crd
  sized = p.size_is ∙ step-next ks i ∙ sym (ap₂ (λ (x y : ℕ). x * y) es ec)

  within : (c : ℕ) → c % size < step ks (suc i)
  within c = let b = mod-lt c p.several.some in let e = p.size_is in omega arith

  low : (c : ℕ) → c % size % step ks i ≡ c % stp
  low c = ap (λ (x : ℕ). c % size % x) (sym es) ∙ ap (λ (x : ℕ). c % x % stp) sized ∙ low-low c stp crd steps values

  high : (c : ℕ) → c % size / step ks i ≡ c / stp % crd
  high c = ap (λ (x : ℕ). c % size / x) (sym es) ∙ ap (λ (x : ℕ). c % x / stp) sized ∙ low-high c stp crd steps values

  pub table_of : (c : ℕ) → c / size ≡ c / stp / crd
  table_of c = ap (λ (x : ℕ). c / x) sized ∙ sym (div-div-eq-div-mul c stp crd)

  lower : (c d : ℕ) → T (agree_outside ks set (c % size) (d % size)) → T (agree_outside ks set (c % stp) (d % stp))
  lower c d a = subst T (ap₂ (agree_outside ks set) (low c) (low d)) (agree-low ks p.positive set i (c % size) (d % size) a)

  upper : (c d : ℕ) → T (agree_outside ks set (c % stp) (d % stp)) → ((T (has set i) → ⊥) → c / stp % crd ≡ d / stp % crd) → T (agree_outside ks set (c % size) (d % size))
  upper c d a h =
      agree_up ks p.positive set i (c % size) (d % size) (within c) (within d) (subst T (sym (ap₂ (agree_outside ks set) (low c) (low d))) a)
      (λ out. high c ∙ h out ∙ sym (high d))

  -- condition i is no member: the classes are those of the tables below it
  pub pass_down : (T (has set i) → ⊥) → (c d : ℕ) → Class ks set size n c d → Class ks set stp n c d
  pass_down out c d k =
      record {
        below = k.below;
        table =
            let e : c / stp % crd ≡ d / stp % crd = sym (high c) ∙ agree-top ks p.positive set i (c % size) (d % size) (within c) (within d) k.agree out ∙ high d in
            let f : c / stp / crd ≡ d / stp / crd = sym (table_of c) ∙ k.table ∙ table_of d in
            sym (mod-add-div (c / stp) crd) ∙ ap₂ (λ (x y : ℕ). x + crd * y) e f ∙ mod-add-div (d / stp) crd;
        agree = lower c d k.agree;
      }

  pub pass_up : (T (has set i) → ⊥) → (c d : ℕ) → Class ks set stp n c d → Class ks set size n c d
  pass_up out c d k =
      record {
        below = k.below;
        table = table_of c ∙ ap (λ (x : ℕ). x / crd) k.table ∙ sym (table_of d);
        agree = upper c d k.agree (λ o. ap (λ (x : ℕ). x % crd) k.table);
      }

  -- it is one: all its values are in the class
  pub member_down : {c d : ℕ} → Class ks set size n c d → T (agree_outside ks set (c % stp) (d % stp))
  member_down {c} {d} k = lower c d k.agree

  pub member_up : T (has set i) → {c d : ℕ} → d < n → c / size ≡ d / size → T (agree_outside ks set (c % stp) (d % stp)) → Class ks set size n c d
  member_up m {c} {d} lt e a = record { below = lt; table = e; agree = upper c d a (λ out. absurd (out m)) }

  -- it is the lowest: the classes are its lines
  module _ (m : T (has set i)) (none : (j : ℕ) → j < i → T (has set j) → ⊥) where
    pub lines_down : (c d : ℕ) → Class ks set size n c d → OnLine stp crd n c d
    lines_down c d k =
        record {
          below = k.below;
          block = let e = k.table in rw sized at e;
          row = agree-none ks p.positive set i (c % stp) (d % stp) none (let b = mod-lt c steps in omega arith) (let b = mod-lt d steps in omega arith) (member_down k);
        }

    pub lines_up : (c d : ℕ) → OnLine stp crd n c d → Class ks set size n c d
    lines_up c d o =
        member_up m o.below (ap (λ (x : ℕ). c / x) sized ∙ o.block ∙ sym (ap (λ (x : ℕ). d / x) sized))
        (subst (λ (x : ℕ). T (agree_outside ks set (c % stp) x)) o.row (agree_refl ks set (c % stp)))

  -- all conditions up to it are members: the classes are the tables
  module _ (inside : (j : ℕ) → j < suc i → T (present ks j) → T (has set j)) where
    pub runs_down : (c d : ℕ) → Class ks set size n c d → OnLine 1 size n c d
    runs_down c d k = record { below = k.below; block = ap (λ (x : ℕ). c / x) (one-mul size) ∙ k.table ∙ sym (ap (λ (x : ℕ). d / x) (one-mul size)); row = mod-one c ∙ sym (mod-one d) }

    pub runs_up : (c d : ℕ) → OnLine 1 size n c d → Class ks set size n c d
    runs_up c d o =
        record {
          below = o.below;
          table = sym (ap (λ (x : ℕ). c / x) (one-mul size)) ∙ o.block ∙ ap (λ (x : ℕ). d / x) (one-mul size);
          agree = agree-all ks p.positive set (suc i) (c % size) (d % size) inside (within c) (within d);
        }

-- extremes along lines that are the classes
pub along_swept : (greatest : Bool) {ks g w : List ℕ} {set size n stp crd to : ℕ} {w' : List ℕ} → 0 < stp → 0 < crd → Several (stp * crd) n
    → ((c d : ℕ) → Class ks set size n c d → OnLine stp crd n c d) → ((c d : ℕ) → OnLine stp crd n c d → Class ks set size n c d)
    → Laid w to (along_lines greatest g stp crd (n / (stp * crd))) n w' → Swept greatest ks set size n g w to n w'
along_swept greatest {ks} {g} {w} {set} {size} {n} {stp} {crd} {to} {w'} hs hc p down up l =
    record {
      len = l.len;
      here = λ c lt.
          subst (Extreme greatest (at g) (Class ks set size n c)) (sym (l.here c lt))
          (extreme_as (up c) (down c) (along-extreme greatest g stp crd (n / (stp * crd)) n c hs hc (p.all ∙ ap (λ (x : ℕ). stp * crd * x) (sym (counted p))) lt));
      before = l.before;
      after = l.after;
    }

-- no member: each cell is a class
pub none_swept : (greatest : Bool) {ks g w : List ℕ} {set n to : ℕ} {w' : List ℕ} → Shaped ks → length ks ≤ 8 → n ≡ cells ks → ((j : ℕ) → j < 8 → T (has set j) → ⊥) → Laid w to g n w'
    → Swept greatest ks set n n g w to n w'
none_swept greatest {ks} {g} {w} {set} {n} {to} {w'} shaped long e none l =
    record { len = l.len; here = λ c lt. subst (Extreme greatest (at g) (Class ks set n n c)) (sym (l.here c lt)) (own c lt); before = l.before; after = l.after }
  where
    all : step ks 8 ≡ cells ks
    all = step-all ks 8 long

    own : (c : ℕ) → c < n → Extreme greatest (at g) (Class ks set n n c) (at g c)
    own c lt =
        record {
          bound = λ d k.
              let m = subst T (ap₂ (agree_outside ks set) (mod-eq_of_lt lt) (mod-eq_of_lt k.below)) k.agree in
              let b = k.below in
              subst (λ (x : ℕ). order greatest (at g d) (at g x)) (sym (agree-none ks shaped.some set 8 c d none (omega (arith, all)) (omega (arith, all)) m)) ((best-bound greatest).self (at g d));
          first = λ b h. h c (record { below = lt; table = refl; agree = agree_refl ks set (c % n) });
        }

-- the walk of the whole tables is the table of the extremes over the set
pub swept_over : (greatest : Bool) {ks g w : List ℕ} {set n to : ℕ} {w' : List ℕ} → n ≡ cells ks → 0 < n → Swept greatest ks set n n g w to n w' → Laid w to (over (best greatest) ks set g) n w'
swept_over greatest {ks} {g} {w} {set} {n} {to} {w'} e some s =
    record { len = s.len; here = λ c lt. same c lt ∙ sym (at-tabulate (cells ks) _ c (omega arith)); before = s.before; after = s.after }
  where
    B : Bound (best greatest) (order greatest)
    B = best-bound greatest

    zero-table : (c : ℕ) → c < n → c / n ≡ 0
    zero-table c lt = let q = div_below c n 1 some (omega (arith, mul-one n)) in omega arith

    class : (c d : ℕ) → c < n → d < n → T (agree_outside ks set c d) → Class ks set n n c d
    class c d hc hd a =
        record {
          below = hd;
          table = zero-table c hc ∙ sym (zero-table d hd);
          agree = subst T (sym (ap₂ (agree_outside ks set) (mod-eq_of_lt hc) (mod-eq_of_lt hd))) a;
        }

    same : (c : ℕ) → c < n → at w' (to + c) ≡ over_to (best greatest) (agree_outside ks set c) (at g) (at g c) (cells ks)
    same c lt =
        let x = s.here c lt in
        B.anti
        (x.first _
        (λ d k.
        over_to-at B (agree_outside ks set c) (at g) (at g c) (cells ks) d (let b = k.below in omega arith)
        (subst T (ap₂ (agree_outside ks set) (mod-eq_of_lt lt) (mod-eq_of_lt k.below)) k.agree)))
        (over_to-both B (agree_outside ks set c) (at g) (at g c) _ (cells ks) (x.bound c (class c c lt lt (agree_refl ks set c)))
        (λ d hd a. x.bound d (class c d lt (omega arith) a)))

-- the places that the walk goes on to: the step and the cardinality as they are counted
module _ {ks : List ℕ} {i size n : ℕ} (p : Tables ks i size n) (h : i < length ks) where
  pub card-is : get_or ks i 0 ≡ card ks i
  card-is = card_read ks i h

  pub card-some : 0 < get_or ks i 0
  card-some = rw card-is (card_pos ks i p.positive)

  pub step_is : size / get_or ks i 0 ≡ step ks i
  step_is =
      ap (λ (x : ℕ). x / get_or ks i 0) (p.size_is ∙ step-next ks i ∙ mul_comm (step ks i) (card ks i) ∙ ap (λ (x : ℕ). x * step ks i) (sym card-is))
      ∙ mul-div_cancel_left (step ks i) card-some

  pub size_of : size ≡ size / get_or ks i 0 * get_or ks i 0
  size_of = sized p 0 (size / get_or ks i 0) (get_or ks i 0) step_is card-is

  module _ (some : 1 ≤ i) where
    -- of k rows in all
    down : (k : ℕ) → 0 < k → size / get_or ks i 0 * k ≤ 1024 → Tables ks (i - 1) (size / get_or ks i 0) (size / get_or ks i 0 * k)
    down k hk few =
        let e : suc (i - 1) ≡ i = omega arith in
        record {
          place = let l = p.place in omega arith;
          positive = p.positive;
          size_is = step_is ∙ sym (ap (step ks) e);
          several = record { count = k; more = hk; all = refl; some = rw step_is (step_pos ks i p.positive); few = few };
        }

    pub tables_down : Tables ks (i - 1) (size / get_or ks i 0) n
    tables_down =
        let f = p.several.few in
        let e : n ≡ size / get_or ks i 0 * (get_or ks i 0 * p.several.count) = p.several.all ∙ ap (λ (x : ℕ). x * p.several.count) size_of ∙ mul_assoc _ _ _ in
        subst (Tables ks (i - 1) (size / get_or ks i 0)) (sym e)
        (down (get_or ks i 0 * p.several.count) (mul-pos card-some p.several.more) (omega arith))

    pub row_down : Tables ks (i - 1) (size / get_or ks i 0) (size / get_or ks i 0)
    row_down =
        let f = p.several.few in
        let a = p.several.all in
        let s = line-end size p.several.count 0 p.several.more in
        let r = line-end (size / get_or ks i 0) (get_or ks i 0) 0 card-some in
        subst (Tables ks (i - 1) (size / get_or ks i 0)) (mul-one (size / get_or ks i 0)) (down 1 (omega arith) (omega (arith, mul-one (size / get_or ks i 0), size_of)))

pub along-tables : {ks : List ℕ} {i size n : ℕ} → Tables ks i size n → Tables ks i (step ks i * card ks i) n
along-tables {ks} {i} {size} {n} p = subst (λ (x : ℕ). Tables ks i x n) (sized p 0 _ _ refl refl) p

-- the two ends of the walk, and a place that it passes
module _ (greatest : Bool) {ks : List ℕ} {i size n : ℕ} (p : Tables ks i size n) (set : ℕ) {g w : List ℕ} {to : ℕ} {w' : List ℕ} where
  pub runs_swept : ((j : ℕ) → j < suc i → T (present ks j) → T (has set j)) → Laid w to (along_lines greatest g 1 size (n / size)) n w' → Swept greatest ks set size n g w to n w'
  runs_swept inside l =
      along_swept greatest (omega arith) p.several.some (subst (λ (x : ℕ). Several x n) (sym (one-mul size)) p.several) (runs_down p set _ _ refl refl inside)
      (runs_up p set _ _ refl refl inside) (subst (λ (x : ℕ). Laid w to (along_lines greatest g 1 size (n / x)) n w') (sym (one-mul size)) l)

  pub lines_swept : T (has set i) → ((j : ℕ) → j < i → T (has set j) → ⊥) → Laid w to (along_lines greatest g (step ks i) (card ks i) (n / (step ks i * card ks i))) n w'
      → Swept greatest ks set size n g w to n w'
  lines_swept m none l =
      along_swept greatest (step_pos ks i p.positive) (card_pos ks i p.positive) (along-tables p).several (lines_down p set _ _ refl refl m none) (lines_up p set _ _ refl refl m none) l

  pub passed_swept : {stp : ℕ} → stp ≡ step ks i → (T (has set i) → ⊥) → Swept greatest ks set stp n g w to n w' → Swept greatest ks set size n g w to n w'
  passed_swept {stp} es out s =
      record {
        len = s.len;
        here = λ c lt. extreme_as (pass_up p set stp (card ks i) es refl out c) (pass_down p set stp (card ks i) es refl out c) (s.here c lt);
        before = s.before;
        after = s.after;
      }

-- all of a table, by the lines of condition i
pub whole-along : {ks : List ℕ} {i n : ℕ} → Shaped ks → i < length ks → i < 8 → n ≡ cells ks → Tables ks i (step ks i * card ks i) n
whole-along {ks} {i} {n} s h h8 e =
    let c = counts ks i (step ks i) (card ks i) n s.some h refl (sym (card_read ks i h)) e in
    let f = s.few in
    record {
      place = h8;
      positive = s.some;
      size_is = sym (step-next ks i);
      several = record { count = n / (step ks i * card ks i); more = blocks_some c; all = e ∙ sym c.all; some = c.size; few = omega arith };
    }

-- places without a member, from place i on
pub climbed : (greatest : Bool) {ks : List ℕ} {set n : ℕ} {g w : List ℕ} {to : ℕ} {w' : List ℕ} → Shaped ks → length ks ≡ 8 → n ≡ cells ks → (i k : ℕ) → i + k ≤ 8
    → ((j : ℕ) → i ≤ j → j < 8 → T (has set j) → ⊥) → Swept greatest ks set (step ks i) n g w to n w' → Swept greatest ks set (step ks (i + k)) n g w to n w'
climbed greatest {ks} {set} {n} {g} {w} {to} {w'} s long e i zero h none x = subst (λ (m : ℕ). Swept greatest ks set (step ks m) n g w to n w') (sym (add-zero i)) x
climbed greatest {ks} {set} {n} {g} {w} {to} {w'} s long e i (suc k) h none x =
    let d : i + suc k ≡ suc (i + k) = omega arith in
    subst (λ (m : ℕ). Swept greatest ks set m n g w to n w') (sym (ap (step ks) d ∙ step-next ks (i + k)))
    (passed_swept greatest (whole-along s (omega arith) (omega arith) e) set refl (none (i + k) (omega arith) (omega arith)) (climbed greatest s long e i k (omega arith) none x))

-- the walk from the highest member down is that of the whole table
module _ {ks : List ℕ} (s : Shaped ks) (long : length ks ≡ 8) {n : ℕ} (e : n ≡ cells ks) {top size : ℕ} (h : top < 8) (es : size ≡ step ks (top + 1)) where
  pub top_tables : Tables ks top size n
  top_tables = subst (λ (x : ℕ). Tables ks top x n) (sym (es ∙ ap (step ks) (add-one top) ∙ step-next ks top)) (whole-along s (omega arith) h e)

  pub top-over : (greatest : Bool) {set : ℕ} {g w : List ℕ} {to : ℕ} {w' : List ℕ} → ((j : ℕ) → top < j → j < 8 → T (has set j) → ⊥) → Swept greatest ks set size n g w to n w'
      → Laid w to (over (best greatest) ks set g) n w'
  top-over greatest {set} {g} {w} {to} {w'} none x =
      let k : top + 1 + (7 - top) ≡ 8 = omega arith in
      let c = cells_pos ks s.some in
      swept_over greatest e (omega arith)
      (subst (λ (m : ℕ). Swept greatest ks set m n g w to n w') (ap (step ks) k ∙ step-all ks 8 (omega arith) ∙ sym e)
      (climbed greatest s long e (top + 1) (7 - top) (omega arith) (λ j le lt. none j (omega arith) lt) (subst (λ (m : ℕ). Swept greatest ks set m n g w to n w') es x)))

-- one table more, from its extremes
swept_more : {greatest : Bool} {ks : List ℕ} {set size n : ℕ} {g w : List ℕ} {to : ℕ} (b : ℕ) {w' w'' : List ℕ} → length w'' ≡ length w' → Swept greatest ks set size n g w to (size * b) w'
    → ((c : ℕ) → size * b ≤ c → c < size * b + size → Extreme greatest (at g) (Class ks set size n c) (at w'' (to + c))) → ((j : ℕ) → j < to + size * b → at w'' j ≡ at w' j)
    → ((j : ℕ) → to + size * b + size ≤ j → at w'' j ≡ at w' j) → Swept greatest ks set size n g w to (size * (b + 1)) w''
swept_more {greatest} {ks} {set} {size} {n} {g} {w} {to} b {w'} {w''} len s new before after =
    record {
      len = len ∙ s.len;
      here = λ c lt.
          by_order (size * b) c (λ ge. new c ge (omega (arith, more)))
          (λ lo. subst (Extreme greatest (at g) (Class ks set size n c)) (sym (before (to + c) (omega arith))) (s.here c lo));
      before = λ j lt. before j (omega arith) ∙ s.before j lt;
      after = λ j le. after j (omega (arith, more)) ∙ s.after j (omega (arith, more));
    }
  where
    more : size * (b + 1) ≡ size * b + size
    more = rw (add-one b) (mul-suc size b)

-- the walk at a member, before table b: its step and cardinality as they are counted, and what it has done
pub record Turn (greatest : Bool) (ks : List ℕ) (set i size n stp crd : ℕ) (lent w : List ℕ) (from to b : ℕ) (w' : List ℕ) : Type 0 where
  pub tables : Tables ks i size n
  pub row : stp ≡ step ks i
  pub count : crd ≡ card ks i
  pub member : T (has set i)
  pub reads : Reads lent w from to n
  pub more : b < n / size
  pub done : Swept greatest ks set size n (part (source lent w) from n) w to (size * b) w'

-- the rows of table b become one, that is walked on, and then repeated
module _ {greatest : Bool} {ks : List ℕ} {set i size n stp crd : ℕ} {lent w : List ℕ} {from to b : ℕ} {w' : List ℕ} (u : Turn greatest ks set i size n stp crd lent w from to b w') where
  p : Tables ks i size n
  p = u.tables

  es : stp ≡ step ks i
  es = u.row

  ec : crd ≡ card ks i
  ec = u.count

  s : Swept greatest ks set size n (part (source lent w) from n) w to (size * b) w'
  s = u.done

  pub some-cells : 0 < stp
  some-cells = steps p set stp crd es ec

  pub some-rows : 0 < crd
  some-rows = values p set stp crd es ec

  pub ends : size * b + size ≤ n
  ends = run_end p.several u.more

  pub table-reads : Reads lent w' (from + size * b) (to + size * b) size
  table-reads = reads_on (size * b) size ends (room-same w' s.len u.reads)

  pub row_room : Room lent w' (from + size * b) (stp * crd) (to + size * b) stp
  row_room = let e = sized p set stp crd es ec in fewer (stp * crd) stp (omega arith) (omega (arith, line-end stp crd 0 some-rows)) table-reads

  -- the row's bytes, in a buffer as long
  pub row_inside : (v : List ℕ) → length v ≡ length w' → to + size * b + stp * crd ≤ length v
  row_inside v e = let d = table-reads.dst in let z = sized p set stp crd es ec in omega arith

  pub row_in_place : (v : List ℕ) → length v ≡ length w' → Reads [] v (to + size * b) (to + size * b) stp
  row_in_place v e =
      let r = row_inside v e in
      let z = line-end stp crd 0 some-rows in
      record { src = omega arith; dst = omega arith; aside = inl refl }

  abbrev g : List ℕ
  g = part (source lent w) from n

  grade : (k : ℕ) → size * b ≤ k → k < n → at (source lent w') (from + k) ≡ at g k
  grade k ge lt = unread w' u.reads s.before (λ j le. s.after j (omega (arith, ends))) k lt (λ x e. s.after (to + k) (omega arith)) ∙ sym (part_at (source lent w) from n k lt)

  module _ {w₁ w₂ w₃ : List ℕ} (l : Laid w' (to + size * b) (tabulate stp (λ o. line_best greatest (source lent w') (from + size * b + o) stp crd)) stp w₁)
      (t : Swept greatest ks set stp stp (part w₁ (to + size * b) stp) w₁ (to + size * b) stp w₂) (q : Repeated w₂ (to + size * b) stp crd crd w₃) where
    pub table_more : Swept greatest ks set size n g w to (size * (b + 1)) w₃
    table_more =
        swept_more b (q.len ∙ t.len ∙ l.len) s new (λ j lt. q.before j lt ∙ t.before j lt ∙ l.before j lt)
        (λ j le. q.after j (omega (arith, sz)) ∙ t.after j (omega (arith, sz, row)) ∙ l.after j (omega (arith, sz, row)))
      where
        sz : size ≡ stp * crd
        sz = sized p set stp crd es ec

        row : stp ≤ stp * crd
        row = omega (arith, line-end stp crd 0 some-rows)

        -- cell o + stp × v of the table
        cell : (o v : ℕ) → o < stp → v < crd → size * b + o + stp * v < n
        cell o v ho hv = omega (arith, ends, sz, line-end stp crd v hv)

        at-cell : (o v : ℕ) → o < stp → v < crd → at (source lent w') (from + size * b + o + stp * v) ≡ at g (size * b + o + stp * v)
        at-cell o v ho hv =
            let e : from + size * b + o + stp * v ≡ from + (size * b + o + stp * v) = omega arith in
            ap (at (source lent w')) e ∙ grade (size * b + o + stp * v) (omega arith) (cell o v ho hv)

        B : Bound (best greatest) (order greatest)
        B = best-bound greatest

        none : (o : ℕ) → o < stp → o / stp ≡ 0
        none o ho = let k = div_below o stp 1 some-cells (omega (arith, mul-one stp)) in omega arith

        digits : (o v : ℕ) → size * b + o + stp * v ≡ o + stp * (v + crd * b)
        digits o v =
            let e : size * b ≡ stp * (crd * b) = ap (λ (y : ℕ). y * b) sz ∙ mul_assoc stp crd b in
            omega (arith, e, mul-add stp v (crd * b))

        cell_row : (o v : ℕ) → o < stp → (size * b + o + stp * v) % stp ≡ o
        cell_row o v ho = ap (λ (y : ℕ). y % stp) (digits o v) ∙ digit_mod stp o (v + crd * b) ho

        cell-table : (o v : ℕ) → o < stp → v < crd → (size * b + o + stp * v) / size ≡ b
        cell-table o v ho hv =
            table_of p set stp crd es ec (size * b + o + stp * v)
            ∙ ap (λ (y : ℕ). y / crd) (ap (λ (y : ℕ). y / stp) (digits o v) ∙ digit_div stp o (v + crd * b) ho) ∙ digit_div crd v b hv

        -- the row's grade o
        R : ℕ → ℕ
        R o = line_best greatest (source lent w') (from + size * b + o) stp crd

        row_at : (o : ℕ) → o < stp → at (part w₁ (to + size * b) stp) o ≡ R o
        row_at o ho = part_at w₁ (to + size * b) stp o ho ∙ l.here o ho ∙ at-tabulate stp _ o ho

        new : (c : ℕ) → size * b ≤ c → c < size * b + size → Extreme greatest (at g) (Class ks set size n c) (at w₃ (to + c))
        new c ge lt = subst (Extreme greatest (at g) (Class ks set size n c)) (sym place) extreme
          where
            d₀ : ℕ
            d₀ = c - size * b

            o : ℕ
            o = d₀ % stp

            ho : o < stp
            ho = mod-lt d₀ some-cells

            v : ℕ
            v = d₀ / stp

            hv : v < crd
            hv = div_below d₀ stp crd some-cells (omega (arith, sz))

            split : c ≡ size * b + o + stp * v
            split = omega (arith, mod-add-div d₀ stp)

            place : at w₃ (to + c) ≡ at w₂ (to + size * b + o)
            place = let e : to + c ≡ to + size * b + o + stp * v = omega (arith, split) in ap (at w₃) e ∙ q.rows o v ho hv

            x : Extreme greatest (at (part w₁ (to + size * b) stp)) (Class ks set stp stp o) (at w₂ (to + size * b + o))
            x = t.here o ho

            c_row : c % stp ≡ o
            c_row = ap (λ (y : ℕ). y % stp) split ∙ cell_row o v ho

            c_table : c / size ≡ b
            c_table = ap (λ (y : ℕ). y / size) split ∙ cell-table o v ho hv

            -- another cell of the class, and its grade in the row
            other : (d : ℕ) → Class ks set size n c d → d ≡ size * b + d % stp + stp * (d / stp % crd)
            other d k =
                let e : d / stp / crd ≡ b = sym (table_of p set stp crd es ec d) ∙ sym k.table ∙ c_table in
                let f : d / stp ≡ d / stp % crd + crd * b = sym (mod-add-div (d / stp) crd) ∙ ap (λ (y : ℕ). d / stp % crd + crd * y) e in
                sym (mod-add-div d stp) ∙ ap (λ (y : ℕ). d % stp + stp * y) f ∙ sym (digits (d % stp) (d / stp % crd))

            row_class : (o' : ℕ) → o' < stp → T (agree_outside ks set o o') → Class ks set stp stp o o'
            row_class o' ho' a =
                record {
                  below = ho';
                  table = none o ho ∙ sym (none o' ho');
                  agree = subst T (sym (ap₂ (agree_outside ks set) (mod-eq_of_lt ho) (mod-eq_of_lt ho'))) a;
                }

            extreme : Extreme greatest (at g) (Class ks set size n c) (at w₂ (to + size * b + o))
            extreme =
                record {
                  bound = λ d k.
                      let o' = d % stp in
                      let v' = d / stp % crd in
                      let ho' : o' < stp = mod-lt d some-cells in
                      let hv' : v' < crd = mod-lt (d / stp) some-rows in
                      B.trans
                      (subst (λ (y : ℕ). order greatest y (R o')) (at-cell o' v' ho' hv' ∙ ap (at g) (sym (other d k))) (line-bound greatest (source lent w') (from + size * b + o') stp crd v' hv'))
                      (subst (λ (y : ℕ). order greatest y (at w₂ (to + size * b + o))) (row_at o' ho') (x.bound o' (row_class o' ho' (subst (λ (y : ℕ). T (agree_outside ks set y o')) c_row (member_down p set stp crd es ec k)))));
                  first = λ bnd hb.
                      x.first bnd
                      (λ o' k.
                      let ho' = k.below in
                      subst (λ (y : ℕ). order greatest y bnd) (sym (row_at o' ho'))
                      (line_first greatest (source lent w') (from + size * b + o') stp crd bnd some-rows
                      (λ v' hv'.
                      subst (λ (y : ℕ). order greatest y bnd) (sym (at-cell o' v' ho' hv'))
                      (hb (size * b + o' + stp * v')
                      (member_up p set stp crd es ec u.member (cell o' v' ho' hv') (c_table ∙ sym (cell-table o' v' ho' hv'))
                      (subst T (ap₂ (agree_outside ks set) (mod-eq_of_lt ho ∙ sym c_row) (mod-eq_of_lt ho' ∙ sym (cell_row o' v' ho'))) k.agree))))));
                }
