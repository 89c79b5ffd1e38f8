-- A literal's bytes: its head, then its grades over zeros.
use Prim.Native.Nat.{ℕ, suc, ◌+◌, ◌-◌, ◌≤◌, ◌<◌}
use mathlib.Core.Path.{◌≡◌, refl, sym, ◌∙◌, ap, ap₂, subst}
use mathlib.Core.Bool.{Bool, true, false}
use mathlib.Core.List.{List, [], ◌∷◌, ◌++◌}
use native.Mathlib.Omega.{arith}
use borrow.Author.Tests.{eq-eqb, ne_eqb}
use lib.Dec.{eqb}
use lib.ListN.{length, set, take, drop, replicate, length-set, length-take, length-replicate, get_or-replicate}
use lib.Seq.{get_or-take, get_or-set_same, get_or-set_other, take-append-add}
use Rattle.std.proofs.lemmas.List.{take-replicate, drop-replicate, take-append-drop, set-append_left, set-append_right}
use Rattle.rules.specs.Bytes.{at, pick, tabulate, greatest}
use Rattle.rules.specs.Network.{literal, record_bytes}
use Rattle.laws.proofs.TestLaws.{by_equal}
use Rattle.laws.proofs.TableLaws.{at-tabulate, tabulate_self, tabulate_from_below}
use Rattle.laws.proofs.CeilingLaws.{at-greatest, greatest-bound}

-- up to eight grades stand over eight zeros
over_zeros : (gs : List ℕ) (n : ℕ) → length gs ≡ n → n ≤ 8 → gs ++ drop n (replicate 8 0) ≡ take 8 (gs ++ replicate 8 0)
over_zeros gs n e h =
    let s : 8 ≡ length gs + (8 - n) = omega arith in
    sym
    (ap (λ (k : ℕ). take k (gs ++ replicate 8 0)) s
    ∙ take-append-add gs (replicate 8 0) (8 - n)
    ∙ ap (λ (t : List ℕ). gs ++ t) (take-replicate (8 - n) 8 0 (omega arith) ∙ sym (drop-replicate n 8 0)))

-- the first grades of a table
table_front : (table : List ℕ) (n : ℕ) → n ≤ length table → take n table ≡ tabulate n (at table)
table_front table n h =
    let long : length (take n table) ≡ n = length-take n table ∙ omega arith in
    sym (subst (λ (k : ℕ). tabulate k (at table) ≡ take n table) long (tabulate_self (at table) (take n table) (λ v l. sym (get_or-take n table v 0 (omega arith)))))

pub literal_table : (i top n : ℕ) (table : List ℕ) {bytes gs : List ℕ} → n ≤ 8 → n ≤ length table → bytes ≡ record_bytes (literal i []) top → gs ≡ take n table
    → take 8 bytes ++ (gs ++ drop (8 + n - 8) (drop 8 bytes)) ≡ record_bytes (literal i (tabulate n (at table))) top
literal_table i top n table h l b g =
    let long : length (take n table) ≡ n = length-take n table ∙ omega arith in
    let m : 8 + n - 8 ≡ n = omega arith in
    ap₂ (λ (xs ys : List ℕ). take 8 xs ++ (ys ++ drop (8 + n - 8) (drop 8 xs))) b g
    ∙ ap (λ (t : List ℕ). 1 ∷ i ∷ top ∷ 0 ∷ 0 ∷ 0 ∷ 0 ∷ 0 ∷ t)
    (ap (λ (k : ℕ). take n table ++ drop k (replicate 8 0)) m
    ∙ over_zeros (take n table) n long h
    ∙ ap (λ (t : List ℕ). take 8 (t ++ replicate 8 0)) (table_front table n l))

-- one grade alone
module _ (n k x : ℕ) (h : n ≤ 8) (l : k < n) where
  abbrev alone : ℕ → ℕ
  alone v = pick (eqb v k) x 0

  abbrev few_zeros : List ℕ
  few_zeros = replicate n 0

  abbrev selector : List ℕ
  selector = set few_zeros k x

  length-few_zeros : length few_zeros ≡ n
  length-few_zeros = length-replicate {A = ℕ} n 0

  length-selector : length selector ≡ n
  length-selector = length-set few_zeros k x ∙ length-few_zeros

  selector_at : (v : ℕ) → v < n → alone v ≡ at selector v
  selector_at v q =
      by_equal v k
      (λ e.
      ap (λ (b : Bool). pick b x 0) (eq-eqb v k e)
      ∙ sym (subst (λ (w : ℕ). at selector w ≡ x) (sym e) (get_or-set_same few_zeros k x 0 (omega (arith, length-few_zeros)))))
      (λ ne. ap (λ (b : Bool). pick b x 0) (ne_eqb v k ne) ∙ sym (get_or-set_other few_zeros k v x 0 ne ∙ get_or-replicate n v 0 0 q))

  selector_grades : tabulate n alone ≡ selector
  selector_grades =
      subst (λ (m : ℕ). tabulate m alone ≡ selector) length-selector (tabulate_self alone selector (λ v q. selector_at v (omega (arith, length-selector))))

  eight_zeros : few_zeros ++ drop n (replicate 8 0) ≡ replicate 8 0
  eight_zeros = ap (λ (t : List ℕ). t ++ drop n (replicate 8 0)) (sym (take-replicate {X = ℕ} n 8 0 h)) ∙ take-append-drop n (replicate 8 0)

  selector_over : set (replicate 8 0) k x ≡ take 8 (tabulate n alone ++ replicate 8 0)
  selector_over =
      ap (λ (t : List ℕ). set t k x) (sym eight_zeros)
      ∙ set-append_left few_zeros (drop n (replicate 8 0)) k x (omega (arith, length-few_zeros))
      ∙ over_zeros selector n length-selector h
      ∙ ap (λ (t : List ℕ). take 8 (t ++ replicate 8 0)) (sym selector_grades)

  pub literal_selector : (i : ℕ) {bytes : List ℕ} → bytes ≡ record_bytes (literal i []) x → set bytes (8 + k) x ≡ record_bytes (literal i (tabulate n alone)) x
  literal_selector i b =
      let m : 8 + k - 8 ≡ k = omega arith in
      ap (λ (t : List ℕ). set t (8 + k) x) b
      ∙ set-append_right (1 ∷ i ∷ x ∷ replicate 5 0) (replicate 8 0) 8 (8 + k) x refl (omega arith)
      ∙ ap (λ (t : List ℕ). 1 ∷ i ∷ x ∷ 0 ∷ 0 ∷ 0 ∷ 0 ∷ 0 ∷ t) (ap (λ (j : ℕ). set (replicate 8 0) j x) m ∙ selector_over)

-- the greatest of a table's first grades, and of one grade alone
pub greatest-front : (table : List ℕ) (n : ℕ) → n ≤ length table → greatest (take n table) ≡ greatest (tabulate n (at table))
greatest-front table n h = ap greatest (table_front table n h)

pub greatest-one : (n k x : ℕ) → k < n → greatest (tabulate n (λ v. pick (eqb v k) x 0)) ≡ x
greatest-one n k x h =
    let f : ℕ → ℕ = λ v. pick (eqb v k) x 0 in
    let there : at (tabulate n f) k ≡ x = at-tabulate n f k h ∙ ap (λ (b : Bool). pick b x 0) (eq-eqb k k refl) in
    omega (arith, at-greatest (tabulate n f) k, greatest-bound (tabulate n f) x (λ v. let low = tabulate_from_below (suc x) f 0 n (omega arith) (λ w a b. few (eqb w k)) v in omega arith))
  where
    few : (b : Bool) → pick b x 0 < suc x
    few true = omega arith
    few false = omega arith
