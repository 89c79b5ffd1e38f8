-- What is known of the cells while a list is visited, and the byte for each number.
use Prim.Native.Nat.{ℕ, ◌/◌, ◌≤◌, ◌<◌}
use mathlib.Core.Path.{◌≡◌, refl, sym, ◌∙◌, ap, subst}
use mathlib.Core.Bool.{Bool}
use mathlib.Core.List.{List, map, ◌++◌}
use mathlib.Core.Logic.{⊎_elim, inl, inr}
use native.Mathlib.Omega.{arith}
use borrow.Author.Tests.{lt-ltb, le-ltb}
use lib.Dec.{T, eqb, eqb→eq, eqb_refl}
use lib.ListN.{length, drop, set, replicate, length-set, get_or-replicate, length-map}
use lib.Seq.{get_or-set_same, get_or-set_other}
use Rattle.rules.specs.Bytes.{pick, at, Past}
use Rattle.rules.specs.Cell.{cells}
use Rattle.rules.specs.Network.{evaluate}
use Rattle.rules.specs.Visits.{no_cell_byte, visit_byte}
use Rattle.laws.proofs.TableLaws.{at_map}
use Rattle.laws.proofs.TestLaws.{by_test}
use Rattle.tables.proofs.PartLaws.{Filled, filled_laid, laid-front}
use Rattle.network_visits.specs.Visiting.{Known}

-- the first i numbers have been visited
pub record VisitedTo (ks net visits grades work : List ℕ) (i : ℕ) (grades' known work' : List ℕ) : Type 0 where
  pub bytes : Filled grades 0 (λ k. visit_byte ks net (at visits k)) i grades'
  pub knows : Known ks net known
  pub kept : Past (length net / 16) work work'
  pub none-keeps : length visits ≡ 0 → work' ≡ work

module _ (ks net : List ℕ) where
  -- the byte for a number without a cell, and for one with
  pub no_cell : (cell : ℕ) → cells ks ≤ cell → no_cell_byte ≡ visit_byte ks net cell
  no_cell cell h = sym (ap (λ (b : Bool). pick b (evaluate ks net cell) no_cell_byte) (le-ltb cell (cells ks) h))

  pub at-cell : (cell byte : ℕ) → cell < cells ks → byte ≡ evaluate ks net cell → byte ≡ visit_byte ks net cell
  at-cell cell byte h e = e ∙ sym (ap (λ (b : Bool). pick b (evaluate ks net cell) no_cell_byte) (lt-ltb cell (cells ks) h))

  -- at the start nothing is known
  pub known_none : cells ks ≤ 1024 → Known ks net (replicate 1024 no_cell_byte)
  known_none few = record { long = refl; grade = λ cell h. inl (get_or-replicate 1024 cell no_cell_byte 0 (omega arith)) }

  module _ {known : List ℕ} (k : Known ks net known) (cell : ℕ) where
    -- what is known is right
    pub known_right : cell < cells ks → (at known cell ≡ no_cell_byte → ⊥) → at known cell ≡ visit_byte ks net cell
    known_right h n = at-cell cell (at known cell) h (⊎_elim (λ e. absurd (n e)) (λ e. e) (k.grade cell h))

    -- one cell more
    pub known_more : (grade : ℕ) → cell < 1024 → grade ≡ evaluate ks net cell → Known ks net (set known cell grade)
    known_more grade l e =
        record {
          long = length-set known cell grade ∙ k.long;
          grade = λ other h.
              by_test (eqb other cell)
              (λ t. let q = eqb→eq other cell t in inr (ap (at (set known cell grade)) q ∙ get_or-set_same known cell grade 0 (omega (arith, k.long)) ∙ e ∙ ap (evaluate ks net) (sym q)))
              (λ n.
              let away : at (set known cell grade) other ≡ at known other =
              get_or-set_other known cell other grade 0 (λ q. n (subst (λ (x : ℕ). T (eqb other x)) q (eqb_refl other))) in
              ⊎_elim (λ u. inl (away ∙ u)) (λ u. inr (away ∙ u)) (k.grade other h));
        }

  -- the bytes of a whole list
  pub visited-all : (visits grades : List ℕ) {grades' : List ℕ} {i : ℕ} → i ≡ length visits → length visits ≤ length grades → Filled grades 0 (λ k. visit_byte ks net (at visits k)) i grades'
      → grades' ≡ map (visit_byte ks net) visits ++ drop (length visits) grades
  visited-all visits grades e room f =
      laid-front (filled_laid (map (visit_byte ks net) visits) (length visits) e f (λ k h. sym (at_map (visit_byte ks net) visits k h))) room (length-map visits (visit_byte ks net))
