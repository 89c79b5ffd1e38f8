-- The promise of `evaluate_each`, from its rows.
use Prim.Native.Nat.{ℕ, ◌/◌, ◌≤◌, ◌<◌}
use mathlib.Core.Path.{◌≡◌, refl, sym, ◌∙◌, ap, subst}
use mathlib.Core.Bool.{Bool, true, false, ◌&&◌}
use mathlib.Core.List.{List, [], ◌∷◌, ◌++◌, map}
use native.Mathlib.Omega.{arith}
use borrow.Author.Tests.{lt-ltb, le-leb}
use Rattle.std.specs.Prelude.{Result, Ok, Err}
use lib.Dec.{leb, ltb}
use lib.ListN.{length, drop, length-map, get_or-append}
use Rattle.rules.specs.declared.Refusal.{Refusal}
use Rattle.rules.specs.declared.Refusal.TheVariants.{ShapeRange, ShortBuffer, Network, CellNumber}
use Rattle.rules.specs.Bytes.{pick, at, Past}
use Rattle.rules.specs.Cell.{cells}
use Rattle.rules.specs.Verdict.{Verdict, accepted, refused, unless, outcome_of, outcome_means}
use Rattle.rules.specs.Network.{network_sound, evaluate}
use Rattle.rules.specs.NetworkCalls.{evaluate_call}
use Rattle.rules.specs.Visits.{no_cell_byte, visit_byte, byte_verdict}
use Rattle.rules.specs.Demands.{Capped}
use Rattle.laws.proofs.TestLaws.{and_true, passes}
use Rattle.laws.proofs.CeilingLaws.{sound-capped}
use Rattle.laws.proofs.TableLaws.{at_map}
use Rattle.laws.proofs.VerdictLaws.{refused-accepted, accepted-same, row_pass, row_passed, same_stop, result-says, was_ok, was_err, ok-err}
use Rattle.laws.proofs.ByteLaws.{past_same}
use Rattle.shape.specs.declared.Shape.{Shape}
use Rattle.shape.specs.Shapes.{cards_of, places_of, is_sound}
use Rattle.shape.proofs.ShapeLaws.{sound-shape}
use Rattle.network_run.proofs.BelowLaws.{grade-below}
use Rattle.network_visits.specs.Visiting.{VisitedEach}
use Rattle.network.specs.Evaluating.{GradeAt}
use Rattle.network.specs.EvaluatingEach.{grades_after, each_rows, EvaluatedEach}
use Rattle.network.proofs.EvaluateLaws.{network-grade}

-- with no number there is no byte
none_after : (f : ℕ → ℕ) (visits grades : List ℕ) → length visits ≡ 0 → (v : Verdict (List ℕ)) → ((bytes : List ℕ) → v ≡ accepted bytes → map f visits ≡ bytes) → grades_after v grades ≡ grades
none_after f [] grades e (accepted bytes) is = sym (ap (λ (b : List ℕ). b ++ drop (length b) grades) (is bytes refl))
none_after f (x ∷ visits) grades e (accepted bytes) is = absurd (omega arith)
none_after f visits grades e (refused r) is = refl

-- a byte says what the row of the cell number does
byte-says : (b : Bool) (q : ℕ) → q < no_cell_byte → unless b CellNumber (accepted q) ≡ byte_verdict (pick b q no_cell_byte)
byte-says true q h = sym (row_pass CellNumber (accepted q) (lt-ltb q no_cell_byte h))
byte-says false q h = refl

module _ (shape : Shape) (net visits grades work : List ℕ) where
  abbrev ks : List ℕ
  ks = places_of shape

  abbrev rows : Verdict (List ℕ)
  rows = each_rows net visits grades work shape

  abbrev single : ℕ → ℕ → Verdict ℕ
  single w cell = evaluate_call shape.n (cards_of shape) shape.m net w cell

  -- an accepted call
  module _ {bytes : List ℕ} (e : rows ≡ accepted bytes) where
    sound : is_sound shape ≡ true
    sound = (row_passed (is_sound shape) ShapeRange _ e).0

    roomy : unless (network_sound ks shape.m net) Network (accepted (map (visit_byte ks net) visits)) ≡ accepted bytes
    roomy = (row_passed (leb (length net / 16) (length work) && leb (length visits) (length grades)) ShortBuffer _ (row_passed (is_sound shape) ShapeRange _ e).1).1

    network : network_sound ks shape.m net ≡ true
    network = (row_passed (network_sound ks shape.m net) Network _ roomy).0

    bytes_are : map (visit_byte ks net) visits ≡ bytes
    bytes_are = accepted-same (row_passed (network_sound ks shape.m net) Network _ roomy).1

    pub each-capped : Capped ks net
    each-capped = sound-capped ks shape.m net (passes network)

    module _ (i : ℕ) (h : i < length visits) where
      at_place : at (grades_after rows grades) i ≡ visit_byte ks net (at visits i)
      at_place =
          ap (λ (v : Verdict (List ℕ)). at (grades_after v grades) i) (e ∙ ap accepted (sym bytes_are))
          ∙ get_or-append (map (visit_byte ks net) visits) (drop (length (map (visit_byte ks net) visits)) grades) 0 i (omega (arith, length-map visits (visit_byte ks net)))
          ∙ at_map (visit_byte ks net) visits i h

      pub each-grade : at visits i < cells ks → GradeAt shape net (at visits i) (at (grades_after rows grades) i)
      each-grade l = network-grade sound network (at_place ∙ ap (λ (b : Bool). pick b (evaluate ks net (at visits i)) no_cell_byte) (lt-ltb (at visits i) (cells ks) l))

      pub each-single : (w : ℕ) → length net / 16 ≤ w → single w (at visits i) ≡ byte_verdict (at (grades_after rows grades) i)
      each-single w room =
          let low : evaluate ks net (at visits i) < no_cell_byte =
          omega (arith, grade-below shape net sound network (at visits i), (sound-shape shape sound).grades-few) in
          row_pass ShapeRange _ sound ∙ row_pass ShortBuffer _ (le-leb (length net / 16) w room) ∙ row_pass Network _ network
          ∙ byte-says (ltb (at visits i) (cells ks)) (evaluate ks net (at visits i)) low ∙ ap byte_verdict (sym at_place)

  -- a refused one, with room for the bytes
  pub stops-single : {r : Refusal} → rows ≡ refused r → length visits ≤ length grades → (cell : ℕ) → single (length work) cell ≡ refused r
  stops-single e room cell =
      let work-room : Bool = leb (length net / 16) (length work) in
      let same : (work-room && leb (length visits) (length grades)) ≡ work-room = ap (λ (b : Bool). work-room && b) (le-leb (length visits) (length grades) room) ∙ sym (and_true work-room) in
      same_stop (is_sound shape) ShapeRange
      (λ u.
      same_stop work-room ShortBuffer (same_stop (network_sound ks shape.m net) Network (λ z. refused-accepted (sym z)))
      (ap (λ (b : Bool). unless b ShortBuffer (unless (network_sound ks shape.m net) Network (accepted (map (visit_byte ks net) visits)))) (sym same) ∙ u))
      e

  -- the promise, of an answer by the rows
  each_by_rows : {r : Result (Unit {0}) Refusal} {grades' work' : List ℕ} → r ≡ outcome_of rows → grades' ≡ grades_after rows grades → ((q : Refusal) → r ≡ Err q → work' ≡ work)
      → (length visits ≡ 0 → work' ≡ work) → Past (length net / 16) work work' → EvaluatedEach shape net visits grades work r grades' work'
  each_by_rows e after keeps none kept =
      record {
        answer = e;
        means = ap outcome_means e ∙ result-says (λ b. tt) (λ u. []) rows;
        grades-after = after;
        grade-means = λ a i h l. subst (λ (g : List ℕ). GradeAt shape net (at visits i) (at g i)) (sym after) (each-grade (was_ok (λ b. tt) rows (sym a ∙ e)).1 i h l);
        capped = λ a. each-capped (was_ok (λ b. tt) rows (sym a ∙ e)).1;
        as_single = λ a i h w w' s room found.
            found.answers ∙ each-single (was_ok (λ b. tt) rows (sym a ∙ e)).1 i h (length w) room ∙ ap (λ (g : List ℕ). byte_verdict (at g i)) (sym after);
        stops_as_single = λ q a room cell w' s found. found.answers ∙ stops-single (was_err (λ b. tt) rows (sym a ∙ e)) room cell;
        refusal_keeps = keeps;
        none-keeps = λ h. (after ∙ none_after (visit_byte ks net) visits grades h rows (λ bytes u. bytes_are u), none h);
        kept = kept;
      }

  pub each-stops : {r : Refusal} → rows ≡ refused r → EvaluatedEach shape net visits grades work (Err r) grades work
  each-stops e =
      each_by_rows (sym (ap outcome_of e)) (sym (ap (λ (v : Verdict (List ℕ)). grades_after v grades) e)) (λ q h. refl) (λ h. refl) past_same

  pub each-answers : rows ≡ accepted (map (visit_byte ks net) visits) → {grades' work' : List ℕ} → VisitedEach shape net visits grades work grades' work'
      → EvaluatedEach shape net visits grades work (Ok tt) grades' work'
  each-answers e found =
      each_by_rows (sym (ap outcome_of e))
      (found.bytes ∙ ap (λ (n : ℕ). map (visit_byte ks net) visits ++ drop n grades) (sym (length-map visits (visit_byte ks net))) ∙ sym (ap (λ (v : Verdict (List ℕ)). grades_after v grades) e))
      (λ q h. ok-err h) found.none-keeps found.kept
