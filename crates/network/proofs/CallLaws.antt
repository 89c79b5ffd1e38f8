-- The calls' answers, row by row.
use Prim.Native.Nat.{ℕ, ◌/◌, ◌≤◌}
use mathlib.Core.Path.{◌≡◌, refl, sym, ◌∙◌, ap, ap₂}
use mathlib.Core.Bool.{Bool, true, ◌&&◌}
use mathlib.Core.List.{List, [], ◌∷◌}
use Rattle.std.specs.Prelude.{Ok, Err}
use lib.Dec.{leb, leb→le}
use lib.ListN.{length}
use Rattle.rules.specs.declared.Refusal.{Refusal}
use Rattle.rules.specs.declared.Refusal.TheVariants.{ShapeRange, GradeLimits, ShortBuffer, Network}
use Rattle.rules.specs.Cell.{cells}
use Rattle.rules.specs.Limits.{limits_of, limits_sound}
use Rattle.rules.specs.Verdict.{Verdict, accepted, refused, unless, and_then, outcome_of, roomy}
use Rattle.rules.specs.Network.{network_sound}
use Rattle.rules.specs.NetworkCalls.{check_from}
use Rattle.shape.specs.declared.Shape.{Shape}
use Rattle.shape.specs.Shapes.{places_of, is_sound}
use Rattle.laws.proofs.TestLaws.{and_l, and_r, and_true, passes}
use Rattle.laws.proofs.VerdictLaws.{row_passed, below_rows, was_ok, was_err}
use Rattle.network.specs.Evaluating.{judged}
use Rattle.network.specs.Checking.{check_rows}

-- a row whose test is known, above rows that are
row : {A : Type 0} (r : Refusal) (a a' : Bool) (v v' : Verdict A) → a ≡ a' → v ≡ v' → unless a r v ≡ unless a' r v'
row r a a' v v' p q = ap₂ (λ (b : Bool) (u : Verdict _). unless b r u) p q

module _ (shape : Shape) (net : List ℕ) where
  -- the tests of the work buffer, and of the network
  abbrev pub room_test : List ℕ → Bool
  room_test work = leb (length net / 16) (length work)

  abbrev pub network_test : Bool
  network_test = network_sound (places_of shape) shape.m net

  -- what a scan of the network with the shape's places answers is that test
  pub network_tested : {ks : List ℕ} {r b : Bool} → ks ≡ places_of shape → r ≡ network_sound ks shape.m net → r ≡ b → network_test ≡ b
  network_tested p s e = ap (λ (ks : List ℕ). network_sound ks shape.m net) (sym p) ∙ sym s ∙ e

  module _ (room : Bool) where
    -- a call that begins as `judged` does: it stops there, or goes on below
    pub judged-stops : {A : Type 0} (v : Verdict A) {q : Refusal} → Err q ≡ outcome_of (judged shape net room)
        → unless (is_sound shape) ShapeRange (unless room ShortBuffer (unless network_test Network v)) ≡ refused q
    judged-stops v e = below_rows (is_sound shape) room network_test ShapeRange ShortBuffer Network v ∙ ap (λ (w : Verdict (Unit {0})). and_then w (λ u. v)) (was_err (λ u. tt) (judged shape net room) e)

    pub judged-goes_on : {A : Type 0} (v : Verdict A) → Ok tt ≡ outcome_of (judged shape net room)
        → unless (is_sound shape) ShapeRange (unless room ShortBuffer (unless network_test Network v)) ≡ v
    judged-goes_on v e =
        below_rows (is_sound shape) room network_test ShapeRange ShortBuffer Network v ∙ ap (λ (w : Verdict (Unit {0})). and_then w (λ u. v)) (was_ok (λ u. tt) (judged shape net room) e).1

    -- and what it has then passed
    pub judged-passed : Ok tt ≡ outcome_of (judged shape net room) → (is_sound shape ≡ true) × (room ≡ true) × (network_test ≡ true)
    judged-passed e =
        let sound = row_passed (is_sound shape) ShapeRange _ (was_ok (λ u. tt) (judged shape net room) e).1 in
        let roomy = row_passed room ShortBuffer _ sound.1 in
        (sound.0, roomy.0, (row_passed network_test Network _ roomy.1).0)

  pub check_by : (lower upper work : List ℕ) (a b d f g : Bool) → is_sound shape ≡ a → roomy (cells (places_of shape)) (length lower ∷ length upper ∷ []) ≡ b → room_test work ≡ d
      → limits_sound (places_of shape) shape.m (limits_of lower upper) ≡ f → network_test ≡ g
      → check_rows shape net lower upper work
      ≡ unless a ShapeRange
      (unless (b && d) ShortBuffer
      (unless f GradeLimits
      (unless g Network (accepted (check_from (places_of shape) (limits_of lower upper) net 0 (cells (places_of shape)))))))
  check_by lower upper work a b d f g p q s t u =
      row ShapeRange _ a _ _ p
      (row ShortBuffer _ (b && d) _ _ (ap₂ (λ (x y : Bool). x && y) q s)
      (row GradeLimits _ f _ _ t
      (row Network _ g (accepted (check_from (places_of shape) (limits_of lower upper) net 0 (cells (places_of shape)))) _ u refl)))

-- two buffers with room
pub both_fit : {a b d e : ℕ} → (leb a b && leb d e) ≡ true → (a ≤ b) × (d ≤ e)
both_fit {a} {b} {d} {e} h = (leb→le a b (and_l (leb a b) (leb d e) (passes h)), leb→le d e (and_r (leb a b) (leb d e) (passes h)))

pub roomy-means : (n a b : ℕ) → roomy n (a ∷ b ∷ []) ≡ true → (n ≤ a) × (n ≤ b)
roomy-means n a b e = both_fit (ap (λ (x : Bool). leb n a && x) (and_true (leb n b)) ∙ e)
