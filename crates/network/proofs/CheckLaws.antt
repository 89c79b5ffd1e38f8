-- The search for the first cell outside its limits, and what it means that there is none.
use Prim.Native.Nat.{ℕ, zero, suc, ◌+◌, ◌-◌, ◌≤◌, ◌<◌, ◌/◌}
use mathlib.Core.Path.{◌≡◌, refl, sym, ◌∙◌, ap, subst}
use mathlib.Core.Bool.{Bool, true, false, cond, ◌&&◌}
use mathlib.Core.List.{List, [], ◌∷◌}
use native.Mathlib.Nat.{le_refl}
use native.Mathlib.Numerals.{add-one}
use native.Mathlib.Omega.{arith}
use Rattle.std.specs.Prelude.{Option, Some, None, Result, Ok, Err}
use lib.Dec.{T, leb, leb→le, le→leb}
use lib.ListN.{length}
use Rattle.rules.specs.declared.Refusal.{Refusal}
use Rattle.rules.specs.declared.Refusal.TheVariants.{ShapeRange, GradeLimits, ShortBuffer, Network}
use Rattle.rules.specs.Refusal.{refusal_number}
use Rattle.rules.specs.Bytes.{at, Past}
use Rattle.rules.specs.Cell.{cells}
use Rattle.rules.specs.Limits.{Limits, limits_of, limits_sound}
use Rattle.rules.specs.Verdict.{Verdict, accepted, unless, roomy, verdict_number, answer_of}
use Rattle.rules.specs.Network.{evaluate}
use Rattle.rules.specs.NetworkCalls.{grade_within, CheckResult, within, outside, check_from}
use Rattle.rules.specs.Demands.{Capped}
use Rattle.shape.specs.declared.Shape.{Shape}
use Rattle.shape.specs.Shapes.{places_of, is_sound}
use Rattle.laws.proofs.CeilingLaws.{sound-capped}
use Rattle.laws.proofs.TestLaws.{and_l, and_r, and_i, by_order, passed, passes}
use Rattle.laws.proofs.VerdictLaws.{refused-accepted, accepted-same, row_passed, outside-within, says-verdict}
use Rattle.network.specs.declared.Outside.{Outside}
use Rattle.network.specs.Checking.{result_found, check_verdict, check_rows, EveryWithin, Checked, result_values}
use Rattle.network.proofs.CallLaws.{network_test, room_test}

cond-within : (b : Bool) (x : CheckResult) (c q : ℕ) → cond b x (outside c q) ≡ within → T b × (x ≡ within)
cond-within true x c q e = (tt, e)
cond-within false x c q e = outside-within e

module _ (ks : List ℕ) (l : Limits) (net : List ℕ) where
  abbrev pub cell_within : ℕ → Bool
  cell_within c = grade_within l c (evaluate ks net c)

  -- one cell more, of n
  one_more : (c n : ℕ) (b : Bool) → c < n → cell_within c ≡ b → check_from ks l net c (n - c) ≡ cond b (check_from ks l net (c + 1) (n - (c + 1))) (outside c (evaluate ks net c))
  one_more c n b h e =
      let s : n - c ≡ suc (n - (c + 1)) = omega arith in
      ap (check_from ks l net c) s
      ∙ ap (λ (d : ℕ). cond (cell_within c) (check_from ks l net d (n - (c + 1))) (outside c (evaluate ks net c))) (sym (add-one c))
      ∙ ap (λ (q : Bool). cond q (check_from ks l net (c + 1) (n - (c + 1))) (outside c (evaluate ks net c))) e

  pub check_next : (c n : ℕ) → c < n → cell_within c ≡ true → check_from ks l net c (n - c) ≡ check_from ks l net (c + 1) (n - (c + 1))
  check_next c n = one_more c n true

  pub check_stop : (c n : ℕ) → c < n → cell_within c ≡ false → check_from ks l net c (n - c) ≡ outside c (evaluate ks net c)
  check_stop c n = one_more c n false

  pub check_end : (c n : ℕ) → n ≤ c → check_from ks l net c (n - c) ≡ within
  check_end c n h = let z : n - c ≡ 0 = omega arith in ap (check_from ks l net c) z

  -- nothing is found exactly when every cell is within
  check_means_lem : (n c : ℕ) → check_from ks l net c n ≡ within → (d : ℕ) → c ≤ d → d < c + n → T (cell_within d)
  check_means_lem zero c e d h g = absurd (omega arith)
  check_means_lem (suc n) c e d h g =
      let s = cond-within (cell_within c) (check_from ks l net (suc c) n) c (evaluate ks net c) e in
      by_order d c (λ le. let same : c ≡ d = omega arith in subst (λ (k : ℕ). T (cell_within k)) same s.0) (λ lt. check_means_lem n (suc c) s.1 d lt (omega arith))

  check_when : (n c : ℕ) → ((d : ℕ) → c ≤ d → d < c + n → T (cell_within d)) → check_from ks l net c n ≡ within
  check_when zero c h = refl
  check_when (suc n) c h =
      ap (λ (b : Bool). cond b (check_from ks l net (suc c) n) (outside c (evaluate ks net c))) (passed (cell_within c) (h c (le_refl c) (omega arith)))
      ∙ check_when n (suc c) (λ d a b. h d (omega arith) (omega arith))

unless-zero : {A : Type 0} (b : Bool) (q : Refusal) (v : Verdict A) → (refusal_number q ≡ 0 → ⊥) → verdict_number (unless b q v) ≡ 0 → unless b q v ≡ v
unless-zero true q v n e = refl
unless-zero false q v n e = absurd (n e)

answer-within : (answer : Result (Option Outside) Refusal) → check_verdict answer ≡ accepted within → answer ≡ Ok None
answer-within (Ok None) e = refl
answer-within (Ok (Some found)) e = outside-within (accepted-same e)
answer-within (Err r) e = refused-accepted e

module _ (shape : Shape) (net lower upper work : List ℕ) where
  abbrev found : CheckResult
  found = check_from (places_of shape) (limits_of lower upper) net 0 (cells (places_of shape))

  room : Bool
  room = roomy (cells (places_of shape)) (length lower ∷ length upper ∷ []) && room_test shape net work

  ordered : Bool
  ordered = limits_sound (places_of shape) shape.m (limits_of lower upper)

  -- what a call has passed that is accepted
  rows_passed : (x : CheckResult) → check_rows shape net lower upper work ≡ accepted x → (network_test shape net ≡ true) × (accepted found ≡ accepted x)
  unfolding room ordered
  rows_passed x e =
      let network-row : Verdict CheckResult = unless (network_test shape net) Network (accepted found) in
      let limits-row : Verdict CheckResult = unless ordered GradeLimits network-row in
      let a = row_passed (is_sound shape) ShapeRange (unless room ShortBuffer limits-row) e in
      let b = row_passed room ShortBuffer limits-row a.1 in
      let d = row_passed ordered GradeLimits network-row b.1 in
      row_passed (network_test shape net) Network (accepted found) d.1

  pub check_capped : (x : CheckResult) → check_rows shape net lower upper work ≡ accepted x → Capped (places_of shape) net
  check_capped x e = sound-capped (places_of shape) shape.m net (passes (rows_passed x e).0)

  rows_accept : verdict_number (check_rows shape net lower upper work) ≡ 0 → check_rows shape net lower upper work ≡ accepted found
  unfolding room ordered
  rows_accept e =
      let network-row : Verdict CheckResult = unless (network_test shape net) Network (accepted found) in
      let limits-row : Verdict CheckResult = unless ordered GradeLimits network-row in
      let room_row : Verdict CheckResult = unless room ShortBuffer limits-row in
      let a : unless (is_sound shape) ShapeRange room_row ≡ room_row = unless-zero (is_sound shape) ShapeRange room_row (λ q. omega arith) e in
      let b : room_row ≡ limits-row = unless-zero room ShortBuffer limits-row (λ q. omega arith) (sym (ap verdict_number a) ∙ e) in
      let d : limits-row ≡ network-row = unless-zero ordered GradeLimits network-row (λ q. omega arith) (sym (ap verdict_number (a ∙ b)) ∙ e) in
      let f : network-row ≡ accepted found = unless-zero (network_test shape net) Network (accepted found) (λ q. omega arith) (sym (ap verdict_number (a ∙ b ∙ d)) ∙ e) in
      a ∙ b ∙ d ∙ f

  every : found ≡ within → EveryWithin shape net lower upper
  every e c h =
      let t = check_means_lem (places_of shape) (limits_of lower upper) net (cells (places_of shape)) 0 e c (omega arith) (omega arith) in
      let q = evaluate (places_of shape) net c in
      (leb→le (at lower c) q (and_l (leb (at lower c) q) (leb q (at upper c)) t), leb→le q (at upper c) (and_r (leb (at lower c) q) (leb q (at upper c)) t))

  none-outside : EveryWithin shape net lower upper → found ≡ within
  none-outside h =
      check_when (places_of shape) (limits_of lower upper) net (cells (places_of shape)) 0
      (λ c a b.
      let q = evaluate (places_of shape) net c in
      let p = h c (omega arith) in
      and_i (leb (at lower c) q) (leb q (at upper c)) (le→leb (at lower c) q p.0) (le→leb q (at upper c) p.1))

  -- the plain words follow from the answer
  pub checked : (after : List ℕ) (answer : Result (Option Outside) Refusal) → ((r : Refusal) → answer ≡ Err r → after ≡ work) → Past (length net / 16) work after
      → check_verdict answer ≡ check_rows shape net lower upper work → Checked shape net lower upper work after answer
  checked after answer keeps kept e =
      record {
        answers = e;
        means = says-verdict result_found result_values answer ∙ ap (answer_of result_values) e;
        refusal_keeps = keeps;
        kept = kept;
        within-means = λ w.
            let rows : check_rows shape net lower upper work ≡ accepted within = sym e ∙ ap check_verdict w in
            (ap verdict_number rows, every (accepted-same (rows_passed within rows).1));
        within_when = λ z h. answer-within answer (e ∙ rows_accept z ∙ ap accepted (none-outside h));
        capped = λ z. check_capped found (rows_accept z);
      }
