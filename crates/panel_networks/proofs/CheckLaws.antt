-- The promise of `grades_check`, from what the parts of the call answer.
use Prim.Native.Nat.{ℕ, ◌+◌, ◌-◌, ◌*◌, ◌/◌, ◌%◌, ◌≤◌, ◌<◌}
use mathlib.Core.Path.{◌≡◌, refl, sym, ap, subst, ◌∙◌}
use mathlib.Core.List.{List}
use native.Mathlib.Omega.{arith}
use Rattle.std.specs.Prelude.{Option, Some, None, Result, Ok, Err}
use Rattle.rules.specs.declared.Refusal.{Refusal}
use Rattle.rules.specs.Refusal.{refusal_number}
use Rattle.rules.specs.NetworkCalls.{CheckResult}
use Rattle.rules.specs.Demands.{Capped}
use Rattle.rules.specs.Verdict.{Verdict, refused, verdict_number}
use Rattle.shape.specs.declared.Shape.{Shape}
use Rattle.shape.specs.Shapes.{places_of, shape_of_bytes}
use Rattle.network.specs.declared.Outside as declared
use Rattle.network.specs.Checking.{result_found, check_verdict, check_rows, Checked}
use Rattle.network.proofs.CheckLaws.{check_capped}
use Rattle.panel_answers.specs.Answers.{lent_shape, lent, call_number, result_number, check_number, FewCells}
use Rattle.panel_networks.specs.Checks.{FirstOutside, Checks}
use Rattle.laws.proofs.RefusalLaws.{small}
use Rattle.laws.proofs.ByteLaws.{past_same}
use Rattle.panel_answers.proofs.OutcomeLaws.{reply-verdict}
use Rattle.panel_answers.proofs.ShapeLaws.{Made, called, lent-accepted, ten_lent, lent-refused}
use Rattle.panel_networks.proofs.OutsideLaws.{Outside, outside-is}

is_within : (a : Result (Option declared.Outside) Refusal) → check_number a ≡ 0 → a ≡ (Ok None)
is_within (Ok None) e = refl
is_within (Ok (Some found)) e = absurd (omega arith)
is_within (Err q) e = absurd (omega arith)

-- what `check` says of a cell outside
module _ {shape : Shape} {net lower upper work after : List ℕ} {a : Result (Option declared.Outside) Refusal} (f : Checked shape net lower upper work after a) where
  told : (found : declared.Outside) → a ≡ Ok (Some found) → Outside shape net lower upper found.cell found.grade
  told found e = outside-is shape net lower upper work found.cell found.grade (sym f.answers ∙ ap check_verdict e)

  pub few : FewCells a
  few found e = (told found e).cell-few

-- by its number an answer is a refusal, or a cell outside
module _ (shape : Shape) (net lower upper : List ℕ) where
  keeps : (a : Result (Option declared.Outside) Refusal) (work after : List ℕ) → ((found : declared.Outside) → a ≡ Ok (Some found) → Outside shape net lower upper found.cell found.grade)
      → ((q : Refusal) → a ≡ Err q → after ≡ work) → 65536 ≤ check_number a → after ≡ work
  keeps (Ok None) work after o k h = absurd (omega arith)
  keeps (Ok (Some found)) work after o k h = let x = o found refl in absurd (omega (arith, x.cell-few, x.grade-few))
  keeps (Err q) work after o k h = k q refl

  is-outside : (a : Result (Option declared.Outside) Refusal) → ((found : declared.Outside) → a ≡ Ok (Some found) → Outside shape net lower upper found.cell found.grade) → 1 ≤ check_number a → check_number a < 65536
      → FirstOutside shape net lower upper ((check_number a - 1) / 16) ((check_number a - 1) % 16)
  is-outside (Ok None) o low high = absurd (omega arith)
  is-outside (Ok (Some found)) o low high =
      let x = o found refl in
      let at-cell : found.cell ≡ (1 + 16 * found.cell + found.grade - 1) / 16 = omega (arith, x.grade-few) in
      let at-grade : found.grade ≡ (1 + 16 * found.cell + found.grade - 1) % 16 = omega (arith, x.grade-few) in
      subst (λ (g : ℕ). FirstOutside shape net lower upper ((1 + 16 * found.cell + found.grade - 1) / 16) g) at-grade (subst (λ (c : ℕ). FirstOutside shape net lower upper c found.grade) at-cell x.is)
  is-outside (Err q) o low high = absurd (omega arith)

module _ (net bytes lower upper work : List ℕ) (r : ℕ) where
  abbrev rows : Shape → Verdict CheckResult
  rows shape = check_rows shape net lower upper work

  capped : r ≡ call_number (lent bytes rows) result_number → r < 65536 → Capped (places_of (lent_shape bytes)) net
  capped e h =
      let v = called (lent bytes rows) result_number (omega arith) in
      check_capped (lent_shape bytes) net lower upper work v.0 (lent-accepted bytes rows v.1).1

  pub checks : (x : Shape) (a : Result (Option declared.Outside) Refusal) (after : List ℕ) → Made bytes x → Checked x net lower upper work after a → r ≡ check_number a → Checks net bytes lower upper work r after
  checks x a after made found number =
      let f : Checked (lent_shape bytes) net lower upper work after a = subst (λ (y : Shape). Checked y net lower upper work after a) made.same found in
      let same : rows (lent_shape bytes) ≡ lent bytes rows = sym (ten_lent bytes rows made.ten) in
      record {
        answer = number ∙ reply-verdict result_found result_number a ∙ ap (λ (v : Verdict CheckResult). call_number v result_number) (f.answers ∙ same);
        within-means = λ e. let w = f.within-means (is_within a (sym number ∙ e)) in (sym (ap verdict_number same) ∙ w.0, w.1);
        within_when = λ z h. number ∙ ap check_number (f.within_when (ap verdict_number same ∙ z) h);
        capped = λ h. capped (number ∙ reply-verdict result_found result_number a ∙ ap (λ (v : Verdict CheckResult). call_number v result_number) (f.answers ∙ same)) h;
        outside-means = λ low high.
            subst (λ (n : ℕ). FirstOutside (lent_shape bytes) net lower upper ((n - 1) / 16) ((n - 1) % 16)) (sym number)
            (is-outside (lent_shape bytes) net lower upper a (told f) (omega arith) (omega arith));
        refusal_keeps = λ h. keeps (lent_shape bytes) net lower upper a work after (told f) f.refusal_keeps (omega arith);
        kept = f.kept;
      }

  pub check_refuses : (q : Refusal) → shape_of_bytes bytes ≡ refused q → r ≡ 65536 + refusal_number q → Checks net bytes lower upper work r work
  check_refuses q e number =
      let same : refused q ≡ lent bytes rows = sym (lent-refused bytes e rows (λ y u. rw u)) in
      record {
        answer = number ∙ ap (λ (v : Verdict CheckResult). call_number v result_number) same;
        within-means = λ z. absurd (omega arith);
        within_when = λ z h. let n : refusal_number q ≡ 0 = ap verdict_number same ∙ z in absurd (omega (arith, (small q).0));
        capped = λ h. absurd (omega arith);
        outside-means = λ low high. absurd (omega arith);
        refusal_keeps = λ h. refl;
        kept = past_same;
      }
