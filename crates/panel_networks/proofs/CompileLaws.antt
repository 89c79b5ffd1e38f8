-- The promise of `grades_compile`, from what the parts of the call answer.
use Prim.Native.Nat.{ℕ, ◌+◌, ◌≤◌, ◌<◌}
use mathlib.Core.Path.{◌≡◌, refl, sym, ap, subst, ◌∙◌}
use mathlib.Core.List.{List}
use native.Mathlib.Omega.{arith}
use lib.ListN.{length}
use Rattle.std.specs.Prelude.{Result, Ok, Err}
use Rattle.rules.specs.declared.Refusal.{Refusal}
use Rattle.rules.specs.declared.Settings.{Settings}
use Rattle.rules.specs.Refusal.{refusal_number}
use Rattle.rules.specs.Network.{Record}
use Rattle.rules.specs.Verdict.{Verdict, refused}
use Rattle.laws.proofs.ByteLaws.{past_same}
use Rattle.shape.specs.declared.Shape.{Shape}
use Rattle.shape.specs.Shapes.{shape_of_bytes}
use Rattle.compile.specs.Compiling as compiling
use Rattle.compile.specs.Compiling.{compile_rows, network_after, KeepsTable}
use Rattle.compile.proofs.CountLaws.{few-records}
use Rattle.panel_answers.specs.Answers.{lent_shape, lent, call_number, compile_number, FewRecords}
use Rattle.panel_networks.specs.Compiles.{Compiles}
use Rattle.panel_answers.proofs.OutcomeLaws.{reply_number_lem}
use Rattle.panel_answers.proofs.ShapeLaws.{Made, ten_lent, lent-refused}

-- by its number an answer is a refusal, or a count
keeps : (a : Result ℕ Refusal) (work work' : List ℕ) → FewRecords a → ((q : Refusal) → a ≡ Err q → work' ≡ work) → 65536 ≤ compile_number a → work' ≡ work
keeps (Ok n) work work' few k h = absurd (omega (arith, few n refl))
keeps (Err q) work work' few k h = k q refl

is-count : (a : Result ℕ Refusal) → compile_number a < 65536 → a ≡ Ok (compile_number a)
is-count (Ok n) h = refl
is-count (Err q) h = absurd (omega arith)

pub few : {how : Settings} {shape : Shape} {lower upper work network : List ℕ} {a : Result ℕ Refusal} {work' network' : List ℕ} → compiling.Compiles how shape lower upper work network a work' network' → FewRecords a
few c n e = omega (arith, few-records c n e)

module _ (how : Settings) (bytes lower upper work network : List ℕ) (r : ℕ) where
  abbrev rows : Shape → Verdict (List Record)
  rows shape = compile_rows how shape lower upper work network

  pub compiles : (x : Shape) (a : Result ℕ Refusal) (work' network' : List ℕ) → Made bytes x → compiling.Compiles how x lower upper work network a work' network' → r ≡ compile_number a
      → Compiles how bytes lower upper work network r work' network'
  compiles x a work' network' made found number =
      let f : compiling.Compiles how (lent_shape bytes) lower upper work network a work' network' =
      subst (λ (y : Shape). compiling.Compiles how y lower upper work network a work' network') made.same found in
      let same : rows (lent_shape bytes) ≡ lent bytes rows = sym (ten_lent bytes rows made.ten) in
      record {
        answer = number ∙ ap compile_number f.answers ∙ reply_number_lem length (λ n. n) (rows (lent_shape bytes)) ∙ ap (λ (v : Verdict (List Record)). call_number v length) same;
        network-after = f.network-after ∙ ap (λ (v : Verdict (List Record)). network_after v network) same;
        refusal_keeps = λ h. keeps a work work' (few f) f.refusal_keeps (omega arith);
        kept = f.kept;
        keeps-table = λ h. subst (λ (n : ℕ). KeepsTable how (lent_shape bytes) lower upper n network') (sym number) (f.keeps-table (compile_number a) (is-count a (omega arith)));
      }

  pub compile_refuses : (q : Refusal) → shape_of_bytes bytes ≡ refused q → r ≡ 65536 + refusal_number q → Compiles how bytes lower upper work network r work network
  compile_refuses q e number =
      let same : refused q ≡ lent bytes rows = sym (lent-refused bytes e rows (λ y u. rw u)) in
      record {
        answer = number ∙ ap (λ (v : Verdict (List Record)). call_number v length) same;
        network-after = ap (λ (v : Verdict (List Record)). network_after v network) same;
        refusal_keeps = λ h. refl;
        kept = past_same;
        keeps-table = λ h. absurd (omega arith);
      }
