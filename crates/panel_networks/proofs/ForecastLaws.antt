-- The promise of `grades_forecast`, from what the parts of the call answer.
use Prim.Native.Nat.{ℕ, ◌+◌, ◌≤◌, ◌<◌}
use mathlib.Core.Path.{◌≡◌, refl, sym, ap, subst, ◌∙◌}
use mathlib.Core.List.{List}
use native.Mathlib.Omega.{arith}
use borrow.Author.Tests.{le-leb, lt-leb}
use lib.ListN.{length}
use Rattle.std.specs.Prelude.{Result, Ok, Err}
use Rattle.rules.specs.declared.Refusal.{Refusal}
use Rattle.rules.specs.declared.Refusal.TheVariants.{ShapeRange, ShortBuffer}
use Rattle.rules.specs.declared.Settings.{Settings}
use Rattle.rules.specs.Bytes.{word}
use Rattle.rules.specs.Refusal.{refusal_number}
use Rattle.rules.specs.Verdict.{Verdict, accepted, refused}
use Rattle.rules.specs.Network.{Record, network_records}
use Rattle.rules.specs.Demands.{compiled_records}
use Rattle.rules.specs.CompileCall.{lent_limits}
use Rattle.rules.specs.Forecast.{Forecast, network_depth}
use Rattle.laws.proofs.ByteLaws.{past_same}
use Rattle.laws.proofs.VerdictLaws.{row_pass, row_stop, was_err}
use Rattle.shape.specs.declared.Shape.{Shape}
use Rattle.shape.specs.Shapes.{cards_of, places_of, shape_of_bytes}
use Rattle.compile.specs.declared.Figures.{Figures}
use Rattle.compile.specs.Compiling.{written, compile_rows}
use Rattle.compile.specs.Forecasting as forecasting
use Rattle.compile.specs.Forecasting.{figures_of, forecast_rows}
use Rattle.compile.proofs.CountLaws.{accepted-records}
use Rattle.compile.proofs.ForecastLaws.{was_told, told_figures}
use Rattle.panel_answers.specs.Answers.{lent_shape, lent, call_number}
use Rattle.panel_answers.proofs.ShapeLaws.{Made, called, lent-accepted, ten_lent, lent-refused}
use Rattle.panel_networks.specs.Compiles.{Compiles}
use Rattle.panel_networks.specs.Forecasts.{depth_rows, with_word, depth_after, Forecasts}

-- a number read from its two bytes
word_back : (n : ℕ) (buffer : List ℕ) → word (with_word n buffer) 0 ≡ n
word_back n buffer = omega arith

module _ (how : Settings) (bytes lower upper : List ℕ) where
  abbrev shape : Shape
  shape = lent_shape bytes

  abbrev rs : List Record
  rs = compiled_records how (places_of shape) shape.m (lent_limits (places_of shape) lower upper)

  -- what a compile has written: the table's records, as its bytes are read
  compiled_as : {work network : List ℕ} {n : ℕ} {work' network' : List ℕ} → Compiles how bytes lower upper work network n work' network' → n < 65536
      → (length rs ≡ n) × (rs ≡ network_records (places_of shape) (written n network'))
  compiled_as {work} {network} {n} c h =
      let rows : Shape → Verdict (List Record) = λ s. compile_rows how s lower upper work network in
      let v = called (lent bytes rows) length (subst (λ (k : ℕ). k < 65536) c.answer h) in
      let l = lent-accepted bytes rows v.1 in
      let same = accepted-records how shape.n shape.m (length lower) (length upper) (length work) (length network) (cards_of shape) (lent_limits (places_of shape) lower upper) l.1 in
      let k = c.keeps-table h in (
        ap length same ∙ sym (c.answer ∙ ap (λ (v : Verdict (List Record)). call_number v length) v.1),
        sym (ap (network_records (places_of shape)) k.bytes ∙ k.compiled.reads),
      )

  module _ (work depth : List ℕ) (r : ℕ) where
    abbrev rows : Shape → Verdict Forecast
    rows = depth_rows how lower upper work depth

    -- a refusal
    refuses_by : {q : Refusal} → lent bytes rows ≡ refused q → r ≡ 65536 + refusal_number q → Forecasts how bytes lower upper work depth r work depth
    refuses_by {q} e number =
        record {
          answer = number ∙ sym (ap (λ (v : Verdict Forecast). call_number v (λ f. f.count)) e);
          depth-after = sym (ap (λ (v : Verdict Forecast). depth_after v depth) e);
          foretells = λ h. absurd (omega arith);
          refusal_keeps = λ h. refl;
          kept = past_same;
        }

    pub forecast_refuses : (q : Refusal) → shape_of_bytes bytes ≡ refused q → r ≡ 65536 + refusal_number q → Forecasts how bytes lower upper work depth r work depth
    forecast_refuses q e = refuses_by (lent-refused bytes e rows (λ y u. rw u))

    module _ {x : Shape} (made : Made bytes x) where
      -- the depth's buffer is too short
      pub short-refuses : length depth < 2 → r ≡ 65536 + refusal_number ShortBuffer → Forecasts how bytes lower upper work depth r work depth
      short-refuses h = refuses_by (ten_lent bytes rows made.ten ∙ row_pass ShapeRange _ made.sound ∙ row_stop ShortBuffer _ (lt-leb 2 (length depth) h))

      module _ (long : 2 ≤ length depth) {a : Result Figures Refusal} {work' : List ℕ} (found : forecasting.Forecasts how x lower upper work a work') where
        same_rows : lent bytes rows ≡ forecast_rows how shape lower upper work
        same_rows = ten_lent bytes rows made.ten ∙ row_pass ShapeRange _ made.sound ∙ row_pass ShortBuffer _ (le-leb 2 (length depth) long)

        here : forecasting.Forecasts how shape lower upper work a work'
        here = subst (λ (y : Shape). forecasting.Forecasts how y lower upper work a work') made.same found

        pub told_refuses : (q : Refusal) → a ≡ Err q → r ≡ 65536 + refusal_number q → Forecasts how bytes lower upper work depth r work' depth
        told_refuses q e number =
            subst (λ (w : List ℕ). Forecasts how bytes lower upper work depth r w depth) (sym (here.refusal_keeps q e))
            (refuses_by (same_rows ∙ was_err figures_of (forecast_rows how shape lower upper work) (sym e ∙ here.answers)) number)

        module _ (g : Figures) (e : a ≡ Ok g) where
          pub few : (g.records ≤ 3067) × (g.depth < g.records)
          few = let t = told_figures here g e in (t.few, t.below)

          -- the two figures
          pub tells : {depth' : List ℕ} → depth' ≡ with_word g.depth depth → r ≡ g.records → Forecasts how bytes lower upper work depth r work' depth'
          tells {depth'} put number =
              let t = told_figures here g e in
              let v = was_told (forecast_rows how shape lower upper work) (sym e ∙ here.answers) in
              let verdict : lent bytes rows ≡ accepted v.0 = same_rows ∙ v.1 in
              let levels : word depth' 0 ≡ g.depth = ap (λ (b : List ℕ). word b 0) put ∙ word_back g.depth depth in
              record {
                answer = number ∙ v.2 ∙ sym (ap (λ (v : Verdict Forecast). call_number v (λ f. f.count)) verdict);
                depth-after = put ∙ ap (λ (k : ℕ). with_word k depth) v.3 ∙ sym (ap (λ (v : Verdict Forecast). depth_after v depth) verdict);
                foretells = λ h w net w' net' k c l.
                    let q = compiled_as c l in (number ∙ t.count ∙ q.0, levels ∙ t.depth ∙ ap network_depth q.1);
                refusal_keeps = λ h. absurd (omega (arith, t.few));
                kept = here.kept;
              }
