-- The promise of a forecast, from what the rows and the stages say; and what a caller may take for granted of it.
use Prim.Native.Nat.{ℕ, ◌-◌, ◌*◌, ◌≤◌, ◌<◌}
use mathlib.Core.Path.{◌≡◌, refl, sym, ◌∙◌, ap, ap₂, subst}
use mathlib.Core.List.{List, [], ◌∷◌}
use native.Mathlib.Omega.{arith}
use lib.Dec.{T, eqb}
use lib.ListN.{length}
use Rattle.std.specs.Prelude.{Result, Ok, Err}
use Rattle.rules.specs.declared.Refusal.{Refusal}
use Rattle.rules.specs.declared.Refusal.TheVariants.{ShapeRange, ShortBuffer, GradeLimits}
use Rattle.rules.specs.declared.Settings.{Settings}
use Rattle.rules.specs.Settings.{usual}
use Rattle.rules.specs.Cell.{cells}
use Rattle.rules.specs.Limits.{limits_sound}
use Rattle.rules.specs.Verdict.{Verdict, accepted, refused, and_then, result_of, outcome_of, says}
use Rattle.rules.specs.Network.{Record, network_records}
use Rattle.rules.specs.Stage.{compiled}
use Rattle.rules.specs.Demands.{compiled_records}
use Rattle.rules.specs.CompileCall.{most_records, table_room, lent_limits}
use Rattle.rules.specs.Forecast.{Forecast, network_depth, forecast_of, Foretold}
use Rattle.laws.proofs.ByteLaws.{past_same}
use Rattle.laws.proofs.CompiledLaws.{few-compiled}
use Rattle.laws.proofs.DepthLaws.{tree-depth, depth-size, foretold}
use Rattle.laws.proofs.TestLaws.{pick_ok, passed}
use Rattle.laws.proofs.TreeLaws.{length-records}
use Rattle.laws.proofs.VerdictLaws.{accepted-same, row_passed, result-says, ok-err, ok_same, was_err}
use Rattle.shape.specs.declared.Shape.{Shape}
use Rattle.shape.specs.Shapes.{cards_of, places_of, is_sound}
use Rattle.stage_steps.specs.declared.gates.Extent.{Extent}
use Rattle.compile.specs.declared.Figures.{Figures}
use Rattle.compile.specs.Compiling.{table_rows, compile_rows, Accepted, Recorded}
use Rattle.compile.specs.Forecasting.{figures_of, forecast_rows, Foretells, Forecasts}
use Rattle.compile.proofs.CountLaws.{was_accepted, accepted-records}
use Rattle.compile.proofs.RowLaws.{Passed, table, judged-same, cells-between}

-- the room for the largest table's network is enough for every table's
most-largest : (c : ℕ) → c ≤ 1024 → most_records c ≤ most_records 1024
most-largest c h = pick_ok (λ (q : ℕ). q ≤ most_records 1024) (eqb c 1) 1 (3 * c - 5) (λ t. omega arith) (λ n. omega arith)

module _ (how : Settings) (shape : Shape) (lower upper work : List ℕ) {network : ℕ} (longest : network ≡ 16 * most_records 1024) where
  enough : T (is_sound shape) → 16 * most_records (cells (places_of shape)) ≤ network
  enough h =
      let c = cells-between shape (cells (places_of shape)) refl (passed (is_sound shape) h) in
      let m = most-largest (cells (places_of shape)) c.1 in
      omega arith

  abbrev rs : List Record
  rs = compiled_records how (places_of shape) shape.m (lent_limits (places_of shape) lower upper)

  -- the rows of a table whose network has room
  abbrev rows : Verdict (List Record)
  rows = table_rows how shape lower upper (length work) network

  alike : Foretold how shape.n (cards_of shape) shape.m (length lower) (length upper) (length work) (lent_limits (places_of shape) lower upper)
  alike = foretold how shape.n (cards_of shape) shape.m (length lower) (length upper) (length work) (lent_limits (places_of shape) lower upper)

  told : forecast_rows how shape lower upper work ≡ and_then rows (λ xs. accepted (forecast_of xs))
  told = alike network enough

  -- a refusal
  pub forecast_stops : {j : Result (Unit {0}) Refusal} {a : Result Figures Refusal} {r : Refusal} → j ≡ outcome_of (table_rows usual shape lower upper (length work) network) → j ≡ Err r → a ≡ Err r
      → Forecasts how shape lower upper work a work
  forecast_stops {r = r} is h k =
      let stopped = was_err (λ xs. tt) rows (sym h ∙ is ∙ judged-same usual how shape lower upper (length work) network) in
      let e : forecast_rows how shape lower upper work ≡ refused r = told ∙ ap (λ (v : Verdict (List Record)). and_then v (λ xs. accepted (forecast_of xs))) stopped in
      let answer = k ∙ sym (ap (λ (v : Verdict Forecast). result_of figures_of v) e) in
      record {
        answers = answer;
        means = ap (says (λ g. g.records ∷ g.depth ∷ [])) answer ∙ result-says figures_of (λ g. g.records ∷ g.depth ∷ []) (forecast_rows how shape lower upper work);
        stops = alike;
        foretells = λ told q. ok-err (sym q ∙ k);
        refusal_keeps = λ q h. refl;
        kept = past_same;
      }

  -- the figures of the table's records are those of the bytes that a compile has left
  foretells_by : {records depth : ℕ} → records ≡ length rs → depth ≡ network_depth rs → Foretells how shape lower upper records depth
  foretells_by e d work₁ net work₂ net' n c =
      let v = was_accepted (compile_rows how shape lower upper work₁ net) c.answers in
      let same = accepted-records how shape.n shape.m (length lower) (length upper) (length work₁) (length net) (cards_of shape) (lent_limits (places_of shape) lower upper) v.1 in
      let k = c.keeps-table n refl in (
        e ∙ ap length same ∙ sym v.2,
        d ∙ ap network_depth (sym (ap (network_records (places_of shape)) k.bytes ∙ k.compiled.reads)),
      )

  -- figures
  pub forecast_tells : Passed shape lower upper (length work) network → {net : List ℕ} {of : Extent} {work' net' : List ℕ}
      → Recorded how shape lower upper work net of work' net' → Forecasts how shape lower upper work (Ok (record { records = of.next; depth = of.depth })) work'
  forecast_tells ok {of = of} w =
      let figures : Figures = record { records = of.next; depth = of.depth } in
      let e : forecast_rows how shape lower upper work ≡ accepted (forecast_of rs) = told ∙ ap (λ (v : Verdict (List Record)). and_then v (λ xs. accepted (forecast_of xs))) (ok.rows how) in
      let answer : ◌≡◌ {A = Result Figures Refusal} (Ok figures) (result_of figures_of (forecast_rows how shape lower upper work)) =
      ap₂ (λ (n d : ℕ). Ok (record { records = n; depth = d })) w.count w.depth ∙ sym (ap (λ (v : Verdict Forecast). result_of figures_of v) e) in
      record {
        answers = answer;
        means = ap (says (λ g. g.records ∷ g.depth ∷ [])) answer ∙ result-says figures_of (λ g. g.records ∷ g.depth ∷ []) (forecast_rows how shape lower upper work);
        stops = alike;
        foretells = λ told q.
            let same : figures ≡ told = ok_same q in
            foretells_by (sym (ap (λ (g : Figures). g.records) same) ∙ w.count) (sym (ap (λ (g : Figures). g.depth) same) ∙ w.depth);
        refusal_keeps = λ q k. ok-err k;
        kept = w.kept;
      }

-- settings that are known
pub forecasts_as : {a b : Settings} {shape : Shape} {lower upper work : List ℕ} {answer : Result Figures Refusal} {work' : List ℕ} → a ≡ b
    → Forecasts a shape lower upper work answer work' → Forecasts b shape lower upper work answer work'
forecasts_as {shape = shape} {lower} {upper} {work} {answer} {work'} e c = subst (λ (how : Settings). Forecasts how shape lower upper work answer work') e c

-- the verdict behind an answer
pub was_told : (v : Verdict Forecast) {g : Figures} → Ok g ≡ result_of figures_of v → (f : Forecast) × (v ≡ accepted f) × (g.records ≡ f.count) × (g.depth ≡ f.depth)
was_told (accepted f) e = let same = ok_same e in (f, refl, ap (λ (g : Figures). g.records) same, ap (λ (g : Figures). g.depth) same)
was_told (refused q) e = ok-err e

-- what the figures are, and that they are few
pub record Told (how : Settings) (shape : Shape) (lower upper : List ℕ) (n d : ℕ) : Type 0 where
  pub count : n ≡ length (compiled_records how (places_of shape) shape.m (lent_limits (places_of shape) lower upper))
  pub depth : d ≡ network_depth (compiled_records how (places_of shape) shape.m (lent_limits (places_of shape) lower upper))
  pub few : n ≤ 3067
  pub below : d < n

pub told_figures : {how : Settings} {shape : Shape} {lower upper work : List ℕ} {answer : Result Figures Refusal} {work' : List ℕ} → Forecasts how shape lower upper work answer work' → (g : Figures) → answer ≡ Ok g
    → Told how shape lower upper g.records g.depth
told_figures {how} {shape} {lower} {upper} {work} c g e =
    let ks = places_of shape in
    let l = lent_limits (places_of shape) lower upper in
    let tree = compiled how ks shape.m l in
    let v = was_told (forecast_rows how shape lower upper work) (sym e ∙ c.answers) in
    let a = row_passed (is_sound shape) ShapeRange _ v.1 in
    let b = row_passed (table_room (cells ks) (length lower) (length upper) (length work)) ShortBuffer _ a.1 in
    let t = row_passed (limits_sound ks shape.m l) GradeLimits _ b.1 in
    let same : v.0 ≡ forecast_of (compiled_records how ks shape.m l) = sym (accepted-same t.1) in
    let ok : Accepted shape lower upper (length work) = record { shape-sound = a.0; room = b.0; limits-sound = t.0 } in
    let count : g.records ≡ length (compiled_records how ks shape.m l) = v.2 ∙ ap (λ (f : Forecast). f.count) same in
    let depth : g.depth ≡ network_depth (compiled_records how ks shape.m l) = v.3 ∙ ap (λ (f : Forecast). f.depth) same in
    record {
      count = count;
      depth = depth;
      few = omega (arith, count, few-compiled how (table shape lower upper ok));
      below = omega (arith, count, depth, tree-depth tree, depth-size tree, length-records tree 0);
    }
