-- What the rows of a table let pass, and the promise of a compile that follows from what they say.
use Prim.Native.Nat.{ℕ, ◌-◌, ◌*◌, ◌≤◌, max}
use mathlib.Core.Path.{◌≡◌, refl, sym, ◌∙◌, ap, ap₂, subst}
use mathlib.Core.Bool.{Bool, true, false, ◌&&◌}
use mathlib.Core.List.{List, [], ◌∷◌}
use native.Mathlib.Omega.{arith}
use lib.Dec.{T, leb, leb→le, ltb, eqb, eqb→eq}
use lib.ListN.{length, take, drop}
use lib.Seq.{take_at, get_or-take}
use Rattle.std.specs.Prelude.{Result, Ok, Err}
use Rattle.rules.specs.declared.Refusal.{Refusal}
use Rattle.rules.specs.declared.Refusal.TheVariants.{ShapeRange, GradeLimits, ShortBuffer}
use Rattle.rules.specs.declared.Settings.{Settings}
use Rattle.rules.specs.Settings.{usual}
use Rattle.rules.specs.Bytes.{at, all}
use Rattle.rules.specs.Cell.{cells}
use Rattle.rules.specs.Limits.{Limits, limits_sound}
use Rattle.rules.specs.Verdict.{Verdict, accepted, refused, unless, result_of, outcome_of, says}
use Rattle.rules.specs.Network.{Record, network_bytes, network_sound, evaluate}
use Rattle.rules.specs.Demands.{Table, Between, compiled_records, Capped}
use Rattle.rules.specs.Tree.{size}
use Rattle.rules.specs.Stage.{compiled}
use Rattle.rules.specs.CompileCall.{most_records, table_room, compile_room, lent_limits}
use Rattle.laws.proofs.AcceptLaws.{places-positive, accepted-table}
use Rattle.laws.proofs.CellLaws.{cells_pos}
use Rattle.laws.proofs.ByteLaws.{length-network_bytes, past_same}
use Rattle.laws.proofs.CompiledLaws.{compiled-all}
use Rattle.laws.proofs.TableLaws.{all_same}
use Rattle.laws.proofs.TestLaws.{passes, passed, and_l, and_r, pick_ok, by_order}
use Rattle.laws.proofs.TreeLaws.{length-records}
use Rattle.laws.proofs.SizeLaws.{compiled-size}
use Rattle.laws.proofs.VerdictLaws.{row_passed, result-says, ok-err, ok_same, was_ok, was_err}
use Rattle.shape.specs.declared.Shape.{Shape}
use Rattle.shape.specs.Shapes.{cards_of, places_of, is_sound}
use Rattle.shape.proofs.ShapeLaws.{eight-cards, sound-shape}
use Rattle.stage_steps.specs.declared.gates.Extent.{Extent}
use Rattle.compile.specs.Compiling.{network_after, table_rows, compile_rows, KeepsTable, Compiles, Accepted, Recorded}

-- the most records are few, and as many as a table's network can have
pub most-few : (c : ℕ) → 1 ≤ c → most_records c ≤ 3 * c
most-few c h = pick_ok (λ (q : ℕ). q ≤ 3 * c) (eqb c 1) 1 (3 * c - 5) (λ t. omega arith) (λ n. omega arith)

most-is : (s c : ℕ) → 1 ≤ c → s ≤ max 1 (3 * c - 5) → s ≤ most_records c
most-is s c some h =
    pick_ok (λ (q : ℕ). s ≤ q) (eqb c 1) 1 (3 * c - 5) (λ t. let e = eqb→eq c 1 t in omega arith)
    (λ n. by_order c 1 (λ le. let e : 1 ≡ c = omega arith in absurd (n (subst (λ (k : ℕ). T (eqb k 1)) e tt))) (λ lt. omega arith))

records-most : (how : Settings) {ks : List ℕ} {m : ℕ} {l : Limits} → Table ks m l → length (compiled_records how ks m l) ≤ most_records (cells ks)
records-most how {ks} {m} {l} t =
    let h = most-is (size (compiled how ks m l)) (cells ks) (cells_pos ks t.positive) (compiled-size how ks m l t.positive) in
    let e = length-records (compiled how ks m l) 0 in
    omega arith

-- row 5 reads the limits of the table's cells only
pub limits-row : (ks lower upper : List ℕ) (m : ℕ)
    → all (cells ks) (λ c. leb (at lower c) (at upper c) && ltb (at upper c) m) ≡ limits_sound ks m (lent_limits ks lower upper)
limits-row ks lower upper m =
    all_same (cells ks) _ _
    (λ c h. ap₂ (λ (x y : ℕ). leb x y && ltb y m) (sym (get_or-take (cells ks) lower c 0 h)) (sym (get_or-take (cells ks) upper c 0 h)))

-- the cells of a shape that row 4 lets pass
pub cells-between : (shape : Shape) (n : ℕ) → n ≡ cells (places_of shape) → is_sound shape ≡ true → (1 ≤ n) × (n ≤ 1024)
cells-between shape n e h = (
  omega (arith, cells_pos (places_of shape) (places-positive (cards_of shape))),
  omega (arith, (sound-shape shape h).cells-few),
)

module _ (shape : Shape) (lower upper : List ℕ) (work network : ℕ) where
  abbrev ks : List ℕ
  ks = places_of shape

  abbrev l : Limits
  l = lent_limits ks lower upper

  abbrev rs : List Record
  rs = compiled_records usual ks shape.m l

  -- the rows as a function tests them, by the number of cells that it reads off the shape
  pub judged : {n : ℕ} {r : Result (Unit {0}) Refusal} → n ≡ cells ks
      → r
      ≡ outcome_of
      (unless (is_sound shape) ShapeRange
      (unless (compile_room n (length lower) (length upper) work network) ShortBuffer
      (unless (all n (λ c. leb (at lower c) (at upper c) && ltb (at upper c) shape.m)) GradeLimits (accepted rs))))
      → r ≡ outcome_of (table_rows usual shape lower upper work network)
  judged e h = let i = limits-row ks lower upper shape.m in cc

  -- a table that no row stops
  pub record Passed : Type 0 where
    pub table : Accepted shape lower upper work
    pub network-room : 16 * most_records (cells ks) ≤ network
    pub rows : (how : Settings) → table_rows how shape lower upper work network ≡ accepted (compiled_records how ks shape.m l)

  pub sound_passes : {r : Result (Unit {0}) Refusal} {u : Unit {0}} → r ≡ outcome_of (table_rows usual shape lower upper work network) → r ≡ Ok u → Passed
  sound_passes is e =
      let v = was_ok (λ xs. tt) (table_rows usual shape lower upper work network) (sym e ∙ is) in
      let a = row_passed (is_sound shape) ShapeRange _ v.1 in
      let b = row_passed (compile_room (cells ks) (length lower) (length upper) work network) ShortBuffer _ a.1 in
      let c = row_passed (limits_sound ks shape.m l) GradeLimits _ b.1 in
      record {
        table = record { shape-sound = a.0; room = passed (table_room (cells ks) (length lower) (length upper) work) (and_l (table_room (cells ks) (length lower) (length upper) work) _ (passes b.0)); limits-sound = c.0 };
        network-room = leb→le _ network (and_r (table_room (cells ks) (length lower) (length upper) work) _ (passes b.0));
        rows = λ how. let p = a.0 in let q = b.0 in let r = c.0 in cc;
      }

-- settings change no row
pub judged-same : (a b : Settings) (shape : Shape) (lower upper : List ℕ) (work network : ℕ)
    → outcome_of (table_rows a shape lower upper work network) ≡ outcome_of (table_rows b shape lower upper work network)
judged-same a b shape lower upper work network =
    go (is_sound shape) (compile_room (cells (places_of shape)) (length lower) (length upper) work network) (limits_sound (places_of shape) shape.m (lent_limits (places_of shape) lower upper)) _ _
  where
    go : (p q r : Bool) (x y : List Record)
        → outcome_of (unless p ShapeRange (unless q ShortBuffer (unless r GradeLimits (accepted x)))) ≡ outcome_of (unless p ShapeRange (unless q ShortBuffer (unless r GradeLimits (accepted y))))
    go false q r x y = refl
    go true false r x y = refl
    go true true false x y = refl
    go true true true x y = refl

-- settings that are known
pub compiles_as : {a b : Settings} {shape : Shape} {lower upper work network : List ℕ} {answer : Result ℕ Refusal} {work' network' : List ℕ} → a ≡ b
    → Compiles a shape lower upper work network answer work' network' → Compiles b shape lower upper work network answer work' network'
compiles_as {shape = shape} {lower} {upper} {work} {network} {answer} {work'} {network'} e c = subst (λ (how : Settings). Compiles how shape lower upper work network answer work' network') e c

pub recorded_as : {a b : Settings} {shape : Shape} {lower upper work network : List ℕ} {of : Extent} {work' network' : List ℕ} → a ≡ b
    → Recorded a shape lower upper work network of work' network' → Recorded b shape lower upper work network of work' network'
recorded_as {shape = shape} {lower} {upper} {work} {network} {of} {work'} {network'} e c = subst (λ (how : Settings). Recorded how shape lower upper work network of work' network') e c

-- that table
pub table : (shape : Shape) (lower upper : List ℕ) {work : ℕ} → Accepted shape lower upper work → Table (places_of shape) shape.m (lent_limits (places_of shape) lower upper)
table shape lower upper ok =
    accepted-table shape.n (cards_of shape) shape.m (eight-cards shape) (passes ok.shape-sound) (lent_limits (places_of shape) lower upper) (passes ok.limits-sound)

module _ (how : Settings) (shape : Shape) (lower upper work network : List ℕ) where
  abbrev rows : Verdict (List Record)
  rows = compile_rows how shape lower upper work network

  abbrev records : List Record
  records = compiled_records how (places_of shape) shape.m (lent_limits (places_of shape) lower upper)

  -- a refusal
  pub stops : {j : Result (Unit {0}) Refusal} {r : Result ℕ Refusal} {q : Refusal} → j ≡ outcome_of (compile_rows usual shape lower upper work network) → j ≡ Err q → r ≡ Err q
      → Compiles how shape lower upper work network r work network
  stops {q = q} is h k =
      let e : rows ≡ refused q = was_err (λ xs. tt) rows (sym h ∙ is ∙ judged-same usual how shape lower upper (length work) (length network)) in
      let answer = k ∙ sym (ap (λ (v : Verdict (List Record)). result_of length v) e) in
      record {
        answers = answer;
        means = ap (says (λ n. n ∷ [])) answer ∙ result-says length (λ n. n ∷ []) rows;
        network-after = sym (ap (λ (v : Verdict (List Record)). network_after v network) e);
        refusal_keeps = λ q h. refl;
        kept = past_same;
        keeps-table = λ n h. ok-err (sym h ∙ k);
      }

  -- records
  module _ (ok : Passed shape lower upper (length work) (length network)) {of : Extent} {work' network' : List ℕ} (w : Recorded how shape lower upper work network of work' network') where
    given : Table (places_of shape) shape.m (lent_limits (places_of shape) lower upper)
    given = table shape lower upper ok.table

    bytes : network' ≡ network_after (accepted records) network
    bytes = w.bytes (let r = ok.network-room in let f = records-most how given in omega arith)

    front : take (16 * of.next) network' ≡ network_bytes records
    front =
        ap (take (16 * of.next)) bytes
        ∙ take_at (network_bytes records) (drop (16 * length records) network) (16 * of.next) (length-network_bytes records ∙ ap (λ (k : ℕ). 16 * k) (sym w.count))

    table_kept : KeepsTable how shape lower upper of.next network'
    table_kept =
        let d = compiled-all how (places_of shape) shape.m (lent_limits (places_of shape) lower upper) given in
        record {
          compiled = d;
          bytes = front;
          within = λ c h.
              rw (get_or-take (cells (places_of shape)) lower c 0 h, get_or-take (cells (places_of shape)) upper c 0 h) at
              (subst (λ (b : List ℕ). Between (lent_limits (places_of shape) lower upper) c (evaluate (places_of shape) b c)) (sym front) (d.within c h));
          sound = subst (λ (b : List ℕ). T (network_sound (places_of shape) shape.m b)) (sym front) d.sound;
          capped = subst (Capped (places_of shape)) (sym front) d.capped;
          one = λ e. w.count ∙ d.one e;
          most = λ h. let e = w.count in let q = d.most h in omega arith;
          stages = d.stages;
        }

    pub writes : Compiles how shape lower upper work network (Ok of.next) work' network'
    writes =
        let answer : ◌≡◌ {A = Result ℕ Refusal} (Ok of.next) (result_of length rows) = ap Ok w.count ∙ sym (ap (λ (v : Verdict (List Record)). result_of length v) (ok.rows how)) in
        record {
          answers = answer;
          means = ap (says (λ n. n ∷ [])) answer ∙ result-says length (λ n. n ∷ []) rows;
          network-after = bytes ∙ sym (ap (λ (v : Verdict (List Record)). network_after v network) (ok.rows how));
          refusal_keeps = λ q h. ok-err h;
          kept = w.kept;
          keeps-table = λ k h. subst (λ (j : ℕ). KeepsTable how shape lower upper j network') (ok_same h) table_kept;
        }
