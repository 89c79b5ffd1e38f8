-- From a table file to a grade: `whole_path` composes the promises of the calls for C.
use Prim.Native.Nat.{ℕ, ◌*◌, ◌/◌, ◌≤◌, ◌<◌}
use mathlib.Core.Path.{◌≡◌, sym, ap, ◌∙◌, subst}
use mathlib.Core.Bool.{Bool, true, ◌&&◌}
use mathlib.Core.List.{List, [], ◌∷◌, ◌++◌, map}
use native.Mathlib.Omega.{arith}
use borrow.Author.Tests.{le-leb, lt-ltb}
use lib.Dec.{T, leb}
use lib.ListN.{length, take, drop, length-take}
use lib.Seq.{get_or-take}
use Rattle.rules.specs.declared.Edition.TheVariants.{Ours}
use Rattle.rules.specs.declared.Refusal.TheVariants.{ShapeRange, ShortBuffer, GradeLimits, Network, CellNumber}
use Rattle.rules.specs.declared.Settings.{Settings}
use Rattle.rules.specs.Bytes.{at}
use Rattle.rules.specs.Cell.{cells}
use Rattle.rules.specs.Shape.{places}
use Rattle.rules.specs.Limits.{Limits, limits_of, limits_sound}
use Rattle.rules.specs.Network.{Record, network_records, network_sound, evaluate}
use Rattle.rules.specs.NetworkCalls.{check_from}
use Rattle.rules.specs.Visits.{visit_byte}
use Rattle.rules.specs.Verdict.{Verdict, accepted, verdict_number, roomy}
use Rattle.rules.specs.TableFile.{Seen, file_limits, judge_file, judge_reading, AsListed}
use Rattle.rules.specs.Demands.{Between, compiled_records}
use Rattle.rules.specs.CompileCall.{most_records, compile_work, compile_room, lent_limits}
use Rattle.rules.specs.Forecast.{network_depth}
use Rattle.laws.proofs.TestLaws.{passes, passed, and_l, and_both}
use Rattle.laws.proofs.VerdictLaws.{row_pass, row_passed, last_passed}
use Rattle.laws.proofs.CompiledLaws.{few-compiled}
use Rattle.shape.specs.declared.Shape.{Shape}
use Rattle.shape.specs.Shapes.{places_of, is_sound, shape_from, shape_bytes}
use Rattle.shape.proofs.ShapeLaws.{cards_from}
use Rattle.table_file.specs.Reading.{lower_after, upper_after}
use Rattle.table_file.proofs.FileLaws.{Accepted, accepted_file}
use Rattle.table_file.proofs.ReadLaws.{file_judged}
use Rattle.table_file.proofs.FileTableLaws.{file_table, limits-lent, table_compiles}
use Rattle.network.specs.Checking.{check_rows}
use Rattle.network.specs.EvaluatingEach.{each_rows}
use Rattle.compile.specs.Compiling.{compile_rows}
use Rattle.compile.proofs.RowLaws.{limits-row}
use Rattle.panel_answers.specs.Answers.{lent_shape, lent_cells, lent, call_number, answer_number}
use Rattle.panel_reads.specs.Reads.{read_verdict, shape_after, Reads}
use Rattle.panel_networks.specs.Compiles.{Compiles}
use Rattle.panel_networks.specs.Checks.{Checks}
use Rattle.panel_networks.specs.Evaluates.{Evaluates, evaluate_rows}
use Rattle.panel_networks.specs.EvaluatesEach.{EvaluatesEach}
use Rattle.whole_path.specs.WholePath.{Obeys, Followed, WholePath}
use Rattle.panel_answers.proofs.ShapeLaws.{called, lent-accepted, ten_lent}

-- n records were compiled
module _ (how : Settings) (bytes lower upper work network : List ℕ) (n : ℕ) (work' network' : List ℕ) (done : Compiles how bytes lower upper work network n work' network') (counted : n < 65536) where
  abbrev shape : Shape
  shape = lent_shape bytes

  abbrev ks : List ℕ
  ks = places_of shape

  -- their bytes
  abbrev net : List ℕ
  net = take (16 * n) network'

  -- so no row stopped the call
  record Passed : Type 0 where
    pub ten : length bytes ≡ 10
    pub sound : is_sound shape ≡ true
    pub room : T (compile_room (cells ks) (length lower) (length upper) (length work) (length network))
    pub limits : limits_sound ks shape.m (limits_of lower upper) ≡ true

  pass : Passed
  pass =
      let rows : Shape → Verdict (List Record) = λ s. compile_rows how s lower upper work network in
      let v = called (lent bytes rows) length (subst (λ (k : ℕ). k < 65536) done.answer counted) in
      let l = lent-accepted bytes rows v.1 in
      let a = row_passed (is_sound shape) ShapeRange _ l.1 in
      let b = row_passed (compile_room (cells ks) (length lower) (length upper) (length work) (length network)) ShortBuffer _ a.1 in
      let c = row_passed (limits_sound ks shape.m (lent_limits ks lower upper)) GradeLimits _ b.1 in
      record { ten = l.0; sound = a.0; room = passes b.0; limits = limits-row ks lower upper shape.m ∙ c.0 }

  sound-network : network_sound ks shape.m net ≡ true
  sound-network = passed (network_sound ks shape.m net) (done.keeps-table counted).sound

  -- the network's grade at a cell is within the cell's limits
  grade-within : (cell q : ℕ) → cell < cells ks → q ≡ evaluate ks net cell → Between (limits_of lower upper) cell q
  grade-within cell q h e = subst (λ (g : ℕ). Between (limits_of lower upper) cell g) (sym e) ((done.keeps-table counted).within cell h)

  module _ (w : List ℕ) (room : n ≤ length w) where
    -- the work buffer has a byte for each record
    roomy-work : leb (length net / 16) (length w) ≡ true
    roomy-work = le-leb (length net / 16) (length w) (omega (arith, length-take (16 * n) network'))

    -- evaluating gives it
    evaluates_within : (cell : ℕ) → cell < cells ks → (after : List ℕ) (q : ℕ) → Evaluates net bytes cell w after q → Between (limits_of lower upper) cell q
    evaluates_within cell h after q found =
        let verdict : lent bytes (evaluate_rows net (length w) cell) ≡ accepted (evaluate ks net cell) =
        ten_lent bytes (evaluate_rows net (length w) cell) pass.ten
        ∙ row_pass ShapeRange _ pass.sound ∙ row_pass ShortBuffer _ roomy-work ∙ row_pass Network _ sound-network ∙ row_pass CellNumber _ (lt-ltb cell (cells ks) h) in
        grade-within cell q h (found.answer ∙ ap answer_number verdict)

    -- so does a list of visits, at each place that has a cell
    visits_within : {visits grades grades' w' : List ℕ} {r : ℕ} → length visits ≤ length grades → EvaluatesEach net bytes visits grades w r grades' w'
        → (r ≡ 0) × ((i : ℕ) → i < length visits → at visits i < cells ks → Between (limits_of lower upper) (at visits i) (at grades' i))
    visits_within {visits} {grades} {grades'} {w'} {r} long found =
        let rows : Shape → Verdict (List ℕ) = each_rows net visits grades w in
        let verdict : lent bytes rows ≡ accepted (map (visit_byte ks net) visits) =
        ten_lent bytes rows pass.ten ∙ row_pass ShapeRange _ pass.sound ∙ row_pass ShortBuffer _ (and_both roomy-work (le-leb (length visits) (length grades) long))
        ∙ row_pass Network _ sound-network in
        let none : r ≡ 0 = found.answer ∙ ap (λ (v : Verdict (List ℕ)). call_number v (λ written. 0)) verdict in
        (none, λ i h l. grade-within (at visits i) (at grades' i) l (found.grade-means none i h l).reads)

    -- checking says so
    checks_within : (after : List ℕ) (r : ℕ) → Checks net bytes lower upper w r after → r ≡ 0
    checks_within after r found =
        let limit-room : Bool = roomy (cells ks) (length lower ∷ length upper ∷ []) in
        let both : (limit-room && leb (length net / 16) (length w)) ≡ true =
        and_both (passed limit-room (and_l limit-room (leb (32 * cells ks) (length work)) (and_l (limit-room && leb (32 * cells ks) (length work)) (leb (16 * most_records (cells ks)) (length network)) pass.room))) roomy-work in
        let verdict : lent bytes (λ s. check_rows s net lower upper w) ≡ accepted (check_from ks (limits_of lower upper) net 0 (cells ks)) =
        ten_lent bytes (λ s. check_rows s net lower upper w) pass.ten
        ∙ row_pass ShapeRange _ pass.sound ∙ row_pass ShortBuffer _ both ∙ row_pass GradeLimits _ pass.limits ∙ row_pass Network _ sound-network in
        found.within_when (ap verdict_number verdict) (λ c h. (done.keeps-table counted).within c h)

-- a file was read
module _ (file shape lower upper shape' lower' upper' : List ℕ) (got : Reads file shape lower upper 0 shape' lower' upper') where
  verdict : Verdict Seen
  verdict = read_verdict file (length shape) (length lower) (length upper)

  read : (s : Seen) × (verdict ≡ accepted s)
  unfolding verdict
  read = called verdict (λ s. 0) (subst (λ (k : ℕ). k < 65536) got.answer (omega arith))

  -- what the file says
  s : Seen
  s = read.0

  abbrev x : Shape
  x = shape_from s.n s.cards s.m

  judged : judge_file Ours file ≡ accepted s
  unfolding verdict s
  judged =
      file_judged file lower upper (last_passed (judge_reading file (length lower) (length upper)) (λ t. leb 10 (length shape)) ShortBuffer read.1)

  whole : Accepted Ours file s
  whole = accepted_file Ours file s judged

  same-places : places_of x ≡ places s.cards
  same-places = ap places (cards_from s.n s.cards s.m whole.kept.eight)

  -- the ten bytes of its shape, and its limits
  bytes : take 10 shape' ≡ shape_bytes x
  unfolding verdict s
  bytes = ap (take 10) (got.shape-after ∙ ap (λ (v : Verdict Seen). shape_after v shape) read.1)

  lower-is : lower' ≡ (file_limits file s).lower ++ drop (cells (places s.cards)) lower
  unfolding verdict s
  lower-is = got.lower-after ∙ ap (λ (v : Verdict Seen). lower_after file v lower) read.1

  upper_is : upper' ≡ (file_limits file s).upper ++ drop (cells (places s.cards)) upper
  unfolding verdict s
  upper_is = got.upper-after ∙ ap (λ (v : Verdict Seen). upper_after file v upper) read.1

  listed : AsListed file s (limits_of lower' upper')
  unfolding verdict s
  listed = got.as_listed read.0 read.1

  -- the places of the shape that was written, and its cells
  lent-places : places_of (lent_shape (take 10 shape')) ≡ places s.cards
  lent-places = ap (λ (b : List ℕ). places_of (lent_shape b)) bytes ∙ same-places

  same-cells : lent_cells (take 10 shape') ≡ cells (places s.cards)
  same-cells = ap cells lent-places

  -- limits of a cell, as the buffers have them and as the file does
  at_file : (cell q : ℕ) → cell < cells (places s.cards) → Between (limits_of lower' upper') cell q → Between (file_limits file s) cell q
  at_file cell q h =
      let l = limits-lent file s whole lower upper lower' upper' lower-is upper_is in
      let n = cells (places s.cards) in
      let low : at lower' cell ≡ at (file_limits file s).lower cell = sym (get_or-take n lower' cell 0 h) ∙ ap (λ (y : Limits). at y.lower cell) l in
      let high : at upper' cell ≡ at (file_limits file s).upper cell = sym (get_or-take n upper' cell 0 h) ∙ ap (λ (y : Limits). at y.upper cell) l in
      λ b. (omega (arith, b.0, low), omega (arith, b.1, high))

  obeys : (cell q : ℕ) → cell < cells (places s.cards) → Between (limits_of lower' upper') cell q → Obeys file s cell q
  obeys cell q h b = record { within = at_file cell q h b; unforeseen = λ none. omega (arith, (listed.unlisted cell h none).0, b.0) }

  module _ (how : Settings) (work network work' network' : List ℕ) (n : ℕ) (work-room : compile_work (lent_cells (take 10 shape')) ≤ length work) (network-room : 16 * most_records (lent_cells (take 10 shape')) ≤ length network)
      (done : Compiles how (take 10 shape') lower' upper' work network n work' network') where
    abbrev rows : Shape → Verdict (List Record)
    rows y = compile_rows how y lower' upper' work network

    accepts : lent (take 10 shape') rows ≡ accepted (compiled_records how (places s.cards) s.m (file_limits file s))
    accepts =
        ap (λ (b : List ℕ). lent b rows) bytes
        ∙ table_compiles file s whole lower upper lower' upper' lower-is upper_is how (length work) (length network)
        (subst (λ (c : ℕ). compile_work c ≤ length work) same-cells work-room) (subst (λ (c : ℕ). 16 * most_records c ≤ length network) same-cells network-room)

    counted : n < 65536
    counted = omega (arith, done.answer ∙ ap (λ (v : Verdict (List Record)). call_number v length) accepts, few-compiled how (file_table file s whole))

    here : (cell : ℕ) → cell < cells (places s.cards) → cell < lent_cells (take 10 shape')
    here cell h = subst (λ (c : ℕ). cell < c) (sym same-cells) h

    pub followed : Followed how file shape' lower' upper' n network'
    followed =
        record {
          table = s;
          holds = judged;
          compiled = counted;
          evaluated = λ cell h w after q room found.
              obeys cell q h (evaluates_within how (take 10 shape') lower' upper' work network n work' network' done counted w room cell (here cell h) after q found);
          visited = λ visits grades w grades' w' r room long found.
              let v = visits_within how (take 10 shape') lower' upper' work network n work' network' done counted w room long found in
              (v.0, λ i k h. obeys (at visits i) (at grades' i) h (v.1 i k (here (at visits i) h)));
          checked = λ w after r room found. checks_within how (take 10 shape') lower' upper' work network n work' network' done counted w room after r found;
          foretold = λ w depth w' depth' count found h.
              let f = found.foretells h work network work' network' n done counted in
              (f.0, f.1 ∙ ap (λ (ks : List ℕ). network_depth (network_records ks (take (16 * n) network'))) lent-places);
        }

pub whole_path : WholePath
whole_path how file shape lower upper shape' lower' upper' got work network work' network' n work-room network-room done =
    followed file shape lower upper shape' lower' upper' got how work network work' network' n work-room network-room done
