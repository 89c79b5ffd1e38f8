-- What reading and compiling answer, as it is printed.
use Prim.Native.Nat.{◌<◌, ℕ, ◌*◌, ◌/◌, ◌≤◌}
use mathlib.Core.Path.{◌≡◌, refl, sym, ◌∙◌, ap, ap₂, subst}
use mathlib.Core.Bool.{Bool, ◌&&◌}
use mathlib.Core.List.{List, ◌++◌}
use native.Mathlib.Nat.{mul-div_right}
use native.Mathlib.Omega.{arith}
use borrow.Author.Tests.{le-leb}
use lib.Dec.{leb, eqb}
use lib.ListN.{length, drop, take}
use Rattle.std.proofs.Common.{None, Some, IfSome}
use Rattle.std.specs.Prelude.{Result, Ok, Err, IfErr}
use Rattle.std.specs.declared.option.Option.{Option}
use Rattle.std.specs.Io.KnownBytes.{Appends}
use Rattle.rules.specs.declared.Edition.TheVariants.{Ours}
use Rattle.rules.specs.declared.Refusal.{Refusal}
use Rattle.rules.specs.declared.Refusal.TheVariants.{ShortBuffer}
use Rattle.rules.specs.Cell.{cells}
use Rattle.rules.specs.Shape.{places}
use Rattle.rules.specs.Verdict.{Verdict, accepted, refused, unless, and_then, result_of}
use Rattle.rules.specs.Network.{Record, records_from, network_bytes}
use Rattle.rules.specs.Settings.{usual}
use Rattle.rules.specs.Demands.{compiled_records}
use Rattle.rules.specs.CompileCall.{most_records, lent_limits}
use Rattle.rules.specs.TableFile.{Seen, judge_file, judge_reading, file_limits}
use Rattle.rules.specs.Listing.{listing, refusal_line, printed, answer_to}
use Rattle.laws.proofs.TestLaws.{and_both, pick_ok}
use Rattle.laws.proofs.VerdictLaws.{row_pass, ok-err, was_err}
use Rattle.laws.proofs.CellLaws.{cells_pos}
use Rattle.laws.proofs.AcceptLaws.{places-positive}
use Rattle.laws.proofs.ByteLaws.{length-network_bytes}
use Rattle.laws.proofs.RecordLaws.{records-front}
use Rattle.shape.specs.declared.Shape.{Shape}
use Rattle.shape.specs.Shapes.{cards_of, places_of}
use Rattle.table_file.specs.Reading.{shape_of, lower_after, upper_after, Read}
use Rattle.table_file.proofs.FileLaws.{accepted_file}
use Rattle.table_file.proofs.FileTableLaws.{table_compiles}
use Rattle.table_file.proofs.ReadLaws.{was_table}
use Rattle.compile.specs.Compiling.{network_after, compile_rows, Compiles}
use Rattle.compile.proofs.CountLaws.{accepted-records}
use Rattle.laws.proofs.VerdictLaws.{ok_same}
use Rattle.listing.specs.Putting.{Put}
use Rattle.listing.proofs.PutLaws.{put_front}
use Rattle.listing.proofs.LongLaws.{front_answered}
use Rattle.streams.specs.Filling.{Takes}

-- the buffers are long enough for every table
few-most : (c : ℕ) → 1 ≤ c → c ≤ 1024 → most_records c ≤ 3067
few-most c o h = pick_ok (λ (r : ℕ). r ≤ 3067) (eqb c 1) 1 _ (λ t. omega arith) (λ t. omega arith)

-- a file's table
module _ {file lower upper : List ℕ} {a : Result Shape Refusal} {lower' upper' : List ℕ} (r : Read file lower upper a lower' upper') (e : length lower ≡ 1024) (f : length upper ≡ 1024) where
  abbrev room : Seen → Bool
  room s = leb (cells (places s.cards)) 1024 && leb (cells (places s.cards)) 1024

  with_room : (v : Verdict Seen) → judge_file Ours file ≡ v → and_then v (λ s. unless (room s) ShortBuffer (accepted s)) ≡ v
  with_room (accepted s) g = let h = le-leb (cells (places s.cards)) 1024 (accepted_file Ours file s g).kept.few in row_pass ShortBuffer (accepted s) (and_both h h)
  with_room (refused q) g = refl

  verdict : judge_reading file (length lower) (length upper) ≡ judge_file Ours file
  verdict = ap₂ (judge_reading file) e f ∙ with_room (judge_file Ours file) refl

  answers : a ≡ result_of shape_of (judge_file Ours file)
  answers = r.answer ∙ ap (result_of shape_of) verdict

  abbrev network_of : Seen → List Record
  network_of s = compiled_records usual (places s.cards) s.m (file_limits file s)

  abbrev answer_after : Verdict Seen → List ℕ
  answer_after v = printed (and_then v (λ s. accepted (network_of s)))

  pub file_refused : {q : Refusal} {b : Result ℕ Refusal} → a ≡ Err q → b ≡ Err q → IfErr b (λ q. answer_to file ≡ refusal_line q)
  file_refused g h =
      subst (λ (x : Result ℕ Refusal). IfErr x (λ q. answer_to file ≡ refusal_line q)) (sym h) (ap answer_after (was_err shape_of (judge_file Ours file) (sym g ∙ answers)))

  -- compiled
  module _ {shape : Shape} (g : a ≡ Ok shape) {work network : List ℕ} {b : Result ℕ Refusal} {work' network' : List ℕ} (c : Compiles usual shape lower' upper' work network b work' network')
      (p : length work ≡ 32768) (q : length network ≡ 49072) where
    abbrev ks : List ℕ
    ks = places_of shape

    table_rows : (s : Seen) × (judge_file Ours file ≡ accepted s) × (compile_rows usual shape lower' upper' work network ≡ accepted (network_of s))
    table_rows =
        let was = was_table (judge_file Ours file) (sym g ∙ answers) in
        let s = was.0 in
        let whole = accepted_file Ours file s was.1 in
        let few = whole.kept.few in
        let most = few-most (cells (places s.cards)) (cells_pos (places s.cards) (places-positive s.cards)) few in (
          s,
          was.1,
          ap (λ (x : Shape). compile_rows usual x lower' upper' work network) was.2
              ∙ table_compiles file s whole lower upper lower' upper'
              (r.lower-after ∙ ap (λ (v : Verdict Seen). lower_after file v lower) (verdict ∙ was.1)) (r.upper-after ∙ ap (λ (v : Verdict Seen). upper_after file v upper) (verdict ∙ was.1)) usual (length work) (length network)
              (omega arith) (omega arith),
        )

    -- compiling never refuses it
    pub file_compiled : {P : Type 0} {q : Refusal} → b ≡ Err q → P
    file_compiled h = ok-err (sym (ap (result_of length) table_rows.2) ∙ sym c.answers ∙ h)

    pub file_listed : (n : ℕ) → b ≡ Ok n → listing (records_from ks network' 0 n) ≡ answer_to file
    file_listed n h =
        let (s, judged, rows) = table_rows in
        let rs : List Record = network_of s in
        let counted : n ≡ length rs = ok_same (sym h ∙ c.answers ∙ ap (result_of length) rows) in
        let bytes : network' ≡ network_bytes rs ++ drop (16 * length rs) network = c.network-after ∙ ap (λ (v : Verdict (List Record)). network_after v network) rows in
        let long = length-network_bytes rs in
        let n-records : n ≡ length (network_bytes rs) / 16 = counted ∙ sym (ap (λ (i : ℕ). i / 16) long ∙ mul-div_right (length rs) (omega arith)) in
        let is = accepted-records usual shape.n shape.m (length lower') (length upper') (length work) (length network) (cards_of shape) (lent_limits ks lower' upper') rows in
        let reads = subst (λ (xs : List Record). records_from ks (network_bytes xs) 0 (length (network_bytes xs) / 16) ≡ xs) is (c.keeps-table n h).compiled.reads in
        ap (λ (net : List ℕ). listing (records_from ks net 0 n)) bytes
        ∙ ap listing (records-front ks (network_bytes rs) (drop (16 * length rs) network) 0 n (omega arith) ∙ ap (records_from ks (network_bytes rs) 0) n-records ∙ reads)
        ∙ sym (ap answer_after judged)

-- what was laid for the file that a buffer was filled with, once it is written, is what is printed for the whole input
pub input_answered : (known : Option (List ℕ)) (n : ℕ) (buffer : List ℕ) {w : List ℕ} {m b : ℕ} {out : List ℕ} (o o' : Option (List ℕ)) → 16528 < length buffer
    → Takes known (Ok n) buffer → Put w 0 (answer_to (take n buffer)) m b out → m ≤ length out → Appends o o' (take b out)
    → IfSome known (λ (file : List ℕ). Appends o o' (answer_to file))
input_answered None n buffer o o' long t p fits a = tt
input_answered (Some file) n buffer o o' long t p fits a =
    subst (λ (x : List ℕ). Appends o o' x) (put_front p fits ∙ ap answer_to t ∙ front_answered (length buffer) file long) a
