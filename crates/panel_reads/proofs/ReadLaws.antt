-- The promise of `grades_read`, from what the parts of the call answer.
use Prim.Native.Nat.{ℕ, ◌+◌, ◌≤◌, ◌<◌}
use mathlib.Core.Path.{◌≡◌, refl, sym, ap, ◌∙◌}
use mathlib.Core.Bool.{Bool, true, false}
use mathlib.Core.List.{List, ◌++◌}
use borrow.Author.Tests.{le-leb, lt-leb}
use lib.ListN.{length, drop}
use Rattle.std.specs.Prelude.{Result, Ok, Err}
use Rattle.rules.specs.declared.Edition.TheVariants.{Ours}
use Rattle.rules.specs.declared.Refusal.{Refusal}
use Rattle.rules.specs.declared.Refusal.TheVariants.{ShortBuffer}
use Rattle.rules.specs.Refusal.{refusal_number}
use Rattle.rules.specs.Limits.{limits_of}
use Rattle.rules.specs.Verdict.{Verdict, accepted, refused, unless, and_then}
use Rattle.rules.specs.TableFile.{Seen, judge_file, judge_reading, AsListed}
use Rattle.laws.proofs.VerdictLaws.{refused-accepted, was_err}
use Rattle.shape.specs.declared.Shape.{Shape}
use Rattle.shape.specs.Shapes.{shape_bytes}
use Rattle.table_file.specs.Reading.{shape_of, lower_after, upper_after, Read}
use Rattle.table_file.proofs.ReadLaws.{was_table, fits}
use Rattle.panel_answers.specs.Answers.{call_number}
use Rattle.panel_reads.specs.Reads.{read_verdict, no_room, shape_after, Reads}

-- a verdict that a further row never stops, or always
passes_on : (v : Verdict Seen) → and_then v (λ s. accepted s) ≡ v
passes_on (accepted s) = refl
passes_on (refused q) = refl

abbrev short : Seen → Verdict Seen
short s = refused ShortBuffer

stops-one : (b : Bool) (s : Seen) → and_then (unless b ShortBuffer (accepted s)) short ≡ refused ShortBuffer
stops-one true s = refl
stops-one false s = refl

stops-all : (v : Verdict Seen) (test : Seen → Bool) → and_then (and_then v (λ s. unless (test s) ShortBuffer (accepted s))) short ≡ and_then v short
stops-all (accepted s) test = stops-one (test s) s
stops-all (refused q) test = refl

-- and then it is a refusal
stopped : (v : Verdict Seen) → (q : Refusal) × (and_then v short ≡ refused q)
stopped (accepted s) = (ShortBuffer, refl)
stopped (refused q) = (q, refl)

-- its number, by the verdict on the file
pub short-number : (file : List ℕ) (v : Verdict Seen) → v ≡ judge_file Ours file → call_number (and_then v short) (λ s. 0) ≡ call_number (no_room file) (λ s. 0)
short-number file v e = ap (λ (w : Verdict Seen). call_number (and_then w short) (λ s. 0)) e

module _ (file shape lower upper : List ℕ) where
  abbrev judged : Verdict Seen
  judged = judge_reading file (length lower) (length upper)

  abbrev verdict : Verdict Seen
  verdict = read_verdict file (length shape) (length lower) (length upper)

  by_verdict : (v : Verdict Seen) (r : ℕ) (shape' lower' upper' : List ℕ) → verdict ≡ v → r ≡ call_number v (λ s. 0) → shape' ≡ shape_after v shape → lower' ≡ lower_after file v lower → upper' ≡ upper_after file v upper
      → ((s : Seen) → v ≡ accepted s → AsListed file s (limits_of lower' upper'))
      → Reads file shape lower upper r shape' lower' upper'
  by_verdict v r shape' lower' upper' e number at-shape at-lower at-upper written =
      record {
        answer = number ∙ ap (λ (w : Verdict Seen). call_number w (λ s. 0)) (sym e);
        shape-after = at-shape ∙ ap (λ (w : Verdict Seen). shape_after w shape) (sym e);
        lower-after = at-lower ∙ ap (λ (w : Verdict Seen). lower_after file w lower) (sym e);
        upper-after = at-upper ∙ ap (λ (w : Verdict Seen). upper_after file w upper) (sym e);
        as_listed = λ s q. written s (sym e ∙ q);
      }

  -- there is no room for the shape
  pub read_short : (r : ℕ) → length shape < 10 → r ≡ call_number (no_room file) (λ s. 0) → Reads file shape lower upper r shape lower upper
  read_short r short number =
      let q = stopped (judge_file Ours file) in
      by_verdict (refused q.0) r shape lower upper
      (ap (λ (b : Bool). and_then judged (λ s. unless b ShortBuffer (accepted s))) (lt-leb 10 (length shape) short)
      ∙ stops-all (judge_file Ours file) (fits file lower upper)
      ∙ q.1)
      (number ∙ ap (λ (v : Verdict Seen). call_number v (λ s. 0)) q.1) refl refl refl (λ s e. refused-accepted e)

  -- there is
  module _ (room : 10 ≤ length shape) where
    same : verdict ≡ judged
    same = ap (λ (b : Bool). and_then judged (λ s. unless b ShortBuffer (accepted s))) (le-leb 10 (length shape) room) ∙ passes_on judged

    pub read_refuses : (t : Result Shape Refusal) (q : Refusal) (r : ℕ) (lower' upper' : List ℕ) → t ≡ Err q → Read file lower upper t lower' upper' → r ≡ 65536 + refusal_number q → Reads file shape lower upper r shape lower' upper'
    read_refuses t q r lower' upper' e read number =
        let was : judged ≡ refused q = was_err shape_of judged (sym e ∙ read.answer) in
        by_verdict judged r shape lower' upper' same
        (number ∙ sym (ap (λ (v : Verdict Seen). call_number v (λ s. 0)) was))
        (sym (ap (λ (v : Verdict Seen). shape_after v shape) was))
        read.lower-after read.upper-after read.as_listed

    pub reads : (t : Result Shape Refusal) (x : Shape) (shape' lower' upper' : List ℕ) → t ≡ Ok x → Read file lower upper t lower' upper' → shape' ≡ shape_bytes x ++ drop 10 shape → Reads file shape lower upper 0 shape' lower' upper'
    reads t x shape' lower' upper' e read put =
        let was = was_table judged (sym e ∙ read.answer) in
        by_verdict judged 0 shape' lower' upper' same
        (sym (ap (λ (v : Verdict Seen). call_number v (λ s. 0)) was.1))
        (put ∙ ap (λ (y : Shape). shape_bytes y ++ drop 10 shape) was.2 ∙ sym (ap (λ (v : Verdict Seen). shape_after v shape) was.1))
        read.lower-after read.upper-after read.as_listed
