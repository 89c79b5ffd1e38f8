-- The promise of the reading call, case by case.
use Prim.Native.Nat.{ℕ}
use mathlib.Core.Path.{◌≡◌, sym, ◌∙◌, ap, subst}
use mathlib.Core.Bool.{Bool, true, ◌&&◌}
use mathlib.Core.List.{List}
use lib.Dec.{leb}
use Rattle.std.specs.Prelude.{Ok}
use lib.ListN.{length, drop}
use Rattle.rules.specs.declared.Edition.TheVariants.{Ours}
use Rattle.rules.specs.declared.Refusal.TheVariants.{ShortBuffer}
use Rattle.rules.specs.Cell.{cells}
use Rattle.rules.specs.Shape.{places}
use Rattle.rules.specs.Limits.{limits_of}
use Rattle.rules.specs.Verdict.{Verdict, accepted, unless, and_then, result_of, answer_of}
use Rattle.rules.specs.TableFile.{Seen, judge_file, judge_reading, AsListed}
use Rattle.laws.proofs.VerdictLaws.{last_passed, result-says, was_ok}
use Rattle.shape.specs.declared.Shape.{Shape}
use Rattle.shape.specs.Shapes.{shape_bytes}
use Rattle.table_file.specs.Reading.{shape_of, lower_after, upper_after, Read}
use Rattle.table_file.proofs.FileLaws.{accepted_file}
use Rattle.table_file.proofs.AsListedLaws.{as_listed}

-- the verdict behind a table, and its shape
pub was_table : (v : Verdict Seen) {x : Shape} → Ok x ≡ result_of shape_of v → (s : Seen) × (v ≡ accepted s) × (x ≡ shape_of s)
was_table v e = let (s, q) = was_ok shape_of v e in (s, q, cc)

module _ (file lower upper : List ℕ) where
  -- both buffers have room for a table
  abbrev pub fits : Seen → Bool
  fits s = leb (cells (places s.cards)) (length lower) && leb (cells (places s.cards)) (length upper)

  -- an accepted call: its file is accepted, and what is written is as that lists
  pub file_judged : {s : Seen} → judge_reading file (length lower) (length upper) ≡ accepted s → judge_file Ours file ≡ accepted s
  file_judged e = last_passed (judge_file Ours file) fits ShortBuffer e

  written : (s : Seen) → judge_reading file (length lower) (length upper) ≡ accepted s → AsListed file s (limits_of (lower_after file (accepted s) lower) (upper_after file (accepted s) upper))
  written s e = as_listed file s (accepted_file Ours file s (file_judged e)) (drop (cells (places s.cards)) lower) (drop (cells (places s.cards)) upper)

  by_verdict : (v : Verdict Seen) → judge_reading file (length lower) (length upper) ≡ v → Read file lower upper (result_of shape_of v) (lower_after file v lower) (upper_after file v upper)
  by_verdict v e =
      record {
        answer = ap (result_of shape_of) (sym e);
        means = result-says shape_of shape_bytes v ∙ ap (answer_of (λ (s : Seen). shape_bytes (shape_of s))) (sym e);
        lower-after = ap (λ (w : Verdict Seen). lower_after file w lower) (sym e);
        upper-after = ap (λ (w : Verdict Seen). upper_after file w upper) (sym e);
        as_listed = λ s q. subst (λ (w : Verdict Seen). AsListed file s (limits_of (lower_after file w lower) (upper_after file w upper))) (sym q ∙ e) (written s q);
      }

  module _ (s : Seen) (e : judge_file Ours file ≡ accepted s) where
    with_room : (b : Bool) → fits s ≡ b → judge_reading file (length lower) (length upper) ≡ unless b ShortBuffer (accepted s)
    with_room b r =
        ap (λ (v : Verdict Seen). and_then v (λ s. unless (fits s) ShortBuffer (accepted s))) e
        ∙ ap (λ (b : Bool). unless b ShortBuffer (accepted s)) r

    -- the table is written
    pub read_table : fits s ≡ true → (x : Shape) → x ≡ shape_of s → (lower' upper' : List ℕ) → lower' ≡ lower_after file (accepted s) lower → upper' ≡ upper_after file (accepted s) upper
        → Read file lower upper (Ok x) lower' upper'
    read_table r x shape lower' upper' low high = rw (shape, low, high) (by_verdict (accepted s) (with_room true r))
