-- What stands in a file past the length of the longest makes no difference.
use Prim.Native.Nat.{ℕ, ◌<◌}
use mathlib.Core.Path.{◌≡◌, sym, ◌∙◌, ap}
use mathlib.Core.List.{List}
use native.Mathlib.Omega.{arith}
use borrow.Author.Tests.{lt-leb}
use lib.Dec.{leb}
use lib.ListN.{length, take, length-take}
use Rattle.std.proofs.Common.{take_all}
use Rattle.rules.specs.declared.Edition.{Edition}
use Rattle.rules.specs.declared.Edition.TheVariants.{Ours}
use Rattle.rules.specs.declared.Refusal.TheVariants.{FileLength, ShortBuffer}
use Rattle.rules.specs.Shape.{places}
use Rattle.rules.specs.Verdict.{Verdict, accepted, refused, unless, and_then}
use Rattle.rules.specs.Settings.{usual}
use Rattle.rules.specs.Demands.{compiled_records}
use Rattle.rules.specs.TableFile.{Seen, judge_file, file_limits}
use Rattle.rules.specs.Editions.{file_as_other}
use Rattle.rules.specs.Listing.{refusal_line, printed, answer_to, said, turned_from}
use Rattle.laws.proofs.TestLaws.{and_right, by_order}
use Rattle.laws.proofs.VerdictLaws.{row_stop}

too_long : (e : Edition) (file : List ℕ) → 16528 < length file → judge_file e file ≡ refused FileLength
too_long e file h = row_stop FileLength _ (and_right _ (and_right _ (lt-leb _ _ h)))

long_answer : (file : List ℕ) → 16528 < length file → answer_to file ≡ refusal_line FileLength
long_answer file h =
    ap (λ (v : Verdict Seen). printed (and_then v (λ s. accepted (compiled_records usual (places s.cards) s.m (file_limits file s))))) (too_long Ours file h)

long_turned : (e : Edition) (file : List ℕ) → 16528 < length file → turned_from e file ≡ said (refused FileLength)
long_turned e file h =
    ap (λ (v : Verdict Seen). said (and_then v (λ s. unless (leb (length file) (length file)) ShortBuffer (accepted (file_as_other e file))))) (too_long e file h)

module _ (room : ℕ) (file : List ℕ) (h : 16528 < room) where
  long : room < length file → 16528 < length (take room file)
  long k = let e = length-take room file in omega arith

  pub front_answered : answer_to (take room file) ≡ answer_to file
  front_answered =
      by_order (length file) room
      (λ le. ap answer_to (take_all room file le))
      (λ lt. long_answer (take room file) (long lt) ∙ sym (long_answer file (omega arith)))

  pub front_turned : (e : Edition) → turned_from e (take room file) ≡ turned_from e file
  front_turned e =
      by_order (length file) room
      (λ le. ap (turned_from e) (take_all room file le))
      (λ lt. long_turned e (take room file) (long lt) ∙ sym (long_turned e file (omega arith)))
