-- What `grades_to_sets` and `grades_from_sets` promise.
use Rattle.std.specs.Prelude.{ℕ, ◌≡◌, List, length, take}
use Rattle.rules.specs.declared.Edition.{Edition}
use Rattle.rules.specs.Editions.{convert_call, Converted}
use Rattle.editions.specs.Converting.{out_after}
use Rattle.panel_answers.specs.Answers.{call_number}

-- the answer and every byte of the output, for every file of the edition that is read and every output
pub record Converts (e : Edition) (file out : List ℕ) (r : ℕ) (out' : List ℕ) : Type 0 where
  pub answer : r ≡ call_number (convert_call e file (length out)) (λ turned. 0)
  pub out-after : out' ≡ out_after (convert_call e file (length out)) out
  -- at 0 the front of the output is what request 6 claims: the other call accepts it and makes it the file again, a cell allows the grades that
  -- it did, and nothing else in the file changes
  pub converted : r ≡ 0 → Converted e file (take (length file) out')
