-- What turning a file into the other edition promises.
use Rattle.std.specs.Prelude.{ℕ, ◌≤◌, ◌<◌, ◌≡◌, List, [], ◌++◌, Result, Ok, length, take, drop}
use Rattle.rules.specs.declared.Edition.{Edition}
use Rattle.rules.specs.declared.Edition.TheVariants.{Ours, Spreadsheet}
use Rattle.rules.specs.declared.Refusal.{Refusal}
use Rattle.rules.specs.Bytes.{at, record_at, word}
use Rattle.rules.specs.Verdict.{Verdict, accepted, refused, answer_of, outcome_of, outcome_means}
use Rattle.rules.specs.TableFile.{cell_kind}
use Rattle.rules.specs.Editions.{convert_call, Converted}

-- what a cell record needs to be turned: limits in order, of sixteen grades; or a set that has a grade
abbrev pub Turnable : Edition → List ℕ → Type 0
Turnable Ours r = (at r 1 ≤ at r 2) × (at r 2 < 16)
Turnable Spreadsheet r = 0 < word r 2

-- each cell record of the first n has it
abbrev pub AllTurnable : Edition → List ℕ → ℕ → Type 0
AllTurnable e file n = (k : ℕ) → k < n → at (record_at file k) 0 ≡ cell_kind e → Turnable e (record_at file k)

-- the output after a verdict: the file in the other edition and what lay behind it, or all as it was
abbrev pub out_after : Verdict (List ℕ) → List ℕ → List ℕ
out_after (accepted turned) out = turned ++ drop (length turned) out
out_after (refused q) out = out

module _ (e : Edition) (file out : List ℕ) where
  abbrev pub verdict : Verdict (List ℕ)
  verdict = convert_call e file (length out)

  -- the answer and every byte of the output, for every file of either edition and every output
  pub record Converts (r : Result (Unit {0}) Refusal) (out' : List ℕ) : Type 0 where
    pub answer : r ≡ outcome_of verdict
    pub means : outcome_means r ≡ answer_of (λ turned. []) verdict
    pub out-after : out' ≡ out_after verdict out
    -- accepted, the file in the other edition is the output's front, and is what request 6 claims
    pub front : (turned : List ℕ) → verdict ≡ accepted turned → take (length file) out' ≡ turned
    pub converted : r ≡ Ok tt → Converted e file (take (length file) out')
