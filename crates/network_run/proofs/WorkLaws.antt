-- The work buffer while the records run: the grades so far, then what stood there.
use Prim.Native.Nat.{ℕ, ◌+◌, ◌-◌, ◌/◌, ◌≤◌, ◌<◌}
use mathlib.Core.Path.{◌≡◌, refl, sym, ◌∙◌, ap, ap₂}
use mathlib.Core.List.{List, [], ◌∷◌, ◌++◌}
use native.Mathlib.Numerals.{add-one}
use native.Mathlib.Omega.{arith}
use lib.ListN.{length, get_or, take, set, length-set}
use lib.Seq.{take-suc-set, drop-set-lt, get_or-take, length-take-le}
use Rattle.rules.specs.Bytes.{at, record_at, Past}
use Rattle.rules.specs.Cell.{card, value}
use Rattle.rules.specs.Network.{network_records, run, evaluate}
use Rattle.laws.proofs.ByteLaws.{past_same}
use Rattle.network_run.specs.Grades.{byte_grade, Ran}
use Rattle.network_run.proofs.GradeLaws.{byte_run, byte_run-run}

pub record RunTo (values net work : List ℕ) (k : ℕ) (after : List ℕ) : Type 0 where
  pub kept : Past (length net / 16) work after
  pub grades : take k after ≡ byte_run (at values) net k

module _ (values net work : List ℕ) where
  pub run-start : RunTo values net work 0 work
  run-start = record { kept = past_same; grades = refl }

  module _ (k : ℕ) (after : List ℕ) (s : RunTo values net work k after) where
    -- one record more
    pub run_more : k < length net / 16 → length net / 16 ≤ length work → (q : ℕ) → q ≡ byte_grade (at values) (take k after) (record_at net k) → RunTo values net work (k + 1) (set after k q)
    run_more l room q e =
        record {
          kept =
              record {
                long = length-set after k q ∙ s.kept.long;
                rest = drop-set-lt (length net / 16) after k q l ∙ s.kept.rest;
              };
          grades =
              ap (λ (n : ℕ). take n (set after k q)) (add-one k)
              ∙ take-suc-set after k q (omega (arith, s.kept.long))
              ∙ ap (λ (x : ℕ). take k after ++ (x ∷ [])) e
              ∙ ap (λ (d : List ℕ). d ++ (byte_grade (at values) d (record_at net k) ∷ [])) s.grades
              ∙ ap (byte_run (at values) net) (sym (add-one k));
        }

    -- all of them
    pub run-all : (ks : List ℕ) (cell : ℕ) → k ≡ length net / 16 → ((i : ℕ) → at values i ≡ value ks cell i) → ((i : ℕ) → value ks cell i < card ks i) → Ran ks net cell work after
    run-all ks cell e same low =
        record {
          kept = s.kept;
          grades =
              ap (λ (n : ℕ). take n after) (sym e) ∙ s.grades ∙ ap (byte_run (at values) net) e
              ∙ byte_run-run ks (at values) (value ks cell) same low net (length net / 16);
        }

-- the last grade is the network's
pub run-last : (ks net : List ℕ) (cell : ℕ) (work after : List ℕ) (last : ℕ) → Ran ks net cell work after → last + 1 ≡ length net / 16 → length net / 16 ≤ length work
    → at after last ≡ evaluate ks net cell
run-last ks net cell work after last s e room =
    sym (get_or-take n after last 0 (omega arith)) ∙ ap₂ (λ (d : List ℕ) (i : ℕ). get_or d i 0) s.grades at-end
  where
    n : ℕ
    n = length net / 16

    at-end : last ≡ length (run (value ks cell) [] (network_records ks net)) - 1
    at-end = omega (arith, ap length s.grades, length-take-le n after (omega (arith, s.kept.long)))
