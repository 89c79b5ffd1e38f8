-- The cells that a check goes over, each with its limits.
use Prim.Native.Nat.{ℕ, ◌≤◌, ◌<◌}
use mathlib.Core.Path.{◌≡◌, ◌∙◌, ap}
use mathlib.Core.List.{List}
use native.Mathlib.Nat.{zero-add}
use native.Mathlib.Omega.{arith}
use lib.ListN.{length, take, get_or}
use lib.Seq.{get_or-take, length-take-le}
use Rattle.std.specs.List.{zip, enumerate_from}
use Rattle.std.proofs.lemmas.List.{get_or_default}
use Rattle.std.proofs.lemmas.List.FromFn.{length-enumerate_from, get_or-enumerate_from}
use Rattle.std.proofs.lemmas.Slice.Zip.{length-zip, get_or-zip}
use Rattle.rules.specs.Bytes.{at}

-- the limits of the first n cells, with their numbers
abbrev pub numbered : ℕ → List ℕ → List ℕ → List (ℕ × (ℕ × ℕ))
numbered n lower upper = enumerate_from 0 (zip (take n lower) (take n upper))

module _ (n : ℕ) (lower upper : List ℕ) (a : n ≤ length lower) (b : n ≤ length upper) where
  pub numbered-long : length (numbered n lower upper) ≡ n
  numbered-long =
      let e = length-zip (take n lower) (take n upper) in
      omega (arith, length-enumerate_from 0 (zip (take n lower) (take n upper)), e, length-take-le n lower a, length-take-le n upper b)

  pub numbered-at : (i cell least greatest : ℕ) → i < n → (cell, (least, greatest)) ≡ get_or (numbered n lower upper) i (cell, (least, greatest)) → (cell ≡ i) × (least ≡ at lower i) × (greatest ≡ at upper i)
  numbered-at i cell least greatest h e =
      let first = length-take-le n lower a in
      let second = length-take-le n upper b in
      let pair = get_or-zip (take n lower) (take n upper) i (least, greatest) (omega arith) (omega arith) in
      let whole = e ∙ get_or-enumerate_from 0 (zip (take n lower) (take n upper)) i (cell, (least, greatest)) (omega (arith, length-zip (take n lower) (take n upper))) in (
        ap (λ (p : ℕ × (ℕ × ℕ)). p.0) whole ∙ zero-add i,
        ap (λ (p : ℕ × (ℕ × ℕ)). p.1.0) whole ∙ ap (λ (p : ℕ × ℕ). p.0) pair ∙ get_or-take n lower i least h ∙ get_or_default lower i least 0 (omega arith),
        ap (λ (p : ℕ × (ℕ × ℕ)). p.1.1) whole ∙ ap (λ (p : ℕ × ℕ). p.1) pair ∙ get_or-take n upper i greatest h ∙ get_or_default upper i greatest 0 (omega arith),
      )
