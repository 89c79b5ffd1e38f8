-- Row 7, test by test.
use Prim.Native.Nat.{ℕ}
use mathlib.Core.Path.{◌≡◌, sym, ◌∙◌, ap}
use mathlib.Core.Bool.{Bool, not, ◌&&◌, ◌||◌}
use mathlib.Core.List.{List}
use native.Mathlib.Nat.{zero-add}
use borrow.Author.Tests.{ne_eqb}
use lib.Dec.{ltb}
use lib.ListN.{length}
use Rattle.std.specs.List.{list_all, enumerate_from}
use Rattle.rules.specs.Bytes.{all}
use Rattle.rules.specs.Cell.{present, has}
use Rattle.rules.specs.Join.{sets_sound}
use Rattle.laws.proofs.ChainLaws.{numbered-all}
use Rattle.laws.proofs.LoopLaws.{card_read}
use Rattle.laws.proofs.TableLaws.{all_same}

-- a condition of the two sets
abbrev pub member_test : ℕ → ℕ → ℕ × ℕ → Bool
member_test s t (i, card) = not (has s i && has t i) && (not (has s i || has t i) || ltb 1 card)

-- two sets that are not empty, by the test of each condition
pub sets_listed : (ks : List ℕ) (s t : ℕ) → length ks ≡ 8 → (s ≡ 0 → ⊥) × (t ≡ 0 → ⊥) → list_all (member_test s t) (enumerate_from 0 ks) ≡ sets_sound ks s t
sets_listed ks s t e ne =
    let test : ℕ → Bool = λ i. not (has s i && has t i) && (not (has s i || has t i) || present ks i) in
    numbered-all (λ i card. member_test s t (i, card)) 0 ks
    ∙ all_same (length ks) _ test (λ i h. let p = ap (ltb 1) (card_read ks i h) in rw (zero-add i, p))
    ∙ ap (λ n. all n test) e
    ∙ sym (rw (ne_eqb s 0 ne.0, ne_eqb t 0 ne.1))
