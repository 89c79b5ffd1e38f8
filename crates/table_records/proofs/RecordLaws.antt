-- A record as its tests meet it: its values beside the places.
use Rattle.std.proofs.Common.{◌≡◌, ℕ, ◌+◌, ltb, List, length, take, drop, ◌∙◌, ap₂, arith, length-take, length-drop}
use lib.Seq.{get_or-take, get_or-drop}
use Rattle.std.specs.List.{list_all, zip}
use Rattle.rules.specs.Bytes.{at, all}
use Rattle.rules.specs.Cell.{card}
use Rattle.laws.proofs.ChainLaws.{paired-all}
use Rattle.laws.proofs.TableLaws.{all_same}
use Rattle.laws.proofs.LoopLaws.{card_read}

-- the values of a record, beside the places
pub values-zip : (r ks : List ℕ) → length r ≡ 16 → length ks ≡ 8 → list_all (λ q. ltb q.0 q.1) (zip (take 8 (drop 8 r)) ks) ≡ all 8 (λ i. ltb (at r (8 + i)) (card ks i))
values-zip r ks long eight =
    let e : length (take 8 (drop 8 r)) ≡ 8 = length-take 8 (drop 8 r) ∙ omega (arith, length-drop 8 r) in
    paired-all (λ q. ltb q.0 q.1) 0 8 (take 8 (drop 8 r)) ks e eight
    ∙ all_same 8 _ _ (λ i h. ap₂ ltb (get_or-take 8 (drop 8 r) i 0 h ∙ get_or-drop 8 r i 0) (card_read ks i (omega arith)))
