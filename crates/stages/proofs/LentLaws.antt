-- What is lent on of a work buffer, from a on, and what it is when that comes back.
use Prim.Native.Nat.{ℕ, ◌+◌, ◌-◌, ◌≤◌, ◌<◌}
use mathlib.Core.Path.{◌≡◌, sym, ◌∙◌, ap, ap₂}
use mathlib.Core.List.{List, ◌++◌}
use native.Mathlib.Nat.{add-zero}
use native.Mathlib.Omega.{arith}
use borrow.Rule.Slice.PartMut.{put_mid, post_of, same_len_mid}
use lib.ListN.{length, take, drop, length-take, length-drop, get_or-append}
use lib.Seq.{get_or-take, get_or-drop, get_or-append-add, ext_get_or}
use Rattle.rules.specs.Bytes.{at}
use Rattle.rules.specs.Cell.{cells}
use Rattle.rules.specs.Limits.{Limits}
use Rattle.rules.specs.Stage.{Stage}
use Rattle.tables.specs.Part.{part, stage_at}
use Rattle.tables.proofs.PartLaws.{part_at, part_length, part_same}

abbrev pub rest : ℕ → List ℕ → List ℕ
rest a w = take (length w - a) (drop a w)

pub rest-length : (a : ℕ) (w : List ℕ) → length (rest a w) ≡ length w - a
rest-length a w = simp (length-take, length-drop) (omega arith)

-- two buffers that hold the same bytes at two parts
part_alike : (w v : List ℕ) (a b n : ℕ) → a + n ≤ length w → b + n ≤ length v → ((k : ℕ) → k < n → at w (a + k) ≡ at v (b + k)) → part w a n ≡ part v b n
part_alike w v a b n h g e =
    let l : length (part w a n) ≡ n = part_length w a n h in
    let r : length (part v b n) ≡ n = part_length v b n g in
    ext_get_or 0 (part w a n) (part v b n) (l ∙ sym r) (λ k lt. let q : k < n = omega arith in part_at w a n k q ∙ e k q ∙ sym (part_at v b n k q))

pub rest_part : (a b n : ℕ) (w : List ℕ) → a + b + n ≤ length w → part (rest a w) b n ≡ part w (a + b) n
rest_part a b n w h =
    let l = rest-length a w in
    part_alike (rest a w) w b (a + b) n (omega arith) h
    (λ k lt.
    let q : a + (b + k) ≡ a + b + k = omega arith in
    get_or-take (length w - a) (drop a w) (b + k) 0 (omega arith) ∙ get_or-drop a w (b + k) 0 ∙ ap (at w) q)

-- a stage whose limits stand at a
pub rest-stage : (a : ℕ) (b w : List ℕ) → a + cells b + cells b ≤ length w → stage_at b (rest a w) 0 (cells b) ≡ stage_at b w a (a + cells b)
rest-stage a b w h =
    ap₂ (λ (l u : List ℕ). limited (record { lower = l; upper = u }))
    (rest_part a 0 (cells b) w (omega arith) ∙ ap (λ (i : ℕ). part w i (cells b)) (add-zero a))
    (rest_part a (cells b) (cells b) w h)
  where
    limited : Limits → Stage
    limited l = record { ks = b; limits = l }

-- w' is w up to a, and then v
pub record Back (a : ℕ) (w v w' : List ℕ) : Type 0 where
  pub len : length w' ≡ length w
  pub long : length v ≡ length w - a
  pub front : (j : ℕ) → j < a → at w' j ≡ at w j
  pub behind : (j : ℕ) → j < length v → at w' (a + j) ≡ at v j

pub back : (a : ℕ) (w v : List ℕ) → a ≤ length w → length v ≡ length (rest a w) → Back a w v (put_mid a (length w - a) w v)
back a w v h e =
    let l : length (take a w) ≡ a = simp length-take (omega arith) in
    let past : List ℕ = post_of a (length w - a) w in
    record {
      len = same_len_mid a (length w - a) w v e;
      long = e ∙ rest-length a w;
      front = λ j lt. get_or-append (take a w) (v ++ past) 0 j (omega arith) ∙ get_or-take a w j 0 lt;
      behind = λ j lt.
          let q : a + j ≡ length (take a w) + j = omega arith in
          ap (at (take a w ++ (v ++ past))) q ∙ get_or-append-add (take a w) (v ++ past) j 0 ∙ get_or-append v past 0 j lt;
    }

pub back-front : {a : ℕ} {w v w' : List ℕ} (b n : ℕ) → Back a w v w' → b + n ≤ a → a ≤ length w → part w' b n ≡ part w b n
back-front {a} {w} {v} {w'} b n k h l = part_same w w' b n (omega arith) k.len (λ j lt. k.front (b + j) (omega arith))

pub back_behind : {a : ℕ} {w v w' : List ℕ} (n : ℕ) → Back a w v w' → n ≤ length v → a ≤ length w → part w' a n ≡ part v 0 n
back_behind {a} {w} {v} {w'} n k h l =
    let e = k.long in
    let f = k.len in
    part_alike w' v a 0 n (omega arith) (omega arith) (λ j lt. k.behind j (omega arith) ∙ ap (at v) (omega arith))
