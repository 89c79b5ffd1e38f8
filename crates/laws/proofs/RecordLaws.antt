-- Records as parts of a file or of a network, and of what stands at a buffer's front.
use Prim.Native.Nat.{ℕ, zero, suc, ◌+◌, ◌-◌, ◌*◌, ◌/◌, ◌≤◌, ◌<◌}
use mathlib.Core.Path.{◌≡◌, refl, sym, ◌∙◌, ap, ap₂}
use mathlib.Core.List.{List, [], ◌∷◌, ◌++◌, append_assoc, append-nil}
use native.Mathlib.Nat.{add-zero, zero-add, le_refl, mul-suc, not-suc-le-zero, le_of_suc-le-suc}
use native.Mathlib.Numerals.{add-one}
use native.Mathlib.Omega.{arith}
use lib.ListN.{length, take, drop, get_or, length-append, length-take, length-drop}
use lib.Seq.{take_at, take-append-le, take-add, drop-append-le, drop-append-add, drop-drop}
use Rattle.std.specs.Simd.{first_chunks}
use Rattle.rules.specs.Bytes.{record_at, map_records}
use Rattle.rules.specs.Network.{Record, record_of, records_from}

module _ (file : List ℕ) (k : ℕ) where
  pub part_record : take (16 * k + 16 - 16 * k) (drop (16 * k) file) ≡ record_at file k
  part_record = let e : 16 * k + 16 - 16 * k ≡ 16 = omega arith in ap (λ (n : ℕ). take n (drop (16 * k) file)) e

  pub record_length : 16 * k + 16 ≤ length file → length (record_at file k) ≡ 16
  record_length h = length-take 16 (drop (16 * k) file) ∙ omega (arith, length-drop (16 * k) file)

  pub part_length : 16 * k + 16 ≤ length file → length (take (16 * k + 16 - 16 * k) (drop (16 * k) file)) ≡ 16
  part_length h = ap length part_record ∙ record_length h

-- record k of a file that is taken as arrays of sixteen bytes
chunk-record : (file : List ℕ) (n k : ℕ) → k < n → get_or (first_chunks 16 n file) k [] ≡ record_at file k
chunk-record file zero k h = absurd (not-suc-le-zero h)
chunk-record file (suc n) zero h = refl
chunk-record file (suc n) (suc k) h =
    let e : 16 + 16 * k ≡ 16 * suc k = omega (arith, mul-suc 16 k) in
    chunk-record (drop 16 file) n k (le_of_suc-le-suc h) ∙ ap (take 16) (drop-drop (16 * k) 16 file ∙ ap (λ (j : ℕ). drop j file) e)

pub record_read : {chunks : List (List ℕ)} (file : List ℕ) (k : ℕ) → chunks ≡ first_chunks 16 (length file / 16) file → k < length file / 16 → get_or chunks k [] ≡ record_at file k
record_read file k e h = ap (λ (l : List (List ℕ)). get_or l k []) e ∙ chunk-record file (length file / 16) k h

-- the record at the front, and those behind it
pub record_first : (a rest : List ℕ) → length a ≡ 16 → record_at (a ++ rest) 0 ≡ a
record_first a rest e = take_at a rest 16 e

pub record_later : (a rest : List ℕ) (k : ℕ) → length a ≡ 16 → record_at (a ++ rest) (suc k) ≡ record_at rest k
record_later a rest k e =
    let p : 16 * suc k ≡ length a + 16 * k = omega (arith, mul-suc 16 k) in
    ap (take 16) (ap (λ (n : ℕ). drop n (a ++ rest)) p ∙ drop-append-add a rest (16 * k))

-- the first records of a buffer are those of its front
pub record_front : (front rest : List ℕ) (k : ℕ) → 16 * k + 16 ≤ length front → record_at (front ++ rest) k ≡ record_at front k
record_front front rest k h =
    ap (take 16) (drop-append-le (16 * k) front rest (omega arith)) ∙ take-append-le 16 (drop (16 * k) front) rest (omega (arith, length-drop (16 * k) front))

pub records-front : (ks front rest : List ℕ) (k n : ℕ) → 16 * (k + n) ≤ length front → records_from ks (front ++ rest) k n ≡ records_from ks front k n
records-front ks front rest k zero h = refl
records-front ks front rest k (suc n) h =
    ap₂ (λ (x : Record) (l : List Record). x ∷ l) (ap (record_of ks) (record_front front rest k (omega arith))) (records-front ks front rest (suc k) n (omega arith))

pub length-records_from : (ks net : List ℕ) (k n : ℕ) → length (records_from ks net k n) ≡ n
length-records_from ks net k zero = refl
length-records_from ks net k (suc n) = ap suc (length-records_from ks net (suc k) n)

-- records each changed by f: one more behind the others, how long they are, the bytes of each, and of a buffer's front
module _ (f : List ℕ → List ℕ) (file : List ℕ) where
  map_from : (i n : ℕ) → map_records f file i (suc n) ≡ map_records f file i n ++ f (record_at file (i + n))
  map_from i zero = append-nil (f (record_at file i)) ∙ ap (λ (k : ℕ). f (record_at file k)) (sym (add-zero i))
  map_from i (suc n) =
      let e : suc i + n ≡ i + suc n = omega arith in
      ap (λ (l : List ℕ). f (record_at file i) ++ l) (map_from (suc i) n ∙ ap (λ (k : ℕ). map_records f file (suc i) n ++ f (record_at file k)) e)
      ∙ sym (append_assoc (f (record_at file i)) (map_records f file (suc i) n) (f (record_at file (i + suc n))))

  pub map_next : (k : ℕ) → map_records f file 0 (k + 1) ≡ map_records f file 0 k ++ f (record_at file k)
  map_next k = ap (map_records f file 0) (add-one k) ∙ map_from 0 k ∙ ap (λ (i : ℕ). map_records f file 0 k ++ f (record_at file i)) (zero-add k)

  pub map-length : (k n : ℕ) → ((j : ℕ) → k ≤ j → j < k + n → length (f (record_at file j)) ≡ 16) → length (map_records f file k n) ≡ 16 * n
  map-length k zero h = refl
  map-length k (suc n) h =
      length-append (f (record_at file k)) (map_records f file (suc k) n)
      ∙ omega (arith, h k (le_refl k) (omega arith), map-length (suc k) n (λ j a b. h j (omega arith) (omega arith)), mul-suc 16 n)

  pub map_at : (k n j : ℕ) → ((i : ℕ) → k ≤ i → i < k + n → length (f (record_at file i)) ≡ 16) → j < n → record_at (map_records f file k n) j ≡ f (record_at file (k + j))
  map_at k zero j h l = absurd (not-suc-le-zero l)
  map_at k (suc n) zero h l =
      record_first (f (record_at file k)) (map_records f file (suc k) n) (h k (le_refl k) (omega arith))
      ∙ ap (λ (i : ℕ). f (record_at file i)) (sym (add-zero k))
  map_at k (suc n) (suc j) h l =
      let e : suc k + j ≡ k + suc j = omega arith in
      record_later (f (record_at file k)) (map_records f file (suc k) n) j (h k (le_refl k) (omega arith))
      ∙ map_at (suc k) n j (λ i a b. h i (omega arith) (omega arith)) (le_of_suc-le-suc l)
      ∙ ap (λ (i : ℕ). f (record_at file i)) e

  -- changed into the records of another file, they are its bytes
  pub map_file : (whole : List ℕ) (k n : ℕ) → ((j : ℕ) → k ≤ j → j < k + n → f (record_at file j) ≡ record_at whole j) → map_records f file k n ≡ take (16 * n) (drop (16 * k) whole)
  map_file whole k zero h = refl
  map_file whole k (suc n) h =
      let a : 16 * k + 16 ≡ 16 * suc k = omega (arith, mul-suc 16 k) in
      let b : 16 + 16 * n ≡ 16 * suc n = omega (arith, mul-suc 16 n) in
      ap₂ (λ (x y : List ℕ). x ++ y) (h k (le_refl k) (omega arith)) (map_file whole (suc k) n (λ j p q. h j (omega arith) (omega arith)))
      ∙ ap (λ (i : ℕ). record_at whole k ++ take (16 * n) (drop i whole)) (sym a)
      ∙ ap (λ (l : List ℕ). record_at whole k ++ take (16 * n) l) (sym (drop-drop 16 (16 * k) whole))
      ∙ sym (take-add 16 (16 * n) (drop (16 * k) whole))
      ∙ ap (λ (i : ℕ). take i (drop (16 * k) whole)) b
