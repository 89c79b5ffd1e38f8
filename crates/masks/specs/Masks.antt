-- Masks: a byte for each cell, whose bit i says that the cell refuses condition i.
use Rattle.std.specs.Prelude.{ℕ, ◌*◌, ◌/◌, ◌^◌, ◌<◌, ◌≡◌, Bool, true, not, ◌&&◌, List, T, eqb, ltb}
use Rattle.rules.specs.Bytes.{at, all}
use Rattle.rules.specs.Cell.{cells, present, has, singleton, least_over, greatest_over}
use Rattle.rules.specs.Limits.{Limits}
use Rattle.rules.specs.Join.{exchange_for}
use Rattle.rules.specs.declared.Gate.{Gate}
use Rattle.rules.specs.declared.Gate.TheVariants.{Min, Max}
use Rattle.tables.specs.Part.{part}

-- 01, Joins, max, at cell c: the lower grade is above the least upper grade over condition i
unfoldable pub above_least : List ℕ → List ℕ → List ℕ → ℕ → ℕ → Bool
above_least ks l u i c = ltb (at (least_over ks (singleton i) u) c) (at l c)

-- the upper grade is below the greatest lower grade over it
unfoldable pub below_greatest : List ℕ → List ℕ → List ℕ → ℕ → ℕ → Bool
below_greatest ks l u i c = ltb (at u c) (at (greatest_over ks (singleton i) l) c)

-- cell c refuses condition i for a gate, under the limits as the max join wants them
abbrev pub refuses : Gate → List ℕ → ℕ → Limits → ℕ → ℕ → Bool
refuses op ks m l = let x = exchange_for op ks m l in above_least ks x.lower x.upper

-- at each cell the bits of the conditions that are there say what p says of them. The other bits say nothing
pub record Bits (ks : List ℕ) (p : ℕ → ℕ → Bool) (t : List ℕ) : Type 0 where
  pub bit : (c i : ℕ) → c < cells ks → T (present ks i) → has (at t c) i ≡ p i c

-- the masks of a gate under the limits l
abbrev pub Masked : Gate → List ℕ → ℕ → Limits → List ℕ → Type 0
Masked op ks m l t = Bits ks (refuses op ks m l) t

-- n masks have what others have, but for condition i
pub record Beside (i n : ℕ) (t t' : List ℕ) : Type 0 where
  pub bit : (c j : ℕ) → c < n → (j ≡ i → ⊥) → has (at t' c) j ≡ has (at t c) j

-- the part that a gate's masks stand in, in parts of n bytes
abbrev pub mask_part : Gate → ℕ → ℕ
mask_part Max n = 2 * n
mask_part Min n = 3 * n

-- a stage's masks are known: its limits are parts 0 and 1, and they stand behind these
pub record Known (m : ℕ) (ks w : List ℕ) : Type 0 where
  pub masks : (op : Gate) → let n = cells ks in Masked op ks m (record { lower = part w 0 n; upper = part w n n }) (part w (mask_part op n) n)

-- of n masks, none passes the test
unfoldable pub none_of : ℕ → List ℕ → (ℕ → Bool) → Bool
none_of n t q = all n (λ c. not (q (at t c)))

-- none has condition i
abbrev pub none_has : ℕ → List ℕ → ℕ → Bool
none_has n t i = none_of n t (λ s. has s i)

-- none has both i and j
abbrev pub none_both : ℕ → List ℕ → ℕ → ℕ → Bool
none_both n t i j = none_of n t (λ s. has s i && has s j)

-- a mask has every condition from k on, of those that a byte can have
abbrev pub is_full_from : ℕ → ℕ → Bool
is_full_from k s = eqb (s / 2 ^ k) (255 / 2 ^ k)

-- one of n masks does
abbrev pub some_full : ℕ → List ℕ → ℕ → Bool
some_full n t k = not (none_of n t (is_full_from k))

-- s has exactly what some of n masks has that passes the test
pub record Union (n : ℕ) (t : List ℕ) (q : ℕ → Bool) (s : ℕ) : Type 0 where
  pub has-is : (j : ℕ) → has s j ≡ not (none_of n t (λ x. q x && has x j))

abbrev pub every : ℕ → Bool
every x = true
