-- Request 5: where no two sets join, a split and a weak join are counted, and the one that is kept is written.
use Prim.Native.Nat.{ℕ, ◌+◌, ◌-◌, ◌*◌, ◌≤◌, ◌<◌}
use mathlib.Core.Path.{◌≡◌, refl, sym, ◌∙◌, ap, ap₂, subst}
use mathlib.Core.Bool.{Bool, true, false, cond}
use mathlib.Core.List.{List}
use native.Mathlib.Omega.{arith}
use borrow.Author.Tests.{lt-ltb, le-ltb}
use lib.Dec.{T}
use Rattle.std.specs.Prelude.{Option}
use lib.ListN.{length}
use Rattle.rules.specs.declared.Gate.{Gate}
use Rattle.rules.specs.declared.Settings.{Settings}
use Rattle.rules.specs.Bytes.{at}
use Rattle.rules.specs.Cell.{cells, present, width, singleton}
use Rattle.rules.specs.Tree.{Tree, size, records}
use Rattle.rules.specs.Stage.{Stage, Weak, nowhere, weakly, split_tree, weak_tree, fewest, tree_of}
use Rattle.laws.proofs.TestLaws.{by_order}
use Rattle.laws.proofs.SetLaws.{has_same, singleton-has}
use Rattle.laws.proofs.CellLaws.{present_lt}
use Rattle.laws.proofs.LowestLaws.{without-none}
use Rattle.laws.proofs.TreeLaws.{size_pos, length-records}
use Rattle.laws.proofs.StageLaws.{Ready, weak-joins}
use Rattle.laws.proofs.SizeLaws.{split-size-most, weak-size}
use Rattle.laws.proofs.WeakLaws.{WeakOf, tried_may}
use Rattle.tables.specs.Part.{part}
use Rattle.tables.proofs.PartLaws.{part_at, part_same}
use Rattle.masks.specs.Masks.{Known}
use Rattle.network_records.specs.Putting.{Put}
use Rattle.stage_drops.specs.Working.{Room, front_stage, Proper, ForBoth}
use Rattle.stage_steps.specs.declared.gates.Extent.{Extent}
use Rattle.stage_steps.specs.Extents.{ExtentOf, TreePut}
use Rattle.stage_steps.proofs.WantLaws.{wanted-length}
use Rattle.weak_joins.specs.declared.Candidates.{Candidates}
use Rattle.weak_joins.specs.declared.WeakJoin.{WeakJoin}
use Rattle.weak_joins.specs.Trying.{weak_of}
use Rattle.weak_joins.specs.Opening.{Turned, Opened, Reopened, Restored}
use Rattle.weak_joins.specs.Keeping.{Kept}
use Rattle.stages.specs.Staging.{Written, Numbered, Left, Joins, Joined, Splits, Divided, Tries, Counted, tried_if, Divides}
use Rattle.stages.proofs.ChildLaws.{proper-ready, smaller, divide_rank}
use Rattle.stages.proofs.BlockStageLaws.{unknown}
use Rattle.stages.proofs.SplitStageLaws.{collected}

-- a part of what two buffers have in common
sub_part : (w v : List ℕ) (a k b n : ℕ) → part v a k ≡ part w a k → a ≤ b → b + n ≤ a + k → b + n ≤ length w → length v ≡ length w → part v b n ≡ part w b n
sub_part w v a k b n e h g l q =
    part_same w v b n l q
    (λ j lt.
    let i : ℕ = b - a + j in
    let p : a + i ≡ b + j = omega arith in
    let li : i < k = omega arith in
    ap (at v) (sym p) ∙ sym (part_at v a k i li) ∙ ap (λ (f : List ℕ). at f i) e ∙ part_at w a k i li ∙ ap (at w) p)

-- records that are only counted
put-none : (t : Tree) {net : List ℕ} (r : ℕ) → length net ≡ 0 → Put net r (records t r) net
put-none t r e = record { len = refl; bytes = λ h. absurd (omega (arith, length-records t r, size_pos t)) }

written_from : {ks : List ℕ} {t : Tree} {to : ℕ} {want : Bool} {w v net : List ℕ} {r : ℕ} {e : Extent} {w' net' : List ℕ} → length v ≡ length w
    → Written ks t to want v net r e w' net' → Written ks t to want w net r e w' net'
written_from q h = record { put = h.put; function = h.function; len = h.len ∙ q }

-- the sets of a weak join
pub joins_alone : (i : ℕ) {how : Settings} {gate : Gate} {m : ℕ} {y : Stage} {s t c : ℕ} {w : List ℕ} {r : ℕ} → s ≡ singleton i → t ≡ 0 → Joins how gate m y (singleton i) 0 false c w r
    → Joins how gate m y s t false c w r
joins_alone i {how} {gate} {m} {y} {s} {t} {c} {w} {r} e f j =
    subst (λ (k : ℕ). Joins how gate m y k t false c w r) (sym e) (subst (λ (k : ℕ). Joins how gate m y (singleton i) k false c w r) (sym f) j)

pub joined_alone : (i : ℕ) {how : Settings} {gate : Gate} {m : ℕ} {ks : List ℕ} {s t c : ℕ} {want : Bool} {w net : List ℕ} {r : ℕ} {e : Extent} {w' net' : List ℕ} → s ≡ singleton i → t ≡ 0
    → Joined how gate m ks s t false c want w net r e w' net' → Joined how gate m ks (singleton i) 0 false c want w net r e w' net'
joined_alone i {how} {gate} {m} {ks} {s} {t} {c} {want} {w} {net} {r} {e} {w'} {net'} p q j =
    subst (λ (k : ℕ). Joined how gate m ks (singleton i) k false c want w net r e w' net') q (subst (λ (k : ℕ). Joined how gate m ks k t false c want w net r e w' net') p j)

-- the tree that is kept, by its records
module _ (how : Settings) (m a : ℕ) (gate : Gate) (i : ℕ) (x : Stage) where
  abbrev weak : Tree
  weak = weak_tree m (tree_of how m) gate i x

  abbrev split : Tree
  split = split_tree m (tree_of how m) a x

  keeps-weak : size weak < size split → fewest m (tree_of how m) (weakly gate i) a x ≡ weak
  keeps-weak h = ap (λ (b : Bool). cond b weak split) (lt-ltb (size weak) (size split) h)

  keeps-split : size split ≤ size weak → fewest m (tree_of how m) (weakly gate i) a x ≡ split
  keeps-split h = ap (λ (b : Bool). cond b weak split) (le-ltb (size weak) (size split) h)

module _ {how : Settings} {m a : ℕ} {ks : List ℕ} {i c : ℕ} {w₀ : List ℕ} (h : Tries how m a ks i c w₀) where
  abbrev x : Stage
  x = front_stage ks w₀

  ready : Ready m x
  ready = proper-ready h.whole.left.own.shaped.some h.whole.left.proper

  left_at : {v : List ℕ} → length v ≡ length w₀ → Left m x c v
  left_at e =
      let l = h.whole.left in
      let q = l.work in
      record { own = record { shaped = l.own.shaped; own = l.own.own; room = omega arith }; few = l.few; work = omega arith; wide = l.wide; proper = l.proper }

  -- a weak join keeps all conditions for its first block
  weak_join : {gate : Gate} {v : List ℕ} {r : ℕ} → length v ≡ length w₀ → ForBoth gate m x (singleton i) 0 v → Numbered (weak_tree m (tree_of how m) gate i x) r
      → Joins how gate m x (singleton i) 0 false c v r
  weak_join {gate} e t n =
      let q = h.work in
      let o = h.whole.left.own.own in
      let s = ap cells (without-none ks) in
      record {
        left = left_at e;
        exists = weak-joins m gate (singleton i) x ready;
        first-room = record { work = omega arith; more = unknown };
        first-fewer = unknown;
        second = smaller ks (singleton i) ready.pos (i, has_same 0 i) (λ k g. subst (λ (z : ℕ). T (present ks z)) (sym (singleton-has i k g)) h.there);
        tables = t;
        numbers = n;
      }

  -- Counting: the numbers of either have two bytes, from record 0 on
  pub split-counts : Splits how m a ks c w₀ 0
  split-counts =
      let f = h.whole.left.own.shaped.few in
      record { whole = h.whole; there = h.cut; numbers = omega (arith, split-size-most how m a x ready.pos h.whole.left.wide h.cut) }

  module _ {want : Bool} {net₀ : List ℕ} {one : Extent} {w₁ net₁ : List ℕ} (d : Divided how m a ks c want w₀ net₀ 0 one w₁ net₁) where
    len-one : length w₁ ≡ length w₀
    len-one = d.written.len

    same-stage : front_stage ks w₁ ≡ x
    same-stage =
        let o = h.whole.left.own.own in
        let q = h.work in
        ap₂ (λ (l u : List ℕ). limited l u)
        (part_same w₀ w₁ 0 (cells ks) (omega arith) len-one (λ j lt. d.front (0 + j) (omega arith)))
        (part_same w₀ w₁ (cells ks) (cells ks) (omega arith) len-one (λ j lt. d.front (cells ks + j) (omega arith)))
      where
        limited : List ℕ → List ℕ → Stage
        limited l u = record { ks = ks; limits = record { lower = l; upper = u } }

    pub open_room : Room w₁ ks c × Proper m (front_stage ks w₁) × (i < 8)
    open_room = ((left_at len-one).own, subst (Proper m) (sym same-stage) h.whole.left.proper, h.number)

    module _ {gate : Gate} {w₂ : List ℕ} (o : Opened gate m ks i c w₁ w₂) where
      len-two : length w₂ ≡ length w₀
      len-two = o.len ∙ len-one

      pub weak-counts : Joins how gate m x (singleton i) 0 false c w₂ 0
      weak-counts =
          let f = h.whole.left.own.shaped.few in
          weak_join len-two (subst (λ (y : Stage). ForBoth gate m y (singleton i) 0 w₂) same-stage o.tables) (omega (arith, weak-size how m gate i x ready.pos))

      pub both-counted : {net : List ℕ} {b : Extent} {w₃ net' : List ℕ} → Joined how gate m ks (singleton i) 0 false c want w₂ net 0 b w₃ net'
          → Counted how gate m a ks i c want w₀ (record { split = one; weak = b }) w₃
      both-counted {net} {b} {w₃} {net'} j =
          record {
            split = d.written.put.extent;
            weak = whole.put.extent;
            split-function = λ q. aside (4 * c) (cells ks) (omega arith) (omega arith) ∙ ap (part w₂ (4 * c)) (sym n) ∙ o.kept ∙ ap (part w₁ (4 * c)) n ∙ d.written.function q;
            weak-function = whole.function;
            limits = λ q.
                let t = subst (λ (y : Stage). Turned gate m ks y.limits c w₂) same-stage o.limits in
                record { lows = j.lows q ∙ t.lows; highs = aside (5 * c) c (omega arith) (omega arith) ∙ t.highs };
            len = long;
          }
        where
          whole : Written ks (weak_tree m (tree_of how m) gate i x) 0 want w₂ net 0 b w₃ net'
          whole = j.whole x.limits weak-counts

          long : length w₃ ≡ length w₀
          long = whole.len ∙ len-two

          n : c ≡ cells ks
          n = h.whole.left.own.own

          aside : (b k : ℕ) → 4 * c ≤ b → b + k ≤ 4 * c + 2 * c → part w₃ b k ≡ part w₂ b k
          aside b k l g = let q = h.work in let e = len-two in sub_part w₂ w₃ (4 * c) (2 * c) b k j.aside l g (omega arith) whole.len

  -- Both are counted: which is kept
  module _ {gate : Gate} {want : Bool} {of : Candidates} {w₁ : List ℕ} (k : Counted how gate m a ks i c want w₀ of w₁) where
    weak-is : of.weak.next < of.split.next → fewest m (tree_of how m) (weakly gate i) a x ≡ weak_tree m (tree_of how m) gate i x
    weak-is l = keeps-weak how m a gate i x (let e = k.weak.next in let b = k.split.next in omega arith)

    split-is : of.split.next ≤ of.weak.next → fewest m (tree_of how m) (weakly gate i) a x ≡ split_tree m (tree_of how m) a x
    split-is l = keeps-split how m a gate i x (let e = k.weak.next in let b = k.split.next in omega arith)

    -- nothing is written
    pub keep_room : (r : ℕ) → Numbered (fewest m (tree_of how m) (weakly gate i) a x) r → (5 * c ≤ length w₁) × (of.weak.next < of.split.next → r + of.weak.next ≤ 65536) × (of.split.next ≤ of.weak.next → r + of.split.next ≤ 65536)
    keep_room r few = (
      (let q = h.work in let e = k.len in omega arith),
      (λ l. let a = k.weak.next in let e = ap size (weak-is l) in omega arith),
      (λ l. let a = k.split.next in let e = ap size (split-is l) in omega arith),
    )

    pub kept_whole : (r : ℕ) {net : List ℕ} {e : Extent} {w₂ : List ℕ} → length net ≡ 0 → Kept c of r want w₁ e w₂
        → Written ks (fewest m (tree_of how m) (weakly gate i) a x) 0 want w₀ net r e w₂ net
    kept_whole r {net} {e} {w₂} none q =
        by_order of.split.next of.weak.next
        (λ l.
        let p = q.split l in
        subst (λ (t : Tree). Written ks t 0 want w₀ net r e w₂ net) (sym (split-is l))
        (record {
          put = placed (split_tree m (tree_of how m) a x) k.split p.0;
          function = collected ks h.whole.left.own.own room p.1 k.split-function;
          len = wanted-length p.1 (λ s. s.len) ∙ k.len;
        }))
        (λ l.
        let p = q.weak l in
        subst (λ (t : Tree). Written ks t 0 want w₀ net r e w₂ net) (sym (weak-is l))
        (record {
          put = placed (weak_tree m (tree_of how m) gate i x) k.weak p.0;
          function = λ y. ap (λ (v : List ℕ). part v 0 (cells ks)) p.1 ∙ k.weak-function y;
          len = ap length p.1 ∙ k.len;
        }))
      where
        room : 5 * c ≤ length w₁
        room = let q = h.work in let e = k.len in omega arith

        placed : (t : Tree) {a : Extent} → ExtentOf t 0 a → e ≡ record { next = r + a.next; depth = a.depth } → TreePut t net r e net
        placed t {a} x q =
            subst (λ (y : Extent). TreePut t net r y net) (sym q)
            (record { extent = record { next = let n = x.next in omega arith; depth = x.depth }; put = put-none t r none })

  -- the one that is kept is written: its limits are there
  module _ {gate : Gate} {of : Candidates} {w₁ : List ℕ} (k : Counted how gate m a ks i c false w₀ of w₁) (r : ℕ)
      (few : Numbered (fewest m (tree_of how m) (weakly gate i) a x) r) where
    pub here : Room w₁ ks c
    here = (left_at k.len).own

    -- the weak join
    module _ (l : of.weak.next < of.split.next) {w₂ : List ℕ} (o : Reopened ks i c w₁ w₂) where
      pub weak_writes : Joins how gate m x (singleton i) 0 false c w₂ r
      weak_writes = weak_join (o.len ∙ k.len) (o.tables gate m x.limits (k.limits refl)) (subst (λ (t : Tree). Numbered t r) (weak-is k l) few)

      pub weak-written : {want : Bool} {net : List ℕ} {e : Extent} {w₃ net' : List ℕ} → Joined how gate m ks (singleton i) 0 false c want w₂ net r e w₃ net'
          → Written ks (fewest m (tree_of how m) (weakly gate i) a x) 0 want w₀ net r e w₃ net'
      weak-written {want} {net} {e} {w₃} {net'} j =
          subst (λ (t : Tree). Written ks t 0 want w₀ net r e w₃ net') (sym (weak-is k l)) (written_from (o.len ∙ k.len) (j.whole x.limits weak_writes))

    module _ (l : of.split.next ≤ of.weak.next) {w₂ : List ℕ} (o : Restored gate m ks c w₁ w₂) where
      again : (front_stage ks w₂ ≡ x) × Known m ks w₂
      again = o.stage w₀ h.whole.left.own.room h.whole.left.proper (k.limits refl)

      -- the split
      pub split_writes : Splits how m a ks c w₂ r
      split_writes =
          record {
            whole = record { left = subst (λ (y : Stage). Left m y c w₂) (sym again.0) (left_at (o.len ∙ k.len)); masks = again.1 };
            there = h.cut;
            numbers = subst (λ (y : Stage). Numbered (split_tree m (tree_of how m) a y) r) (sym again.0) (subst (λ (t : Tree). Numbered t r) (split-is k l) few);
          }

      pub split-written : {want : Bool} {net : List ℕ} {e : Extent} {w₃ net' : List ℕ} → Written ks (split_tree m (tree_of how m) a (front_stage ks w₂)) 0 want w₂ net r e w₃ net'
          → Written ks (fewest m (tree_of how m) (weakly gate i) a x) 0 want w₀ net r e w₃ net'
      split-written {want} {net} {e} {w₃} {net'} y =
          subst (λ (t : Tree). Written ks t 0 want w₀ net r e w₃ net') (ap (split_tree m (tree_of how m) a) again.0 ∙ sym (split-is k l)) (written_from (o.len ∙ k.len) y)

-- what a search has found, by its case
pub known_as : {a b : Option WeakJoin} {q : Weak} → a ≡ b → weak_of a ≡ q → weak_of b ≡ q
known_as e f = ap weak_of (sym e) ∙ f

-- whether one is tried
module _ {how : Settings} {m a : ℕ} {ks : List ℕ} {c : ℕ} {sought : Bool} {w : List ℕ} {r : ℕ} (h : Divides how m a ks c sought w r) where
  abbrev y : Stage
  y = front_stage ks w

  abbrev tree : Weak → Tree
  tree q = fewest m (tree_of how m) q a y

  -- settings by which weak joins are tried
  abbrev always : Settings
  always = record { tie = how.tie; splits = how.splits; weak = true }

  module _ {gate : Gate} {i : ℕ} (e : weakly gate i ≡ tried_if m sought y) where
    found : T sought × T (present ks i)
    found = subst (WeakOf (λ op i. T sought × T (present ks i))) (sym e) (tried_may always m sought y)

    pub tries : length ks ≡ 8 → Tries how m a ks i c w
    tries eight = record { whole = h.whole; cut = h.cut; work = h.more (yes sought found.0); there = found.1; number = let l = present_lt ks i found.1 in omega arith }
      where
        yes : (b : Bool) → T b → b ≡ true
        yes true t = refl
        yes false t = absurd t

    pub tries_falls : 16 * width ks + 10 < divide_rank sought ks
    tries_falls = go sought found.0
      where
        go : (b : Bool) → T b → 16 * width ks + 10 < divide_rank b ks
        go true t = omega arith
        go false t = absurd t

    pub tries_numbers : Numbered (tree (weakly gate i)) r
    tries_numbers = subst (λ (q : Weak). Numbered (tree q) r) (sym e) h.numbers

  pub splits-here : nowhere ≡ tried_if m sought y → Splits how m a ks c w r
  splits-here e = record { whole = h.whole; there = h.cut; numbers = subst (λ (q : Weak). Numbered (tree q) r) (sym e) h.numbers }

  pub tried-written : {q : Weak} → q ≡ tried_if m sought y → {want : Bool} {net : List ℕ} {e : Extent} {w' net' : List ℕ} → Written ks (tree q) 0 want w net r e w' net'
      → Written ks (tree (tried_if m sought y)) 0 want w net r e w' net'
  tried-written o {want} {net} {e} {w'} {net'} z = subst (λ (q : Weak). Written ks (tree q) 0 want w net r e w' net') o z
