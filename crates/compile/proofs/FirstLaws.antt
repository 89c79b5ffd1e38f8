-- The first stage of a table, in the work buffer.
use Prim.Native.Nat.{ℕ, ◌+◌, ◌*◌, ◌≤◌, ◌<◌}
use mathlib.Core.Path.{◌≡◌, refl, sym, ◌∙◌, ap, ap₂, subst}
use mathlib.Core.Bool.{true, false, ◌&&◌}
use mathlib.Core.List.{List, [], ◌∷◌, ◌++◌}
use native.Mathlib.Nat.{zero-add}
use native.Mathlib.Omega.{arith}
use lib.Dec.{T, leb, leb→le}
use lib.ListN.{length, take, drop, length-append, length-drop}
use lib.Seq.{length-take-le, get_or-take, get_or-drop, drop-append_seam, ext_get_or}
use Rattle.rules.specs.declared.Settings.{Settings}
use Rattle.rules.specs.Bytes.{at}
use Rattle.rules.specs.Cell.{cells}
use Rattle.rules.specs.Limits.{Limits, limits_of}
use Rattle.rules.specs.Verdict.{roomy}
use Rattle.rules.specs.Tree.{Tree, size, records}
use Rattle.rules.specs.Stage.{Stage, tree_of, whole_table, compiled}
use Rattle.rules.specs.Demands.{Table}
use Rattle.rules.specs.CompileCall.{table_room, lent_limits}
use Rattle.laws.proofs.TestLaws.{and_l, and_r, passes}
use Rattle.laws.proofs.DepthLaws.{tree-depth}
use Rattle.laws.proofs.ByteLaws.{length-network_bytes}
use Rattle.laws.proofs.TreeLaws.{length-records}
use Rattle.laws.proofs.SizeLaws.{compiled-size}
use Rattle.tables.specs.Part.{part, Laid, stage_at}
use Rattle.tables.proofs.PartLaws.{part_at, part_length, laid-front}
use Rattle.stage_drops.specs.Working.{Proper}
use Rattle.stage_steps.specs.declared.gates.Extent.{Extent}
use Rattle.stages.specs.Staging.{Written, Numbered, Starts}
use Rattle.shape.specs.declared.Shape.{Shape}
use Rattle.shape.specs.Shapes.{places_of}
use Rattle.compile.specs.Compiling.{Accepted, Recorded}
use Rattle.compile.proofs.RowLaws.{table}

-- row 10, buffer by buffer
pub record Roomy (c : ℕ) (lower upper work : ℕ) : Type 0 where
  pub low : c ≤ lower
  pub high : c ≤ upper
  pub work-room : 32 * c ≤ work

pub roomy-means : (c lower upper work : ℕ) → T (table_room c lower upper work) → Roomy c lower upper work
roomy-means c lower upper work h =
    let a = and_l (roomy c (lower ∷ upper ∷ [])) (leb (32 * c) work) h in
    record {
      low = leb→le c lower (and_l (leb c lower) (leb c upper && true) a);
      high = leb→le c upper (and_l (leb c upper) true (and_r (leb c lower) (leb c upper && true) a));
      work-room = leb→le (32 * c) work (and_r (roomy c (lower ∷ upper ∷ [])) (leb (32 * c) work) h);
    }

-- a table at a, within the first e bytes of a buffer
front-part : (w t : List ℕ) (e a n : ℕ) → e ≤ length w → a + n ≤ e → length t ≡ n → ((k : ℕ) → k < n → at w (a + k) ≡ at t k) → part (take e w) a n ≡ t
front-part w t e a n he ha lt eq =
    let le : length (take e w) ≡ e = length-take-le e w he in
    let lp : length (part (take e w) a n) ≡ n = part_length (take e w) a n (omega arith) in
    ext_get_or 0 (part (take e w) a n) t (lp ∙ sym lt)
    (λ k h. let q : k < n = omega arith in part_at (take e w) a n k q ∙ get_or-take e w (a + k) 0 (omega arith) ∙ eq k q)

-- the first n bytes of another buffer, as loading has them
load_at : (x : List ℕ) (n k : ℕ) → k < n → at (part x 0 n) k ≡ at (take n x) k
load_at x n k h = part_at x 0 n k h ∙ ap (at x) (zero-add k) ∙ sym (get_or-take n x k 0 h)

-- both limits loaded, the lower ones first
module _ (ks lower upper work : List ℕ) {v w : List ℕ} (low : Laid work 0 (part lower 0 (cells ks)) (cells ks) v) (high : Laid v (cells ks) (part upper 0 (cells ks)) (cells ks) w)
    (hl : cells ks ≤ length lower) (hu : cells ks ≤ length upper) (hw : 32 * cells ks ≤ length work) where
  pub first-stage : stage_at ks (take (32 * cells ks) w) 0 (cells ks) ≡ whole_table ks (lent_limits ks lower upper)
  first-stage =
      let e : length w ≡ length work = high.len ∙ low.len in
      ap₂ (λ (a b : List ℕ). whole_table ks (limits_of a b))
      (front-part w (take (cells ks) lower) (32 * cells ks) 0 (cells ks) (omega arith) (omega arith) (length-take-le (cells ks) lower hl)
      (λ k h. high.before (0 + k) (omega arith) ∙ low.here k h ∙ load_at lower (cells ks) k h))
      (front-part w (take (cells ks) upper) (32 * cells ks) (cells ks) (cells ks) (omega arith) (omega arith) (length-take-le (cells ks) upper hu)
      (λ k h. high.here k h ∙ load_at upper (cells ks) k h))

-- the bytes behind both stay
drop-same : (e : ℕ) (w w' : List ℕ) → length w' ≡ length w → ((j : ℕ) → e ≤ j → at w' j ≡ at w j) → drop e w' ≡ drop e w
drop-same e w w' l h =
    ext_get_or 0 (drop e w') (drop e w) (length-drop e w' ∙ omega (arith, length-drop e w))
    (λ k lt. get_or-drop e w' k 0 ∙ h (e + k) (omega arith) ∙ sym (get_or-drop e w k 0))

module _ (how : Settings) (shape : Shape) (lower upper work : List ℕ) (ok : Accepted shape lower upper (length work)) where
  abbrev ks : List ℕ
  ks = places_of shape

  abbrev l : Limits
  l = lent_limits ks lower upper

  abbrev tree : Tree
  tree = compiled how ks shape.m l

  rooms : Roomy (cells ks) (length lower) (length upper) (length work)
  rooms = roomy-means (cells ks) (length lower) (length upper) (length work) (passes ok.room)

  lent : Table ks shape.m l
  lent = table shape lower upper ok

  module _ {v w : List ℕ} (low : Laid work 0 (part lower 0 (cells ks)) (cells ks) v) (high : Laid v (cells ks) (part upper 0 (cells ks)) (cells ks) w) where
    same : stage_at ks (take (32 * cells ks) w) 0 (cells ks) ≡ whole_table ks l
    same = first-stage ks lower upper work low high rooms.low rooms.high rooms.work-room

    lent_length : length (take (32 * cells ks) w) ≡ 32 * cells ks
    lent_length = length-take-le (32 * cells ks) w (let r = rooms.work-room in let e : length w ≡ length work = high.len ∙ low.len in omega arith)

    starts : Starts how shape.m ks (cells ks) false true (take (32 * cells ks) w) 0
    starts =
        record {
          shaped = record { some = lent.positive; few = lent.few-cells };
          own = refl;
          few = lent.few-values;
          work = let e = lent_length in omega arith;
          more = λ h. let e = lent_length in omega arith;
          proper = subst (Proper shape.m) (sym same) (record { some = let g = lent.grades in omega arith; ordered = lent.ordered; top = lent.top });
          masks = λ e. absurd (subst T (sym e) tt);
          numbers =
              subst (λ (x : Stage). Numbered (tree_of how shape.m true x) 0) (sym same)
              (let h = compiled-size how ks shape.m l lent.positive in let g = lent.few-cells in omega arith);
        }

    module _ {network : List ℕ} {e : Extent} {w' net' : List ℕ} (done : Written ks (tree_of how shape.m true (stage_at ks (take (32 * cells ks) w) 0 (cells ks))) 0 false (take (32 * cells ks) w) network 0 e w' net') where
      here : Written ks tree 0 false (take (32 * cells ks) w) network 0 e w' net'
      here = subst (λ (x : Stage). Written ks (tree_of how shape.m true x) 0 false (take (32 * cells ks) w) network 0 e w' net') same done

      recorded : Recorded how shape lower upper work network e (w' ++ drop (32 * cells ks) w) net'
      recorded =
          let len : length w' ≡ 32 * cells ks = here.len ∙ lent_length in
          let long : length w ≡ length work = high.len ∙ low.len in
          let count : length (records tree 0) ≡ size tree = length-records tree 0 in
          record {
            count = here.put.extent.next ∙ zero-add (size tree) ∙ sym count;
            depth = here.put.extent.depth ∙ sym (tree-depth tree);
            bytes = λ fit. laid-front (here.put.put.bytes (let z = zero-add (length (records tree 0)) in omega arith)) fit (length-network_bytes (records tree 0));
            kept =
                record {
                  long = length-append w' (drop (32 * cells ks) w) ∙ (let r = rooms.work-room in omega (arith, length-drop (32 * cells ks) w));
                  rest =
                      ap (λ (k : ℕ). drop k (w' ++ drop (32 * cells ks) w)) (sym len)
                      ∙ drop-append_seam w' (drop (32 * cells ks) w)
                      ∙ drop-same (32 * cells ks) work w long (λ j h. high.after j (omega arith) ∙ low.after j (omega arith));
                };
          }

-- the same for the number of cells and the places that the code reads off the shape
module _ (how : Settings) (shape : Shape) (lower upper work : List ℕ) (ok : Accepted shape lower upper (length work)) (n : ℕ) (count : n ≡ cells (places_of shape)) where
  module _ {v w : List ℕ} (low : Laid work 0 (part lower 0 n) n v) (high : Laid v n (part upper 0 n) n w) (k : List ℕ) (places : k ≡ places_of shape) where
    low_by : Laid work 0 (part lower 0 (cells (places_of shape))) (cells (places_of shape)) v
    low_by = subst (λ (i : ℕ). Laid work 0 (part lower 0 i) i v) count low

    high_by : Laid v (cells (places_of shape)) (part upper 0 (cells (places_of shape))) (cells (places_of shape)) w
    high_by = subst (λ (i : ℕ). Laid v i (part upper 0 i) i w) count high

    pub starts_by : Starts how shape.m k n false true (take (32 * n) w) 0
    starts_by =
        subst (λ (i : ℕ). Starts how shape.m k i false true (take (32 * i) w) 0) (sym count)
        (subst (λ (q : List ℕ). Starts how shape.m q (cells (places_of shape)) false true (take (32 * cells (places_of shape)) w) 0) (sym places) (starts how shape lower upper work ok low_by high_by))

    pub recorded_by : {network : List ℕ} {e : Extent} {w' net' : List ℕ} → Written k (tree_of how shape.m true (stage_at k (take (32 * n) w) 0 (cells k))) 0 false (take (32 * n) w) network 0 e w' net'
        → Recorded how shape lower upper work network e (w' ++ drop (32 * n) w) net'
    recorded_by {network} {e} {w'} {net'} y =
        subst (λ (i : ℕ). Recorded how shape lower upper work network e (w' ++ drop (32 * i) w) net') (sym count)
        (recorded how shape lower upper work ok low_by high_by
        (subst (λ (i : ℕ). Written (places_of shape) (tree_of how shape.m true (stage_at (places_of shape) (take (32 * i) w) 0 (cells (places_of shape)))) 0 false (take (32 * i) w) network 0 e w' net') count
        (subst (λ (q : List ℕ). Written q (tree_of how shape.m true (stage_at q (take (32 * n) w) 0 (cells q))) 0 false (take (32 * n) w) network 0 e w' net') places y)))
