-- A stage that another one starts.
use Prim.Native.Nat.{ℕ, ◌+◌, ◌-◌, ◌*◌, ◌≤◌, ◌<◌}
use mathlib.Core.Path.{◌≡◌, sym, ◌∙◌, ap, subst}
use mathlib.Core.Bool.{Bool, true, false}
use mathlib.Core.List.{List}
use native.Mathlib.Omega.{arith}
use borrow.Rule.Slice.PartMut.{put_mid}
use lib.Dec.{T}
use lib.ListN.{length}
use Rattle.rules.specs.declared.Settings.{Settings}
use Rattle.rules.specs.Bytes.{pick}
use Rattle.rules.specs.Cell.{Positive, cells, card, present, width, has, without}
use Rattle.rules.specs.Limits.{Limits}
use Rattle.rules.specs.Stage.{Stage, tree_of}
use Rattle.laws.proofs.TestLaws.{by_test}
use Rattle.laws.proofs.CellLaws.{card_in, card-out, without_lt, without-half}
use Rattle.laws.proofs.StageLaws.{Ready}
use Rattle.masks.specs.Masks.{Known}
use Rattle.tables.specs.Part.{part, Shaped, stage_at}
use Rattle.stage_drops.specs.Working.{Proper}
use Rattle.stage_blocks.specs.Blocks.{stage_of}
use Rattle.stage_drops.proofs.DropLaws.{fewer-shaped}
use Rattle.stage_steps.specs.declared.gates.Extent.{Extent}
use Rattle.stages.specs.Staging.{Numbered, Starts, Written, Left, Behind, Smaller}
use Rattle.stages.proofs.LentLaws.{rest, rest-length, rest-stage, Back, back, back_behind}

pub proper-ready : {m : ℕ} {x : Stage} → Positive x.ks → Proper m x → Ready m x
proper-ready p h = record { grades = h.some; pos = p; good = record { room = h.ordered; top = h.top } }

pub ready-proper : {m : ℕ} {x : Stage} → Ready m x → Proper m x
ready-proper r = record { some = r.grades; ordered = r.good.room; top = r.good.top }

pub few-without : (t : ℕ) (ks : List ℕ) → ((i : ℕ) → card ks i ≤ 8) → (i : ℕ) → card (without t ks) i ≤ 8
few-without t ks h i =
    by_test (has t i) (λ b. let e = card_in t ks i b in omega arith) (λ n. let e = card-out t ks i n in let l = h i in omega arith)

-- what the buffer holds is the stage A
module _ (how : Settings) (m : ℕ) (may : Bool) {a w : List ℕ} (A : Stage) (e : stage_at a w 0 (cells a) ≡ A) where
  pub starts_as : {c r : ℕ} {known : Bool} → c ≡ cells a → Shaped A.ks → ((i : ℕ) → card A.ks i ≤ 8) → 24 * cells A.ks ≤ length w
      → (may ≡ true → 32 * cells A.ks ≤ length w) → Ready m A → (known ≡ true → Known m a w) → Numbered (tree_of how m may A) r → Starts how m a c known may w r
  starts_as {c} {r} o s f l g p k t =
      record {
        own = o;
        shaped = subst (λ (x : Stage). Shaped x.ks) (sym e) s;
        few = subst (λ (x : Stage). (i : ℕ) → card x.ks i ≤ 8) (sym e) f;
        work = subst (λ (x : Stage). 24 * cells x.ks ≤ length w) (sym e) l;
        more = λ h. subst (λ (x : Stage). 32 * cells x.ks ≤ length w) (sym e) (g h);
        proper = subst (Proper m) (sym e) (ready-proper p);
        masks = k;
        numbers = subst (λ (x : Stage). Numbered (tree_of how m may x) r) (sym e) t;
      }

  pub written_as : {want : Bool} {net : List ℕ} {r : ℕ} {of : Extent} {w' net' : List ℕ}
      → Written a (tree_of how m may (stage_at a w 0 (cells a))) 0 want w net r of w' net' → Written A.ks (tree_of how m may A) 0 want w net r of w' net'
  written_as {want} {net} {r} {of} {w'} {net'} h = subst (λ (x : Stage). Written x.ks (tree_of how m may x) 0 want w net r of w' net') e h

-- without a set of which the places have a condition, there are fewer conditions
pub smaller : (ks : List ℕ) (d : ℕ) → Positive ks → ((i : ℕ) × T (has d i)) → ((i : ℕ) → T (has d i) → T (present ks i)) → Smaller ks d
smaller ks d p a h = record { half = without-half d ks a.0 p (h a.0 a.1) a.1; fewer = without_lt d ks a.0 (h a.0 a.1) a.1 }

-- and room for their stage, which may take a weak join or not
pub smaller_behind : {m : ℕ} {y : Stage} {c : ℕ} {w : List ℕ} {may : Bool} (d : ℕ) → Left m y c w → Smaller y.ks d → Behind may (without d y.ks) c w
smaller_behind d l s =
    let o = l.own.own in
    let q = l.work in
    let h = s.half in
    record { work = omega arith; more = λ e. omega arith }

-- How the cycle ends: what is started has a lower number than what starts it. A stage that may take a weak join, and the functions between
-- it and that weak join, have numbers above those of a stage with as many conditions that may not
abbrev pub stage_rank : Bool → List ℕ → ℕ
stage_rank may ks = 16 * width ks + pick may 15 7

abbrev pub divide_rank : Bool → List ℕ → ℕ
divide_rank may ks = 16 * width ks + pick may 14 6

abbrev pub join_rank : Bool → List ℕ → ℕ
join_rank may ks = 16 * width ks + pick may 0 8

pub rank-fewer : (may : Bool) (a ks : List ℕ) → width a < width ks → stage_rank may a < 16 * width ks
rank-fewer true a ks h = omega arith
rank-fewer false a ks h = omega arith

pub divide_some : (may : Bool) (ks : List ℕ) → 16 * width ks + 1 < divide_rank may ks
divide_some true ks = omega arith
divide_some false ks = omega arith

pub stage-some : (may : Bool) (a ks : List ℕ) → width a ≤ width ks → 16 * width a < stage_rank may ks
stage-some true a ks h = omega arith
stage-some false a ks h = omega arith

-- a buffer v as long as that of the stage y, and the places a that y has without the set d
pub record Lent (m : ℕ) (y : Stage) (c : ℕ) (w : List ℕ) (d : ℕ) (may : Bool) (a v : List ℕ) : Type 0 where
  pub left : Left m y c w
  pub room : Behind may (without d y.ks) c w
  pub places : a ≡ without d y.ks
  pub len : length v ≡ length w

-- a stage over them, laid behind the parts of y
module _ {m : ℕ} {y : Stage} {c : ℕ} {w : List ℕ} {d : ℕ} {may : Bool} {a v : List ℕ} (z : Lent m y c w d may a v) where
  pub behind : 8 * c + cells a + cells a ≤ length v
  behind =
      let q = z.room.work in
      let g = ap cells z.places in
      let n = z.len in
      omega arith

  pub child-stage : {A : Stage} → stage_at a v (8 * c) (8 * c + cells a) ≡ A → stage_at a (rest (8 * c) v) 0 (cells a) ≡ A
  child-stage q = rest-stage (8 * c) a v behind ∙ q

  pub child_starts : {how : Settings} {k r : ℕ} {known : Bool} (l : Limits) → k ≡ cells a → stage_at a (rest (8 * c) v) 0 (cells a) ≡ stage_of (without d y.ks) l
      → Ready m (stage_of (without d y.ks) l) → (known ≡ true → Known m a (rest (8 * c) v)) → Numbered (tree_of how m may (stage_of (without d y.ks) l)) r
      → Starts how m a k known may (rest (8 * c) v) r
  child_starts {how} l i q p g f =
      let t = z.room.work in
      let n = z.len in
      let k = rest-length (8 * c) v in
      starts_as how m may (stage_of (without d y.ks) l) q i (fewer-shaped d z.left.own.shaped) (few-without d y.ks z.left.few) (omega arith)
      (λ e. let u = z.room.more e in omega arith) p g f

  pub child-back : {u : List ℕ} → length u ≡ length (rest (8 * c) v) → Back (8 * c) v u (put_mid (8 * c) (length v - 8 * c) v u)
  child-back {u} q = let h = behind in back (8 * c) v u (omega arith) q

  -- the function that it leaves there
  pub child-function : {u v' f : List ℕ} → Back (8 * c) v u v' → part u 0 (cells (without d y.ks)) ≡ f → part v' (8 * c) (cells a) ≡ f
  child-function {u} k q =
      let h = behind in
      let b = k.long in
      back_behind (cells a) k (omega arith) (omega arith) ∙ ap (λ (p : List ℕ). part u 0 (cells p)) z.places ∙ q
