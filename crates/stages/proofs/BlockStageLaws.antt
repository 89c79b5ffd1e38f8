-- 01, Stages, step 5: a join's two stages, one behind the other.
use Prim.Native.Nat.{ℕ, ◌+◌, ◌-◌, ◌*◌, ◌≤◌, ◌<◌}
use mathlib.Core.Path.{◌≡◌, refl, sym, ◌∙◌, ap, ap₂, subst}
use mathlib.Core.Bool.{Bool, true, false}
use mathlib.Core.List.{List}
use native.Mathlib.Nat.{le_trans}
use native.Mathlib.Omega.{arith}
use borrow.Rule.Slice.PartMut.{put_mid}
use lib.Dec.{T}
use lib.ListN.{length}
use Rattle.rules.specs.declared.Gate.{Gate}
use Rattle.rules.specs.declared.Settings.{Settings}
use Rattle.rules.specs.Bytes.{at, tabulate}
use Rattle.rules.specs.Cell.{cells, width, value, without, moved}
use Rattle.rules.specs.Limits.{Limits}
use Rattle.rules.specs.Join.{exchange_for}
use Rattle.rules.specs.Network.{combine}
use Rattle.rules.specs.Stage.{Stage, first_stage, second_stage, computed, join_tree, tree_of}
use Rattle.laws.proofs.CellLaws.{without_le}
use Rattle.laws.proofs.GateLaws.{Good, exchange_for_good}
use Rattle.laws.proofs.JoinLaws.{u_a-under, u_b-under}
use Rattle.laws.proofs.TreeLaws.{computed-at, made_below}
use Rattle.laws.proofs.StageLaws.{Ready, network_ok, first-ready, second_of}
use Rattle.laws.proofs.FunctionLaws.{first-moved, joined}
use Rattle.tables.specs.Part.{part, stage_at}
use Rattle.join_tables.specs.Parts.{Below}
use Rattle.stage_drops.specs.Working.{ForSecond}
use Rattle.stage_blocks.specs.Blocks.{stage_of, Standing, FirstRoom, FirstLaid, SecondRoom, SecondLaid, JoinedRoom}
use Rattle.stage_blocks.proofs.BlockLaws.{there, standing_trans}
use Rattle.stage_drops.proofs.DropLaws.{fewer-shaped, as_shaped}
use Rattle.stage_steps.specs.declared.gates.Extent.{Extent}
use Rattle.stage_steps.specs.Extents.{GateRoom}
use Rattle.stage_steps.specs.Ends.{Closed}
use Rattle.stage_steps.proofs.ExtentLaws.{gate-room, tree-gate}
use Rattle.stage_steps.proofs.WantLaws.{wanted-both, wanted-length}
use Rattle.weak_joins.proofs.OpenLaws.{part-below}
use Rattle.stages.specs.Staging.{Starts, Written, Behind, Joins}
use Rattle.stages.proofs.LentLaws.{rest, Back, back-front}
use Rattle.stages.proofs.ChildLaws.{proper-ready, written_as, smaller_behind, stage_rank, join_rank, rank-fewer, Lent, behind, child-stage, child_starts, child-back, child-function}

-- whatever is asked where a flag is set, of one that is not: a block's masks are not known
pub unknown : {P : Type 0} → false ≡ true → P
unknown e = absurd (subst T (sym e) tt)

-- part 0, and parts 4 and 5, while a stage works behind the parts
standing-back : {c : ℕ} {w v w' : List ℕ} → Back (8 * c) w v w' → 8 * c ≤ length w → Standing c w w'
standing-back {c} k h = record { lows = back-front 0 c k (omega arith) h; aside = back-front (4 * c) (2 * c) k (omega arith) h }

module _ {how : Settings} {gate : Gate} {m : ℕ} {ks : List ℕ} {l : Limits} {s t : ℕ} {may : Bool} {c : ℕ} {w : List ℕ} {r : ℕ} (j : Joins how gate m (stage_of ks l) s t may c w r) where
  abbrev y : Stage
  y = stage_of ks l

  ready : Ready m y
  ready = proper-ready j.left.own.shaped.some j.left.proper

  abbrev A : Stage
  A = first_stage m gate s t y

  abbrev g : List ℕ
  g = computed ks (tree_of how m may A)

  abbrev B : Stage
  B = second_stage m gate s t y g

  second_behind : Behind true (without s ks) c w
  second_behind = smaller_behind s j.left j.second

  lent : {d : ℕ} {q : Bool} (a v : List ℕ) → Behind q (without d ks) c w → a ≡ without d ks → length v ≡ length w → Lent m y c w d q a v
  lent a v h e n = record { left = j.left; room = h; places = e; len = n }

  good : Good ks m (exchange_for gate ks m l)
  good = exchange_for_good ks m gate l ready.good

  lows-below : {v : List ℕ} → ForSecond gate m y s t v → Below v 0 (cells ks) m
  lows-below f = part-below (exchange_for gate ks m l).lower f.lows (λ k h. le_trans (good.room k h) (good.top k h))

  pub first-room : FirstRoom w ks m t c
  first-room =
      let h = behind (lent (without t ks) w j.first-room refl refl) in
      record {
        own = j.left.own;
        space = omega arith;
        some = ready.grades;
        lows = lows-below j.tables.second;
        firsts =
            part-below _ (there w (λ i. 2 * i) j.left.own.own ∙ j.tables.firsts) (λ k h. le_trans (u_a-under ks s t (exchange_for gate ks m l).lower (exchange_for gate ks m l).upper k h) (good.top k h));
      }

  -- the first block's stage
  module _ {a w₁ : List ℕ} (f : FirstLaid gate m ks t c w a w₁) where
    first-lent : Lent m y c w t may a w₁
    first-lent = lent a w₁ j.first-room f.places f.len

    first-stage : stage_at a (rest (8 * c) w₁) 0 (cells a) ≡ A
    first-stage = child-stage first-lent (f.stage s l j.tables)

    pub first_starts : {n : ℕ} → n ≡ cells a → Starts how m a n false may (rest (8 * c) w₁) r
    first_starts e = child_starts first-lent A.limits e first-stage (first-ready m gate s t y ready j.exists) unknown (let i = j.numbers in omega arith)

    pub first_falls : stage_rank may a < join_rank may ks
    first_falls = go may j.first-fewer
      where
        go : (q : Bool) → (q ≡ true → width (without t ks) < width ks) → stage_rank q a < join_rank q ks
        go true h = let e = ap width f.places in let g = rank-fewer true a ks (omega (arith, h refl)) in omega arith
        go false h = let e = ap width f.places in let g = without_le t ks in omega arith

    pub first_back : {net v net₁ : List ℕ} {e₁ : Extent} → Written a (tree_of how m may (stage_at a (rest (8 * c) w₁) 0 (cells a))) 0 true (rest (8 * c) w₁) net r e₁ v net₁
        → Back (8 * c) w₁ v (put_mid (8 * c) (length w₁ - 8 * c) w₁ v)
    first_back x = child-back first-lent x.len

    -- once it is done
    module _ {net v net₁ w₂ : List ℕ} {e₁ : Extent} (x : Written a (tree_of how m may (stage_at a (rest (8 * c) w₁) 0 (cells a))) 0 true (rest (8 * c) w₁) net r e₁ v net₁) (k : Back (8 * c) w₁ v w₂) where
      first_done : Written A.ks (tree_of how m may A) 0 true (rest (8 * c) w₁) net r e₁ v net₁
      first_done = written_as how m may A first-stage x

      same_length : length w₂ ≡ length w
      same_length = k.len ∙ f.len

      kept-part : (i : ℕ) → i + cells ks ≤ 8 * c → part w₂ i (cells ks) ≡ part w₁ i (cells ks)
      kept-part i h = let q = j.left.work in let n = f.len in back-front i (cells ks) k h (omega arith)

      second-tables : ForSecond gate m y s t w₂
      second-tables =
          let o = j.left.own.own in
          let u = f.second s l j.tables.second in
          record { lows = kept-part 0 (omega arith) ∙ u.lows; seconds = sym (there w₂ (λ i. i) o) ∙ kept-part c (omega arith) ∙ there w₁ (λ i. i) o ∙ u.seconds }

      block_here : part w₂ (8 * c) (cells a) ≡ computed A.ks (tree_of how m may A)
      block_here = child-function first-lent k (first_done.function refl)

      given : moved a ks (part w₂ (8 * c) (cells a)) ≡ g
      given = ap₂ (λ (p q : List ℕ). moved p ks q) f.places block_here ∙ sym (first-moved how m y ready may gate s t j.exists)

      grade-below : (i : ℕ) → i < cells a → at (computed A.ks (tree_of how m may A)) i ≤ m - 1
      grade-below i h =
          let e = ap cells f.places in
          let b = made_below A.ks m (tree_of how m may A) (network_ok how m may A (first-ready m gate s t y ready j.exists)).made (value A.ks i) in
          let q = computed-at A.ks (tree_of how m may A) i (omega arith) in
          omega arith

      pub second-room : SecondRoom w₂ ks a m s c
      second-room =
          let h = behind (lent a w₂ j.first-room f.places same_length) in
          let h' = behind (lent (without s ks) w₂ second_behind refl same_length) in
          let o = j.left.own.own in
          record {
            own = record { shaped = j.left.own.shaped; own = o; room = omega arith };
            shaped = as_shaped f.places (fewer-shaped t j.left.own.shaped);
            block = omega arith;
            space = omega arith;
            some = ready.grades;
            lows = lows-below second-tables;
            seconds =
                part-below _ (there w₂ (λ i. i) o ∙ second-tables.seconds)
                (λ i h. le_trans (u_b-under ks s t (exchange_for gate ks m l).lower (exchange_for gate ks m l).upper i h) (good.top i h));
            grades = part-below _ block_here grade-below;
          }

      -- the second block's stage
      module _ {b w₃ : List ℕ} (z : SecondLaid gate m ks a s c w₂ b w₃) where
        whole_length : length w₃ ≡ length w
        whole_length = z.len ∙ same_length

        second-lent : Lent m y c w s true b w₃
        second-lent = lent b w₃ second_behind z.places whole_length

        second-stage : stage_at b (rest (8 * c) w₃) 0 (cells b) ≡ B
        second-stage = child-stage second-lent (z.stage t l second-tables ∙ ap (second_stage m gate s t y) given)

        pub second_starts : {n : ℕ} → n ≡ cells b → Starts how m b n false true (rest (8 * c) w₃) e₁.next
        second_starts e =
            let i = j.numbers in
            let p = first_done.put.extent.next in
            child_starts second-lent B.limits e second-stage (second_of how m gate s t y ready j.exists may) unknown (omega arith)

        pub second_falls : stage_rank true b < join_rank may ks
        second_falls = let e = ap width z.places in let g = rank-fewer true b ks (let h = j.second.fewer in omega arith) in omega arith

        pub second_back : {want : Bool} {v' net₂ : List ℕ} {e₂ : Extent} → Written b (tree_of how m true (stage_at b (rest (8 * c) w₃) 0 (cells b))) 0 want (rest (8 * c) w₃) net₁ e₁.next e₂ v' net₂
            → Back (8 * c) w₃ v' (put_mid (8 * c) (length w₃ - 8 * c) w₃ v')
        second_back x' = child-back second-lent x'.len

        -- both are done
        module _ {want : Bool} {v' net₂ w₄ : List ℕ} {e₂ : Extent} (x' : Written b (tree_of how m true (stage_at b (rest (8 * c) w₃) 0 (cells b))) 0 want (rest (8 * c) w₃) net₁ e₁.next e₂ v' net₂)
            (k' : Back (8 * c) w₃ v' w₄) where
          second-done : Written B.ks (tree_of how m true B) 0 want (rest (8 * c) w₃) net₁ e₁.next e₂ v' net₂
          second-done = written_as how m true B second-stage x'

          pub close_room : JoinedRoom w₄ ks b c × GateRoom e₁ e₂
          close_room =
              let h = behind (lent b w₄ second_behind z.places (k'.len ∙ whole_length)) in
              let o = j.left.own.own in (
                record {
                  own = record { shaped = j.left.own.shaped; own = o; room = omega arith };
                  shaped = as_shaped z.places (fewer-shaped s j.left.own.shaped);
                  block = omega arith;
                },
                gate-room first_done.put.extent second-done.put.extent (let i = j.numbers in omega arith),
              )

          first_part : part w₄ (6 * c) (cells ks) ≡ moved A.ks ks (computed A.ks (tree_of how m may A))
          first_part =
              let o = j.left.own.own in
              let q = j.left.work in
              let n = whole_length in
              back-front (6 * c) (cells ks) k' (omega arith) (omega arith) ∙ z.first ∙ ap₂ (λ (p q : List ℕ). moved p ks q) f.places block_here

          second-part : want ≡ true → moved b ks (part w₄ (8 * c) (cells b)) ≡ moved B.ks ks (computed B.ks (tree_of how m true B))
          second-part h =
              ap₂ (λ (p q : List ℕ). moved p ks q) z.places (child-function second-lent k' (second-done.function h))

          pub joined-whole : {of : Extent} {w₅ net₃ : List ℕ} → Closed gate ks b c e₁ e₂ want w₄ net₂ of w₅ net₃ → Written ks (join_tree m (tree_of how m) may gate s t y) 0 want w net r of w₅ net₃
          joined-whole d =
              record {
                put = tree-gate first_done.put second-done.put d.gate;
                function = λ h.
                    (d.function.on h).here
                    ∙ ap₂ (λ (p q : List ℕ). tabulate (cells ks) (λ i. combine gate (at p i) (at q i))) first_part (second-part h)
                    ∙ sym (joined how m y ready may gate s t j.exists);
                len = wanted-length d.function (λ f. f.len) ∙ k'.len ∙ whole_length;
              }

          stands : Standing c w w₄
          stands =
              let q = j.left.work in
              let n = f.len in
              let n' = whole_length in
              standing_trans f.standing (standing_trans (standing-back k (omega arith)) (standing_trans z.standing (standing-back k' (omega arith))))

          module _ {of : Extent} {w₅ net₃ : List ℕ} (d : Closed gate ks b c e₁ e₂ want w₄ net₂ of w₅ net₃) where
            pub joined-aside : part w₅ (4 * c) (2 * c) ≡ part w (4 * c) (2 * c)
            joined-aside = wanted-both d.function (λ h. h.aside) (ap (λ (v : List ℕ). part v (4 * c) (2 * c))) ∙ stands.aside

            pub joined-lows : want ≡ false → part w₅ 0 c ≡ part w 0 c
            joined-lows h = ap (λ (v : List ℕ). part v 0 c) (d.function.off h) ∙ stands.lows
