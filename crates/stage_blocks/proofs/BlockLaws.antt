-- Laws of step 5 in a stage's buffer.
use Prim.Native.Nat.{ℕ, ◌+◌, ◌-◌, ◌*◌, ◌≤◌, ◌<◌}
use mathlib.Core.Path.{◌≡◌, refl, sym, ◌∙◌, ap, ap₂, subst}
use mathlib.Core.List.{List, ◌++◌}
use mathlib.Core.Logic.{◌⊎◌, inl, inr, ⊎_elim}
use native.Mathlib.Omega.{arith}
use lib.ListN.{length, get_or-append}
use lib.Seq.{get_or-append-add}
use Rattle.rules.specs.declared.Gate.{Gate}
use Rattle.rules.specs.declared.Gate.TheVariants.{Min, Max}
use Rattle.rules.specs.Bytes.{at, tabulate}
use Rattle.rules.specs.Cell.{cells, value, remap, without, moved, greatest_over}
use Rattle.rules.specs.Join.{above, complement, exchange, exchange_for, exchange_block_for}
use Rattle.rules.specs.Limits.{Limits, limits_of, each}
use Rattle.rules.specs.Network.{combine}
use Rattle.rules.specs.Stage.{outside}
use Rattle.laws.proofs.TableLaws.{length-tabulate_from}
use Rattle.laws.proofs.CellLaws.{cell_lt, moved_at}
use Rattle.tables.specs.Part.{part, Laid, Shaped, Apart, Two, stage_at}
use Rattle.tables.proofs.PartLaws.{part_length, laid_as, laid-part, laid-apart}
use Rattle.join_tables.specs.Parts.{turned, Below}
use Rattle.join_tables.proofs.HoldLaws.{laid-within, holds-part}
use Rattle.join_tables.proofs.TurnLaws.{below-part}
use Rattle.join_tables.proofs.StepLaws.{before, behind, above-below, grades-below}
use Rattle.stage_drops.specs.Working.{Room}
use Rattle.stage_blocks.specs.Blocks.{stage_of, Clear, Source, LimitsRoom, LimitsLaid, Standing, FirstRoom, FirstLaid, SecondRoom, SecondLaid, JoinedRoom, JoinedLaid}
use Rattle.stage_drops.proofs.DropLaws.{fewer-shaped}

-- a table laid with a count of cells, as the part of that many
count-part : {w w' : List ℕ} {a n k : ℕ} (f : ℕ → List ℕ) → n ≡ k → a + k ≤ length w → length (f k) ≡ k → Laid w a (f n) n w' → part w' a k ≡ f k
count-part {w} {w'} {a} f e h q l = laid-part (subst (λ (i : ℕ). Laid w a (f i) i w') e l) h q

-- a part at f c, there being as many cells as a part has bytes
pub there : (w : List ℕ) {c k : ℕ} (f : ℕ → ℕ) → c ≡ k → part w (f c) k ≡ part w (f k) k
there w {c} {k} f e = ap (λ (x : ℕ). part w (f x) k) e

-- two tables laid one behind the other, as the parts where they stand
laid_both : {w w' s t : List ℕ} {a n : ℕ} → length s ≡ n → length t ≡ n → a + 2 * n ≤ length w → Laid w a (s ++ t) (2 * n) w'
    → (part w' a n ≡ s) × (part w' (a + n) n ≡ t)
laid_both {w} {w'} {s} {t} {a} {n} e f h l =
    let q = l.len in (
      holds-part (record { here = λ k lt. l.here k (omega arith) ∙ get_or-append s t 0 k (omega arith) }) (omega arith) e,
      holds-part
          (record {
            here = λ k lt.
                let i : a + n + k ≡ a + (length s + k) = omega arith in
                ap (at w') i ∙ l.here (length s + k) (omega arith) ∙ get_or-append-add s t k 0;
          })
          (omega arith)
          f,
    )

clear-front : {a n c : ℕ} → a + n ≤ 3 * c → Clear a n c
clear-front h = record { aside = inl h }

clear-back : {a n c : ℕ} → 4 * c ≤ a → a + n ≤ 7 * c → Clear a n c
clear-back h i = record { aside = inr (h, i) }

pub clear-inside : {a n c : ℕ} → Clear a n c → a + n ≤ 8 * c
clear-inside h = ⊎_elim (λ x. omega arith) (λ x. let y = x.1 in omega arith) h.aside

-- one of the two parts that limits may need
abbrev Spare : ℕ → ℕ → Type 0
Spare d c = (d ≡ 3 * c) ⊎ (d ≡ 7 * c)

clear_apart : {w : List ℕ} {a k d c : ℕ} → 8 * c ≤ length w → Clear a k c → Spare d c → Apart w a k d c
clear_apart r h (inl e) =
    let i = clear-inside h in
    record { src = omega arith; dst = omega arith; apart = ⊎_elim (λ x. inl (omega arith)) (λ x. let y = x.0 in inr (omega arith)) h.aside }
clear_apart r h (inr e) =
    let i = clear-inside h in
    record { src = omega arith; dst = omega arith; apart = ⊎_elim (λ x. inl (omega arith)) (λ x. let y = x.1 in inl (omega arith)) h.aside }

-- two tables moved to 8 × c
module _ {w ks b : List ℕ} {c : ℕ} (r : LimitsRoom w ks b c) where
  ahead : {a n : ℕ} → a + n ≤ 8 * c → Apart w a n (8 * c) (2 * cells b)
  ahead h = before _ _ (8 * c) (2 * cells b) h r.space

  pub lay_both : {low high n : ℕ} → low + cells ks ≤ 8 * c → high + cells ks ≤ 8 * c → n ≡ cells b
      → Shaped ks × Shaped b × (n ≡ cells b) × Apart w low (cells ks) (8 * c) (2 * cells b) × Apart w high (cells ks) (8 * c) (2 * cells b)
  lay_both hl hh e = (r.own.shaped, r.shaped, e, ahead hl, ahead hh)

  pub both-laid : {w' : List ℕ} (low high : ℕ)
      → Laid w (8 * c) (moved ks b (part w low (cells ks)) ++ moved ks b (part w high (cells ks))) (2 * cells b) w'
      → LimitsLaid ks b (stage_at ks w low high).limits c w w'
  both-laid low high l =
      let parts = laid_both (length-tabulate_from _ 0 (cells b)) (length-tabulate_from _ 0 (cells b)) r.space l in
      record {
        stage = ap₂ (λ (x y : List ℕ). stage_of b (limits_of x y)) parts.0 parts.1;
        kept = λ a n h. laid-apart (ahead (clear-inside h)) l;
        len = l.len;
      }

-- limits laid for the gate that was found
pub laid-gate : {gate g : Gate} {ks b w w' : List ℕ} {c : ℕ} (m low high : ℕ) → gate ≡ g → LimitsLaid ks b (exchange_for g ks m (stage_at ks w low high).limits) c w w'
    → LimitsLaid ks b (exchange_for gate ks m (stage_at ks w low high).limits) c w w'
laid-gate {ks = ks} {b} {w} {w'} {c} m low high e x = subst (λ (g : Gate). LimitsLaid ks b (exchange_for g ks m (stage_at ks w low high).limits) c w w') (sym e) x

complement-part : {w w' : List ℕ} (ks : List ℕ) (m from : ℕ) {to n : ℕ} → n ≡ cells ks → to + cells ks ≤ length w → Laid w to (tabulate n (λ k. m - 1 - at (part w from n) k)) n w'
    → part w' to (cells ks) ≡ complement ks m (part w from (cells ks))
complement-part {w} ks m from e h l = count-part (λ i. tabulate i (λ k. m - 1 - at (part w from i) k)) e h (length-tabulate_from _ 0 (cells ks)) l

-- for min they are exchanged, in parts 3 and 7
module _ {w ks b : List ℕ} {m c low high : ℕ} (r : LimitsRoom w ks b c) (lo : Source w low (cells ks) m c) (hi : Source w high (cells ks) m c) where
  exchanging : {v : List ℕ} {a : ℕ} (d : ℕ) → length v ≡ length w → part v a c ≡ part w a c → Source w a (cells ks) m c → Spare d c
      → Two v a d c × ((k : ℕ) → k < c → at (part v a c) k ≤ m - 1)
  exchanging {v} {a} d q p x s =
      let o = r.own.own in
      let u = r.own.room in
      let y : Source w a c m c = subst (λ (i : ℕ). Source w a i m c) (sym r.own.own) x in
      (clear_apart (omega arith) y.clear s, λ k h. rw p (below-part y.grades k h))

  pub exchange-upper : Two w high (3 * c) c × ((k : ℕ) → k < c → at (part w high c) k ≤ m - 1)
  exchange-upper = exchanging (3 * c) refl refl hi (inl refl)

  module _ {w₁ : List ℕ} (l : Laid w (3 * c) (tabulate c (λ k. m - 1 - at (part w high c) k)) c w₁) where
    pub exchange-lower : Two w₁ low (7 * c) c × ((k : ℕ) → k < c → at (part w₁ low c) k ≤ m - 1)
    exchange-lower =
        exchanging (7 * c) l.len (laid-apart (exchanging (3 * c) refl refl lo (inl refl)).0 l) lo (inr refl)

    module _ {w₂ : List ℕ} (j : Laid w₁ (7 * c) (tabulate c (λ k. m - 1 - at (part w₁ low c) k)) c w₂) where
      pub exchanged_room : LimitsRoom w₂ ks b c × (3 * c + cells ks ≤ 8 * c) × (7 * c + cells ks ≤ 8 * c)
      exchanged_room =
          let o = r.own.own in
          let u = r.own.room in
          let s = r.space in
          let p = l.len in
          let q = j.len in
          (record { own = record { shaped = r.own.shaped; own = o; room = omega arith }; shaped = r.shaped; space = omega arith }, omega arith, omega arith)

      pub laid-min : {w₃ : List ℕ} → LimitsLaid ks b (stage_at ks w₂ (3 * c) (7 * c)).limits c w₂ w₃
          → LimitsLaid ks b (exchange ks m (stage_at ks w low high).limits) c w w₃
      laid-min x =
          let o = r.own.own in
          let u = r.own.room in
          let p = l.len in
          let stays : (a k : ℕ) → Clear a k c → part w₁ a k ≡ part w a k = λ a k h. laid-apart (clear_apart u h (inl refl)) l in
          let lower : part w₂ (3 * c) (cells ks) ≡ complement ks m (part w high (cells ks)) =
          laid-apart (before (3 * c) (cells ks) (7 * c) c (omega arith) (omega arith)) j
          ∙ complement-part ks m high r.own.own (omega arith) l in
          let upper : part w₂ (7 * c) (cells ks) ≡ complement ks m (part w low (cells ks)) =
          complement-part ks m low r.own.own (omega arith) j ∙ ap (complement ks m) (stays low (cells ks) lo.clear) in
          record {
            stage = x.stage ∙ ap₂ (λ (y z : List ℕ). stage_of b (each (moved ks b) (limits_of y z))) lower upper;
            kept = λ a k h. x.kept a k h ∙ laid-apart (clear_apart (omega arith) h (inr refl)) j ∙ stays a k h;
            len = x.len ∙ j.len ∙ p;
          }

-- what stands after two steps, after a table laid beside it, and after limits laid
pub standing_trans : {c : ℕ} {w v w' : List ℕ} → Standing c w v → Standing c v w' → Standing c w w'
standing_trans p q = record { lows = q.lows ∙ p.lows; aside = q.aside ∙ p.aside }

laid-standing : {w w' t : List ℕ} {c a n : ℕ} → 8 * c ≤ length w → a + n ≤ length w → c ≤ a → (a + n ≤ 4 * c) ⊎ (6 * c ≤ a) → Laid w a t n w' → Standing c w w'
laid-standing {c = c} {a} {n} r h le s l =
    record {
      lows = laid-apart (before 0 c a n (omega arith) h) l;
      aside = laid-apart (record { src = omega arith; dst = h; apart = ⊎_elim (λ x. inr x) (λ x. inl (omega arith)) s }) l;
    }

limits-standing : {ks b w w' : List ℕ} {i : Limits} {c : ℕ} → LimitsLaid ks b i c w w' → Standing c w w'
limits-standing {c = c} x = record { lows = x.kept 0 c (clear-front (omega arith)); aside = x.kept (4 * c) (2 * c) (clear-back (omega arith) (omega arith)) }

-- where the places without a set are laid
limits-room : {w w₁ ks b : List ℕ} {c : ℕ} (t : ℕ) → Room w ks c → 8 * c + 2 * cells (without t ks) ≤ length w → length w₁ ≡ length w → b ≡ without t ks → LimitsRoom w₁ ks b c
limits-room {w} {w₁} {ks} {b} {c} t r s q p =
    let m = r.room in
    subst (λ (d : List ℕ). LimitsRoom w₁ ks d c) (sym p)
    (record {
      own = record { shaped = r.shaped; own = r.own; room = omega arith };
      shaped = fewer-shaped t r.shaped;
      space = omega arith;
    })

-- the stage laid is the one without the set, given what the two tables are
outside-laid : (gate : Gate) (m : ℕ) (ks : List ℕ) {b x y w w' : List ℕ} {c : ℕ} (set low high : ℕ) (l : Limits)
    → LimitsLaid ks b (exchange_for gate ks m (stage_at ks w low high).limits) c w w' → b ≡ without set ks → part w low (cells ks) ≡ x → part w high (cells ks) ≡ y
    → stage_at b w' (8 * c) (8 * c + cells b) ≡ outside set (stage_of ks l) (exchange_for gate ks m (limits_of x y))
outside-laid gate m ks set low high l z p ex ey =
    z.stage ∙ ap₂ (λ (d : List ℕ) (i : Limits). stage_of d (each (moved ks d) (exchange_for gate ks m i))) p (ap₂ limits_of ex ey)

-- the lower limits of a block, given what the tables are that they are made from
above-part : {w w' : List ℕ} (ks : List ℕ) (set low high : ℕ) {to n : ℕ} {x y : List ℕ} → n ≡ cells ks → to + cells ks ≤ length w
    → Laid w to (greatest_over ks set (tabulate n (λ k. above (at (part w low n) k) (at (part w high n) k)))) n w'
    → part w low (cells ks) ≡ x → part w high (cells ks) ≡ y
    → part w' to (cells ks) ≡ greatest_over ks set (tabulate (cells ks) (λ k. above (at x k) (at y k)))
above-part {w} ks set low high e h l ex ey =
    count-part (λ i. greatest_over ks set (tabulate i (λ k. above (at (part w low i) k) (at (part w high i) k)))) e h (length-tabulate_from _ 0 (cells ks)) l
    ∙ ap₂ (λ (s t : List ℕ). greatest_over ks set (tabulate (cells ks) (λ k. above (at s k) (at t k)))) ex ey

-- grades of a table that was moved
moved-below : {w w' a : List ℕ} (ks : List ℕ) {from to m : ℕ} → Shaped a → Below w from (cells a) m → Laid w to (moved a ks (part w from (cells a))) (cells ks) w' → Below w' to (cells ks) m
moved-below {w} {w'} {a} ks {from} s b l =
    record { grade = λ k h. rw (l.here k h ∙ moved_at a ks (part w from (cells a)) k h) (below-part b (remap ks a k) (cell_lt a (value ks k) s.some)) }

count-below : {w : List ℕ} {a n k m : ℕ} → n ≡ k → Below w a n m → Below w a k m
count-below {w} {a} {m = m} e b = subst (λ (i : ℕ). Below w a i m) e b

-- the first block's table
module _ {w ks : List ℕ} {m t c : ℕ} (r : FirstRoom w ks m t c) where
  pub first_above : Shaped ks × (c ≡ cells ks) × Two w 0 (6 * c) c × Two w c (6 * c) c
  first_above =
      let o = r.own.own in
      let u = r.own.room in
      (r.own.shaped, r.own.own, before 0 c (6 * c) c (omega arith) (omega arith), before c c (6 * c) c (omega arith) (omega arith))

  module _ {b w₁ : List ℕ} (p : b ≡ without t ks) (l : Laid w (6 * c) (greatest_over ks t (tabulate c (λ k. above (at (part w 0 c) k) (at (part w c c) k)))) c w₁) where
    pub first-limits : LimitsRoom w₁ ks b c × (1 ≤ m) × Source w₁ (6 * c) (cells ks) m c × Source w₁ (2 * c) (cells ks) m c
    first-limits =
        let o = r.own.own in (
          limits-room t r.own r.space l.len p,
          r.some,
          record { clear = clear-back (omega arith) (omega arith); grades = count-below r.own.own (above-below ks t c r.own.own l (count-below (sym r.own.own) r.lows)) },
          record { clear = clear-front (omega arith); grades = grades-below (laid-within l) (omega arith) r.firsts },
        )

    pub first-laid : (gate : Gate) {w₂ : List ℕ} → LimitsLaid ks b (exchange_for gate ks m (stage_at ks w₁ (6 * c) (2 * c)).limits) c w₁ w₂ → FirstLaid gate m ks t c w b w₂
    first-laid gate {w₂} x =
        let o = r.own.own in
        let u = r.own.room in
        let stays : (a : ℕ) → a + c ≤ 6 * c → part w₁ a (cells ks) ≡ part w a (cells ks) =
        λ a h. laid-apart (before a (cells ks) (6 * c) c (omega arith) (omega arith)) l in
        record {
          places = p;
          stage = λ s i f.
              outside-laid gate m ks t (6 * c) (2 * c) i x p (above-part ks t 0 c r.own.own (omega arith) l f.second.lows (there w (λ i. i) r.own.own ∙ f.second.seconds))
              (stays (2 * c) (omega arith) ∙ there w (λ i. 2 * i) r.own.own ∙ f.firsts);
          second = λ s i f.
              record {
                lows = x.kept 0 (cells ks) (clear-front (omega arith)) ∙ stays 0 (omega arith) ∙ f.lows;
                seconds = sym (there w₂ (λ i. i) r.own.own) ∙ x.kept c (cells ks) (clear-front (omega arith)) ∙ stays c (omega arith) ∙ there w (λ i. i) r.own.own ∙ f.seconds;
              };
          standing = standing_trans (laid-standing u (omega arith) (omega arith) (inr (omega arith)) l) (limits-standing x);
          len = x.len ∙ l.len;
        }

turned-block : (gate : Gate) (ks : List ℕ) (m : ℕ) (t : List ℕ) → turned gate (cells ks) m t ≡ exchange_block_for gate ks m t
turned-block Max ks m t = refl
turned-block Min ks m t = refl

turned-length : (gate : Gate) (n m : ℕ) (t : List ℕ) → length t ≡ n → length (turned gate n m t) ≡ n
turned-length Max n m t e = e
turned-length Min n m t e = length-tabulate_from _ 0 n

-- the second block's table
module _ {w ks a : List ℕ} {m s c : ℕ} (r : SecondRoom w ks a m s c) where
  pub second-moved : Shaped a × Shaped ks × (c ≡ cells ks) × Apart w (8 * c) (cells a) (6 * c) (cells ks)
  second-moved = let o = r.own.own in (r.shaped, r.own.shaped, o, behind (8 * c) (cells a) (6 * c) (cells ks) (omega arith) r.block)

  module _ {w₁ : List ℕ} (l₁ : Laid w (6 * c) (moved a ks (part w (8 * c) (cells a))) (cells ks) w₁) where
    pub second-exchange : (1 ≤ m) × Two w₁ (6 * c) (7 * c) c × Below w₁ (6 * c) c m
    second-exchange =
        let o = r.own.own in
        let v = r.own.room in
        let q₁ = l₁.len in
        (r.some, before (6 * c) c (7 * c) c (omega arith) (omega arith), count-below (sym r.own.own) (moved-below ks r.shaped r.grades l₁))

    module _ {u w₂ : List ℕ} (l₂ : Laid w₁ (7 * c) u c w₂) where
      pub second_above : Shaped ks × (c ≡ cells ks) × Two w₂ 0 (2 * c) c × Two w₂ (7 * c) (2 * c) c
      second_above =
          let o = r.own.own in
          let v = r.own.room in
          let q₁ = l₁.len in
          let q₂ = l₂.len in
          (r.own.shaped, r.own.own, before 0 c (2 * c) c (omega arith) (omega arith), behind (7 * c) c (2 * c) c (omega arith) (omega arith))

      stays_in_both : (i : ℕ) → i + c ≤ 6 * c → part w₂ i (cells ks) ≡ part w i (cells ks)
      stays_in_both i h =
          let o = r.own.own in
          let v = r.own.room in
          let q₁ = l₁.len in
          laid-apart (before i (cells ks) (7 * c) c (omega arith) (omega arith)) l₂ ∙ laid-apart (before i (cells ks) (6 * c) (cells ks) (omega arith) (omega arith)) l₁

      first_block : part w₁ (6 * c) (cells ks) ≡ moved a ks (part w (8 * c) (cells a))
      first_block = let o = r.own.own in let v = r.own.room in laid-part l₁ (omega arith) (length-tabulate_from _ 0 (cells ks))

      first_exchanged : (gate : Gate) → u ≡ turned gate c m (part w₁ (6 * c) c) → part w₂ (7 * c) (cells ks) ≡ exchange_block_for gate ks m (moved a ks (part w (8 * c) (cells a)))
      first_exchanged gate h =
          let o = r.own.own in
          let v = r.own.room in
          let q₁ = l₁.len in
          count-part (λ i. turned gate i m (part w₁ (6 * c) i)) r.own.own (omega arith) (turned-length gate (cells ks) m _ (part_length w₁ (6 * c) (cells ks) (omega arith))) (laid_as h l₂)
          ∙ turned-block gate ks m _ ∙ ap (exchange_block_for gate ks m) first_block

      module _ {b w₃ : List ℕ} (p : b ≡ without s ks) (l₃ : Laid w₂ (2 * c) (greatest_over ks s (tabulate c (λ k. above (at (part w₂ 0 c) k) (at (part w₂ (7 * c) c) k)))) c w₃) where
        pub second-limits : LimitsRoom w₃ ks b c × (1 ≤ m) × Source w₃ (2 * c) (cells ks) m c × Source w₃ c (cells ks) m c
        second-limits =
            let o = r.own.own in
            let same : (i : ℕ) → i + c ≤ 6 * c → Below w i (cells ks) m → Below w₂ i (cells ks) m =
            λ i h g. grades-below (laid-within l₂) (omega arith) (grades-below (laid-within l₁) (omega arith) g) in (
              limits-room s r.own r.space (l₃.len ∙ l₂.len ∙ l₁.len) p,
              r.some,
              record { clear = clear-front (omega arith); grades = count-below r.own.own (above-below ks s (7 * c) r.own.own l₃ (count-below (sym r.own.own) (same 0 (omega arith) r.lows))) },
              record { clear = clear-front (omega arith); grades = grades-below (laid-within l₃) (omega arith) (same c (omega arith) r.seconds) },
            )

        pub second-laid : (gate : Gate) → u ≡ turned gate c m (part w₁ (6 * c) c) → {w₄ : List ℕ} → LimitsLaid ks b (exchange_for gate ks m (stage_at ks w₃ (2 * c) c).limits) c w₃ w₄ → SecondLaid gate m ks a s c w b w₄
        second-laid gate h x =
            let o = r.own.own in
            let v = r.own.room in
            let q₁ = l₁.len in
            let q₂ = l₂.len in
            record {
              places = p;
              stage = λ t i f.
                  outside-laid gate m ks s (2 * c) c i x p
                  (above-part ks s 0 (7 * c) r.own.own (omega arith) l₃ (stays_in_both 0 (omega arith) ∙ f.lows) (first_exchanged gate h))
                  (laid-apart (before c (cells ks) (2 * c) c (omega arith) (omega arith)) l₃ ∙ stays_in_both c (omega arith) ∙ there w (λ i. i) r.own.own ∙ f.seconds);
              first =
                  x.kept (6 * c) (cells ks) (clear-back (omega arith) (omega arith)) ∙ laid-apart (behind (6 * c) (cells ks) (2 * c) c (omega arith) (omega arith)) l₃
                  ∙ laid-apart (before (6 * c) (cells ks) (7 * c) c (omega arith) (omega arith)) l₂ ∙ first_block;
              standing =
                  standing_trans (laid-standing v (omega arith) (omega arith) (inr (omega arith)) l₁)
                  (standing_trans (laid-standing (omega arith) (omega arith) (omega arith) (inr (omega arith)) l₂)
                  (standing_trans (laid-standing (omega arith) (omega arith) (omega arith) (inl (omega arith)) l₃) (limits-standing x)));
              len = x.len ∙ l₃.len ∙ q₂ ∙ q₁;
            }

-- what the two blocks come to
module _ {w ks b : List ℕ} {c : ℕ} (r : JoinedRoom w ks b c) where
  pub joined-moved : Shaped b × Shaped ks × (c ≡ cells ks) × Apart w (8 * c) (cells b) (7 * c) (cells ks)
  joined-moved = let o = r.own.own in (r.shaped, r.own.shaped, o, behind (8 * c) (cells b) (7 * c) (cells ks) (omega arith) r.block)

  module _ {w₁ : List ℕ} (l : Laid w (7 * c) (moved b ks (part w (8 * c) (cells b))) (cells ks) w₁) where
    pub joined-combine : Two w₁ (6 * c) 0 c × Two w₁ (7 * c) 0 c
    joined-combine =
        let o = r.own.own in
        let u = r.own.room in
        let q = l.len in
        (behind (6 * c) c 0 c (omega arith) (omega arith), behind (7 * c) c 0 c (omega arith) (omega arith))

    pub joined-laid : (gate : Gate) {w₂ : List ℕ} → Laid w₁ 0 (tabulate c (λ k. combine gate (at (part w₁ (6 * c) c) k) (at (part w₁ (7 * c) c) k))) c w₂ → JoinedLaid gate ks b c w w₂
    joined-laid gate j =
        let o = r.own.own in
        let u = r.own.room in
        let q = l.len in
        record {
          here =
              count-part (λ i. tabulate i (λ k. combine gate (at (part w₁ (6 * c) i) k) (at (part w₁ (7 * c) i) k))) r.own.own (omega arith) (length-tabulate_from _ 0 (cells ks)) j
              ∙ ap₂ (λ (x y : List ℕ). tabulate (cells ks) (λ k. combine gate (at x k) (at y k)))
              (laid-apart (before (6 * c) (cells ks) (7 * c) (cells ks) (omega arith) (omega arith)) l)
              (laid-part l (omega arith) (length-tabulate_from _ 0 (cells ks)));
          aside = laid-apart (behind (4 * c) (2 * c) 0 c (omega arith) (omega arith)) j ∙ (laid-standing u (omega arith) (omega arith) (inr (omega arith)) l).aside;
          len = j.len ∙ q;
        }
