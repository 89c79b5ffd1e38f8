-- A file that is accepted holds a table that rows 4 and 5 let pass: its shape, and its limits in every cell. So compiling never refuses it, given room.
use Prim.Native.Nat.{ℕ, ◌*◌, ◌/◌, ◌≤◌, ◌<◌}
use mathlib.Core.Path.{◌≡◌, refl, sym, ◌∙◌, ap, ap₂, subst}
use mathlib.Core.Bool.{Bool, true, ◌&&◌}
use mathlib.Core.List.{List, ◌++◌}
use mathlib.Core.Logic.{⊎_elim}
use native.Mathlib.Omega.{arith}
use borrow.Author.Tests.{le-leb}
use lib.Dec.{T, not_T, leb, ltb, eqb, le→leb, lt→ltb, ltb→lt, nltb→le, eqb_refl}
use lib.ListN.{length, take, drop, length-append}
use lib.Seq.{take_at}
use Rattle.rules.specs.declared.Edition.TheVariants.{Ours}
use Rattle.rules.specs.declared.Refusal.TheVariants.{ShapeRange, ShortBuffer, GradeLimits}
use Rattle.rules.specs.Bytes.{at, all, record_at}
use Rattle.rules.specs.declared.Settings.{Settings}
use Rattle.rules.specs.Cell.{cells}
use Rattle.rules.specs.Limits.{limits_sound, limits_of}
use Rattle.rules.specs.Shape.{max_conditions, max_cardinality, max_grades, place_sound, places, shape_sound}
use Rattle.rules.specs.TableFile.{Seen, unlisted_lower, unlisted_upper, file_limits}
use Rattle.rules.specs.Verdict.{accepted}
use Rattle.rules.specs.Demands.{compiled_records, Table}
use Rattle.rules.specs.CompileCall.{most_records, compile_room, lent_limits, compile_call}
use Rattle.laws.proofs.TestLaws.{and_i, cond_ok, passed, and_both}
use Rattle.laws.proofs.TableLaws.{all_of}
use Rattle.laws.proofs.VerdictLaws.{row_pass}
use Rattle.laws.proofs.AcceptLaws.{accepted-table}
use Rattle.shape.specs.declared.Shape.{Shape}
use Rattle.shape.specs.Shapes.{cards_of, places_of, shape_from}
use Rattle.shape.proofs.ShapeLaws.{cards_from}
use Rattle.table_file.proofs.ListedLaws.{laid-at}
use Rattle.table_file.proofs.FileLaws.{Accepted, limits_in}
use Rattle.table_file.proofs.AsListedLaws.{limit-long, by_record, untouched}

module _ (file : List ℕ) (s : Seen) (a : Accepted Ours file s) where
  some : (2 ≤ s.m) × (s.m ≤ 16)
  some = a.kept.grades a.grades

  place : (i : ℕ) → T (place_sound s.n i (at s.cards i))
  place i =
      cond_ok T (ltb i s.n) (leb 2 (at s.cards i) && leb (at s.cards i) max_cardinality) (eqb (at s.cards i) 0)
      (λ t. let k = a.kept.here i (ltb→lt i s.n t) in and_i (leb 2 (at s.cards i)) (leb (at s.cards i) max_cardinality) (le→leb 2 (at s.cards i) k.0) (le→leb (at s.cards i) 8 k.1))
      (λ f. subst (λ (q : ℕ). T (eqb q 0)) (sym (a.kept.beyond i (nltb→le i s.n (not_T (ltb i s.n) f)))) (eqb_refl 0))

  pub shape-sound : T (shape_sound s.n s.cards s.m)
  shape-sound =
      and_i (leb s.n max_conditions) _ (le→leb s.n 8 a.kept.conditions)
      (and_i (all 8 (λ i. place_sound s.n i (at s.cards i))) _ (all_of 8 (λ i. place_sound s.n i (at s.cards i)) (λ i h. place i))
      (and_i (leb 2 s.m && leb s.m max_grades) _ (and_i (leb 2 s.m) (leb s.m max_grades) (le→leb 2 s.m some.0) (le→leb s.m 16 some.1))
      (le→leb (cells (places s.cards)) 1024 a.kept.few)))

  abbrev ks : List ℕ
  ks = places s.cards

  -- a cell's limits are in order and below m, whether some record lists it or none does
  in_order : (c : ℕ) → c < cells ks → (at (file_limits file s).lower c ≤ at (file_limits file s).upper c) × (at (file_limits file s).upper c < s.m)
  in_order c h =
      ⊎_elim
      (λ b.
      let l = limits_in s.m (record_at file b.last) ((a.cells b.last (omega (arith, b.to))).sound b.names.0) in
      let low = by_record file ks 1 (unlisted_lower s) c h b in
      let high = by_record file ks 2 (unlisted_upper s) c h b in
      (omega (arith, l.0, low, high), omega (arith, l.1, high)))
      (λ u.
      let low = untouched file ks 1 (unlisted_lower s) c h u in
      let high = untouched file ks 2 (unlisted_upper s) c h u in
      (omega (arith, some.0, low, high), omega (arith, some.0, high)))
      (laid-at file ks c 0 (length file / 16))

  limits-long : (length (file_limits file s).lower ≡ cells ks) × (length (file_limits file s).upper ≡ cells ks)
  limits-long = (limit-long file ks 1 (unlisted_lower s), limit-long file ks 2 (unlisted_upper s))

  pub limits-sound : T (limits_sound ks s.m (file_limits file s))
  limits-sound = all_of (cells ks) (λ c. low c && high c) (λ c h. and_i (low c) (high c) (le→leb _ _ (in_order c h).0) (lt→ltb _ _ (in_order c h).1))
    where
      low : ℕ → Bool
      low c = leb (at (file_limits file s).lower c) (at (file_limits file s).upper c)

      high : ℕ → Bool
      high c = ltb (at (file_limits file s).upper c) s.m

  pub file_table : Table ks s.m (file_limits file s)
  file_table = accepted-table s.n s.cards s.m a.kept.eight shape-sound (file_limits file s) limits-sound

  -- the buffers that reading has written: compiling them is refused for want of room alone
  module _ (lower upper lower' upper' : List ℕ) (low : lower' ≡ (file_limits file s).lower ++ drop (cells ks) lower) (high : upper' ≡ (file_limits file s).upper ++ drop (cells ks) upper) where
    pub limits-lent : lent_limits ks lower' upper' ≡ file_limits file s
    limits-lent =
        let long = limits-long in
        ap₂ limits_of (ap (take (cells ks)) low ∙ take_at _ _ (cells ks) long.0) (ap (take (cells ks)) high ∙ take_at _ _ (cells ks) long.1)

    long_enough : (l b : List ℕ) {t : List ℕ} → t ≡ l ++ b → length l ≡ cells ks → leb (cells ks) (length t) ≡ true
    long_enough l b {t} e h = le-leb (cells ks) (length t) (omega (arith, ap length e, length-append l b))

    module _ (how : Settings) (work network : ℕ) (work-room : 32 * cells ks ≤ work) (network-room : 16 * most_records (cells ks) ≤ network) where
      room : compile_room (cells ks) (length lower') (length upper') work network ≡ true
      room =
          let long = limits-long in
          and_both (and_both (and_both (long_enough (file_limits file s).lower (drop (cells ks) lower) low long.0) (and_both (long_enough (file_limits file s).upper (drop (cells ks) upper) high long.1) refl)) (le-leb _ _ work-room)) (le-leb _ _ network-room)

      pub file_compiles : compile_call how s.n s.cards s.m (length lower') (length upper') work network (lent_limits ks lower' upper')
          ≡ accepted (compiled_records how ks s.m (file_limits file s))
      file_compiles =
          ap (compile_call how s.n s.cards s.m (length lower') (length upper') work network) limits-lent
          ∙ row_pass ShapeRange _ (passed (shape_sound s.n s.cards s.m) shape-sound) ∙ row_pass ShortBuffer _ room ∙ row_pass GradeLimits _ (passed (limits_sound ks s.m (file_limits file s)) limits-sound)

      -- the same of the shape that reading answers
      abbrev shape : Shape
      shape = shape_from s.n s.cards s.m

      pub table_compiles : compile_call how shape.n (cards_of shape) shape.m (length lower') (length upper') work network (lent_limits (places_of shape) lower' upper')
          ≡ accepted (compiled_records how ks s.m (file_limits file s))
      table_compiles =
          ap (λ (cards : List ℕ). compile_call how s.n cards s.m (length lower') (length upper') work network (lent_limits (places cards) lower' upper')) (cards_from s.n s.cards s.m a.kept.eight)
          ∙ file_compiles
