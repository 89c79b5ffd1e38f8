-- The limits of an accepted file, cell by cell: those of the one record that lists the cell, or those of a cell that is not listed.
use Prim.Native.Nat.{ℕ, ◌/◌, ◌<◌}
use mathlib.Core.Path.{◌≡◌, ◌∙◌, ap}
use mathlib.Core.List.{List, ◌++◌}
use mathlib.Core.Logic.{⊎_elim}
use native.Mathlib.Omega.{arith}
use lib.ListN.{length, replicate, length-replicate, get_or-replicate, get_or-append}
use Rattle.rules.specs.declared.Edition.TheVariants.{Ours}
use Rattle.rules.specs.Bytes.{at, record_at}
use Rattle.rules.specs.Cell.{cells}
use Rattle.rules.specs.Shape.{places}
use Rattle.rules.specs.Limits.{limits_of}
use Rattle.rules.specs.TableFile.{Seen, listed_over, unlisted_lower, unlisted_upper, file_limits, Lists, Unlisted, AsListed}
use Rattle.laws.proofs.TestLaws.{by_order}
use Rattle.laws.proofs.AcceptLaws.{length-places}
use Rattle.table_file.proofs.ListedLaws.{listed_lt, length-listed, ByRecord, Untouched, laid-at}
use Rattle.table_file.proofs.FileLaws.{Accepted}

-- one limit of every cell, the lower or the upper: byte j of the records that list it, over x
module _ (file ks : List ℕ) (j x : ℕ) where
  abbrev pub limit : List ℕ
  limit = listed_over file ks j 0 (length file / 16) (replicate (cells ks) x)

  pub limit-long : length limit ≡ cells ks
  limit-long = length-listed file ks j 0 (length file / 16) (replicate (cells ks) x) ∙ length-replicate (cells ks) x

  module _ (c : ℕ) (h : c < cells ks) where
    pub by_record : (b : ByRecord file ks c 0 (length file / 16)) → at limit c ≡ at (record_at file b.last) j
    by_record b = b.byte j (replicate (cells ks) x) (omega (arith, length-replicate (cells ks) x))

    pub untouched : Untouched file ks c 0 (length file / 16) → at limit c ≡ x
    untouched u = u.stays j (replicate (cells ks) x) ∙ get_or-replicate (cells ks) c x 0 h

module _ (file : List ℕ) (s : Seen) (a : Accepted Ours file s) where
  abbrev ks : List ℕ
  ks = places s.cards

  -- no cell is listed twice
  listed_once : (i k c : ℕ) → Lists file ks i c → Lists file ks k c → i ≡ k
  listed_once i k c p q =
      by_order i k
      (λ le. by_order k i (λ ge. omega arith) (λ lt. absurd (omega (arith, a.rising i k lt q.0 p.1 q.1, p.2, q.2))))
      (λ gt. absurd (omega (arith, a.rising k i gt p.0 q.1 p.1, p.2, q.2)))

  -- a limit, in a buffer that begins with it
  module _ (j x : ℕ) (rest : List ℕ) where
    front : (c : ℕ) → c < cells ks → at (limit file ks j x ++ rest) c ≡ at (limit file ks j x) c
    front c h = get_or-append (limit file ks j x) rest 0 c (omega (arith, limit-long file ks j x))

    listed-byte : (k c : ℕ) → Lists file ks k c → at (limit file ks j x ++ rest) c ≡ at (record_at file k) j
    listed-byte k c l =
        let h : c < cells ks = omega (arith, listed_lt (record_at file k) ks (length-places s.cards ∙ a.kept.eight) (a.listed k l.0) l.1, l.2) in
        front c h
        ∙ ⊎_elim
        (λ b. by_record file ks j x c h b ∙ ap (λ (i : ℕ). at (record_at file i) j) (listed_once b.last k c (omega (arith, b.to), b.names.0, b.names.1) l))
        (λ u. absurd (u.none k (omega arith) (omega (arith, l.0)) (l.1, l.2)))
        (laid-at file ks c 0 (length file / 16))

    unlisted-byte : (c : ℕ) → c < cells ks → Unlisted file ks c → at (limit file ks j x ++ rest) c ≡ x
    unlisted-byte c h none =
        front c h
        ∙ ⊎_elim
        (λ b. absurd (none b.last (omega (arith, b.to), b.names.0, b.names.1)))
        (λ u. untouched file ks j x c h u)
        (laid-at file ks c 0 (length file / 16))

  pub as_listed : (lower upper : List ℕ) → AsListed file s (limits_of ((file_limits file s).lower ++ lower) ((file_limits file s).upper ++ upper))
  as_listed lower upper =
      record {
        listed = λ k c l. (listed-byte 1 (unlisted_lower s) lower k c l, listed-byte 2 (unlisted_upper s) upper k c l);
        unlisted = λ c h none. (unlisted-byte 1 (unlisted_lower s) lower c h none, unlisted-byte 2 (unlisted_upper s) upper c h none);
      }
