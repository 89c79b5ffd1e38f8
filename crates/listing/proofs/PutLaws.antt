-- Texts laid one behind the other.
use Prim.Native.Nat.{ℕ, zero, suc, ◌+◌, ◌-◌, ◌≤◌, ◌<◌}
use mathlib.Core.Path.{◌≡◌, refl, sym, ◌∙◌, ap, ap₂, subst}
use mathlib.Core.List.{List, [], ◌∷◌, ◌++◌, append_assoc, append-nil}
use native.Mathlib.Nat.{add-zero, zero-add}
use native.Mathlib.Numerals.{add-one}
use native.Mathlib.Omega.{arith}
use lib.ListN.{length, take, drop, length-append, length-take, length-drop}
use lib.Seq.{take-suc, get_or-take, get_or-drop}
use Rattle.rules.specs.Bytes.{at, tabulate, record_at}
use Rattle.rules.specs.Network.{record_of, records_from}
use Rattle.rules.specs.Listing.{field, fields, record_line, lines_from}
use Rattle.tables.specs.Part.{part, Laid}
use Rattle.tables.proofs.PartLaws.{laid-append, laid-part}
use Rattle.laws.proofs.TableLaws.{tabulate_self}
use Rattle.listing.specs.Putting.{Put, grade_bytes}

-- a text behind another
pub put_then : {w : List ℕ} {a : ℕ} {t : List ℕ} {n b : ℕ} {v u : List ℕ} {m c : ℕ} {w' : List ℕ} → Put w a t n b v → Put v b u m c w' → Put w a (t ++ u) (n + m) c w'
put_then {w} {a} {t} {n} {b} {v} {u} {m} {c} {w'} p q =
    let e : length (t ++ u) ≡ length t + length u = length-append t u in
    record {
      end = let x = p.end in let y = q.end in omega arith;
      few = let x = p.few in let y = q.few in omega arith;
      laid = subst (λ (k : ℕ). Laid w a (t ++ u) k w') (sym e) (laid-append refl p.end p.laid q.laid);
    }

-- the same text; a larger bound
pub put_as : {w : List ℕ} {a : ℕ} {t : List ℕ} {n b : ℕ} {w' u : List ℕ} → t ≡ u → Put w a t n b w' → Put w a u n b w'
put_as {w} {a} {t} {n} {b} {w'} e p = subst (λ (u : List ℕ). Put w a u n b w') e p

pub put-within : {w : List ℕ} {a : ℕ} {t : List ℕ} {n b : ℕ} {w' : List ℕ} (m : ℕ) → n ≤ m → Put w a t n b w' → Put w a t m b w'
put-within m h p = record { end = p.end; few = let x = p.few in omega arith; laid = p.laid }

-- one field more
fields-append : (xs ys : List ℕ) → fields (xs ++ ys) ≡ fields xs ++ fields ys
fields-append [] ys = refl
fields-append (x ∷ xs) ys = ap (λ (t : List ℕ). field x ++ t) (fields-append xs ys) ∙ sym (append_assoc (field x) (fields xs) (fields ys))

pub fields-more : (xs : List ℕ) (i : ℕ) → i < length xs → fields (take (i + 1) xs) ≡ fields (take i xs) ++ field (at xs i)
fields-more xs i h =
    ap (λ (n : ℕ). fields (take n xs)) (add-one i)
    ∙ ap fields (take-suc xs i 0 h)
    ∙ fields-append (take i xs) (at xs i ∷ [])
    ∙ ap (λ (t : List ℕ). fields (take i xs) ++ t) (append-nil (field (at xs i)))

-- a literal's grades where they stand
module _ (bytes : List ℕ) (n : ℕ) (long : length bytes ≡ 16) (h : n ≤ 8) where
  pub literal_length : length (take (8 + n - 8) (drop 8 bytes)) ≡ n
  literal_length = length-take (8 + n - 8) (drop 8 bytes) ∙ omega (arith, length-drop 8 bytes)

  pub literal_grades : take (8 + n - 8) (drop 8 bytes) ≡ tabulate n (grade_bytes bytes)
  literal_grades =
      sym
      (subst (λ (k : ℕ). tabulate k (grade_bytes bytes) ≡ take (8 + n - 8) (drop 8 bytes)) literal_length
      (tabulate_self (grade_bytes bytes) (take (8 + n - 8) (drop 8 bytes))
      (λ v l. sym (get_or-take (8 + n - 8) (drop 8 bytes) v 0 (omega (arith, literal_length)) ∙ get_or-drop 8 bytes v 0))))

-- one line more
lines_from_lem : (ks net : List ℕ) (k j n : ℕ) → lines_from k (records_from ks net j (suc n)) ≡ lines_from k (records_from ks net j n) ++ record_line (k + n) (record_of ks (record_at net (j + n)))
lines_from_lem ks net k j zero =
    append-nil (record_line k (record_of ks (record_at net j))) ∙ ap₂ (λ (a b : ℕ). record_line a (record_of ks (record_at net b))) (sym (add-zero k)) (sym (add-zero j))
lines_from_lem ks net k j (suc n) =
    let first = record_line k (record_of ks (record_at net j)) in
    let rest = lines_from (suc k) (records_from ks net (suc j) n) in
    let e : suc k + n ≡ k + suc n = omega arith in
    let d : suc j + n ≡ j + suc n = omega arith in
    ap (λ (t : List ℕ). first ++ t) (lines_from_lem ks net (suc k) (suc j) n ∙ ap₂ (λ (a b : ℕ). rest ++ record_line a (record_of ks (record_at net b))) e d)
    ∙ sym (append_assoc first rest (record_line (k + suc n) (record_of ks (record_at net (j + suc n)))))

pub lines_more : (ks net : List ℕ) (n : ℕ) → lines_from 0 (records_from ks net 0 (n + 1)) ≡ lines_from 0 (records_from ks net 0 n) ++ record_line n (record_of ks (record_at net n))
lines_more ks net n =
    rw add-one (lines_from_lem ks net 0 0 n ∙ ap (λ (k : ℕ). lines_from 0 (records_from ks net 0 n) ++ record_line k (record_of ks (record_at net k))) (zero-add n))

-- what was laid at the front of a buffer ends within it, and is what stands there
module _ {w t : List ℕ} {n b : ℕ} {w' : List ℕ} (p : Put w 0 t n b w') (long : n ≤ length w') where
  pub put-fits : b ≤ length w'
  put-fits = let e = p.end in let f = p.few in omega arith

  pub put-taken : b ≡ length (take b w')
  put-taken = let h = put-fits in sym (length-take b w' ∙ omega arith)

  pub put_front : take b w' ≡ t
  unfolding part
  put_front =
      let l = p.laid.len in
      let f = p.few in
      ap (λ (k : ℕ). take k w') (p.end ∙ zero-add (length t)) ∙ laid-part p.laid (omega arith) refl
