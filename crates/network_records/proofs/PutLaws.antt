-- Records written one behind the other.
use Prim.Native.Nat.{ℕ, ◌+◌, ◌-◌, ◌*◌, ◌/◌, ◌%◌, ◌<◌}
use mathlib.Core.Path.{◌≡◌, sym, ◌∙◌, ap, ap₂, subst}
use mathlib.Core.List.{List, [], ◌∷◌, ◌++◌, append-nil}
use native.Mathlib.Omega.{arith}
use lib.ListN.{length, replicate, length-append}
use lib.Seq.{ext_get_or}
use Rattle.std.specs.Int.{w16, to_le_bytes}
use Rattle.rules.specs.declared.Gate.{Gate}
use Rattle.rules.specs.Bytes.{at}
use Rattle.rules.specs.Network.{Record, gate, kind_of, combine, record_ceiling, record_bytes, network_bytes_from, ceiling_at}
use Rattle.laws.proofs.TestLaws.{by_order}
use Rattle.laws.proofs.TableLaws.{at-tabulate, length-tabulate_from}
use Rattle.laws.proofs.CeilingLaws.{ceilings, length-ceilings, ceilings_keep, ceiling_read}
use Rattle.laws.proofs.ByteLaws.{length-network_bytes_from, network_bytes-append, ceilings-bytes}
use Rattle.tables.specs.Part.{Laid}
use Rattle.tables.proofs.PartLaws.{laid_as, laid-append}
use Rattle.network_records.specs.Putting.{ceilings_to, Put}

-- one record
pub put_one : {net : List ℕ} {r : ℕ} (x : Record) {net' : List ℕ} → Laid net (16 * r) (record_bytes x (record_ceiling (at (ceilings_to net r)) x)) 16 net' → Put net r (x ∷ []) net'
put_one {net} {r} x l =
    record { len = l.len; bytes = λ h. laid_as (sym (append-nil (record_bytes x (record_ceiling (at (ceilings_to net r)) x)))) l }

-- a record's number as two bytes
pub two_bytes : (n : ℕ) → n < 65536 → to_le_bytes w16 n ≡ n % 256 ∷ n / 256 ∷ []
two_bytes n h = ap₂ (λ (low high : ℕ). low ∷ high ∷ []) (omega arith) (omega arith)

-- the ceiling of a gate over two records before it, and the gate's bytes
module _ (by : Gate) (net : List ℕ) (r left right : ℕ) (h : left < r) (g : right < r) where
  gate_ceiling : combine by (at (ceilings_to net r) left) (at (ceilings_to net r) right) ≡ combine by (at net (16 * left + 2)) (at net (16 * right + 2))
  gate_ceiling =
      ap₂ (combine by) (at-tabulate r (ceiling_at net) left h ∙ ceiling_read net left) (at-tabulate r (ceiling_at net) right g ∙ ceiling_read net right)

  pub gate-bytes : {kind top : ℕ} → kind ≡ kind_of by → top ≡ combine by (at net (16 * left + 2)) (at net (16 * right + 2))
      → kind ∷ 0 ∷ top ∷ 0 ∷ left % 256 ∷ left / 256 ∷ right % 256 ∷ right / 256 ∷ replicate 8 0
      ≡ record_bytes (gate by left right) (record_ceiling (at (ceilings_to net r)) (gate by left right))
  gate-bytes k t =
      ap₂ (λ (a b : ℕ). a ∷ 0 ∷ b ∷ 0 ∷ left % 256 ∷ left / 256 ∷ right % 256 ∷ right / 256 ∷ replicate 8 0) k (t ∙ sym gate_ceiling)

module _ (net : List ℕ) (r : ℕ) where
  abbrev done : List ℕ
  done = ceilings_to net r

  -- byte 2 of the records before, and of those put
  module _ (xs : List Record) {v : List ℕ} (l : Laid net (16 * r) (network_bytes_from done xs) (16 * length xs) v) where
    ceiling_before : (j : ℕ) → j < r → ceiling_at v j ≡ ceiling_at net j
    ceiling_before j h = ceiling_read v j ∙ l.before (16 * j + 2) (omega arith) ∙ sym (ceiling_read net j)

    ceiling_here : (j : ℕ) → j < length xs → ceiling_at v (r + j) ≡ ceiling_at (network_bytes_from done xs) j
    ceiling_here j h =
        let e : 16 * (r + j) + 2 ≡ 16 * r + (16 * j + 2) = omega arith in
        ceiling_read v (r + j) ∙ ap (at v) e ∙ l.here (16 * j + 2) (omega arith) ∙ sym (ceiling_read (network_bytes_from done xs) j)

    ceilings_now : (e : ℕ) → e ≡ r + length xs → ceilings_to v e ≡ ceilings done xs
    ceilings_now e q =
        let n : length (ceilings_to v e) ≡ e = length-tabulate_from (ceiling_at v) 0 e in
        let d : length done ≡ r = length-tabulate_from (ceiling_at net) 0 r in
        ext_get_or 0 (ceilings_to v e) (ceilings done xs) (omega (arith, length-ceilings done xs))
        (λ j h.
        at-tabulate e (ceiling_at v) j (omega arith)
        ∙ by_order r j
        (λ le.
        let s : r + (j - r) ≡ j = omega arith in
        let t : length done + (j - r) ≡ j = omega arith in
        ap (ceiling_at v) (sym s) ∙ ceiling_here (j - r) (omega arith) ∙ ceilings-bytes done xs (j - r) (omega arith) ∙ ap (at (ceilings done xs)) t)
        (λ lt. ceiling_before j lt ∙ sym (ceilings_keep done xs j (omega arith) ∙ at-tabulate r (ceiling_at net) j lt)))

pub put_then : {net : List ℕ} {r e : ℕ} {xs ys : List Record} {v net' : List ℕ} → e ≡ r + length xs → Put net r xs v → Put v e ys net' → Put net r (xs ++ ys) net'
put_then {net} {r} {e} {xs} {ys} {v} {net'} q p o =
    let k : 16 * length xs + 16 * length ys ≡ 16 * length (xs ++ ys) = omega (arith, length-append xs ys) in
    let at : 16 * e ≡ 16 * r + 16 * length xs = omega arith in
    let same = p.len in
    record {
      len = o.len ∙ p.len;
      bytes = λ h.
          let first = p.bytes (omega arith) in
          let second = laid_as (ap (λ (d : List ℕ). network_bytes_from d ys) (ceilings_now net r xs first e q)) (o.bytes (omega arith)) in
          subst (λ (n : ℕ). Laid net (16 * r) (network_bytes_from (done net r) (xs ++ ys)) n net') k
          (laid_as (sym (network_bytes-append (done net r) xs ys)) (laid-append (length-network_bytes_from (done net r) xs) at first second));
    }

-- the same records, written otherwise
pub put_as : {net : List ℕ} {r : ℕ} {xs ys : List Record} {net' : List ℕ} → xs ≡ ys → Put net r xs net' → Put net r ys net'
put_as {net} {r} {xs} {ys} {net'} e p = subst (λ (zs : List Record). Put net r zs net') e p
