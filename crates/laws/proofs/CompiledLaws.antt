-- Demand 3, of every table that 01 accepts and for all settings.
use Prim.Native.Nat.{ℕ, ◌-◌, ◌*◌, ◌≤◌, max}
use mathlib.Core.Path.{◌≡◌, sym, subst}
use mathlib.Core.List.{List}
use native.Mathlib.Omega.{arith}
use lib.Dec.{T}
use lib.ListN.{length}
use Rattle.rules.specs.Cell.{cells}
use Rattle.rules.specs.Limits.{Limits}
use Rattle.rules.specs.Network.{network_bytes, network_records, network_sound}
use Rattle.rules.specs.declared.Settings.{Settings}
use Rattle.rules.specs.Stage.{compiled}
use Rattle.rules.specs.Demands.{Table, compiled_records, Compiled}
use Rattle.laws.proofs.RunLaws.{tree-run}
use Rattle.laws.proofs.TreeLaws.{RecordsOk, length-records, size_pos, made_records}
use Rattle.laws.proofs.ByteLaws.{network_records-bytes, network_sound-bytes}
use Rattle.laws.proofs.CeilingLaws.{sound-capped}
use Rattle.laws.proofs.StageLaws.{compiled_ok}
use Rattle.laws.proofs.SizeLaws.{compiled-size}
use Rattle.laws.proofs.FuelLaws.{every-stage}

module _ (how : Settings) (ks : List ℕ) (m : ℕ) (l : Limits) (t : Table ks m l) where
  most : length (compiled_records how ks m l) ≤ max 1 (3 * cells ks - 5)
  most = subst (λ (n : ℕ). n ≤ max 1 (3 * cells ks - 5)) (sym (length-records (compiled how ks m l) 0)) (compiled-size how ks m l t.positive)

  some : 1 ≤ length (compiled_records how ks m l)
  some = subst (λ (n : ℕ). 1 ≤ n) (sym (length-records (compiled how ks m l) 0)) (size_pos (compiled how ks m l))

  ok : RecordsOk ks m 0 (compiled_records how ks m l)
  ok = made_records ks m (compiled how ks m l) 0 (compiled_ok how ks m l t).made

  reads : network_records ks (network_bytes (compiled_records how ks m l)) ≡ compiled_records how ks m l
  reads = network_records-bytes ks t.few-values m (compiled_records how ks m l) ok

  sound : T (network_sound ks m (network_bytes (compiled_records how ks m l)))
  sound = network_sound-bytes ks t.few-values m (compiled_records how ks m l) ok some (omega (arith, most, t.few-cells))

  pub compiled-all : Compiled how ks m l
  compiled-all =
      record {
        within = λ c hc. rw (reads, tree-run (compiled how ks m l) ks c) ((compiled_ok how ks m l t).within c hc);
        reads = reads;
        sound = sound;
        capped = sound-capped ks m (network_bytes (compiled_records how ks m l)) sound;
        one = λ e. omega (arith, most, some);
        most = λ h. omega (arith, most);
        stages = every-stage how ks m l t;
      }

-- no table has more records than the largest
pub few-compiled : (how : Settings) {ks : List ℕ} {m : ℕ} {l : Limits} → Table ks m l → length (compiled_records how ks m l) ≤ 3067
few-compiled how {ks} {m} {l} t = omega (arith, most how ks m l t, t.few-cells)
