-- Records in a network buffer.
use Rattle.std.specs.Prelude.{ℕ, ◌+◌, ◌*◌, ◌≤◌, ◌≡◌, List, length}
use Rattle.rules.specs.Bytes.{tabulate}
use Rattle.rules.specs.Network.{Record, network_bytes_from, ceiling_at}
use Rattle.tables.specs.Part.{Laid}

-- byte 2 of the first r records
abbrev pub ceilings_to : List ℕ → ℕ → List ℕ
ceilings_to net r = tabulate r (ceiling_at net)

-- the records xs, from record r on, in a buffer of any length: if it has room for all of them they stand there, with the ceilings that
-- those before them give, and every other byte is as it was. So a buffer without a byte serves where records are only counted
pub record Put (net : List ℕ) (r : ℕ) (xs : List Record) (net' : List ℕ) : Type 0 where
  pub len : length net' ≡ length net
  pub bytes : 16 * (r + length xs) ≤ length net → Laid net (16 * r) (network_bytes_from (ceilings_to net r) xs) (16 * length xs) net'
