-- Byte 0 of a record, by its kind.
use Rattle.std.specs.Prelude.{ℕ, ◌<◌, ◌≡◌, ◌⊎◌, Result, MatchResult}
use Rattle.rules.specs.declared.kinds.TableKind.{TableKind}
use Rattle.rules.specs.declared.kinds.TableKind.TheVariants.{Condition, Grades, Cell}
use Rattle.rules.specs.declared.kinds.NetworkKind.{NetworkKind}
use Rattle.rules.specs.declared.kinds.NetworkKind.TheVariants as network
use Rattle.rules.specs.declared.kinds.UnknownKind.{UnknownKind}
use Rattle.rules.specs.TableFile.{cell_kind}
use Rattle.rules.specs.Network.{kind_of}

abbrev pub table_byte : TableKind → ℕ
table_byte Condition = 1
table_byte Grades = 2
table_byte (Cell e) = cell_kind e

abbrev pub network_byte : NetworkKind → ℕ
network_byte network.Constant = 0
network_byte network.Literal = 1
network_byte (network.Gate op) = kind_of op

-- the kind that a byte says, or that it says none
abbrev pub TableByte : ℕ → Result TableKind UnknownKind → Type 0
TableByte byte r = MatchResult r (λ kind. table_byte kind ≡ byte) (λ e. (byte < 1) ⊎ (4 < byte))

abbrev pub NetworkByte : ℕ → Result NetworkKind UnknownKind → Type 0
NetworkByte byte r = MatchResult r (λ kind. network_byte kind ≡ byte) (λ e. 3 < byte)
