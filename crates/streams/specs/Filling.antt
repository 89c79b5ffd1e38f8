-- What reading standard input leaves in a buffer.
use Rattle.std.specs.Prelude.{ℕ, ◌≡◌, List, Result, length, take, IfOk, IfSome}
use Rattle.std.specs.declared.option.Option.{Option}
use Rattle.io.specs.Counts.{IsPrefixLen}
use Rattle.streams.specs.declared.Unread.{Unread}

-- a file lies at the buffer's front
abbrev pub Filled : Result ℕ Unread → List ℕ → Type 0
Filled file buffer = IfOk file (λ n. IsPrefixLen n buffer)

-- where the bytes of an input are known, a file is as many of them as the buffer has room for
abbrev pub Takes : Option (List ℕ) → Result ℕ Unread → List ℕ → Type 0
Takes known file buffer = IfOk file (λ n. IfSome known (λ (bytes : List ℕ). take n buffer ≡ take (length buffer) bytes))
