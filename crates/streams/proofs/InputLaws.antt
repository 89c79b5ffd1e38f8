-- A file that was read lies at the front of its buffer; the answer of a program that reads one.
use Prim.Native.Nat.{ℕ}
use mathlib.Core.Path.{◌≡◌, subst}
use mathlib.Core.Bool.{true≢false}
use mathlib.Core.List.{List}
use Rattle.std.specs.Prelude.{Result, Ok, Err}
use Rattle.std.specs.Result.{OnOk, is_ok}
use Rattle.io.specs.Counts.{IsPrefixLen}
use Rattle.streams.specs.declared.Unread.{Unread}
use Rattle.streams.specs.Filling.{Filled}

pub read_counts : (i : Result ℕ Unread) (n : ℕ) (buffer : List ℕ) → i ≡ Ok n → Filled i buffer → IsPrefixLen n buffer
read_counts i n buffer q f = subst (λ (x : Result ℕ Unread). Filled x buffer) q f

-- another error changes nothing about what holds without one
pub on_ok_as : {T E U F : Type 0} (P : Type 0) (r : Result T E) (s : Result U F) → is_ok r ≡ is_ok s → OnOk s P → OnOk r P
on_ok_as P (Ok a) (Ok b) e p = p
on_ok_as P (Ok a) (Err f) e p = absurd (true≢false e)
on_ok_as P (Err f) s e p = tt
