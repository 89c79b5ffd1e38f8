-- What a function makes only where it is wanted.
use Rattle.std.specs.Prelude.{ℕ, ◌≡◌, Bool, true, false, List}

-- a buffer that was w is w': what was to be made of it where that is wanted, else as it was
pub record Wanted (want : Bool) (made : List ℕ → Type 0) (w w' : List ℕ) : Type 0 where
  pub on : want ≡ true → made w'
  pub off : want ≡ false → w' ≡ w
