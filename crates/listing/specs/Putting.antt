-- Text laid into a buffer.
use Rattle.std.specs.Prelude.{ℕ, ◌+◌, ◌≤◌, ◌≡◌, List, ◌++◌, length}
use Rattle.rules.specs.Bytes.{at}
use Rattle.rules.specs.Listing.{text, decimal}
use Rattle.tables.specs.Part.{Laid}

-- the text t, of at most n bytes, was laid at a, and b is the place after it; all other bytes of w stay
pub record Put (w : List ℕ) (a : ℕ) (t : List ℕ) (n b : ℕ) (w' : List ℕ) : Type 0 where
  pub end : b ≡ a + length t
  pub few : length t ≤ n
  pub laid : Laid w a t (length t) w'

-- a literal's byte for the value v
abbrev pub grade_bytes : List ℕ → ℕ → ℕ
grade_bytes r v = at r (8 + v)

-- a name, a number, and the line's end
abbrev pub answer_line : List ℕ → ℕ → List ℕ
answer_line name x = name ++ (decimal x ++ text "\n")
