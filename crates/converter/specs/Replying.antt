-- What a program that turns a file into the other edition writes.
use Rattle.std.specs.Prelude.{ℕ, ◌≡◌, List, [], take, Result, Ok, Err}
use Rattle.std.specs.declared.option.Option.{Option}
use Rattle.std.specs.Io.KnownBytes.{Appends}
use Rattle.io.specs.Counts.{IsPrefixLen}
use Rattle.rules.specs.declared.Edition.{Edition}
use Rattle.rules.specs.Listing.{Said, turned_from}

-- how many bytes of the buffer, and on which stream
abbrev pub taken : Result ℕ ℕ → ℕ
taken (Ok n) = n
taken (Err n) = n

abbrev pub sent : Result ℕ ℕ → List ℕ → Said
sent (Ok n) buffer = record { output = take n buffer; error = [] }
sent (Err n) buffer = record { output = []; error = take n buffer }

-- they are in the buffer, and are what the rules say
pub record Replies (e : Edition) (file : List ℕ) (r : Result ℕ ℕ) (buffer : List ℕ) : Type 0 where
  pub counts : IsPrefixLen (taken r) buffer
  pub says : sent r buffer ≡ turned_from e file

-- standard output and standard error, where what they hold is known, grow by what the rules say
pub record Says (e : Edition) (file : List ℕ) (output output' error error' : Option (List ℕ)) : Type 0 where
  pub written : Appends output output' (turned_from e file).output
  pub complained : Appends error error' (turned_from e file).error
