-- 01, the program "grades": what it prints, byte for byte. Request 6: what the programs that convert files write.
use Rattle.std.specs.Prelude.{ℕ, zero, suc, ◌+◌, ◌/◌, ◌%◌, cond, List, [], ◌∷◌, ◌++◌, ltb, length}
use Prim.Native.Char.{code}
use Prim.Native.String.{String, len, char_at}
use Rattle.rules.specs.declared.Edition.{Edition}
use Rattle.rules.specs.declared.Edition.TheVariants.{Ours}
use Rattle.rules.specs.declared.Gate.{Gate}
use Rattle.rules.specs.declared.Gate.TheVariants.{Min, Max}
use Rattle.rules.specs.declared.Refusal.{Refusal}
use Rattle.rules.specs.Refusal.{refusal_number}
use Rattle.rules.specs.Shape.{places}
use Rattle.rules.specs.Verdict.{Verdict, accepted, refused, and_then}
use Rattle.rules.specs.TableFile.{judge_file, file_limits}
use Rattle.rules.specs.Editions.{convert_call}
use Rattle.rules.specs.Network.{Record, constant, literal, gate}
use Rattle.rules.specs.Settings.{usual}
use Rattle.rules.specs.Demands.{compiled_records}

-- the bytes of a text in ASCII
abbrev pub text_from : String → ℕ → ℕ → List ℕ
text_from s i zero = []
text_from s i (suc n) = code (char_at s i) ∷ text_from s (suc i) n

abbrev pub text : String → List ℕ
text s = text_from s 0 (len s)

-- a digit in ASCII
abbrev pub digit : ℕ → ℕ
digit d = 48 + d

-- a number's decimal digits, f at most, no zero in front
abbrev pub digits_within : ℕ → ℕ → List ℕ
digits_within zero n = []
digits_within (suc f) n = cond (ltb n 10) (digit n ∷ []) (digits_within f (n / 10) ++ (digit (n % 10) ∷ []))

-- all of them: a number has no more digits than the next number
abbrev pub decimal : ℕ → List ℕ
decimal n = digits_within (suc n) n

-- a space and a number; so for each number of a list
abbrev pub field : ℕ → List ℕ
field n = text " " ++ decimal n

abbrev pub fields : List ℕ → List ℕ
fields [] = []
fields (n ∷ ns) = field n ++ fields ns

abbrev pub gate_name : Gate → List ℕ
gate_name Min = text " MIN"
gate_name Max = text " MAX"

-- what follows a record's number
abbrev pub record_text : Record → List ℕ
record_text (constant q) = text " C" ++ field q
record_text (literal i gs) = text " L" ++ (field i ++ fields gs)
record_text (gate op l r) = gate_name op ++ (field l ++ field r)

-- the line of record number k
abbrev pub record_line : ℕ → Record → List ℕ
record_line k r = decimal k ++ (record_text r ++ text "\n")

-- the lines of records, the first being number k
abbrev pub lines_from : ℕ → List Record → List ℕ
lines_from k [] = []
lines_from k (r ∷ rs) = record_line k r ++ lines_from (suc k) rs

-- the last line
abbrev pub count_line : ℕ → List ℕ
count_line n = text "records " ++ (decimal n ++ text "\n")

abbrev pub listing : List Record → List ℕ
listing rs = lines_from 0 rs ++ count_line (length rs)

-- a refusal prints nothing else
abbrev pub refusal_line : Refusal → List ℕ
refusal_line q = text "refused " ++ (decimal (refusal_number q) ++ text "\n")

abbrev pub printed : Verdict (List Record) → List ℕ
printed (accepted rs) = listing rs
printed (refused q) = refusal_line q

-- a table file: the refusal of the first row that it breaks, or the records of its table's network
abbrev pub file_network : List ℕ → Verdict (List Record)
file_network file = and_then (judge_file Ours file) (λ s. accepted (compiled_records usual (places s.cards) s.m (file_limits file s)))

-- what the program prints for it
abbrev pub answer_to : List ℕ → List ℕ
answer_to file = printed (file_network file)

-- Request 6: what the two programs that turn a file into the other edition write. The file comes on standard output; a refusal is a line on
-- standard error, and nothing is on standard output
pub record Said : Type 0 where
  pub output : List ℕ
  pub error : List ℕ

abbrev pub said : Verdict (List ℕ) → Said
said (accepted turned) = record { output = turned; error = [] }
said (refused q) = record { output = []; error = refusal_line q }

abbrev pub turned_from : Edition → List ℕ → Said
turned_from e file = said (convert_call e file (length file))
