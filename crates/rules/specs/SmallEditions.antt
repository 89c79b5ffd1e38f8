-- Rows of files turned into the other edition: each rules out some wrong reading of request 6.
use Rattle.std.specs.Prelude.{ℕ, ◌≡◌, List, [], ◌∷◌, ◌++◌, replicate, set}
use Rattle.rules.specs.declared.Edition.{Edition}
use Rattle.rules.specs.declared.Edition.TheVariants.{Ours, Spreadsheet}
use Rattle.rules.specs.Verdict.{Verdict, accepted, verdict_number}
use Rattle.rules.specs.Editions.{convert_call}
use Rattle.rules.specs.Listing.{text, turned_from}

-- the record of one condition with two values; a file with it, m grades and the cell records given
abbrev pub condition : List ℕ
condition = 1 ∷ 0 ∷ 2 ∷ replicate 13 0

abbrev pub file_of : ℕ → List ℕ → List ℕ
file_of m cells = condition ++ (2 ∷ m ∷ replicate 14 0) ++ cells

-- a cell record's first four bytes, and the condition's value
abbrev pub cell_of : ℕ → ℕ → ℕ → ℕ → ℕ → List ℕ
cell_of kind a b c v = kind ∷ a ∷ b ∷ c ∷ 0 ∷ 0 ∷ 0 ∷ 0 ∷ v ∷ replicate 7 0

-- the conversion, with room for four records; and the number where it stops
abbrev pub converts : Edition → ℕ → List ℕ → Verdict (List ℕ)
converts e m cells = convert_call e (file_of m cells) 64

abbrev pub stops : Edition → ℕ → List ℕ → ℕ
stops e m cells = verdict_number (converts e m cells)

abbrev pub Conversions : Type 0
Conversions =
    -- bit g for grade g, the low byte first; both ways
    (converts Ours 4 (cell_of 3 1 3 0 1) ≡ accepted (file_of 4 (cell_of 4 0 14 0 1)))
    × (converts Spreadsheet 4 (cell_of 4 0 14 0 1) ≡ accepted (file_of 4 (cell_of 3 1 3 0 1)))
    × (converts Ours 16 (cell_of 3 7 8 0 0) ≡ accepted (file_of 16 (cell_of 4 0 128 1 0)))
    × (converts Spreadsheet 16 (cell_of 4 0 0 1 0) ≡ accepted (file_of 16 (cell_of 3 8 8 0 0)))
    × (converts Spreadsheet 16 (cell_of 4 0 255 255 1) ≡ accepted (file_of 16 (cell_of 3 0 15 0 1)))
    × (converts Ours 2 (cell_of 3 0 0 0 0 ++ cell_of 3 0 1 0 1) ≡ accepted (file_of 2 (cell_of 4 0 1 0 0 ++ cell_of 4 0 3 0 1)))
    -- no cell listed
    × (converts Spreadsheet 2 [] ≡ accepted (file_of 2 []))
    -- 13: empty, a gap (which is not filled), a grade that is not below m
    × (stops Spreadsheet 4 (cell_of 4 0 0 0 0) ≡ 13)
    × (stops Spreadsheet 4 (cell_of 4 0 5 0 0) ≡ 13)
    × (stops Spreadsheet 16 (cell_of 4 0 1 1 0) ≡ 13)
    × (stops Spreadsheet 4 (cell_of 4 0 16 0 0) ≡ 13)
    × (stops Spreadsheet 4 (cell_of 4 0 24 0 0) ≡ 13)
    × (stops Spreadsheet 4 (cell_of 4 0 8 0 0) ≡ 0)
    -- in the place of 5: after 2, 3 and 6
    × (stops Spreadsheet 4 (cell_of 4 1 0 0 0) ≡ 2)
    × (verdict_number (convert_call Spreadsheet (condition ++ cell_of 4 0 0 0 0) 64) ≡ 3)
    × (stops Spreadsheet 4 (cell_of 4 0 0 0 2) ≡ 6)
    × (stops Spreadsheet 4 (cell_of 4 0 1 0 1 ++ cell_of 4 0 0 0 1) ≡ 6)
    × (stops Ours 4 (cell_of 3 3 1 0 0) ≡ 5)
    -- the other edition's cell kind, and bytes that must be zero
    × (stops Ours 4 (cell_of 4 0 3 0 1) ≡ 2)
    × (stops Spreadsheet 4 (cell_of 3 0 3 0 1) ≡ 2)
    × (stops Spreadsheet 4 (cell_of 4 1 14 0 1) ≡ 2)
    × (stops Spreadsheet 4 (set (cell_of 4 0 14 0 1) 4 1) ≡ 2)
    × (stops Ours 4 (cell_of 3 1 3 1 1) ≡ 2)
    -- a short output, last
    × (verdict_number (convert_call Spreadsheet (file_of 4 (cell_of 4 0 14 0 1)) 48) ≡ 0)
    × (verdict_number (convert_call Spreadsheet (file_of 4 (cell_of 4 0 14 0 1)) 47) ≡ 10)
    × (verdict_number (convert_call Spreadsheet (file_of 4 (cell_of 4 0 5 0 1)) 47) ≡ 13)
    × (verdict_number (convert_call Ours [] 0) ≡ 1)
    -- the programs: the file on standard output, or a line on standard error
    × (turned_from Ours (file_of 4 (cell_of 3 1 3 0 1)) ≡ record { output = file_of 4 (cell_of 4 0 14 0 1); error = [] })
    × (turned_from Spreadsheet (file_of 4 (cell_of 4 0 5 0 0)) ≡ record { output = []; error = text "refused 13\n" })
