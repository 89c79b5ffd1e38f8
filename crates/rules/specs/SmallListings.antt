-- Rows for the listing: 01's listing of E, from its table file; a file that lists no cell; a line of each kind; numbers of one to five
-- digits; every refusal.
use Rattle.std.specs.Prelude.{◌≡◌, [], ◌∷◌}
use Rattle.rules.specs.declared.Gate.TheVariants.{Min, Max}
use Rattle.rules.specs.declared.Refusal.TheVariants.{FileLength, RecordBytes, RecordOrder, ShapeRange, GradeLimits, CellValues, Sets, NoJoin, FirstBlock, ShortBuffer, Network, CellNumber}
use Rattle.rules.specs.Network.{constant, literal, gate}
use Rattle.rules.specs.Listing.{text, decimal, record_line, listing, refusal_line, answer_to}
use Rattle.rules.specs.Small.{network, file_record, head_e, file_e}

abbrev pub SmallListings : Type 0
SmallListings =
    (answer_to file_e ≡ text "0 L 0 1 0\n1 L 1 0 1\n2 MIN 0 1\n3 L 0 0 1\n4 L 1 1 0\n5 MIN 3 4\n6 MAX 2 5\nrecords 7\n")
    -- no cell listed: a line at every visit
    × (answer_to head_e ≡ text "0 C 1\nrecords 1\n")
    -- no file, no grades record, too many grades
    × (answer_to [] ≡ text "refused 1\n")
    × (answer_to (file_record (1 ∷ 0 ∷ 2 ∷ [])) ≡ text "refused 3\n")
    × (answer_to (file_record (2 ∷ 17 ∷ [])) ≡ text "refused 4\n")
    × (listing (network [] 4 (1 ∷ []) (3 ∷ [])) ≡ text "0 C 1\nrecords 1\n")
    × (record_line 9 (constant 15) ≡ text "9 C 15\n")
    × (record_line 10 (literal 7 (0 ∷ 9 ∷ 10 ∷ 11 ∷ 15 ∷ 1 ∷ 0 ∷ 12 ∷ [])) ≡ text "10 L 7 0 9 10 11 15 1 0 12\n")
    × (record_line 3066 (gate Max 255 256) ≡ text "3066 MAX 255 256\n")
    × (record_line 257 (gate Min 256 255) ≡ text "257 MIN 256 255\n")
    × (decimal 0 ≡ text "0")
    × (decimal 100 ≡ text "100")
    × (decimal 65535 ≡ text "65535")
    × (refusal_line FileLength ≡ text "refused 1\n")
    × (refusal_line RecordBytes ≡ text "refused 2\n")
    × (refusal_line RecordOrder ≡ text "refused 3\n")
    × (refusal_line ShapeRange ≡ text "refused 4\n")
    × (refusal_line GradeLimits ≡ text "refused 5\n")
    × (refusal_line CellValues ≡ text "refused 6\n")
    × (refusal_line Sets ≡ text "refused 7\n")
    × (refusal_line NoJoin ≡ text "refused 8\n")
    × (refusal_line FirstBlock ≡ text "refused 9\n")
    × (refusal_line ShortBuffer ≡ text "refused 10\n")
    × (refusal_line Network ≡ text "refused 11\n")
    × (refusal_line CellNumber ≡ text "refused 12\n")
