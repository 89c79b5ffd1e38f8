-- 01, Small tables to prove, as one conjunction: its rows and edges, and rows of our own, each of which some wrong rule fails.
use Rattle.std.specs.Prelude.{ℕ, ◌-◌, ◌≡◌, true, false, List, [], ◌∷◌, ◌++◌, length, replicate}
use Rattle.rules.specs.declared.Gate.{Gate}
use Rattle.rules.specs.declared.Gate.TheVariants.{Min, Max}
use Rattle.rules.specs.declared.Edition.TheVariants.{Ours}
use Rattle.rules.specs.declared.Settings.{Settings}
use Rattle.rules.specs.Settings.{usual}
use Rattle.rules.specs.Bytes.{tabulate}
use Rattle.rules.specs.Verdict.{Verdict, accepted, verdict_number}
use Rattle.rules.specs.Shape.{places, shape_sound}
use Rattle.rules.specs.Limits.{Limits}
use Rattle.rules.specs.Join.{join_first, join_second}
use Rattle.rules.specs.TableFile.{Seen, judge_file, file_limits}
use Rattle.rules.specs.Network.{Record, constant, literal, gate, network_bytes, evaluate}
use Rattle.rules.specs.NetworkCalls.{CheckResult, within, outside, evaluate_call, check_call}
use Rattle.rules.specs.Tree.{records, size}
use Rattle.rules.specs.Stage.{compiled}
use Rattle.rules.specs.CompileCall.{compile_call}

-- cardinalities as a shape's eight bytes
abbrev pub card_bytes : List ℕ → List ℕ
card_bytes cards = cards ++ replicate (8 - length cards) 0

abbrev pub limits : List ℕ → List ℕ → Limits
limits l u = record { lower = l; upper = u }

-- the records of a table under settings; under the usual ones; and of a table whose lower and upper grades are equal
abbrev pub network_set : Settings → List ℕ → ℕ → List ℕ → List ℕ → List Record
network_set how cards m l u = records (compiled how (places (card_bytes cards)) m (limits l u)) 0

abbrev pub network : List ℕ → ℕ → List ℕ → List ℕ → List Record
network = network_set usual

abbrev pub exact_network : List ℕ → ℕ → List ℕ → List Record
exact_network cards m t = network cards m t t

-- the two join calls with buffers of just the table's length
abbrev pub first_block : List ℕ → ℕ → Limits → Gate → ℕ → ℕ → Verdict Limits
first_block cards m l op s t =
    let n = length l.lower in
    join_first (length cards) (card_bytes cards) m (n ∷ n ∷ n ∷ n ∷ []) l op s t

abbrev pub second_block : List ℕ → ℕ → Limits → Gate → ℕ → ℕ → List ℕ → Verdict Limits
second_block cards m l op s t g =
    let n = length l.lower in
    join_second (length cards) (card_bytes cards) m (n ∷ n ∷ n ∷ n ∷ n ∷ []) l op s t g

abbrev pub two : List ℕ
two = 2 ∷ 2 ∷ []

abbrev pub three : List ℕ
three = 2 ∷ 2 ∷ 2 ∷ []

abbrev pub four : List ℕ
four = 2 ∷ 2 ∷ 2 ∷ 2 ∷ []

-- 01's tables E and F
abbrev pub E : List ℕ
E = 0 ∷ 1 ∷ 1 ∷ 0 ∷ []

abbrev pub F : Limits
F = limits (1 ∷ 0 ∷ 0 ∷ 0 ∷ 2 ∷ 1 ∷ []) (2 ∷ 1 ∷ 2 ∷ 0 ∷ 2 ∷ 2 ∷ [])

-- parity of three conditions
abbrev pub parity : List ℕ
parity = 0 ∷ 1 ∷ 1 ∷ 0 ∷ 1 ∷ 0 ∷ 0 ∷ 1 ∷ []

-- the refusal of compiling E in buffers of these lengths, under these limits; 0 if none
abbrev pub compile_e : List ℕ → ℕ → ℕ → ℕ
compile_e l work net = verdict_number (compile_call usual 2 (card_bytes two) 2 4 4 work net (limits l E))

-- a record of a table file: its first bytes, and zeros
abbrev pub file_record : List ℕ → List ℕ
file_record r = r ++ replicate (16 - length r) 0

-- the head of a file: two conditions of two values, m grades
abbrev pub head_of : ℕ → List ℕ
head_of m = file_record (1 ∷ 0 ∷ 2 ∷ []) ++ file_record (1 ∷ 1 ∷ 2 ∷ []) ++ file_record (2 ∷ m ∷ [])

abbrev pub head_e : List ℕ
head_e = head_of 2

abbrev pub cell_record_of : ℕ → ℕ → ℕ → ℕ → List ℕ
cell_record_of l u v w = file_record (3 ∷ l ∷ u ∷ 0 ∷ 0 ∷ 0 ∷ 0 ∷ 0 ∷ v ∷ w ∷ [])

-- E's file
abbrev pub file_e : List ℕ
file_e = head_e ++ cell_record_of 0 0 0 0 ++ cell_record_of 1 1 1 0 ++ cell_record_of 1 1 0 1 ++ cell_record_of 0 0 1 1

abbrev pub seen_e : Seen
seen_e = record { n = 2; cards = card_bytes two; m = 2; next = 4 }

-- four grades; of the four cells it lists two, one of which may leave nothing and one anything
abbrev pub file_some : List ℕ
file_some = head_of 4 ++ cell_record_of 0 0 1 0 ++ cell_record_of 0 3 0 1

abbrev pub seen_some : Seen
seen_some = record { n = 2; cards = card_bytes two; m = 4; next = 3 }

-- the refusal of a file; 0 if none
abbrev pub file_number : List ℕ → ℕ
file_number file = verdict_number (judge_file Ours file)

-- the bytes of E's network
abbrev pub net_e : List ℕ
net_e = network_bytes (exact_network two 2 E)

-- the refusal of evaluating a network over E's shape at a cell, and the answer of checking it against limits
abbrev pub evaluate_number : List ℕ → ℕ → ℕ → ℕ
evaluate_number net work cell = verdict_number (evaluate_call 2 (card_bytes two) 2 net work cell)

abbrev pub check_e : List ℕ → ℕ → List ℕ → Verdict CheckResult
check_e net work l = check_call 2 (card_bytes two) 2 net work (limits l l) 4 4

abbrev pub Small : Type 0
Small =
    (network [] 4 (1 ∷ []) (3 ∷ []) ≡ constant 1 ∷ [])
    × (network (2 ∷ []) 2 (0 ∷ 0 ∷ []) (1 ∷ 1 ∷ []) ≡ constant 0 ∷ [])
    × (exact_network (2 ∷ []) 2 (0 ∷ 1 ∷ []) ≡ literal 0 (0 ∷ 1 ∷ []) ∷ [])
    × (exact_network two 2 (0 ∷ 1 ∷ 1 ∷ 1 ∷ []) ≡ literal 0 (0 ∷ 1 ∷ []) ∷ literal 1 (0 ∷ 1 ∷ []) ∷ gate Max 0 1 ∷ [])
    × (exact_network two 2 (0 ∷ 0 ∷ 0 ∷ 1 ∷ []) ≡ literal 0 (0 ∷ 1 ∷ []) ∷ literal 1 (0 ∷ 1 ∷ []) ∷ gate Min 0 1 ∷ [])
    × (network two 2 (0 ∷ 0 ∷ 0 ∷ 1 ∷ []) (0 ∷ 1 ∷ 1 ∷ 1 ∷ []) ≡ literal 1 (0 ∷ 1 ∷ []) ∷ [])
    × (exact_network two 2 E
    ≡ literal 0 (1 ∷ 0 ∷ [])
    ∷ literal 1 (0 ∷ 1 ∷ [])
    ∷ gate Min 0 1
    ∷ literal 0 (0 ∷ 1 ∷ [])
    ∷ literal 1 (1 ∷ 0 ∷ [])
    ∷ gate Min 3 4
    ∷ gate Max 2 5
    ∷ [])
    × (verdict_number (first_block two 2 (limits E E) Max 1 2) ≡ 8)
    × (verdict_number (first_block two 2 (limits E E) Min 1 2) ≡ 8)
    × (network (2 ∷ 3 ∷ []) 3 F.lower F.upper ≡ literal 1 (1 ∷ 0 ∷ 2 ∷ []) ∷ [])
    × (first_block (2 ∷ 3 ∷ []) 3 F Max 1 2 ≡ accepted (limits (0 ∷ 0 ∷ 0 ∷ 0 ∷ 0 ∷ 0 ∷ []) (2 ∷ 0 ∷ 2 ∷ 0 ∷ 2 ∷ 0 ∷ [])))
    × (second_block (2 ∷ 3 ∷ []) 3 F Max 1 2 (2 ∷ 0 ∷ 2 ∷ 0 ∷ 2 ∷ 0 ∷ [])
    ≡ accepted (limits (0 ∷ 0 ∷ 0 ∷ 0 ∷ 1 ∷ 1 ∷ []) (1 ∷ 1 ∷ 0 ∷ 0 ∷ 2 ∷ 2 ∷ [])))
    -- the edges: 8 8 8 2 is a shape, 8 8 8 3 is none, and parity of three has the most records that 8 cells can
    × (shape_sound 4 (card_bytes (8 ∷ 8 ∷ 8 ∷ 2 ∷ [])) 2 ≡ true)
    × (shape_sound 4 (card_bytes (8 ∷ 8 ∷ 8 ∷ 3 ∷ [])) 2 ≡ false)
    × (size (compiled usual (places (card_bytes three)) 2 (limits parity parity)) ≡ 19)
    -- step 1, each drop against the limits as they then are: after two of these three conditions the last one stays
    × (network three 2 (0 ∷ 0 ∷ 0 ∷ 0 ∷ 0 ∷ 0 ∷ 0 ∷ 1 ∷ []) (0 ∷ 0 ∷ 0 ∷ 1 ∷ 1 ∷ 1 ∷ 1 ∷ 1 ∷ []) ≡ literal 2 (0 ∷ 1 ∷ []) ∷ [])
    -- step 4, a full tie: both gates join {0} and {1}
    × (network two 3 (0 ∷ 0 ∷ 1 ∷ 2 ∷ []) (0 ∷ 2 ∷ 1 ∷ 2 ∷ [])
    ≡ literal 0 (0 ∷ 2 ∷ []) ∷ literal 1 (0 ∷ 1 ∷ []) ∷ gate Max 0 1 ∷ [])
    -- step 4, more conditions; step 3, to the other set: max finds {1} and {2}, min {0} and {1}, which 2 joins in the second set only
    × (exact_network three 2 (0 ∷ 0 ∷ 0 ∷ 1 ∷ 0 ∷ 1 ∷ 0 ∷ 1 ∷ [])
    ≡ literal 0 (0 ∷ 1 ∷ []) ∷ literal 1 (0 ∷ 1 ∷ []) ∷ literal 2 (0 ∷ 1 ∷ []) ∷ gate Max 1 2 ∷ gate Min 0 3 ∷ [])
    -- step 3, a condition is added with the set's members and not alone: max finds {0} and {1}, min {0, 1} and {2}
    × (network three 2 (0 ∷ 0 ∷ 0 ∷ 0 ∷ 1 ∷ 0 ∷ 1 ∷ 1 ∷ []) (0 ∷ 0 ∷ 0 ∷ 1 ∷ 1 ∷ 0 ∷ 1 ∷ 1 ∷ [])
    ≡ literal 0 (1 ∷ 0 ∷ []) ∷ literal 1 (0 ∷ 1 ∷ []) ∷ gate Max 0 1 ∷ literal 2 (0 ∷ 1 ∷ []) ∷ gate Min 2 3 ∷ [])
    -- step 5, the second block from the g built: {0, 2} and {1}
    × (network three 3 (0 ∷ 1 ∷ 1 ∷ 1 ∷ 1 ∷ 2 ∷ 2 ∷ 2 ∷ []) (0 ∷ 2 ∷ 2 ∷ 2 ∷ 2 ∷ 2 ∷ 2 ∷ 2 ∷ [])
    ≡ literal 0 (0 ∷ 1 ∷ []) ∷ literal 2 (0 ∷ 2 ∷ []) ∷ gate Max 0 1 ∷ literal 1 (0 ∷ 1 ∷ []) ∷ gate Max 2 3 ∷ [])
    -- step 3, the set with fewer members, the first when equal: {0, 2} and {1, 3}
    × (exact_network four 2 (0 ∷ 0 ∷ 0 ∷ 0 ∷ 0 ∷ 0 ∷ 0 ∷ 0 ∷ 0 ∷ 0 ∷ 0 ∷ 0 ∷ 0 ∷ 0 ∷ 0 ∷ 1 ∷ [])
    ≡ literal 0 (0 ∷ 1 ∷ []) ∷ literal 2 (0 ∷ 1 ∷ []) ∷ gate Min 0 1 ∷ literal 1 (0 ∷ 1 ∷ []) ∷ literal 3 (0 ∷ 1 ∷ []) ∷ gate Min 3 4 ∷ gate Min 2 5 ∷ [])
    -- step 3, the first pair, i before j: by min {0} and {3} before {1} and {2}
    × (exact_network four 2 (0 ∷ 0 ∷ 0 ∷ 0 ∷ 0 ∷ 0 ∷ 0 ∷ 0 ∷ 0 ∷ 1 ∷ 0 ∷ 1 ∷ 0 ∷ 1 ∷ 1 ∷ 1 ∷ [])
    ≡ literal 0 (0 ∷ 1 ∷ []) ∷ literal 1 (0 ∷ 1 ∷ []) ∷ literal 2 (0 ∷ 1 ∷ []) ∷ gate Min 1 2 ∷ gate Max 0 3 ∷ literal 3 (0 ∷ 1 ∷ []) ∷ gate Min 4 5 ∷ [])
    -- step 4, the smaller difference: max finds {0, 2, 3} and {1}, min {0, 2} and {1, 3}
    × (network four 2 (0 ∷ 0 ∷ 0 ∷ 1 ∷ 0 ∷ 0 ∷ 1 ∷ 1 ∷ 0 ∷ 1 ∷ 0 ∷ 1 ∷ 1 ∷ 1 ∷ 1 ∷ 1 ∷ []) (0 ∷ 0 ∷ 1 ∷ 1 ∷ 0 ∷ 0 ∷ 1 ∷ 1 ∷ 0 ∷ 1 ∷ 1 ∷ 1 ∷ 1 ∷ 1 ∷ 1 ∷ 1 ∷ [])
    ≡ literal 0 (0 ∷ 1 ∷ []) ∷ literal 2 (0 ∷ 1 ∷ []) ∷ gate Max 0 1 ∷ literal 1 (0 ∷ 1 ∷ []) ∷ literal 3 (0 ∷ 1 ∷ []) ∷ gate Max 3 4 ∷ gate Min 2 5 ∷ [])
    -- steps 1 and 6 below the first stage: a condition dropped there, and a split on condition 1, of three values, among four grades
    × (network (2 ∷ 3 ∷ 2 ∷ []) 4 (1 ∷ 0 ∷ 2 ∷ 2 ∷ 1 ∷ 1 ∷ 2 ∷ 0 ∷ 1 ∷ 1 ∷ 1 ∷ 1 ∷ []) (1 ∷ 2 ∷ 2 ∷ 2 ∷ 2 ∷ 3 ∷ 3 ∷ 0 ∷ 1 ∷ 2 ∷ 1 ∷ 1 ∷ [])
    ≡ literal 0 (2 ∷ 0 ∷ [])
    ∷ literal 1 (0 ∷ 2 ∷ 1 ∷ [])
    ∷ gate Max 0 1
    ∷ literal 1 (3 ∷ 0 ∷ 0 ∷ [])
    ∷ literal 2 (1 ∷ 2 ∷ [])
    ∷ gate Min 3 4
    ∷ literal 1 (0 ∷ 3 ∷ 0 ∷ [])
    ∷ literal 2 (2 ∷ 1 ∷ [])
    ∷ gate Min 6 7
    ∷ gate Max 5 8
    ∷ literal 1 (0 ∷ 0 ∷ 3 ∷ [])
    ∷ constant 1
    ∷ gate Min 10 11
    ∷ gate Max 9 12
    ∷ gate Min 2 13
    ∷ [])
    -- compiling: work and network of just the lengths asked, a byte less of either, and the order of rows 4, 10, 5
    × (compile_e E 128 112 ≡ 0)
    × (compile_e E 127 112 ≡ 10)
    × (compile_e E 128 111 ≡ 10)
    × (compile_e (0 ∷ 1 ∷ 1 ∷ 1 ∷ []) 127 112 ≡ 10)
    × (compile_e (0 ∷ 1 ∷ 1 ∷ 1 ∷ []) 128 112 ≡ 5)
    × (verdict_number (compile_call usual 4 (card_bytes (8 ∷ 8 ∷ 8 ∷ 3 ∷ [])) 2 0 0 0 0 (limits [] [])) ≡ 4)
    -- reading: E's file, and one for each refusal, the order of rows 2, 3, 6, 5 among them
    × (judge_file Ours file_e ≡ accepted seen_e)
    × (file_limits file_e seen_e ≡ limits E E)
    -- a cell that is not listed: 1 to m − 1, of two grades 1 alone; a listed one as it is listed, 0 to 0 and 0 to m − 1 among them
    × (file_limits head_e seen_e ≡ limits (replicate 4 1) (replicate 4 1))
    × (judge_file Ours file_some ≡ accepted seen_some)
    × (file_limits file_some seen_some ≡ limits (1 ∷ 0 ∷ 0 ∷ 1 ∷ []) (3 ∷ 0 ∷ 3 ∷ 3 ∷ []))
    × (file_number (head_e ++ 0 ∷ []) ≡ 1)
    × (file_number (head_e ++ file_record (4 ∷ [])) ≡ 2)
    × (file_number (file_record (3 ∷ 0 ∷ 0 ∷ 0 ∷ 0 ∷ 0 ∷ 0 ∷ 0 ∷ 1 ∷ [])) ≡ 2)
    × (file_number (file_record (3 ∷ [])) ≡ 3)
    × (file_number (file_record (1 ∷ 0 ∷ 2 ∷ [])) ≡ 3)
    × (file_number (file_record (1 ∷ 0 ∷ 9 ∷ [])) ≡ 4)
    × (file_number (head_e ++ cell_record_of 1 0 2 0) ≡ 6)
    × (file_number (head_e ++ cell_record_of 0 0 1 0 ++ cell_record_of 1 0 1 0) ≡ 6)
    × (file_number (head_e ++ cell_record_of 0 2 0 0) ≡ 5)
    -- networks: a literal's and a gate's bytes, E's network read back, and the rows of evaluating and checking in their order
    × (network_bytes (literal 1 (1 ∷ 0 ∷ 2 ∷ []) ∷ gate Max 258 3 ∷ [])
    ≡ 1 ∷ 1 ∷ 2 ∷ 0 ∷ 0 ∷ 0 ∷ 0 ∷ 0 ∷ 1 ∷ 0 ∷ 2 ∷ 0 ∷ 0 ∷ 0 ∷ 0 ∷ 0 ∷ 3 ∷ 0 ∷ 0 ∷ 0 ∷ 2 ∷ 1 ∷ 3 ∷ 0 ∷ 0 ∷ 0 ∷ 0 ∷ 0 ∷ 0 ∷ 0 ∷ 0 ∷ 0 ∷ [])
    × (tabulate 4 (evaluate (places (card_bytes two)) net_e) ≡ E)
    × (evaluate_number [] 0 0 ≡ 11)
    × (evaluate_number (replicate 16 9) 0 4 ≡ 10)
    × (evaluate_number (replicate 16 9) 1 4 ≡ 11)
    × (evaluate_number (network_bytes (literal 0 (0 ∷ 1 ∷ 1 ∷ []) ∷ [])) 1 0 ≡ 11)
    × (evaluate_number net_e 7 4 ≡ 12)
    × (evaluate_number net_e 7 3 ≡ 0)
    × (check_e net_e 7 E ≡ accepted within)
    × (check_e net_e 7 (0 ∷ 1 ∷ 0 ∷ 0 ∷ []) ≡ accepted (outside 2 1))
    × (verdict_number (check_e (replicate 16 9) 1 (2 ∷ 1 ∷ 1 ∷ 0 ∷ [])) ≡ 5)
    -- row 7, sets that overlap
    × (verdict_number (first_block two 2 (limits E E) Max 1 1) ≡ 7)
