-- Worked examples of the source documents, at 104 positions: the best rule, the cover list, and the order in which bits are fixed.
-- Assumes nothing.
use Rattle.std.specs.Prelude.{List, [], ◌∷◌, ◌++◌, ℕ, replicate, Some}
use Rattle.model.specs.Policy.{Rule, best}
use Rattle.model.specs.Isolate.{fixed_by}
use Rattle.model.specs.Small.{row, Case, fixes, cover_case}

-- rule i is the key's best, and isolating it fixes these positions
unfoldable pub fix_case : List Rule → List ℕ → ℕ → List ℕ → Case
fix_case pol key i ps = record { computed = fixes (best 104 pol key) (fixed_by 104 pol key i); expected = fixes (Some i) ps }

-- a rule on positions 0 to 7
unfoldable pub top_rule : ℕ → ℕ → ℕ → Rule
top_rule value mask priority = record { value = row value; mask = row mask; priority = priority; action = 0 }

-- ---- document 003, figures 2 and 5 to 9

unfoldable pub policy003 : List Rule
policy003 =
    -- 0****1
    top_rule 0b0000_0100 0b1000_0100 0
    -- 001**1
    ∷ top_rule 0b0010_0100 0b1110_0100 1
    -- 0011*1
    ∷ top_rule 0b0011_0100 0b1111_0100 2
    -- 0*1101
    ∷ top_rule 0b0011_0100 0b1011_1100 3
    -- 0*1111
    ∷ top_rule 0b0011_1100 0b1011_1100 4
    -- 0**101
    ∷ top_rule 0b0001_0100 0b1001_1100 5
    -- 0***01
    ∷ top_rule 0b0000_0100 0b1000_1100 6
    ∷ []

-- the first is 003's packet: counting the standing dependents anew in each round fixes two bits, where the figure's greedy way, which
-- counts once, fixes three
unfoldable pub cases003 : List Case
cases003 =
    cover_case policy003 0 (6 ∷ 5 ∷ 4 ∷ 3 ∷ 2 ∷ 1 ∷ [])
    ∷ fix_case policy003 (row 0b0100_1100) 0 (2 ∷ 4 ∷ [])
    ∷ fix_case policy003 (row 0b0110_1100) 0 (3 ∷ 1 ∷ 4 ∷ [])
    ∷ fix_case policy003 (row 0b0010_1100) 1 (3 ∷ 4 ∷ [])
    ∷ []

-- ---- document 001, table I

unfoldable pub policy001 : List Rule
policy001 =
    -- A 111000
    top_rule 0b1110_0000 0b1111_1100 9
    -- B ***0**
    ∷ top_rule 0b0000_0000 0b0001_0000 6
    -- C0 10*0**
    ∷ top_rule 0b1000_0000 0b1101_0000 4
    -- C1 10*10*
    ∷ top_rule 0b1001_0000 0b1101_1000 4
    -- C2 10*110
    ∷ top_rule 0b1001_1000 0b1101_1100 4
    -- D 1**110
    ∷ top_rule 0b1001_1000 0b1001_1100 0
    -- E 001***
    ∷ top_rule 0b0010_0000 0b1110_0000 2
    -- F0 11*001
    ∷ top_rule 0b1100_0100 0b1101_1100 7
    -- F1 11*010
    ∷ top_rule 0b1100_1000 0b1101_1100 7
    -- G 110010
    ∷ top_rule 0b1100_1000 0b1111_1100 8
    ∷ []

-- B's cover list is A, G, F0, F1: in order of precedence, not of record numbers. In the last case a later round fixes a lower position
unfoldable pub cases001 : List Case
cases001 =
    cover_case policy001 1 (0 ∷ 9 ∷ 7 ∷ 8 ∷ [])
    ∷ fix_case policy001 (row 0b1100_0000) 1 (4 ∷ 2 ∷ 5 ∷ [])
    ∷ fix_case policy001 (row 0b1100_1100) 1 (5 ∷ 4 ∷ [])
    ∷ []

-- ---- document 002, figure 3(a): rules on destination, destination port and protocol, each at its place in the key

-- source address, destination address, source port, destination port, protocol
unfoldable pub fields : List ℕ → List ℕ → List ℕ → List ℕ → ℕ → List ℕ
fields src dst sport dport protocol = src ++ dst ++ sport ++ dport ++ (protocol ∷ [])

unfoldable pub zeros : ℕ → List ℕ
zeros n = replicate n 0

-- tcp to this port
unfoldable pub to_port : ℕ → ℕ → ℕ → Rule
to_port high low priority =
    record {
      value = fields (zeros 4) (zeros 4) (zeros 2) (high ∷ low ∷ []) 6;
      mask = fields (zeros 4) (zeros 4) (zeros 2) (255 ∷ 255 ∷ []) 255;
      priority = priority;
      action = 0;
    }

-- to the network 111.221.x.0, of whose third byte the mask says which bits count
unfoldable pub to_network : ℕ → ℕ → ℕ → Rule
to_network third mask priority =
    record {
      value = fields (zeros 4) (111 ∷ 221 ∷ third ∷ 0 ∷ []) (zeros 2) (zeros 2) 0;
      mask = fields (zeros 4) (255 ∷ 255 ∷ mask ∷ 0 ∷ []) (zeros 2) (zeros 2) 0;
      priority = priority;
      action = 0;
    }

-- R1 to R8, as records 0 to 7
unfoldable pub policy002 : List Rule
policy002 =
    to_port 0 179 32800
    ∷ to_port 2 134 32800
    ∷ to_network 69 255 16640
    ∷ to_network 66 255 16640
    ∷ to_network 78 254 16630
    ∷ to_network 64 248 16610
    ∷ to_network 112 248 16610
    ∷ to_network 64 192 16580
    ∷ []

-- from 10.0.0.1, port 1024, to 111.221.x.y
unfoldable pub packet_to : ℕ → ℕ → ℕ → ℕ → ℕ → List ℕ
packet_to x y protocol high low = fields (10 ∷ 0 ∷ 0 ∷ 1 ∷ []) (111 ∷ 221 ∷ x ∷ y ∷ []) (4 ∷ 0 ∷ []) (high ∷ low ∷ []) protocol

unfoldable pub cases002 : List Case
cases002 =
    cover_case policy002 7 (0 ∷ 1 ∷ 2 ∷ 3 ∷ 4 ∷ 5 ∷ 6 ∷ [])
    ∷ fix_case policy002 (packet_to 69 7 6 0 80) 2 (88 ∷ [])
    ∷ fix_case policy002 (packet_to 67 7 6 0 80) 5 (88 ∷ 53 ∷ 55 ∷ [])
    ∷ fix_case policy002 (packet_to 100 7 17 0 80) 7 (50 ∷ 88 ∷ 51 ∷ [])
    ∷ fix_case policy002 (packet_to 64 1 17 2 134) 5 (99 ∷ 53 ∷ 54 ∷ [])
    ∷ []

-- ---- all together

unfoldable pub paper_cases : List Case
paper_cases = cases003 ++ cases001 ++ cases002
