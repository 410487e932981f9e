-- The text of a packed file: its header, and the lines of each record.
use Rattle.std.specs.Prelude.{List, [], ◌∷◌, ◌++◌, ℕ}
use Rattle.std.proofs.Math.Option.{Option, none, some}
use Rattle.decode.specs.Entry.{Entry}

-- "every line ends in LF": 10. A space is 32, `^` is 94
abbrev pub record_line : List ℕ → List ℕ → List ℕ
record_line id name = id ++ 32 ∷ (name ++ 10 ∷ [])

abbrev pub peeled_line : List ℕ → List ℕ
peeled_line id = 94 ∷ (id ++ 10 ∷ [])

abbrev pub peeled_lines : Option (List ℕ) → List ℕ
peeled_lines none = []
peeled_lines (some id) = peeled_line id

abbrev pub lines_of : Entry → List ℕ
lines_of e = record_line e.id e.name ++ peeled_lines e.peeled

abbrev pub lines_of_all : List Entry → List ℕ
lines_of_all [] = []
lines_of_all (e ∷ l) = lines_of e ++ lines_of_all l

-- "the 46 bytes `# pack-refs with: peeled fully-peeled sorted ` with LF"
abbrev pub header_line : List ℕ
header_line =
    35 ∷ 32 ∷ 112 ∷ 97 ∷ 99 ∷ 107 ∷ 45 ∷ 114 ∷ 101 ∷ 102 ∷ 115 ∷ 32 ∷ 119 ∷ 105 ∷ 116 ∷ 104 ∷ 58 ∷ 32
    ∷ 112 ∷ 101 ∷ 101 ∷ 108 ∷ 101 ∷ 100 ∷ 32
    ∷ 102 ∷ 117 ∷ 108 ∷ 108 ∷ 121 ∷ 45 ∷ 112 ∷ 101 ∷ 101 ∷ 108 ∷ 101 ∷ 100 ∷ 32
    ∷ 115 ∷ 111 ∷ 114 ∷ 116 ∷ 101 ∷ 100 ∷ 32 ∷ 10 ∷ []

-- a file of some records under a header
abbrev pub file_of : List ℕ → List Entry → List ℕ
file_of header l = header ++ lines_of_all l
