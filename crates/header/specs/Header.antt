-- The header of a file.
use Rattle.std.specs.Prelude.{true, false, not, ◌&&◌, List, [], ◌∷◌, ℕ, ◌-◌, ltb, eqb, get_or, length, take, drop, Result, Ok, Err}
use Rattle.parse.specs.Choice.{if}
use Rattle.class.specs.Class.{Classes, paper}
use Rattle.parse.specs.Limit.{over_limit}
use Rattle.parse.specs.Line.{text_at, ended}
use Rattle.compare.specs.Prefix.{begins, same}
use Rattle.parse.specs.Run.{span}
use Rattle.parse.specs.Split.{split}
use Rattle.header.specs.declared.Peeled.TheVariants.{Unspecified, Partial, Fully}
use Rattle.header.specs.declared.Header.{Header}
use Rattle.header.specs.declared.BadHeader.{BadHeader}
use Rattle.parse.specs.declared.limit.TooLarge.{TooLarge}

-- "# pack-refs with: "
abbrev pub mark : List ℕ
mark = 35 ∷ 32 ∷ 112 ∷ 97 ∷ 99 ∷ 107 ∷ 45 ∷ 114 ∷ 101 ∷ 102 ∷ 115 ∷ 32 ∷ 119 ∷ 105 ∷ 116 ∷ 104 ∷ 58 ∷ 32 ∷ []

-- ---- tokens

-- "Tokens are split at single spaces": a space is 32
abbrev pub tokens : List ℕ → List (List ℕ)
tokens s = split 32 s

-- `fully-peeled`, `peeled`, `sorted`
abbrev pub fully_peeled_word : List ℕ
fully_peeled_word = 102 ∷ 117 ∷ 108 ∷ 108 ∷ 121 ∷ 45 ∷ 112 ∷ 101 ∷ 101 ∷ 108 ∷ 101 ∷ 100 ∷ []

abbrev pub peeled_word : List ℕ
peeled_word = 112 ∷ 101 ∷ 101 ∷ 108 ∷ 101 ∷ 100 ∷ []

abbrev pub sorted_word : List ℕ
sorted_word = 115 ∷ 111 ∷ 114 ∷ 116 ∷ 101 ∷ 100 ∷ []

-- what a token says; "others are ignored"
unfoldable pub noted : List ℕ → Header → Header
noted w h =
    if (same fully_peeled_word w) (record { peeled = Fully; sorted = h.sorted; body = h.body })
    (if (same peeled_word w) (record { peeled = Partial; sorted = h.sorted; body = h.body })
    (if (same sorted_word w) (record { peeled = h.peeled; sorted = true; body = h.body })
    h))

-- one after another: "of the two peeled tokens the later one counts"
abbrev pub all_noted : List (List ℕ) → Header → Header
all_noted [] h = h
all_noted (w ∷ l) h = all_noted l (noted w h)

-- ---- the header

-- "unspecified, not sorted"
abbrev pub plain_header : ℕ → Header
plain_header body = record { peeled = Unspecified; sorted = false; body = body }

-- "For number 2 the text is the first line without its LF or CR LF, or all bytes if there is no LF." Its length
unfoldable pub first_line : List ℕ → ℕ
first_line s =
    let k = span (λ b. not (eqb b 10)) s in
    if (ltb k (length s) && eqb (get_or s (k - 1) 0) 13) (k - 1) k

-- a first line that is no header: the length of its text
abbrev pub unreadable : ℕ → Result Header BadHeader
unreadable text = Err (record { text = text })

-- "Header: `# pack-refs with: ` and text to a line end." "Without `#` first there is no header": # is 35
unfoldable pub header_of : Classes → List ℕ → Result Header BadHeader
header_of byte s =
    if (eqb (get_or s 0 0) 35)
    (if (begins mark s)
    (ended (text_at byte s 18)
    (λ end next. Ok (all_noted (tokens (take (end - 18) (drop 18 s))) (plain_header next)))
    (unreadable (first_line s)))
    (unreadable (first_line s)))
    (Ok (plain_header 0))

-- what comes of it: f of the header, or g of the length of the text that can't be read
abbrev pub headed {ℓ} : {A : Type ℓ} → Result Header BadHeader → (Header → A) → (ℕ → A) → A
headed (Ok h) f g = f h
headed (Err bad) f g = g bad.text

-- the answer to any bytes, with the size limit first
unfoldable pub header_answer : List ℕ → Result (Result Header BadHeader) TooLarge
header_answer s = if (over_limit (length s)) (Err (record {})) (Ok (header_of paper s))

-- the paper's number for each case
abbrev pub opened_number : Result Header BadHeader → ℕ
opened_number (Ok h) = 0
opened_number (Err bad) = 2

abbrev pub header_number : Result (Result Header BadHeader) TooLarge → ℕ
header_number (Ok o) = opened_number o
header_number (Err large) = 17
