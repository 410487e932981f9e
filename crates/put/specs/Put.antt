-- What putting a text into lent bytes means: what writers promise each other. Who only asks what a merge writes need not read it.
use Rattle.std.specs.Prelude.{List, ◌++◌, ℕ, ◌+◌, ◌-◌, min, length, take, drop}

-- the text w put at a place of the bytes d, as far as there is room; the bytes before it and behind it stay. What is put may be of any type
abbrev pub over : {A : Type 0} → List A → ℕ → List A → List A
over d at w = take at d ++ (take (length d - at) w ++ drop (at + length w) d)

-- the place n bytes behind `at`; where that is no 64-bit number, the largest one, which no lent bytes reach
unfoldable pub place_behind : ℕ → ℕ → ℕ
place_behind at n = min (at + n) 18446744073709551615
