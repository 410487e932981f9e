-- The parts of the edit that stands at a place of a list. Every place has them: a kind beyond the end is 0, where no length can be
-- read there are no name and no ids, and each part ends where the bytes end.
use Rattle.std.specs.Prelude.{List, [], ℕ, ◌+◌, ◌/◌, get_or, take, drop}
use Rattle.length.specs.Length.{length_at, measured}

-- "Kind byte: 0 delete, 1 update, 2 update with peeled id."
abbrev pub edit_kind : List ℕ → ℕ → ℕ
edit_kind list place = get_or list place 0

-- "Name length [..]. Name."
unfoldable pub edit_name : List ℕ → ℕ → List ℕ
edit_name list place = measured (length_at list (place + 1)) (λ len from. take len (drop from list)) []

-- what stands behind the name: the ids
unfoldable pub behind_name : List ℕ → ℕ → List ℕ
behind_name list place = measured (length_at list (place + 1)) (λ len from. drop (from + len) list) []

-- "For 1 and 2 the id in raw bytes (20 or 32), for 2 the peeled id": each of half as many bytes as digits
abbrev pub edit_id : ℕ → List ℕ → ℕ → List ℕ
edit_id n list place = take (n / 2) (behind_name list place)

abbrev pub edit_peeled : ℕ → List ℕ → ℕ → List ℕ
edit_peeled n list place = take (n / 2) (drop (n / 2) (behind_name list place))
