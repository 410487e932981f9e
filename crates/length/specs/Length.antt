-- A length in groups of seven bits, at a place of the bytes.
use Rattle.std.specs.Prelude.{◌&&◌, List, ℕ, ◌+◌, ◌*◌, ◌%◌, ltb, get_or, length, Option, Some, None}
use Rattle.parse.specs.Choice.{if}
use Rattle.length.specs.declared.Length.{Length}

-- a length, and the place behind it
abbrev pub length_of : ℕ → ℕ → Option Length
length_of value next = Some (record { value = value; next = next })

-- "Name length in groups of seven bits, low group first, top bit set on all but the last; one or two groups, second not zero."
unfoldable pub length_at : List ℕ → ℕ → Option Length
length_at s at =
    let low = get_or s at 0 in
    let high = get_or s (at + 1) 0 in
    if (ltb at (length s))
    (if (ltb low 128)
    (length_of low (at + 1))
    (if (ltb 0 high && ltb high 128) (length_of (low % 128 + 128 * high) (at + 1 + 1)) None))
    None

-- what comes of a length and the place behind it; or of bytes that are no length
abbrev pub measured {ℓ} : {A : Type ℓ} → Option Length → (ℕ → ℕ → A) → A → A
measured (Some l) f other = f l.value l.next
measured None f other = other
