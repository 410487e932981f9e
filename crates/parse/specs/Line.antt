-- Line ends, text before a line end, and lines.
use Rattle.std.specs.Prelude.{not, ◌&&◌, List, [], ◌∷◌, ℕ, suc, ◌+◌, ltb, eqb, get_or, drop, Option, Some, None}
use Rattle.parse.specs.Choice.{if}
use Rattle.class.specs.Class.{Classes}
use Rattle.parse.specs.Part.{then}
use Rattle.parse.specs.Run.{span}
use Rattle.parse.specs.declared.line.Text.{Text}

-- "A line end is LF or CR LF." Its length at the front of s: 1, 2, or 0 where there is none
unfoldable pub eol : List ℕ → ℕ
eol s = if (eqb (get_or s 0 0) 10) 1 (if (eqb (get_or s 0 0) 13 && eqb (get_or s 1 0) 10) 2 0)

-- the place behind the line end that stands at a place
unfoldable pub newline_at : List ℕ → ℕ → Option ℕ
newline_at s at = if (ltb 0 (eol (drop at s))) (Some (at + eol (drop at s))) None

-- "Text runs to the first CR or LF"
abbrev pub text_len : Classes → List ℕ → ℕ
text_len byte s = span (λ b. not (byte.line_end b)) s

-- text that ends at a place, and the place behind its line end
abbrev pub text_ends : ℕ → ℕ → Option Text
text_ends end next = Some (record { end = end; next = next })

-- "a CR without LF after it can't be read, nor can text without a line end"
unfoldable pub text_at : Classes → List ℕ → ℕ → Option Text
text_at byte s at =
    let end = at + text_len byte (drop at s) in
    then (newline_at s end) (λ next. text_ends end next) None

-- what comes of such text: f of its end and the place behind its line end, or the other
abbrev pub ended {ℓ} : {A : Type ℓ} → Option Text → (ℕ → ℕ → A) → A → A
ended (Some text) f other = f text.end text.next
ended None f other = other

-- the bytes through the next LF, "or the rest if none"
abbrev pub line_len : List ℕ → ℕ
line_len [] = 0
line_len (b ∷ s) = if (eqb b 10) 1 (suc (line_len s))
