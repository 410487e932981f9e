-- The name of a reference: each rule of Git's page (git-check-ref-format) under its sentence, and the whole.
use Rattle.std.specs.Prelude.{Bool, not, ◌&&◌, ◌||◌, List, [], ◌∷◌, ℕ}
use Rattle.class.specs.Class.{Classes}
use Rattle.compare.specs.Prefix.{begins, same}
use Rattle.parse.specs.Split.{split}
use Rattle.name.specs.Words.{contains, ends, all}

-- `.` `..` `/` `//` `@` `@{` `.lock`
abbrev pub dot : List ℕ
dot = 46 ∷ []

abbrev pub dot_dot : List ℕ
dot_dot = 46 ∷ 46 ∷ []

abbrev pub slash : List ℕ
slash = 47 ∷ []

abbrev pub slash_slash : List ℕ
slash_slash = 47 ∷ 47 ∷ []

abbrev pub at : List ℕ
at = 64 ∷ []

abbrev pub at_brace : List ℕ
at_brace = 64 ∷ 123 ∷ []

abbrev pub dot_lock : List ℕ
dot_lock = 46 ∷ 108 ∷ 111 ∷ 99 ∷ 107 ∷ []

-- "slash-separated": a slash is 47
abbrev pub components : List ℕ → List (List ℕ)
components s = split 47 s

-- 1. "no slash-separated component can begin with a dot"
abbrev pub no_component_begins_with_dot : List ℕ → Bool
no_component_begins_with_dot s = all (λ c. not (begins dot c)) (components s)

-- 1. "or end with the sequence .lock". Document 02, Four: "Git's page forbids any component ending in `.lock`"
abbrev pub no_component_ends_with_lock : List ℕ → Bool
no_component_ends_with_lock s = all (λ c. not (ends dot_lock c)) (components s)

-- 2. "They must contain at least one /."
abbrev pub has_slash : List ℕ → Bool
has_slash s = contains slash s

-- 3. "They cannot have two consecutive dots .. anywhere."
abbrev pub no_dot_dot : List ℕ → Bool
no_dot_dot s = not (contains dot_dot s)

-- 4. "They cannot have ASCII control characters (i.e. bytes whose values are lower than \040, or \177 DEL), space,
-- tilde ~, caret ^, or colon : anywhere." 5. "They cannot have question-mark ?, asterisk *, or open bracket [ anywhere."
-- 10. "They cannot contain a \."
abbrev pub no_forbidden_byte : Classes → List ℕ → Bool
no_forbidden_byte byte s = all (λ b. not (byte.forbidden b)) s

-- 6. "They cannot begin or end with a slash / or contain multiple consecutive slashes"
abbrev pub slashes_apart : List ℕ → Bool
slashes_apart s = not (begins slash s || (ends slash s || contains slash_slash s))

-- 7. "They cannot end with a dot ."
abbrev pub no_dot_at_the_end : List ℕ → Bool
no_dot_at_the_end s = not (ends dot s)

-- 8. "They cannot contain a sequence @{."
abbrev pub no_at_brace : List ℕ → Bool
no_at_brace s = not (contains at_brace s)

-- 9. "They cannot be the single character @."
abbrev pub not_the_lone_at : List ℕ → Bool
not_the_lone_at s = not (same at s)

-- a valid name keeps every rule above
unfoldable pub valid_name : Classes → List ℕ → Bool
valid_name byte s =
    no_component_begins_with_dot s
    && (no_component_ends_with_lock s
    && (has_slash s
    && (no_dot_dot s
    && (no_forbidden_byte byte s && (slashes_apart s && (no_dot_at_the_end s && (no_at_brace s && not_the_lone_at s)))))))
