-- What is seen to be allowed at a glance: bytes that no rule forbids anywhere, in pairs that no rule is about.
use Rattle.std.specs.Prelude.{Bool, not, ◌&&◌, ◌||◌, List, ℕ, ◌+◌, eqb, get_or}
use Rattle.class.specs.Class.{within}

-- from - to 9, A to Z, and from _ to z
unfoldable pub quiet : ℕ → Bool
quiet b = within 45 57 b || (within 65 90 b || within 95 122 b)

unfoldable pub dot_or_slash : ℕ → Bool
dot_or_slash b = within 46 47 b

-- b may stand behind a: it is quiet, and the two are no pair of dots and slashes and no end of `.lock/`
unfoldable pub plain_pair : ℕ → ℕ → Bool
plain_pair a b = quiet b && (not (dot_or_slash a && dot_or_slash b) && not (eqb a 107 && eqb b 47))

-- the byte behind a place may stand behind the one there
abbrev pub plain_at : List ℕ → ℕ → Bool
plain_at s k = plain_pair (get_or s k 0) (get_or s (k + 1) 0)
