-- The tokens of a text, as the library splits it, and what they say one after another.
use mathlib.Core.Path.{◌≡◌, refl, ap, ◌∙◌}
use mathlib.Core.Bool.{Bool, true, false, cond}
use mathlib.Core.List.{List, [], ◌∷◌}
use Prim.Native.Nat.{ℕ}
use lib.Dec.{eqb}
use Rattle.std.specs.List.{fold, slice_split, onto_first}
use Rattle.parse.specs.Choice.{if}
use Rattle.parse.specs.Split.{on_first}
use Rattle.header.specs.declared.Header.{Header}
use Rattle.header.specs.Header.{tokens, noted, all_noted}

onto_by_library : (b : ℕ) (l : List (List ℕ)) → onto_first b l ≡ on_first b l
onto_by_library b [] = refl
onto_by_library b (w ∷ l) = refl

tokens_by_library : (s : List ℕ) → slice_split (λ b. eqb b 32) s ≡ tokens s
tokens_by_library [] = refl
tokens_by_library (b ∷ s) = rw (tokens_by_library s, onto_by_library b (tokens s)) (go (eqb b 32))
  where
    go : (t : Bool) → cond t ([] ∷ tokens s) (on_first b (tokens s)) ≡ if t ([] ∷ tokens s) (on_first b (tokens s))
    go true = refl
    go false = refl

folded : (l : List (List ℕ)) (h : Header) → fold (λ k w. noted w k) h l ≡ all_noted l h
folded [] h = refl
folded (w ∷ l) h = folded l (noted w h)

pub noted_by_library : (s : List ℕ) (h : Header) → fold (λ k w. noted w k) h (slice_split (λ b. eqb b 32) s) ≡ all_noted (tokens s) h
noted_by_library s h = folded (slice_split (λ b. eqb b 32) s) h ∙ ap (λ l. all_noted l h) (tokens_by_library s)
