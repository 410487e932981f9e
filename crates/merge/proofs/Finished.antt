-- The answer by the spliced file is the merge's answer: no record remains exactly if the new file is its header.
use mathlib.Core.Path.{◌≡◌, sym, ◌∙◌}
use mathlib.Core.Bool.{Bool}
use mathlib.Core.List.{List, [], ◌∷◌, ◌++◌}
use Prim.Native.Nat.{ℕ, ◌<◌}
use native.Mathlib.Omega.{arith}
use lib.Dec.{eqb}
use lib.ListN.{length, length-append}
use borrow.Author.Tests.{eq-eqb, ne_eqb}
use Rattle.decode.specs.Entry.{Entry}
use Rattle.lines.specs.Lines.{record_line, peeled_lines, lines_of, lines_of_all, header_line}
use Rattle.merge.specs.Override.{Override}
use Rattle.merge.specs.Merge.{overridden, is_idle, new_file, finished}
use Rattle.merge.specs.Splice.{spliced_answer}

-- a record's line holds at least a space
lines_some : (e : Entry) → 0 < length (lines_of e)
lines_some e =
    omega (
      arith,
      length-append (record_line e.id e.name) (peeled_lines e.peeled),
      length-append e.id (32 ∷ (e.name ++ 10 ∷ [])),
    )

-- lines behind a header, which is a variable here so that no step computes with its bytes
none_behind : (header : List ℕ) (l : List Entry) → eqb (length (header ++ lines_of_all l)) (length header) ≡ eqb (length l) 0
none_behind header [] = eq-eqb (length (header ++ [])) (length header) (omega (arith, length-append header []))
none_behind header (e ∷ l) =
    ne_eqb (length (header ++ lines_of_all (e ∷ l))) (length header)
    (λ z. omega (
      arith,
      length-append header (lines_of_all (e ∷ l)),
      length-append (lines_of e) (lines_of_all l),
      lines_some e,
    ))
    ∙ sym (ne_eqb (length (e ∷ l)) 0 (λ z. omega arith))

pub none_remains : (olds : List Entry) (edits : List Override) → eqb (length (new_file olds edits)) (length header_line) ≡ eqb (length (overridden olds edits)) 0
unfolding new_file
none_remains olds edits = none_behind header_line (overridden olds edits)

pub finished_is : (still : Bool) (new : List ℕ) (olds : List Entry) (edits : List Override) (room : ℕ)
    → still ≡ is_idle olds edits → new ≡ new_file olds edits → spliced_answer header_line still new room ≡ finished olds edits room
unfolding spliced_answer finished
finished_is still new olds edits room s f = rw (s, f, none_remains olds edits)
