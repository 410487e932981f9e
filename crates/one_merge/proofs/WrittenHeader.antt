-- The line that begins a new file is its header, whatever follows.
use mathlib.Core.Path.{◌≡◌, refl}
use mathlib.Core.Bool.{true}
use mathlib.Core.List.{List, ◌++◌}
use Prim.Native.Nat.{ℕ}
use lib.ListN.{drop}
use Rattle.class.specs.Class.{paper, is_line_end}
use Rattle.parse.specs.Line.{eol, newline_at, text_at}
use Rattle.header.specs.declared.Peeled.TheVariants.{Fully}
use Rattle.header.specs.Header.{noted, header_of}
use Rattle.lines.specs.Lines.{header_line}
use Rattle.std.specs.declared.result.Result.TheVariants.{Ok}

pub written_header : (s : List ℕ) → header_of paper (header_line ++ s) ≡ Ok (record { peeled = Fully; sorted = true; body = 46 })
unfolding header_of text_at newline_at eol is_line_end noted
written_header s = refl

pub behind_header_lem : (s : List ℕ) → drop 46 (header_line ++ s) ≡ s
behind_header_lem s = refl
