-- `edit::read` meets its contract: each return hands on what the parts before it said.
use mathlib.Core.Path.{◌≡◌, sym, ◌∙◌}
use mathlib.Core.Bool.{true, false, ◌&&◌}
use native.Mathlib.Omega.{arith}
use lib.Dec.{leb, ltb}
use lib.ListN.{length}
use Rattle.std.proofs.lemmas.Bool.Decides.{nat_tests}
use Rattle.parts.specs.Parts.{edit_kind}
use Rattle.edit.specs.Edit.{edit_of}
use Rattle.edit.proofs.read.Goals as goal

pub returns-then-is_empty : goal.returns-then-is_empty
unfolding edit_of
returns-then-is_empty c =
    let no_kind : (ltb 0 (length c.args.s.now) && leb (edit_kind c.args.s.now 0) 2) ≡ false = grind (arith, nat_tests) in
    rw no_kind

pub returns-in_default : goal.returns-in_default
unfolding edit_of
returns-in_default c =
    let kind : (ltb 0 (length c.args.s.now) && leb (edit_kind c.args.s.now 0) 2) ≡ true = grind (arith, nat_tests) in
    rw (kind, sym c.length_at.ensures ∙ c.in_default.is)

pub returns : goal.returns
unfolding edit_of
returns c =
    let kind : (ltb 0 (length c.args.s.now) && leb (edit_kind c.args.s.now 0) 2) ≡ true = grind (arith, nat_tests) in
    rw (kind, sym c.length_at.ensures ∙ c.in-Some.is) (cc)
