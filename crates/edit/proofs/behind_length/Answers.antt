-- `edit::behind_length` meets its contract: each return hands on what the parts before it said.
use mathlib.Core.Path.{◌≡◌, sym, ap, ◌∙◌}
use mathlib.Core.Bool.{true, false, ◌||◌}
use native.Mathlib.Omega.{arith}
use lib.Dec.{eqb, ltb}
use Rattle.std.proofs.lemmas.Bool.Decides.{nat_tests}
use Rattle.class.specs.Class.{paper}
use Rattle.name.specs.Name.{valid_name}
use Rattle.edit.specs.Edit.{named_edit}
use Rattle.edit.proofs.behind_length.Goals as goal

pub returns-then-len-eq0 : goal.returns-then-len-eq0
unfolding named_edit
returns-then-len-eq0 c =
    let no_name : (eqb c.args.len 0 || ltb 4096 c.args.len) ≡ true = grind (arith, nat_tests) in
    rw no_name

pub returns-then-not-stands : goal.returns-then-not-stands
unfolding named_edit
returns-then-not-stands c =
    let some : (eqb c.args.len 0 || ltb 4096 c.args.len) ≡ false = grind (arith, nat_tests) in
    rw (some, sym c.stands.ensures ∙ c.if-not-stands.true)

pub returns-then-not-is_valid : goal.returns-then-not-is_valid
unfolding named_edit
returns-then-not-is_valid c =
    let some : (eqb c.args.len 0 || ltb 4096 c.args.len) ≡ false = grind (arith, nat_tests) in
    let name = ap (valid_name paper) (sym c.edit_name.ensures) ∙ sym c.is_valid.ensures in
    rw (some, sym c.stands.ensures ∙ c.if-not-stands.false, name ∙ c.if-not-is_valid.true)

pub returns : goal.returns
unfolding named_edit
returns c =
    let some : (eqb c.args.len 0 || ltb 4096 c.args.len) ≡ false = grind (arith, nat_tests) in
    let name = ap (valid_name paper) (sym c.edit_name.ensures) ∙ sym c.is_valid.ensures in
    rw (some, sym c.stands.ensures ∙ c.if-not-stands.false, name ∙ c.if-not-is_valid.false)
