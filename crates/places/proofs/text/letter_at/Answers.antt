-- `places::text::letter_at` meets its contract.
use mathlib.Core.Path.{◌≡◌, sym, ap, ◌∙◌}
use Prim.Native.Nat.{suc, ◌≤◌}
use native.Mathlib.Omega.{arith}
use native.Mathlib.Numerals.{add-one}
use mathlib.Core.Bool.{true, false}
use lib.ListN.{get_or, length}
use Rattle.class.specs.Class.{is_line_end}
use Rattle.places.specs.Letter.{letter}
use Rattle.places.proofs.Texts.{text_beyond, text_ended, text_goes}
use Rattle.places.proofs.text.letter_at.Goals as goal

pub returns-in_default : goal.returns-in_default
returns-in_default c =
    let end : length c.args.x.now ≤ c.args.i = grind arith in
    sym (ap letter (text_beyond c.args.x.now c.args.i end))

pub returns-then-is_cr_or_lf : goal.returns-then-is_cr_or_lf
returns-then-is_cr_or_lf c =
    let (inside, there) = c.in-Some.ensures.lookup.3 in
    let ended : is_line_end (get_or c.args.x.now c.args.i 0) ≡ true = cc (there 0) in
    sym (ap letter (text_ended c.args.x.now c.args.i inside ended))

pub returns : goal.returns
returns c =
    let (inside, there) = c.in-Some.ensures.lookup.3 in
    let on : is_line_end (get_or c.args.x.now c.args.i 0) ≡ false = cc (there 0) in
    add-one _ ∙ ap suc (c.from.ensures ∙ there 0) ∙ sym (ap letter (text_goes c.args.x.now c.args.i inside on))
