-- `put::hex` meets its contract: there are two digits for each byte.
use mathlib.Core.Path.{sym, ap, ◌∙◌}
use Rattle.hex_digits.proofs.Laws.{length_hex}
use Rattle.put.specs.Put.{place_behind}
use Rattle.put.proofs.hex.Goals as goal

pub returns : goal.returns
unfolding place_behind
returns c =
    let a = c.args in
    (c.digits.ensures, c.saturating_add.ensures ∙ ap (place_behind a.at) (sym (length_hex a.raw.now)))
