-- `word::number` meets its contract.
use Rattle.std.proofs.Common.{sym, ap, ◌∙◌}
use Rattle.std.specs.Int.{w64, from_be_bytes}
use Rattle.word.specs.Number.{number_at, eight}
use Rattle.word.proofs.Numbers.{be_number}
use Rattle.word.proofs.Eights.{none_left, some_left}
use Rattle.word.proofs.number.Goals as goal

pub returns-in_default : goal.returns-in_default
unfolding number_at
returns-in_default c = rw (none_left _ _ (sym c.eight.ensures ∙ c.in_default.is))

pub returns : goal.returns
unfolding number_at
returns c =
    let s = c.args.s.now in
    let at = c.args.at in
    let (left, long, same) = some_left s at (sym c.eight.ensures ∙ c.in-Some.is) in
    rw left (c.from_be_bytes.ensures ∙ ap (from_be_bytes w64) same ∙ be_number (eight s at) long)
