-- `word::first_low` meets its contract.
use Rattle.std.proofs.Common.{sym, ap, ◌∙◌, arith}
use Rattle.std.specs.Int.{w64, from_le_bytes}
use Rattle.word.specs.Number.{Bytes, eight}
use Rattle.word.specs.Low.{first_low_at}
use Rattle.word.proofs.Bytes.{bytes_eight}
use Rattle.word.proofs.Numbers.{le_digits}
use Rattle.word.proofs.Eights.{none_left, some_left}
use Rattle.word.proofs.first_low.Goals as goal

pub returns-in_err-eight : goal.returns-in_err-eight
unfolding first_low_at
returns-in_err-eight c = rw (none_left _ _ (sym c.eight.ensures ∙ c.in_err-eight.was)) c.from_residual.ensures

pub returns : goal.returns
unfolding first_low_at
returns c =
    let s = c.args.s.now in
    let at = c.args.at in
    let all : Bytes s = λ i. omega (arith, c.type_inv.s i) in
    let (left, long, same) = some_left s at (sym c.eight.ensures ∙ c.in_ok-eight.was) in
    rw left (c.low_digit.ensures (eight s at) long (bytes_eight s at all) (c.from_le_bytes.ensures ∙ ap (from_le_bytes w64) same ∙ le_digits (eight s at) long))
