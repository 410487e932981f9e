-- `decode::reference::reference` meets its contract: each return hands on what the parts before it said.
use mathlib.Core.Path.{sym, ◌∙◌}
use Rattle.class.specs.Class.{paper}
use Rattle.parse.proofs.Lines.{text_order}
use Rattle.decode.specs.Record.{record_of}
use Rattle.decode.proofs.reference.reference.Goals as goal

pub returns-in_default : goal.returns-in_default
unfolding record_of
returns-in_default c =
    rw (← c.hex_hash.ensures, c.in_default.is)

pub returns-in_default-past_byte : goal.returns-in_default-past_byte
unfolding record_of
returns-in_default-past_byte c =
    rw (← c.hex_hash.ensures, c.in-Some.is, ← c.past_byte.ensures, c.in_default-past_byte.is)

pub returns-in_default-until_line_end : goal.returns-in_default-until_line_end
unfolding record_of
returns-in_default-until_line_end c =
    rw (← c.hex_hash.ensures, c.in-Some.is, ← c.past_byte.ensures, c.in-Some-past_byte.is, ← c.until_line_end.ensures, c.in_default-until_line_end.is)

pub returns-then-not-is_name : goal.returns-then-not-is_name
unfolding record_of
returns-then-not-is_name c =
    rw (← c.hex_hash.ensures, c.in-Some.is, ← c.past_byte.ensures, c.in-Some-past_byte.is, ← c.until_line_end.ensures, c.in-Some-until_line_end.is, ← c.between.ensures, ← c.is_valid-is_name.ensures, c.if-not-is_name.true)

pub overflow_sub-name_len : goal.overflow_sub-name_len
overflow_sub-name_len c =
    text_order paper c.args.s.now c.in-Some-past_byte.from (sym c.until_line_end.ensures ∙ c.in-Some-until_line_end.is)

pub returns-in_default-past_byte-2 : goal.returns-in_default-past_byte-2
unfolding record_of
returns-in_default-past_byte-2 c =
    rw (← c.hex_hash.ensures, c.in-Some.is, ← c.past_byte.ensures, c.in-Some-past_byte.is, ← c.until_line_end.ensures, c.in-Some-until_line_end.is, ← c.between.ensures, ← c.is_valid-is_name.ensures, c.if-not-is_name.false, ← c.past_byte-2.ensures, c.in_default-past_byte-2.is)

pub returns-in_default-hex_hash : goal.returns-in_default-hex_hash
unfolding record_of
returns-in_default-hex_hash c =
    rw (← c.hex_hash.ensures, c.in-Some.is, ← c.past_byte.ensures, c.in-Some-past_byte.is, ← c.until_line_end.ensures, c.in-Some-until_line_end.is, ← c.between.ensures, ← c.is_valid-is_name.ensures, c.if-not-is_name.false, ← c.past_byte-2.ensures, c.in-Some-past_byte-2.is, ← c.hex_hash-2.ensures, c.in_default-hex_hash.is)

pub returns-in_default-newline : goal.returns-in_default-newline
unfolding record_of
returns-in_default-newline c =
    rw (← c.hex_hash.ensures, c.in-Some.is, ← c.past_byte.ensures, c.in-Some-past_byte.is, ← c.until_line_end.ensures, c.in-Some-until_line_end.is, ← c.between.ensures, ← c.is_valid-is_name.ensures, c.if-not-is_name.false, ← c.past_byte-2.ensures, c.in-Some-past_byte-2.is, ← c.hex_hash-2.ensures, c.in-Some-hex_hash.is, ← c.newline.ensures, c.in_default-newline.is)

pub returns : goal.returns
unfolding record_of
returns c =
    rw (← c.hex_hash.ensures, c.in-Some.is, ← c.past_byte.ensures, c.in-Some-past_byte.is, ← c.until_line_end.ensures, c.in-Some-until_line_end.is, ← c.between.ensures, ← c.is_valid-is_name.ensures, c.if-not-is_name.false, ← c.past_byte-2.ensures, c.in-Some-past_byte-2.is, ← c.hex_hash-2.ensures, c.in-Some-hex_hash.is, ← c.newline.ensures, c.in-Some-newline.is)
