-- Every row of the table holds: the prover computes them all.
use mathlib.Core.Path.{refl}
use Rattle.class.specs.Class.{is_hex, is_forbidden, is_line_end}
use Rattle.parse.specs.Part.{byte_at}
use Rattle.parse.specs.Limit.{digits_of, over_limit, admission}
use Rattle.parse.specs.Line.{eol, newline_at, text_at}
use Rattle.id.specs.Id.{id_at}
use Rattle.name.specs.Name.{valid_name}
use Rattle.header.specs.Header.{header_of}
use Rattle.decode.specs.Record.{record_of}
use Rattle.iter.specs.Items.{size_of, items_behind, items}
use Rattle.checks.specs.Check.{judge_body}
use Rattle.ask.specs.Ask.{sought_from, ask_body, ask_of, ask_answer}
use Rattle.bad_records.specs.Damaged.{EveryRow}

pub every_row : EveryRow
unfolding is_hex is_forbidden is_line_end byte_at id_at eol newline_at text_at valid_name header_of record_of size_of items_behind items judge_body sought_from ask_body ask_of ask_answer
    admission digits_of over_limit
every_row = refl
