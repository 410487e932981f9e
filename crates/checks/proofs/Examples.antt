-- Document 01's worked examples: the prover computes every case.
use mathlib.Core.Path.{◌≡◌, refl}
use Rattle.class.specs.Class.{is_hex, is_forbidden, is_line_end}
use Rattle.parse.specs.Part.{byte_at}
use Rattle.id.specs.Id.{id_at}
use Rattle.parse.specs.Line.{eol, newline_at, text_at}
use Rattle.name.specs.Name.{valid_name}
use Rattle.header.specs.Header.{header_of}
use Rattle.decode.specs.Record.{record_of}
use Rattle.start.specs.Start.{start_line, start_of}
use Rattle.line_number.specs.LineNumber.{at_most}
use Rattle.iter.specs.Step.{step_of}
use Rattle.handed.specs.Iteration.{iterate, read_of}
use Rattle.iter.specs.Items.{size_of, items_behind, items}
use Rattle.checks.specs.Check.{judge_body, check_of}
use Rattle.checks.specs.Examples.{all_computed, cases}

pub every_case : all_computed cases ≡ cases
unfolding is_hex is_forbidden is_line_end byte_at id_at eol newline_at text_at header_of record_of start_line start_of at_most step_of iterate read_of size_of items_behind items judge_body check_of valid_name
every_case = refl
