-- Lookup and `ask` in five small bodies: the prover computes every case.
use mathlib.Core.Path.{◌≡◌, refl}
use Rattle.class.specs.Class.{is_hex, is_forbidden, is_line_end}
use Rattle.parse.specs.Part.{byte_at}
use Rattle.id.specs.Id.{id_at}
use Rattle.parse.specs.Line.{eol, newline_at, text_at}
use Rattle.name.specs.Name.{valid_name}
use Rattle.header.specs.Header.{header_of}
use Rattle.decode.specs.Record.{record_of}
use Rattle.probe.specs.Shape.{shape_of}
use Rattle.probe.specs.RecordStart.{record_start}
use Rattle.iter.specs.Items.{size_of, items_behind, items}
use Rattle.checks.specs.Check.{judge_body}
use Rattle.search.specs.Search.{probed_of, halve, search_of}
use Rattle.find.specs.Lookup.{lookup_of}
use Rattle.ask.specs.Ask.{sought_from, ask_body, ask_of}
use Rattle.paper.specs.Lookups.{all_computed, cases}

pub every_case : all_computed cases ≡ cases
unfolding is_hex is_forbidden is_line_end byte_at id_at eol newline_at text_at header_of record_of shape_of record_start size_of items_behind items judge_body
    valid_name probed_of halve search_of lookup_of sought_from ask_body ask_of
every_case = refl
