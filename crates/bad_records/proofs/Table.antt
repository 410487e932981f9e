-- Every row of the table holds: the prover computes them all.
use mathlib.Core.Path.{refl}
use Rattle.class.specs.Class.{is_hex, is_forbidden, is_line_end}
use Rattle.parse.specs.Part.{byte_at}
use Rattle.parse.specs.Limit.{digits_of, over_limit, admission}
use Rattle.parse.specs.Line.{eol, newline_at, text_at}
use Rattle.id.specs.Id.{id_at}
use Rattle.name.specs.Name.{valid_name}
use Rattle.header.specs.Header.{header_of}
use Rattle.decode.specs.Record.{record_of}
use Rattle.probe.specs.Shape.{shape_of}
use Rattle.probe.specs.RecordStart.{record_start}
use Rattle.iter.specs.Items.{size_of, items_behind, items}
use Rattle.iter.specs.Step.{step_of, step_answer}
use Rattle.checks.specs.Check.{judge_body, check_of, check_answer}
use Rattle.search.specs.Search.{probed_of, halve, search_of}
use Rattle.find.specs.Lookup.{lookup_of, lookup_answer}
use Rattle.ask.specs.Ask.{sought_from, ask_body, ask_of, ask_answer}
use Rattle.length.specs.Length.{length_at}
use Rattle.parts.specs.Parts.{edit_name, behind_name}
use Rattle.sort.specs.Sorted.{sorted}
use Rattle.sort.specs.Twin.{first_twin}
use Rattle.edit.specs.Edit.{edit_of, named_edit}
use Rattle.edits.specs.List.{edits_from, edits_of, twins_of, prepared_of}
use Rattle.merge.specs.Merge.{new_file, finished, old_entries, judged, edits_in_order, merge_of, merge_answer}
use Rattle.bad_records.specs.Table.{EveryRow}

pub every_row : EveryRow
unfolding step_of step_answer is_hex is_forbidden is_line_end byte_at id_at eol newline_at text_at valid_name header_of record_of shape_of record_start size_of items_behind items judge_body check_of check_answer
    probed_of halve search_of lookup_of lookup_answer sought_from ask_body ask_of ask_answer admission digits_of over_limit length_at
    edit_of named_edit behind_name edit_name sorted first_twin edits_from edits_of twins_of prepared_of new_file finished old_entries judged edits_in_order merge_of merge_answer
every_row = refl
