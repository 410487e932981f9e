-- Document 01's examples that are marked P hold: the prover computes them all in one statement.
use mathlib.Core.Path.{refl}
use Rattle.class.specs.Class.{is_hex, is_forbidden, is_line_end}
use Rattle.parse.specs.Part.{byte_at}
use Rattle.id.specs.Id.{id_at}
use Rattle.parse.specs.Limit.{digits_of, over_limit, admission}
use Rattle.parse.specs.Line.{eol, newline_at, text_at}
use Rattle.name.specs.Name.{valid_name}
use Rattle.header.specs.Header.{header_of}
use Rattle.decode.specs.Record.{record_of}
use Rattle.probe.specs.Shape.{shape_of}
use Rattle.probe.specs.RecordStart.{record_start}
use Rattle.start.specs.Start.{start_line, start_of}
use Rattle.line_number.specs.LineNumber.{at_most}
use Rattle.iter.specs.Step.{step_of}
use Rattle.handed.specs.Iteration.{iterate, read_of}
use Rattle.iter.specs.Items.{size_of, items_behind, items}
use Rattle.checks.specs.Check.{judge_body, check_of, check_answer}
use Rattle.search.specs.Search.{probed_of, halve, search_of}
use Rattle.find.specs.Lookup.{lookup_of, lookup_answer}
use Rattle.length.specs.Length.{length_at}
use Rattle.parts.specs.Parts.{edit_name, behind_name}
use Rattle.sort.specs.Sorted.{sorted}
use Rattle.sort.specs.Twin.{first_twin}
use Rattle.edit.specs.Edit.{edit_of, named_edit}
use Rattle.edits.specs.List.{edits_from, edits_of, twins_of, prepared_of}
use Rattle.merge.specs.Merge.{finished, old_entries, judged, edits_in_order, merge_of, merge_answer}
use Rattle.loose.specs.Loose.{symbolic_of, loose_of, loose_answer}
use Rattle.paper.specs.Cases.{EveryCase}

pub every_case : EveryCase
unfolding is_hex is_forbidden is_line_end byte_at id_at eol newline_at text_at header_of record_of shape_of record_start start_line start_of at_most step_of iterate read_of size_of items_behind items
    valid_name judge_body check_of check_answer probed_of halve search_of lookup_of lookup_answer length_at symbolic_of loose_of loose_answer admission digits_of over_limit
    edit_of named_edit behind_name edit_name sorted first_twin edits_from edits_of twins_of prepared_of finished old_entries judged edits_in_order merge_of merge_answer
every_case = refl
