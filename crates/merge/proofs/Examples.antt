-- Document 01's worked merge and the cases beside it: the prover computes every one.
use mathlib.Core.Path.{◌≡◌, refl}
use mathlib.Core.List.{[], ◌∷◌}
use Rattle.class.specs.Class.{is_hex, is_forbidden, is_line_end}
use Rattle.id.specs.Id.{id_at}
use Rattle.parse.specs.Limit.{digits_of, over_limit, admission}
use Rattle.parse.specs.Line.{eol, newline_at, text_at}
use Rattle.parse.specs.Part.{byte_at}
use Rattle.name.specs.Name.{valid_name}
use Rattle.header.specs.Header.{noted, first_line, header_of}
use Rattle.decode.specs.Record.{record_of}
use Rattle.checks.specs.Check.{judge_body, check_of}
use Rattle.iter.specs.Items.{size_of, items_behind, items}
use Rattle.length.specs.Length.{length_at}
use Rattle.parts.specs.Parts.{edit_name, behind_name}
use Rattle.places.specs.Order.{before}
use Rattle.sort.specs.Sorted.{sorted}
use Rattle.sort.specs.Twin.{first_twin}
use Rattle.edit.specs.Edit.{edit_of, named_edit}
use Rattle.edits.specs.List.{edits_from, edits_of, twins_of, prepared_of, index_after}
use Rattle.hex_digits.specs.Hex.{hex_digit}
use Rattle.merge.specs.Merge.{new_file, finished, old_entries, judged, edits_in_order, merge_of, output_of, merge_answer, output_after, index_answer}
use Rattle.merge.specs.Examples.{all_computed, lengths, cases, numbered, long_inputs}

pub as_long_as_said : lengths ≡ 46 ∷ 188 ∷ 10 ∷ 40 ∷ 146 ∷ []
as_long_as_said = refl

pub every_case : all_computed cases ≡ cases
unfolding is_hex is_forbidden is_line_end byte_at id_at eol newline_at text_at noted first_line header_of record_of size_of items_behind items judge_body check_of
    valid_name digits_of over_limit admission length_at edit_of named_edit behind_name edit_name before sorted first_twin edits_from edits_of twins_of prepared_of index_after
    hex_digit new_file finished old_entries judged edits_in_order merge_of output_of merge_answer output_after index_answer
every_case = refl

pub long_inputs_lem : numbered long_inputs ≡ long_inputs
long_inputs_lem = refl
