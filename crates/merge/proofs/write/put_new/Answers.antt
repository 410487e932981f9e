-- `merge::write::put_new` meets its contract: the lines that are put are those of the edit's kind.
use mathlib.Core.Path.{◌≡◌, sym, ap, ◌∙◌}
use native.Mathlib.Omega.{arith}
use lib.ListN.{length}
use Rattle.hex_digits.specs.Hex.{hex_text}
use Rattle.put.specs.Put.{over}
use Rattle.put.proofs.Laws.{over_nil, place_behind_lem, puts_then}
use Rattle.lines.specs.Lines.{record_line, peeled_line}
use Rattle.merge.proofs.Splice.{puts_as, new_lines, first_line, second_line, lines_none, lines_one, lines_two}
use Rattle.merge.proofs.write.put_new.Goals as goal

pub returns-then-kind-eq0 : goal.returns-then-kind-eq0
returns-then-kind-eq0 c =
    let a = c.args in
    let none = lines_none a.n a.list.now a.place (sym c.edit_kind-kind.ensures ∙ c.if-kind-eq0.true) in
    record {
      value = omega (arith, place_behind_lem a.at (length (new_lines a.n a.list.now a.place)), ap length none, c.ranges.at);
      out_after = sym (ap (over a.out.now a.at) none ∙ over_nil a.out.now a.at);
    }

pub returns-then-kind-eq1 : goal.returns-then-kind-eq1
returns-then-kind-eq1 c =
    let a = c.args in
    let first : record_line (hex_text c.edit_id.result.now) c.edit_name.result.now ≡ first_line a.n a.list.now a.place =
    λ i. record_line (hex_text (c.edit_id.ensures i)) (c.edit_name.ensures i)
    in
    let one = lines_one a.n a.list.now a.place (sym c.edit_kind-kind.ensures ∙ c.if-kind-eq1.true) in
    let put = puts_as a.out.now a.at (first ∙ sym one) c.put_record-next.ensures in
    record { value = put.1; out_after = put.0 }

pub returns : goal.returns
returns c =
    let a = c.args in
    let kind = c.edit_kind-kind.ensures in
    let two = lines_two a.n a.list.now a.place (λ e. c.if-kind-eq0.false (kind ∙ e)) (λ e. c.if-kind-eq1.false (kind ∙ e)) in
    let first = puts_as a.out.now a.at (λ i. record_line (hex_text (c.edit_id.ensures i)) (c.edit_name.ensures i)) c.put_record-next.ensures in
    let second = puts_as _ _ (ap (λ s. peeled_line (hex_text s)) c.edit_peeled.ensures) c.put_peeled.ensures in
    let both =
    puts_as a.out.now a.at (sym two)
    (puts_then a.out.now _ _ a.at _ _ (first_line a.n a.list.now a.place) (second_line a.n a.list.now a.place) (omega (arith, c.well_formed)) first second)
    in
    record { value = both.1; out_after = both.0 }
