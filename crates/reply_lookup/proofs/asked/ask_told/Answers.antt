-- `reply_lookup::asked::ask_told` meets its contract: a record in the answer is near, so its parts are those that are told.
use mathlib.Core.Path.{◌≡◌, ap, ◌∙◌}
use borrow.Author.Rules.{rules}
use Rattle.ask.specs.declared.Told.TheVariants.{Charted}
use Rattle.std.specs.declared.result.Result.TheVariants.{Ok}
use Rattle.tell.specs.Told.{parts_of}
use Rattle.tell.proofs.Near.{told_near}
use Rattle.reply_lookup.proofs.asked.ask_told.Goals as goal

pub returns-in-Ok-Charted : goal.returns-in-Ok-Charted
returns-in-Ok-Charted c =
    let a = c.args in let place = c.in-Ok-Charted.place in let r = c.in-Ok-Charted.found in let v = c.in-Ok-Charted.verdict in
    let hit : a.answer ≡ Ok (Charted place r v) = c.in-Ok-Charted.is ∙ ap Ok (rw c.in-Ok-Charted.is at c.in-Ok-Charted.field-0-is) in
    let told : c.parts_at-parts.result ≡ parts_of a.kind place r = c.parts_at-parts.ensures ∙ told_near a.kind place r (c.requires place r v hit) in
    rw (hit, told, c.verdict_number.ensures) (search rules)
