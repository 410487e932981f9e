-- `reply_file::walk::step_told` meets its contract: a record lies under the size limit, so its parts are told as they are.
use borrow.Author.Rules.{rules}
use mathlib.Core.Path.{◌≡◌, ap, ◌∙◌}
use Rattle.std.specs.declared.result.Result.TheVariants.{Ok}
use Rattle.iter.specs.declared.step.Step.TheVariants.{Good}
use Rattle.tell.specs.Told.{parts_of}
use Rattle.tell.proofs.Near.{told_near}
use Rattle.reply_file.proofs.walk.step_told.Goals as goal

pub returns-in-Ok-Good : goal.returns-in-Ok-Good
returns-in-Ok-Good c =
    let good : c.args.answer ≡ Ok (Good c.in-Ok-Good.found c.in-Ok-Good.next) = c.in-Ok-Good.is ∙ ap Ok (rw c.in-Ok-Good.is at c.in-Ok-Good.field-0-is) in
    let r = c.in-Ok-Good.found in
    let told : c.parts_at-parts.result ≡ parts_of c.args.kind c.args.place r = c.parts_at-parts.ensures ∙ told_near c.args.kind c.args.place r (c.requires r _ good) in
    rw (good, told) (search rules)
