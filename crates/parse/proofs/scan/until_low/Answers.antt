-- `parse::scan::until_low` meets its contract: no byte stops before i.
use Rattle.std.proofs.Common.{◌≡◌, ◌+◌, sym, ◌∙◌, arith}
use Rattle.parse.proofs.Runs.{look_left}
use Rattle.parse.proofs.Stops.{passed_look, stop_here}
use Rattle.parse.proofs.scan.until_low.Goals as goal

pub bounds-s-i : goal.bounds-s-i
bounds-s-i g c = let left = look_left _ _ (sym c.first_low.ensures ∙ c.in-Some.is) in omega arith

pub returns-then-stop : goal.returns-then-stop
returns-then-stop g c =
    let told = sym c.first_low.ensures ∙ c.in-Some.is in
    let left = look_left _ _ told in
    let s = c.args.s.now in
    let at = c.loop-n.i + c.in-Some.n in
    record {
      within = omega arith;
      first = stop_here _ s at (passed_look _ s c.loop-n.i c.loop-n.invariant.passed told) (omega arith) (omega (arith, c.type_inv.s at)) c.if-stop.ensures;
    }

pub loop-n-smaller : goal.loop-n-smaller
loop-n-smaller g c = let left = look_left _ _ (sym c.first_low.ensures ∙ c.in-Some.is) in omega arith

pub loop-n-preserved : goal.loop-n-preserved
loop-n-preserved g c =
    let told = sym c.first_low.ensures ∙ c.in-Some.is in
    let left = look_left _ _ told in
    let whole : c.in-Some.n ≡ 8 = omega arith in
    record { inside = omega arith; passed = rw whole at (passed_look _ c.args.s.now c.loop-n.i c.loop-n.invariant.passed told) }
