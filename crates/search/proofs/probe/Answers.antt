-- `search::probe` meets its contract: the name is the one of the shape, and it failed where there is no shape.
use mathlib.Core.Path.{◌≡◌, sym, ◌∙◌}
use Prim.Native.Nat.{◌+◌, ◌-◌}
use native.Mathlib.Omega.{arith}
use Rattle.class.specs.Class.{paper}
use Rattle.probe.proofs.Shapes.{shape_fits}
use Rattle.search.specs.Search.{probed_of}
use Rattle.search.proofs.probe.Goals as goal
use Rattle.search.proofs.probe.Goals.{in-Some, in-None}

pub overflow_add-from : goal.overflow_add-from
overflow_add-from c = omega (arith, shape_fits paper c.args.n c.args.s.now c.in-Some.len (sym c.name_at_record_start.ensures ∙ c.in-Some.is))

pub overflow_add-from-in-Some : goal.overflow_add-from-in-Some
overflow_add-from-in-Some c = omega (arith, shape_fits paper c.args.n c.args.s.now c.in-Some.len (sym c.name_at_record_start.ensures ∙ c.in-Some.is))

pub returns : goal.returns
unfolding probed_of
returns c = elim c.match-name_at_record_start.branch [
  | in-Some w ↦
      let len : c.args.n + 1 + w.in-Some.len - (c.args.n + 1) ≡ w.in-Some.len = omega arith in
      rw (c.compare.ensures, w.failed-is, w.between.ensures, len, ← c.name_at_record_start.ensures, w.in-Some.is)
  | in-None w ↦ rw (c.compare.ensures, w.failed-is, ← c.name_at_record_start.ensures, w.in-None.is)
]
