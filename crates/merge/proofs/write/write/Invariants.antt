-- `merge::write::write` meets its contract: what is left of the new file, put where the writing has come to, makes what is wanted.
use mathlib.Core.Path.{◌≡◌}
use lib.ListN.{length}
use Rattle.put.specs.Put.{over, place_behind}
use Rattle.merge.proofs.Splice.{spliced_from}
use Rattle.merge.proofs.write.write.Given as goal

abbrev pub invariant-loop-j : goal.invariant-loop-j
invariant-loop-j l = length l.out ≡ length l.initial.out
    × (over l.out l.at (spliced_from l.n l.file l.list l.index l.marks l.from l.j) ≡ over l.initial.out l.initial.at (spliced_from l.n l.file l.list l.index l.marks l.body 0))
    × (place_behind l.at (length (spliced_from l.n l.file l.list l.index l.marks l.from l.j)) ≡ place_behind l.initial.at (length (spliced_from l.n l.file l.list l.index l.marks l.body 0)))
