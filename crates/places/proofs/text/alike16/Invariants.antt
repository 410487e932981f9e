-- `places::text::alike16` meets its contract: while all was alike, the bytes passed are alike and end no text.
use mathlib.Core.Path.{◌≡◌}
use mathlib.Core.Bool.{true}
use Prim.Native.Nat.{◌+◌, ◌≤◌}
use lib.ListN.{length}
use Rattle.places.specs.Letter.{Alike}
use Rattle.places.proofs.text.alike16.Given as goal

abbrev pub invariant-loop-k : goal.invariant-loop-k
invariant-loop-k l = (l.i + 16 ≤ length l.x) × (l.i + 16 ≤ length l.y) × (l.alike ≡ true → Alike l.x l.y l.i l.k)
