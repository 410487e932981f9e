-- `merge::finish` meets its contract: the first writing has no room, so it only measures.
use mathlib.Core.Path.{◌≡◌, refl, sym, ap, ◌∙◌}
use mathlib.Core.List.{List, [], ◌++◌}
use Prim.Native.Nat.{ℕ, ◌≤◌, ◌<◌, min}
use native.Mathlib.Nat.{zero-add}
use native.Mathlib.Omega.{arith}
use lib.ListN.{length}
use Rattle.put.specs.Put.{over, place_behind}
use Rattle.put.proofs.Laws.{over_beyond, over_fits, place_behind_lem}
use Rattle.lines.specs.Lines.{header_line}
use Rattle.runs.specs.Runs.{is_still}
use mathlib.Core.Bool.{false}
use Rattle.merge.specs.Splice.{spliced_file}
use Rattle.merge.proofs.Answers.{nothing_to_do, no_record, short_output, all_done}
use Rattle.merge.proofs.finish.Goals.{After-write-len}
use Rattle.merge.proofs.finish.Goals as goal
use Rattle.std.specs.declared.result.Result.TheVariants.{Ok}

-- a text put where there is no room
module _ (new : List ℕ) where
  measured : (len : ℕ) → len ≡ place_behind 0 (length new) → len ≡ min (length new) 18446744073709551615
  measured len e = e ∙ place_behind_lem 0 (length new) ∙ ap (λ k. min k 18446744073709551615) (zero-add (length new))

  untouched : (front out : List ℕ) → front ≡ over [] 0 new → front ++ out ≡ out
  untouched front out e = ap (λ l. l ++ out) (e ∙ over_beyond [] 0 new (omega arith))

pub returns-then-is_still : goal.returns-then-is_still
returns-then-is_still c =
    let a = c.args in
    let new = spliced_file header_line a.n a.old.now a.list.now a.body a.index.now a.marks.now in
    let still = sym c.is_still.ensures ∙ c.if-is_still.true in
    record { value = sym (nothing_to_do header_line _ new (length a.out.now) still); out_after = refl }

-- once the first writing was done: what there is to write, its length, and that the output is as it was
module _ (c : After-write-len) where
  abbrev under : List ℕ → List ℕ
  under h = spliced_file h c.args.n c.args.old.now c.args.list.now c.args.body c.args.index.now c.args.marks.now

  abbrev new : List ℕ
  new = under header_line

  header : c.header-header.result ≡ header_line
  header = c.header-header.ensures

  moves : is_still c.args.list.now c.args.index.now c.args.marks.now ≡ false
  moves = sym c.is_still.ensures ∙ c.if-is_still.false

  long : c.write-len.result ≡ min (length new) 18446744073709551615
  long = measured new _ (c.write-len.ensures.value ∙ ap (λ h. place_behind 0 (length (under h))) header)

  same : c.write-len.new.out ++ c.args.out.now ≡ c.args.out.now
  same = untouched new _ c.args.out.now (c.write-len.ensures.out_after ∙ ap (λ h. over [] 0 (under h)) header)

pub returns-then-len-eq46 : goal.returns-then-len-eq46
returns-then-len-eq46 c =
    let w = (goal.at.returns-then-len-eq46 c).After-write-len in
    let some : length (new w) ≡ 46 = omega (arith, long w, c.if-len-eq46.true) in
    record { value = sym (no_record header_line _ (new w) (length c.args.out.now) (moves w) some); out_after = same w }

pub returns-then-out-len : goal.returns-then-out-len
returns-then-out-len c =
    let w = (goal.at.returns-then-out-len c).After-write-len in
    let some : length (new w) ≡ 46 → ⊥ = λ z. omega (arith, long w, z) in
    let short : length c.args.out.now < length (new w) = omega (arith, long w, ap length (same w), c.if-out-len.true) in
    record { value = sym (short_output header_line _ (new w) (length c.args.out.now) (moves w) some short); out_after = same w }

pub returns : goal.returns
returns c =
    let w = (goal.at.returns c).After-write-len in
    let len : c.write-len.result ≡ length (new w) = omega (arith, long w, ap length (same w), c.if-out-len.false, c.well_formed) in
    let room : length (new w) ≤ length c.args.out.now = omega (arith, len, ap length (same w), c.if-out-len.false) in
    let some : length (new w) ≡ 46 → ⊥ = λ z. omega (arith, len, z) in
    record {
      value = ap Ok len ∙ sym (all_done header_line _ (new w) (length c.args.out.now) (moves w) some room);
      out_after = c.write.ensures.out_after ∙ (λ i. over (same w i) 0 (under w (header w i))) ∙ over_fits c.args.out.now (new w) room;
    }
