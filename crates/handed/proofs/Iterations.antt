-- Stepping until the end hands out the items, one after another, and then says the end.
use mathlib.Core.Path.{◌≡◌, refl, sym, ap, ◌∙◌}
use mathlib.Core.Bool.{Bool, true, false}
use mathlib.Core.List.{List, [], ◌∷◌}
use mathlib.Core.Option.{Option, some}
use Prim.Native.Nat.{ℕ, zero, suc, ◌+◌, ◌-◌, ◌≤◌, ◌<◌}
use native.Mathlib.Omega.{arith}
use lib.Dec.{ltb}
use lib.ListN.{length, take, drop, length-drop, drop_of_length-le}
use lib.Seq.{drop-drop, length-take-le, take-take}
use borrow.Author.Tests.{ltb-true, ltb-false}
use Rattle.class.specs.Class.{Classes}
use Rattle.parse.specs.Line.{line_len}
use Rattle.parse.proofs.Fronts.{line_len_le, line_len_some}
use Rattle.compare.specs.Prefix.{begins}
use Rattle.decode.specs.declared.reference.Fault.{Fault}
use Rattle.decode.specs.declared.reference.Record.{Record}
use Rattle.decode.specs.Entry.{entry_of}
use Rattle.decode.specs.Record.{record_of}
use Rattle.decode.proofs.Entry.{name_inside, entry_inside}
use Rattle.decode.proofs.Records.{fits}
use Rattle.line_number.specs.LineNumber.{line_feeds, until_feed}
use Rattle.line_number.proofs.Feeds.{until_line, until_in}
use Rattle.iter.specs.Items.{Item, size_of, items}
use Rattle.iter.proofs.Items.{items_nil, items_step, size_good}
use Rattle.iter.proofs.Steps.{step_end, step_error, step_other, step_good}
use Rattle.start.specs.Start.{start_line, start_of}
use Rattle.handed.specs.Handed.{good, error, given, line_or0, line_on}
use Rattle.handed.specs.Iteration.{Iteration, said_end, onto, iterate, read, read_of}
use Rattle.handed.specs.Hands.{unless_other, up_to_other, all_of, HandsOut, HandsOutAll, ReadsFile}
use Rattle.std.specs.declared.result.Result.{Result}
use Rattle.std.specs.declared.result.Result.TheVariants.{Err, Ok}

-- ---- one item: what it hands out is what the step at its place tells, and the rest stands behind it

module _ (byte : Classes) (n : ℕ) (prefix s : List ℕ) (place : ℕ) (line : Option ℕ) (inside : place < length s) where
  abbrev t : List ℕ
  t = drop place s

  first_item : (w : Result Record Fault) (k : ℕ) → record_of byte n t ≡ w → size_of byte n t ≡ k
      → items byte n t ≡ record { what = w; bytes = take k t } ∷ items byte n (drop (place + k) s)
  first_item w k e z =
      items_step byte n t (omega (arith, length-drop place s))
      ∙ rw (z, e, drop-drop k place s)

  abbrev rest : ℕ → Option ℕ → Iteration
  rest next following = all_of n (length s) next following (up_to_other n prefix (items byte n (drop next s)))

  -- the line behind k bytes
  abbrev behind : ℕ → Option ℕ
  behind k = line_on line (line_feeds (take k t))

  after_error : (f : Fault) → record_of byte n t ≡ Err f
      → rest place line ≡ onto (given place (place + line_len t) (error (line_or0 line) (take (until_feed t) t))) (rest (place + line_len t) (behind (line_len t)))
  unfolding size_of
  after_error f e =
      let k = line_len t in
      let z : size_of byte n t ≡ k = rw e in
      let long : length (take k t) ≡ k = length-take-le k t (line_len_le t) in
      ap (λ (l : List Item). all_of n (length s) place line (up_to_other n prefix l)) (first_item (Err f) k e z)
      ∙ rw (long, until_line t, take-take (until_feed t) k t (until_in t))

  module _ (r : Record) (e : record_of byte n t ≡ Ok r) where
    abbrev size : ℕ
    size = r.size

    as_items : rest place line
        ≡ all_of n (length s) place line (up_to_other n prefix (record { what = Ok r; bytes = take size t } ∷ items byte n (drop (place + size) s)))
    as_items = ap (λ (l : List Item). all_of n (length s) place line (up_to_other n prefix l)) (first_item (Ok r) size e (size_good byte n t r e))

    after_other : begins prefix (take r.name_len (drop (n + 1) t)) ≡ false → rest place line ≡ record { out = []; stop = said_end (length s) line }
    after_other b = as_items ∙ rw (name_inside byte n t r e, b)

    after_record : begins prefix (take r.name_len (drop (n + 1) t)) ≡ true
        → rest place line ≡ onto (given place (place + size) (good (entry_of n t r))) (rest (place + size) (behind size))
    after_record b =
        let long : length (take size t) ≡ size = length-take-le size t (fits byte n t r e).inside in
        as_items ∙ rw (name_inside byte n t r e, b, long)
        (λ i. onto (given place (place + size) (good (entry_inside byte n t r e i))) (rest (place + size) (behind size)))

-- ---- step by step

module _ (byte : Classes) (n : ℕ) (prefix s : List ℕ) where
  abbrev Runs : ℕ → ℕ → Option ℕ → Type 0
  Runs turns place line =
      length s - place < turns → iterate byte n prefix s turns place line ≡ all_of n (length s) place line (up_to_other n prefix (items byte n (drop place s)))

  -- the line behind k bytes, where the next place stands
  abbrev onward : ℕ → Option ℕ → ℕ → Option ℕ
  onward place line k = line_on line (line_feeds (take k (drop place s)))

  behind_is : (place k : ℕ) (line : Option ℕ) → line_on line (line_feeds (take (place + k - place) (drop place s))) ≡ onward place line k
  behind_is place k line = let z : place + k - place ≡ k = omega arith in ap (λ (j : ℕ). line_on line (line_feeds (take j (drop place s)))) z

  runs : (turns place : ℕ) (line : Option ℕ) → Runs turns place line
  unfolding iterate
  runs zero place line h = absurd (omega arith)
  runs (suc turns) place line h = go (ltb place (length s)) refl (record_of byte n (drop place s)) refl (runs turns)
    where
      go : (v : Bool) → ltb place (length s) ≡ v → (w : Result Record Fault) → record_of byte n (drop place s) ≡ w
          → ((next : ℕ) (following : Option ℕ) → Runs turns next following)
          → iterate byte n prefix s (suc turns) place line ≡ all_of n (length s) place line (up_to_other n prefix (items byte n (drop place s)))
      go false v w e ih =
          let end : length s ≤ place = ltb-false place (length s) v in
          rw (step_end byte n prefix s place (line_or0 line) end, iterate, drop_of_length-le s end, items_nil byte n)
      go true v (Err f) e ih =
          let inside : place < length s = ltb-true place (length s) v in
          let k = line_len (drop place s) in
          let long : 1 ≤ k = line_len_some (drop place s) (omega (arith, length-drop place s)) in
          rw (step_error byte n prefix s place (line_or0 line) inside f e, iterate, behind_is place k line, ih (place + k) (onward place line k) (omega arith))
          (sym (after_error byte n prefix s place line inside f e))
      go true v (Ok r) e ih = by (begins prefix (take r.name_len (drop (n + 1) (drop place s)))) refl
        where
          inside : place < length s
          inside = ltb-true place (length s) v

          by : (b : Bool) → begins prefix (take r.name_len (drop (n + 1) (drop place s))) ≡ b
              → iterate byte n prefix s (suc turns) place line ≡ all_of n (length s) place line (up_to_other n prefix (items byte n (drop place s)))
          by false b =
              rw (step_other byte n prefix s place (line_or0 line) inside r e b, iterate) (sym (after_other byte n prefix s place line inside r e b))
          by true b =
              rw (step_good byte n prefix s place (line_or0 line) inside r e b, iterate, behind_is place r.size line, ih (place + r.size) (onward place line r.size) (omega (arith, inside, (fits byte n (drop place s) r e).holds)))
              (sym (after_record byte n prefix s place line inside r e b))

pub hands_out : (byte : Classes) (n : ℕ) (prefix s : List ℕ) (place : ℕ) (line : Option ℕ) → HandsOut byte n prefix s place line
hands_out byte n prefix s place line = record { all = λ turns. runs byte n prefix s turns place line }

-- ---- without a prefix, and of a file

no_other : (n : ℕ) (l : List Item) → up_to_other n [] l ≡ l
no_other n [] = refl
no_other n (i ∷ l) = go i.what (no_other n l)
  where
    go : (w : Result Record Fault) → up_to_other n [] l ≡ l → unless_other w true (i ∷ up_to_other n [] l) ≡ i ∷ l
    go (Ok r) ih = ap (λ (m : List Item). i ∷ m) ih
    go (Err f) ih = ap (λ (m : List Item). i ∷ m) ih

pub hands_out_all : (byte : Classes) (n : ℕ) (s : List ℕ) (place : ℕ) (line : Option ℕ) → HandsOutAll byte n s place line
hands_out_all byte n s place line =
    record { all = λ turns h. runs byte n [] s turns place line h ∙ ap (all_of n (length s) place line) (no_other n (items byte n (drop place s))) }

pub reads_file : (byte : Classes) (n : ℕ) (file : List ℕ) → ReadsFile byte n file
unfolding read_of start_of
reads_file byte n file =
    record {
      all = λ h e. rw e (ap read ((hands_out_all byte n file h.body (some (start_line file))).all (suc (length file)) (omega arith)));
    }
