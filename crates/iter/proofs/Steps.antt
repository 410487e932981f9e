-- A step by what stands at its place: nothing, a record that is wanted or not, an error.
use mathlib.Core.Path.{◌≡◌}
use mathlib.Core.Bool.{Bool, true, false}
use mathlib.Core.List.{List}
use Prim.Native.Nat.{ℕ, ◌+◌, ◌≤◌, ◌<◌}
use native.Mathlib.Omega.{arith}
use lib.Dec.{ltb}
use lib.ListN.{length, take, drop}
use borrow.Author.Tests.{lt-ltb, le-ltb}
use Rattle.class.specs.Class.{Classes}
use Rattle.parse.specs.Choice.{if}
use Rattle.parse.specs.Line.{line_len}
use Rattle.compare.specs.Prefix.{begins}
use Rattle.decode.specs.declared.reference.Fault.{Fault}
use Rattle.decode.specs.declared.reference.Record.{Record}
use Rattle.decode.specs.Record.{record_of}
use Rattle.line_number.specs.LineNumber.{until_feed}
use Rattle.iter.specs.declared.step.Step.TheVariants.{End, Good, Error}
use Rattle.iter.specs.Items.{name_in}
use Rattle.iter.specs.Step.{step_by, step_of}
use Rattle.std.specs.declared.result.Result.{Result}
use Rattle.std.specs.declared.result.Result.TheVariants.{Err, Ok}

module _ (byte : Classes) (n : ℕ) (prefix s : List ℕ) (place line : ℕ) where
  pub step_end : length s ≤ place → step_of byte n prefix s place line ≡ End (length s)
  unfolding step_of
  step_end h = rw (le-ltb place (length s) h)

  module _ (inside : place < length s) where
    pub step_error : (f : Fault) → record_of byte n (drop place s) ≡ Err f
        → step_of byte n prefix s place line ≡ Error f line (until_feed (drop place s)) (place + line_len (drop place s))
    unfolding step_of
    step_error f e = rw (lt-ltb place (length s) inside, e)

    module _ (r : Record) (e : record_of byte n (drop place s) ≡ Ok r) where
      pub step_other : begins prefix (take r.name_len (drop (n + 1) (drop place s))) ≡ false → step_of byte n prefix s place line ≡ End (length s)
      unfolding step_of
      step_other b = rw (lt-ltb place (length s) inside, e, b)

      pub step_good : begins prefix (take r.name_len (drop (n + 1) (drop place s))) ≡ true
          → step_of byte n prefix s place line ≡ Good r (place + r.size)
      unfolding step_of
      step_good b = rw (lt-ltb place (length s) inside, e, b)

-- and the other way: an error tells the line number that the step was asked on, and the text from the place on
pub error_is : (byte : Classes) (n : ℕ) (prefix s : List ℕ) (place line : ℕ) {f : Fault} {told text next : ℕ} → step_of byte n prefix s place line ≡ Error f told text next
    → (told ≡ line) × (text ≡ until_feed (drop place s))
unfolding step_of
error_is byte n prefix s place line {f} {told} {text} {next} e = go (ltb place (length s)) (record_of byte n (drop place s)) e
  where
    go : (b : Bool) (w : Result Record Fault) → if b (step_by n prefix s place line w) (End (length s)) ≡ Error f told text next → (told ≡ line) × (text ≡ until_feed (drop place s))
    go true (Err g) q = (cc, cc)
    go true (Ok r) q = by (begins prefix (name_in n (Ok r) (drop place s))) q
      where
        by : (b : Bool) → if b (Good r (place + r.size)) (End (length s)) ≡ Error f told text next → (told ≡ line) × (text ≡ until_feed (drop place s))
        by true h = absurd (let z : ◌≡◌ {A = ℕ} 0 1 = cc in omega arith)
        by false h = absurd (let z : ◌≡◌ {A = ℕ} 0 1 = cc in omega arith)
    go false w q = absurd (let z : ◌≡◌ {A = ℕ} 0 1 = cc in omega arith)

pub error_alike : {f : Fault} {a a' b b' c c' : ℕ} → a ≡ a' → b ≡ b' → c ≡ c' → Error f a b c ≡ Error f a' b' c'
error_alike {f} p q r = λ i. Error f (p i) (q i) (r i)
