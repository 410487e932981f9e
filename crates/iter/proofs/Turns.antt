-- One turn of a loop over items: the item at a place. For any classes.
use mathlib.Core.Path.{◌≡◌, refl, ap, ◌∙◌}
use mathlib.Core.List.{List, ◌∷◌}
use Prim.Native.Nat.{ℕ, ◌+◌, ◌≤◌, ◌<◌}
use native.Mathlib.Omega.{arith}
use lib.ListN.{length, take, drop, length-drop}
use lib.Seq.{drop-drop, length-take-le}
use Rattle.class.specs.Class.{Classes}
use Rattle.parse.specs.Line.{line_len}
use Rattle.decode.specs.declared.reference.Fault.{Fault}
use Rattle.decode.specs.declared.reference.Record.{Record}
use Rattle.decode.specs.Record.{record_of}
use Rattle.decode.proofs.Entry.{name_inside}
use Rattle.decode.proofs.Records.{fits}
use Rattle.iter.specs.Items.{Item, size_of, item_of, items, name_in, name_of}
use Rattle.iter.proofs.Items.{size_good, size_le, items_step}
use Rattle.std.specs.declared.result.Result.{Result}
use Rattle.std.specs.declared.result.Result.TheVariants.{Err, Ok}

-- the name of the item at the front is that part of all the bytes
pub item_name : (byte : Classes) (n : ℕ) (s : List ℕ) (r : Record) → record_of byte n s ≡ Ok r
    → name_of n (item_of byte n s) ≡ take r.name_len (drop (n + 1) s)
item_name byte n s r e =
    ap (λ (w : Result Record Fault). name_in n w (take (size_of byte n s) s)) e
    ∙ ap (λ (k : ℕ). take r.name_len (drop (n + 1) (take k s))) (size_good byte n s r e)
    ∙ name_inside byte n s r e

-- the item at a place, and those behind it
pub record HeadItem (byte : Classes) (n : ℕ) (file : List ℕ) (place : ℕ) (what : Result Record Fault) (size : ℕ) : Type 0 where
  pub it : Item
  pub all : items byte n (drop place file) ≡ it ∷ items byte n (drop (place + size) file)
  pub is : it.what ≡ what
  pub long : length it.bytes ≡ size
  pub name : name_in n what it.bytes ≡ name_in n what (drop place file)

module _ (byte : Classes) (n : ℕ) (file : List ℕ) (place : ℕ) where
  head_item : place < length file → (what : Result Record Fault) (size : ℕ) → record_of byte n (drop place file) ≡ what → size_of byte n (drop place file) ≡ size
      → name_in n what (take size (drop place file)) ≡ name_in n what (drop place file) → HeadItem byte n file place what size
  head_item inside what size e z name =
      let rest = drop place file in
      let d : drop (size_of byte n rest) rest ≡ drop (place + size) file = ap (λ (k : ℕ). drop k rest) z ∙ drop-drop size place file in
      record {
        it = item_of byte n rest;
        all = items_step byte n rest (omega (arith, length-drop place file)) ∙ ap (λ (l : List ℕ). item_of byte n rest ∷ items byte n l) d;
        is = e;
        long = length-take-le (size_of byte n rest) rest (size_le byte n rest) ∙ z;
        name = ap (λ (k : ℕ). name_in n what (take k rest)) z ∙ name;
      }

  pub head_bad : place < length file → (f : Fault) → record_of byte n (drop place file) ≡ Err f
      → HeadItem byte n file place (Err f) (line_len (drop place file))
  unfolding size_of
  head_bad inside f e = head_item inside (Err f) (line_len (drop place file)) e (rw e) refl

  module _ (r : Record) (e : record_of byte n (drop place file) ≡ Ok r) where
    pub head_good : place < length file → HeadItem byte n file place (Ok r) r.size
    head_good inside =
        head_item inside (Ok r) r.size e (size_good byte n (drop place file) r e) (name_inside byte n (drop place file) r e)

    pub next_inside : place < length file → (place < place + r.size) × (place + r.size ≤ length file)
    next_inside inside =
        let f = fits byte n (drop place file) r e in
        (omega (arith, f.holds), omega (arith, f.inside, length-drop place file))
