-- What the check of a file means: it gives a verdict exactly where that is true of the file.
use Rattle.std.specs.Prelude.{◌≡◌, List, ◌↔◌, ℕ, drop, Result, Ok, Err}
use Rattle.class.specs.Class.{Classes}
use Rattle.header.specs.declared.Header.{Header}
use Rattle.header.specs.Header.{header_of, unreadable}
use Rattle.checks.specs.declared.Refusal.TheVariants.{BadHeader, BadRecord, Unsorted}
use Rattle.checks.specs.Check.{check_of}
use Rattle.iter.specs.Items.{Item, items}
use Rattle.checks.specs.Passes.{Passes, FirstError, FirstUnsorted}
use Rattle.checks.specs.declared.Refusal.{Refusal}

-- the header can be read, and P holds of the place behind it and the items from there on
pub record Body (byte : Classes) (n : ℕ) (file : List ℕ) (P : ℕ → List Item → Type 0) : Type 0 where
  pub header : Header
  pub reads : header_of byte file ≡ Ok header
  pub holds : P header.body (items byte n (drop header.body file))

-- what each verdict says of a file. Places are counted in the file: an item's is the header's end and the bytes of the items before it
abbrev pub Means : Classes → ℕ → List ℕ → Result ℕ Refusal → Type 0
Means byte n file (Ok count) = Body byte n file (λ begin l. Passes n l count)
Means byte n file (Err (BadHeader text)) = header_of byte file ≡ unreadable text
Means byte n file (Err (BadRecord place f)) = Body byte n file (λ begin l. FirstError n begin l place f)
Means byte n file (Err (Unsorted place)) = Body byte n file (λ begin l. FirstUnsorted n begin l place)

abbrev pub CheckMeans : Classes → ℕ → List ℕ → Type 0
CheckMeans byte n file = (v : Result ℕ Refusal) → (check_of byte n file ≡ v) ↔ Means byte n file v
