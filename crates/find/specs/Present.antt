-- What lookup and prefix iteration mean, of the definitions (demands/specs/Found.antt says it of what callers lend and get); and how many probes a search takes.
use Rattle.std.specs.Prelude.{◌≡◌, true, false, List, [], ◌∷◌, ◌⊎◌, ℕ, ◌-◌, ◌^◌, ◌≤◌, ◌<◌, length, drop, Ok}
use Rattle.std.proofs.Math.Option.{none}
use Rattle.parse.specs.Choice.{if}
use Rattle.class.specs.Class.{Classes, paper}
use Rattle.name.specs.Name.{valid_name}
use Rattle.compare.specs.Prefix.{begins}
use Rattle.header.specs.declared.Header.{Header}
use Rattle.decode.specs.declared.reference.Record.{Record}
use Rattle.header.specs.Header.{header_of}
use Rattle.iter.specs.Items.{Item, items, name_of}
use Rattle.checks.specs.Check.{check_of}
use Rattle.iter.specs.Stands.{Named}
use Rattle.handed.specs.Iteration.{iterate}
use Rattle.handed.specs.Hands.{all_of}
use Rattle.find.specs.declared.lookup.Lookup.TheVariants as lookup
use Rattle.search.specs.Search.{halve, order_at, failure_at, placed, search_of, probes_of}
use Rattle.find.specs.Lookup.{lookup_of}
use Rattle.find.specs.PrefixStart.{prefix_start_of}

-- ---- "Behind the header of a file that passes the check, a valid name is found exactly if a record has it."

pub record FoundExactly (n : ℕ) (s name : List ℕ) : Type 0 where
  -- with that record's start and its parts; and at most one record has it
  pub found : (place : ℕ) (r : Record) → Named n s name place r → lookup_of paper n s name ≡ lookup.Charted place r
  pub only : (place : ℕ) (r : Record) → lookup_of paper n s name ≡ lookup.Charted place r → Named n s name place r
  pub absent : ((place : ℕ) (r : Record) → Named n s name place r → ⊥) → lookup_of paper n s name ≡ lookup.Absent
  -- there is no third answer
  pub either : ((place : ℕ) × (r : Record) × (lookup_of paper n s name ≡ lookup.Charted place r)) ⊎ (lookup_of paper n s name ≡ lookup.Absent)
  -- every probe reads a name
  pub reads : (place : ℕ) → place < length s → failure_at paper n s name place ≡ false

-- the same said of a file: behind the header of a file that passes the check
pub record InChecked (n : ℕ) (file : List ℕ) (P : List ℕ → Type 0) : Type 0 where
  pub behind : (count : ℕ) (h : Header) → check_of paper n file ≡ Ok count → header_of paper file ≡ Ok h → P (drop h.body file)

abbrev pub FoundInChecked : Type 0
FoundInChecked = (n : ℕ) → 0 < n → (file name : List ℕ) → valid_name paper name ≡ true → InChecked n file (λ body. FoundExactly n body name)

-- ---- "In a checked file it lists exactly the records with the prefix, in order."

abbrev pub with_prefix : ℕ → List ℕ → List Item → List Item
with_prefix n prefix [] = []
with_prefix n prefix (i ∷ l) = if (begins prefix (name_of n i)) (i ∷ with_prefix n prefix l) (with_prefix n prefix l)

-- a caller who steps with the prefix from the place of the start is handed those records, and then the end
pub record ListsExactly (n : ℕ) (s prefix : List ℕ) : Type 0 where
  pub place : ℕ
  pub start : prefix_start_of paper n s prefix ≡ Ok place
  pub all : (turns : ℕ) → length s - place < turns
      → iterate paper n prefix s turns place none ≡ all_of n (length s) place none (with_prefix n prefix (items paper n s))

abbrev pub ListsInChecked : Type 0
ListsInChecked = (n : ℕ) → 0 < n → (file prefix : List ℕ) → InChecked n file (λ body. ListsExactly n body prefix)

-- ---- probes: no more than the length has binary digits, that is no more than j where it is below 2 to the j

pub record FewProbes (byte : Classes) (n : ℕ) (s wanted : List ℕ) : Type 0 where
  pub few : (j : ℕ) → length s < 2 ^ j → probes_of byte n s wanted ≤ j
  -- after so many turns the search has ended
  pub enough : (j : ℕ) → length s < 2 ^ j
      → search_of byte n s wanted ≡ placed byte n s wanted (halve (order_at byte n s wanted) (failure_at byte n s wanted) j 0 (length s) false)
