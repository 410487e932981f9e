-- Demand 2, of what callers lend and get: behind the header of a file that passes the check, a valid name is found exactly if a record has
-- it, and a listing hands out exactly the records with the prefix.
use Rattle.std.specs.Prelude.{◌≡◌, true, false, List, [], ◌∷◌, ◌++◌, ◌⊎◌, ℕ, ◌+◌, ◌-◌, ◌<◌, length, drop, Some, Ok}
use Rattle.std.proofs.Math.Option.{none}
use Rattle.class.specs.Class.{paper}
use Rattle.parse.specs.Choice.{if}
use Rattle.parse.specs.Limit.{digits_of, over_limit}
use Rattle.compare.specs.Prefix.{begins}
use Rattle.name.specs.Name.{valid_name}
use Rattle.header.specs.declared.Header.{Header}
use Rattle.header.specs.Header.{header_answer}
use Rattle.decode.specs.declared.reference.Record.{Record}
use Rattle.decode.specs.Entry.{entry_of}
use Rattle.iter.specs.Step.{step_of, prefix_answer}
use Rattle.handed.specs.Handed.{Handed, good, error, Given, given, whats}
use Rattle.handed.specs.Iteration.{said_end, iterate, read_of, out_of}
use Rattle.checks.specs.Check.{check_answer}
use Rattle.find.specs.declared.lookup.Lookup.TheVariants.{Charted, Absent}
use Rattle.find.specs.Lookup.{lookup_answer, lookup_number}
use Rattle.find.specs.PrefixStart.{prefix_start_answer}

-- a file that passes the check, and its header: what the two calls answered
pub record Checked (kind : ℕ) (file : List ℕ) : Type 0 where
  pub count : ℕ
  pub passes : check_answer kind file ≡ Ok (Ok count)
  pub header : Header
  pub reads : header_answer file ≡ Ok (Ok header)

-- the bytes behind the header, which the lookup and the prefix iteration are lent
abbrev pub body_of : {kind : ℕ} {file : List ℕ} → Checked kind file → List ℕ
body_of {file = file} c = drop c.header.body file

-- ---- a record of the file: something that a reader of the file is handed, from the start to the end

pub record In (g : Given) (l : List Given) : Type 0 where
  pub before : List Given
  pub after : List Given
  pub all : l ≡ before ++ g ∷ after

-- what was handed out is a record of the wanted name
abbrev pub Has : List ℕ → Handed → Type 0
Has wanted (good e) = e.name ≡ wanted
Has wanted (error line text) = ⊥

-- ---- the lookup

module _ (kind n : ℕ) (file : List ℕ) (c : Checked kind file) (name : List ℕ) where
  -- what a lookup tells by places counted in the body, as a reader of the whole file is handed it: counted in the file
  abbrev pub found : ℕ → Record → Given
  found place r = given (c.header.body + place) (c.header.body + place + r.size) (good (entry_of n (drop place (body_of c)) r))

  pub record FoundIfThere : Type 0 where
    -- a record that has the name is found, and the lookup tells that record
    pub there : (g : Given) → In g (out_of (read_of paper n file)) → Has name g.what
        → (place : ℕ) × (r : Record) × (lookup_answer kind (body_of c) name ≡ Ok (Charted place r)) × (found place r ≡ g)
    -- what is found is a record of the file, and has the name
    pub only : (place : ℕ) (r : Record) → lookup_answer kind (body_of c) name ≡ Ok (Charted place r)
        → In (found place r) (out_of (read_of paper n file)) × Has name (found place r).what
    -- 5 exactly if no record has it
    pub absent : ((g : Given) → In g (out_of (read_of paper n file)) → Has name g.what → ⊥) → lookup_answer kind (body_of c) name ≡ Ok Absent
    pub none : lookup_answer kind (body_of c) name ≡ Ok Absent → (g : Given) → In g (out_of (read_of paper n file)) → Has name g.what → ⊥
    -- and no other number is given
    pub answers : (lookup_number (lookup_answer kind (body_of c) name) ≡ 0) ⊎ (lookup_number (lookup_answer kind (body_of c) name) ≡ 5)

-- ---- the prefix iteration

-- of what was handed out, the records whose names begin with a prefix
abbrev pub wanted_by : List ℕ → Handed → List Handed → List Handed
wanted_by prefix (good e) l = if (begins prefix e.name) (good e ∷ l) l
wanted_by prefix (error line text) l = l

abbrev pub wanted : List ℕ → List Handed → List Handed
wanted prefix [] = []
wanted prefix (h ∷ l) = wanted_by prefix h (wanted prefix l)

module _ (kind n : ℕ) (file : List ℕ) (c : Checked kind file) (prefix : List ℕ) where
  pub record ListedIfWanted : Type 0 where
    -- where the prefix iteration starts
    pub place : ℕ
    pub starts : prefix_start_answer kind (body_of c) prefix ≡ Ok (Ok place)
    -- each step from there on answers what the run is made of
    pub steps : (at : ℕ) → prefix_answer kind prefix (body_of c) at ≡ Ok (step_of paper n prefix (body_of c) at 0)
    -- "it lists exactly the records with the prefix, in order", and then says the end
    pub out : List Given
    pub run : (turns : ℕ) → length (body_of c) - place < turns
        → iterate paper n prefix (body_of c) turns place none ≡ record { out = out; stop = said_end (length (body_of c)) none }
    pub exactly : whats out ≡ wanted prefix (whats (out_of (read_of paper n file)))

-- for both kinds, and names and prefixes within the limit
pub record Demand2 : Type 0 where
  pub lookup : (kind n : ℕ) → digits_of kind ≡ Some n → (file : List ℕ) (c : Checked kind file) (name : List ℕ)
      → valid_name paper name ≡ true → over_limit (length name) ≡ false → FoundIfThere kind n file c name
  pub prefixed : (kind n : ℕ) → digits_of kind ≡ Some n → (file : List ℕ) (c : Checked kind file) (prefix : List ℕ)
      → over_limit (length prefix) ≡ false → ListedIfWanted kind n file c prefix
