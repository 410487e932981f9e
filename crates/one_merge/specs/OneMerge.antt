-- What holds of the file that a merge writes.
use Rattle.std.specs.Prelude.{◌≡◌, true, List, [], ◌∷◌, ℕ, ◌*◌, ◌<◌, length, get_or, drop, Ok}
use Rattle.std.proofs.Math.Option.{Option, none, some}
use Rattle.parse.specs.Choice.{if}
use Rattle.class.specs.Class.{paper}
use Rattle.name.specs.Name.{valid_name}
use Rattle.decode.specs.declared.reference.Record.{Record}
use Rattle.header.specs.declared.Peeled.TheVariants.{Fully}
use Rattle.header.specs.Header.{header_of}
use Rattle.decode.specs.Entry.{Entry, entry_of}
use Rattle.iter.specs.Entries.{entries_of}
use Rattle.checks.specs.Check.{check_of}
use Rattle.iter.specs.Items.{items}
use Rattle.find.specs.declared.lookup.Lookup.TheVariants.{Charted, Absent}
use Rattle.find.specs.Lookup.{lookup_of}
use Rattle.compare.specs.Prefix.{same}
use Rattle.merge.specs.Override.{Override}
use Rattle.merge.specs.Merge.{overridden, new_file, old_entries, edits_in_order, merge_of}

-- the record of a name
abbrev pub entry_named : List ℕ → List Entry → Option Entry
entry_named name [] = none
entry_named name (r ∷ rs) = if (same r.name name) (some r) (entry_named name rs)

-- what an edit leaves: the record of an update, nothing of a delete
abbrev pub left_by : List Entry → Option Entry
left_by [] = none
left_by (e ∷ l) = some e

-- what stands under a name after the edits: what the edit of that name leaves, or where no edit has the name, what stood there before
abbrev pub after_edits : List ℕ → List Override → Option Entry → Option Entry
after_edits name [] before = before
after_edits name (e ∷ es) before = if (same e.name name) (left_by e.new) (after_edits name es before)

-- a lookup of the name in the body finds a record, and that record is the entry
pub record Shows (n : ℕ) (body name : List ℕ) (e : Entry) : Type 0 where
  pub place : ℕ
  pub it : Record
  pub found : lookup_of paper n body name ≡ Charted place it
  pub is : entry_of n (drop place body) it ≡ e

abbrev pub Tells : ℕ → List ℕ → List ℕ → Option Entry → Type 0
Tells n body name none = lookup_of paper n body name ≡ Absent
Tells n body name (some e) = Shows n body name e

-- of a new file: it passes the check, its records are the old ones overridden by the edits, and a lookup of any valid name gives the edit of
-- that name, or the old record, or 5 for a delete
pub record NewFileMeans (n : ℕ) (olds : List Entry) (edits : List Override) : Type 0 where
  pub header : header_of paper (new_file olds edits) ≡ Ok (record { peeled = Fully; sorted = true; body = 46 })
  pub passes : check_of paper n (new_file olds edits) ≡ Ok (length (overridden olds edits))
  pub records : entries_of n (items paper n (drop 46 (new_file olds edits))) ≡ overridden olds edits
  pub lookup : (name : List ℕ) → valid_name paper name ≡ true
      → Tells n (drop 46 (new_file olds edits)) name (after_edits name edits (entry_named name olds))

-- of every file that a merge writes, for ids of an even number of digits and an edit list of bytes
abbrev pub OneMerge : Type 0
OneMerge =
    (n half : ℕ) (file list : List ℕ) (indexRoom room len : ℕ)
    → 0 < half → n ≡ 2 * half → ((i : ℕ) → get_or list i 0 < 256)
    → merge_of paper n file list indexRoom room ≡ Ok len
    → NewFileMeans n (old_entries paper n file) (edits_in_order paper n file list)
