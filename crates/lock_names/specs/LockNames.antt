-- A name that has a component ending in `.lock`, in each place where a name can stand. Document 02, Four: "Git's page forbids any component
-- ending in `.lock`". "Records, looked-up names, edits and symbolic targets that have such a component now give 4, 3, 8 and 16", where
-- Six has 44 for the record's 4.
use Rattle.std.specs.Prelude.{◌≡◌, true, false, List, ℕ, ◌+◌, ◌-◌, ◌≤◌, ◌<◌, length, take, drop, Some, Ok, Err}
use Rattle.class.specs.Class.{paper}
use Rattle.parse.specs.Limit.{admission}
use Rattle.parse.specs.Part.{byte_at}
use Rattle.parse.specs.Line.{text_at, text_ends}
use Rattle.compare.specs.Prefix.{begins}
use Rattle.id.specs.Id.{id_at}
use Rattle.name.specs.Name.{no_component_ends_with_lock}
use Rattle.decode.specs.declared.reference.Fault.TheVariants.{Name}
use Rattle.decode.specs.declared.reference.Record.{Record}
use Rattle.decode.specs.Entry.{entry_of}
use Rattle.decode.specs.Record.{record_of, fault_number}
use Rattle.find.specs.Lookup.{lookup_answer, lookup_number}
use Rattle.ask.specs.Ask.{ask_answer, ask_number}
use Rattle.length.specs.Length.{length_at, length_of}
use Rattle.parts.specs.Parts.{edit_kind, edit_name}
use Rattle.edit.specs.declared.EditFault.TheVariants.{BadName}
use Rattle.edit.specs.Edit.{id_bytes, edit_of, edit_fault_number}
use Rattle.loose.specs.Loose.{ref_mark, path_start, path_len, loose_answer, loose_number}

-- with an id kind whose ids have n digits
pub record Refused (kind n : ℕ) (name : List ℕ) : Type 0 where
  -- a record of that name, whose id, space and line end can be read, is bad in its name: 44
  pub bad_record : (s : List ℕ) {idEnd from end next : ℕ} → id_at paper n s 0 ≡ Some idEnd → byte_at 32 s idEnd ≡ Some from → text_at paper s from ≡ text_ends end next
      → take (end - from) (drop from s) ≡ name → (record_of paper n s ≡ Err Name) × (fault_number Name ≡ 44)
  -- no record that can be read has that name
  pub no_record : (s : List ℕ) (r : Record) → record_of paper n s ≡ Ok r → (entry_of n s r).name ≡ name → ⊥
  -- looked up in any bytes within the limit: 3
  pub lookup : (body : List ℕ) → admission kind (length body) (length name) ≡ Ok n → lookup_number (lookup_answer kind body name) ≡ 3
  pub ask : (file : List ℕ) → admission kind (length file) (length name) ≡ Ok n → ask_number (ask_answer kind file name) ≡ 3
  -- an edit of that name, whose kind and length can be read and which is whole, is bad in its name: 8
  pub bad_edit : (s : List ℕ) {len from : ℕ} → 0 < length s → edit_kind s 0 ≤ 2 → length_at s 1 ≡ length_of len from → from + len + id_bytes (edit_kind s 0) n ≤ length s
      → edit_name s 0 ≡ name → (edit_of paper n s ≡ Err BadName) × (edit_fault_number BadName ≡ 8)
  -- behind `ref: ` in content within the limit: 16
  pub target : (content : List ℕ) → admission kind (length content) 0 ≡ Ok n → begins ref_mark content ≡ true
      → take (path_len paper (drop (path_start content) content)) (drop (path_start content) content) ≡ name → loose_number (loose_answer kind content) ≡ 16

-- every name of which a component ends in `.lock`
abbrev pub LockNames : Type 0
LockNames = (kind n : ℕ) (name : List ℕ) → no_component_ends_with_lock name ≡ false → Refused kind n name
