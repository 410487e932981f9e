-- Found exactly, and listed exactly, behind the header of a file that passes the check.
use mathlib.Core.Path.{◌≡◌}
use mathlib.Core.List.{List}
use Prim.Native.Nat.{ℕ}
use lib.ListN.{drop}
use Rattle.class.specs.Class.{paper}
use Rattle.header.specs.declared.Header.{Header}
use Rattle.header.specs.Header.{header_of}
use Rattle.iter.specs.Items.{items}
use Rattle.checks.specs.Check.{check_of}
use Rattle.checks.specs.Passes.{Passes}
use Rattle.checks.proofs.CheckMeans.{check_means}
use Rattle.find.specs.Present.{FoundInChecked, ListsInChecked}
use Rattle.find.proofs.Found.{found_exactly}
use Rattle.find.proofs.Lists.{lists_exactly}
use Rattle.std.specs.declared.result.Result.TheVariants.{Ok}

pub body_passes : (n : ℕ) (file : List ℕ) (count : ℕ) (h : Header) → check_of paper n file ≡ Ok count → header_of paper file ≡ Ok h
    → Passes n (items paper n (drop h.body file)) count
body_passes n file count h e o =
    let b = (check_means paper n file (Ok count)).0 e in
    let same : b.header ≡ h = cc b.reads in
    rw same at b.holds

pub found_in_file : FoundInChecked
found_in_file n some file name valid =
    record { behind = λ count h e o. found_exactly n some (drop h.body file) count (body_passes n file count h e o) name valid }

pub lists_in_file : ListsInChecked
lists_in_file n some file prefix =
    record { behind = λ count h e o. lists_exactly n some (drop h.body file) count (body_passes n file count h e o) prefix }
