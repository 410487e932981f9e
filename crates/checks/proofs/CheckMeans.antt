-- What the check of a file means: its header's answer, then what the items of its body are.
use mathlib.Core.Path.{◌≡◌, refl, ◌∙◌}
use mathlib.Core.List.{List, []}
use Prim.Native.Nat.{ℕ}
use native.Mathlib.Omega.{arith}
use lib.ListN.{drop}
use Rattle.class.specs.Class.{Classes}
use Rattle.header.specs.declared.Header.{Header}
use Rattle.header.specs.Header.{header_of, unreadable}
use Rattle.decode.specs.declared.reference.Fault.{Fault}
use Rattle.decode.specs.declared.reference.Fault.TheVariants.{Id, Space, LineEnd, Name, Peeled}
use Rattle.decode.specs.Record.{fault_number}
use Rattle.checks.specs.declared.Refusal.{Refusal}
use Rattle.header.specs.declared.BadHeader as bad_header
use Rattle.checks.specs.declared.Refusal.TheVariants.{BadHeader, BadRecord, Unsorted}
use Rattle.iter.specs.Items.{items}
use Rattle.checks.specs.Check.{judge, judge_body, check_of, refusal_number, verdict_number}
use Rattle.checks.specs.CheckMeans.{Means, CheckMeans}
use Rattle.checks.proofs.Passes.{judges, judges_error, judges_unsorted, Says, says}
use Rattle.std.specs.declared.result.Result.{Result}
use Rattle.std.specs.declared.result.Result.TheVariants.{Err, Ok}

module _ (byte : Classes) (n : ℕ) (file : List ℕ) where
  unread : {text : ℕ} → header_of byte file ≡ unreadable text → check_of byte n file ≡ Err (BadHeader text)
  unfolding check_of
  unread e = rw e

  pub read : {h : Header} → header_of byte file ≡ Ok h → check_of byte n file ≡ judge n h.body 0 [] (items byte n (drop h.body file))
  unfolding check_of judge_body
  read e = rw e

  means : Means byte n file (check_of byte n file)
  means = go (header_of byte file) refl
    where
      of_body : (h : Header) → header_of byte file ≡ Ok h → (v : Result ℕ Refusal) → Says n h.body (items byte n (drop h.body file)) v → Means byte n file v
      of_body h q (Ok count) x = record { header = h; reads = q; holds = x }
      of_body h q (Err (BadHeader text)) x = absurd x
      of_body h q (Err (BadRecord place f)) x = record { header = h; reads = q; holds = x }
      of_body h q (Err (Unsorted place)) x = record { header = h; reads = q; holds = x }

      go : (o : Result Header bad_header.BadHeader) → header_of byte file ≡ o → Means byte n file (check_of byte n file)
      go (Ok h) q = of_body h q (check_of byte n file) (rw (read q) (says n h.body (items byte n (drop h.body file))))
      go (Err bad) q = rw (unread {text = bad.text} q) q

  only_then : (v : Result ℕ Refusal) → Means byte n file v → check_of byte n file ≡ v
  only_then (Ok count) b = read b.reads ∙ judges n _ _ b.holds
  only_then (Err (BadHeader text)) e = unread e
  only_then (Err (BadRecord place f)) b = read b.reads ∙ judges_error n _ _ b.holds
  only_then (Err (Unsorted place)) b = read b.reads ∙ judges_unsorted n _ _ b.holds

  pub check_means : CheckMeans byte n file
  check_means v = (λ e. rw e at means, only_then v)

-- ---- 0 is given of a file that passes, and of no other

some_fault : (f : Fault) → fault_number f ≡ 0 → ⊥
some_fault Id e = omega arith
some_fault Space e = omega arith
some_fault LineEnd e = omega arith
some_fault Name e = omega arith
some_fault Peeled e = omega arith

pub some_refusal : (why : Refusal) → refusal_number why ≡ 0 → ⊥
some_refusal (BadHeader text) e = omega arith
some_refusal (BadRecord place f) e = some_fault f e
some_refusal (Unsorted place) e = omega arith

pub zero_clean : (v : Result ℕ Refusal) → verdict_number v ≡ 0 → (count : ℕ) × (v ≡ Ok count)
zero_clean (Ok count) e = (count, refl)
zero_clean (Err why) e = absurd (some_refusal why e)
