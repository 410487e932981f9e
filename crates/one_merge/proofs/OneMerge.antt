-- The file that a merge writes means what it should.
use mathlib.Core.Path.{◌≡◌, refl}
use mathlib.Core.List.{List, []}
use Prim.Native.Nat.{ℕ, ◌<◌}
use native.Mathlib.Omega.{arith}
use lib.ListN.{drop}
use Rattle.class.specs.Class.{paper}
use Rattle.decode.specs.Entry.{Entry}
use Rattle.iter.specs.Entries.{entries_of}
use Rattle.checks.specs.Check.{check_of}
use Rattle.checks.specs.CheckMeans.{Body}
use Rattle.iter.specs.Items.{items}
use Rattle.checks.specs.Passes.{Passes}
use Rattle.checks.proofs.CheckMeans.{check_means}
use Rattle.edits.specs.List.{edits_of, places_of, prepared_of}
use Rattle.lines.specs.Lines.{lines_of_all}
use Rattle.merge.specs.Override.{Override}
use Rattle.merge.specs.Merge.{overridden, new_file, old_entries, edits_in_order, judged_by, judged, listed, merge_of}
use Rattle.one_merge.specs.OneMerge.{NewFileMeans, OneMerge}
use Rattle.merge.proofs.EditsRise.{readied, in_order_rises}
use Rattle.merge.proofs.Entries.{AllSound, Ascends, Rises}
use Rattle.merge.proofs.OldSound.{olds_sound, olds_ascend}
use Rattle.one_merge.proofs.Overriding.{mixed}
use Rattle.one_merge.proofs.WrittenFile.{passes, lookup}
use Rattle.one_merge.proofs.WrittenHeader.{written_header}
use Rattle.one_merge.proofs.WrittenItems.{entries_back}
use Rattle.checks.specs.declared.Refusal.{Refusal}
use Rattle.std.specs.declared.result.Result.{Result}
use Rattle.std.specs.declared.result.Result.TheVariants.{Err, Ok}
use Rattle.edits.specs.declared.list.NotPrepared.{NotPrepared}
use Rattle.edits.specs.declared.list.NotPrepared.TheVariants.{BadList, ShortIndex, TooLarge, Twins}

-- ---- the new file, where the old records and the edits are sound and rise

module _ (n : ℕ) (digits : 0 < n) (olds : List Entry) (edits : List Override) where
  new_file_means : AllSound n olds → Ascends [] olds → Rises n [] edits → NewFileMeans n olds edits
  unfolding new_file
  new_file_means s u v =
      let m = mixed n [] olds edits s u v in
      let new = overridden olds edits in
      record {
        header = written_header (lines_of_all new);
        passes = passes n new m.sound m.up;
        records = entries_back n new m.sound;
        lookup = λ name valid. rw (m.named name) at (lookup n new m.sound m.up digits name valid);
      }

-- ---- a merge is done only where the edit list is prepared and the old file passes the check

module _ (n : ℕ) (file list : List ℕ) (indexRoom : ℕ) where
  record Admitted : Type 0 where
    k : ℕ
    ready : prepared_of paper n list indexRoom ≡ Ok k
    count : ℕ
    clean : check_of paper n file ≡ Ok count

  done_admitted : (room : ℕ) {len : ℕ} → merge_of paper n file list indexRoom room ≡ Ok len → Admitted
  unfolding merge_of judged
  done_admitted room {len} e = go (prepared_of paper n list indexRoom) refl e
    where
      by_verdict : (k : ℕ) → prepared_of paper n list indexRoom ≡ Ok k → (v : Result ℕ Refusal) → check_of paper n file ≡ v
          → judged_by (old_entries paper n file) (edits_in_order paper n file list) room v ≡ Ok len → Admitted
      by_verdict k p (Ok count) q e = record { k = k; ready = p; count = count; clean = q }
      by_verdict k p (Err why) q e = absurd (let z : ◌≡◌ {A = ℕ} 0 1 = cc in omega arith)

      go : (p : Result ℕ NotPrepared) → prepared_of paper n list indexRoom ≡ p → listed paper n file list room p ≡ Ok len → Admitted
      go (Ok k) q e = by_verdict k q (check_of paper n file) refl e
      go (Err (BadList why)) q e = absurd (let z : ◌≡◌ {A = ℕ} 0 1 = cc in omega arith)
      go (Err ShortIndex) q e = absurd (let z : ◌≡◌ {A = ℕ} 0 1 = cc in omega arith)
      go (Err (Twins place)) q e = absurd (let z : ◌≡◌ {A = ℕ} 0 1 = cc in omega arith)
      go (Err TooLarge) q e = absurd (let z : ◌≡◌ {A = ℕ} 0 1 = cc in omega arith)

-- ---- so the old records are sound and rise

module _ (n : ℕ) (file : List ℕ) (count : ℕ) (clean : check_of paper n file ≡ Ok count) where
  body : Body paper n file (λ begin l. Passes n l count)
  body = (check_means paper n file (Ok count)).0 clean

  olds_are : old_entries paper n file ≡ entries_of n (items paper n (drop body.header.body file))
  unfolding old_entries
  olds_are = rw body.reads

  clean_sound : AllSound n (old_entries paper n file)
  clean_sound = rw olds_are (olds_sound n (drop body.header.body file) body.holds.good)

  clean_ascends : Ascends [] (old_entries paper n file)
  clean_ascends = rw olds_are (olds_ascend n [] (items paper n (drop body.header.body file)) body.holds.up)

-- ---- and the edits in order are sound and rise too

pub one_merge : OneMerge
unfolding edits_in_order
one_merge n half file list indexRoom room len some even bytes e =
    let a = done_admitted n file list indexRoom room e in
    let r = readied paper n list indexRoom a.k a.ready in
    new_file_means n (omega arith) (old_entries paper n file) (edits_in_order paper n file list)
    (clean_sound n file a.count a.clean)
    (clean_ascends n file a.count a.clean)
    (in_order_rises n list (places_of (edits_of paper n list)) r.listed half even bytes r.no_twin)
