-- One turn of seeking a name among the items, alone and beside the check. For any classes.
use mathlib.Core.Path.{◌≡◌, ap, ◌∙◌}
use mathlib.Core.Bool.{true, false}
use mathlib.Core.List.{List}
use Prim.Native.Nat.{ℕ, suc, ◌+◌, ◌≤◌}
use lib.ListN.{length, drop, drop_of_length-le}
use Rattle.class.specs.Class.{Classes}
use Rattle.parse.specs.Line.{line_len}
use Rattle.compare.specs.Prefix.{same}
use Rattle.decode.specs.declared.reference.Fault.{Fault}
use Rattle.decode.specs.declared.reference.Record.{Record}
use Rattle.checks.specs.Check.{judge_from}
use Rattle.iter.proofs.Items.{items_nil}
use Rattle.iter.proofs.ItemRead.{Reads, named}
use Rattle.iter.proofs.Turns.{head_bad, head_good}
use Rattle.checks.proofs.CheckTurns.{Spot, Turned, judged_after, judged}
use Rattle.ask.specs.declared.Told.{Told}
use Rattle.ask.specs.declared.Told.TheVariants.{Charted, Absent}
use Rattle.ask.specs.Ask.{sought_from, told_of, found_at}
use Rattle.checks.specs.declared.Refusal.{Refusal}
use Rattle.std.specs.declared.option.Option.{Option}
use Rattle.std.specs.declared.option.Option.TheVariants.{None, Some}
use Rattle.std.specs.declared.result.Result.{Result}
use Rattle.std.specs.declared.result.Result.TheVariants.{Err, Ok}

-- ---- seeking alone

pub seek_end : (byte : Classes) (n : ℕ) (file name : List ℕ) (place : ℕ) → length file ≤ place → sought_from byte n file place name ≡ None
unfolding sought_from
seek_end byte n file name place h = rw (drop_of_length-le file h, items_nil byte n)

module _ {byte : Classes} {n : ℕ} {file : List ℕ} {place : ℕ} (name : List ℕ) where
  pub seek_bad : {f : Fault} → Reads byte n file place (Err f) → sought_from byte n file place name ≡ sought_from byte n file (place + line_len (drop place file)) name
  unfolding sought_from
  seek_bad {f} k = let h = head_bad byte n file place k.inside f k.is in rw (h.all, h.is, h.long)

  module _ {r : Record} (k : Reads byte n file place (Ok r)) where
    pub seek_found : same name (named k) ≡ true → sought_from byte n file place name ≡ found_at place r
    unfolding sought_from
    seek_found s = let h = head_good byte n file place r k.is k.inside in rw (h.all, h.is, h.name, s)

    pub seek_other : same name (named k) ≡ false → sought_from byte n file place name ≡ sought_from byte n file (place + r.size) name
    unfolding sought_from
    seek_other s = let h = head_good byte n file place r k.is k.inside in rw (h.all, h.is, h.name, s, h.long)

-- ---- beside the check

-- what the items from the place on come to, with how many records stood before them and the name of the last
abbrev pub ask_from : Classes → ℕ → List ℕ → List ℕ → ℕ → ℕ → List ℕ → Told
ask_from byte n file name place count last = told_of (sought_from byte n file place name) (judge_from byte n file place count last)

module _ (s : Spot) (name : List ℕ) (count : ℕ) where
  abbrev pub ask_at : Told
  ask_at = ask_from s.byte s.n s.file name s.place count s.last

  -- after a turn
  pub ask_turn : (w : Result (Option Record) Refusal) → Turned s w → ask_at ≡ told_of (sought_from s.byte s.n s.file s.place name) (judged_after s count w)
  ask_turn w k = ap (told_of (sought_from s.byte s.n s.file s.place name)) (judged s count w k)

  pub ask_end : Turned s (Ok None) → ask_at ≡ Absent
  ask_end k = ask_turn (Ok None) k ∙ rw (seek_end s.byte s.n s.file name s.place k)

  module _ (r : Record) (k : Turned s (Ok (Some r))) where
    -- the check goes on with the name as it was cut out
    pub ask_found : (x : List ℕ) → x ≡ named k.0 → same name (named k.0) ≡ true
        → ask_at ≡ Charted s.place r (judge_from s.byte s.n s.file (s.place + r.size) (suc count) x)
    ask_found x e found = ask_turn (Ok (Some r)) k ∙ rw (e, seek_found name k.0 found)

    -- and so does the loop
    pub ask_on : (x : List ℕ) → x ≡ named k.0 → same name (named k.0) ≡ false
        → ask_at ≡ ask_from s.byte s.n s.file name (s.place + r.size) (suc count) x
    ask_on x e other = ask_turn (Ok (Some r)) k ∙ rw (e, seek_other name k.0 other)
