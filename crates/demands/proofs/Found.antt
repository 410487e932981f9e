-- Demand 2: behind the header of a file that passes the check, a valid name is found exactly if a record has it, and a listing hands out
-- exactly the records with the prefix.
use mathlib.Core.Path.{◌≡◌, refl, sym, ap, ◌∙◌}
use mathlib.Core.Bool.{true, false}
use mathlib.Core.List.{List, [], ◌∷◌}
use mathlib.Core.Logic.{◌⊎◌, inl, inr}
use mathlib.Core.Option.{none as no_line, some}
use Prim.Native.Nat.{ℕ}
use native.Mathlib.Omega.{arith}
use lib.ListN.{length, drop, length-drop}
use borrow.Author.Tests.{le-ltb, ltb-false}
use Rattle.class.specs.Class.{paper}
use Rattle.parse.specs.Limit.{digits_of, over_limit}
use Rattle.parse.proofs.Admitted.{admits}
use Rattle.name.specs.Name.{valid_name}
use Rattle.header.specs.Header.{header_of}
use Rattle.decode.specs.declared.reference.Record.{Record}
use Rattle.start.specs.Start.{start_line}
use Rattle.iter.specs.Items.{Item, items}
use Rattle.iter.specs.Step.{step_answer}
use Rattle.handed.specs.Handed.{Given, handed, whats}
use Rattle.handed.specs.Iteration.{said_end, read_of, out_of}
use Rattle.handed.specs.Hands.{line_after}
use Rattle.handed.proofs.Iterations.{reads_file}
use Rattle.checks.specs.Check.{check_of}
use Rattle.checks.proofs.Asked.{passed, opened_as, some_digits}
use Rattle.find.specs.declared.lookup.Lookup.TheVariants.{Charted, Absent}
use Rattle.find.specs.Lookup.{lookup_of, lookup_answer, lookup_number}
use Rattle.find.specs.PrefixStart.{prefix_start_answer}
use Rattle.find.specs.Present.{FoundExactly, ListsExactly, with_prefix}
use Rattle.find.proofs.InFile.{body_passes, found_in_file, lists_in_file}
use Rattle.demands.specs.Found.{Checked, body_of, found, FoundIfThere, wanted, ListedIfWanted, Demand2}
use Rattle.demands.proofs.Handed.{stood, stands_in, wanted_is}
use Rattle.std.specs.declared.option.Option.TheVariants.{Some}
use Rattle.std.specs.declared.result.Result.TheVariants.{Ok}

-- a part of bytes within the limit is within it
small_part : (k : ℕ) (s : List ℕ) → over_limit (length s) ≡ false → over_limit (length (drop k s)) ≡ false
unfolding over_limit
small_part k s e = le-ltb 1073741824 (length (drop k s)) (omega (arith, ltb-false 1073741824 (length s) e, length-drop k s))

-- where no line is known, none is known behind the items
no_lines : (l : List Item) → line_after no_line l ≡ no_line
no_lines [] = refl
no_lines (i ∷ l) = no_lines l

-- a lookup that is admitted and does not meet what the check rules out
module _ (kind n : ℕ) (d : digits_of kind ≡ Some n) (file : List ℕ) (c : Checked kind file) where
  body : List ℕ
  body = body_of c

  clean : check_of paper n file ≡ Ok c.count
  clean = (passed kind n d file c.count c.passes).0

  opens : header_of paper file ≡ Ok c.header
  opens = opened_as file c.header c.reads

  small : over_limit (length (body_of c)) ≡ false
  small = small_part c.header.body file (passed kind n d file c.count c.passes).1

  out_is : out_of (read_of paper n file) ≡ handed n c.header.body (some (start_line file)) (items paper n (body_of c))
  out_is = ap out_of ((reads_file paper n file).all c.header opens)

  module _ (name : List ℕ) (valid : valid_name paper name ≡ true) (short : over_limit (length name) ≡ false) where
    exactly : FoundExactly n (body_of c) name
    exactly = (found_in_file n (some_digits kind n d) file name valid).behind c.count c.header clean opens

    answer : lookup_answer kind (body_of c) name ≡ Ok (lookup_of paper n (body_of c) name)
    unfolding lookup_answer
    answer = rw (admits kind (length (body_of c)) (length name) d small short)

    numbered : ((place : ℕ) × (r : Record) × (lookup_of paper n (body_of c) name ≡ Charted place r)) ⊎ (lookup_of paper n (body_of c) name ≡ Absent)
        → (lookup_number (lookup_answer kind (body_of c) name) ≡ 0) ⊎ (lookup_number (lookup_answer kind (body_of c) name) ≡ 5)
    numbered (inl (place, r, e)) = inl (rw (answer, e))
    numbered (inr e) = inr (rw (answer, e))

    found_if_there : FoundIfThere kind n file c name
    found_if_there =
        record {
          there =
              λ g x h.
              let y = stood n (body_of c) c.header.body (some (start_line file)) name g (rw out_is at x) h in
              (y.place, y.r, answer ∙ ap Ok (exactly.found y.place y.r y.named), y.is);
          only =
              λ place r e.
              let z : lookup_of paper n (body_of c) name ≡ Charted place r = let w = sym answer ∙ e in cc in
              let y = stands_in n (body_of c) c.header.body (some (start_line file)) name place r (exactly.only place r z) in
              (rw out_is y.0, y.1);
          absent =
              λ no. answer
              ∙ ap Ok
              (exactly.absent
              (λ place r x. let y = stands_in n (body_of c) c.header.body (some (start_line file)) name place r x in no (found kind n file c name place r) (rw out_is y.0) y.1));
          none =
              λ e g x h.
              let y = stood n (body_of c) c.header.body (some (start_line file)) name g (rw out_is at x) h in
              let z : Ok Absent ≡ Ok (Charted y.place y.r) = sym e ∙ answer ∙ ap Ok (exactly.found y.place y.r y.named) in
              let w : ◌≡◌ {A = ℕ} 0 1 = cc in
              omega arith;
          answers = numbered exactly.either;
        }

  module _ (prefix : List ℕ) (short : over_limit (length prefix) ≡ false) where
    lists : ListsExactly n (body_of c) prefix
    lists = (lists_in_file n (some_digits kind n d) file prefix).behind c.count c.header clean opens

    listed_if_wanted : ListedIfWanted kind n file c prefix
    unfolding prefix_start_answer step_answer
    listed_if_wanted =
        let admitted = admits kind (length (body_of c)) (length prefix) d small short in
        let l = with_prefix n prefix (items paper n (body_of c)) in
        record {
          place = lists.place;
          starts = rw admitted (ap Ok lists.start);
          steps = λ at. rw admitted;
          out = handed n lists.place no_line l;
          run = λ turns h. lists.all turns h ∙ ap (λ o. record { out = handed n lists.place no_line l; stop = said_end (length (body_of c)) o }) (no_lines l);
          exactly =
              wanted_is n prefix (items paper n (body_of c)) lists.place no_line c.header.body (some (start_line file))
              (body_passes n file c.count c.header clean opens).good
              ∙ ap (λ (o : List Given). wanted prefix (whats o)) (sym out_is);
        }

pub demand_2 : Demand2
demand_2 =
    record {
      lookup = λ kind n d file c name valid short. found_if_there kind n d file c name valid short;
      prefixed = λ kind n d file c prefix short. listed_if_wanted kind n d file c prefix short;
    }
