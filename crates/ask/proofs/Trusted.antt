-- The lookup that can be trusted on any bytes: absent is said only of a file that passes the check and has no record of the name, and charted without a
-- fault only of one that passes the check and has no other.
use mathlib.Core.Path.{◌≡◌, refl, sym, ap, ◌∙◌, subst}
use mathlib.Core.Bool.{Bool, true, false}
use mathlib.Core.List.{List, []}
use Prim.Native.Nat.{ℕ, ◌+◌}
use native.Mathlib.Omega.{arith}
use lib.ListN.{length, drop}
use Rattle.class.specs.Class.{paper}
use Rattle.parse.specs.Limit.{over_limit, admission}
use Rattle.parse.proofs.Admitted.{admits, asked as admission-asked}
use Rattle.name.specs.Name.{valid_name}
use Rattle.header.specs.declared.Header.{Header}
use Rattle.decode.specs.declared.reference.Record.{Record}
use Rattle.header.specs.Header.{header_of}
use Rattle.header.specs.declared.BadHeader.{BadHeader as Unread}
use Rattle.checks.specs.declared.Refusal.{Refusal}
use Rattle.checks.specs.declared.Refusal.TheVariants.{BadHeader}
use Rattle.iter.specs.Items.{items, bytes_of}
use Rattle.checks.specs.Check.{judge, judge_body, check_of, check_answer, verdict_number, check_number}
use Rattle.checks.proofs.Ascending.{one_named}
use Rattle.checks.proofs.Passes.{judged as holds}
use Rattle.checks.proofs.CheckMeans.{read, some_refusal, zero_clean}
use Rattle.ask.specs.declared.Told.{Told}
use Rattle.ask.specs.declared.Told.TheVariants as told
use Rattle.ask.specs.Ask.{first_named, sought_from, told_of, ask_body, ask_of, ask_answer, ask_number, ask_fault, found_at}
use Rattle.iter.specs.Stands.{Named}
use Rattle.ask.specs.Trusted.{AskIsTrusted, FaultIsTheChecks}
use Rattle.ask.proofs.FirstNamed.{NamedAmong, told_at, told_nowhere}
use Rattle.ask.specs.declared.Found.{Found}
use Rattle.std.specs.declared.option.Option.{Option}
use Rattle.std.specs.declared.option.Option.TheVariants.{None, Some}
use Rattle.std.specs.declared.result.Result.{Result}
use Rattle.std.specs.declared.result.Result.TheVariants.{Err, Ok}
use Rattle.parse.specs.declared.limit.NotAdmitted.{NotAdmitted}
use Rattle.parse.specs.declared.limit.NotAdmitted.TheVariants.{TooLarge, UnknownKind}

-- only a clean verdict says absent
clean : (v : Result ℕ Refusal) → told_of None v ≡ told.Absent → (count : ℕ) × (v ≡ Ok count)
clean (Ok count) e = (count, refl)
clean (Err why) e = (0, cc)

never_charted : (v : Result ℕ Refusal) {place : ℕ} {r : Record} {w : (Result ℕ Refusal)} → told_of None v ≡ told.Charted place r w → ⊥
never_charted (Ok count) e = let z : ◌≡◌ {A = ℕ} 0 1 = cc in omega arith
never_charted (Err why) e = let z : ◌≡◌ {A = ℕ} 0 1 = cc in omega arith

module _ (n : ℕ) (file name : List ℕ) where
  abbrev sought : Header → Option Found
  sought h = first_named n name h.body (items paper n (drop h.body file))

  abbrev judged : Header → Result ℕ Refusal
  judged h = judge n h.body 0 [] (items paper n (drop h.body file))

  -- the four ways to an answer
  data Asked : Type 0 where
    bad_name_lem : ask_of paper n file name ≡ told.BadName → Asked
    bad_header : {why : Refusal} → ask_of paper n file name ≡ told.Refused why → Asked
    charted : {h : Header} {place : ℕ} {r : Record} → header_of paper file ≡ Ok h → sought h ≡ found_at place r
        → ask_of paper n file name ≡ told.Charted place r (judged h) → Asked
    nowhere : {h : Header} → header_of paper file ≡ Ok h → sought h ≡ None → ask_of paper n file name ≡ told_of None (judged h) → Asked

  asked : Asked
  unfolding ask_of ask_body sought_from judge_body
  asked = go (valid_name paper name) refl (header_of paper file) refl
    where
      go : (t : Bool) → valid_name paper name ≡ t → (o : Result Header Unread) → header_of paper file ≡ o → Asked
      go false v o q = bad_name_lem (rw v)
      go true v (Err bad) q = bad_header {why = BadHeader bad.text} (rw (v, q))
      go true v (Ok h) q = by (sought h) refl
        where
          by : (x : Option Found) → sought h ≡ x → Asked
          by (Some f) e = charted q e (rw (v, q, e))
          by None e = nowhere q e (rw (v, q, e))

  absent : Asked → ask_of paper n file name ≡ told.Absent
      → (count : ℕ) × (h : Header) × (check_of paper n file ≡ Ok count) × (header_of paper file ≡ Ok h)
      × ((place : ℕ) (r : Record) → Named n (drop h.body file) name place r → ⊥)
  absent (bad_name_lem e) a = absurd (let z : ◌≡◌ {A = ℕ} 0 1 = cc in omega arith)
  absent (bad_header e) a = absurd (let z : ◌≡◌ {A = ℕ} 0 1 = cc in omega arith)
  absent (charted q s e) a = absurd (let z : ◌≡◌ {A = ℕ} 0 1 = cc in omega arith)
  absent (nowhere {h} q s e) a =
      let (count, c) = clean (judged h) (sym e ∙ a) in (
        count,
        h,
        read paper n file q ∙ c,
        q,
        λ place r x.
            told_nowhere n name h.body x.stands.before x.it x.stands.after
            (ap (first_named n name h.body) (sym x.stands.all) ∙ s) x.good x.name_is,
      )

  -- what is found among the items of the body stands there, and has the name
  stands_named : (h : Header) {place : ℕ} {r : Record} → sought h ≡ found_at place r → (inner : ℕ) × (place ≡ h.body + inner) × Named n (drop h.body file) name inner r
  stands_named h {place} {r} e =
      let x : NamedAmong n name h.body (items paper n (drop h.body file)) place r = told_at n name h.body (items paper n (drop h.body file)) e in (
        length (bytes_of x.before),
        x.here,
        record { it = x.it; stands = record { before = x.before; after = x.after; all = x.all; here = refl }; good = x.good; name_is = x.name_is },
      )

  found : Asked → (place : ℕ) (r : Record) (v : Result ℕ Refusal) → ask_of paper n file name ≡ told.Charted place r v
      → (h : Header) × (inner : ℕ) × (header_of paper file ≡ Ok h) × (place ≡ h.body + inner) × Named n (drop h.body file) name inner r
      × (check_of paper n file ≡ v)
  found (bad_name_lem e) place r v a = absurd (let z : ◌≡◌ {A = ℕ} 0 1 = cc in omega arith)
  found (bad_header e) place r v a = absurd (let z : ◌≡◌ {A = ℕ} 0 1 = cc in omega arith)
  found (nowhere {h} q s e) place r v a = absurd (never_charted (judged h) (sym e ∙ a))
  found (charted {h} {place = at} {r = which} q s e) place r v a =
      let same : at ≡ place = cc in
      let alike : which ≡ r = cc in
      let (inner, here, x) = stands_named h {place = place} {r = r} (rw (same, alike) at s) in
      (h, inner, q, here, x, read paper n file q ∙ cc)

  -- where the file passes, no other record has the name
  module _ {h : Header} {inner : ℕ} {r : Record} {count : ℕ} (opens : header_of paper file ≡ Ok h)
      (x : Named n (drop h.body file) name inner r) (passes : check_of paper n file ≡ Ok count) where
    the_only : (k : Header) → header_of paper file ≡ Ok k → (other : ℕ) (q : Record) → Named n (drop k.body file) name other q
        → (k.body + other ≡ h.body + inner) × (q ≡ r)
    the_only k opens-too other q y =
        let same-header : k ≡ h = cc in
        let z : Named n (drop h.body file) name other q = subst (λ (m : Header). Named n (drop m.body file) name other q) same-header y in
        let up = (holds n h.body (items paper n (drop h.body file)) (sym (read paper n file opens) ∙ passes)).up in
        let (places, its) = one_named n up z.stands z.name_is x.stands x.name_is in
        (ap (λ (m : Header). m.body + other) same-header ∙ ap (λ (m : ℕ). h.body + m) places, cc (z.good, x.good, its))

  certain : (place : ℕ) (r : Record) (v : Result ℕ Refusal) → ask_of paper n file name ≡ told.Charted place r v → verdict_number v ≡ 0
      → (count : ℕ) × (check_of paper n file ≡ Ok count)
      × ((h : Header) → header_of paper file ≡ Ok h → (inner : ℕ) (q : Record) → Named n (drop h.body file) name inner q
      → (h.body + inner ≡ place) × (q ≡ r))
  certain place r v a zero =
      let (h, inner, opens, here, x, checked) = found asked place r v a in
      let (count, clean-one) = zero_clean v zero in
      let passes : check_of paper n file ≡ Ok count = checked ∙ clean-one in (
        count,
        passes,
        λ k opens-too other q y. let (p, e) = the_only opens x passes k opens-too other q y in (p ∙ sym here, e),
      )

  -- ---- the other way

  module _ (h : Header) (opens : header_of paper file ≡ Ok h) (valid : valid_name paper name ≡ true) where
    by_sought : ask_of paper n file name ≡ told_of (sought h) (judged h)
    unfolding ask_of ask_body sought_from judge_body
    by_sought = rw (valid, opens)

    there : (inner : ℕ) (r : Record) → Named n (drop h.body file) name inner r
        → (place : ℕ) × (first : Record) × (ask_of paper n file name ≡ told.Charted place first (check_of paper n file))
    there inner r x = go (sought h) refl
      where
        go : (s : Option Found) → sought h ≡ s → (place : ℕ) × (first : Record) × (ask_of paper n file name ≡ told.Charted place first (check_of paper n file))
        go (Some f) e = (f.place, f.reading, by_sought ∙ rw e (ap (told.Charted f.place f.reading) (sym (read paper n file opens))))
        go None e =
            absurd
            (told_nowhere n name h.body x.stands.before x.it x.stands.after
            (ap (first_named n name h.body) (sym x.stands.all) ∙ e) x.good x.name_is)

    otherwise : ((inner : ℕ) (r : Record) → Named n (drop h.body file) name inner r → ⊥) → ask_of paper n file name ≡ told_of None (check_of paper n file)
    otherwise none_has = go (sought h) refl
      where
        go : (s : Option Found) → sought h ≡ s → ask_of paper n file name ≡ told_of None (check_of paper n file)
        go (Some f) e = let (inner, here, x) = stands_named h e in absurd (none_has inner f.reading x)
        go None e = by_sought ∙ rw e (ap (told_of None) (sym (read paper n file opens)))

pub trusted : AskIsTrusted
trusted n file name =
    record {
      absent = absent n file name (asked n file name);
      charted = found n file name (asked n file name);
      certain = certain n file name;
      there = there n file name;
      otherwise = otherwise n file name;
    }

-- ---- what callers get

pub fault_is_the_checks : FaultIsTheChecks
unfolding ask_answer check_answer over_limit
fault_is_the_checks kind file name = by_kind (admission kind (length file) (length name)) refl
  where
    -- the check is lent the file alone
    same_digits : (n : ℕ) → admission kind (length file) (length name) ≡ Ok n → admission kind (length file) 0 ≡ Ok n
    same_digits n e = let (digits, small, short) = admission-asked kind (length file) (length name) n e in admits kind (length file) 0 digits small refl

    by_told : (n : ℕ) → admission kind (length file) (length name) ≡ Ok n → (w : Told) → ask_of paper n file name ≡ w → ask_number (Ok w) ≡ 0
        → ask_fault (Ok w) ≡ check_number (check_answer kind file)
    by_told n e (told.Charted place r v) a zero = let (h, inner, opens, here, x, checked) = (trusted n file name).charted place r v a in rw (same_digits n e) (ap verdict_number (sym checked))
    by_told n e told.Absent a zero = absurd (omega arith)
    by_told n e told.BadName a zero = absurd (omega arith)
    by_told n e (told.Refused why) a zero = absurd (some_refusal why zero)

    by_kind : (a : Result ℕ NotAdmitted) → admission kind (length file) (length name) ≡ a → ask_number (ask_answer kind file name) ≡ 0
        → ask_fault (ask_answer kind file name) ≡ check_number (check_answer kind file)
    by_kind (Ok n) e zero = rw e (by_told n e (ask_of paper n file name) refl (rw e at zero))
    by_kind (Err UnknownKind) e zero = absurd (let z = rw e at zero in omega arith)
    by_kind (Err TooLarge) e zero = absurd (let z = rw e at zero in omega arith)
