-- What is kept where a run of a checked file's bytes is replaced by others.
use mathlib.Core.Path.{◌≡◌, refl, sym, ap, ◌∙◌}
use mathlib.Core.Bool.{true, false}
use mathlib.Core.List.{List, [], ◌∷◌, ◌++◌, append_assoc}
use mathlib.Core.Option.{Option, some}
use Prim.Native.Nat.{ℕ, suc, ◌+◌, ◌≤◌, ◌<◌}
use native.Mathlib.Omega.{arith}
use lib.ListN.{get_or, length, take, drop, length-append, length-drop}
use lib.Seq.{drop_at, length-take-le}
use Rattle.class.specs.Class.{paper, is_hex}
use Rattle.parse.specs.Limit.{digits_of, over_limit, admission}
use Rattle.parse.specs.Line.{line_len}
use Rattle.parse.specs.Run.{span}
use Rattle.parse.proofs.Admitted.{admits, admitted as within}
use Rattle.parse.proofs.Fronts.{at_drop, line_len_le}
use Rattle.header.specs.declared.Header.{Header}
use Rattle.header.specs.Header.{header_of}
use Rattle.decode.specs.declared.reference.Fault.{Fault}
use Rattle.decode.specs.Record.{record_of}
use Rattle.decode.proofs.Records.{View, is_bad_lem, plain, peeled, view}
use Rattle.start.specs.Start.{start_line, start_answer}
use Rattle.iter.specs.Items.{Item, size_of, items, bytes_of}
use Rattle.iter.specs.Step.{step_answer}
use Rattle.iter.proofs.Items.{items_step, tile}
use Rattle.handed.specs.Handed.{Given, error, handed, whats}
use Rattle.handed.specs.Iteration.{said_end, read_of, out_of, stop_of}
use Rattle.handed.specs.Lines.{Each}
use Rattle.handed.specs.Hands.{line_after}
use Rattle.handed.proofs.Lines.{read_from_lines}
use Rattle.handed.proofs.TrueLines.{true_lines}
use Rattle.handed.proofs.Iterations.{reads_file}
use Rattle.checks.specs.Check.{check_of}
use Rattle.checks.specs.Passes.{all_good}
use Rattle.checks.proofs.Asked.{passed, opened_as, some_digits}
use Rattle.checks.proofs.CheckMeans.{read}
use Rattle.checks.proofs.Passes.{judged}
use Rattle.damage.specs.Damage.{whole, Replaced, ending_before, beginning_from, records_in, handed_out, Aside, Behind, Kept, Demand3}
use Rattle.damage.proofs.Cuts.{end_before, begin_from, end_bytes, good_begin}
use Rattle.damage.proofs.Front.{front}
use Rattle.damage.proofs.HeaderKept.{header_kept, number_kept, start_kept}
use Rattle.damage.proofs.Resync as after
use Rattle.damage.proofs.Resync.{After, resync}
use Rattle.damage.proofs.Traces.{ending, begun, Begun, beginning_append, none_from, cut_from, joined, records_alike, no_errors, later}
use Rattle.std.specs.declared.option.Option.TheVariants.{Some}
use Rattle.std.specs.declared.result.Result.TheVariants.{Err, Ok}

module _ (n : ℕ) (pos : 0 < n) where
  -- ---- a line that begins with `^` is an error

  caret_bad : (c : List ℕ) → get_or c 0 0 ≡ 94 → (f : Fault) × (record_of paper n c ≡ Err f)
  unfolding is_hex
  caret_bad c h = go (view paper n c)
    where
      no_id : n ≤ span is_hex c → ⊥
      no_id l = let z : span is_hex c ≡ 0 = ap (span is_hex) (at_drop 94 (omega arith) 0 c h) in omega arith

      go : View paper n c → (f : Fault) × (record_of paper n c ≡ Err f)
      go (is_bad_lem f w e) = (f, e)
      go (plain q _ _) = absurd (no_id q.id)
      go (peeled q _ _ _) = absurd (no_id q.id)

  inside : (c : List ℕ) → get_or c 0 0 ≡ 94 → 0 < length c
  inside [] h = absurd (omega arith)
  inside (b ∷ c) h = omega arith

  caret_first : (c : List ℕ) → get_or c 0 0 ≡ 94
      → (f : Fault) × (items paper n c ≡ record { what = Err f; bytes = take (line_len c) c } ∷ items paper n (drop (line_len c) c))
  unfolding size_of
  caret_first c h =
      let (f, e) = caret_bad c h in
      let z : size_of paper n c ≡ line_len c = rw e in
      (f, items_step paper n c (inside c h) ∙ cc)

  not_caret : (c : List ℕ) → all_good (items paper n c) ≡ true → get_or c 0 0 ≡ 94 → ⊥
  not_caret c g h =
      let z : false ≡ true = rw (caret_first c h).1 at g in
      let w : ◌≡◌ {A = ℕ} 0 1 = cc in
      omega arith

  -- ---- the items that begin behind a line feed that follows the run

  module _ (kept run other a c : List ℕ) (good : all_good (items paper n (kept ++ (run ++ (a ++ 10 ∷ c)))) ≡ true) where
    -- with x in place of the run
    abbrev from : List ℕ → List Item
    from x = begin_from (suc (length (kept ++ (x ++ a)))) (items paper n (kept ++ (x ++ (a ++ 10 ∷ c))))

    from_is : (x : List ℕ) {l : List Item} → begin_from (suc (length (kept ++ (x ++ a)))) (items paper n ((kept ++ (x ++ a)) ++ 10 ∷ c)) ≡ l → from x ≡ l
    from_is x e = let z : kept ++ (x ++ (a ++ 10 ∷ c)) ≡ (kept ++ (x ++ a)) ++ 10 ∷ c = simp append_assoc in rw z e

    good_from : all_good (from run) ≡ true
    good_from = good_begin (suc (length (kept ++ (run ++ a)))) (items paper n (kept ++ (run ++ (a ++ 10 ∷ c)))) good

    -- the same as before; or a `^` line has lost the record that it belonged to, and stands alone before them
    data Resumed : Type 0 where
      alike : from other ≡ from run → Resumed
      lone : (f : Fault) → from other ≡ record { what = Err f; bytes = take (line_len c) c } ∷ items paper n (drop (line_len c) c) → from other ≡ items paper n c
          → from run ≡ items paper n (drop (line_len c) c) → Resumed

    resumed : Resumed
    resumed = go (resync n (kept ++ (run ++ a)) c) (resync n (kept ++ (other ++ a)) c)
      where
        go : After n (kept ++ (run ++ a)) c → After n (kept ++ (other ++ a)) c → Resumed
        go (after.whole e) (after.whole f) = alike (from_is other f ∙ sym (from_is run e))
        go (after.whole e) (after.later h f) = absurd (not_caret c (rw (from_is run e) at good_from) h)
        go (after.later h e) (after.whole f) =
            let (fault, first) = caret_first c h in
            lone fault (from_is other f ∙ first) (from_is other f) (from_is run e)
        go (after.later h e) (after.later i f) = alike (from_is other f ∙ sym (from_is run e))

  -- ---- what is handed out of a file with x in place of the run

  module _ (header kept rest x : List ℕ) (h : Header) (reads : header_of paper (whole header kept x rest) ≡ Ok h) (at : h.body ≡ length header) where
    body_is : drop h.body (whole header kept x rest) ≡ kept ++ (x ++ rest)
    body_is = drop_at header (kept ++ (x ++ rest)) h.body (sym at)

    out_is : handed_out n (whole header kept x rest) ≡ handed n (length header) (some (start_line (whole header kept x rest))) (items paper n (kept ++ (x ++ rest)))
    out_is =
        ap out_of ((reads_file paper n (whole header kept x rest)).all h reads)
        ∙ ap (λ (s : List ℕ). handed n h.body (some (start_line (whole header kept x rest))) (items paper n s)) body_is
        ∙ ap (λ (p : ℕ). handed n p (some (start_line (whole header kept x rest))) (items paper n (kept ++ (x ++ rest)))) at

    ends_at : (last : Option ℕ) × (stop_of (read_of paper n (whole header kept x rest)) ≡ said_end (length (whole header kept x rest)) last)
    ends_at = (
      line_after (some (start_line (whole header kept x rest))) (items paper n (drop h.body (whole header kept x rest))),
      ap stop_of ((reads_file paper n (whole header kept x rest)).all h reads),
    )

  -- ---- both files

  module _
      (header kept run other : List ℕ)
      (line : Option ℕ)
    where
      abbrev out : List ℕ → List ℕ → List Given
      out x rest = handed n (length header) line (items paper n (kept ++ (x ++ rest)))

      -- what ends before the run
      module _ (rest : List ℕ) (good : all_good (items paper n (kept ++ (run ++ rest))) ≡ true) where
        abbrev ahead : List Item
        ahead = end_before (length kept) (items paper n (kept ++ (run ++ rest)))

        ahead_is : ending_before (length (header ++ kept)) (out run rest) ≡ handed n (length header) line ahead
        ahead_is = rw (length-append header kept) (ending n (length kept) (length header) line (items paper n (kept ++ (run ++ rest))))

        record Split : Type 0 where
          others : List Item
          place : ℕ
          counted : Option ℕ
          is : out other rest ≡ handed n (length header) line ahead ++ handed n place counted others

        split : Split
        split =
            let (others, e) = front paper n (run ++ rest) (other ++ rest) kept good in
            let j = joined n (length header) line ahead others in
            record { others = others; place = j.place; counted = j.counted; is = ap (handed n (length header) line) e ∙ j.is }

      -- what begins behind a line feed
      module _ (a c : List ℕ) (good : all_good (items paper n (kept ++ (run ++ (a ++ 10 ∷ c)))) ≡ true) where
        abbrev rest : List ℕ
        rest = a ++ 10 ∷ c

        abbrev behind_it : List ℕ → ℕ
        behind_it x = suc (length (header ++ (kept ++ (x ++ a))))

        begins : (x : List ℕ) → Begun n (suc (length (kept ++ (x ++ a)))) (length header) line (items paper n (kept ++ (x ++ rest)))
        begins x = begun n (suc (length (kept ++ (x ++ a)))) (length header) line (items paper n (kept ++ (x ++ rest)))

        begins_is : (x : List ℕ) → beginning_from (behind_it x) (out x rest) ≡ handed n (begins x).place (begins x).counted (from kept run other a c good x)
        begins_is x =
            let z : behind_it x ≡ length header + suc (length (kept ++ (x ++ a))) = omega (arith, length-append header (kept ++ (x ++ a))) in
            rw z (begins x).is

        -- where it begins, if so many bytes are left
        begins_at : (x t : List ℕ) → from kept run other a c good x ≡ items paper n t → (begins x).place + length t ≡ behind_it x + length c
        begins_at x t e =
            let b : length (bytes_of (from kept run other a c good x)) ≡ length t = ap (λ (l : List Item). length (bytes_of l)) e ∙ ap length (tile paper n t) in
            let w : length (bytes_of (items paper n (kept ++ (x ++ rest)))) ≡ length (kept ++ (x ++ rest)) = ap length (tile paper n (kept ++ (x ++ rest))) in
            omega (
              arith,
              (begins x).where_is,
              length-append header (kept ++ (x ++ a)),
              length-append kept (x ++ a),
              length-append x a,
              length-append kept (x ++ rest),
              length-append x rest,
              length-append a (10 ∷ c),
            )

        abbrev Errors : Type 0
        Errors =
            Each (λ g. (k : ℕ) (text : List ℕ) → g.what ≡ error k text
            → Aside g (behind_it other) (behind_it run) (line_len c) (beginning_from (behind_it run) (out run rest)))
            (beginning_from (behind_it other) (out other rest))

        kept_behind : Resumed kept run other a c good
            → (records_in (beginning_from (behind_it other) (out other rest)) ≡ whats (beginning_from (behind_it run) (out run rest))) × Errors
        kept_behind (alike e) =
            let g = good_from kept run other a c good in (
              rw (begins_is other, begins_is run, e) (records_alike n (begins other).place (begins other).counted (begins run).place (begins run).counted (from kept run other a c good run) g),
              rw (begins_is other, e) (no_errors n _ (begins other).place (begins other).counted (from kept run other a c good run) g),
            )
        kept_behind (lone f e w r) =
            let l = items paper n (drop (line_len c) c) in
            let g : all_good l ≡ true = rw r at (good_from kept run other a c good) in
            let long : length (take (line_len c) c) ≡ line_len c = length-take-le (line_len c) c (line_len_le c) in
            let there : (begins other).place ≡ behind_it other = omega (arith, begins_at other c w) in
            let far : behind_it run + line_len c ≤ (begins run).place = omega (arith, begins_at run (drop (line_len c) c) r, length-drop (line_len c) c, line_len_le c) in (
              rw (begins_is other, begins_is run, e, r) (records_alike n _ _ (begins run).place (begins run).counted l g),
              rw (begins_is other, e) (
                λ k text q.
                    record {
                      begins = there;
                      ends = omega arith;
                      behind = rw (begins_is run, r) (later n (begins run).place (begins run).counted l (behind_it run + line_len c) far);
                    },
                no_errors n _ _ _ l g,
              ),
            )

        in_order : (between : List Given)
            × (out other rest ≡ ending_before (length (header ++ kept)) (out run rest) ++ (between ++ beginning_from (behind_it other) (out other rest)))
        in_order =
            let s = split rest good in
            let first = handed n (length header) line (ahead rest good) in
            let last = handed n s.place s.counted s.others in
            let (between, e) = cut_from n (behind_it other) s.place s.counted s.others in
            let short = end_bytes (length kept) (items paper n (kept ++ (run ++ rest))) in
            let b : beginning_from (behind_it other) (out other rest) ≡ beginning_from (behind_it other) last =
            ap (beginning_from (behind_it other)) s.is ∙ beginning_append n (behind_it other) first last
            ∙ ap (λ (l : List Given). l ++ beginning_from (behind_it other) last)
            (none_from n (behind_it other) (length header) line (ahead rest good)
            (omega (arith, length-append header (kept ++ (other ++ a)), length-append kept (other ++ a)))) in
            (between, s.is ∙ rw (ahead_is rest good, b) (ap (λ (l : List Given). first ++ l) e))

-- ---- the demand

no_other : over_limit 0 ≡ false
unfolding over_limit
no_other = refl

checked_good : (n : ℕ) (file : List ℕ) {head : Header} {count : ℕ} → header_of paper file ≡ Ok head → check_of paper n file ≡ Ok count
    → all_good (items paper n (drop head.body file)) ≡ true
checked_good n file {head} e v = (judged n head.body (items paper n (drop head.body file)) (sym (read paper n file e) ∙ v)).good

module _ (kind n : ℕ) (d : digits_of kind ≡ Some n) (header left run other rest : List ℕ) (r : Replaced kind header left run other rest) where
  abbrev file : List ℕ
  file = whole header left run rest

  abbrev damaged : List ℕ
  damaged = whole header left other rest

  pos : 0 < n
  pos = some_digits kind n d

  opens : header_of paper file ≡ Ok r.head
  opens = opened_as file r.head r.reads

  opens' : header_of paper damaged ≡ Ok r.head
  opens' = header_kept paper header (left ++ (run ++ rest)) (left ++ (other ++ rest)) r.head opens r.behind r.no_hash

  good : all_good (items paper n (left ++ (run ++ rest))) ≡ true
  good = rw (body_is n pos header left rest run r.head opens r.behind) at (checked_good n file opens (passed kind n d file r.count r.passes).0)

  out_before : handed_out n file ≡ out n pos header left run other (some (start_line file)) run rest
  out_before = out_is n pos header left rest run r.head opens r.behind

  out_after_lem : handed_out n damaged ≡ out n pos header left run other (some (start_line file)) other rest
  out_after_lem =
      out_is n pos header left rest other r.head opens' r.behind
      ∙ ap (λ (k : ℕ). handed n (length header) (some k) (items paper n (left ++ (other ++ rest))))
      (number_kept paper header (left ++ (run ++ rest)) (left ++ (other ++ rest)) r.head opens r.behind r.no_hash)

  behind_feed : (a c : List ℕ) → rest ≡ a ++ 10 ∷ c → Behind n header left run other a c
  behind_feed a c e =
      let k = some (start_line (whole header left run (a ++ 10 ∷ c))) in
      let was : handed_out n (whole header left run (a ++ 10 ∷ c)) ≡ out n pos header left run other k run (a ++ 10 ∷ c) = rw e at out_before in
      let is : handed_out n (whole header left other (a ++ 10 ∷ c)) ≡ out n pos header left run other k other (a ++ 10 ∷ c) = rw e at out_after_lem in
      let fine : all_good (items paper n (left ++ (run ++ (a ++ 10 ∷ c)))) ≡ true = rw e at good in
      let (records, errors) = kept_behind n pos header left run other k a c fine (resumed n pos left run other a c fine) in
      let (between, order) = in_order n pos header left run other k a c fine in
      record { records = rw (is, was) records; between = between; in_order = rw (is, was) order; errors = rw (is, was) errors }

  admitted : admission kind (length damaged) 0 ≡ Ok n
  admitted = admits kind (length damaged) 0 d r.limit no_other

  pub kept : Kept kind n header left run other rest
  unfolding start_answer step_answer
  kept =
      let s = split n pos header left run other (some (start_line file)) rest good in
      record {
        starts = rw admitted;
        steps = λ place k. rw admitted;
        start = start_kept paper header (left ++ (run ++ rest)) (left ++ (other ++ rest)) r.head opens r.behind r.no_hash;
        last = (ends_at n pos header left rest other r.head opens' r.behind).0;
        end = (ends_at n pos header left rest other r.head opens' r.behind).1;
        all_records = rw out_before (records_alike n _ _ _ _ (items paper n (left ++ (run ++ rest))) good);
        others = handed n s.place s.counted s.others;
        in_front = out_after_lem ∙ s.is ∙ rw (out_before, ahead_is n pos header left run other (some (start_line file)) rest good);
        behind = behind_feed;
        parts = read_from_lines n damaged;
        lines = true_lines n damaged (within kind (length damaged) 0 n admitted).1;
      }

pub demand_3 : Demand3
demand_3 kind n d header left run other rest r = kept kind n d header left run other rest r
