-- Whichever function tells an error, its line number is the true one and its text the whole line from the place on.
use mathlib.Core.Path.{◌≡◌, refl, sym, ap, ◌∙◌}
use mathlib.Core.Bool.{true}
use mathlib.Core.List.{List, []}
use Prim.Native.Nat.{ℕ, ◌≤◌}
use native.Mathlib.Omega.{arith}
use lib.ListN.{length, drop}
use Rattle.class.specs.Class.{paper}
use Rattle.parse.specs.Limit.{admission, admit}
use Rattle.parse.proofs.Admitted.{admitted}
use Rattle.header.specs.Header.{header_of, headed}
use Rattle.line_number.specs.LineNumber.{line_number, until_feed}
use Rattle.line_number.proofs.Feeds.{true_line}
use Rattle.start.specs.Start.{start_line, start_of, start_answer, starts_at}
use Rattle.start.proofs.Lines.{starts_true}
use Rattle.iter.specs.declared.step.Step.{Step}
use Rattle.iter.specs.declared.step.Step.TheVariants.{End, Good, Error}
use Rattle.iter.specs.Step.{step_of, step_answer, plain_answer}
use Rattle.walker.specs.Walk.{walk_answer}
use Rattle.iter.proofs.Steps.{error_is}
use Rattle.walker.proofs.Walks.{always_true}
use Rattle.checks.specs.declared.Refusal.{Refusal}
use Rattle.checks.specs.declared.Refusal.TheVariants as refusal
use Rattle.checks.specs.Check.{refusal_number, check_of, check_answer}
use Rattle.ask.specs.declared.Told.{Told}
use Rattle.ask.specs.declared.Told.TheVariants as told_is
use Rattle.ask.specs.Ask.{ask_of, ask_answer}
use Rattle.edits.specs.declared.list.ListFault.TheVariants.{BadEdit, TooMany}
use Rattle.edit.specs.declared.EditFault.TheVariants.{Malformed, BadName}
use Rattle.merge.specs.Merge.{merge_of, merge_answer}
use Rattle.tell.specs.Told.{refusal_place, refusal_line, refusal_text}
use Rattle.reply_file.specs.Walk.{start_reply, step_reply, step_told}
use Rattle.reply_file.specs.Verdict.{check_reply}
use Rattle.reply_lookup.specs.Asked.{ask_reply}
use Rattle.reply_merge.specs.Merge.{merge_reply}
use Rattle.told_lines.specs.Told.{TrueAt, is_bad, started, walked, listed, checked, asked, merged, TrueLines}
use Rattle.std.specs.declared.result.Result.{Result}
use Rattle.std.specs.declared.result.Result.TheVariants.{Err, Ok}
use Rattle.header.specs.declared.BadHeader.{BadHeader}
use Rattle.header.specs.declared.Header.{Header}
use Rattle.merge.specs.declared.NotMerged.{NotMerged}
use Rattle.merge.specs.declared.NotMerged.TheVariants as not_merged
use Rattle.parse.specs.declared.limit.NotAdmitted.{NotAdmitted}
use Rattle.parse.specs.declared.limit.NotAdmitted.TheVariants.{TooLarge, UnknownKind}
use Rattle.start.specs.declared.Start.{Start}

-- ---- the step

-- an answer that calls something an error: the place, the line that it was asked on, and the text
module _ (kind : ℕ) (prefix bytes : List ℕ) (place line onward : ℕ) where
  abbrev reply : Result Step NotAdmitted → Type 0
  reply a =
      ((step_told kind place onward a).start ≡ place) × ((step_told kind place onward a).line ≡ line) × ((step_told kind place onward a).text_len ≡ until_feed (drop place bytes))

  pub error_told : (step_told kind place onward (step_answer kind prefix bytes place line)).what ≡ 2 → reply (step_answer kind prefix bytes place line)
  unfolding step_answer
  error_told h = go (admission kind (length bytes) (length prefix)) h
    where
      by : (n : ℕ) (w : Step) → step_of paper n prefix bytes place line ≡ w → (step_told kind place onward (Ok w)).what ≡ 2 → reply (Ok w)
      by n (End next) e q = absurd (omega arith)
      by n (Good r next) e q = absurd (omega arith)
      by n (Error f told text next) e q = let is = error_is paper n prefix bytes place line e in (refl, is.0, is.1)

      go : (a : Result ℕ NotAdmitted) → (step_told kind place onward (admit a (λ n. Ok (step_of paper n prefix bytes place line)) (Err UnknownKind) (Err TooLarge))).what ≡ 2
          → reply (admit a (λ n. Ok (step_of paper n prefix bytes place line)) (Err UnknownKind) (Err TooLarge))
      go (Ok n) q = by n (step_of paper n prefix bytes place line) refl q
      go (Err UnknownKind) q = absurd (omega arith)
      go (Err TooLarge) q = absurd (omega arith)

  true_at : line ≡ line_number bytes place → (step_told kind place onward (step_answer kind prefix bytes place line)).what ≡ 2
      → TrueAt bytes (step_told kind place onward (step_answer kind prefix bytes place line)).start (step_told kind place onward (step_answer kind prefix bytes place line)).line
      (step_told kind place onward (step_answer kind prefix bytes place line)).text_len
  true_at e h =
      let r = error_told h in
      record { number = r.1 ∙ e ∙ ap (line_number bytes) (sym r.0); text = r.2 ∙ ap (λ (k : ℕ). until_feed (drop k bytes)) (sym r.0) }

-- with a prefix no answer tells a line
module _ (kind : ℕ) (prefix bytes : List ℕ) (place : ℕ) where
  pub no_line : (listed kind prefix bytes place).line ≡ 0
  unfolding step_answer
  no_line = go (admission kind (length bytes) (length prefix))
    where
      by : (n : ℕ) (w : Step) → step_of paper n prefix bytes place 0 ≡ w → (step_reply kind place (Ok w)).line ≡ 0
      by n (End next) e = refl
      by n (Good r next) e = refl
      by n (Error f told text next) e = (error_is paper n prefix bytes place 0 e).0

      go : (a : Result ℕ NotAdmitted) → (step_reply kind place (admit a (λ n. Ok (step_of paper n prefix bytes place 0)) (Err UnknownKind) (Err TooLarge))).line ≡ 0
      go (Ok n) = by n (step_of paper n prefix bytes place 0) refl
      go (Err UnknownKind) = refl
      go (Err TooLarge) = refl

-- ---- the start, and what a walk hands on

start_true : (kind : ℕ) (file : List ℕ) → (started kind file).number ≡ 0 → (started kind file).line ≡ line_number file (started kind file).place
unfolding start_answer start_of
start_true kind file h = go (admission kind (length file) 0) h
  where
    from : Result Header BadHeader → Result Start BadHeader
    from o = headed o (λ k. starts_at k.body (start_line file)) (λ text. Err (record { text = text }))

    by : (o : Result Header BadHeader) → header_of paper file ≡ o → (start_reply (Ok (from o))).number ≡ 0
        → (start_reply (Ok (from o))).line ≡ line_number file (start_reply (Ok (from o))).place
    by (Ok k) e q = (starts_true file).line k e
    by (Err bad) e q = absurd (omega arith)

    go : (a : Result ℕ NotAdmitted) → (start_reply (admit a (λ n. Ok (start_of paper file)) (Err UnknownKind) (Err TooLarge))).number ≡ 0
        → (start_reply (admit a (λ n. Ok (start_of paper file)) (Err UnknownKind) (Err TooLarge))).line
        ≡ line_number file (start_reply (admit a (λ n. Ok (start_of paper file)) (Err UnknownKind) (Err TooLarge))).place
    go (Ok n) q = by (header_of paper file) refl q
    go (Err UnknownKind) q = absurd (omega arith)
    go (Err TooLarge) q = absurd (omega arith)

walks_on : (kind : ℕ) (bytes : List ℕ) (place : ℕ) → (walked kind bytes place (line_number bytes place)).number ≡ 0
    → (walked kind bytes place (line_number bytes place)).next_line ≡ line_number bytes (walked kind bytes place (line_number bytes place)).next
walks_on kind bytes place h = go (plain_answer kind bytes place) refl h
  where
    onward : ℕ
    onward = (walk_answer kind bytes place (line_number bytes place)).line

    go : (a : Result Step NotAdmitted) → plain_answer kind bytes place ≡ a → (step_told kind place onward a).number ≡ 0
        → (step_told kind place onward a).next_line ≡ line_number bytes (step_told kind place onward a).next
    go (Ok (End next)) e q = (always_true kind bytes place).on (End next) e
    go (Ok (Good r next)) e q = (always_true kind bytes place).on (Good r next) e
    go (Ok (Error f told text next)) e q = (always_true kind bytes place).on (Error f told text next) e
    go (Err UnknownKind) e q = absurd (omega arith)
    go (Err TooLarge) e q = absurd (omega arith)

-- ---- the check, a merge and the lookup that can be trusted: of a file within the size limit

refusal_true : (file : List ℕ) → length file ≤ 1073741824 → (why : Refusal) → is_bad (refusal_number why) ≡ true
    → TrueAt file (refusal_place why) (refusal_line file why) (refusal_text file why)
refusal_true file small (refusal.BadRecord place f) e = record { number = true_line file place small; text = refl }
refusal_true file small (refusal.BadHeader text) e = absurd (let z : ◌≡◌ {A = ℕ} 0 1 = cc in omega arith)
refusal_true file small (refusal.Unsorted place) e = absurd (let z : ◌≡◌ {A = ℕ} 0 1 = cc in omega arith)

check_true : (kind : ℕ) (file : List ℕ) → is_bad (checked kind file).number ≡ true → TrueAt file (checked kind file).place (checked kind file).line (checked kind file).text_len
unfolding check_answer
check_true kind file h = go (admission kind (length file) 0) refl h
  where
    Tells : Result (Result ℕ Refusal) NotAdmitted → Type 0
    Tells a = is_bad (check_reply file a).number ≡ true → TrueAt file (check_reply file a).place (check_reply file a).line (check_reply file a).text_len

    by : length file ≤ 1073741824 → (v : Result ℕ Refusal) → Tells (Ok v)
    by small (Err why) q = refusal_true file small why q
    by small (Ok count) q = absurd (let z : ◌≡◌ {A = ℕ} 0 1 = cc in omega arith)

    go : (a : Result ℕ NotAdmitted) → admission kind (length file) 0 ≡ a → Tells (admit a (λ n. Ok (check_of paper n file)) (Err UnknownKind) (Err TooLarge))
    go (Ok n) e q = by (admitted kind (length file) 0 n e).1 (check_of paper n file) q
    go (Err UnknownKind) e q = absurd (let z : ◌≡◌ {A = ℕ} 0 1 = cc in omega arith)
    go (Err TooLarge) e q = absurd (let z : ◌≡◌ {A = ℕ} 0 1 = cc in omega arith)

ask_true : (kind : ℕ) (file name : List ℕ) → is_bad (asked kind file name).number ≡ true
    → TrueAt file (asked kind file name).place (asked kind file name).line (asked kind file name).text_len
unfolding ask_answer
ask_true kind file name h = go (admission kind (length file) (length name)) refl h
  where
    Tells : Result Told NotAdmitted → Type 0
    Tells a = is_bad (ask_reply kind file a).number ≡ true → TrueAt file (ask_reply kind file a).place (ask_reply kind file a).line (ask_reply kind file a).text_len

    by : length file ≤ 1073741824 → (t : Told) → Tells (Ok t)
    by small (told_is.Refused why) q = refusal_true file small why q
    by small (told_is.Charted place r v) q = absurd (let z : ◌≡◌ {A = ℕ} 0 1 = cc in omega arith)
    by small told_is.Absent q = absurd (let z : ◌≡◌ {A = ℕ} 0 1 = cc in omega arith)
    by small told_is.BadName q = absurd (let z : ◌≡◌ {A = ℕ} 0 1 = cc in omega arith)

    go : (a : Result ℕ NotAdmitted) → admission kind (length file) (length name) ≡ a → Tells (admit a (λ n. Ok (ask_of paper n file name)) (Err UnknownKind) (Err TooLarge))
    go (Ok n) e q = by (admitted kind (length file) (length name) n e).1 (ask_of paper n file name) q
    go (Err UnknownKind) e q = absurd (let z : ◌≡◌ {A = ℕ} 0 1 = cc in omega arith)
    go (Err TooLarge) e q = absurd (let z : ◌≡◌ {A = ℕ} 0 1 = cc in omega arith)

merge_true : (kind : ℕ) (old list : List ℕ) (indexRoom room : ℕ) → is_bad (merged kind old list indexRoom room).number ≡ true
    → TrueAt old (merged kind old list indexRoom room).place (merged kind old list indexRoom room).line (merged kind old list indexRoom room).text_len
unfolding merge_answer
merge_true kind old list indexRoom room h = go (admission kind (length old) (length list)) refl h
  where
    Tells : Result ℕ NotMerged → Type 0
    Tells a = is_bad (merge_reply old a).number ≡ true → TrueAt old (merge_reply old a).place (merge_reply old a).line (merge_reply old a).text_len

    by : length old ≤ 1073741824 → (m : Result ℕ NotMerged) → Tells m
    by small (Err (not_merged.Refused why)) q = refusal_true old small why q
    by small (Ok len) q = absurd (let z : ◌≡◌ {A = ℕ} 0 1 = cc in omega arith)
    by small (Err not_merged.UnknownKind) q = absurd (let z : ◌≡◌ {A = ℕ} 0 1 = cc in omega arith)
    by small (Err not_merged.TooLarge) q = absurd (let z : ◌≡◌ {A = ℕ} 0 1 = cc in omega arith)
    by small (Err (not_merged.BadList (BadEdit place Malformed))) q = absurd (let z : ◌≡◌ {A = ℕ} 0 1 = cc in omega arith)
    by small (Err (not_merged.BadList (BadEdit place BadName))) q = absurd (let z : ◌≡◌ {A = ℕ} 0 1 = cc in omega arith)
    by small (Err (not_merged.BadList (TooMany place))) q = absurd (let z : ◌≡◌ {A = ℕ} 0 1 = cc in omega arith)
    by small (Err not_merged.ShortIndex) q = absurd (let z : ◌≡◌ {A = ℕ} 0 1 = cc in omega arith)
    by small (Err (not_merged.Twins place)) q = absurd (let z : ◌≡◌ {A = ℕ} 0 1 = cc in omega arith)
    by small (Err not_merged.NothingToDo) q = absurd (let z : ◌≡◌ {A = ℕ} 0 1 = cc in omega arith)
    by small (Err not_merged.NoRecord) q = absurd (let z : ◌≡◌ {A = ℕ} 0 1 = cc in omega arith)
    by small (Err not_merged.ShortOutput) q = absurd (let z : ◌≡◌ {A = ℕ} 0 1 = cc in omega arith)

    go : (a : Result ℕ NotAdmitted) → admission kind (length old) (length list) ≡ a → Tells (admit a (λ n. merge_of paper n old list indexRoom room) (Err not_merged.UnknownKind) (Err not_merged.TooLarge))
    go (Ok n) e q = by (admitted kind (length old) (length list) n e).1 (merge_of paper n old list indexRoom room) q
    go (Err UnknownKind) e q = absurd (let z : ◌≡◌ {A = ℕ} 0 1 = cc in omega arith)
    go (Err TooLarge) e q = absurd (let z : ◌≡◌ {A = ℕ} 0 1 = cc in omega arith)

pub true_lines : TrueLines
true_lines =
    record {
      step = λ kind bytes place h. true_at kind [] bytes place (line_number bytes place) 0 refl h;
      start = start_true;
      walk = λ kind bytes place h.
          true_at kind [] bytes place (line_number bytes place) (walk_answer kind bytes place (line_number bytes place)).line refl h;
      on = walks_on;
      prefix = no_line;
      prefix_text = λ kind prefix bytes place h. let r = error_told kind prefix bytes place 0 0 h in (r.0, r.2);
      check = check_true;
      merge = merge_true;
      ask = ask_true;
    }
