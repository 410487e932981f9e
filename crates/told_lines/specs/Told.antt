-- What callers are told with an error, whichever function tells it. Document 02, One: "An error shall give the byte place in the lent bytes, the true line number
-- (one more than the line feeds before it), and the whole line, from that place on, without its ending LF [..]. Check and merge pass the same on for 4."
use Rattle.std.specs.Prelude.{◌≡◌, Bool, true, List, [], ◌∷◌, ℕ, drop}
use Rattle.block.specs.Among.{among}
use Rattle.line_number.specs.LineNumber.{line_number, until_feed}
use Rattle.start.specs.Start.{start_answer}
use Rattle.iter.specs.Step.{plain_answer, prefix_answer}
use Rattle.walker.specs.Walk.{walk_answer}
use Rattle.checks.specs.Check.{check_answer}
use Rattle.ask.specs.Ask.{ask_answer}
use Rattle.merge.specs.Merge.{merge_answer}
use Rattle.reply_file.specs.declared.walk.StartReply.{StartReply}
use Rattle.reply_file.specs.declared.walk.StepReply.{StepReply}
use Rattle.reply_file.specs.declared.verdict.CheckReply.{CheckReply}
use Rattle.reply_file.specs.Walk.{start_reply, step_reply, walk_reply}
use Rattle.reply_file.specs.Verdict.{check_reply}
use Rattle.reply_lookup.specs.declared.asked.AskReply.{AskReply}
use Rattle.reply_lookup.specs.Asked.{ask_reply}
use Rattle.reply_merge.specs.declared.MergeReply.{MergeReply}
use Rattle.reply_merge.specs.Merge.{merge_reply}

-- a place of the lent bytes, and the line number and the length of the text that are told with it
pub record TrueAt (bytes : List ℕ) (place line text_len : ℕ) : Type 0 where
  pub number : line ≡ line_number bytes place
  pub text : text_len ≡ until_feed (drop place bytes)

-- 41 to 45
abbrev pub is_bad : ℕ → Bool
is_bad number = among number (41 ∷ 42 ∷ 43 ∷ 44 ∷ 45 ∷ [])

-- what a caller gets
abbrev pub started : ℕ → List ℕ → StartReply
started kind file = start_reply (start_answer kind file)

abbrev pub stepped : ℕ → List ℕ → ℕ → StepReply
stepped kind bytes place = step_reply kind place (plain_answer kind bytes place)

abbrev pub walked : ℕ → List ℕ → ℕ → ℕ → StepReply
walked kind bytes place line = walk_reply kind place (walk_answer kind bytes place line)

abbrev pub listed : ℕ → List ℕ → List ℕ → ℕ → StepReply
listed kind prefix bytes place = step_reply kind place (prefix_answer kind prefix bytes place)

abbrev pub checked : ℕ → List ℕ → CheckReply
checked kind file = check_reply file (check_answer kind file)

abbrev pub asked : ℕ → List ℕ → List ℕ → AskReply
asked kind file name = ask_reply kind file (ask_answer kind file name)

abbrev pub merged : ℕ → List ℕ → List ℕ → ℕ → ℕ → MergeReply
merged kind old list indexRoom room = merge_reply old (merge_answer kind old list indexRoom room)

pub record TrueLines : Type 0 where
  -- the plain step, at any place of any bytes: what 2 is an error
  pub step : (kind : ℕ) (bytes : List ℕ) (place : ℕ) → (stepped kind bytes place).what ≡ 2
      → TrueAt bytes (stepped kind bytes place).start (stepped kind bytes place).line (stepped kind bytes place).text_len
  -- the start gives the true line number, and a walk that is given it tells what the plain step tells and hands on the next: so it is true to the end
  pub start : (kind : ℕ) (file : List ℕ) → (started kind file).number ≡ 0 → (started kind file).line ≡ line_number file (started kind file).place
  pub walk : (kind : ℕ) (bytes : List ℕ) (place : ℕ) → (walked kind bytes place (line_number bytes place)).what ≡ 2
      → TrueAt bytes (walked kind bytes place (line_number bytes place)).start (walked kind bytes place (line_number bytes place)).line
      (walked kind bytes place (line_number bytes place)).text_len
  pub on : (kind : ℕ) (bytes : List ℕ) (place : ℕ) → (walked kind bytes place (line_number bytes place)).number ≡ 0
      → (walked kind bytes place (line_number bytes place)).next_line ≡ line_number bytes (walked kind bytes place (line_number bytes place)).next
  -- "Prefix iteration gives the place counted from the whole lent bytes and 0 for the line number, since it starts in the middle."
  pub prefix : (kind : ℕ) (prefix bytes : List ℕ) (place : ℕ) → (listed kind prefix bytes place).line ≡ 0
  pub prefix_text : (kind : ℕ) (prefix bytes : List ℕ) (place : ℕ) → (listed kind prefix bytes place).what ≡ 2
      → ((listed kind prefix bytes place).start ≡ place) × ((listed kind prefix bytes place).text_len ≡ until_feed (drop place bytes))
  -- the check, a merge (of the old file) and the lookup that can be trusted, beside 41 to 45
  pub check : (kind : ℕ) (file : List ℕ) → is_bad (checked kind file).number ≡ true
      → TrueAt file (checked kind file).place (checked kind file).line (checked kind file).text_len
  pub merge : (kind : ℕ) (old list : List ℕ) (indexRoom room : ℕ) → is_bad (merged kind old list indexRoom room).number ≡ true
      → TrueAt old (merged kind old list indexRoom room).place (merged kind old list indexRoom room).line (merged kind old list indexRoom room).text_len
  pub ask : (kind : ℕ) (file name : List ℕ) → is_bad (asked kind file name).number ≡ true
      → TrueAt file (asked kind file name).place (asked kind file name).line (asked kind file name).text_len
