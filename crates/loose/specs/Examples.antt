-- The examples of document 01, and the cases beside them, as one list; id kind 1.
use Rattle.std.specs.Prelude.{◌≡◌, List, [], ◌∷◌, ◌++◌, map, ℕ, take, drop, replicate, Result, Ok, Err}
use Rattle.loose.specs.Loose.{ref_mark, loose_answer, loose_number}
use Rattle.loose.specs.declared.Loose.{Loose}
use Rattle.loose.specs.declared.Loose.TheVariants.{Id, Symbolic}
use Rattle.loose.specs.declared.LooseFault.{LooseFault}
use Rattle.loose.specs.declared.LooseFault.TheVariants.{BadTarget, Unreadable}
use Rattle.parse.specs.declared.limit.NotAdmitted.{NotAdmitted}
use Rattle.parse.specs.declared.limit.NotAdmitted.TheVariants.{TooLarge, UnknownKind}

-- what an answer comes to for its reader: the bytes of the id or of the target, or the number of the refusal
pub data Outcome : Type 0 where
  id : List ℕ → Outcome
  symbolic : List ℕ → Outcome
  refused : ℕ → Outcome

abbrev pub outcome : List ℕ → Result (Result Loose LooseFault) NotAdmitted → Outcome
outcome content (Ok (Ok (Id n))) = id (take n content)
outcome content (Ok (Ok (Symbolic from len))) = symbolic (take len (drop from content))
outcome content (Ok (Err Unreadable)) = refused (loose_number (Ok (Err Unreadable)))
outcome content (Ok (Err BadTarget)) = refused (loose_number (Ok (Err BadTarget)))
outcome content (Err UnknownKind) = refused (loose_number (Err UnknownKind))
outcome content (Err TooLarge) = refused (loose_number (Err TooLarge))

-- content, and what reading it has to come to
pub record Case : Type 0 where
  pub content : List ℕ
  pub expected : Outcome

-- so many digits `1`
abbrev pub ones : ℕ → List ℕ
ones n = replicate n 49

-- `refs/s/a`, LF, one space
abbrev pub refs_sa : List ℕ
refs_sa = 114 ∷ 101 ∷ 102 ∷ 115 ∷ 47 ∷ 115 ∷ 47 ∷ 97 ∷ []

abbrev pub lf : List ℕ
lf = 10 ∷ []

abbrev pub space : List ℕ
space = 32 ∷ []

abbrev pub cases : List Case
cases =
    -- "P loose `ref:  refs/s/a` LF: symbolic. P forty-one digits: 15."
    record { content = ref_mark ++ space ++ refs_sa ++ lf; expected = symbolic refs_sa }
    ∷ record { content = ones 41; expected = refused 15 }
    -- a path up to CR, and up to NUL
    ∷ record { content = ref_mark ++ refs_sa ++ 13 ∷ lf; expected = symbolic refs_sa }
    ∷ record { content = ref_mark ++ refs_sa ++ 0 ∷ refs_sa; expected = symbolic refs_sa }
    -- an id with a line end, alone, and one digit short
    ∷ record { content = ones 40 ++ lf; expected = id (ones 40) }
    ∷ record { content = ones 40; expected = id (ones 40) }
    ∷ record { content = ones 39; expected = refused 15 }
    -- no path, and `a`, which has no slash
    ∷ record { content = ref_mark; expected = refused 16 }
    ∷ record { content = ref_mark ++ 97 ∷ lf; expected = refused 16 }
    -- nothing at all
    ∷ record { content = []; expected = refused 15 }
    ∷ []

-- each case comes out as expected
abbrev pub Examples : Type 0
Examples = map (λ c. outcome c.content (loose_answer 1 c.content)) cases ≡ map (λ c. c.expected) cases
