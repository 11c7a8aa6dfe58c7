-- What an entry returns and leaves. A reader must believe: an answer is the struct that C sees; an area that isn't taken answers 6 and nothing
-- changes.
use Rattle.std.specs.Prelude.{ℕ, List}
use Rattle.grimholdi.specs.declared.Answer.{Answer}

-- a number alone
abbrev pub plain_struct : ℕ → Answer
plain_struct n = record { number = n; length = 0; pid = 0; transfer = 0; lane = 0; address = 0; endpoint = 0; direction = 0; lowspeed = 0; toggle = 0 }

-- what a call returns and leaves
pub record EntryOutcome : Type 0 where
  pub answer : Answer
  pub area : List ℕ
  pub reply : List ℕ

-- 6, and nothing changes
abbrev pub refused : List ℕ → List ℕ → EntryOutcome
refused a r = record { answer = plain_struct 6; area = a; reply = r }
