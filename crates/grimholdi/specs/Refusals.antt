-- Which calls the C entries refuse, and what each answer leaves, for every area, call and reply space. A reader must believe: these are the
-- words of document 01's table, "What a call answers", over bytes.
use Rattle.std.specs.Prelude.{ℕ, ◌≡◌, ◌↔◌, ◌⊎◌, List, length, drop}
use Rattle.hub.specs.declared.Hub.{Hub}
use Rattle.hub.specs.Step.{step}
use Rattle.hub.specs.Valid.{ValidHub}
use Rattle.runs.specs.Refusals.{Refusal, number_of, Due, Serves}
use Rattle.area.specs.Written.{written}
use Rattle.grimholdi.specs.Outcome.{EntryOutcome, refused}
use Rattle.grimholdi.specs.Asked.{Asked, call_of, reply_of}
use Rattle.grimholdi.specs.Runs.{seen}

-- the area is the written form of no valid hub
abbrev pub Unwritten : List ℕ → Type 0
Unwritten a = (h : Hub) → ValidHub h → ¬ (a ≡ written h)

-- of entries that give g
pub record EntryRefusals (g : List ℕ → Asked → EntryOutcome) : Type 0 where
  -- an area that is the written form of no valid hub answers 6, and nothing changes
  pub bad_area : (a : List ℕ) (x : Asked) → Unwritten a → g a x ≡ refused a (reply_of x)
  -- on any other, a refusal's number is answered exactly if the refusal is due
  pub exactly : (r : Refusal) (h : Hub) (x : Asked) → ValidHub h → ((g (written h) x).answer.number ≡ number_of r) ↔ Due r h (call_of x)
  -- no other number is answered but 0, 1 and 9
  pub numbered : (a : List ℕ) (x : Asked) → ((r : Refusal) × ((g a x).answer.number ≡ number_of r)) ⊎ Serves (g a x).answer.number
  -- answers 2 to 8 leave area and reply space as they were
  pub unchanged : (r : Refusal) (a : List ℕ) (x : Asked) → (g a x).answer.number ≡ number_of r → ((g a x).area ≡ a) × ((g a x).reply ≡ reply_of x)
  -- answers 0 and 9 leave the reply space untouched
  pub untouched : (a : List ℕ) (x : Asked) → ((g a x).answer.number ≡ 0) ⊎ ((g a x).answer.number ≡ 9) → (g a x).reply ≡ reply_of x
  -- what the caller sees is what the rule answers, its bytes at the start of the reply space,
  pub given : (h : Hub) (x : Asked) → ValidHub h → seen (g (written h) x) ≡ (step h (call_of x)).answer
  -- and the area is the written form of the hub that the rule leaves, also where no run of calls leads to it
  pub left : (h : Hub) (x : Asked) → ValidHub h → (g (written h) x).area ≡ written (step h (call_of x)).next
  -- n, the answer's length, is how many they are: 0 but for data
  pub counted : (a : List ℕ) (x : Asked) → length (seen (g a x)).bytes ≡ (g a x).answer.length
  pub no_data : (a : List ℕ) (x : Asked) → ¬ ((g a x).answer.number ≡ 1) → (g a x).answer.length ≡ 0
  -- the rest of the reply space is kept
  pub same_length : (a : List ℕ) (x : Asked) → length (g a x).reply ≡ length (reply_of x)
  pub behind : (a : List ℕ) (x : Asked) → drop (g a x).answer.length (g a x).reply ≡ drop (g a x).answer.length (reply_of x)
