-- Entries with one mistake each, and that the claims on entries shut each out. A reader must believe: each differs from the entries where its
-- comment says, and nowhere else.
use Rattle.std.specs.Prelude.{ℕ, ◌+◌, ◌*◌, ◌-◌, cond, List, [], ◌++◌, eqb, length, get_or, take, set, replicate, is_some}
use Rattle.area.specs.Read.{read_of}
use Rattle.grimholdi.specs.Outcome.{plain_struct, EntryOutcome}
use Rattle.grimholdi.specs.Entry.{new_entry}
use Rattle.grimholdi.specs.Asked.{Asked, gives}
use Rattle.grimholdi.specs.Runs.{seen, AreaFollows}
use Rattle.grimholdi.specs.New.{NewHubs, AreaLengths}
use Rattle.grimholdi.specs.Refusals.{EntryRefusals}

-- ---- what an entry gives, altered

abbrev pub with_reply : EntryOutcome → List ℕ → EntryOutcome
with_reply g r = record { answer = g.answer; area = g.area; reply = r }

-- the bytes of the reply space behind the n of the answer are zeroed
abbrev pub zeroed : EntryOutcome → EntryOutcome
zeroed g = with_reply g ((seen g).bytes ++ replicate (length g.reply - g.answer.length) 0)

-- altered by f where the number is n
abbrev pub on_number : ℕ → (EntryOutcome → EntryOutcome) → EntryOutcome → EntryOutcome
on_number n f g = cond (eqb g.answer.number n) (f g) g

-- the first byte of the reply space is written
abbrev pub touched : EntryOutcome → EntryOutcome
touched g = with_reply g (set g.reply 0 0xFF)

-- the number is 10
abbrev pub ten : EntryOutcome → EntryOutcome
ten g = record { answer = plain_struct 10; area = g.area; reply = g.reply }

-- a byte more is said to be given than is
abbrev pub one_more : EntryOutcome → EntryOutcome
one_more g =
    let s = g.answer in
    record {
      answer =
          record {
            number = s.number;
            length = s.length + 1;
            pid = s.pid;
            transfer = s.transfer;
            lane = s.lane;
            address = s.address;
            endpoint = s.endpoint;
            direction = s.direction;
            lowspeed = s.lowspeed;
            toggle = s.toggle;
          };
      area = g.area;
      reply = g.reply;
    }

-- ---- entries and areas

-- the area is kept as it was
abbrev pub keeps_area : List ℕ → Asked → EntryOutcome
keeps_area a x = record { answer = (gives a x).answer; area = a; reply = (gives a x).reply }

-- an area one byte too long is taken
abbrev pub takes_longer : List ℕ → Asked → EntryOutcome
takes_longer a x =
    let b = take (length a - 1) a in
    cond (is_some (read_of b)) (gives b x) (gives a x)

-- the memory counts as one byte shorter than it is, so that a new hub is made where it is a byte too long
abbrev pub makes_longer : List ℕ → ℕ → ℕ → ℕ → ℕ → ℕ → EntryOutcome
makes_longer a n b g c r = new_entry (take (length a - 1) a) n b g c r

-- a refused new hub leaves other bytes
abbrev pub refused_writes : List ℕ → ℕ → ℕ → ℕ → ℕ → ℕ → EntryOutcome
refused_writes a n b g c r =
    let o = new_entry a n b g c r in
    cond (eqb o.answer.number 6) (record { answer = o.answer; area = set a 0 0xFF; reply = [] }) o

-- a new hub's area keeps a byte that the memory held
abbrev pub keeps_byte : List ℕ → ℕ → ℕ → ℕ → ℕ → ℕ → EntryOutcome
keeps_byte a n b g c r =
    let o = new_entry a n b g c r in
    record { answer = o.answer; area = set o.area 2 (get_or a 2 0); reply = o.reply }

-- an area's length is told for any numbers, or for none
abbrev pub any_length : ℕ → ℕ → ℕ
any_length n b = 8 + n * 4 + b * 72

abbrev pub no_length : ℕ → ℕ → ℕ
no_length n b = 0

pub record EntryMistakesShutOut : Type 0 where
  pub zeroes_behind : ¬ (EntryRefusals (λ a x. zeroed (gives a x)))
  -- a 3 that writes, and a 0
  pub writes_on_nak : ¬ (EntryRefusals (λ a x. on_number 3 touched (gives a x)))
  pub writes_on_done : ¬ (EntryRefusals (λ a x. on_number 0 touched (gives a x)))
  pub answers_ten : ¬ (EntryRefusals (λ a x. on_number 0 ten (gives a x)))
  pub says_more : ¬ (EntryRefusals (λ a x. on_number 1 one_more (gives a x)))
  pub takes_longer_lem : ¬ (EntryRefusals takes_longer)
  pub keeps_area_lem : ¬ (AreaFollows keeps_area)
  pub keeps_lent : ¬ (EntryRefusals keeps_area)
  pub makes_longer_lem : ¬ (NewHubs makes_longer)
  pub refused_writes_lem : ¬ (NewHubs refused_writes)
  pub keeps_byte_lem : ¬ (NewHubs keeps_byte)
  pub any_length_lem : ¬ (AreaLengths any_length)
  pub no_length_lem : ¬ (AreaLengths no_length)
