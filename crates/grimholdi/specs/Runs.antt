-- Runs of C entries. A reader must believe: an area is memory of the right length that grimholdi_new filled; each entry gets the area as the last
-- one left it, any numbers, any lent bytes and any reply space; what the caller sees is the answer struct and as many bytes of the reply
-- space as it says.
use Rattle.std.specs.Prelude.{ℕ, ◌≡◌, List, map, length, take}
use Rattle.hub.specs.Call as hub
use Rattle.runs.specs.Machine.{Machine, Numbers, after_from}
use Rattle.runs.specs.Demand2.{reached_by}
use Rattle.area.specs.Written.{written, area_length}
use Rattle.grimholdi.specs.Outcome.{EntryOutcome}
use Rattle.grimholdi.specs.Entry.{new_entry}
use Rattle.grimholdi.specs.Asked.{Asked, call_of, gives}

abbrev pub seen : EntryOutcome → hub.Answer
seen g =
    record {
      number = g.answer.number;
      pid = g.answer.pid;
      transfer = g.answer.transfer;
      lane = g.answer.lane;
      address = g.answer.address;
      endpoint = g.answer.endpoint;
      direction = g.answer.direction;
      lowspeed = g.answer.lowspeed;
      toggle = g.answer.toggle;
      bytes = take g.answer.length g.reply;
    }

-- five numbers within the rules, and memory of the length that they take
pub record NewArea : Type 0 where
  pub numbers : Numbers
  pub memory : List ℕ
  pub long : length memory ≡ area_length numbers.ports numbers.buffers

abbrev pub filled : NewArea → List ℕ
filled m =
    let n = m.numbers in
    (new_entry m.memory n.ports n.buffers n.powergood n.current n.removable).area

-- entries that give g: a claim over them takes any, so that the same words speak of entries with a mistake
abbrev pub entries_by : (List ℕ → Asked → EntryOutcome) → Machine
entries_by g =
    record {
      State = List ℕ;
      Asked = Asked;
      call = call_of;
      Made = NewArea;
      numbers = λ m. m.numbers;
      new = filled;
      answer = λ a x. seen (g a x);
      next = λ a x. (g a x).area;
    }

abbrev pub entries : Machine
entries = entries_by gives

-- the area is the written form of the hub that the rules leave, each time
abbrev pub AreaFollows : (List ℕ → Asked → EntryOutcome) → Type 0
AreaFollows g = (m : NewArea) (xs : List Asked) → after_from (entries_by g) (filled m) xs ≡ written (reached_by m.numbers (map call_of xs))
