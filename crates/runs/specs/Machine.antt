-- Runs. A reader must believe: a run is any list of calls from a new hub; each call gets the hub as the last one left it. A claim over
-- runs takes any machine, so that the same words speak of the rules, of what C calls, and of rules with a mistake.
use Rattle.std.specs.Prelude.{ℕ, ◌≡◌, true, List, [], ◌∷◌}
use Rattle.hub.specs.declared.Hub.{Hub}
use Rattle.hub.specs.Hub.{new_fits, hub_of}
use Rattle.hub.specs.Call.{Call, Answer, Outcome}
use Rattle.hub.specs.Step.{step}
use Rattle.runs.specs.History.{Event}

-- the five numbers of a new hub, within the rules
pub record Numbers : Type 0 where
  pub ports : ℕ
  pub buffers : ℕ
  pub powergood : ℕ
  pub current : ℕ
  pub removable : ℕ
  pub fit : new_fits ports buffers powergood current removable ≡ true

pub record Machine : Type 1 where
  pub State : Type 0
  -- what is handed in: a call, at the C entries with the reply space as it lies in memory
  pub Asked : Type 0
  pub call : Asked → Call
  -- what a new one is made from, and the numbers in it
  pub Made : Type 0
  pub numbers : Made → Numbers
  pub new : Made → State
  pub answer : State → Asked → Answer
  pub next : State → Asked → State

abbrev pub new_hub_of : Numbers → Hub
new_hub_of n = hub_of n.ports n.buffers n.powergood n.current n.removable

-- a hub that follows the rule f, call by call
abbrev pub ruled : (Hub → Call → Outcome) → Machine
ruled f =
    record {
      State = Hub;
      Asked = Call;
      call = λ c. c;
      Made = Numbers;
      numbers = λ n. n;
      new = new_hub_of;
      answer = λ h c. (f h c).answer;
      next = λ h c. (f h c).next;
    }

-- the rules of document 01, which every method of the hub keeps
abbrev pub rules : Machine
rules = ruled step

-- the calls of a run with their answers, in order
unfoldable pub run_from : (w : Machine) → w.State → List w.Asked → List Event
run_from w t [] = []
run_from w t (c ∷ cs) = record { call = w.call c; answer = w.answer t c } ∷ run_from w (w.next t c) cs

abbrev pub run : (w : Machine) → w.Made → List w.Asked → List Event
run w n cs = run_from w (w.new n) cs

-- what a run leaves
unfoldable pub after_from : (w : Machine) → w.State → List w.Asked → w.State
after_from w t [] = t
after_from w t (c ∷ cs) = after_from w (w.next t c) cs
