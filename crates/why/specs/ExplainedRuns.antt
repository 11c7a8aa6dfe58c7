-- Runs in which some calls are explained and not made. A reader must believe: an explained call gives back its reason and nothing else, and
-- is no part of the history; all else is demand 3, word for word.
use Rattle.std.specs.Prelude.{◌≡◌, List, [], ◌∷◌}
use Rattle.buffer.specs.declared.Lane.{Lane}
use Rattle.buffer.specs.declared.Key.{Key}
use Rattle.hub.specs.Call.{Call}
use Rattle.runs.specs.History.{Event, History, last_for}
use Rattle.runs.specs.Machine.{Machine, new_hub_of, rules, run}
use Rattle.runs.specs.Demand3.{Marks, only_key, every_key_of, SameCall, SameAnswer, AllExplained}
use Rattle.runs.specs.Order.{AllOrdered}
use Rattle.why.specs.declared.Reason.{Reason}
use Rattle.why.specs.Why.{why_of}

-- a machine and the tool beside it: the reason that it gives, and what it leaves
pub record Explainer : Type 1 where
  pub machine : Machine
  pub why : machine.State → machine.Asked → Reason
  pub left : machine.State → machine.Asked → machine.State

-- a call is made, or it is explained and not made
pub data Item (A : Type 0) : Type 0 where
  make : A → Item A
  explain : A → Item A

-- what is seen of it: the call and its answer, or the call and the reason
pub data Seen : Type 0 where
  made : Event → Seen
  explained : Call → Reason → Seen

unfoldable pub seen_from : (x : Explainer) → x.machine.State → List (Item x.machine.Asked) → List Seen
seen_from x t [] = []
seen_from x t (make c ∷ is) = made (record { call = x.machine.call c; answer = x.machine.answer t c }) ∷ seen_from x (x.machine.next t c) is
seen_from x t (explain c ∷ is) = explained (x.machine.call c) (x.why t c) ∷ seen_from x (x.left t c) is

abbrev pub seen : (x : Explainer) → x.machine.Made → List (Item x.machine.Asked) → List Seen
seen x n is = seen_from x (x.machine.new n) is

-- the same calls in the same order, made or explained in both, but for the marked bytes; an explained call is not part of the history
unfoldable pub SameItems : Marks → History → List Seen → List Seen → Type 0
SameItems m h [] [] = Unit {0}
SameItems m h [] (f ∷ fs) = ⊥
SameItems m h (e ∷ es) [] = ⊥
SameItems m h (made e ∷ es) (made f ∷ fs) = SameCall m (last_for h) e.call f.call × SameItems m (e ∷ h) es fs
SameItems m h (made e ∷ es) (explained d s ∷ fs) = ⊥
SameItems m h (explained c r ∷ es) (made f ∷ fs) = ⊥
SameItems m h (explained c r ∷ es) (explained d s ∷ fs) = SameCall m (last_for h) c d × SameItems m h es fs

-- each call that is made has the same answer in both, except those bytes, and each that is explained the same reason
unfoldable pub SameSeen : Marks → List Seen → List Seen → Type 0
SameSeen m [] [] = Unit {0}
SameSeen m [] (f ∷ fs) = ⊥
SameSeen m (e ∷ es) [] = ⊥
SameSeen m (made e ∷ es) (made f ∷ fs) = SameAnswer m e.call e.answer f.answer × SameSeen m es fs
SameSeen m (made e ∷ es) (explained d s ∷ fs) = ⊥
SameSeen m (explained c r ∷ es) (made f ∷ fs) = ⊥
SameSeen m (explained c r ∷ es) (explained d s ∷ fs) = (r ≡ s) × SameSeen m es fs

-- Take any two runs on equal new hubs that hold the same calls in the same order, made or explained, but for those bytes. Then each has the
-- same answer or the same reason in both, except those bytes.
abbrev pub HiddenWithReasons : Explainer → Marks → Type 0
HiddenWithReasons x m =
    (n k : x.machine.Made) (is js : List (Item x.machine.Asked)) → new_hub_of (x.machine.numbers n) ≡ new_hub_of (x.machine.numbers k)
    → SameItems m [] (seen x n is) (seen x k js) → SameSeen m (seen x n is) (seen x k js)

-- the calls that are made, and what is seen of them
unfoldable pub makes_of : {A : Type 0} → List (Item A) → List A
makes_of [] = []
makes_of (make c ∷ is) = c ∷ makes_of is
makes_of (explain c ∷ is) = makes_of is

unfoldable pub made_of : List Seen → List Event
made_of [] = []
made_of (made e ∷ es) = e ∷ made_of es
made_of (explained c r ∷ es) = made_of es

-- the explained call is not made: the other calls are answered as in the run without it
abbrev pub NotMade : Explainer → Type 0
NotMade x = (n : x.machine.Made) (is : List (Item x.machine.Asked)) → made_of (seen x n is) ≡ run x.machine n (makes_of is)

-- demand 3 whole, and the order of launches, with explained calls anywhere in the runs
pub record Demand3WithReasons (x : Explainer) : Type 0 where
  -- whatever keys are marked; one key; every key of a lane
  pub set_hidden : (m : Marks) → HiddenWithReasons x m
  pub mark_hidden : (m : Key) → HiddenWithReasons x (only_key m)
  pub lane_hidden : (z : Lane) → HiddenWithReasons x (every_key_of z)
  -- a data answer holds exactly the bytes delivered for the latest start-split stored under its key
  pub data_explained : (n : x.machine.Made) (is : List (Item x.machine.Asked)) → AllExplained [] (made_of (seen x n is))
  pub launch_order : (n : x.machine.Made) (is : List (Item x.machine.Asked)) → AllOrdered [] (made_of (seen x n is))
  pub not_made : NotMade x

-- the rules, and the reason that the tool gives; it leaves the hub as it was
abbrev pub explaining : Explainer
explaining = record { machine = rules; why = why_of; left = λ h c. h }

-- what a layer above shows of its own machine and tool, as `Demand2` for made calls: each answer and each reason is the rules'
unfoldable pub items_of : {A B : Type 0} → (A → B) → List (Item A) → List (Item B)
items_of f [] = []
items_of f (make c ∷ is) = make (f c) ∷ items_of f is
items_of f (explain c ∷ is) = explain (f c) ∷ items_of f is

abbrev pub Demand2WithReasons : Explainer → Type 0
Demand2WithReasons x =
    (n : x.machine.Made) (is : List (Item x.machine.Asked))
    → seen x n is ≡ seen explaining (x.machine.numbers n) (items_of x.machine.call is)
