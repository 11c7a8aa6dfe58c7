-- What the explaining entries give, and what is shown of them and of runs with explained calls. A reader must believe: an area that isn't
-- taken gives the reason 6, any other the reason of the hub read from it; the area is lent to be read, so it stays as it was.
use Rattle.std.specs.Prelude.{ℕ, ◌≡◌, ◌↔◌, false, List, Some}
use Rattle.std.specs.Option.{option_map_or}
use Rattle.numbers.specs.Split.{split_from}
use Rattle.hub.specs.declared.Hub.{Hub}
use Rattle.hub.specs.Call.{Call, Answer}
use Rattle.hub.specs.Valid.{ValidHub}
use Rattle.why.specs.declared.Reason.{Reason}
use Rattle.why.specs.declared.Reason.TheVariants.{Nothing, Number}
use Rattle.why.specs.Said.{TrueOf, gets_reason, enough_for}
use Rattle.why.specs.Why.{why_of}
use Rattle.why.specs.Claims.{Leaves}
use Rattle.why.specs.ExplainedRuns.{Explainer, Demand2WithReasons, Demand3WithReasons}
use Rattle.area.specs.Written.{written}
use Rattle.area.specs.Read.{read_of, hub_read}
use Rattle.grimholdi.specs.Asked.{Asked, start_split, call_of, gives}
use Rattle.grimholdi.specs.Runs.{seen, entries}
use Rattle.grimholdi.specs.Refusals.{Unwritten}

-- the reason for the call c on the area a
unfoldable pub entry_reason : List ℕ → Call → Reason
entry_reason a c = option_map_or (λ h. why_of h c) (read_of a) (Number 6)

-- of what C hands in; of a reply space only its length counts
abbrev pub explains : List ℕ → Asked → Reason
explains a x = entry_reason a (call_of x)

-- the entries, and the explaining entries beside them
abbrev pub explained_entries : Explainer
explained_entries = record { machine = entries; why = explains; left = λ a x. a }

pub record EntryReasons : Type 0 where
  -- an area that is the written form of no valid hub: 6
  pub bad_area : (a : List ℕ) (c : Call) → Unwritten a → entry_reason a c ≡ Number 6
  -- on any other, the reason is true of that hub and call, ..
  pub true_of : (h : Hub) (c : Call) → ValidHub h → TrueOf (entry_reason (written h) c) h c
  -- .. what it is enough for is what the call's own entry answers, bytes included, ..
  pub answered : (h : Hub) (x : Asked) (a : Answer) → ValidHub h → enough_for (explains (written h) x) ≡ Some a → seen (gives (written h) x) ≡ a
  -- .. and it is given exactly where that answer gets one
  pub given : (h : Hub) (x : Asked) → ValidHub h
      → (explains (written h) x ≡ Nothing) ↔ (gets_reason (call_of x) (gives (written h) x).answer.number ≡ false)
  -- Of a start-split it tells where the start-split is stored in the area that its own entry leaves, or that it is not.
  pub stored : (h : Hub) (z p t f g a e : ℕ) (l : List ℕ) → ValidHub h
      → (let x = start_split z p t f g a e l in
      Leaves (explains (written h) x) (split_from z p t f g a e) l h (hub_read (gives (written h) x).area))
  pub demand_2 : Demand2WithReasons explained_entries
  pub demand_3 : Demand3WithReasons explained_entries
