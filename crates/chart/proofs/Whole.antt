-- What holds at every state, timer, speed, level and input, from one list of all of them.
-- Assumes nothing.
use Prim.Native.Nat.{ℕ}
use mathlib.Core.Path.{◌≡◌, ap}
use mathlib.Core.Bool.{Bool, true, false}
use mathlib.Core.List.{List, [], ◌∷◌}
use lib.ListN.{get_or}
use Rattle.port.specs.declared.Speed.{Speed}
use Rattle.port.specs.declared.Speed.TheVariants.{Low, Full, High}
use Rattle.port.specs.declared.PortState.{PortState}
use Rattle.port.specs.declared.ChangeBit.TheVariants as change
use Rattle.port.specs.declared.LineEvent.TheVariants.{AttachLow, AttachFull, Detach, Chirp, Wake, PortError, OverCurrentOn, OverCurrentOff}
use Rattle.port.specs.declared.SettableFeature.TheVariants as settable
use Rattle.port.specs.declared.ClearableFeature.TheVariants as clearable
use Rattle.port.specs.declared.Input.{Input}
use Rattle.port.specs.declared.Input.TheVariants as input
use Rattle.port.proofs.States.{row, each}

-- a function of the input at each input, in the order of the columns
abbrev pub across : {X : Type 0} → (Input → X) → List X
across f =
    f (input.Event AttachLow) ∷ f (input.Event AttachFull) ∷ f (input.Event Detach) ∷ f (input.Event Chirp)
    ∷ f (input.Event Wake) ∷ f (input.Event PortError) ∷ f (input.Event OverCurrentOn) ∷ f (input.Event OverCurrentOff)
    ∷ f input.Tick ∷ f (input.SetFeature settable.Suspend) ∷ f (input.SetFeature settable.Reset) ∷ f (input.SetFeature settable.Power)
    ∷ f (input.ClearFeature clearable.Enable) ∷ f (input.ClearFeature clearable.Suspend) ∷ f (input.ClearFeature clearable.Power)
    ∷ f (input.ClearFeature (clearable.Change change.Connection)) ∷ f (input.ClearFeature (clearable.Change change.Enable)) ∷ f (input.ClearFeature (clearable.Change change.Suspend))
    ∷ f (input.ClearFeature (clearable.Change change.OverCurrent)) ∷ f (input.ClearFeature (clearable.Change change.Reset))
    ∷ f input.Unconfigure ∷ f input.Configure ∷ f input.BusReset ∷ []

module _ {X : Type 0} (f g : Input → X) (same : across f ≡ across g) where
  nth : (k : ℕ) → get_or (across f) k (f input.Tick) ≡ get_or (across g) k (f input.Tick)
  nth k = ap (λ (l : List X). get_or l k (f input.Tick)) same

  pub each_input : (i : Input) → f i ≡ g i
  each_input (input.Event AttachLow) = nth 0
  each_input (input.Event AttachFull) = nth 1
  each_input (input.Event Detach) = nth 2
  each_input (input.Event Chirp) = nth 3
  each_input (input.Event Wake) = nth 4
  each_input (input.Event PortError) = nth 5
  each_input (input.Event OverCurrentOn) = nth 6
  each_input (input.Event OverCurrentOff) = nth 7
  each_input input.Tick = nth 8
  each_input (input.SetFeature settable.Suspend) = nth 9
  each_input (input.SetFeature settable.Reset) = nth 10
  each_input (input.SetFeature settable.Power) = nth 11
  each_input (input.ClearFeature clearable.Enable) = nth 12
  each_input (input.ClearFeature clearable.Suspend) = nth 13
  each_input (input.ClearFeature clearable.Power) = nth 14
  each_input (input.ClearFeature (clearable.Change change.Connection)) = nth 15
  each_input (input.ClearFeature (clearable.Change change.Enable)) = nth 16
  each_input (input.ClearFeature (clearable.Change change.Suspend)) = nth 17
  each_input (input.ClearFeature (clearable.Change change.OverCurrent)) = nth 18
  each_input (input.ClearFeature (clearable.Change change.Reset)) = nth 19
  each_input input.Unconfigure = nth 20
  each_input input.Configure = nth 21
  each_input input.BusReset = nth 22

-- the cells of one timer, one level and one speed
abbrev pub block : {X : Type 0} → (PortState → Input → X) → Speed → ℕ → List (List X)
block F v t = row (λ s. across (F s)) v t

-- all cells: whether the timer runs on, the level, the speed, the state, the input
abbrev pub whole : {X : Type 0} → (Bool → Bool → PortState → Input → X) → ℕ → List (List (List X))
whole F t =
    block (F true true) Low t ∷ block (F true true) Full t ∷ block (F true true) High t
    ∷ block (F true false) Low t ∷ block (F true false) Full t ∷ block (F true false) High t
    ∷ block (F false true) Low t ∷ block (F false true) Full t ∷ block (F false true) High t
    ∷ block (F false false) Low t ∷ block (F false false) Full t ∷ block (F false false) High t ∷ []

module _ {X : Type 0} (F G : Bool → Bool → PortState → Input → X) (same : (t : ℕ) → whole F t ≡ whole G t) where
  at : (k t : ℕ) → get_or (whole F t) k [] ≡ get_or (whole G t) k []
  at k t = ap (λ (l : List (List (List X))). get_or l k []) (same t)

  blocks : (r l : Bool) (v : Speed) (t : ℕ) → block (F r l) v t ≡ block (G r l) v t
  blocks true true Low t = at 0 t
  blocks true true Full t = at 1 t
  blocks true true High t = at 2 t
  blocks true false Low t = at 3 t
  blocks true false Full t = at 4 t
  blocks true false High t = at 5 t
  blocks false true Low t = at 6 t
  blocks false true Full t = at 7 t
  blocks false true High t = at 8 t
  blocks false false Low t = at 9 t
  blocks false false Full t = at 10 t
  blocks false false High t = at 11 t

  pub everywhere : (r l : Bool) (s : PortState) (i : Input) → F r l s i ≡ G r l s i
  everywhere r l s = each_input (F r l s) (G r l s) (each (λ s. across (F r l s)) (λ s. across (G r l s)) (blocks r l) s)
