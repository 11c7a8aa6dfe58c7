-- A timer below its end stays below it, rule by rule.
-- Assumes nothing.
use Prim.Native.Nat.{ℕ, ◌+◌}
use mathlib.Core.Path.{◌≡◌, refl}
use mathlib.Core.Bool.{Bool, true, false, cond}
use mathlib.Core.List.{[], ◌∷◌}
use native.Mathlib.Omega.{arith}
use borrow.Author.Tests.{ltb-true}
use lib.Dec.{ltb}
use Rattle.port.specs.declared.Speed.{Speed}
use Rattle.port.specs.declared.Speed.TheVariants.{Low, Full, High}
use Rattle.port.specs.declared.PortState.{PortState}
use Rattle.port.specs.declared.PortState.TheVariants.{Resetting, Enabled, Resuming}
use Rattle.port.specs.declared.ChangeBit.TheVariants.{Suspend, Reset}
use Rattle.port.specs.declared.Port.{Port}
use Rattle.port.specs.declared.LineEvent.{LineEvent}
use Rattle.port.specs.declared.LineEvent.TheVariants.{AttachLow, AttachFull, Detach, Chirp, Wake, PortError, OverCurrentOn, OverCurrentOff}
use Rattle.port.specs.declared.SettableFeature.{SettableFeature}
use Rattle.port.specs.declared.SettableFeature.TheVariants as settable
use Rattle.port.specs.declared.ClearableFeature.TheVariants as clearable
use Rattle.port.specs.Reaction.{Reaction, done, ruled}
use Rattle.port.specs.Events.{attach, detach, chirp, wake, port_error, over_current_on, over_current_off, event_rule}
use Rattle.port.specs.Tick as ticking
use Rattle.port.specs.Features.{set_power, set_reset, set_suspend, clear_enable, clear_suspend, set_rule}
use Rattle.port.specs.declared.Input.{Input}
use Rattle.port.specs.declared.Input.TheVariants as input
use Rattle.port.specs.Input.{after}
use Rattle.port.specs.Words.{TimerBelowEnd}
use Rattle.port.proofs.States.{by_state, next, next_state}

keep : {A : Type 0} → A → A
keep h = h

-- a rule that leaves a timer below its end, at a level and a state
abbrev KeptAt : (Bool → PortState → Reaction) → Bool → PortState → Type 0
KeptAt rule l s = TimerBelowEnd s → TimerBelowEnd (next s (rule l s))

abbrev Kept : (Bool → PortState → Reaction) → Type 0
Kept rule = (l : Bool) (s : PortState) → KeptAt rule l s

-- the value of a test, with its equation
reset_ticks : (l : Bool) (s : Speed) (t : ℕ) (b : Bool) → ltb t 14 ≡ b
    → TimerBelowEnd (next (Resetting s t) (cond b (done (Resetting s (t + 1)) l []) (done (Enabled s) l (Reset ∷ []))))
reset_ticks l s t true e = omega (arith, ltb-true t 14 e)
reset_ticks l s t false e = tt

resume_ticks : (l : Bool) (s : Speed) (t : ℕ) (b : Bool) → ltb t 21 ≡ b
    → TimerBelowEnd (next (Resuming s t) (cond b (done (Resuming s (t + 1)) l []) (done (Enabled s) l (Suspend ∷ []))))
resume_ticks l s t true e = omega (arith, ltb-true t 21 e)
resume_ticks l s t false e = tt

tick_kept : Kept ticking.tick
tick_kept l =
    by_state (KeptAt ticking.tick l) keep keep keep (λ s. keep) (λ s t h. reset_ticks l s t (ltb t 14) refl) (λ s. keep) (λ s. keep)
    (λ s t h. resume_ticks l s t (ltb t 21) refl)

chirp_speed : (l : Bool) (s : Speed) (t : ℕ) → KeptAt chirp l (Resetting s t)
chirp_speed l Low t h = h
chirp_speed l Full t h = h
chirp_speed l High t h = h

event_kept : (e : LineEvent) → Kept (event_rule e)
event_kept AttachLow l = by_state (KeptAt (attach Low) l) keep keep keep (λ s. keep) (λ s t. keep) (λ s. keep) (λ s. keep) (λ s t. keep)
event_kept AttachFull l = by_state (KeptAt (attach Full) l) keep keep keep (λ s. keep) (λ s t. keep) (λ s. keep) (λ s. keep) (λ s t. keep)
event_kept Detach l = by_state (KeptAt detach l) keep keep keep (λ s. keep) (λ s t. keep) (λ s. keep) (λ s. keep) (λ s t. keep)
event_kept Chirp l = by_state (KeptAt chirp l) keep keep keep (λ s. keep) (chirp_speed l) (λ s. keep) (λ s. keep) (λ s t. keep)
event_kept Wake l = by_state (KeptAt wake l) keep keep keep (λ s. keep) (λ s t. keep) (λ s. keep) (λ s h. omega arith) (λ s t. keep)
event_kept PortError l = by_state (KeptAt port_error l) keep keep keep (λ s. keep) (λ s t. keep) (λ s. keep) (λ s. keep) (λ s t. keep)
event_kept OverCurrentOn true = by_state (KeptAt over_current_on true) keep keep keep (λ s. keep) (λ s t. keep) (λ s. keep) (λ s. keep) (λ s t. keep)
event_kept OverCurrentOn false = by_state (KeptAt over_current_on false) keep keep keep (λ s. keep) (λ s t h. tt) (λ s. keep) (λ s. keep) (λ s t h. tt)
event_kept OverCurrentOff true = by_state (KeptAt over_current_off true) keep keep keep (λ s. keep) (λ s t. keep) (λ s. keep) (λ s. keep) (λ s t. keep)
event_kept OverCurrentOff false = by_state (KeptAt over_current_off false) keep keep keep (λ s. keep) (λ s t. keep) (λ s. keep) (λ s. keep) (λ s t. keep)

set_kept : (f : SettableFeature) → Kept (set_rule f)
set_kept settable.Suspend l = by_state (KeptAt set_suspend l) keep keep keep (λ s. keep) (λ s t. keep) (λ s. keep) (λ s. keep) (λ s t. keep)
set_kept settable.Reset l =
    by_state (KeptAt set_reset l) keep keep keep (λ s h. omega arith) (λ s t. keep) (λ s h. omega arith) (λ s h. omega arith) (λ s t h. omega arith)
set_kept settable.Power true = by_state (KeptAt set_power true) keep keep keep (λ s. keep) (λ s t. keep) (λ s. keep) (λ s. keep) (λ s t. keep)
set_kept settable.Power false = by_state (KeptAt set_power false) keep keep keep (λ s. keep) (λ s t. keep) (λ s. keep) (λ s. keep) (λ s t. keep)

enable_kept : Kept clear_enable
enable_kept l = by_state (KeptAt clear_enable l) keep keep keep (λ s. keep) (λ s t h. tt) (λ s. keep) (λ s. keep) (λ s t h. tt)

suspend_kept : Kept clear_suspend
suspend_kept l = by_state (KeptAt clear_suspend l) keep keep keep (λ s. keep) (λ s t. keep) (λ s. keep) (λ s h. omega arith) (λ s t. keep)

at-port : (rule : Bool → PortState → Reaction) → Kept rule → (p : Port) → TimerBelowEnd p.state → TimerBelowEnd (ruled rule p).port.state
at-port rule k p h = rw (next_state p (rule p.overcurrent p.state)) (k p.overcurrent p.state h)

pub timer_kept : (p : Port) (i : Input) → TimerBelowEnd p.state → TimerBelowEnd (after p i).state
timer_kept p (input.Event e) h = at-port (event_rule e) (event_kept e) p h
timer_kept p input.Tick h = at-port ticking.tick tick_kept p h
timer_kept p (input.SetFeature f) h = at-port (set_rule f) (set_kept f) p h
timer_kept p (input.ClearFeature clearable.Enable) h = at-port clear_enable enable_kept p h
timer_kept p (input.ClearFeature clearable.Suspend) h = at-port clear_suspend suspend_kept p h
timer_kept p (input.ClearFeature clearable.Power) h = tt
timer_kept p (input.ClearFeature (clearable.Change b)) h = h
timer_kept p input.Configure h = tt
timer_kept p input.Unconfigure h = tt
timer_kept p input.BusReset h = tt
