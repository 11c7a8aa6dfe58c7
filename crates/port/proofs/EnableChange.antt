-- C_PORT_ENABLE is newly set exactly by a port error on an Enabled port.
-- Assumes nothing.
use Prim.Native.Nat.{ℕ, ◌+◌}
use mathlib.Core.Path.{◌≡◌, refl, ap, ◌∙◌, sym}
use mathlib.Core.Bool.{Bool, true, false, cond, not, true≢false}
use mathlib.Core.List.{[], ◌∷◌}
use mathlib.Core.Logic.{◌↔◌}
use lib.Dec.{ltb}
use borrow.Author.Tests.{not-true}
use Rattle.port.specs.declared.Speed.{Speed}
use Rattle.port.specs.declared.Speed.TheVariants.{Low, Full, High}
use Rattle.port.specs.declared.PortState.{PortState}
use Rattle.port.specs.declared.PortState.TheVariants.{NotConfigured, PoweredOff, Disconnected, Disabled, Resetting, Enabled, Suspended, Resuming}
use Rattle.port.specs.declared.ChangeBit.TheVariants as bit
use Rattle.port.specs.declared.Changes.{Changes}
use Rattle.port.specs.declared.Port.{Port}
use Rattle.port.specs.declared.LineEvent.{LineEvent}
use Rattle.port.specs.declared.LineEvent.TheVariants.{AttachLow, AttachFull, Detach, Chirp, Wake, PortError, OverCurrentOn, OverCurrentOff}
use Rattle.port.specs.declared.SettableFeature.{SettableFeature}
use Rattle.port.specs.declared.SettableFeature.TheVariants as settable
use Rattle.port.specs.declared.ClearableFeature.TheVariants as clearable
use Rattle.port.specs.Reaction.{Reaction, refused, done, marked, reacted, ruled}
use Rattle.port.specs.Events.{attach, detach, chirp, wake, port_error, over_current_on, over_current_off, event_rule}
use Rattle.port.specs.Tick as ticking
use Rattle.port.specs.Features.{set_power, set_reset, set_suspend, clear_enable, clear_suspend, set_rule}
use Rattle.port.specs.declared.Input.{Input}
use Rattle.port.specs.declared.Input.TheVariants as input
use Rattle.port.specs.Input.{after}
use Rattle.port.specs.Claims.{ErrorWhileEnabled, EnableChange}
use Rattle.port.proofs.States.{by_state, by_bool, row, each}

-- C_PORT_ENABLE after a reaction
abbrev bit_after : Changes → Reaction → Bool
bit_after c refused = c.enable
bit_after c (done s l bs) = (marked bs c).enable

bit-after : (p : Port) (r : Reaction) → (reacted p r).port.changes.enable ≡ bit_after p.changes r
bit-after p refused = refl
bit-after p (done s l bs) = refl

never : {X : Type 0} → ◌≡◌ {A = Bool} false true → X
never h = absurd (true≢false (sym h))

-- C_PORT_ENABLE is kept
abbrev Quiet : (Bool → PortState → Reaction) → Type 0
Quiet rule = (c : Changes) (l : Bool) (s : PortState) → bit_after c (rule l s) ≡ c.enable

-- where all rows compute
still : (rule : Bool → PortState → Reaction) (c : Changes) (l : Bool)
    → ((v : Speed) (t : ℕ) → row (λ s. bit_after c (rule l s)) v t ≡ row (λ s. c.enable) v t) → (s : PortState) → bit_after c (rule l s) ≡ c.enable
still rule c l = each (λ s. bit_after c (rule l s)) (λ s. c.enable)

chirp_speed : (c : Changes) (l : Bool) (v : Speed) (t : ℕ) → bit_after c (chirp l (Resetting v t)) ≡ c.enable
chirp_speed c l Low t = refl
chirp_speed c l Full t = refl
chirp_speed c l High t = refl

abbrev pub is_error : LineEvent → Bool
is_error AttachLow = false
is_error AttachFull = false
is_error Detach = false
is_error Chirp = false
is_error Wake = false
is_error PortError = true
is_error OverCurrentOn = false
is_error OverCurrentOff = false

event_quiet : (e : LineEvent) → is_error e ≡ false → Quiet (event_rule e)
event_quiet AttachLow n c l = still (attach Low) c l (λ v t. refl)
event_quiet AttachFull n c l = still (attach Full) c l (λ v t. refl)
event_quiet Detach n c l = still detach c l (λ v t. refl)
event_quiet Chirp n c l = by_state (λ s. bit_after c (chirp l s) ≡ c.enable) refl refl refl (λ v. refl) (chirp_speed c l) (λ v. refl) (λ v. refl) (λ v t. refl)
event_quiet Wake n c l = still wake c l (λ v t. refl)
event_quiet PortError n c l = never (sym n)
event_quiet OverCurrentOn n c true = still over_current_on c true (λ v t. refl)
event_quiet OverCurrentOn n c false = still over_current_on c false (λ v t. refl)
event_quiet OverCurrentOff n c true = still over_current_off c true (λ v t. refl)
event_quiet OverCurrentOff n c false = still over_current_off c false (λ v t. refl)

tick_quiet : Quiet ticking.tick
tick_quiet c l =
    by_state (λ s. bit_after c (ticking.tick l s) ≡ c.enable) refl refl refl (λ v. refl)
    (λ v t. by_bool (λ b. bit_after c (cond b (done (Resetting v (t + 1)) l []) (done (Enabled v) l (bit.Reset ∷ []))) ≡ c.enable) refl refl (ltb t 14))
    (λ v. refl) (λ v. refl)
    (λ v t. by_bool (λ b. bit_after c (cond b (done (Resuming v (t + 1)) l []) (done (Enabled v) l (bit.Suspend ∷ []))) ≡ c.enable) refl refl (ltb t 21))

set_quiet : (f : SettableFeature) → Quiet (set_rule f)
set_quiet settable.Suspend c l = still set_suspend c l (λ v t. refl)
set_quiet settable.Reset c l = still set_reset c l (λ v t. refl)
set_quiet settable.Power c true = still set_power c true (λ v t. refl)
set_quiet settable.Power c false = still set_power c false (λ v t. refl)

enable_quiet : Quiet clear_enable
enable_quiet c l = still clear_enable c l (λ v t. refl)

suspend_quiet : Quiet clear_suspend
suspend_quiet c l = still clear_suspend c l (λ v t. refl)

-- ---- an input that is neither a port error nor clears C_PORT_ENABLE keeps it

abbrev pub keeps : Input → Bool
keeps (input.Event e) = not (is_error e)
keeps input.Tick = true
keeps (input.SetFeature f) = true
keeps (input.ClearFeature clearable.Enable) = true
keeps (input.ClearFeature clearable.Suspend) = true
keeps (input.ClearFeature clearable.Power) = true
keeps (input.ClearFeature (clearable.Change bit.Connection)) = true
keeps (input.ClearFeature (clearable.Change bit.Enable)) = false
keeps (input.ClearFeature (clearable.Change bit.Suspend)) = true
keeps (input.ClearFeature (clearable.Change bit.OverCurrent)) = true
keeps (input.ClearFeature (clearable.Change bit.Reset)) = true
keeps input.Configure = true
keeps input.Unconfigure = true
keeps input.BusReset = false

at-port : (rule : Bool → PortState → Reaction) → Quiet rule → (p : Port) → (ruled rule p).port.changes.enable ≡ p.changes.enable
at-port rule q p = bit-after p (rule p.overcurrent p.state) ∙ q p.changes p.overcurrent p.state

pub enable_kept : (p : Port) (i : Input) → keeps i ≡ true → (after p i).changes.enable ≡ p.changes.enable
enable_kept p (input.Event e) k = at-port (event_rule e) (event_quiet e (not-true (is_error e) k)) p
enable_kept p input.Tick k = at-port ticking.tick tick_quiet p
enable_kept p (input.SetFeature f) k = at-port (set_rule f) (set_quiet f) p
enable_kept p (input.ClearFeature clearable.Enable) k = at-port clear_enable enable_quiet p
enable_kept p (input.ClearFeature clearable.Suspend) k = at-port clear_suspend suspend_quiet p
enable_kept p (input.ClearFeature clearable.Power) k = refl
enable_kept p (input.ClearFeature (clearable.Change bit.Connection)) k = refl
enable_kept p (input.ClearFeature (clearable.Change bit.Enable)) k = never k
enable_kept p (input.ClearFeature (clearable.Change bit.Suspend)) k = refl
enable_kept p (input.ClearFeature (clearable.Change bit.OverCurrent)) k = refl
enable_kept p (input.ClearFeature (clearable.Change bit.Reset)) k = refl
enable_kept p input.Configure k = refl
enable_kept p input.Unconfigure k = refl
enable_kept p input.BusReset k = never k

-- ---- a port error

abbrev is_enabled : PortState → Bool
is_enabled NotConfigured = false
is_enabled PoweredOff = false
is_enabled Disconnected = false
is_enabled (Disabled v) = false
is_enabled (Resetting v t) = false
is_enabled (Enabled v) = true
is_enabled (Suspended v) = false
is_enabled (Resuming v t) = false

abbrev Errs : Port → PortState → Type 0
Errs p s = (bit_after p.changes (port_error p.overcurrent s) ≡ true) ↔ ((v : Speed) × (s ≡ Enabled v))

errs : (p : Port) → p.changes.enable ≡ false → (s : PortState) → Errs p s
errs p z =
    by_state (Errs p) (off refl) (off refl) (off refl) (λ v. off refl) (λ v t. off refl) (λ v. (λ h. (v, refl), λ h. refl)) (λ v. off refl) (λ v t. off refl)
  where
    off : {s : PortState} → is_enabled s ≡ false → (p.changes.enable ≡ true) ↔ ((v : Speed) × (s ≡ Enabled v))
    off n = (λ h. never (sym z ∙ h), λ h. never (sym n ∙ ap is_enabled h.1))

by_error : (p : Port) → p.changes.enable ≡ false → ((after p (input.Event PortError)).changes.enable ≡ true) ↔ ErrorWhileEnabled p (input.Event PortError)
by_error p z =
    let r = port_error p.overcurrent p.state in
    let w = errs p z p.state in (
      λ h. let x = w.0 (sym (bit-after p r) ∙ h) in record { port_error_lem = refl; speed = x.0; enabled = x.1 },
      λ h. bit-after p r ∙ w.1 (h.speed, h.enabled),
    )

abbrev pub is_port_error : Input → Bool
is_port_error (input.Event e) = is_error e
is_port_error input.Tick = false
is_port_error (input.SetFeature f) = false
is_port_error (input.ClearFeature f) = false
is_port_error input.Configure = false
is_port_error input.Unconfigure = false
is_port_error input.BusReset = false

pub enable_change : EnableChange after
enable_change p i z = go i
  where
    unset : (i : Input) → is_port_error i ≡ false → (after p i).changes.enable ≡ false → ((after p i).changes.enable ≡ true) ↔ ErrorWhileEnabled p i
    unset i n u = (λ h. never (sym u ∙ h), λ h. never (sym n ∙ ap is_port_error h.port_error_lem))

    kept : (i : Input) → is_port_error i ≡ false → keeps i ≡ true → ((after p i).changes.enable ≡ true) ↔ ErrorWhileEnabled p i
    kept i n k = unset i n (enable_kept p i k ∙ z)

    go : (i : Input) → ((after p i).changes.enable ≡ true) ↔ ErrorWhileEnabled p i
    go (input.Event AttachLow) = kept (input.Event AttachLow) refl refl
    go (input.Event AttachFull) = kept (input.Event AttachFull) refl refl
    go (input.Event Detach) = kept (input.Event Detach) refl refl
    go (input.Event Chirp) = kept (input.Event Chirp) refl refl
    go (input.Event Wake) = kept (input.Event Wake) refl refl
    go (input.Event PortError) = by_error p z
    go (input.Event OverCurrentOn) = kept (input.Event OverCurrentOn) refl refl
    go (input.Event OverCurrentOff) = kept (input.Event OverCurrentOff) refl refl
    go input.Tick = kept input.Tick refl refl
    go (input.SetFeature f) = kept (input.SetFeature f) refl refl
    go (input.ClearFeature clearable.Enable) = kept (input.ClearFeature clearable.Enable) refl refl
    go (input.ClearFeature clearable.Suspend) = kept (input.ClearFeature clearable.Suspend) refl refl
    go (input.ClearFeature clearable.Power) = kept (input.ClearFeature clearable.Power) refl refl
    go (input.ClearFeature (clearable.Change bit.Connection)) = kept (input.ClearFeature (clearable.Change bit.Connection)) refl refl
    go (input.ClearFeature (clearable.Change bit.Enable)) = unset (input.ClearFeature (clearable.Change bit.Enable)) refl refl
    go (input.ClearFeature (clearable.Change bit.Suspend)) = kept (input.ClearFeature (clearable.Change bit.Suspend)) refl refl
    go (input.ClearFeature (clearable.Change bit.OverCurrent)) = kept (input.ClearFeature (clearable.Change bit.OverCurrent)) refl refl
    go (input.ClearFeature (clearable.Change bit.Reset)) = kept (input.ClearFeature (clearable.Change bit.Reset)) refl refl
    go input.Configure = kept input.Configure refl refl
    go input.Unconfigure = kept input.Unconfigure refl refl
    go input.BusReset = unset input.BusReset refl refl
