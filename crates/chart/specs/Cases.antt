-- Inputs to a new port, with what is answered and the status bytes at the end: document 01's P3 to P10 and cases of C-12, of the first engine, and so
-- of every engine that agrees with it. A reader can check each by hand.
use Rattle.std.specs.Prelude.{ℕ, ◌≡◌, List, [], ◌∷◌, ◌++◌, map, replicate}
use Rattle.port.specs.declared.Port.{Port}
use Rattle.port.specs.declared.LineEvent.TheVariants.{AttachLow, AttachFull, Detach, Chirp, Wake, PortError, OverCurrentOn, OverCurrentOff}
use Rattle.port.specs.declared.ChangeBit.TheVariants as change
use Rattle.port.specs.declared.SettableFeature.TheVariants as settable
use Rattle.port.specs.declared.ClearableFeature.TheVariants as clearable
use Rattle.port.specs.declared.Input.{Input}
use Rattle.port.specs.declared.Input.TheVariants.{Event, Tick, SetFeature, ClearFeature, Configure, Unconfigure, BusReset}
use Rattle.port.specs.Reaction.{Answered, new_port}
use Rattle.port.specs.Status.{status_bytes}
use Rattle.chart.specs.Engines.{by_rules, run}

-- the numbers that are answered
abbrev pub numbers : List Input → List ℕ
numbers is = map (λ (a : Answered). a.number) (run by_rules new_port is)

-- the port after all of them
abbrev pub reached : Port → List Input → Port
reached p [] = p
reached p (i ∷ is) = reached (by_rules p i).port is

-- the four bytes of GetPortStatus at the end
abbrev pub status : List Input → List ℕ
status is = status_bytes (reached new_port is)

abbrev pub ticks : ℕ → List Input
ticks n = replicate n Tick

-- powered; with a full-speed device; reset; Enabled; Suspended
abbrev pub powered : List Input
powered = Configure ∷ SetFeature settable.Power ∷ []

abbrev pub attached : List Input
attached = powered ++ (Event AttachFull ∷ [])

abbrev pub resetting : List Input
resetting = attached ++ (SetFeature settable.Reset ∷ [])

abbrev pub enabled : List Input
enabled = resetting ++ ticks 15

abbrev pub suspended : List Input
suspended = enabled ++ (SetFeature settable.Suspend ∷ [])

pub record EngineCases : Type 0 where
  pub P3 : status powered ≡ 0x00 ∷ 0x01 ∷ 0x00 ∷ 0x00 ∷ []
  pub P4 : status attached ≡ 0x01 ∷ 0x01 ∷ 0x01 ∷ 0x00 ∷ []
  pub P5 : status (powered ++ (Event AttachLow ∷ [])) ≡ 0x01 ∷ 0x03 ∷ 0x01 ∷ 0x00 ∷ []
  pub P6 : status (resetting ++ ticks 14) ≡ 0x11 ∷ 0x01 ∷ 0x01 ∷ 0x00 ∷ []
  pub P7 : status enabled ≡ 0x03 ∷ 0x01 ∷ 0x11 ∷ 0x00 ∷ []
  -- chirp first, and before the last tick
  pub P8 : status (resetting ++ (Event Chirp ∷ ticks 15)) ≡ 0x03 ∷ 0x05 ∷ 0x11 ∷ 0x00 ∷ []
  pub P8-late : status (resetting ++ (ticks 14 ++ (Event Chirp ∷ Tick ∷ []))) ≡ 0x03 ∷ 0x05 ∷ 0x11 ∷ 0x00 ∷ []
  -- as C-12 has it
  pub P9 : status (enabled ++ (Event OverCurrentOn ∷ [])) ≡ 0x08 ∷ 0x00 ∷ 0x19 ∷ 0x00 ∷ []
  pub P10 : status suspended ≡ 0x07 ∷ 0x01 ∷ 0x11 ∷ 0x00 ∷ []
  -- C-12: unplugged while Enabled; a port error
  pub unplugged : status (enabled ++ (Event Detach ∷ [])) ≡ 0x00 ∷ 0x01 ∷ 0x11 ∷ 0x00 ∷ []
  pub error : status (enabled ++ (Event PortError ∷ [])) ≡ 0x01 ∷ 0x01 ∷ 0x13 ∷ 0x00 ∷ []
  -- unconfigured: an event is 8, a port request 2, a tick 0
  pub unconfigured : numbers (Event AttachFull ∷ SetFeature settable.Power ∷ ClearFeature clearable.Power ∷ Tick ∷ []) ≡ 8 ∷ 2 ∷ 2 ∷ 0 ∷ []
  -- a second attach, and a detach while the port resets, are 8; so is a second chirp
  pub refused : numbers (attached ++ (Event AttachFull ∷ SetFeature settable.Reset ∷ Event Detach ∷ Event Chirp ∷ Event Chirp ∷ []))
      ≡ 0 ∷ 0 ∷ 0 ∷ 8 ∷ 0 ∷ 8 ∷ 0 ∷ 8 ∷ []
  -- a second set PORT_RESET has no effect: Enabled at the 15th tick after the first
  pub second_reset : status (resetting ++ (ticks 10 ++ (SetFeature settable.Reset ∷ ticks 5))) ≡ 0x03 ∷ 0x01 ∷ 0x11 ∷ 0x00 ∷ []
  -- a resume ends at the 22nd tick; a reset within it starts at 0
  pub resumed : status (suspended ++ (Event Wake ∷ ticks 22)) ≡ 0x03 ∷ 0x01 ∷ 0x15 ∷ 0x00 ∷ []
  pub resuming : status (suspended ++ (ClearFeature clearable.Suspend ∷ ticks 21)) ≡ 0x07 ∷ 0x01 ∷ 0x11 ∷ 0x00 ∷ []
  pub reset_within : status (suspended ++ (Event Wake ∷ ticks 14 ++ (SetFeature settable.Reset ∷ ticks 14))) ≡ 0x11 ∷ 0x01 ∷ 0x11 ∷ 0x00 ∷ []
  -- power is not to be had while over-current holds; its end is reported
  pub no_power : status (powered ++ (Event OverCurrentOn ∷ SetFeature settable.Power ∷ [])) ≡ 0x08 ∷ 0x00 ∷ 0x08 ∷ 0x00 ∷ []
  pub power_again :
      status (powered ++ (Event OverCurrentOn ∷ ClearFeature (clearable.Change change.OverCurrent) ∷ Event OverCurrentOff ∷ SetFeature settable.Power ∷ []))
      ≡ 0x00 ∷ 0x01 ∷ 0x08 ∷ 0x00 ∷ []
  -- SetConfiguration 0 keeps change bits, a bus reset doesn't
  pub configured_anew : status (enabled ++ (Unconfigure ∷ Configure ∷ [])) ≡ 0x00 ∷ 0x00 ∷ 0x11 ∷ 0x00 ∷ []
  pub bus_reset_lem : status (enabled ++ (BusReset ∷ [])) ≡ 0x00 ∷ 0x00 ∷ 0x00 ∷ 0x00 ∷ []
