-- The hub's state. A reader must believe: what a hub is made from, what a new one is, and what each rule changes of it.
use Rattle.std.specs.Prelude.{ℕ, ◌+◌, ◌^◌, ◌%◌, Bool, true, false, cond, ◌&&◌, List, eqb, leb, ltb, Result, Ok, Err}
use Rattle.port.specs.declared.Port.{Port}
use Rattle.port.specs.declared.PortNumber.{PortNumber}
use Rattle.ports.specs.declared.Sweep.{Sweep}
use Rattle.ports.specs.declared.Sweep.TheVariants as sweep
use Rattle.ports.specs.Ports.{new_ports, with_port}
use Rattle.ports.specs.Sweep.{swept}
use Rattle.translator.specs.declared.Translator.{Translator}
use Rattle.translator.specs.Translator.{new_translator, emptied}
use Rattle.hub.specs.declared.Hub.{Hub}
use Rattle.hub.specs.declared.Refusal.{Refusal}
use Rattle.hub.specs.declared.Refusal.TheVariants.{Outside}

-- A new hub is made from N, B, power-good time, hub current (both 0 to 255) and a removable byte whose bit 0 and bits above N are zero.
-- N ports, 1 to 7; B translator buffers, 2 to 4
unfoldable pub new_fits : ℕ → ℕ → ℕ → ℕ → ℕ → Bool
new_fits n b g c r =
    ((leb 1 n && leb n 7) && (leb 2 b && leb b 4))
    && ((ltb g 256 && ltb c 256) && (eqb (r % 2) 0 && ltb r (2 ^ (n + 1))))

-- A new hub is unconfigured, with no change bits and empty buffers.
abbrev pub hub_of : ℕ → ℕ → ℕ → ℕ → ℕ → Hub
hub_of n b g c r =
    record {
      identity = record { ports = n; powergood = g; current = c; removable = r };
      configured = false;
      ports = new_ports;
      translator = new_translator b;
    }

-- the hub; bad numbers give no hub and what is answered as 6 (Checks.refusal_number)
unfoldable pub new_hub : ℕ → ℕ → ℕ → ℕ → ℕ → Result Hub Refusal
new_hub n b g c r = cond (new_fits n b g c r) (Ok (hub_of n b g c r)) (Err Outside)

-- ---- the hub with a part anew

abbrev pub with_ports : Hub → List Port → Hub
with_ports h ps = record { identity = h.identity; configured = h.configured; ports = ps; translator = h.translator }

abbrev pub with_translator : Hub → Translator → Hub
with_translator h t = record { identity = h.identity; configured = h.configured; ports = h.ports; translator = t }

-- port n anew
abbrev pub with_port_at : Hub → PortNumber → Port → Hub
with_port_at h n p = with_ports h (with_port h.ports n p)

abbrev pub configuration_sweep : Bool → Sweep
configuration_sweep true = sweep.Configure
configuration_sweep false = sweep.Unconfigure

-- SetConfiguration 0 puts every port in Not Configured, 1 in Powered-off, whatever was set before; both keep change bits and empty the
-- translator. Value 0 also drops over-current levels without a change bit; the front end reports them again.
unfoldable pub configured_as : Bool → Hub → Hub
configured_as on h =
    record {
      identity = h.identity;
      configured = on;
      ports = swept (configuration_sweep on) h.identity.ports h.ports;
      translator = emptied h.translator;
    }

-- Bus reset gives the new hub's state again, done in every state.
unfoldable pub reset_hub : Hub → Hub
reset_hub h = record { identity = h.identity; configured = false; ports = new_ports; translator = emptied h.translator }

-- tick (1 ms, all ports). A tick on an unconfigured hub does nothing.
unfoldable pub ticked_hub : Hub → Hub
ticked_hub h = cond h.configured (with_ports h (swept sweep.Tick h.identity.ports h.ports)) h
