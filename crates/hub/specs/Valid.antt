-- Which hubs are valid: those whose written form a call takes. A reader must believe: document 01's list and no more.
use Rattle.std.specs.Prelude.{ℕ, ◌≤◌, ◌<◌, ◌≡◌, true, not, length, get_or}
use Rattle.port.specs.declared.Port.{Port}
use Rattle.port.specs.Reaction.{new_port}
use Rattle.port.specs.Words.{is_not_configured, TimerBelowEnd}
use Rattle.translator.specs.Valid.{ValidTranslator}
use Rattle.hub.specs.declared.Hub.{Hub}
use Rattle.hub.specs.Hub.{new_fits}

-- the port with this index, from 0 on
abbrev pub port_indexed : Hub → ℕ → Port
port_indexed h i = get_or h.ports i new_port

pub record ValidHub (h : Hub) : Type 0 where
  -- the number ranges of document 01
  pub numbers : new_fits h.identity.ports h.translator.count h.identity.powergood h.identity.current h.identity.removable ≡ true
  pub seven : length h.ports ≡ 7
  -- timers below their ends
  pub timers : (i : ℕ) → TimerBelowEnd (port_indexed h i).state
  -- those above N are new ports
  pub spare : (i : ℕ) → h.identity.ports ≤ i → port_indexed h i ≡ new_port
  -- every port Not Configured if the hub is unconfigured, else none
  pub configuration : (i : ℕ) → i < h.identity.ports → is_not_configured (port_indexed h i).state ≡ not h.configured
  pub translator : ValidTranslator h.translator
