-- Rules in which one port disturbs another or the translator, or shows in an answer where it must not, or doesn't where it must; and that the
-- claim shuts each out: so it is not empty. A reader must believe: each hub below follows the rules but for line events, GetPortStatus,
-- SetPortFeature or the poll (crate `runs`, specs/Altered), and its comment says how.
use Rattle.std.specs.Prelude.{false, cond, [], ◌∷◌, map, eqb}
use Rattle.port.specs.declared.ChangeBit.TheVariants.{Connection}
use Rattle.port.specs.declared.Port.{Port}
use Rattle.port.specs.declared.PortNumber.{PortNumber}
use Rattle.port.specs.declared.PortState.{PortState}
use Rattle.port.specs.declared.PortState.TheVariants.{NotConfigured, PoweredOff, Disconnected, Disabled, Resetting, Enabled, Suspended, Resuming}
use Rattle.port.specs.declared.LineEvent.{LineEvent}
use Rattle.port.specs.declared.LineEvent.TheVariants.{Detach, OverCurrentOn}
use Rattle.port.specs.declared.SettableFeature.{SettableFeature}
use Rattle.port.specs.declared.SettableFeature.TheVariants.{Suspend, Reset, Power}
use Rattle.port.specs.Reaction.{new_port, mark}
use Rattle.port.specs.Features.{feature_set}
use Rattle.port.specs.Status.{port_power, has_change}
use Rattle.ports.specs.declared.Sweep.TheVariants.{Configure}
use Rattle.ports.specs.Ports.{port_at}
use Rattle.ports.specs.Bitmap.{bitmap_of}
use Rattle.ports.specs.Sweep.{swept}
use Rattle.translator.specs.Translator.{emptied}
use Rattle.numbers.specs.Written.{event_number}
use Rattle.hub.specs.declared.Hub.{Hub}
use Rattle.hub.specs.Hub.{with_ports, with_port_at, with_translator}
use Rattle.hub.specs.Call.{Outcome, done, gives, gives_nothing}
use Rattle.hub.specs.Rules.{polled, event_at}
use Rattle.runs.specs.Altered.{PortRules, own_ports, with_event, with_status, with_set, with_poll, altered_ports}
use Rattle.isolation.specs.Isolation.{SameBut, SameAnswers, AtMatchingPoints}

-- an event of this kind does f to the hub besides
abbrev pub besides : LineEvent → (Hub → Hub) → Hub → LineEvent → PortNumber → Outcome
besides k f h e m =
    let o = event_at h e m in
    cond (eqb (event_number e) (event_number k)) (record { next = f o.next; answer = o.answer }) o

-- an over-current on one port powers all off
abbrev pub powers_all_off : PortRules
powers_all_off = with_event (besides OverCurrentOn (λ h. with_ports h (swept Configure h.identity.ports h.ports)))

-- a detach empties the translator
abbrev pub empties_translator : PortRules
empties_translator = with_event (besides Detach (λ h. with_translator h (emptied h.translator)))

-- an over-current on one port leaves the hub unconfigured
abbrev pub stops_hub : PortRules
stops_hub = with_event (besides OverCurrentOn (λ h. record { identity = h.identity; configured = false; ports = h.ports; translator = h.translator }))

-- ---- a port's reset takes every other port's timer back

abbrev pub timed_anew : PortState → PortState
timed_anew NotConfigured = NotConfigured
timed_anew PoweredOff = PoweredOff
timed_anew Disconnected = Disconnected
timed_anew (Disabled s) = Disabled s
timed_anew (Resetting s t) = Resetting s 0
timed_anew (Enabled s) = Enabled s
timed_anew (Suspended s) = Suspended s
timed_anew (Resuming s t) = Resuming s 0

abbrev pub timers_back : Hub → Hub
timers_back h = with_ports h (map (λ p. record { state = timed_anew p.state; overcurrent = p.overcurrent; changes = p.changes }) h.ports)

abbrev pub back_at : SettableFeature → Hub → Hub
back_at Suspend h = h
back_at Reset h = timers_back h
back_at Power h = h

abbrev pub takes_timers_back : PortRules
takes_timers_back = with_set (λ h m f. done (with_port_at (back_at f h) m (feature_set (port_at h.ports m) f)))

-- ---- those that leave the hub as the rules do; only an answer tells

abbrev pub port1 : PortNumber
port1 = record { 0 = 1 }

-- GetPortStatus gives port 1's status, whichever port it names
abbrev pub reads_first : PortRules
reads_first = with_status (λ h m. own_ports.status h port1)

-- a poll that has something to give gives every bit
abbrev pub polls_all : PortRules
polls_all = with_poll (λ h. cond (eqb (bitmap_of h.identity.ports h.ports) 0) (gives_nothing h) (gives h (0xFE ∷ [])))

-- a poll that tells of port 1 tells of no other
abbrev pub hides_others : PortRules
hides_others = with_poll (λ h. cond (has_change (port_at h.ports port1).changes) (gives h (0x02 ∷ [])) (polled h))

-- a poll leaves port 1 out
abbrev pub hides_first : PortRules
hides_first = with_poll (λ h. record { next = h; answer = (polled (with_port_at h port1 new_port)).answer })

-- a poll tells of a powered port too, change bit or not
abbrev pub told_powered : Port → Port
told_powered p = cond (port_power p.state) (record { state = p.state; overcurrent = p.overcurrent; changes = mark Connection p.changes }) p

abbrev pub tells_powered : PortRules
tells_powered = with_poll (λ h. record { next = h; answer = (polled (with_ports h (map told_powered h.ports))).answer })

-- the answers of the hub with these rules
abbrev pub SameAnswersOf : PortRules → Type 0
SameAnswersOf q = AtMatchingPoints (altered_ports q) (SameAnswers (altered_ports q) (λ h. h))

-- each breaks the half of the claim that is to shut it out
pub record DisturbancesShutOut : Type 0 where
  pub powers_all_off_lem : ¬ (AtMatchingPoints (altered_ports powers_all_off) SameBut)
  pub empties_translator_lem : ¬ (AtMatchingPoints (altered_ports empties_translator) SameBut)
  pub stops_hub_lem : ¬ (AtMatchingPoints (altered_ports stops_hub) SameBut)
  pub takes_timers_back_lem : ¬ (AtMatchingPoints (altered_ports takes_timers_back) SameBut)
  pub reads_first_lem : ¬ (SameAnswersOf reads_first)
  pub polls_all_lem : ¬ (SameAnswersOf polls_all)
  pub hides_others_lem : ¬ (SameAnswersOf hides_others)
  pub hides_first_lem : ¬ (SameAnswersOf hides_first)
  pub tells_powered_lem : ¬ (SameAnswersOf tells_powered)
