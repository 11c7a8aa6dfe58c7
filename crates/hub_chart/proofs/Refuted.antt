-- Each mistaken engine says something else than the hub of the bench cases does, and the mistaken rule moves a port of it by a poll.
-- Assumes nothing.
use Prim.Native.Nat.{ℕ}
use native.Mathlib.Omega.{arith}
use mathlib.Core.Path.{refl, ap}
use mathlib.Core.Bool.{true≢false, false≢true}
use Rattle.port.specs.declared.Port.{Port}
use Rattle.port.specs.declared.PortNumber.{PortNumber}
use Rattle.port.specs.declared.LineEvent.TheVariants.{AttachFull}
use Rattle.port.specs.declared.SettableFeature.TheVariants.{Power}
use Rattle.port.specs.declared.Input.{Input}
use Rattle.port.specs.declared.Input.TheVariants as input
use Rattle.port.specs.Input.{stepped_by}
use Rattle.port.specs.Words.{Among, is_not_configured}
use Rattle.chart.specs.Mistakes.{numbers_alone, ports_alone}
use Rattle.ports.specs.Ports.{port_at, with_port}
use Rattle.ports.specs.Sweep.{front, swept}
use Rattle.request.specs.Table.{kind_of}
use Rattle.request.specs.Request.{checked, request_of}
use Rattle.hub.specs.declared.Hub.{Hub}
use Rattle.hub.specs.Hub.{new_fits, hub_of, configured_as, reset_hub}
use Rattle.hub.specs.Call.{Poll, BusReset}
use Rattle.hub.specs.Cases.{set_configuration1, set_power, attach_full}
use Rattle.hub.specs.Requests.{requested}
use Rattle.hub.specs.Checks.{within, has_space, not_silent, fitting}
use Rattle.hub.specs.Step.{served, step}
use Rattle.hub.specs.Valid.{ValidHub}
use Rattle.hub.proofs.Claimed.{hub_claims_lem}
use Rattle.hub_chart.specs.HubChart.{Brings, HubFollows, OnlyInputsMove}
use Rattle.hub_chart.specs.Mistakes.{poll_clears, HubChartMistakesShutOut}

-- new: four ports, three buffers
abbrev bench : Hub
bench = hub_of 4 3 0x32 0x64 0x00

bench_valid : ValidHub bench
unfolding new_fits
bench_valid = hub_claims_lem.new_valid 4 3 0x32 0x64 0x00 refl

abbrev port1 : PortNumber
port1 = record { 0 = 1 }

among : Among 4 port1
among = (omega arith, omega arith)

-- set PORT_POWER is 2: the hub is unconfigured
own_rules : ¬ (HubFollows stepped_by)
unfolding HubFollows port_at step within has_space not_silent fitting served requested request_of checked kind_of
own_rules claim =
    let said = claim bench bench_valid port1 among (input.SetFeature Power) (set_power 1)
    (record { lane = 0; setup = _; room = 64; is = refl; two_lanes = omega arith; eight = refl; space = omega arith; asks = (among, refl) }) in
    omega (arith, said.0)

-- once configured, bus reset moves port 1
numbers_alone_lem : ¬ (HubFollows numbers_alone)
unfolding HubFollows port_at swept front step within has_space not_silent fitting served requested request_of checked kind_of configured_as reset_hub
numbers_alone_lem claim =
    let valid = hub_claims_lem.step_valid bench bench_valid set_configuration1 in
    true≢false (ap (λ (p : Port). is_not_configured p.state) (claim _ valid port1 among input.BusReset BusReset refl).1)

-- an attach is 8: the hub is unconfigured
ports_alone_lem : ¬ (HubFollows ports_alone)
unfolding HubFollows port_at step within has_space not_silent fitting
ports_alone_lem claim = omega (arith, (claim bench bench_valid port1 among (input.Event AttachFull) (attach_full 1) refl).0)

-- a poll brings nothing to any port
poll_brings_nothing : (n : ℕ) (m : PortNumber) (z room : ℕ) (i : Input) → ¬ (Brings n m i (Poll z room))
poll_brings_nothing n m z room (input.Event e) b = false≢true (cc)
poll_brings_nothing n m z room input.Tick b = false≢true (cc)
poll_brings_nothing n m z room (input.SetFeature f) b = false≢true (cc)
poll_brings_nothing n m z room (input.ClearFeature f) b = false≢true (cc)
poll_brings_nothing n m z room input.Configure b = false≢true (cc)
poll_brings_nothing n m z room input.Unconfigure b = false≢true (cc)
poll_brings_nothing n m z room input.BusReset b = false≢true (cc)

-- an attach sets C_PORT_CONNECTION, which the poll clears
poll_clears_lem : ¬ (OnlyInputsMove poll_clears)
unfolding OnlyInputsMove port_at with_port swept front step within has_space not_silent fitting served requested request_of checked kind_of configured_as
poll_clears_lem claim =
    let attached = (step (step (step bench set_configuration1).next (set_power 1)).next (attach_full 1)).next in
    let said = claim attached port1 (Poll 0 64) tt (λ e. false≢true (ap (λ (p : Port). p.changes.connection) e)) in
    poll_brings_nothing 4 port1 0 64 said.0 said.1

pub hub_chart_mistakes_shut_out_lem : HubChartMistakesShutOut
hub_chart_mistakes_shut_out_lem = record { own_rules = own_rules; numbers_alone_lem = numbers_alone_lem; ports_alone_lem = ports_alone_lem; poll_clears_lem = poll_clears_lem }
