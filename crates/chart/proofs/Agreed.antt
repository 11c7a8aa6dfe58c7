-- The engines agree where they agree at all cells of the chart, a test that computes.
-- Assumes nothing.
use Prim.Native.Nat.{ℕ, ◌+◌}
use mathlib.Core.Path.{◌≡◌, refl, ap, ◌∙◌}
use mathlib.Core.Bool.{Bool, cond}
use mathlib.Core.List.{List, [], ◌∷◌}
use Rattle.port.specs.declared.PortState.{PortState}
use Rattle.port.specs.declared.PortState.TheVariants.{NotConfigured, PoweredOff, Disconnected, Disabled, Resetting, Enabled, Suspended, Resuming}
use Rattle.port.specs.declared.ChangeBit.TheVariants as change
use Rattle.port.specs.declared.Changes.{Changes}
use Rattle.port.specs.declared.Port.{Port}
use Rattle.port.specs.declared.Input.{Input}
use Rattle.port.specs.declared.Input.TheVariants as input
use Rattle.port.specs.Reaction.{Reaction, done, ruled, reacted, Answered, done_with}
use Rattle.port.specs.Tick.{tick}
use Rattle.port.proofs.States.{by_state}
use Rattle.chart.specs.Chart.{runs_on, looked_at, looked_up}
use Rattle.chart.specs.Engines.{by_rules, run, EnginesAgree}
use Rattle.chart.proofs.Whole.{whole, everywhere}

-- the rule of the tick, where r says whether the timer runs on
abbrev tick_at : Bool → Bool → PortState → Reaction
tick_at r l NotConfigured = done NotConfigured l []
tick_at r l PoweredOff = done PoweredOff l []
tick_at r l Disconnected = done Disconnected l []
tick_at r l (Disabled s) = done (Disabled s) l []
tick_at r l (Resetting s t) = cond r (done (Resetting s (t + 1)) l []) (done (Enabled s) l (change.Reset ∷ []))
tick_at r l (Enabled s) = done (Enabled s) l []
tick_at r l (Suspended s) = done (Suspended s) l []
tick_at r l (Resuming s t) = cond r (done (Resuming s (t + 1)) l []) (done (Enabled s) l (change.Suspend ∷ []))

tick-at : (l : Bool) (s : PortState) → tick_at (runs_on s) l s ≡ tick l s
tick-at l = by_state (λ s. tick_at (runs_on s) l s ≡ tick l s) refl refl refl (λ v. refl) (λ v t. refl) (λ v. refl) (λ v. refl) (λ v t. refl)

-- the first engine, where r says so
abbrev pub rules_at : Bool → Port → Input → Answered
rules_at r p (input.Event e) = by_rules p (input.Event e)
rules_at r p input.Tick = done_with (ruled (tick_at r) p).port
rules_at r p (input.SetFeature f) = by_rules p (input.SetFeature f)
rules_at r p (input.ClearFeature f) = by_rules p (input.ClearFeature f)
rules_at r p input.Configure = by_rules p input.Configure
rules_at r p input.Unconfigure = by_rules p input.Unconfigure
rules_at r p input.BusReset = by_rules p input.BusReset

rules-at : (p : Port) (i : Input) → rules_at (runs_on p.state) p i ≡ by_rules p i
rules-at p (input.Event e) = refl
rules-at p input.Tick = ap (λ (x : Reaction). done_with (reacted p x).port) (tick-at p.overcurrent p.state)
rules-at p (input.SetFeature f) = refl
rules-at p (input.ClearFeature f) = refl
rules-at p input.Configure = refl
rules-at p input.Unconfigure = refl
rules-at p input.BusReset = refl

abbrev pub port_of : Changes → Bool → PortState → Port
port_of c l s = record { state = s; overcurrent = l; changes = c }

-- the test of a whole chart: what is read from each cell is what the rule says, whatever the ticks so far and the change bits
abbrev pub Matches : List ℕ → Type 0
Matches chart =
    (c : Changes) (t : ℕ) → whole (λ r l s i. looked_at chart r (port_of c l s) i) t ≡ whole (λ r l s i. rules_at r (port_of c l s) i) t

module _ (chart : List ℕ) (matches : Matches chart) where
  step : (p : Port) (i : Input) → looked_up chart p i ≡ by_rules p i
  unfolding looked_up
  step p i =
      everywhere (λ r l s i. looked_at chart r (port_of p.changes l s) i) (λ r l s i. rules_at r (port_of p.changes l s) i) (matches p.changes)
      (runs_on p.state) p.overcurrent p.state i
      ∙ rules-at p i

  runs : (p : Port) (is : List Input) → run (looked_up chart) p is ≡ run by_rules p is
  runs p [] = refl
  runs p (i ∷ is) =
      ap (λ (x : Answered). x ∷ run (looked_up chart) x.port is) (step p i)
      ∙ ap (λ (l : List Answered). by_rules p i ∷ l) (runs (by_rules p i).port is)

  pub engines_agree : EnginesAgree (looked_up chart)
  engines_agree = record { step = step; runs = runs }
