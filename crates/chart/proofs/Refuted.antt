-- No chart with one of these cells, and no engine with one of these mistakes, agrees with the rules: what one step gives differs in a number.
-- Assumes nothing.
use Prim.Native.Nat.{ℕ, ◌+◌, ◌*◌}
use mathlib.Core.Path.{◌≡◌, refl, sym, ap, ◌∙◌}
use mathlib.Core.Bool.{false}
use mathlib.Core.List.{List, [], ◌∷◌}
use lib.Dec.{eqb}
use borrow.Author.Tests.{eqb-false}
use Rattle.port.specs.declared.Speed.TheVariants.{Full}
use Rattle.port.specs.declared.PortState.TheVariants.{PoweredOff, Resetting}
use Rattle.port.specs.declared.Port.{Port}
use Rattle.port.specs.declared.LineEvent.TheVariants.{AttachFull}
use Rattle.port.specs.declared.Input.{Input}
use Rattle.port.specs.declared.Input.TheVariants as input
use Rattle.port.specs.Reaction.{Answered}
use Rattle.port.specs.Numbers.{ticks_so_far}
use Rattle.port.specs.Status.{status_bytes}
use Rattle.chart.specs.Chart.{runs_on, read, looked_up}
use Rattle.chart.specs.Engines.{by_rules, EnginesAgree}
use Rattle.chart.specs.Mistakes.{bare, WrongCell, numbers_alone, ports_alone, counts_twice, ChartMistakesShutOut}

-- the number, the ticks and the four status bytes as one number
abbrev weight : List ℕ → ℕ
weight [] = 0
weight (n ∷ ns) = n + 256 * weight ns

abbrev shown : Answered → ℕ
shown a = weight (a.number ∷ ticks_so_far a.port.state ∷ status_bytes a.port)

differ : (x y : Answered) → eqb (shown x) (shown y) ≡ false → ¬ (x ≡ y)
differ x y d e = eqb-false (shown x) (shown y) d (ap shown e)

wrong_step : (engine : Port → Input → Answered) (p : Port) (i : Input) → eqb (shown (engine p i)) (shown (by_rules p i)) ≡ false → ¬ (EnginesAgree engine)
wrong_step engine p i d agree = differ (engine p i) (by_rules p i) d (agree.step p i)

wrong_cell : (p : Port) (i : Input) (cell : ℕ) → eqb (shown (read (runs_on p.state) p i cell)) (shown (by_rules p i)) ≡ false → WrongCell p i cell
unfolding WrongCell looked_up
wrong_cell p i cell d chart says agree =
    differ (read (runs_on p.state) p i cell) (by_rules p i) d (ap (read (runs_on p.state) p i) (sym says) ∙ agree.step p i)

pub chart_mistakes_shut_out_lem : ChartMistakesShutOut
chart_mistakes_shut_out_lem =
    record {
      detach_in_resuming = wrong_cell _ _ _ refl;
      chirp_at_low = wrong_cell _ _ _ refl;
      reset_unreported = wrong_cell _ _ _ refl;
      enable_on_detach = wrong_cell _ _ _ refl;
      refused_moves = wrong_cell _ _ _ refl;
      refused_done = wrong_cell _ _ _ refl;
      reset_at_high = wrong_cell _ _ _ refl;
      unconfigured_done = wrong_cell _ _ _ refl;
      power_with_over_current = wrong_cell _ _ _ refl;
      level_kept = wrong_cell _ _ _ refl;
      other_bit_cleared = wrong_cell _ _ _ refl;
      bits_kept = wrong_cell _ _ _ refl;
      numbers_alone_lem = wrong_step numbers_alone (bare (Resetting Full 3)) input.Tick refl;
      ports_alone_lem = wrong_step ports_alone (bare PoweredOff) (input.Event AttachFull) refl;
      counts_twice_lem = wrong_step counts_twice (bare (Resetting Full 3)) input.Tick refl;
    }
