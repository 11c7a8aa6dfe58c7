-- Concrete runs of the rules with a mistake in what sets C_PORT_ENABLE, at port 1. Assumes nothing.
use Prim.Native.Nat.{ℕ, zero, suc}
use mathlib.Core.Path.{refl, sym}
use mathlib.Core.Bool.{true≢false}
use mathlib.Core.List.{List, [], ◌∷◌, ◌++◌}
use lib.ListN.{replicate}
use Rattle.port.specs.declared.Port.{Port}
use Rattle.port.specs.declared.Input.{Input}
use Rattle.port.specs.Mistakes.{detach, over_current, only, ended_by, also_where, before_c12, unreported}
use Rattle.ports.specs.Ports.{port_at, with_port}
use Rattle.ports.specs.Sweep.{front, swept}
use Rattle.request.specs.Table.{kind_of}
use Rattle.request.specs.Request.{checked, request_of}
use Rattle.hub.specs.Hub.{new_fits, configured_as, ticked_hub}
use Rattle.hub.specs.Call.{Call, Control, Event as Line, Tick}
use Rattle.hub.specs.Requests.{requested}
use Rattle.hub.specs.Checks.{within, has_space, not_silent, fitting}
use Rattle.hub.specs.Step.{served}
use Rattle.runs.specs.History.{Event, History}
use Rattle.runs.specs.Machine.{run_from, run}
use Rattle.runs.specs.ErrorReports.{port_asks, reported_after, is_reported, Shows, AllShow, ErrorReports}
use Rattle.runs.specs.ReportMistakes.{with_events, ReportMistakesShutOut}
use Rattle.runs.proofs.Refuted.{bench, configure}

-- SetPortFeature
abbrev set_feature_lem : ℕ → Call
set_feature_lem feature = Control 0 (0x23 ∷ 0x03 ∷ feature ∷ 0 ∷ 1 ∷ 0 ∷ 0 ∷ 0 ∷ []) 64

-- PORT_POWER, attach full, PORT_RESET, 15 ticks: calls 0 to 18
abbrev enabled : List Call
enabled = configure ∷ set_feature_lem 8 ∷ Line 1 1 ∷ set_feature_lem 4 ∷ replicate 15 Tick

-- GetPortStatus
abbrev status : Call
status = Control 0 (0xA3 ∷ 0x00 ∷ 0 ∷ 0 ∷ 1 ∷ 0 ∷ 4 ∷ 0 ∷ []) 64

-- what call i of a run must show
ShowsAt : ℕ → History → List Event → Type 0
ShowsAt i h [] = Unit {0}
ShowsAt zero h (e ∷ es) = Shows (port_asks e.call) e.answer h
ShowsAt (suc i) h (e ∷ es) = ShowsAt i (e ∷ h) es

shows_at : (i : ℕ) (h : History) (es : List Event) → AllShow h es → ShowsAt i h es
unfolding AllShow ShowsAt
shows_at i h [] a = tt
shows_at zero h (e ∷ es) a = a.0
shows_at (suc i) h (e ∷ es) a = shows_at i (e ∷ h) es a.1

refuted : (rule : Port → Input → Port) (cs : List Call) (i : ℕ) → ¬ (ShowsAt i [] (run (with_events rule) bench cs))
    → ¬ (ErrorReports (with_events rule))
refuted rule cs i n claim = n (shows_at i [] (run (with_events rule) bench cs) (claim bench cs))

pub report_mistakes_shut_out_lem : ReportMistakesShutOut
unfolding bench new_fits run_from ShowsAt front swept port_at with_port kind_of checked request_of configured_as ticked_hub requested within has_space not_silent fitting served port_asks reported_after is_reported
report_mistakes_shut_out_lem =
    record {
      -- unplugged while Enabled: the status shows C_PORT_ENABLE
      before_C_12 = refuted before_c12 (enabled ++ Line 2 1 ∷ status ∷ []) 20 (λ s. true≢false (s refl));
      by_detach = refuted (also_where (ended_by (only detach))) (enabled ++ Line 2 1 ∷ status ∷ []) 20 (λ s. true≢false (s refl));
      -- PORT_SUSPEND, wake, over-current in Resuming
      by_over_current =
          refuted (also_where (ended_by (only over_current))) (enabled ++ set_feature_lem 2 ∷ Line 4 1 ∷ Line 6 1 ∷ status ∷ []) 22
          (λ s. true≢false (s refl));
      -- a port error, and the status doesn't show it
      never = refuted unreported (enabled ++ Line 5 1 ∷ status ∷ []) 20 (λ s. true≢false (sym (s refl)));
    }
