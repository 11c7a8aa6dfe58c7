-- Internal, pinned by `Counted`, at its end: the tally as replay counts it, call by call. What it counts is the tally over the history.
use Rattle.std.specs.Prelude.{ℕ, ◌+◌, ◌-◌, ◌≡◌, List, [], ◌∷◌, Bool, true, false, cond}
use Rattle.hub.specs.declared.Hub.{Hub}
use Rattle.hub.specs.Call.{Call}
use Rattle.hub.specs.Step.{step}
use Rattle.call_bytes.specs.declared.CallKind.{CallKind}
use Rattle.call_bytes.specs.declared.CallKind.TheVariants as kind
use Rattle.call_bytes.specs.Table.{form_of}
use Rattle.runs.specs.Machine.{Numbers, new_hub_of, rules, run}
use Rattle.runs.specs.Tally.{Tally, tally_of, active_buffers, past}

abbrev pub no_tally : Tally
no_tally = record { stored = 0; answered = 0; emptied = 0 }

-- of two parts of a run
abbrev pub plus : Tally → Tally → Tally
plus t u = record { stored = t.stored + u.stored; answered = t.answered + u.answered; emptied = t.emptied + u.emptied }

abbrev pub is_complete_kind : CallKind → Bool
is_complete_kind kind.Control = false
is_complete_kind kind.Poll = false
is_complete_kind kind.StartSplit = false
is_complete_kind kind.CompleteSplit = true
is_complete_kind kind.Launch = false
is_complete_kind kind.Deliver = false
is_complete_kind kind.LineEvent = false
is_complete_kind kind.Tick = false
is_complete_kind kind.BusReset = false

abbrev pub is_complete : Call → Bool
is_complete c = is_complete_kind (form_of c).kind

-- one call more: how many buffers were pending or ready before and are so after it; what a complete-split ends was answered, what another
-- call ends was emptied
abbrev pub tallied_by : Bool → ℕ → ℕ → Tally → Tally
tallied_by complete before after t =
    record {
      stored = t.stored + (after - before);
      answered = t.answered + cond complete (before - after) 0;
      emptied = t.emptied + cond complete 0 (before - after);
    }

-- all calls, one after the other
unfoldable pub tallied : Hub → List Call → Tally → Tally
tallied hub [] t = t
tallied hub (c ∷ cs) t = tallied (step hub c).next cs (tallied_by (is_complete c) (active_buffers hub) (active_buffers (step hub c).next) t)

-- it is the tally over the history
abbrev pub Counted : Type 0
Counted = (n : Numbers) (cs : List Call) → tallied (new_hub_of n) cs no_tally ≡ tally_of (past [] (run rules n cs))
