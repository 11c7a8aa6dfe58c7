-- The claims on every port.
-- Assumes nothing.
use mathlib.Core.Path.{refl}
use Rattle.port.specs.Status.{status_low, status_high, change_low}
use Rattle.port.specs.Events.{event_rule}
use Rattle.port.specs.Claims.{PortClaims}
use Rattle.port.proofs.Timers.{timer_kept}
use Rattle.port.proofs.Bits.{bits_back}
use Rattle.port.proofs.ChangeBits.{change_stays, cleared, none_set, others_kept, answers, unchanged}
use Rattle.port.proofs.Named.{event_done}
use Rattle.port.proofs.EnableChange.{enable_change}

pub port_claims_lem : PortClaims
port_claims_lem =
    record {
      new_timer = tt;
      timer_kept = timer_kept;
      status_bits_lem = λ p. rw (bits_back (status_low p), bits_back (status_high p), bits_back (change_low p.changes));
      event_answers = λ p e. answers p (event_rule e p.overcurrent p.state);
      event_done = event_done;
      refused_unchanged = λ p e. unchanged p (event_rule e p.overcurrent p.state);
      change_stays = change_stays;
      change_cleared_lem = λ b p. cleared b p.changes;
      all_cleared = λ b p. none_set b;
      others_kept = λ b x p. others_kept b x p.changes;
      state_kept = λ b p. refl;
      level_kept = λ b p. refl;
      enable_change = enable_change;
    }
