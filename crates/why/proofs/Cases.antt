-- Concrete reasons. Assumes nothing.
use mathlib.Core.Path.{refl}
use Rattle.payload.specs.Payload.{payload_of}
use Rattle.buffer.specs.Same.{same_key}
use Rattle.buffer.specs.Lengths.{numbers_fit, start_fits, result_length}
use Rattle.ports.specs.Ports.{port_at, with_port}
use Rattle.ports.specs.Sweep.{front, swept}
use Rattle.ports.specs.Bitmap.{bitmap_of}
use Rattle.translator.specs.Order.{pass, ranked, earliest}
use Rattle.translator.specs.Search.{find, chosen}
use Rattle.translator.specs.Limit.{permitted}
use Rattle.translator.specs.ResetLane.{reset_lane}
use Rattle.translator.specs.Translator.{tally}
use Rattle.translator.specs.StartSplit.{stored, start_split}
use Rattle.translator.specs.CompleteSplit.{complete_split}
use Rattle.translator.specs.Launch.{launch}
use Rattle.translator.specs.Deliver.{deliver}
use Rattle.numbers.specs.Split.{split_named, split_from, key_named, key_from}
use Rattle.request.specs.Table.{kind_of}
use Rattle.request.specs.Request.{checked, request_of}
use Rattle.hub.specs.Hub.{new_fits, new_hub, configured_as, ticked_hub}
use Rattle.hub.specs.Requests.{requested}
use Rattle.hub.specs.Rules.{polled}
use Rattle.hub.specs.Checks.{within, has_space, not_silent, fitting}
use Rattle.hub.specs.Step.{served, step}
use Rattle.runs.specs.Machine.{after_from}
use Rattle.why.specs.Why.{numbered, changes_by_port, poll_reason, request_reason, rule_reason, why_of}
use Rattle.why.specs.Cases.{WhyCases}

pub why_cases_lem : WhyCases
unfolding payload_of same_key numbers_fit start_fits result_length port_at with_port front swept bitmap_of find chosen permitted pass tally ranked earliest stored start_split complete_split launch deliver reset_lane split_named split_from key_named key_from kind_of checked request_of new_fits new_hub configured_as ticked_hub requested polled within has_space not_silent fitting served step after_from numbered changes_by_port poll_reason request_reason rule_reason why_of
why_cases_lem =
    record {
      silent = refl;
      short = refl;
      outside = refl;
      misplaced = refl;
      polled = refl;
      polled_more = refl;
      quiet = refl;
      limit = refl;
      other_lane = refl;
      no_room = refl;
      limit_before_no_room_lem = refl;
      limit_old = refl;
      limit_repeat = refl;
      held = refl;
      reused = refl;
      took_old = refl;
      took_empty = refl;
      unconfigured = refl;
      value = refl;
      index = refl;
      size = refl;
      code = refl;
      served = refl;
      no_match = refl;
      not_yet = refl;
      none_pending = refl;
    }
