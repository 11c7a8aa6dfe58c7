use mathlib.Core.Path.{refl}
use Rattle.payload.specs.Payload.{padded, payload_of}
use Rattle.ports.specs.Ports.{port_at, with_port}
use Rattle.ports.specs.Sweep.{front, swept}
use Rattle.ports.specs.Bitmap.{bitmap_of}
use Rattle.buffer.specs.Same.{same_key}
use Rattle.buffer.specs.Lengths.{numbers_fit, start_fits, result_length}
use Rattle.translator.specs.Order.{pass, ranked, earliest}
use Rattle.translator.specs.Search.{find, chosen}
use Rattle.translator.specs.Limit.{permitted}
use Rattle.translator.specs.Translator.{tally}
use Rattle.translator.specs.StartSplit.{stored, start_split}
use Rattle.translator.specs.Clear.{clear_buffer}
use Rattle.translator.specs.ResetLane.{reset_lane}
use Rattle.translator.specs.CompleteSplit.{complete_split}
use Rattle.translator.specs.Launch.{launch}
use Rattle.translator.specs.Deliver.{deliver}
use Rattle.request.specs.Table.{kind_of}
use Rattle.request.specs.Request.{checked, request_of}
use Rattle.numbers.specs.Split.{split_named, split_from, key_named, key_from}
use Rattle.hub.specs.Hub.{new_fits, new_hub, configured_as, ticked_hub, reset_hub}
use Rattle.hub.specs.Requests.{requested}
use Rattle.hub.specs.Rules.{polled}
use Rattle.hub.specs.Checks.{within, has_space, not_silent, fitting}
use Rattle.hub.specs.Step.{served, step}
use Rattle.hub.proofs.bench_cases.Goals as goal

-- The rows of specs/Cases.antt hold by computation.

pub returns : goal.returns
unfolding padded payload_of port_at with_port front swept bitmap_of same_key numbers_fit start_fits result_length find chosen permitted pass tally ranked earliest stored start_split complete_split launch deliver clear_buffer reset_lane kind_of checked request_of split_named split_from key_named key_from new_fits new_hub configured_as ticked_hub reset_hub requested polled within has_space not_silent fitting served step
returns c = refl
