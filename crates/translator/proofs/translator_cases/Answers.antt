use mathlib.Core.Path.{refl}
use Rattle.payload.specs.Payload.{padded, payload_of}
use Rattle.buffer.specs.Same.{same_key}
use Rattle.buffer.specs.Lengths.{numbers_fit, start_fits, result_length}
use Rattle.translator.specs.Order.{pass, ranked, earliest}
use Rattle.translator.specs.Search.{find, chosen}
use Rattle.translator.specs.Translator.{tally}
use Rattle.translator.specs.StartSplit.{stored, start_split}
use Rattle.translator.specs.CompleteSplit.{complete_split}
use Rattle.translator.specs.Launch.{launch}
use Rattle.translator.specs.Deliver.{deliver}
use Rattle.translator.specs.Clear.{clear_buffer}
use Rattle.translator.specs.Limit.{permitted}
use Rattle.translator.proofs.translator_cases.Goals as goal

-- The rows of specs/Cases.antt hold by computation.

pub returns : goal.returns
unfolding padded payload_of same_key numbers_fit start_fits result_length find chosen pass tally ranked earliest stored start_split complete_split launch deliver clear_buffer permitted
returns c = refl
