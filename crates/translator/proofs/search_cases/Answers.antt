use mathlib.Core.Path.{refl}
use Rattle.buffer.specs.Same.{same_key}
use Rattle.translator.specs.Slots.{bare}
use Rattle.translator.specs.Order.{pass}
use Rattle.translator.specs.Search.{find, chosen}
use Rattle.translator.specs.Translator.{tally}
use Rattle.translator.specs.Limit.{permitted}
use Rattle.translator.specs.OnePass.{look}
use Rattle.translator.proofs.search_cases.Goals as goal

-- The rows of specs/SearchCases.antt hold by computation.

pub returns : goal.returns
unfolding same_key bare find chosen pass tally permitted look
returns c = record { carried = refl; read_off = refl; by_rule = refl }
