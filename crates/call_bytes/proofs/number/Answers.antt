use Rattle.call_bytes.proofs.Reading.{number_at, number_none}
use native.Mathlib.Omega.{arith}
use mathlib.Core.Path.{sym, ◌∙◌}
use Rattle.call_bytes.proofs.number.Goals as goal

pub returns-then-i-n : goal.returns-then-i-n
returns-then-i-n c = c.word_at.ensures ∙ sym (number_at _ 1 _ _ c.if-i-n.true)

pub returns-else-i-n : goal.returns-else-i-n
returns-else-i-n c = sym (number_none _ 1 _ _ (omega arith))
