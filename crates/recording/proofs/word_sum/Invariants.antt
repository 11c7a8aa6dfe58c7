use Prim.Native.Nat.{◌*◌, ◌≤◌}
use mathlib.Core.Path.{◌≡◌}
use Rattle.recording.specs.Written.{sum_to}
use Rattle.recording.proofs.word_sum.Given as goal

abbrev pub invariant-loop-i : goal.invariant-loop-i
invariant-loop-i l = (l.sum ≡ sum_to l.s l.i) × (l.sum ≤ 65535 * l.i)
