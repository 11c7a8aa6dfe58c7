-- Internal, pinned by `OnePass` (crate `translator`): how a buffer stands to a key, for a search that looks at it once.
use Rattle.std.specs.Prelude.{cond}
use Rattle.buffer.specs.declared.Key.{Key}
use Rattle.buffer.specs.declared.Slot.{Slot}
use Rattle.buffer.specs.declared.Slot.TheVariants.{Empty, Pending, Ready, Old}
use Rattle.buffer.specs.declared.Standing.{Standing}
use Rattle.buffer.specs.declared.Standing.TheVariants.{Busy, Free, Holds, Reusable}
use Rattle.buffer.specs.Same.{same_key}
use Rattle.buffer.specs.Key.{key_of}

abbrev pub standing : Key → Slot → Standing
standing k Empty = Free
standing k (Pending s p) = cond (same_key (key_of s) k) Holds Busy
standing k (Ready s r) = cond (same_key (key_of s) k) Holds Busy
standing k (Old s r) = cond (same_key (key_of s) k) Reusable Free
