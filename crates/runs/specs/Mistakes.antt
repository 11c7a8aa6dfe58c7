-- Rules with one mistake each, and that the claims over runs shut them out: so the claims are not empty.
-- A reader must believe: each rule below is the translator's but for one call, and its comment says how.
use Rattle.std.specs.Prelude.{ℕ, Bool, cond, ◌&&◌, List, eqb, ltb, take, set, None, Ok, Option, Some}
use Rattle.payload.specs.Payload.{payload_of}
use Rattle.buffer.specs.declared.Key.{Key}
use Rattle.buffer.specs.declared.StartSplit.{StartSplit}
use Rattle.buffer.specs.declared.Slot.{Slot}
use Rattle.buffer.specs.declared.Slot.TheVariants.{Empty, Pending, Ready, Old}
use Rattle.buffer.specs.declared.BufferNumber.{BufferNumber}
use Rattle.buffer.specs.Key as key
use Rattle.buffer.specs.Buffer.{vacant, holds}
use Rattle.translator.specs.declared.Translator.{Translator}
use Rattle.translator.specs.declared.Choice.{Choice}
use Rattle.translator.specs.declared.Choice.TheVariants.{NoRoom, LimitReached, Held, Reused, Took}
use Rattle.translator.specs.declared.Started.{Started}
use Rattle.translator.specs.declared.Completed.{Completed}
use Rattle.translator.specs.Order.{pass, waiting}
use Rattle.translator.specs.Search.{find}
use Rattle.translator.specs.Limit.{permitted}
use Rattle.translator.specs.CompleteSplit.{complete_at, complete_split}
use Rattle.translator.specs.Launch.{launch_at}
use Rattle.runs.specs.Altered.{TranslatorRules, with_start, with_complete, with_launch, with_clear, OwnServed, altered, holds_key}
use Rattle.runs.specs.Demand3.{MarkHidden, DataExplained}
use Rattle.runs.specs.Order.{LaunchOrder}

-- ---- a late result goes to a buffer that was refilled after a clear: the low side is not abandoned

abbrev pub clear_late : Translator → Option BufferNumber → Translator
clear_late t None = t
clear_late t (Some n) = record { buffers = set t.buffers n.0 vacant; count = t.count; low = t.low }

abbrev pub late_result : TranslatorRules
late_result = with_clear (λ t k. clear_late t (find (holds k) (take t.count t.buffers)))

-- ---- a complete-split matches on lane, address and endpoint without direction

abbrev pub same_device : Key → Key → Bool
same_device a b = key.same_lane a.lane b.lane && (eqb a.address.0 b.address.0 && eqb a.endpoint b.endpoint)

abbrev pub without_direction : TranslatorRules
without_direction = with_complete (λ t k. complete_at t (find (holds_key (same_device k)) (take t.count t.buffers)))

-- ---- a short result is answered with a longer tail: all 64 bytes of the buffer

abbrev pub whole : Completed → Completed
whole o = record { next = o.next; answer = o.answer; payload = record { len = 64; bytes = o.payload.bytes } }

abbrev pub longer_tail : TranslatorRules
longer_tail = with_complete (λ t k. whole (complete_split t k))

-- ---- places are given twice: the new one gets the count, but the others keep theirs

abbrev pub stored_unranked : Translator → BufferNumber → StartSplit → List ℕ → Translator
stored_unranked t n s l =
    record { buffers = set t.buffers n.0 (record { slot = Pending s (waiting t.buffers); payload = payload_of l }); count = t.count; low = t.low }

abbrev pub start_unranked : Translator → StartSplit → List ℕ → Choice → Started
start_unranked t s l NoRoom = record { next = t; answer = Ok NoRoom }
start_unranked t s l LimitReached = record { next = t; answer = Ok LimitReached }
start_unranked t s l (Held n) = record { next = t; answer = Ok (Held n) }
start_unranked t s l (Reused n) = record { next = stored_unranked t n s l; answer = Ok (Reused n) }
start_unranked t s l (Took n) = record { next = stored_unranked t n s l; answer = Ok (Took n) }

abbrev pub places_twice : TranslatorRules
places_twice = with_start (λ t s l. start_unranked t s l (permitted t.count (key.key_of s) (take t.count t.buffers)))

-- ---- the latest is launched first

abbrev pub latter : Option (BufferNumber × ℕ) → Slot → BufferNumber → Option (BufferNumber × ℕ)
latter e Empty n = e
latter None (Pending s p) n = Some (n, p)
latter (Some (m, q)) (Pending s p) n = cond (ltb q p) (Some (n, p)) (Some (m, q))
latter e (Ready s r) n = e
latter e (Old s r) n = e

abbrev pub latest_first : TranslatorRules
latest_first = with_launch (λ t. launch_at t (pass latter 0 None (take t.count t.buffers)))

-- each mistake falsifies the claim that is to shut it out
pub record MistakesShutOut : Type 0 where
  -- with no mistake they are the rules
  pub own_served : OwnServed
  pub late_result_lem : ¬ (DataExplained (altered late_result))
  pub late_result_shows : ¬ (MarkHidden (altered late_result))
  pub without_direction_lem : ¬ (DataExplained (altered without_direction))
  pub longer_tail_lem : ¬ (DataExplained (altered longer_tail))
  pub places_twice_lem : ¬ (LaunchOrder (altered places_twice))
  pub latest_first_lem : ¬ (LaunchOrder (altered latest_first))
