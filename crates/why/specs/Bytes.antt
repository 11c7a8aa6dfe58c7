-- A reason in bytes, as C gets it. A reader must believe: the numbers below are the header's; change bits stand as in the third byte of
-- GetPortStatus.
use Rattle.std.specs.Prelude.{ℕ, ◌≡◌, map, replicate}
use Rattle.port.specs.declared.Changes.{Changes}
use Rattle.port.specs.Status.{byte_of, change_low}
use Rattle.why.specs.declared.ReasonBytes.{ReasonBytes}
use Rattle.why.specs.declared.Reason.{Reason}
use Rattle.why.specs.declared.Reason.TheVariants.{Nothing, Number, HeldBy, Reused, TookFree, LimitReached, NoRoom, Changed, Wrong}
use Rattle.why.specs.Said.{by_port, place}

-- no change bits
abbrev pub plain_bytes : ℕ → ℕ → ReasonBytes
plain_bytes k v = record { kind = k; value = v; changes = replicate 7 0 }

abbrev pub bytes_of : Reason → ReasonBytes
bytes_of Nothing = plain_bytes 0 0
bytes_of (Number n) = plain_bytes 1 n
bytes_of (HeldBy b) = plain_bytes 2 b.0
bytes_of (Reused b) = plain_bytes 3 b.0
bytes_of (TookFree b) = plain_bytes 4 b.0
bytes_of LimitReached = plain_bytes 5 0
bytes_of NoRoom = plain_bytes 6 0
-- by port, then by bit
bytes_of (Changed c) = record { kind = 7; value = 0; changes = map (λ (x : Changes). byte_of (change_low x)) (by_port c) }
bytes_of (Wrong w) = plain_bytes 8 (place w)

-- no two reasons have the same bytes
abbrev pub ReasonsApart : Type 0
ReasonsApart = (r s : Reason) → bytes_of r ≡ bytes_of s → r ≡ s
