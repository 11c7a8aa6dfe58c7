-- How the code of a start-split is put together. Assumes nothing.
use Prim.Native.Nat.{ℕ}
use mathlib.Core.Path.{◌≡◌, refl}
use mathlib.Core.Bool.{true}
use mathlib.Core.List.{List}
use lib.ListN.{length, take}
use Rattle.std.specs.Prelude.{Ok}
use Rattle.payload.specs.declared.Payload.{Payload}
use Rattle.payload.specs.Payload.{payload_of}
use Rattle.buffer.specs.declared.Key.{Key}
use Rattle.buffer.specs.Key.{key_of}
use Rattle.buffer.specs.Lengths.{start_fits}
use Rattle.buffer.specs.declared.StartSplit.{StartSplit}
use Rattle.buffer.specs.declared.Slot.{Slot}
use Rattle.buffer.specs.declared.Slot.TheVariants.{Pending}
use Rattle.buffer.specs.declared.Buffer.{Buffer}
use Rattle.buffer.specs.declared.BufferNumber.{BufferNumber}
use Rattle.translator.specs.declared.Translator.{Translator}
use Rattle.translator.specs.declared.Choice.{Choice}
use Rattle.translator.specs.declared.Choice.TheVariants.{NoRoom, LimitReached, Held, Reused, Took}
use Rattle.translator.specs.Limit.{permitted}
use Rattle.translator.specs.Translator.{with_buffer}
use Rattle.translator.specs.Slots.{slots_in, bare}
use Rattle.translator.specs.Order.{waiting, ranked}
use Rattle.translator.specs.StartSplit.{stored, start_by, start_split}
use Rattle.translator.proofs.Bare.{waiting-bare}

-- the buffer is made, the places are numbered anew, and it is put in
pub made : (t : Translator) (n : BufferNumber) (s : StartSplit) (l : List ℕ) {p : ℕ} {q : Payload} {ss : List Slot} {bs : List Buffer} {r : Translator}
    → r ≡ with_buffer (record { buffers = bs; count = t.count; low = t.low }) n (record { slot = Pending s p; payload = q })
    → bs ≡ ranked t.buffers → q ≡ payload_of l → p ≡ waiting (bare ss) → ss ≡ slots_in t.buffers → r ≡ stored t n s l
unfolding stored
made t n s l e f g h i = rw (e, f, g, h, i, waiting-bare t.buffers)

-- what was chosen decides
pub by_choice : (t : Translator) (s : StartSplit) (l : List ℕ) {k : Key} (c : Choice) → start_fits s (length l) ≡ true → k ≡ key_of s
    → c ≡ permitted t.count k (take t.count t.buffers) → start_by t s l c ≡ start_split t s l
unfolding start_split
by_choice t s l c f e g = rw (f, ← e, ← g)

-- and is answered
by_answer : (t : Translator) (s : StartSplit) (l : List ℕ) (c : Choice) → (start_by t s l c).answer ≡ Ok c
by_answer t s l NoRoom = refl
by_answer t s l LimitReached = refl
by_answer t s l (Held n) = refl
by_answer t s l (Reused n) = refl
by_answer t s l (Took n) = refl

pub chosen_answer : (t : Translator) (s : StartSplit) (l : List ℕ) → start_fits s (length l) ≡ true
    → (start_split t s l).answer ≡ Ok (permitted t.count (key_of s) (take t.count t.buffers))
unfolding start_split
chosen_answer t s l e = rw e (by_answer t s l (permitted t.count (key_of s) (take t.count t.buffers)))
