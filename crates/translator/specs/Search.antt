-- The search of a start-split. A reader must believe `chosen`: the two steps of document 01's rule. The code makes it in one pass (OnePass),
-- and that this gives the choice is proved.
use Rattle.std.specs.Prelude.{suc, Bool, cond, List, [], ◌∷◌, Option, Some, None}
use Rattle.buffer.specs.declared.BufferNumber.{BufferNumber}
use Rattle.buffer.specs.declared.Key.{Key}
use Rattle.buffer.specs.declared.Slot.{Slot}
use Rattle.buffer.specs.declared.Buffer.{Buffer}
use Rattle.buffer.specs.Buffer.{holds, is_active, is_free}
use Rattle.translator.specs.declared.Choice.{Choice}
use Rattle.translator.specs.declared.Choice.TheVariants.{NoRoom, Held, Reused, Took}
use Rattle.translator.specs.Translator.{at}

abbrev pub later : Option BufferNumber → Option BufferNumber
later None = None
later (Some n) = Some (record { 0 = suc n.0 })

-- the lowest-numbered buffer that passes a test
unfoldable pub find : (Slot → Bool) → List Buffer → Option BufferNumber
find p [] = None
find p (b ∷ bs) = cond (p b.slot) (Some (record { 0 = 0 })) (later (find p bs))

-- no key match, the lowest-numbered empty or old one; none, 3.
abbrev pub choose_free : Option BufferNumber → Choice
choose_free None = NoRoom
choose_free (Some n) = Took n

-- a buffer with its key that is pending or ready, ACK and nothing stored; one that is old, reuse it
abbrev pub choose_held : List Buffer → Option BufferNumber → Choice
choose_held bs None = choose_free (find is_free bs)
choose_held bs (Some n) = cond (is_active (at bs n.0).slot) (Held n) (Reused n)

-- what a start-split under the key k does, of the buffers bs, the limit of its lane apart
unfoldable pub chosen : Key → List Buffer → Choice
chosen k bs = choose_held bs (find (holds k) bs)
