-- Internal, pinned by `LaunchOrder` (crate `runs`), which says which start-split a launch gives, and of any translator by `TranslatorClaims`
-- (Claims.antt): the order of acceptance. A pending buffer has a place; a lower place was stored earlier. On storing, the pending buffers' places
-- become their ranks, from 0 without gaps, and the new one gets the next, so that places never run out.
use Rattle.std.specs.Prelude.{ℕ, suc, Bool, false, cond, List, [], ◌∷◌, map, ltb, Option, Some, None}
use Rattle.buffer.specs.declared.Slot.{Slot}
use Rattle.buffer.specs.declared.Slot.TheVariants.{Empty, Pending, Ready, Old}
use Rattle.buffer.specs.declared.Buffer.{Buffer}
use Rattle.buffer.specs.declared.BufferNumber.{BufferNumber}
use Rattle.buffer.specs.Buffer.{is_pending}
use Rattle.translator.specs.Translator.{tally}

-- a pass over the buffers from number n on, with c carried so far: the left fold of f over their slots and numbers
unfoldable pub pass : {C : Type 0} → (C → Slot → BufferNumber → C) → ℕ → C → List Buffer → C
pass f n c [] = c
pass f n c (b ∷ bs) = pass f (suc n) (f c b.slot (record { 0 = n })) bs

-- pending, with a place before p
abbrev pub is_before : ℕ → Slot → Bool
is_before p Empty = false
is_before p (Pending s q) = ltb q p
is_before p (Ready s r) = false
is_before p (Old s r) = false

-- how many are pending: the next place
abbrev pub waiting : List Buffer → ℕ
waiting bs = tally is_pending bs

-- how many pending ones have a place before p: the rank of the place p
abbrev pub before : ℕ → List Buffer → ℕ
before p bs = tally (is_before p) bs

-- with its rank among bs as its place, if it is pending
abbrev pub reranked : List Buffer → Slot → Slot
reranked bs Empty = Empty
reranked bs (Pending s p) = Pending s (before p bs)
reranked bs (Ready s r) = Ready s r
reranked bs (Old s r) = Old s r

abbrev pub ranked_in : List Buffer → Buffer → Buffer
ranked_in bs b = record { slot = reranked bs b.slot; payload = b.payload }

-- the places numbered anew by rank
unfoldable pub ranked : List Buffer → List Buffer
ranked bs = map (ranked_in bs) bs

-- the earlier of what was found so far and a buffer
abbrev pub sooner : Option (BufferNumber × ℕ) → Slot → BufferNumber → Option (BufferNumber × ℕ)
sooner e Empty n = e
sooner None (Pending s p) n = Some (n, p)
sooner (Some (m, q)) (Pending s p) n = cond (ltb p q) (Some (n, p)) (Some (m, q))
sooner e (Ready s r) n = e
sooner e (Old s r) n = e

-- the pending buffer with the lowest place
unfoldable pub earliest : List Buffer → Option (BufferNumber × ℕ)
earliest bs = pass sooner 0 None bs
