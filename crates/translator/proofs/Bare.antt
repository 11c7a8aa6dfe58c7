-- What looks at slots alone comes out the same of buffers without their payloads. Assumes nothing.
use Prim.Native.Nat.{ℕ, suc, ◌+◌}
use mathlib.Core.Path.{◌≡◌, refl, sym, ap, ◌∙◌}
use mathlib.Core.Bool.{Bool, cond}
use mathlib.Core.List.{List, [], ◌∷◌}
use lib.ListN.{take}
use Rattle.std.specs.List.{take-map}
use Rattle.std.specs.Prelude.{Option, Some, None}
use Rattle.buffer.specs.declared.Key.{Key}
use Rattle.buffer.specs.declared.Slot.{Slot}
use Rattle.buffer.specs.declared.Slot.TheVariants.{Empty, Pending, Ready, Old}
use Rattle.buffer.specs.declared.Buffer.{Buffer}
use Rattle.buffer.specs.declared.BufferNumber.{BufferNumber}
use Rattle.payload.specs.Payload.{no_payload}
use Rattle.buffer.specs.Buffer.{is_pending}
use Rattle.translator.specs.declared.Carried.TheVariants.{NoneYet}
use Rattle.translator.specs.Slots.{slots_in, bare}
use Rattle.translator.specs.Order.{pass, is_before, waiting, before, reranked, ranked_in, sooner, earliest}
use Rattle.translator.specs.Search.{later, find}
use Rattle.translator.specs.Limit.{permitted}
use Rattle.bools.specs.Bit.{bit}
use Rattle.translator.specs.Translator.{tally}
use Rattle.translator.specs.OnePass.{choice_of}
use Rattle.translator.proofs.Passes.{take_bare}
use Rattle.translator.proofs.Search.{looking, pass-permitted}

-- one fact for all: what is made slot by slot is the same without payloads
module _ {C : Type 0} (g : List Buffer → C) (step : Slot → C → C) (steps : (b : Buffer) (bs : List Buffer) → g (b ∷ bs) ≡ step b.slot (g bs)) where
  by_slots : (bs : List Buffer) → g (bare (slots_in bs)) ≡ g bs
  unfolding bare
  by_slots [] = refl
  by_slots (b ∷ bs) = steps (record { slot = b.slot; payload = no_payload }) (bare (slots_in bs)) ∙ ap (step b.slot) (by_slots bs) ∙ sym (steps b bs)

  by_first_slots : (n : ℕ) (bs : List Buffer) → g (take n (bare (slots_in bs))) ≡ g (take n bs)
  by_first_slots n bs = ap g (take_bare n (slots_in bs) ∙ ap bare (take-map (λ (b : Buffer). b.slot) n bs)) ∙ by_slots (take n bs)

pub find-bare : (p : Slot → Bool) (n : ℕ) (bs : List Buffer) → find p (take n (bare (slots_in bs))) ≡ find p (take n bs)
unfolding find
find-bare p = by_first_slots (find p) (λ (s : Slot) (f : Option BufferNumber). cond (p s) (Some (record { 0 = 0 })) (later f)) (λ b bs. refl)

-- the order of acceptance
tally-bare : (f : Slot → Bool) (bs : List Buffer) → tally f (bare (slots_in bs)) ≡ tally f bs
unfolding tally
tally-bare f = by_slots (tally f) (λ (s : Slot) (n : ℕ). bit (f s) + n) (λ b bs. refl)

pub waiting-bare : (bs : List Buffer) → waiting (bare (slots_in bs)) ≡ waiting bs
waiting-bare = tally-bare is_pending

pub before-bare : (p : ℕ) (bs : List Buffer) → before p (bare (slots_in bs)) ≡ before p bs
before-bare p = tally-bare (is_before p)

-- a pass from the first buffer on
pass-bare : {C : Type 0} (f : C → Slot → BufferNumber → C) (c : C) (n : ℕ) (bs : List Buffer)
    → pass f 0 c (take n (bare (slots_in bs))) ≡ pass f 0 c (take n bs)
unfolding pass
pass-bare {C} f c n bs =
    ap (λ (k : ℕ → C → C). k 0 c)
    (by_first_slots (λ (l : List Buffer) (i : ℕ) (c : C). pass f i c l)
    (λ (s : Slot) (k : ℕ → C → C) (i : ℕ) (c : C). k (suc i) (f c s (record { 0 = i })))
    (λ b bs. refl) n bs)

pub permitted-bare : (b : ℕ) (k : Key) (n : ℕ) (bs : List Buffer) → permitted b k (take n (bare (slots_in bs))) ≡ permitted b k (take n bs)
permitted-bare b k n bs =
    sym (pass-permitted b k (take n (bare (slots_in bs)))) ∙ ap (choice_of b) (pass-bare (looking k) (NoneYet 0) n bs) ∙ pass-permitted b k (take n bs)

pub earliest-bare : (n : ℕ) (bs : List Buffer) → earliest (take n (bare (slots_in bs))) ≡ earliest (take n bs)
unfolding earliest
earliest-bare = pass-bare sooner None

-- a rank among the slots is the rank among the buffers
pub ranked_in-bare : (bs : List Buffer) (b : Buffer) → ranked_in (bare (slots_in bs)) b ≡ ranked_in bs b
ranked_in-bare bs b = ap (λ (s : Slot). record { slot = s; payload = b.payload }) (go b.slot)
  where
    go : (s : Slot) → reranked (bare (slots_in bs)) s ≡ reranked bs s
    go Empty = refl
    go (Pending s p) = ap (Pending s) (before-bare p bs)
    go (Ready s r) = refl
    go (Old s r) = refl
