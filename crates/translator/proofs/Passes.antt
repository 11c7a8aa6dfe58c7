-- A pass over the buffers: where it stands, how it goes on and ends; the passes for the earliest and for the holder of a key. Assumes nothing.
use Prim.Native.Nat.{ℕ, suc, ◌+◌, ◌<◌, ◌≤◌}
use mathlib.Core.Path.{◌≡◌, refl, sym, ◌∙◌, ap, subst}
use mathlib.Core.Bool.{Bool, true, false, cond}
use mathlib.Core.List.{List, [], ◌∷◌, map, ◌++◌}
use native.Mathlib.Numerals.{add-one}
use native.Mathlib.Omega.{arith}
use lib.ListN.{length, take, drop, get_or, length-map, drop_of_length-le, get_or-map}
use lib.Seq.{drop-cons}
use Rattle.std.specs.List.{take-map}
use Rattle.std.specs.Prelude.{Option, Some, None}
use Rattle.payload.specs.Payload.{no_payload}
use Rattle.buffer.specs.declared.Key.{Key}
use Rattle.buffer.specs.declared.Slot.{Slot}
use Rattle.buffer.specs.declared.Buffer.{Buffer}
use Rattle.buffer.specs.declared.BufferNumber.{BufferNumber}
use Rattle.buffer.specs.Buffer.{holds}
use Rattle.translator.specs.Slots.{bare}
use Rattle.translator.specs.Order.{sooner, earliest, pass}
use Rattle.translator.specs.Search.{later, find}

-- a pass over two lists is a pass over the second with what the first left
pub pass-append : {C : Type 0} (f : C → Slot → BufferNumber → C) (n : ℕ) (c : C) (xs ys : List Buffer)
    → pass f n c (xs ++ ys) ≡ pass f (n + length xs) (pass f n c xs) ys
unfolding pass
pass-append f n c [] ys = let z : n + 0 ≡ n = omega arith in rw z
pass-append f n c (x ∷ xs) ys =
    let e : suc n + length xs ≡ n + suc (length xs) = omega arith in
    pass-append f (suc n) (f c x.slot (record { 0 = n })) xs ys ∙ rw e

-- the slots of the first m buffers
pub take_bare : (m : ℕ) (ss : List Slot) → take m (bare ss) ≡ bare (take m ss)
unfolding bare
take_bare = take-map (λ (s : Slot). record { slot = s; payload = no_payload })

-- A pass over the slots ss that is to give w: where it stands at number i with c in hand, ..
pub record Ahead {C : Type 0} (f : C → Slot → BufferNumber → C) (ss : List Slot) (w : C) (i : ℕ) (c : C) : Type 0 where
  pub rest : pass f i c (drop i (bare ss)) ≡ w

-- .. it starts over the slots us of the first m of ss, ..
pub starting : {C : Type 0} (f : C → Slot → BufferNumber → C) (c : C) (m : ℕ) (ss : List Slot) {us : List Slot} → us ≡ take m ss
    → Ahead f us (pass f 0 c (take m (bare ss))) 0 c
starting f c m ss {us} e = record { rest = ap (pass f 0 c) (ap bare e ∙ sym (take_bare m ss)) }

module _ {C : Type 0} {f : C → Slot → BufferNumber → C} {ss : List Slot} {w : C} {i : ℕ} {c : C} where
  -- .. it goes on by one step, ..
  pub onward : {c' : C} (d : Slot) → Ahead f ss w i c → c' ≡ f c (get_or ss i d) (record { 0 = i }) → i < length ss → Ahead f ss w (i + 1) c'
  unfolding pass bare
  onward d a e l =
      let b : Slot → Buffer = λ s. record { slot = s; payload = no_payload } in
      let n : i < length (map b ss) = simp length-map l in
      record { rest = rw (e, add-one) (rw (get_or-map b ss i d) at (rw (drop-cons (map b ss) i (b d)) at a.rest)) }

  -- .. and is done past the last slot
  pub ended : Ahead f ss w i c → length ss ≤ i → c ≡ w
  unfolding pass bare
  ended a h =
      let n : length (bare ss) ≤ i = simp length-map h in
      rw (drop_of_length-le (bare ss) n) at a.rest

-- the pass from the first buffer gives the earliest
pub seeking : (m : ℕ) (ss : List Slot) {us : List Slot} → us ≡ take m ss → Ahead sooner us (earliest (take m (bare ss))) 0 None
unfolding earliest
seeking m ss e = starting sooner None m ss e

-- ---- the search for the buffer that holds a key

-- its step: the first that was found stays
abbrev pub finding : Key → Option BufferNumber → Slot → BufferNumber → Option BufferNumber
finding k None s n = cond (holds k s) (Some n) None
finding k (Some m) s n = Some m

found_stays : (k : Key) (n : ℕ) (m : BufferNumber) (bs : List Buffer) → pass (finding k) n (Some m) bs ≡ Some m
unfolding pass
found_stays k n m [] = refl
found_stays k n m (b ∷ bs) = found_stays k (suc n) m bs

-- counted from number n on
abbrev shifted : ℕ → Option BufferNumber → Option BufferNumber
shifted n None = None
shifted n (Some i) = Some (record { 0 = n + i.0 })

shifted-later : (n : ℕ) (f : Option BufferNumber) → shifted (suc n) f ≡ shifted n (later f)
shifted-later n None = refl
shifted-later n (Some i) = let e : suc n + i.0 ≡ n + suc i.0 = omega arith in rw e

shifted_zero : (f : Option BufferNumber) → shifted 0 f ≡ f
shifted_zero None = refl
shifted_zero (Some i) = let z : 0 + i.0 ≡ i.0 = omega arith in rw z

pass_found : (k : Key) (n : ℕ) (bs : List Buffer) → pass (finding k) n None bs ≡ shifted n (find (holds k) bs)
unfolding pass find
pass_found k n [] = refl
pass_found k n (b ∷ bs) = go (holds k b.slot) (pass_found k (suc n) bs)
  where
    go : (x : Bool) → pass (finding k) (suc n) None bs ≡ shifted (suc n) (find (holds k) bs)
        → pass (finding k) (suc n) (cond x (Some (record { 0 = n })) None) bs ≡ shifted n (cond x (Some (record { 0 = 0 })) (later (find (holds k) bs)))
    go true ih = let z : n + 0 ≡ n = omega arith in found_stays k (suc n) (record { 0 = n }) bs ∙ rw z
    go false ih = ih ∙ shifted-later n (find (holds k) bs)

pub finding_from : (k : Key) (m : ℕ) (ss : List Slot) {us : List Slot} → us ≡ take m ss → Ahead (finding k) us (find (holds k) (take m (bare ss))) 0 None
finding_from k m ss {us} e =
    let found : pass (finding k) 0 None (take m (bare ss)) ≡ find (holds k) (take m (bare ss)) =
    pass_found k 0 (take m (bare ss)) ∙ shifted_zero (find (holds k) (take m (bare ss))) in
    subst (λ (w : Option BufferNumber). Ahead (finding k) us w 0 None) found (starting (finding k) None m ss e)

module _ (k : Key) {ss : List Slot} {w : Option BufferNumber} {i : ℕ} where
  pub not_here : {x : Bool} (d : Slot) → Ahead (finding k) ss w i None → x ≡ holds k (get_or ss i d) → x ≡ false → i < length ss
      → Ahead (finding k) ss w (i + 1) None
  not_here d a e f = onward d a (rw (sym e ∙ f))

  pub found_here : {x : Bool} (d : Slot) → Ahead (finding k) ss w i None → x ≡ holds k (get_or ss i d) → x ≡ true → i < length ss
      → Some (record { 0 = i }) ≡ w
  found_here d a e f l =
      let b : Ahead (finding k) ss w (i + 1) (Some (record { 0 = i })) = onward d a (rw (sym e ∙ f)) l in
      sym (found_stays k (i + 1) (record { 0 = i }) (drop (i + 1) (bare ss))) ∙ b.rest
