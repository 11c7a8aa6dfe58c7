-- The buffers among each other: no key and no place twice, and the running one is pending. Assumes nothing.
use mathlib.Core.Path.{◌≡◌, refl, sym, ap, subst, ◌∙◌}
use mathlib.Core.List.{List, [], ◌∷◌}
use mathlib.Core.Bool.{Bool, true, false, false≢true, true≢false, cond, ◌&&◌, ◌||◌, and-eq-true_iff}
use Prim.Native.Nat.{ℕ, zero, suc, ◌<◌, suc-le-suc, zero-le}
use native.Mathlib.Nat.{not-suc-le-zero, le_of_suc-le-suc}
use native.Mathlib.Decide.{dec_lt}
use native.Mathlib.Omega.{arith}
use lib.ListN.{length, get_or, get_or-map, length-map}
use lib.Dec.{eqb, ltb}
use borrow.Author.Tests.{eq-eqb, eqb-true, eqb-false, ltb-true}
use Rattle.buffer.specs.declared.Key.{Key}
use Rattle.buffer.specs.declared.Slot.{Slot}
use Rattle.buffer.specs.declared.Slot.TheVariants.{Empty, Pending, Ready, Old}
use Rattle.buffer.specs.declared.Buffer.{Buffer}
use Rattle.buffer.specs.Key.{key_of}
use Rattle.buffer.specs.Buffer.{vacant, is_pending, holds}
use Rattle.buffer.proofs.Keys.{same_true, same_refl}
use Rattle.translator.specs.declared.LowSide.{LowSide}
use Rattle.translator.specs.declared.LowSide.TheVariants.{Idle, Running, Abandoned}
use Rattle.translator.specs.Slots.{slots_in}
use Rattle.translator.specs.Translator.{at}
use Rattle.translator.specs.Valid.{at_place, Apart, RunsPending}
use Rattle.translator.proofs.At.{inside}
use Rattle.area.specs.Written.{low_byte, running_byte}
use Rattle.area_check.specs.Read.{low_of, clash, clash_any, clashing, runs, low_fits}

-- ---- slots and buffers

slot_at : (bs : List Buffer) (i : ℕ) → get_or (slots_in bs) i Empty ≡ (at bs i).slot
slot_at bs i = get_or-map (λ (b : Buffer). b.slot) bs i vacant

-- ---- two slots

or_false_to : (a b : Bool) → a || b ≡ false → (a ≡ false) × (b ≡ false)
or_false_to true b e = absurd (true≢false e)
or_false_to false b e = (refl, e)

key-clash : (k : Key) (x y : Slot) → clash x y ≡ false → holds k x ≡ true → holds k y ≡ true → ⊥
key-clash k Empty y e p q = false≢true p
key-clash k (Pending s r) y e p q = true≢false (sym q ∙ ap (λ (j : Key). holds j y) (sym (same_true (key_of s) k p)) ∙ (or_false_to (holds (key_of s) y) (at_place r y) e).0)
key-clash k (Ready s r) y e p q = true≢false (sym q ∙ ap (λ (j : Key). holds j y) (sym (same_true (key_of s) k p)) ∙ e)
key-clash k (Old s r) y e p q = true≢false (sym q ∙ ap (λ (j : Key). holds j y) (sym (same_true (key_of s) k p)) ∙ e)

place-clash : (n : ℕ) (x y : Slot) → clash x y ≡ false → at_place n x ≡ true → at_place n y ≡ true → ⊥
place-clash n Empty y e p q = false≢true p
place-clash n (Pending s r) y e p q = true≢false (sym q ∙ ap (λ (m : ℕ). at_place m y) (sym (eqb-true r n p)) ∙ (or_false_to (holds (key_of s) y) (at_place r y) e).1)
place-clash n (Ready s r) y e p q = false≢true p
place-clash n (Old s r) y e p q = false≢true p

not_so : (b : Bool) → (b ≡ true → ⊥) → b ≡ false
not_so true f = absurd (f refl)
not_so false f = refl

no_clash : (x y : Slot) → ((k : Key) → holds k x ≡ true → holds k y ≡ true → ⊥) → ((n : ℕ) → at_place n x ≡ true → at_place n y ≡ true → ⊥) → clash x y ≡ false
no_clash Empty y f g = refl
no_clash (Pending s r) y f g =
    ap (λ (b : Bool). b || at_place r y) (not_so (holds (key_of s) y) (f (key_of s) (same_refl (key_of s)))) ∙ not_so (at_place r y) (g r (eq-eqb r r refl))
no_clash (Ready s r) y f g = not_so (holds (key_of s) y) (f (key_of s) (same_refl (key_of s)))
no_clash (Old s r) y f g = not_so (holds (key_of s) y) (f (key_of s) (same_refl (key_of s)))

-- ---- all slots, two by two

module _ (d : Slot) where
  any_to : (x : Slot) (l : List Slot) → clash_any x l ≡ false → (j : ℕ) → j < length l → clash x (get_or l j d) ≡ false
  any_to x [] e j h = absurd (not-suc-le-zero h)
  any_to x (y ∷ l) e zero h = (or_false_to (clash x y) (clash_any x l) e).0
  any_to x (y ∷ l) e (suc j) h = any_to x l (or_false_to (clash x y) (clash_any x l) e).1 j (le_of_suc-le-suc h)

  any_of : (x : Slot) (l : List Slot) → ((j : ℕ) → j < length l → clash x (get_or l j d) ≡ false) → clash_any x l ≡ false
  any_of x [] f = refl
  any_of x (y ∷ l) f = ap (λ (b : Bool). b || clash_any x l) (f 0 (suc-le-suc zero-le)) ∙ any_of x l (λ j h. f (suc j) (suc-le-suc h))

  clashing_to : (l : List Slot) → clashing l ≡ false → (i j : ℕ) → i < j → j < length l → clash (get_or l i d) (get_or l j d) ≡ false
  unfolding clashing
  clashing_to [] e i j k h = absurd (not-suc-le-zero h)
  clashing_to (x ∷ l) e i zero k h = absurd (not-suc-le-zero k)
  clashing_to (x ∷ l) e zero (suc j) k h = any_to x l (or_false_to (clash_any x l) (clashing l) e).0 j (le_of_suc-le-suc h)
  clashing_to (x ∷ l) e (suc i) (suc j) k h = clashing_to l (or_false_to (clash_any x l) (clashing l) e).1 i j (le_of_suc-le-suc k) (le_of_suc-le-suc h)

  clashing_of : (l : List Slot) → ((i j : ℕ) → i < j → j < length l → clash (get_or l i d) (get_or l j d) ≡ false) → clashing l ≡ false
  unfolding clashing
  clashing_of [] f = refl
  clashing_of (x ∷ l) f =
      ap (λ (b : Bool). b || clashing l) (any_of x l (λ j h. f 0 (suc j) (suc-le-suc zero-le) (suc-le-suc h)))
      ∙ clashing_of l (λ i j k h. f (suc i) (suc j) (suc-le-suc k) (suc-le-suc h))

-- ---- what the test says of the buffers

apart_from : (f : Slot → Bool) → f Empty ≡ false → (bs : List Buffer)
    → ((i j : ℕ) → i < j → j < length bs → f (at bs i).slot ≡ true → f (at bs j).slot ≡ true → ⊥) → Apart f bs
apart_from f n bs g i j p q = go (dec_lt i j) (dec_lt j i)
  where
    go : Dec (i < j) → Dec (j < i) → i ≡ j
    go (yes h) k = absurd (g i j h (inside f n bs j q) p q)
    go (no h) (yes k) = absurd (g j i k (inside f n bs i p) q p)
    go (no h) (no k) = omega arith

module _ (bs : List Buffer) where
  slots_long : length (slots_in bs) ≡ length bs
  slots_long = length-map bs (λ (b : Buffer). b.slot)

  module _ (e : clashing (slots_in bs) ≡ false) where
    two_apart : (i j : ℕ) → i < j → j < length bs → clash (at bs i).slot (at bs j).slot ≡ false
    two_apart i j h k =
        subst (λ (x : Slot). clash x (at bs j).slot ≡ false) (slot_at bs i)
        (subst (λ (y : Slot). clash (get_or (slots_in bs) i Empty) y ≡ false) (slot_at bs j)
        (clashing_to Empty (slots_in bs) e i j h (subst (λ (m : ℕ). j < m) (sym slots_long) k)))

    pub keys_to : (k : Key) → Apart (holds k) bs
    keys_to k = apart_from (holds k) refl bs (λ i j h l p q. key-clash k (at bs i).slot (at bs j).slot (two_apart i j h l) p q)

    pub places_to : (p : ℕ) → Apart (at_place p) bs
    places_to n = apart_from (at_place n) refl bs (λ i j h l p q. place-clash n (at bs i).slot (at bs j).slot (two_apart i j h l) p q)

  pub clashing_from : ((k : Key) → Apart (holds k) bs) → ((p : ℕ) → Apart (at_place p) bs) → clashing (slots_in bs) ≡ false
  clashing_from f g =
      clashing_of Empty (slots_in bs)
      (λ i j h k. subst (λ (x : Slot). clash x (get_or (slots_in bs) j Empty) ≡ false) (sym (slot_at bs i))
      (subst (λ (y : Slot). clash (at bs i).slot y ≡ false) (sym (slot_at bs j))
      (no_clash (at bs i).slot (at bs j).slot (λ k p q. apart i j h (f k i j p q)) (λ n p q. apart i j h (g n i j p q)))))
    where
      apart : (i j : ℕ) → i < j → i ≡ j → ⊥
      apart i j h e = omega arith

  pub runs_to : (k n : ℕ) → runs (slots_in bs) k n ≡ true → RunsPending bs (low_of k n)
  unfolding runs
  runs_to k n e = go (eqb k 1) (eqb k 2) e
    where
      go : (a b : Bool) → cond a (is_pending (get_or (slots_in bs) n Empty)) true ≡ true → RunsPending bs (cond a (Running (record { 0 = n })) (cond b Abandoned Idle))
      go true b q = ap is_pending (sym (slot_at bs n)) ∙ q
      go false true q = tt
      go false false q = tt

  pub runs_of : (l : LowSide) → RunsPending bs l → runs (slots_in bs) (low_byte l) (running_byte l) ≡ true
  unfolding runs
  runs_of Idle r = refl
  runs_of (Running n) r = ap is_pending (slot_at bs n.0) ∙ r
  runs_of Abandoned r = refl

-- ---- the low side's two bytes

pub low_again : (l : LowSide) → low_of (low_byte l) (running_byte l) ≡ l
low_again Idle = refl
low_again (Running n) = refl
low_again Abandoned = refl

pub low_of_lem : (l : LowSide) → low_fits (low_byte l) (running_byte l) ≡ true
low_of_lem Idle = refl
low_of_lem (Running n) = refl
low_of_lem Abandoned = refl

pub low_back : (k n : ℕ) → low_fits k n ≡ true → (low_byte (low_of k n) ≡ k) × (running_byte (low_of k n) ≡ n)
low_back k n e = go (eqb k 1) refl (eqb k 2) refl e
  where
    go : (a : Bool) → eqb k 1 ≡ a → (b : Bool) → eqb k 2 ≡ b → a || (ltb k 3 && eqb n 0) ≡ true
        → (low_byte (cond a (Running (record { 0 = n })) (cond b Abandoned Idle)) ≡ k) × (running_byte (cond a (Running (record { 0 = n })) (cond b Abandoned Idle)) ≡ n)
    go true p b q f = (sym (eqb-true k 1 p), refl)
    go false p true q f = (sym (eqb-true k 2 q), sym (eqb-true n 0 ((and-eq-true_iff (ltb k 3) (eqb n 0)).0 f).1))
    go false p false q f =
        let x = (and-eq-true_iff (ltb k 3) (eqb n 0)).0 f in
        let l : k < 3 = ltb-true k 3 x.0 in
        let u : k ≡ 1 → ⊥ = eqb-false k 1 p in
        let v : k ≡ 2 → ⊥ = eqb-false k 2 q in
        (omega arith, sym (eqb-true n 0 x.1))
