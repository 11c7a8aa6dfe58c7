-- No lane holds more than B minus 1 buffers: what the test of the bytes says. Assumes nothing.
use mathlib.Core.Path.{◌≡◌, refl, sym, ap, ◌∙◌}
use mathlib.Core.List.{List, [], ◌∷◌, ◌++◌}
use mathlib.Core.Bool.{Bool, true, false, ◌&&◌, ◌||◌, true≢false, and-eq-true_iff}
use Prim.Native.Nat.{ℕ, zero, suc, ◌+◌, ◌<◌, ◌≤◌, zero-le}
use native.Mathlib.Omega.{arith}
use lib.ListN.{length, take, drop}
use lib.Seq.{take_at}
use Rattle.buffer.specs.declared.Lane.{Lane}
use Rattle.buffer.specs.declared.Lane.TheVariants.{Zero, One}
use Rattle.buffer.specs.declared.Slot.{Slot}
use Rattle.buffer.specs.declared.Buffer.{Buffer}
use Rattle.buffer.specs.Buffer.{vacant, active_in}
use Rattle.bools.specs.Bit.{bit}
use Rattle.translator.specs.Translator.{tally}
use Rattle.translator.specs.Limit.{held_by}
use Rattle.translator.proofs.Tallies.{tally_take}
use Rattle.area_check.specs.Rows.{parts, every}
use Rattle.area_check.specs.Read.{slot_of, buffer_of, no_buffers, buffers_of, filled_by, crowded}
use Rattle.area_check.proofs.Rows.{parts_length, row_spare}
use Rattle.area_check.proofs.Ties.{vacant_buffers}

bit_le : (b : Bool) → bit b ≤ 1
bit_le true = omega arith
bit_le false = omega arith

tally_most : (f : Slot → Bool) (bs : List Buffer) → tally f bs ≤ length bs
unfolding tally
tally_most f [] = zero-le
tally_most f (b ∷ bs) = omega (arith, bit_le (f b.slot), tally_most f bs)

module _ (z : Lane) where
  -- all n are the lane's, or fewer
  full_to : (n : ℕ) (l : List ℕ) → every (filled_by z) 72 n l ≡ true → tally (active_in z) (parts buffer_of 72 n l) ≡ n
  unfolding every parts tally filled_by buffer_of
  full_to zero l e = refl
  full_to (suc n) l e =
      let x = (and-eq-true_iff (active_in z (slot_of (take 72 l))) (every (filled_by z) 72 n (drop 72 l))).0 e in
      let one : bit (active_in z (slot_of (take 72 l))) ≡ 1 = ap bit x.0 in
      omega (arith, one, full_to n (drop 72 l) x.1)

  full_of : (n : ℕ) (l : List ℕ) → every (filled_by z) 72 n l ≡ false → tally (active_in z) (parts buffer_of 72 n l) < n
  unfolding every parts tally filled_by buffer_of
  full_of zero l e = absurd (true≢false e)
  full_of (suc n) l e = go (active_in z (slot_of (take 72 l))) refl e (full_of n (drop 72 l))
    where
      go : (x : Bool) → active_in z (slot_of (take 72 l)) ≡ x → (x && every (filled_by z) 72 n (drop 72 l)) ≡ false
          → (every (filled_by z) 72 n (drop 72 l) ≡ false → tally (active_in z) (parts buffer_of 72 n (drop 72 l)) < n)
          → bit (active_in z (slot_of (take 72 l))) + tally (active_in z) (parts buffer_of 72 n (drop 72 l)) < suc n
      go true f g ih = let one : bit (active_in z (slot_of (take 72 l))) ≡ 1 = ap bit f in omega (arith, one, ih g)
      go false f g ih =
          let none : bit (active_in z (slot_of (take 72 l))) ≡ 0 = ap bit f in
          omega (arith, none, tally_most (active_in z) (parts buffer_of 72 n (drop 72 l)), parts_length buffer_of 72 n (drop 72 l))

  -- the entries behind the n buffers count for no lane
  of_parts : (n : ℕ) (l : List ℕ) → held_by z (buffers_of n l) ≡ tally (active_in z) (parts buffer_of 72 n l)
  unfolding buffers_of
  of_parts n l =
      let bs : List Buffer = parts buffer_of 72 n l in
      let k : length bs ≡ n = parts_length buffer_of 72 n l in
      sym (tally_take (active_in z) refl n (bs ++ drop n no_buffers) (row_spare vacant no_buffers vacant_buffers n bs k))
      ∙ ap (tally (active_in z)) (take_at bs (drop n no_buffers) n k)

  below_to : (n : ℕ) (l : List ℕ) → every (filled_by z) 72 n l ≡ false → held_by z (buffers_of n l) < n
  below_to n l e = omega (arith, of_parts n l, full_of n l e)

  below_of : (n : ℕ) (l : List ℕ) → held_by z (buffers_of n l) < n → every (filled_by z) 72 n l ≡ false
  below_of n l h = go (every (filled_by z) 72 n l) refl
    where
      go : (x : Bool) → every (filled_by z) 72 n l ≡ x → x ≡ false
      go true e = absurd (omega (arith, of_parts n l, full_to n l e, h))
      go false e = refl

pub lanes_to : (n : ℕ) (l : List ℕ) → crowded n l ≡ false → (z : Lane) → held_by z (buffers_of n l) < n
lanes_to n l e z = go z (either (every (filled_by Zero) 72 n l) e)
  where
    either : (x : Bool) → (x || every (filled_by One) 72 n l) ≡ false → (x ≡ false) × (every (filled_by One) 72 n l ≡ false)
    either true f = absurd (true≢false f)
    either false f = (refl, f)

    go : (z : Lane) → (every (filled_by Zero) 72 n l ≡ false) × (every (filled_by One) 72 n l ≡ false) → held_by z (buffers_of n l) < n
    go Zero f = below_to Zero n l f.0
    go One f = below_to One n l f.1

pub lanes_of : (n : ℕ) (l : List ℕ) → ((z : Lane) → held_by z (buffers_of n l) < n) → crowded n l ≡ false
lanes_of n l h = rw (below_of Zero n l (h Zero), below_of One n l (h One))
