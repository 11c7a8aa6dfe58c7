-- Numbering the places anew by rank keeps their order, and the next place is behind them all. Assumes nothing.
use Prim.Native.Nat.{ℕ, zero, suc, ◌<◌, ◌≤◌, zero-le}
use native.Mathlib.Omega.{arith}
use native.Mathlib.Nat.{not-suc-le-zero}
use mathlib.Core.Path.{◌≡◌, refl, sym, ◌∙◌, ap}
use mathlib.Core.List.{List, [], ◌∷◌}
use mathlib.Core.Bool.{Bool, true, false, false≢true}
use borrow.Author.Tests.{lt-ltb, le-ltb, eq-eqb, ltb-true, ltb-false, eqb-true}
use lib.ListN.{length}
use lib.Dec.{ltb}
use Rattle.buffer.specs.declared.Slot.{Slot}
use Rattle.buffer.specs.declared.Slot.TheVariants.{Empty, Pending, Ready, Old}
use Rattle.buffer.specs.declared.Buffer.{Buffer}
use Rattle.buffer.specs.Buffer.{is_pending}
use Rattle.translator.specs.Translator.{at, tally}
use Rattle.bools.specs.Bit.{bit}
use Rattle.translator.specs.Valid.{at_place}
use Rattle.translator.specs.Order.{is_before, waiting, before, reranked, ranked}
use Rattle.translator.specs.Claims.{RanksKeepOrder}
use Rattle.translator.proofs.At.{inside, at-ranked, placed_pending, only-place}

module _ (f g : Slot → Bool) (wider : (s : Slot) → f s ≡ true → g s ≡ true) where
  bit_le : (s : Slot) → bit (f s) ≤ bit (g s)
  bit_le s = go (f s) refl
    where
      go : (x : Bool) → f s ≡ x → bit x ≤ bit (g s)
      go true e = rw (wider s e) (omega arith)
      go false e = zero-le

  pub tally_le : (bs : List Buffer) → tally f bs ≤ tally g bs
  unfolding tally
  tally_le [] = zero-le
  tally_le (b ∷ bs) = omega (arith, bit_le b.slot, tally_le bs)

  -- one more passes the second test
  pub tally_lt : (bs : List Buffer) (i : ℕ) → i < length bs → f (at bs i).slot ≡ false → g (at bs i).slot ≡ true → tally f bs < tally g bs
  unfolding tally
  tally_lt [] i n e h = absurd (not-suc-le-zero n)
  tally_lt (b ∷ bs) zero n e h = rw (e, h) (omega (arith, tally_le bs))
  tally_lt (b ∷ bs) (suc i) n e h = omega (arith, bit_le b.slot, tally_lt bs i (omega (arith, n)) e h)

place-before : (p q : ℕ) (s : Slot) → at_place p s ≡ true → is_before q s ≡ ltb p q
place-before p q Empty e = absurd (false≢true e)
place-before p q (Pending s r) e = ap (λ (n : ℕ). ltb n q) (eqb-true r p e)
place-before p q (Ready s r) e = absurd (false≢true e)
place-before p q (Old s r) e = absurd (false≢true e)

before_wider : (p q : ℕ) → p ≤ q → (s : Slot) → is_before p s ≡ true → is_before q s ≡ true
before_wider p q l Empty e = e
before_wider p q l (Pending s r) e = let a : r < p = ltb-true r p e in lt-ltb r q (omega (arith, a, l))
before_wider p q l (Ready s r) e = e
before_wider p q l (Old s r) e = e

before_pending : (p : ℕ) (s : Slot) → is_before p s ≡ true → is_pending s ≡ true
before_pending p Empty e = e
before_pending p (Pending s r) e = refl
before_pending p (Ready s r) e = e
before_pending p (Old s r) e = e

module _ (bs : List Buffer) (i p : ℕ) (here : at_place p (at bs i).slot ≡ true) where
  in_list : i < length bs
  in_list = inside (at_place p) refl bs i here

  not_before : is_before p (at bs i).slot ≡ false
  not_before = place-before p p (at bs i).slot here ∙ le-ltb p p (omega arith)

  pub rank_lt : (q : ℕ) → p < q → before p bs < before q bs
  rank_lt q l =
      tally_lt (is_before p) (is_before q) (before_wider p q (omega (arith, l))) bs i in_list not_before
      (place-before p q (at bs i).slot here ∙ lt-ltb p q l)

  pub rank_below : before p bs < waiting bs
  rank_below = tally_lt (is_before p) is_pending (before_pending p) bs i in_list not_before (placed_pending p (at bs i).slot here)

-- the place of a buffer that was numbered anew
pub reranked-place : (bs : List Buffer) (p : ℕ) (s : Slot) → at_place p (reranked bs s) ≡ true → (q : ℕ) × (at_place q s ≡ true) × (before q bs ≡ p)
reranked-place bs p Empty e = absurd (false≢true e)
reranked-place bs p (Pending s q) e = (q, eq-eqb q q refl, eqb-true (before q bs) p e)
reranked-place bs p (Ready s r) e = absurd (false≢true e)
reranked-place bs p (Old s r) e = absurd (false≢true e)

pub ranked-place : (bs : List Buffer) (i p : ℕ) → at_place p (at (ranked bs) i).slot ≡ true → (q : ℕ) × (at_place q (at bs i).slot ≡ true) × (before q bs ≡ p)
ranked-place bs i p e = reranked-place bs p (at bs i).slot (ap (λ (b : Buffer). at_place p b.slot) (sym (at-ranked bs i)) ∙ e)

pub ranks_keep_order : RanksKeepOrder
ranks_keep_order bs i j p q p' q' e f l e' f' =
    let x = ranked-place bs i p' e' in
    let y = ranked-place bs j q' f' in
    let a : x.0 ≡ p = only-place x.0 p (at bs i).slot x.1 e in
    let b : y.0 ≡ q = only-place y.0 q (at bs j).slot y.1 f in
    let r : before p bs < before q bs = rank_lt bs i p e q l in
    let s : before p bs ≡ p' = ap (λ (n : ℕ). before n bs) (sym a) ∙ x.2 in
    let t : before q bs ≡ q' = ap (λ (n : ℕ). before n bs) (sym b) ∙ y.2 in
    omega (arith, r, s, t)

-- two places of one rank are one
pub same_rank : (bs : List Buffer) (i j p q : ℕ) → at_place p (at bs i).slot ≡ true → at_place q (at bs j).slot ≡ true → before p bs ≡ before q bs → p ≡ q
same_rank bs i j p q e f r = go (ltb p q) refl (ltb q p) refl
  where
    go : (x : Bool) → ltb p q ≡ x → (y : Bool) → ltb q p ≡ y → p ≡ q
    go true g y h = let l : before p bs < before q bs = rank_lt bs i p e q (ltb-true p q g) in absurd (omega (arith, l, r))
    go false g true h = let l : before q bs < before p bs = rank_lt bs j q f p (ltb-true q p h) in absurd (omega (arith, l, r))
    go false g false h = omega (arith, ltb-false p q g, ltb-false q p h)
