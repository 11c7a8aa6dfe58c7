-- A buffer by its number, after one was changed and after the places were numbered anew. Assumes nothing.
use Prim.Native.Nat.{ℕ, zero, suc, ◌<◌, zero-le, suc-le-suc}
use native.Mathlib.Decide.{ℕ_discrete}
use mathlib.Core.Path.{◌≡◌, refl, sym, ◌∙◌, ap, subst}
use mathlib.Core.Bool.{Bool, true, false, false≢true, true≢false}
use mathlib.Core.List.{List, [], ◌∷◌, map}
use borrow.Author.Tests.{eqb-true}
use lib.ListN.{length, set, length-map}
use lib.Seq.{get_or-set_same, get_or-set_other}
use Rattle.buffer.specs.declared.Lane.{Lane}
use Rattle.buffer.specs.declared.Key.{Key}
use Rattle.buffer.specs.declared.Slot.{Slot}
use Rattle.buffer.specs.declared.Slot.TheVariants.{Empty, Pending, Ready, Old}
use Rattle.buffer.specs.declared.Buffer.{Buffer}
use Rattle.buffer.specs.Buffer.{vacant, is_pending, holds, active_in}
use Rattle.translator.specs.Translator.{at}
use Rattle.translator.specs.Valid.{at_place, Apart}
use Rattle.translator.specs.Order.{reranked, ranked_in, ranked}
use Rattle.translator.specs.ResetLane.{without_lane}

-- what passes a test that an empty buffer fails is one of the list
pub inside : (f : Slot → Bool) → f Empty ≡ false → (bs : List Buffer) (i : ℕ) → f (at bs i).slot ≡ true → i < length bs
inside f n [] i e = absurd (true≢false (sym e ∙ n))
inside f n (b ∷ bs) zero e = suc-le-suc zero-le
inside f n (b ∷ bs) (suc i) e = suc-le-suc (inside f n bs i e)

module _ (bs : List Buffer) (i : ℕ) (b : Buffer) (here : i < length bs) where
  pub at_same : at (set bs i b) i ≡ b
  at_same = get_or-set_same bs i b vacant here

  pub at_other : (j : ℕ) → ¬ (j ≡ i) → at (set bs i b) j ≡ at bs j
  at_other j ne = get_or-set_other bs i j b vacant ne

  pub at_cases : (P : Buffer → Type 0) (j : ℕ) → (j ≡ i → P b) → (¬ (j ≡ i) → P (at bs j)) → P (at (set bs i b) j)
  at_cases P j same other = go (ℕ_discrete j i)
    where
      go : Dec (j ≡ i) → P (at (set bs i b) j)
      go (yes e) = subst P (sym at_same ∙ ap (at (set bs i b)) (sym e)) (same e)
      go (no ne) = subst P (sym (at_other j ne)) (other ne)

  -- a test that no two buffers pass still is one, where no other passes it with the new one
  pub apart_set : (f : Slot → Bool) → Apart f bs → (f b.slot ≡ true → (j : ℕ) → f (at bs j).slot ≡ true → j ≡ i) → Apart f (set bs i b)
  apart_set f apart only j l =
      at_cases (λ (x : Buffer). f x.slot ≡ true → f (at (set bs i b) l).slot ≡ true → j ≡ l) j
      (λ e. at_cases (λ (y : Buffer). f b.slot ≡ true → f y.slot ≡ true → j ≡ l) l (λ g p q. e ∙ sym g) (λ ng p q. e ∙ sym (only p l q)))
      (λ ne. at_cases (λ (y : Buffer). f (at bs j).slot ≡ true → f y.slot ≡ true → j ≡ l) l (λ g p q. only q j p ∙ sym g) (λ ng p q. apart j l p q))

-- a buffer by its number, where each was changed and an empty one stays as it is
at_map : (g : Buffer → Buffer) → g vacant ≡ vacant → (bs : List Buffer) (i : ℕ) → at (map g bs) i ≡ g (at bs i)
at_map g e [] i = sym e
at_map g e (b ∷ bs) zero = refl
at_map g e (b ∷ bs) (suc i) = at_map g e bs i

pub at-without_lane : (l : Lane) (bs : List Buffer) (i : ℕ) → at (map (without_lane l) bs) i ≡ without_lane l (at bs i)
at-without_lane l = at_map (without_lane l) refl

pub at-ranked : (bs : List Buffer) (i : ℕ) → at (ranked bs) i ≡ ranked_in bs (at bs i)
unfolding ranked
at-ranked bs = at_map (ranked_in bs) refl bs

pub length-ranked : (bs : List Buffer) → length (ranked bs) ≡ length bs
unfolding ranked
length-ranked bs = length-map bs (ranked_in bs)

-- a test that only looks at the key is not changed by ranks
pub holds-reranked : (bs : List Buffer) (k : Key) (s : Slot) → holds k (reranked bs s) ≡ holds k s
holds-reranked bs k Empty = refl
holds-reranked bs k (Pending s p) = refl
holds-reranked bs k (Ready s r) = refl
holds-reranked bs k (Old s r) = refl

pub active_in_reranked : (bs : List Buffer) (l : Lane) (s : Slot) → active_in l (reranked bs s) ≡ active_in l s
active_in_reranked bs l Empty = refl
active_in_reranked bs l (Pending s p) = refl
active_in_reranked bs l (Ready s r) = refl
active_in_reranked bs l (Old s r) = refl

pub pending_reranked : (bs : List Buffer) (s : Slot) → is_pending (reranked bs s) ≡ is_pending s
pending_reranked bs Empty = refl
pending_reranked bs (Pending s p) = refl
pending_reranked bs (Ready s r) = refl
pending_reranked bs (Old s r) = refl

-- what is not pending has no place to be numbered
pub reranked_idle : (bs : List Buffer) (s : Slot) → is_pending s ≡ false → reranked bs s ≡ s
reranked_idle bs Empty e = refl
reranked_idle bs (Pending s p) e = absurd (true≢false e)
reranked_idle bs (Ready s r) e = refl
reranked_idle bs (Old s r) e = refl

-- ---- the place of a buffer

pub placed_pending : (p : ℕ) (s : Slot) → at_place p s ≡ true → is_pending s ≡ true
placed_pending p Empty e = e
placed_pending p (Pending s r) e = refl
placed_pending p (Ready s r) e = e
placed_pending p (Old s r) e = e

pub only-place : (p q : ℕ) (s : Slot) → at_place p s ≡ true → at_place q s ≡ true → p ≡ q
only-place p q Empty e f = absurd (false≢true e)
only-place p q (Pending s r) e f = sym (eqb-true r p e) ∙ eqb-true r q f
only-place p q (Ready s r) e f = absurd (false≢true e)
only-place p q (Old s r) e f = absurd (false≢true e)
