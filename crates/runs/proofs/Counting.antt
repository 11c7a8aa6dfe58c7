-- Counting numbers that pass a test, and buffers matched with them. Assumes nothing.
use Prim.Native.Nat.{ℕ, zero, suc, ◌+◌, ◌<◌}
use native.Mathlib.Omega.{arith}
use native.Mathlib.Nat.{not-suc-le-zero}
use native.Mathlib.Decide.{ℕ_discrete}
use mathlib.Core.Path.{◌≡◌, refl, sym, ◌∙◌, ap, ap₂}
use mathlib.Core.List.{List, [], ◌∷◌}
use mathlib.Core.Bool.{Bool, true, false, not, ◌&&◌, true≢false, and-false, and-true}
use borrow.Author.Tests.{eq-eqb, ne_eqb}
use lib.Dec.{eqb}
use Rattle.buffer.specs.declared.Slot.{Slot}
use Rattle.buffer.specs.declared.Slot.TheVariants.{Empty}
use Rattle.buffer.specs.declared.Buffer.{Buffer}
use Rattle.translator.specs.Translator.{at, tally}
use Rattle.bools.specs.Bit.{bit}
use Rattle.runs.specs.Tally.{count_to}

pub count_same : (f g : ℕ → Bool) (n : ℕ) → ((s : ℕ) → s < n → f s ≡ g s) → count_to f n ≡ count_to g n
unfolding count_to
count_same f g zero e = refl
count_same f g (suc n) e = ap₂ ◌+◌ (ap bit (e n (omega arith))) (count_same f g n (λ s l. e s (omega arith)))

pub count_none : (f : ℕ → Bool) (n : ℕ) → ((s : ℕ) → s < n → f s ≡ false) → count_to f n ≡ 0
unfolding count_to
count_none f zero e = refl
count_none f (suc n) e = omega (arith, ap bit (e n (omega arith)), count_none f n (λ s l. e s (omega arith)))

-- each number that passes f passes just one of three tests
pub count_sum : (f p q r : ℕ → Bool) (n : ℕ) → ((s : ℕ) → bit (f s) ≡ bit (p s) + bit (q s) + bit (r s)) → count_to f n ≡ count_to p n + count_to q n + count_to r n
unfolding count_to
count_sum f p q r zero e = refl
count_sum f p q r (suc n) e = omega (arith, e n, count_sum f p q r n e)

-- all but s
abbrev pub without : ℕ → (ℕ → Bool) → ℕ → Bool
without s f t = f t && not (eqb t s)

without_other : (s : ℕ) (f : ℕ → Bool) (t : ℕ) → ¬ (t ≡ s) → without s f t ≡ f t
without_other s f t ne = rw (ne_eqb t s ne) (and-true (f t))

count_less : (f : ℕ → Bool) (n s : ℕ) → s < n → f s ≡ true → count_to f n ≡ suc (count_to (without s f) n)
unfolding count_to
count_less f zero s l e = absurd (not-suc-le-zero l)
count_less f (suc n) s l e = go (ℕ_discrete n s) (λ m. count_less f n s m e)
  where
    go : Dec (n ≡ s) → (s < n → count_to f n ≡ suc (count_to (without s f) n)) → bit (f n) + count_to f n ≡ suc (bit (without s f n) + count_to (without s f) n)
    go (yes q) ih =
        let a : f n ≡ true = ap f q ∙ e in
        let b : without s f n ≡ false = rw (eq-eqb n s q) (and-false (f n)) in
        let c : count_to f n ≡ count_to (without s f) n = count_same f (without s f) n (λ t m. sym (without_other s f t (λ z. omega (arith, z, q, m)))) in
        omega (arith, ap bit a, ap bit b, c)
    go (no ne) ih =
        let b : without s f n ≡ f n = without_other s f n ne in
        let c : count_to f n ≡ suc (count_to (without s f) n) = ih (omega (arith, ne, l)) in
        omega (arith, ap bit b, c)

-- the buffers that pass a test, each with a number of its own that is marked, and every marked number has one
pub record Matched (p : ℕ → Bool) (n : ℕ) (f : Slot → Bool) (bs : List Buffer) : Type 0 where
  pub place : ℕ → ℕ
  pub below : (i : ℕ) → f (at bs i).slot ≡ true → place i < n
  pub marked : (i : ℕ) → f (at bs i).slot ≡ true → p (place i) ≡ true
  pub apart : (i j : ℕ) → f (at bs i).slot ≡ true → f (at bs j).slot ≡ true → place i ≡ place j → i ≡ j
  pub found : (s : ℕ) → s < n → p s ≡ true → (i : ℕ) × (f (at bs i).slot ≡ true) × (place i ≡ s)

pub matched : (f : Slot → Bool) → f Empty ≡ false → (bs : List Buffer) (p : ℕ → Bool) (n : ℕ) → Matched p n f bs → count_to p n ≡ tally f bs
unfolding tally
matched f none [] p n m = count_none p n (λ s l. go s l (p s) refl)
  where
    go : (s : ℕ) → s < n → (x : Bool) → p s ≡ x → x ≡ false
    go s l true e = absurd (true≢false (sym (m.found s l e).1 ∙ none))
    go s l false e = refl
matched f none (b ∷ bs) p n m = go (f b.slot) refl (λ q r. matched f none bs q n r)
  where
    go : (x : Bool) → f b.slot ≡ x → ((q : ℕ → Bool) → Matched q n f bs → count_to q n ≡ tally f bs) → count_to p n ≡ bit (f b.slot) + tally f bs
    go false e ih = omega (arith, ap bit e, ih p rest)
      where
        rest : Matched p n f bs
        rest =
            record {
              place = λ i. m.place (suc i);
              below = λ i. m.below (suc i);
              marked = λ i. m.marked (suc i);
              apart = λ i j u v w. (let z : suc i ≡ suc j = m.apart (suc i) (suc j) u v w in omega (arith, z));
              found = λ s l u. back s (m.found s l u);
            }
          where
            back : (s : ℕ) → (i : ℕ) × (f (at (b ∷ bs) i).slot ≡ true) × (m.place i ≡ s) → (i : ℕ) × (f (at bs i).slot ≡ true) × (m.place (suc i) ≡ s)
            back s (zero, u, v) = absurd (true≢false (sym u ∙ e))
            back s (suc i, u, v) = (i, u, v)
    go true e ih = omega (arith, ap bit e, count_less p n (m.place 0) (m.below 0 e) (m.marked 0 e), ih (without (m.place 0) p) rest)
      where
        other : (i : ℕ) → f (at bs i).slot ≡ true → ¬ (m.place (suc i) ≡ m.place 0)
        other i u v = let z : suc i ≡ 0 = m.apart (suc i) 0 u e v in omega (arith, z)

        rest : Matched (without (m.place 0) p) n f bs
        rest =
            record {
              place = λ i. m.place (suc i);
              below = λ i. m.below (suc i);
              marked = λ i u. without_other (m.place 0) p (m.place (suc i)) (other i u) ∙ m.marked (suc i) u;
              apart = λ i j u v w. (let z : suc i ≡ suc j = m.apart (suc i) (suc j) u v w in omega (arith, z));
              found = λ s l u. pick s l u (ℕ_discrete s (m.place 0));
            }
          where
            back : (s : ℕ) → ¬ (s ≡ m.place 0) → (i : ℕ) × (f (at (b ∷ bs) i).slot ≡ true) × (m.place i ≡ s) → (i : ℕ) × (f (at bs i).slot ≡ true) × (m.place (suc i) ≡ s)
            back s ne (zero, u, v) = absurd (ne (sym v))
            back s ne (suc i, u, v) = (i, u, v)

            pick : (s : ℕ) → s < n → without (m.place 0) p s ≡ true → Dec (s ≡ m.place 0) → (i : ℕ) × (f (at bs i).slot ≡ true) × (m.place (suc i) ≡ s)
            pick s l u (yes q) = absurd (true≢false (sym u ∙ rw (eq-eqb s (m.place 0) q) (and-false (p s))))
            pick s l u (no ne) = back s ne (m.found s l (sym (without_other (m.place 0) p s ne) ∙ u))
