-- What the pass carries and what is chosen, in words over the buffers. Assumes nothing.
use Prim.Native.Nat.{ℕ, ◌<◌, ◌≤◌}
use mathlib.Core.Path.{◌≡◌, refl, sym, ◌∙◌, ap, subst}
use mathlib.Core.Bool.{Bool, true, false, cond, true≢false}
use mathlib.Core.List.{List}
use native.Mathlib.Omega.{arith}
use borrow.Author.Tests.{ltb-true, ltb-false}
use lib.Dec.{ltb}
use lib.ListN.{length, take, length-take}
use lib.Seq.{get_or-take}
use Rattle.std.specs.Prelude.{Option, Some, None}
use Rattle.buffer.specs.declared.Key.{Key}
use Rattle.buffer.specs.declared.Slot.{Slot}
use Rattle.buffer.specs.declared.Buffer.{Buffer}
use Rattle.buffer.specs.declared.BufferNumber.{BufferNumber}
use Rattle.buffer.specs.Buffer.{vacant, is_active, is_free, holds}
use Rattle.buffer.specs.Words.{Holding, OldWith, With, Vacated}
use Rattle.buffer.proofs.Words.{holding, old, not_both, with_holds, holds_with, vacated, vacated_free}
use Rattle.translator.specs.declared.Translator.{Translator}
use Rattle.translator.specs.declared.Carried.{Carried}
use Rattle.translator.specs.declared.Carried.TheVariants.{NoneYet, LowestFree, OwnOld, Repeat}
use Rattle.translator.specs.declared.Choice.{Choice}
use Rattle.translator.specs.declared.Choice.TheVariants.{NoRoom, LimitReached, Held, Reused, Took}
use Rattle.translator.specs.Translator.{at}
use Rattle.translator.specs.Search.{find}
use Rattle.translator.specs.Limit.{held_by, may_store, AtLimit}
use Rattle.translator.specs.TwoSteps.{InUse, Buffered, Lowest, NoBuffer, TwoSteps}
use Rattle.translator.specs.Valid.{Apart}
use Rattle.translator.specs.OnePass.{look, carried_by, choice_of, Carries}
use Rattle.translator.proofs.Search.{ending, pass-ending}
use Rattle.translator.proofs.Finding.{Hit, Miss, FindSays, find_says, LowestSays, find_lowest, may_store_lem, may_not_store}

module _ (t : Translator) where
  abbrev slot : ℕ → Slot
  slot i = (at t.buffers i).slot

  abbrev in_use : List Buffer
  in_use = take t.count t.buffers

  -- ---- a buffer in use

  small : (i : ℕ) → InUse t i → i < t.count
  small i l = omega (arith, l, length-take t.count t.buffers)

  inside : (i : ℕ) → InUse t i → i < length t.buffers
  inside i l = omega (arith, l, length-take t.count t.buffers)

  used : (i : ℕ) → i < t.count → i < length t.buffers → InUse t i
  used i l m = omega (arith, l, m, length-take t.count t.buffers)

  hit_used : (f : Slot → Bool) (i : ℕ) → Hit f t.count t.buffers i → InUse t i
  hit_used f i r = used i r.small r.inside

  -- there is one lowest
  lowest_same : (P : Slot → Type 0) (m n : BufferNumber) → Lowest P t m → Lowest P t n → m ≡ n
  lowest_same P m n v w = go (ltb m.0 n.0) refl (ltb n.0 m.0) refl
    where
      go : (x : Bool) → ltb m.0 n.0 ≡ x → (y : Bool) → ltb n.0 m.0 ≡ y → m ≡ n
      go true p y q = absurd (w.none_lower m.0 (ltb-true m.0 n.0 p) v.one.so)
      go false p true q = absurd (v.none_lower n.0 (ltb-true n.0 m.0 q) w.one.so)
      go false p false q =
          let x : n.0 ≤ m.0 = ltb-false m.0 n.0 p in
          let y : m.0 ≤ n.0 = ltb-false n.0 m.0 q in
          let z : m.0 ≡ n.0 = omega (arith, x, y) in
          λ i. record { 0 = z i }

  -- ---- a word P and the test f that says it

  module _ (f : Slot → Bool) (P : Slot → Type 0) (to : (s : Slot) → f s ≡ true → P s) (from : (s : Slot) → P s → f s ≡ true) where
    none_of : Miss f t.count t.buffers → NoBuffer P t
    none_of m n r = true≢false (sym (from (slot n.0) r.so) ∙ m n.0 (small n.0 r.in_use) (inside n.0 r.in_use))

    lowest_of : (n : BufferNumber) → Hit f t.count t.buffers n.0 → ((i : ℕ) → i < n.0 → f (slot i) ≡ false) → Lowest P t n
    lowest_of n r w =
        record {
          one = record { in_use = hit_used f n.0 r; so = to (slot n.0) r.passes };
          none_lower = λ i l p. true≢false (sym (from (slot i) p) ∙ w i l);
        }

  -- ---- the choice

  module _ (k : Key) where
    abbrev may : Bool
    may = may_store t.count (held_by k.lane in_use)

    abbrev keyed : (n : BufferNumber) → Hit (holds k) t.count t.buffers n.0 → ((i : ℕ) → i < n.0 → holds k (slot i) ≡ false) → Lowest (With k) t n
    keyed = lowest_of (holds k) (With k) (holds_with k) (with_holds k)

    -- the lowest-numbered one with the key is old, and not pending or ready
    unrepeated : (n : BufferNumber) → Lowest (With k) t n → Buffered (OldWith k) t n → (m : BufferNumber) → Lowest (With k) t m → ¬ (Buffered (Holding k) t m)
    unrepeated n w o m v r = not_both k (slot n.0) (subst (λ (b : BufferNumber). Holding k (slot b.0)) (lowest_same (With k) m n v w) r.so) o.so

    -- what is carried past all
    pub carried_so : Carries t k (carried_by look k in_use)
    carried_so =
        subst (Carries t k) (sym (pass-ending k in_use))
        (go (find (holds k) in_use) (find_says (holds k) t.count t.buffers) (find_lowest (holds k) t.count t.buffers)
        (find is_free in_use) (find_says is_free t.count t.buffers) (find_lowest is_free t.count t.buffers))
      where
        held : (n : BufferNumber) → Lowest (With k) t n → holds k (slot n.0) ≡ true → (a : Bool) → is_active (slot n.0) ≡ a
            → Carries t k (cond a (Repeat n) (OwnOld n (held_by k.lane in_use)))
        held n w h true e = (w, record { in_use = w.one.in_use; so = holding k (slot n.0) h e })
        held n w h false e = (w, (record { in_use = w.one.in_use; so = old k (slot n.0) h e }, refl))

        unkeyed : Miss (holds k) t.count t.buffers → NoBuffer (With k) t
        unkeyed = none_of (holds k) (With k) (holds_with k) (with_holds k)

        go : (f : Option BufferNumber) → FindSays (holds k) t.count t.buffers f → LowestSays (holds k) t.buffers f
            → (g : Option BufferNumber) → FindSays is_free t.count t.buffers g → LowestSays is_free t.buffers g → Carries t k (ending in_use f g (held_by k.lane in_use))
        go (Some n) s l g u m =
            held n (keyed n s l) s.passes (is_active (at in_use n.0).slot)
            (ap (λ (b : Buffer). is_active b.slot) (sym (get_or-take t.count t.buffers n.0 vacant s.small)))
        go None s l (Some n) u m = (unkeyed s, (lowest_of is_free Vacated vacated vacated_free n u m, refl))
        go None s l None u m = (unkeyed s, (none_of is_free Vacated vacated vacated_free u, refl))

    -- what is read off under the limit
    by_limit : (h : ℕ) → h ≡ held_by k.lane in_use → (c : Choice) → (¬ (AtLimit k.lane t) → TwoSteps t k c)
        → ((n : BufferNumber) → Lowest (With k) t n → ¬ (Buffered (Holding k) t n)) → TwoSteps t k (cond (may_store t.count h) c LimitReached)
    by_limit h e c below no_repeat = go (may_store t.count h) (ap (may_store t.count) (sym e))
      where
        go : (x : Bool) → may ≡ x → TwoSteps t k (cond x c LimitReached)
        go true m = below (may_store_lem t k.lane m)
        go false m = (may_not_store t k.lane m, no_repeat)

    -- the choice that is read off is so
    pub choice_so : (c : Carried) → Carries t k c → TwoSteps t k (choice_of t.count c)
    choice_so (NoneYet h) w = by_limit h w.1.1 NoRoom (λ m. (m, (w.0, w.1.0))) (λ n v r. w.0 n v.one)
    choice_so (LowestFree n h) w = by_limit h w.1.1 (Took n) (λ m. (m, (w.0, w.1.0))) (λ n v r. w.0 n v.one)
    choice_so (OwnOld n h) w = by_limit h w.1.1 (Reused n) (λ m. (m, (w.0, w.1.0))) (unrepeated n w.0 w.1.0)
    choice_so (Repeat n) w = w

    -- the words leave no two choices
    pub one_choice : (c d : Choice) → TwoSteps t k c → TwoSteps t k d → c ≡ d
    one_choice (Held n) (Held m) v w = ap Held (lowest_same (With k) n m v.0 w.0)
    one_choice (Held n) (Reused m) v w = absurd (unrepeated m w.1.0 w.1.1 n v.0 v.1)
    one_choice (Held n) (Took m) v w = absurd (w.1.0 n v.0.one)
    one_choice (Held n) NoRoom v w = absurd (w.1.0 n v.0.one)
    one_choice (Held n) LimitReached v w = absurd (w.1 n v.0 v.1)
    one_choice (Reused n) (Held m) v w = absurd (unrepeated n v.1.0 v.1.1 m w.0 w.1)
    one_choice (Reused n) (Reused m) v w = ap Reused (lowest_same (With k) n m v.1.0 w.1.0)
    one_choice (Reused n) (Took m) v w = absurd (w.1.0 n v.1.0.one)
    one_choice (Reused n) NoRoom v w = absurd (w.1.0 n v.1.0.one)
    one_choice (Reused n) LimitReached v w = absurd (v.0 w.0)
    one_choice (Took n) (Held m) v w = absurd (v.1.0 m w.0.one)
    one_choice (Took n) (Reused m) v w = absurd (v.1.0 m w.1.0.one)
    one_choice (Took n) (Took m) v w = ap Took (lowest_same Vacated n m v.1.1 w.1.1)
    one_choice (Took n) NoRoom v w = absurd (w.1.1 n v.1.1.one)
    one_choice (Took n) LimitReached v w = absurd (v.0 w.0)
    one_choice NoRoom (Held m) v w = absurd (v.1.0 m w.0.one)
    one_choice NoRoom (Reused m) v w = absurd (v.1.0 m w.1.0.one)
    one_choice NoRoom (Took m) v w = absurd (v.1.1 m w.1.1.one)
    one_choice NoRoom NoRoom v w = refl
    one_choice NoRoom LimitReached v w = absurd (v.0 w.0)
    one_choice LimitReached (Held m) v w = absurd (v.1 m w.0 w.1)
    one_choice LimitReached (Reused m) v w = absurd (w.0 v.0)
    one_choice LimitReached (Took m) v w = absurd (w.0 v.0)
    one_choice LimitReached NoRoom v w = absurd (w.0 v.0)
    one_choice LimitReached LimitReached v w = refl

  -- where no key is held twice, the one with the key is the lowest-numbered one
  pub only_holder : (k : Key) → Apart (holds k) t.buffers → (n : BufferNumber) → Buffered (With k) t n → Lowest (With k) t n
  only_holder k apart n r =
      record {
        one = r;
        none_lower = λ i l w. let same : i ≡ n.0 = apart i n.0 (with_holds k (slot i) w) (with_holds k (slot n.0) r.so) in absurd (omega (arith, l, same));
      }
