-- What the searches over the buffers find. Assumes nothing.
use Prim.Native.Nat.{ℕ, zero, suc, ◌+◌, ◌<◌, ◌≤◌, zero-le, suc-le-suc}
use mathlib.Core.Path.{◌≡◌, refl, sym, ◌∙◌, ap, subst}
use mathlib.Core.List.{List, [], ◌∷◌}
use mathlib.Core.Bool.{Bool, true, false, cond, true≢false, false≢true}
use lib.Dec.{ltb}
use lib.ListN.{length, take, drop}
use lib.Seq.{get_or-take, get_or-drop, drop-drop}
use native.Mathlib.Omega.{arith}
use native.Mathlib.Nat.{not-suc-le-zero, le_of_suc-le-suc}
use native.Mathlib.Decide.{ℕ_discrete}
use borrow.Author.Tests.{eq-eqb, ltb-true, ltb-false}
use Rattle.std.specs.Prelude.{Option, Some, None}
use Rattle.buffer.specs.declared.Lane.{Lane}
use Rattle.buffer.specs.declared.Key.{Key}
use Rattle.buffer.specs.declared.Slot.{Slot}
use Rattle.buffer.specs.declared.Slot.TheVariants.{Empty, Pending, Ready, Old}
use Rattle.buffer.specs.declared.Buffer.{Buffer}
use Rattle.buffer.specs.declared.BufferNumber.{BufferNumber}
use Rattle.buffer.specs.Buffer.{vacant, is_pending, is_active, is_free, holds}
use Rattle.translator.specs.declared.Translator.{Translator}
use Rattle.translator.specs.declared.Choice.{Choice}
use Rattle.translator.specs.declared.Choice.TheVariants.{NoRoom, LimitReached, Held, Reused, Took}
use Rattle.translator.specs.Translator.{at}
use Rattle.translator.specs.Order.{pass, sooner, earliest}
use Rattle.translator.specs.Search.{later, find, choose_free, choose_held, chosen}
use Rattle.translator.specs.Valid.{at_place}
use Rattle.translator.specs.Limit.{held_by, may_store, limited, permitted, AtLimit}
use Rattle.translator.proofs.At.{placed_pending, only-place}

-- buffer i passes the test, and is one of the first m
pub record Hit (f : Slot → Bool) (m : ℕ) (bs : List Buffer) (i : ℕ) : Type 0 where
  pub small : i < m
  pub inside : i < length bs
  pub passes : f (at bs i).slot ≡ true

-- none of the first m does
abbrev pub Miss : (Slot → Bool) → ℕ → List Buffer → Type 0
Miss f m bs = (i : ℕ) → i < m → i < length bs → f (at bs i).slot ≡ false

-- what a search of the first m buffers that ended so says of them
abbrev pub FindSays : (Slot → Bool) → ℕ → List Buffer → Option BufferNumber → Type 0
FindSays f m bs None = Miss f m bs
FindSays f m bs (Some n) = Hit f m bs n.0

pub find_says : (f : Slot → Bool) (m : ℕ) (bs : List Buffer) → FindSays f m bs (find f (take m bs))
unfolding find
find_says f zero bs = λ i h _. absurd (not-suc-le-zero h)
find_says f (suc m) [] = λ i _ h. absurd (not-suc-le-zero h)
find_says f (suc m) (b ∷ bs) = go (f b.slot) refl (find f (take m bs)) (find_says f m bs)
  where
    go : (t : Bool) → f b.slot ≡ t → (r : Option BufferNumber) → FindSays f m bs r → FindSays f (suc m) (b ∷ bs) (cond t (Some (record { 0 = 0 })) (later r))
    go true e r s = record { small = suc-le-suc zero-le; inside = suc-le-suc zero-le; passes = e }
    go false e (Some n) s = record { small = suc-le-suc s.small; inside = suc-le-suc s.inside; passes = s.passes }
    go false e None s = miss
      where
        miss : (i : ℕ) → i < suc m → i < length (b ∷ bs) → f (at (b ∷ bs) i).slot ≡ false
        miss zero h l = e
        miss (suc i) h l = s i (le_of_suc-le-suc h) (le_of_suc-le-suc l)

-- the buffer that holds the key is active, or it is not
pub record Holder (k : Key) (m : ℕ) (bs : List Buffer) (i : ℕ) (a : Bool) : Type 0 where
  pub found : Hit (holds k) m bs i
  pub active : is_active (at bs i).slot ≡ a

-- nothing holds the key, and a free buffer takes it, or there is none
pub record Unheld (k : Key) (m : ℕ) (bs : List Buffer) (f : Option BufferNumber) : Type 0 where
  pub none : Miss (holds k) m bs
  pub free : FindSays is_free m bs f

abbrev pub ChosenSays : Key → ℕ → List Buffer → Choice → Type 0
ChosenSays k m bs NoRoom = Unheld k m bs None
ChosenSays k m bs LimitReached = ⊥
ChosenSays k m bs (Held n) = Holder k m bs n.0 true
ChosenSays k m bs (Reused n) = Holder k m bs n.0 false
ChosenSays k m bs (Took n) = Unheld k m bs (Some n)

pub chosen_says : (k : Key) (m : ℕ) (bs : List Buffer) → ChosenSays k m bs (chosen k (take m bs))
unfolding chosen
chosen_says k m bs = go (find (holds k) (take m bs)) (find_says (holds k) m bs)
  where
    held_case : (n : BufferNumber) → Hit (holds k) m bs n.0 → (a : Bool) → is_active (at bs n.0).slot ≡ a → ChosenSays k m bs (cond a (Held n) (Reused n))
    held_case n r true e = record { found = r; active = e }
    held_case n r false e = record { found = r; active = e }

    free_case : Miss (holds k) m bs → (f : Option BufferNumber) → FindSays is_free m bs f → ChosenSays k m bs (choose_free f)
    free_case u None r = record { none = u; free = r }
    free_case u (Some n) r = record { none = u; free = r }

    go : (f : Option BufferNumber) → FindSays (holds k) m bs f → ChosenSays k m bs (choose_held (take m bs) f)
    go None u = free_case u (find is_free (take m bs)) (find_says is_free m bs)
    go (Some n) r = held_case n r (is_active (at (take m bs) n.0).slot) (ap (λ (b : Buffer). is_active b.slot) (sym (get_or-take m bs n.0 vacant r.small)))

-- ---- a search finds the lowest

abbrev pub LowestSays : (Slot → Bool) → List Buffer → Option BufferNumber → Type 0
LowestSays f bs None = Unit {0}
LowestSays f bs (Some n) = (i : ℕ) → i < n.0 → f (at bs i).slot ≡ false

pub find_lowest : (f : Slot → Bool) (m : ℕ) (bs : List Buffer) → LowestSays f bs (find f (take m bs))
unfolding find
find_lowest f zero bs = tt
find_lowest f (suc m) [] = tt
find_lowest f (suc m) (b ∷ bs) = go (f b.slot) refl (find f (take m bs)) (find_lowest f m bs)
  where
    go : (t : Bool) → f b.slot ≡ t → (r : Option BufferNumber) → LowestSays f bs r → LowestSays f (b ∷ bs) (cond t (Some (record { 0 = 0 })) (later r))
    go true e r s = λ i l. absurd (not-suc-le-zero l)
    go false e None s = tt
    go false e (Some n) s = by
      where
        by : (i : ℕ) → i < suc n.0 → f (at (b ∷ bs) i).slot ≡ false
        by zero l = e
        by (suc i) l = s i (le_of_suc-le-suc l)

-- ---- the limit

pub may_store_lem : (t : Translator) (z : Lane) → may_store t.count (held_by z (take t.count t.buffers)) ≡ true → ¬ (AtLimit z t)
may_store_lem t z e full =
    let below : held_by z (take t.count t.buffers) + 1 < t.count = ltb-true (held_by z (take t.count t.buffers) + 1) t.count e in
    absurd (omega (arith, full, below))

pub may_not_store : (t : Translator) (z : Lane) → may_store t.count (held_by z (take t.count t.buffers)) ≡ false → AtLimit z t
may_not_store t z e = ltb-false (held_by z (take t.count t.buffers) + 1) t.count e

abbrev pub is_held : Choice → Bool
is_held NoRoom = false
is_held LimitReached = false
is_held (Held n) = true
is_held (Reused n) = false
is_held (Took n) = false

-- the lane may store, and what the search says
pub record Stores (b : ℕ) (k : Key) (m : ℕ) (bs : List Buffer) (c : Choice) : Type 0 where
  pub may : may_store b (held_by k.lane (take m bs)) ≡ true
  pub says : ChosenSays k m bs c

-- the lane may not store; the search found no pending or ready buffer with the key first
pub record Limited (b : ℕ) (k : Key) (m : ℕ) (bs : List Buffer) : Type 0 where
  pub full : may_store b (held_by k.lane (take m bs)) ≡ false
  pub wanted : Choice
  pub says : ChosenSays k m bs wanted
  pub unheld : is_held wanted ≡ false

abbrev pub PermittedSays : ℕ → Key → ℕ → List Buffer → Choice → Type 0
PermittedSays b k m bs NoRoom = Stores b k m bs NoRoom
PermittedSays b k m bs LimitReached = Limited b k m bs
PermittedSays b k m bs (Held n) = ChosenSays k m bs (Held n)
PermittedSays b k m bs (Reused n) = Stores b k m bs (Reused n)
PermittedSays b k m bs (Took n) = Stores b k m bs (Took n)

pub permitted_says : (b : ℕ) (k : Key) (m : ℕ) (bs : List Buffer) → PermittedSays b k m bs (permitted b k (take m bs))
unfolding permitted
permitted_says b k m bs = go (may_store b (held_by k.lane (take m bs))) refl (chosen k (take m bs)) (chosen_says k m bs)
  where
    go : (x : Bool) → may_store b (held_by k.lane (take m bs)) ≡ x → (c : Choice) → ChosenSays k m bs c → PermittedSays b k m bs (limited x c)
    go true e NoRoom r = record { may = e; says = r }
    go true e LimitReached r = absurd r
    go true e (Held n) r = r
    go true e (Reused n) r = record { may = e; says = r }
    go true e (Took n) r = record { may = e; says = r }
    go false e NoRoom r = record { full = e; wanted = NoRoom; says = r; unheld = refl }
    go false e LimitReached r = absurd r
    go false e (Held n) r = r
    go false e (Reused n) r = record { full = e; wanted = Reused n; says = r; unheld = refl }
    go false e (Took n) r = record { full = e; wanted = Took n; says = r; unheld = refl }

-- ---- the earliest

pub place_of : (s : Slot) → is_pending s ≡ true → (p : ℕ) × (at_place p s ≡ true)
place_of Empty e = absurd (false≢true e)
place_of (Pending s p) e = (p, eq-eqb p p refl)
place_of (Ready s r) e = absurd (false≢true e)
place_of (Old s r) e = absurd (false≢true e)

-- what was found so far says of the first i buffers
pub record First (bs : List Buffer) (i : ℕ) (n : BufferNumber) (p : ℕ) : Type 0 where
  pub small : n.0 < i
  pub placed : at_place p (at bs n.0).slot ≡ true
  pub least : (j q : ℕ) → j < i → at_place q (at bs j).slot ≡ true → p ≤ q

abbrev pub EarliestSays : List Buffer → ℕ → Option (BufferNumber × ℕ) → Type 0
EarliestSays bs i None = (j : ℕ) → j < i → is_pending (at bs j).slot ≡ false
EarliestSays bs i (Some (n, p)) = First bs i n p

module _ (bs : List Buffer) (i : ℕ) where
  -- one more buffer, which is not pending
  quiet : is_pending (at bs i).slot ≡ false → (e : Option (BufferNumber × ℕ)) → EarliestSays bs i e → EarliestSays bs (suc i) e
  quiet np None s = λ j h. go j h (ℕ_discrete j i)
    where
      go : (j : ℕ) → j < suc i → Dec (j ≡ i) → is_pending (at bs j).slot ≡ false
      go j h (yes q) = ap (λ (x : ℕ). is_pending (at bs x).slot) q ∙ np
      go j h (no nq) = s j (omega (arith, h, nq))
  quiet np (Some (n, p)) s =
      record { small = omega (arith, s.small); placed = s.placed; least = λ j q h e. go j q h e (ℕ_discrete j i) }
    where
      go : (j q : ℕ) → j < suc i → at_place q (at bs j).slot ≡ true → Dec (j ≡ i) → p ≤ q
      go j q h e (yes x) = absurd (true≢false (sym (placed_pending q (at bs i).slot (ap (λ (y : ℕ). at_place q (at bs y).slot) (sym x) ∙ e)) ∙ np))
      go j q h e (no nx) = s.least j q (omega (arith, h, nx)) e

  -- the least so far, and one more at the place p
  least_more : (p l : ℕ) → at_place p (at bs i).slot ≡ true → l ≤ p → ((j q : ℕ) → j < i → at_place q (at bs j).slot ≡ true → l ≤ q)
      → (j q : ℕ) → j < suc i → at_place q (at bs j).slot ≡ true → l ≤ q
  least_more p l here le so_far j q h e = go (ℕ_discrete j i)
    where
      go : Dec (j ≡ i) → l ≤ q
      go (yes x) =
          let same : p ≡ q = only-place p q (at bs i).slot here (ap (λ (y : ℕ). at_place q (at bs y).slot) (sym x) ∙ e) in
          omega (arith, same, le)
      go (no nx) = so_far j q (omega (arith, h, nx)) e

  onward : (s : Slot) → (at bs i).slot ≡ s → (e : Option (BufferNumber × ℕ)) → EarliestSays bs i e → EarliestSays bs (suc i) (sooner e s (record { 0 = i }))
  onward Empty at-s e says = quiet (ap is_pending at-s) e says
  onward (Ready s r) at-s e says = quiet (ap is_pending at-s) e says
  onward (Old s r) at-s e says = quiet (ap is_pending at-s) e says
  onward (Pending s p) at-s None says =
      let here : at_place p (at bs i).slot ≡ true = ap (at_place p) at-s ∙ eq-eqb p p refl in
      record {
        small = omega arith;
        placed = here;
        least = least_more p p here (omega arith) (λ j q h e. absurd (true≢false (sym (placed_pending q (at bs j).slot e) ∙ says j h)));
      }
  onward (Pending s p) at-s (Some (n, q)) says = go (ltb p q) refl
    where
      here : at_place p (at bs i).slot ≡ true
      here = ap (at_place p) at-s ∙ eq-eqb p p refl

      go : (x : Bool) → ltb p q ≡ x → EarliestSays bs (suc i) (cond x (Some ((record { 0 = i }), p)) (Some (n, q)))
      go true t =
          record {
            small = omega arith;
            placed = here;
            least = least_more p p here (omega arith)
                (λ j r h e. let a : q ≤ r = says.least j r h e in let b : p < q = ltb-true p q t in omega (arith, a, b));
          }
      go false t =
          record { small = omega (arith, says.small); placed = says.placed; least = least_more p q here (ltb-false p q t) says.least }

-- the pass from number i on, over what is left
over_rest : (bs cs : List Buffer) (i : ℕ) (e : Option (BufferNumber × ℕ)) → drop i bs ≡ cs → i + length cs ≡ length bs → EarliestSays bs i e
    → EarliestSays bs (length bs) (pass sooner i e cs)
unfolding pass
over_rest bs [] i e d l says = let n : i ≡ length bs = omega (arith, l) in subst (λ (m : ℕ). EarliestSays bs m e) n says
over_rest bs (c ∷ cs) i e d l says =
    let z : i + 0 ≡ i = omega arith in
    let here : at bs i ≡ c = ap (at bs) (sym z) ∙ (sym (get_or-drop i bs 0 vacant) ∙ ap (λ (x : List Buffer). at x 0) d) in
    let one : i + 1 ≡ suc i = omega arith in
    let rest : drop (suc i) bs ≡ cs = ap (λ (n : ℕ). drop n bs) (sym one) ∙ (sym (drop-drop 1 i bs) ∙ ap (drop 1) d) in
    over_rest bs cs (suc i) (sooner e c.slot (record { 0 = i })) rest (omega (arith, l))
    (onward bs i c.slot (ap (λ (b : Buffer). b.slot) here) e says)

pub earliest_says : (bs : List Buffer) → EarliestSays bs (length bs) (earliest bs)
unfolding earliest
earliest_says bs = over_rest bs bs 0 None refl (omega arith) (λ j h. absurd (not-suc-le-zero h))
