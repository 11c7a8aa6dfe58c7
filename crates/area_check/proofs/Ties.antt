-- What the tests of the buffers among each other come to, over plain values. Assumes nothing.
use mathlib.Core.Path.{◌≡◌, refl, sym, ap, ◌∙◌}
use mathlib.Core.List.{List, [], ◌∷◌, ◌++◌, map}
use mathlib.Core.Bool.{Bool, true, false, cond, false≢true, not, ◌&&◌, ◌||◌, and-false, or-false, and-eq-true_iff}
use Prim.Native.Nat.{ℕ, zero, suc, ◌≤◌, ◌<◌}
use native.Mathlib.Nat.{not-suc-le-zero}
use native.Mathlib.Omega.{arith}
use lib.ListN.{length, get_or, take, drop, get_or-map}
use lib.Dec.{eqb, leb, ltb}
use borrow.Author.Tests.{eq-eqb, ne_eqb, ltb-true, leb-true}
use Rattle.std.proofs.lemmas.List.{map-append, get_or_past}
use Rattle.std.specs.Simd.{first_chunks}
use Rattle.std.specs.List.{list_all, list_any}
use Rattle.buffer.specs.declared.Lane.{Lane}
use Rattle.buffer.specs.declared.Lane.TheVariants.{Zero, One}
use Rattle.buffer.specs.declared.StartSplit.{StartSplit}
use Rattle.buffer.specs.declared.Slot.{Slot}
use Rattle.buffer.specs.declared.Slot.TheVariants.{Empty, Pending, Ready, Old}
use Rattle.buffer.specs.declared.Buffer.{Buffer}
use Rattle.buffer.specs.Same.{same_key}
use Rattle.buffer.specs.Key.{key_of, same_lane}
use Rattle.buffer.specs.Buffer.{vacant, is_pending, active_in}
use Rattle.numbers.specs.Named.{result_from}
use Rattle.area_check.specs.declared.TheConstants.{PAIRS}
use Rattle.area_check.specs.Rows.{parts}
use Rattle.translator.specs.Slots.{slots_in}
use Rattle.area_check.specs.Read.{lane_in, filled_by, held_split, slot_named, slot_of, buffer_of, no_buffers, buffers_of, clash, clash_any, clashing, runs}
use Rattle.area_check.proofs.Rows.{All, all_drop}
use Rattle.area_check.proofs.Parts.{three}

-- ---- two buffers

clash_empty : (x : Slot) → clash x Empty ≡ false
clash_empty Empty = refl
clash_empty (Pending s p) = refl
clash_empty (Ready s r) = refl
clash_empty (Old s r) = refl

-- a status outside 1 to 3 is read as empty
slot_none : (n : ℕ) (s : StartSplit) (last : ℕ) → leb 1 n && ltb n 4 ≡ false → slot_named n s last ≡ Empty
slot_none n s last e =
    rw (ne_eqb n 1 (other 1 refl), ne_eqb n 2 (other 2 refl), ne_eqb n 3 (other 3 refl))
  where
    other : (m : ℕ) → leb 1 m && ltb m 4 ≡ true → n ≡ m → ⊥
    other m t q = false≢true (sym e ∙ ap (λ (k : ℕ). leb 1 k && ltb k 4) q ∙ t)

module _ (x y : List ℕ) where
  pub clash_first : leb 1 (get_or x 0 0) && ltb (get_or x 0 0) 4 ≡ false → false ≡ clash (slot_of x) (slot_of y)
  unfolding slot_of
  clash_first e = sym (ap (λ (s : Slot). clash s (slot_of y)) (slot_none (get_or x 0 0) (held_split x) (get_or x 6 0) e))

  pub clash_second : leb 1 (get_or y 0 0) && ltb (get_or y 0 0) 4 ≡ false → false ≡ clash (slot_of x) (slot_of y)
  unfolding slot_of
  clash_second e =
      sym (ap (clash (slot_of x)) (slot_none (get_or y 0 0) (held_split y) (get_or y 6 0) e) ∙ clash_empty (slot_of x))

  abbrev key : Bool
  key = same_key (key_of (held_split y)) (key_of (held_split x))

  abbrev Clash : ℕ → ℕ → Type 0
  Clash m n =
      key || (eqb m 1 && (eqb n 1 && eqb (get_or y 6 0) (get_or x 6 0)))
      ≡ clash (slot_named m (held_split x) (get_or x 6 0)) (slot_named n (held_split y) (get_or y 6 0))

  held : (n : ℕ) → leb 1 n && ltb n 4 ≡ true → (n < 4) × ¬ (n ≡ 0)
  held n e =
      let t = (and-eq-true_iff (leb 1 n) (ltb n 4)).0 e in
      let h : 1 ≤ n = leb-true 1 n t.0 in
      (ltb-true n 4 t.1, λ q. omega arith)

  -- two held buffers
  pub clash_both : leb 1 (get_or x 0 0) && ltb (get_or x 0 0) 4 ≡ true → leb 1 (get_or y 0 0) && ltb (get_or y 0 0) 4 ≡ true
      → key || (eqb (get_or x 0 0) 1 && (eqb (get_or y 0 0) 1 && eqb (get_or y 6 0) (get_or x 6 0))) ≡ clash (slot_of x) (slot_of y)
  unfolding slot_of
  clash_both e f =
      let u = held (get_or x 0 0) e in
      let v = held (get_or y 0 0) f in
      three (λ (m : ℕ). Clash m (get_or y 0 0))
      (three (Clash 1) refl refl refl (get_or y 0 0) v.0 v.1)
      (three (Clash 2) (or-false key) (or-false key) (or-false key) (get_or y 0 0) v.0 v.1)
      (three (Clash 3) (or-false key) (or-false key) (or-false key) (get_or y 0 0) v.0 v.1)
      (get_or x 0 0) u.0 u.1

  pub clash_is : ((leb 1 (get_or x 0 0) && ltb (get_or x 0 0) 4) && (leb 1 (get_or y 0 0) && ltb (get_or y 0 0) 4))
      && (key || (eqb (get_or x 0 0) 1 && (eqb (get_or y 0 0) 1 && eqb (get_or y 6 0) (get_or x 6 0))))
      ≡ clash (slot_of x) (slot_of y)
  clash_is = go (leb 1 (get_or x 0 0) && ltb (get_or x 0 0) 4) refl (leb 1 (get_or y 0 0) && ltb (get_or y 0 0) 4) refl
    where
      go : (a : Bool) → leb 1 (get_or x 0 0) && ltb (get_or x 0 0) 4 ≡ a → (b : Bool) → leb 1 (get_or y 0 0) && ltb (get_or y 0 0) 4 ≡ b
          → (a && b) && (key || (eqb (get_or x 0 0) 1 && (eqb (get_or y 0 0) 1 && eqb (get_or y 6 0) (get_or x 6 0)))) ≡ clash (slot_of x) (slot_of y)
      go true p true q = clash_both p q
      go true p false q = clash_second q
      go false p b q = clash_first p

-- ---- pending or ready under a key of a lane

pub filled_is : (z : Lane) (l : List ℕ) → ((eqb (get_or l 0 0) 1 || eqb (get_or l 0 0) 2) && same_lane (lane_in (get_or l 3 0)) z) ≡ filled_by z l
unfolding filled_by slot_of held_split
filled_is z l = go (held_split l) (eqb (get_or l 0 0) 1) (eqb (get_or l 0 0) 2) (eqb (get_or l 0 0) 3)
  where
    go : (s : StartSplit) (x y w : Bool)
        → ((x || y) && same_lane s.lane z) ≡ active_in z (cond x (Pending s (get_or l 6 0)) (cond y (Ready s (result_from (get_or l 6 0))) (cond w (Old s (result_from (get_or l 6 0))) Empty)))
    go s true y w = refl
    go s false true w = refl
    go s false false true = refl
    go s false false false = refl

-- a lane that holds every buffer holds the first
pub first_crowds : (rows : List (List ℕ)) → 0 < length rows
    → list_all (filled_by (lane_in (get_or (get_or rows 0 []) 3 0))) rows ≡ (list_all (filled_by Zero) rows || list_all (filled_by One) rows)
first_crowds [] many = absurd (not-suc-le-zero many)
first_crowds (l ∷ rows) many = go (lane_in (get_or l 3 0)) refl
  where
    none : (y z : Lane) → lane_in (get_or l 3 0) ≡ y → same_lane y z ≡ false → (filled_by z l && list_all (filled_by z) rows) ≡ false
    none y z e d = rw (sym (filled_is z l), e, d, and-false (eqb (get_or l 0 0) 1 || eqb (get_or l 0 0) 2))

    go : (z : Lane) → lane_in (get_or l 3 0) ≡ z
        → list_all (filled_by z) (l ∷ rows) ≡ (list_all (filled_by Zero) (l ∷ rows) || list_all (filled_by One) (l ∷ rows))
    go Zero e = rw (none Zero One e refl) (sym (or-false _))
    go One e = rw (none One Zero e refl)

-- ---- no two of the buffers clash

abbrev pub pair_clashes : List (List ℕ) → ℕ × ℕ → Bool
pair_clashes rows p = clash (get_or (map slot_of rows) p.0 Empty) (get_or (map slot_of rows) p.1 Empty)

-- the pairs are all that up to four buffers have
pub all_pairs : (rows : List (List ℕ)) → length rows ≤ 4 → list_any (pair_clashes rows) PAIRS ≡ clashing (map slot_of rows)
unfolding clashing
all_pairs [] h = refl
all_pairs (x ∷ []) h = grind (arith, clash_empty)
all_pairs (x ∷ y ∷ []) h = grind (arith, clash_empty)
all_pairs (x ∷ y ∷ z ∷ []) h = grind (arith, clash_empty)
all_pairs (x ∷ y ∷ z ∷ w ∷ []) h = grind (arith, clash_empty)
all_pairs (x ∷ y ∷ z ∷ w ∷ v ∷ rows) h = absurd (omega arith)

-- ---- the running one

pending : (s : ℕ) (x : StartSplit) (last : ℕ) → is_pending (slot_named s x last) ≡ eqb s 1
pending s x last = go (eqb s 1) (eqb s 2) (eqb s 3)
  where
    go : (a b c : Bool) → is_pending (cond a (Pending x last) (cond b (Ready x (result_from last)) (cond c (Old x (result_from last)) Empty))) ≡ a
    go true b c = refl
    go false true c = refl
    go false false true = refl
    go false false false = refl

pub runs_is : (rows : List (List ℕ)) (low i : ℕ) → (not (eqb low 1) || eqb (get_or (get_or rows i []) 0 0) 1) ≡ runs (map slot_of rows) low i
unfolding runs slot_of
runs_is rows low i = go (eqb low 1)
  where
    here : is_pending (get_or (map slot_of rows) i Empty) ≡ eqb (get_or (get_or rows i []) 0 0) 1
    here =
        let l : List ℕ = get_or rows i [] in
        ap is_pending (get_or-map slot_of rows i []) ∙ pending (get_or l 0 0) (held_split l) (get_or l 6 0)

    go : (b : Bool) → (not b || eqb (get_or (get_or rows i []) 0 0) 1) ≡ cond b (is_pending (get_or (map slot_of rows) i Empty)) true
    go true = sym here
    go false = refl

pub runs_none : (rows : List (List ℕ)) (low i : ℕ) → low ≡ 1 → length rows ≤ i → false ≡ runs (map slot_of rows) low i
runs_none rows low i e h = rw (eq-eqb low 1 e, get_or_past rows i [] h) at (runs_is rows low i)

-- ---- the slots of all four buffers: those that aren't in use are empty

slots_rows : (n : ℕ) (l : List ℕ) → map (λ (b : Buffer). b.slot) (parts buffer_of 72 n l) ≡ map slot_of (first_chunks 72 n l)
unfolding parts buffer_of
slots_rows zero l = refl
slots_rows (suc n) l = ap (λ (r : List Slot). slot_of (take 72 l) ∷ r) (slots_rows n (drop 72 l))

pub vacant_buffers : All (λ (b : Buffer). b ≡ vacant) no_buffers
unfolding All no_buffers
vacant_buffers = (refl, (refl, (refl, (refl, tt))))

pub four_long : length no_buffers ≡ 4
unfolding no_buffers
four_long = refl

empties : (bs : List Buffer) → All (λ (b : Buffer). b ≡ vacant) bs → All (λ (s : Slot). s ≡ Empty) (slots_in bs)
unfolding All
empties [] h = tt
empties (b ∷ bs) h = (ap (λ (x : Buffer). x.slot) h.0, empties bs h.1)

slot_spare : (xs es : List Slot) → All (λ (s : Slot). s ≡ Empty) es → (i : ℕ) → get_or (xs ++ es) i Empty ≡ get_or xs i Empty
unfolding All
slot_spare [] [] h i = refl
slot_spare [] (e ∷ es) h zero = h.0
slot_spare [] (e ∷ es) h (suc i) = slot_spare [] es h.1 i
slot_spare (x ∷ xs) es h zero = refl
slot_spare (x ∷ xs) es h (suc i) = slot_spare xs es h i

any_spare : (x : Slot) (ys es : List Slot) → All (λ (s : Slot). s ≡ Empty) es → clash_any x (ys ++ es) ≡ clash_any x ys
unfolding All
any_spare x [] [] h = refl
any_spare x [] (e ∷ es) h = rw (h.0, clash_empty x) (any_spare x [] es h.1)
any_spare x (y ∷ ys) es h = ap (λ (b : Bool). clash x y || b) (any_spare x ys es h)

clashing_spare : (xs es : List Slot) → All (λ (s : Slot). s ≡ Empty) es → clashing (xs ++ es) ≡ clashing xs
unfolding All clashing
clashing_spare [] [] h = refl
clashing_spare [] (e ∷ es) h = ap (λ (b : Bool). b || clashing es) (ap (λ (s : Slot). clash_any s es) h.0 ∙ any_spare Empty [] es h.1) ∙ clashing_spare [] es h.1
clashing_spare (x ∷ xs) es h =
    ap (λ (b : Bool). b || clashing (xs ++ es)) (any_spare x xs es h) ∙ ap (λ (b : Bool). clash_any x xs || b) (clashing_spare xs es h)

module _ (n : ℕ) (l : List ℕ) where
  abbrev spare : List Slot
  spare = slots_in (drop n no_buffers)

  none : All (λ (s : Slot). s ≡ Empty) spare
  none = empties (drop n no_buffers) (all_drop (λ (b : Buffer). b ≡ vacant) n no_buffers vacant_buffers)

  slots_are : slots_in (buffers_of n l) ≡ map slot_of (first_chunks 72 n l) ++ spare
  unfolding buffers_of
  slots_are = map-append (λ (b : Buffer). b.slot) (parts buffer_of 72 n l) (drop n no_buffers) ∙ ap (λ (r : List Slot). r ++ spare) (slots_rows n l)

  pub clashing_rows : clashing (map slot_of (first_chunks 72 n l)) ≡ clashing (slots_in (buffers_of n l))
  clashing_rows = sym (ap clashing slots_are ∙ clashing_spare (map slot_of (first_chunks 72 n l)) spare none)

  pub runs_rows : (low i : ℕ) → runs (map slot_of (first_chunks 72 n l)) low i ≡ runs (slots_in (buffers_of n l)) low i
  unfolding runs
  runs_rows low i =
      ap (λ (s : Slot). cond (eqb low 1) (is_pending s) true)
      (sym (ap (λ (r : List Slot). get_or r i Empty) slots_are ∙ slot_spare (map slot_of (first_chunks 72 n l)) spare none i))
