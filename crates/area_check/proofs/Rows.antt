-- Laws of rows, over any type of element and any size: what a turn of a loop over a row does, and that reading a row gives back what was
-- written. Assumes nothing.
use mathlib.Core.Path.{◌≡◌, refl, sym, ap, subst, ◌∙◌}
use mathlib.Core.List.{List, [], ◌∷◌, ◌++◌, map, append_assoc, append-nil}
use mathlib.Core.Bool.{Bool, true, false, ◌&&◌, and-true, and_assoc, and-eq-true_iff}
use Prim.Native.Nat.{ℕ, zero, suc, ◌+◌, ◌-◌, ◌*◌, ◌≤◌, ◌<◌, min, zero-le, suc-le-suc}
use native.Mathlib.Nat.{zero-mul, suc-mul, mul-le-mul_right, add-sub_cancel_left, add-sub_of_le, add-mul, add_comm, le_of_suc-le-suc, not-suc-le-zero}
use native.Mathlib.Numerals.{add-one}
use native.Mathlib.Omega.{arith}
use native.Mathlib.Decide.{dec_le}
use lib.ListN.{length-map, length, get_or, take, drop, set, replicate, length-append, length-drop, take-append-drop, drop_of_length-le, get_or-append}
use lib.Seq.{length-take-le, take-suc, take_at, drop_at, drop-drop, take_all, drop-cons, set_at, split_at, set_split, ext_get_or, get_or-drop, get_or-append-add}
use lib.Dec.{eqb}
use borrow.Author.Tests.{ne_eqb, eqb-true, eqb-false}
use borrow.Rule.Slice.PartMut.{put_mid}
use Rattle.payload.specs.Bytes.{flat}
use Rattle.std.proofs.lemmas.List.{map-append}
use Rattle.std.proofs.lemmas.Nat.{le_or_l, le_or_r}
use Rattle.std.specs.Prelude.{bit_or}
use Rattle.std.specs.Simd.{first_chunks}
use Rattle.std.specs.List.{list_all}
use Rattle.area_check.specs.Rows.{parts, every, blank}

-- the i-th of n parts of k bytes has k bytes
pub part_size : (i n k : ℕ) (o : List ℕ) → i < n → length o ≡ n * k → length (take (i * k + k - i * k) (drop (i * k) o)) ≡ k
part_size i n k o h s =
    let m : (i + 1) * k ≤ n * k = mul-le-mul_right k (omega arith) in
    rw add-sub_cancel_left (length-take-le k (drop (i * k) o) (simp length-drop (omega (arith, add-mul i 1 k))))

-- ---- reading a row

module _ {A : Type 0} (dec : List ℕ → A) (k : ℕ) where
  pub parts_length : (n : ℕ) (l : List ℕ) → length (parts dec k n l) ≡ n
  unfolding parts
  parts_length zero l = refl
  parts_length (suc n) l = ap suc (parts_length n (drop k l))

-- a turn of the loop that reads rows into elements, which were those of row₀: v is stored at i
pub get_turn : {A : Type 0} (dec : List ℕ → A) (row₀ row : List A) (v : A) (rows : List (List ℕ)) (i : ℕ) → i < length row₀ → i < length rows
    → row ≡ map dec (take i rows) ++ drop i row₀ → v ≡ dec (get_or rows i []) → set row i v ≡ map dec (take (i + 1) rows) ++ drop (i + 1) row₀
get_turn {A} dec row₀ row v rows i h k e q =
    let f : List A = map dec (take i rows) in
    let nf : length f ≡ i = length-map (take i rows) dec ∙ length-take-le i rows (omega arith) in
    let n : map dec (take (i + 1) rows) ≡ f ++ (v ∷ []) =
    ap (λ (m : ℕ). map dec (take m rows)) (add-one i)
    ∙ ap (map dec) (take-suc rows i [] k)
    ∙ map-append dec (take i rows) (get_or rows i [] ∷ [])
    ∙ ap (λ (w : A). f ++ (w ∷ [])) (sym q) in
    ap (λ (r : List A). set r i v) (e ∙ ap (λ (r : List A). f ++ r) (drop-cons row₀ i v h))
    ∙ set_at f (get_or row₀ i v) (drop (suc i) row₀) v i nf
    ∙ sym (append_assoc f (v ∷ []) (drop (suc i) row₀))
    ∙ ap (λ (r : List A). r ++ drop (suc i) row₀) (sym n)
    ∙ ap (λ (m : ℕ). map dec (take (i + 1) rows) ++ drop m row₀) (sym (add-one i))

-- ---- writing a row

module _ {A : Type 0} (enc : A → List ℕ) where
  pub flat_append : (xs ys : List A) → flat enc (xs ++ ys) ≡ flat enc xs ++ flat enc ys
  unfolding flat
  flat_append [] ys = refl
  flat_append (x ∷ xs) ys = ap (λ (r : List ℕ). enc x ++ r) (flat_append xs ys) ∙ sym (append_assoc (enc x) (flat enc xs) (flat enc ys))

  pub flat_more : (xs : List A) (i : ℕ) (d : A) → i < length xs → flat enc (take (i + 1) xs) ≡ flat enc (take i xs) ++ enc (get_or xs i d)
  unfolding flat
  flat_more xs i d h =
      ap (λ (n : ℕ). flat enc (take n xs)) (add-one i)
      ∙ ap (flat enc) (take-suc xs i d h)
      ∙ flat_append (take i xs) (get_or xs i d ∷ [])
      ∙ ap (λ (r : List ℕ). flat enc (take i xs) ++ r) (append-nil (enc (get_or xs i d)))

  -- what holds of the bytes o, which were o₀, after i elements of k bytes each
  pub record Put (k : ℕ) (xs : List A) (o₀ o : List ℕ) (i : ℕ) : Type 0 where
    pub bytes : o ≡ flat enc (take i xs) ++ drop (i * k) o₀
    pub count : length (flat enc (take i xs)) ≡ i * k

  pub put_start : (k : ℕ) (xs : List A) (o₀ : List ℕ) → Put k xs o₀ o₀ 0
  unfolding flat
  put_start k xs o₀ = record { bytes = ap (λ (n : ℕ). drop n o₀) (sym (zero-mul k)); count = sym (zero-mul k) }

  put_turn·at : (k : ℕ) (xs : List A) (d : A) (o₀ o b : List ℕ) (i : ℕ) → i < length xs → b ≡ enc (get_or xs i d) → length b ≡ k → Put k xs o₀ o i
      → Put k xs o₀ (put_mid (i * k) k o b) (i + 1)
  put_turn·at k xs d o₀ o b i h e s p =
      let f : List ℕ = flat enc (take i xs) in
      let m : (i + 1) * k ≡ i * k + k = ap (λ (n : ℕ). n * k) (add-one i) ∙ suc-mul i k in
      let front : take (i * k) o ≡ f = ap (take (i * k)) p.bytes ∙ take_at f (drop (i * k) o₀) (i * k) p.count in
      let back : drop (i * k) o ≡ drop (i * k) o₀ = ap (drop (i * k)) p.bytes ∙ drop_at f (drop (i * k) o₀) (i * k) p.count in
      let more : flat enc (take (i + 1) xs) ≡ f ++ b = flat_more xs i d h ∙ ap (λ (r : List ℕ). f ++ r) (sym e) in
      record {
        bytes =
            ap (λ (r : List ℕ). r ++ (b ++ drop k (drop (i * k) o))) front
            ∙ ap (λ (r : List ℕ). f ++ (b ++ r)) (ap (drop k) back ∙ drop-drop k (i * k) o₀ ∙ ap (λ (n : ℕ). drop n o₀) (sym m))
            ∙ sym (append_assoc f b (drop ((i + 1) * k) o₀))
            ∙ ap (λ (r : List ℕ). r ++ drop ((i + 1) * k) o₀) (sym more);
        count =
            ap length more
            ∙ length-append f b
            ∙ ap (λ (n : ℕ). n + length b) p.count
            ∙ ap (λ (n : ℕ). i * k + n) s
            ∙ sym m;
      }

  -- a turn of the loop that writes a row: the element's bytes take the place of those from i * k to i * k + k
  pub put_turn : (k : ℕ) (xs : List A) (d : A) (o₀ o b : List ℕ) (i : ℕ) → i < length xs → b ≡ enc (get_or xs i d) → length b ≡ k → Put k xs o₀ o i
      → Put k xs o₀ (put_mid (i * k) (i * k + k - i * k) o b) (i + 1)
  put_turn k xs d o₀ o b i h e s p =
      subst (λ (n : ℕ). Put k xs o₀ (put_mid (i * k) n o b) (i + 1)) (sym (add-sub_cancel_left (i * k) k)) (put_turn·at k xs d o₀ o b i h e s p)

  pub put_length : (k : ℕ) (xs : List A) (o₀ o : List ℕ) (i : ℕ) → i * k ≤ length o₀ → Put k xs o₀ o i → length o ≡ length o₀
  put_length k xs o₀ o i h p =
      ap length p.bytes
      ∙ length-append (flat enc (take i xs)) (drop (i * k) o₀)
      ∙ ap (λ (n : ℕ). n + length (drop (i * k) o₀)) p.count
      ∙ ap (λ (n : ℕ). i * k + n) (length-drop (i * k) o₀)
      ∙ add-sub_of_le h

-- ---- rows as a slice of arrays gives them

pub chunks_long : {X : Type 0} (k n : ℕ) (l : List X) → length (first_chunks k n l) ≡ n
chunks_long k zero l = refl
chunks_long k (suc n) l = ap suc (chunks_long k n (drop k l))

-- testing each
pub every_rows : (f : List ℕ → Bool) (k n : ℕ) (l : List ℕ) → list_all f (first_chunks k n l) ≡ every f k n l
unfolding every
every_rows f k zero l = refl
every_rows f k (suc n) l = ap (λ (b : Bool). f (take k l) && b) (every_rows f k n (drop k l))

-- reading each
pub parts_rows : {A : Type 0} (dec : List ℕ → A) (k n : ℕ) (l : List ℕ) → map dec (first_chunks k n l) ≡ parts dec k n l
unfolding parts
parts_rows dec k zero l = refl
parts_rows dec k (suc n) l = ap (λ r. dec (take k l) ∷ r) (parts_rows dec k n (drop k l))

-- ---- zeros

pub blank_step : (l : List ℕ) (i : ℕ) → i < length l → blank (drop i l) ≡ eqb (get_or l i 0) 0 && blank (drop (i + 1) l)
unfolding blank
blank_step l i h = ap blank (drop-cons l i 0 h) ∙ ap (λ (n : ℕ). eqb (get_or l i 0) 0 && blank (drop n l)) (sym (add-one i))

-- bytes come to 0 if both are
both_zero : (a b : ℕ) → eqb (bit_or a b) 0 ≡ eqb a 0 && eqb b 0
both_zero a b = go (eqb a 0) refl (eqb b 0) refl
  where
    go : (x : Bool) → eqb a 0 ≡ x → (y : Bool) → eqb b 0 ≡ y → eqb (bit_or a b) 0 ≡ x && y
    go true p true q = rw (eqb-true a 0 p, eqb-true b 0 q)
    go true p false q = ne_eqb (bit_or a b) 0 (λ e. eqb-false b 0 q (let h : b ≤ bit_or a b = le_or_r a b in omega arith))
    go false p y q = ne_eqb (bit_or a b) 0 (λ e. eqb-false a 0 p (let h : a ≤ bit_or a b = le_or_l a b in omega arith))

-- a turn of the loop that looks for zeros, with what the bytes come to so far: what is left still gives the answer
pub blank_turn : (l : List ℕ) (i all : ℕ) → i < length l → blank l ≡ eqb all 0 && blank (drop i l)
    → blank l ≡ eqb (bit_or all (get_or l i 0)) 0 && blank (drop (i + 1) l)
blank_turn l i all h e =
    e
    ∙ ap (λ (b : Bool). eqb all 0 && b) (blank_step l i h)
    ∙ sym (ap (λ (b : Bool). b && blank (drop (i + 1) l)) (both_zero all (get_or l i 0)) ∙ and_assoc (eqb all 0) (eqb (get_or l i 0) 0) _)

pub blank_end : (l : List ℕ) (i all : ℕ) → length l ≤ i → blank l ≡ eqb all 0 && blank (drop i l) → eqb all 0 ≡ blank l
unfolding blank
blank_end l i all h e = sym (e ∙ ap (λ (r : List ℕ). eqb all 0 && blank r) (drop_of_length-le l h) ∙ and-true (eqb all 0))

-- the slice from a place on
rest_is : {A : Type 0} (l : List A) (m : ℕ) → take (length l - m) (drop m l) ≡ drop m l
rest_is l m = take_all (length l - m) (drop m l) (simp length-drop (omega arith))

-- the bytes looked at are those from the start on, none where there are none
pub blank_slice : (l : List ℕ) (start m : ℕ) → m ≡ min start (length l) → take (length l - m) (drop m l) ≡ drop start l
blank_slice l start m e = rest_is l m ∙ go (dec_le start (length l))
  where
    go : Dec (start ≤ length l) → drop m l ≡ drop start l
    go (yes h) = let q : m ≡ start = omega arith in ap (λ (k : ℕ). drop k l) q
    go (no h) =
        let q : length l ≤ m = omega arith in
        let r : length l ≤ start = omega arith in
        drop_of_length-le l q ∙ sym (drop_of_length-le l r)

pub blank_to : (l : List ℕ) → blank l ≡ true → l ≡ replicate (length l) 0
unfolding blank
blank_to [] e = refl
blank_to (x ∷ xs) e =
    let t = (and-eq-true_iff (eqb x 0) (blank xs)).0 e in
    ap (λ (n : ℕ). n ∷ xs) (eqb-true x 0 t.0) ∙ ap (λ (r : List ℕ). 0 ∷ r) (blank_to xs t.1)

pub blank_of : (n : ℕ) → blank (replicate n 0) ≡ true
unfolding blank
blank_of zero = refl
blank_of (suc n) = blank_of n

-- ---- bytes put one part after the other

-- p in the place of the k bytes after f
pub put_next : (a k : ℕ) (f r p : List ℕ) → length f ≡ a → put_mid a k (f ++ r) p ≡ (f ++ p) ++ drop k r
put_next a k f r p e =
    ap (λ (l : List ℕ). l ++ (p ++ drop k (drop a (f ++ r)))) (take_at f r a e)
    ∙ ap (λ (l : List ℕ). f ++ (p ++ drop k l)) (drop_at f r a e)
    ∙ sym (append_assoc f p (drop k r))

-- one element of a row written anew, between the bytes before the row and those behind it
pub row_put : {A : Type 0} (enc : A → List ℕ) (k m : ℕ) (hd r : List ℕ) (xs : List A) (i : ℕ) (y d : A) → length hd ≡ m → i < length xs
    → length (flat enc (take i xs)) ≡ i * k → length (enc (get_or xs i d)) ≡ k
    → put_mid (m + i * k) k (hd ++ (flat enc xs ++ r)) (enc y) ≡ hd ++ (flat enc (set xs i y) ++ r)
unfolding flat
row_put {A} enc k m hd r xs i y d nh h nf nx =
    let x : A = get_or xs i d in
    let f : List ℕ = flat enc (take i xs) in
    let g : List ℕ = flat enc (drop (suc i) xs) in
    let whole : flat enc xs ≡ f ++ (enc x ++ g) = ap (flat enc) (split_at xs i d h) ∙ flat_append enc (take i xs) (x ∷ drop (suc i) xs) in
    let after : flat enc (set xs i y) ≡ f ++ (enc y ++ g) = ap (flat enc) (set_split xs i y h) ∙ flat_append enc (take i xs) (y ∷ drop (suc i) xs) in
    let join : (z : List ℕ) → hd ++ ((f ++ (z ++ g)) ++ r) ≡ (hd ++ f) ++ (z ++ (g ++ r)) =
    λ z. ap (λ (l : List ℕ). hd ++ l) (append_assoc f (z ++ g) r ∙ ap (λ (l : List ℕ). f ++ l) (append_assoc z g r)) ∙ sym (append_assoc hd f (z ++ (g ++ r))) in
    let n : length (hd ++ f) ≡ m + i * k = length-append hd f ∙ ap (λ (a : ℕ). a + length f) nh ∙ ap (λ (a : ℕ). m + a) nf in
    ap (λ (l : List ℕ). put_mid (m + i * k) k l (enc y)) (ap (λ (l : List ℕ). hd ++ (l ++ r)) whole ∙ join (enc x))
    ∙ put_next (m + i * k) k (hd ++ f) (enc x ++ (g ++ r)) (enc y) n
    ∙ ap (λ (l : List ℕ). ((hd ++ f) ++ enc y) ++ l) (drop_at (enc x) (g ++ r) k nx)
    ∙ append_assoc (hd ++ f) (enc y) (g ++ r)
    ∙ sym (join (enc y))
    ∙ ap (λ (l : List ℕ). hd ++ (l ++ r)) (sym after)

-- ---- what holds of each element

unfoldable pub All : {A : Type 0} → (A → Type 0) → List A → Type 0
All P [] = Unit {0}
All P (x ∷ xs) = P x × All P xs

pub all_map : {A : Type 0} {P Q : A → Type 0} → ((x : A) → P x → Q x) → (xs : List A) → All P xs → All Q xs
unfolding All
all_map f [] h = tt
all_map f (x ∷ xs) h = (f x h.0, all_map f xs h.1)

module _ {A : Type 0} (P : A → Type 0) where
  pub all_append : (xs ys : List A) → All P xs → All P ys → All P (xs ++ ys)
  unfolding All
  all_append [] ys h k = k
  all_append (x ∷ xs) ys h k = (h.0, all_append xs ys h.1 k)

  pub all_drop : (n : ℕ) (xs : List A) → All P xs → All P (drop n xs)
  unfolding All
  all_drop zero xs h = h
  all_drop (suc n) [] h = tt
  all_drop (suc n) (x ∷ xs) h = all_drop n xs h.1

  -- an element, or the default
  pub all_each : (d : A) → P d → (xs : List A) → All P xs → (i : ℕ) → P (get_or xs i d)
  unfolding All
  all_each d p [] h i = p
  all_each d p (x ∷ xs) h zero = h.0
  all_each d p (x ∷ xs) h (suc i) = all_each d p xs h.1 i

  pub all_at : (d : A) (xs : List A) → All P xs → (i : ℕ) → i < length xs → P (get_or xs i d)
  unfolding All
  all_at d [] h i k = absurd (not-suc-le-zero k)
  all_at d (x ∷ xs) h zero k = h.0
  all_at d (x ∷ xs) h (suc i) k = all_at d xs h.1 i (le_of_suc-le-suc k)

  -- what holds of each of the first n
  pub all_take : (d : A) (n : ℕ) (xs : List A) → ((i : ℕ) → i < n → P (get_or xs i d)) → All P (take n xs)
  unfolding All
  all_take d zero xs f = tt
  all_take d (suc n) [] f = tt
  all_take d (suc n) (x ∷ xs) f = (f 0 (suc-le-suc zero-le), all_take d n xs (λ i h. f (suc i) (suc-le-suc h)))

-- ---- a row that is in use up to n, and whose entries behind it are all d

module _ {A : Type 0} (d : A) (none : List A) (same : All (λ (x : A). x ≡ d) none) (n : ℕ) where
  none_at : (i : ℕ) → get_or none i d ≡ d
  none_at i = all_each (λ (x : A). x ≡ d) d refl none same i

  module _ (xs : List A) (e : length xs ≡ n) where
    pub row_each : (P : A → Type 0) → P d → All P xs → (i : ℕ) → P (get_or (xs ++ drop n none) i d)
    row_each P p h i =
        all_each P d p (xs ++ drop n none)
        (all_append P xs (drop n none) h (all_drop P n none (all_map (λ x q. subst P (sym q) p) none same)))
        i

    pub row_used : (P : A → Type 0) → All P xs → (i : ℕ) → i < n → P (get_or (xs ++ drop n none) i d)
    row_used P h i k =
        let k' : i < length xs = omega arith in
        subst P (sym (get_or-append xs (drop n none) d i k')) (all_at P d xs h i k')

    pub row_spare : (i : ℕ) → n ≤ i → get_or (xs ++ drop n none) i d ≡ d
    row_spare i k =
        let j : i ≡ length xs + (i - n) = omega arith in
        ap (λ (m : ℕ). get_or (xs ++ drop n none) m d) j ∙ get_or-append-add xs (drop n none) (i - n) d ∙ get_or-drop n none (i - n) d ∙ none_at (n + (i - n))

    pub row_long : (k : ℕ) → length none ≡ k → n ≤ k → length (xs ++ drop n none) ≡ k
    row_long k l h = simp (length-append, length-drop) (omega arith)

  pub row_tail : (xs : List A) → length xs ≡ length none → ((i : ℕ) → n ≤ i → get_or xs i d ≡ d) → drop n xs ≡ drop n none
  row_tail xs e f =
      ext_get_or d (drop n xs) (drop n none) (simp length-drop (ap (λ (m : ℕ). m - n) e))
      (λ i h. get_or-drop n xs i d ∙ f (n + i) (omega arith) ∙ sym (get_or-drop n none i d ∙ none_at (n + i)))

-- ---- reading gives back what was written

module _ {A : Type 0} (enc : A → List ℕ) (dec : List ℕ → A) (k : ℕ) where
  -- an element that is written in k bytes and read back
  pub record Kept (x : A) : Type 0 where
    pub size : length (enc x) ≡ k
    pub again : dec (enc x) ≡ x

  pub flat_length : (xs : List A) → All Kept xs → length (flat enc xs) ≡ length xs * k
  unfolding flat All
  flat_length [] h = sym (zero-mul k)
  flat_length (x ∷ xs) h =
      length-append (enc x) (flat enc xs)
      ∙ ap (λ (n : ℕ). n + length (flat enc xs)) h.0.size
      ∙ ap (λ (n : ℕ). k + n) (flat_length xs h.1)
      ∙ add_comm k (length xs * k)
      ∙ sym (suc-mul (length xs) k)

  pub parts_flat : (xs : List A) → All Kept xs → parts dec k (length xs) (flat enc xs) ≡ xs
  unfolding flat All parts
  parts_flat [] h = refl
  parts_flat (x ∷ xs) h =
      let p = ap dec (take_at (enc x) (flat enc xs) k h.0.size) ∙ h.0.again in
      let q = ap (parts dec k (length xs)) (drop_at (enc x) (flat enc xs) k h.0.size) ∙ parts_flat xs h.1 in
      cc

pub flat_size : {A : Type 0} (enc : A → List ℕ) (k : ℕ) → ((x : A) → length (enc x) ≡ k) → (xs : List A) → length (flat enc xs) ≡ length xs * k
unfolding flat
flat_size enc k e [] = sym (zero-mul k)
flat_size enc k e (x ∷ xs) =
    length-append (enc x) (flat enc xs)
    ∙ ap (λ (n : ℕ). n + length (flat enc xs)) (e x)
    ∙ ap (λ (n : ℕ). k + n) (flat_size enc k e xs)
    ∙ add_comm k (length xs * k)
    ∙ sym (suc-mul (length xs) k)

-- ---- a row's test, and what it says of the row

module _ {A : Type 0} (f : List ℕ → Bool) (enc : A → List ℕ) (dec : List ℕ → A) (k : ℕ) where
  pub every_to : (P : A → Type 0) → ((l : List ℕ) → length l ≡ k → f l ≡ true → (enc (dec l) ≡ l) × P (dec l)) → (n : ℕ) (l : List ℕ) → length l ≡ n * k
      → every f k n l ≡ true → (flat enc (parts dec k n l) ≡ l) × All P (parts dec k n l)
  unfolding every flat parts All
  every_to P g zero [] s e = (refl, tt)
  every_to P g zero (x ∷ l) s e = absurd (omega (arith, s, zero-mul k))
  every_to P g (suc n) l s e =
      let m : length l ≡ n * k + k = s ∙ suc-mul n k in
      let t = (and-eq-true_iff (f (take k l)) (every f k n (drop k l))).0 e in
      let here = g (take k l) (length-take-le k l (omega arith)) t.0 in
      let rest = every_to P g n (drop k l) (simp length-drop (omega arith)) t.1 in (
        ap (λ (r : List ℕ). r ++ flat enc (parts dec k n (drop k l))) here.0 ∙ ap (λ (r : List ℕ). take k l ++ r) rest.0 ∙ take-append-drop k l,
        (here.1, rest.1),
      )

  pub every_of : (xs : List A) → All (λ (x : A). (length (enc x) ≡ k) × (f (enc x) ≡ true)) xs → every f k (length xs) (flat enc xs) ≡ true
  unfolding every flat All
  every_of [] h = refl
  every_of (x ∷ xs) h =
      ap (λ (r : List ℕ). f r && every f k (length xs) (drop k (enc x ++ flat enc xs))) (take_at (enc x) (flat enc xs) k h.0.0)
      ∙ ap (λ (b : Bool). b && every f k (length xs) (drop k (enc x ++ flat enc xs))) h.0.1
      ∙ ap (every f k (length xs)) (drop_at (enc x) (flat enc xs) k h.0.0)
      ∙ every_of xs h.1
