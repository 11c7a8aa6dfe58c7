-- A record is taken exactly if it is the written form of a call. Assumes nothing.
use Prim.Native.Nat.{ℕ, zero, suc, ◌+◌, ◌*◌, ◌/◌, ◌%◌, ◌<◌, ◌≤◌, ◌^◌}
use native.Mathlib.Omega.{arith}
use mathlib.Core.Path.{◌≡◌, refl, sym, ◌∙◌, ap, ap₂, subst}
use mathlib.Core.List.{List, [], ◌∷◌, ◌++◌, append_assoc, append-nil}
use mathlib.Core.Bool.{Bool, true, false, cond, true≢false}
use borrow.Author.Tests.{eqb-true, leb-true, leb-false}
use lib.Dec.{eqb, leb}
use Rattle.std.proofs.Common.{Option, Some, None}
use lib.ListN.{length, get_or, take, drop, length-append, take-append-drop, length-drop, length-take}
use lib.Seq.{drop-cons, take-add, get_or-append-add, get_or_at, drop-append-add, take-append_seam, length-take-le, get_or-drop}
use Rattle.hub.specs.Call.{Call, Control, Poll, Start, Complete, Launch, Deliver, Event, Tick, BusReset}
use Rattle.call_bytes.specs.declared.CallKind.{CallKind}
use Rattle.call_bytes.specs.declared.CallKind.TheVariants as kind
use Rattle.call_bytes.specs.declared.Recorded.{Recorded}
use Rattle.call_bytes.specs.Words.{half, words, word_at, half_at, words_at}
use Rattle.call_bytes.specs.Table.{tag_of, kinds, with_tag, kind_of, numbers_of, carries, Form, form_of, call_of}
use Rattle.call_bytes.specs.Written.{tail_of, written_form, written, Bytes, Fits}
use Rattle.call_bytes.specs.Claims.{Takes, Starts, RecordExact}
use Rattle.call_bytes.specs.Read.{head_of, start_of, size_in, seven, recorded_as, read_of, call_in}
use Rattle.call_bytes.proofs.Words.{half_of, half-take, words_take, length-words, words_back}
use Rattle.call_bytes.proofs.Reading.{number_at, number_none, head_start, read_known, read_unknown, read_whole}

-- ---- the table's rows, each by itself

tag_back : (k : CallKind) → kind_of (tag_of k) ≡ Some k
unfolding kind_of with_tag
tag_back kind.Control = refl
tag_back kind.Poll = refl
tag_back kind.StartSplit = refl
tag_back kind.CompleteSplit = refl
tag_back kind.Launch = refl
tag_back kind.Deliver = refl
tag_back kind.LineEvent = refl
tag_back kind.Tick = refl
tag_back kind.BusReset = refl

pub none_some : {A : Type 0} {x : A} → ◌≡◌ {A = Option A} None (Some x) → ⊥
none_some e = let z : ◌≡◌ {A = ℕ} 0 1 = cc in omega arith

pub some_same : {A : Type 0} {x y : A} → ◌≡◌ {A = Option A} (Some x) (Some y) → x ≡ y
some_same e = cc

-- a kind that is found has the tag
found : (t : ℕ) (ks : List CallKind) (j : CallKind) → with_tag t ks ≡ Some j → tag_of j ≡ t
unfolding with_tag
found t [] j e = absurd (none_some e)
found t (k ∷ ks) j e = go (eqb t (tag_of k)) refl e (found t ks j)
  where
    go : (x : Bool) → eqb t (tag_of k) ≡ x → cond x (Some k) (with_tag t ks) ≡ Some j → (with_tag t ks ≡ Some j → tag_of j ≡ t) → tag_of j ≡ t
    go true p q ih = ap tag_of (sym (some_same q)) ∙ sym (eqb-true t (tag_of k) p)
    go false p q ih = ih q

kind_back : (t : ℕ) (k : CallKind) → kind_of t ≡ Some k → tag_of k ≡ t
unfolding kind_of
kind_back t k e = found t kinds k e

-- what is read of a kind is the form of a call of that kind
form_back : (k : CallKind) (l b : List ℕ)
    → form_of (call_of k (seven (words_at l 1 (numbers_of k))) b) ≡ record { kind = k; numbers = words_at l 1 (numbers_of k); bytes = cond (carries k) b [] }
unfolding words_at
form_back kind.Control l b = refl
form_back kind.Poll l b = refl
form_back kind.StartSplit l b = refl
form_back kind.CompleteSplit l b = refl
form_back kind.Launch l b = refl
form_back kind.Deliver l b = refl
form_back kind.LineEvent l b = refl
form_back kind.Tick l b = refl
form_back kind.BusReset l b = refl

-- each call: it has as many numbers as the table says, bytes only where the table says so, and its form gives it back
record Row (c : Call) : Type 0 where
  pub count : length (form_of c).numbers ≡ numbers_of (form_of c).kind
  pub none : carries (form_of c).kind ≡ false → (form_of c).bytes ≡ []
  pub back : call_of (form_of c).kind (seven (form_of c).numbers) (form_of c).bytes ≡ c

row : (c : Call) → Row c
row (Control z s room) = record { count = refl; none = λ e. absurd (true≢false e); back = refl }
row (Poll z room) = record { count = refl; none = λ _. refl; back = refl }
row (Start z p t f g a e l) = record { count = refl; none = λ x. absurd (true≢false x); back = refl }
row (Complete z a e d room) = record { count = refl; none = λ _. refl; back = refl }
row (Launch room) = record { count = refl; none = λ _. refl; back = refl }
row (Deliver r l) = record { count = refl; none = λ e. absurd (true≢false e); back = refl }
row (Event e n) = record { count = refl; none = λ _. refl; back = refl }
row Tick = record { count = refl; none = λ _. refl; back = refl }
row BusReset = record { count = refl; none = λ _. refl; back = refl }

-- ---- bytes of a part are bytes

pub bytes_drop : (l : List ℕ) (n : ℕ) → Bytes l → Bytes (drop n l)
bytes_drop l n b i = rw (get_or-drop n l i 0) (b (n + i))

pub bytes_take : (l : List ℕ) (n : ℕ) → Bytes l → Bytes (take n l)
bytes_take [] zero b i = b i
bytes_take [] (suc n) b i = b i
bytes_take (x ∷ l) zero b i = omega arith
bytes_take (x ∷ l) (suc n) b zero = b 0
bytes_take (x ∷ l) (suc n) b (suc i) = bytes_take l n (λ j. b (suc j)) i

word_lt : (l : List ℕ) (i : ℕ) → Bytes l → word_at l i < 2 ^ 32
word_lt l i b = omega (arith, b i, b (i + 1), b (i + 2), b (i + 3))

pub half_lt : (l : List ℕ) (i : ℕ) → Bytes l → half_at l i < 2 ^ 16
half_lt l i b = omega (arith, b i, b (i + 1))

number_lt : (l : List ℕ) (at n i : ℕ) → Bytes l → get_or (words_at l at n) i 0 < 2 ^ 32
number_lt l at n i b = go (leb n i) refl
  where
    go : (x : Bool) → leb n i ≡ x → get_or (words_at l at n) i 0 < 2 ^ 32
    go true e = rw (number_none l at n i (leb-true n i e)) (omega arith)
    go false e = rw (number_at l at n i (leb-false n i e)) (word_lt l (at + 4 * i) b)

-- ---- what is taken is a written form

-- the first bytes of l: tag, m numbers, then, if any, a length and so many bytes
module _ (l : List ℕ) (b : Bytes l) (m : ℕ) where
  taken_head : 1 + 4 * m ≤ length l → take (1 + 4 * m) l ≡ get_or l 0 0 ∷ words (words_at l 1 m)
  taken_head h = take-add 1 (4 * m) l ∙ ap₂ ◌++◌ (ap (take 1) (drop-cons l 0 0 (omega arith))) (sym (words_take l 1 m b h))

  taken_form : (t : Bool) → cond t (1 + 4 * m + 2) (1 + 4 * m) + cond t (half_at l (1 + 4 * m)) 0 ≤ length l
      → take (cond t (1 + 4 * m + 2) (1 + 4 * m) + cond t (half_at l (1 + 4 * m)) 0) l
      ≡ get_or l 0 0 ∷ (words (words_at l 1 m) ++ tail_of t (cond t (take (cond t (half_at l (1 + 4 * m)) 0) (drop (cond t (1 + 4 * m + 2) (1 + 4 * m)) l)) []))
  taken_form false h =
      let e : 1 + 4 * m + 0 ≡ 1 + 4 * m = omega arith in
      ap (λ (n : ℕ). take n l) e ∙ taken_head (omega arith) ∙ ap (λ (x : List ℕ). get_or l 0 0 ∷ x) (sym (append-nil (words (words_at l 1 m))))
  taken_form true h =
      take-add (1 + 4 * m + 2) v l
      ∙ ap (λ (x : List ℕ). x ++ take v (drop (1 + 4 * m + 2) l)) (take-add (1 + 4 * m) 2 l)
      ∙ append_assoc (take (1 + 4 * m) l) (take 2 (drop (1 + 4 * m) l)) (take v (drop (1 + 4 * m + 2) l))
      ∙ ap₂ ◌++◌ (taken_head (omega arith))
      (ap (λ (x : List ℕ). x ++ take v (drop (1 + 4 * m + 2) l))
      (sym (ap half size ∙ half-take l (1 + 4 * m) b (omega arith))))
    where
      v : ℕ
      v = half_at l (1 + 4 * m)

      size : length (take (half_at l (1 + 4 * m)) (drop (1 + 4 * m + 2) l)) ≡ half_at l (1 + 4 * m)
      size = length-take-le (half_at l (1 + 4 * m)) (drop (1 + 4 * m + 2) l) (simp length-drop (omega arith))

-- what read_of says where it reads the record r
record Read (l : List ℕ) (r : Recorded) : Type 0 where
  pub kind : CallKind
  pub is : kind_of (get_or l 0 0) ≡ Some kind
  pub room : start_of kind + size_in kind l ≤ length l
  pub whole : recorded_as kind l ≡ r

read_says : (l : List ℕ) (r : Recorded) → read_of l ≡ Some r → Read l r
read_says l r e = go (kind_of (get_or l 0 0)) refl
  where
    go : (o : Option CallKind) → kind_of (get_or l 0 0) ≡ o → Read l r
    go None p = absurd (none_some (sym (read_unknown l p) ∙ e))
    go (Some k) p = fits (leb (start_of k + size_in k l) (length l)) refl (sym (read_known l k p) ∙ e)
      where
        fits : (x : Bool) → leb (start_of k + size_in k l) (length l) ≡ x → cond x (Some (recorded_as k l)) None ≡ Some r → Read l r
        fits true q f = record { kind = k; is = p; room = leb-true _ (length l) q; whole = some_same f }
        fits false q f = absurd (none_some f)

module _ (l : List ℕ) (b : Bytes l) where
  -- the call that is read
  abbrev got : CallKind → Call
  got k = call_of k (seven (words_at l 1 (numbers_of k))) (take (size_in k l) (drop (start_of k) l))

  got_form : (k : CallKind) → form_of (got k) ≡ record { kind = k; numbers = words_at l 1 (numbers_of k); bytes = cond (carries k) (take (size_in k l) (drop (start_of k) l)) [] }
  got_form k = form_back k l (take (size_in k l) (drop (start_of k) l))

  got_written : (k : CallKind) → kind_of (get_or l 0 0) ≡ Some k → start_of k + size_in k l ≤ length l → take (start_of k + size_in k l) l ≡ written (got k)
  unfolding written_form
  got_written k is room =
      taken_form l b (numbers_of k) (carries k) room
      ∙ ap (λ (x : ℕ). x ∷ (words (words_at l 1 (numbers_of k)) ++ tail_of (carries k) (cond (carries k) (take (size_in k l) (drop (start_of k) l)) []))) (sym (kind_back (get_or l 0 0) k is))
      ∙ sym (ap written_form (got_form k))

  got_fits : (k : CallKind) → Fits (got k)
  got_fits k =
      record {
        numbers = λ i. subst (λ (f : Form). get_or f.numbers i 0 < 2 ^ 32) (sym (got_form k)) (number_lt l 1 (numbers_of k) i b);
        bytes = subst (λ (f : Form). Bytes f.bytes) (sym (got_form k)) (some_bytes (carries k));
        size = subst (λ (f : Form). length f.bytes < 2 ^ 16) (sym (got_form k)) (short (carries k));
      }
    where
      some_bytes : (t : Bool) → Bytes (cond t (take (size_in k l) (drop (start_of k) l)) [])
      some_bytes true = bytes_take (drop (start_of k) l) (size_in k l) (bytes_drop l (start_of k) b)
      some_bytes false = λ i. omega arith

      size_lt : (t : Bool) → cond t (half_at l (head_of k)) 0 < 2 ^ 16
      size_lt true = half_lt l (head_of k) b
      size_lt false = omega arith

      short : (t : Bool) → length (cond t (take (size_in k l) (drop (start_of k) l)) []) < 2 ^ 16
      short true = simp length-take (omega (arith, size_lt (carries k)))
      short false = omega arith

  taken_starts : (c : Call) (n : ℕ) → Takes l c n → Starts l c n
  taken_starts c n t =
      let r : Read l t.record_read = read_says l t.record_read t.known in
      let called : got r.kind ≡ c = ap (λ (x : Recorded). call_in x l) r.whole ∙ t.call in
      let long : start_of r.kind + size_in r.kind l ≡ n = ap (λ (x : Recorded). x.length) r.whole ∙ t.size in
      let w : take n l ≡ written c = ap (λ (m : ℕ). take m l) (sym long) ∙ (got_written r.kind r.is r.room ∙ ap written called) in
      record {
        fits = subst Fits called (got_fits r.kind);
        size = sym (length-take-le n l (subst (λ (m : ℕ). m ≤ length l) long r.room)) ∙ ap length w;
        form = w;
      }

-- ---- a written form is taken

-- tag, numbers, and, if t, a length and bytes; then anything
module _ (g : ℕ) (ns b rest : List ℕ) (ok : (i : ℕ) → get_or ns i 0 < 2 ^ 32) (short : length b < 2 ^ 16) where
  head_length : length (g ∷ words ns) ≡ 1 + 4 * length ns
  head_length = omega (arith, length-words ns)

  -- the head, then what is behind it
  apart : (t : Bool) → (g ∷ (words ns ++ tail_of t b)) ++ rest ≡ (g ∷ words ns) ++ (tail_of t b ++ rest)
  apart t = ap (λ (x : List ℕ). g ∷ x) (append_assoc (words ns) (tail_of t b) rest)

  numbers_back : (t : Bool) → words_at ((g ∷ (words ns ++ tail_of t b)) ++ rest) 1 (length ns) ≡ ns
  numbers_back t = ap (λ (x : List ℕ). words_at x 1 (length ns)) (apart t) ∙ words_back (g ∷ []) ns (tail_of t b ++ rest) ok

  size_back : (t : Bool) → (t ≡ false → b ≡ []) → cond t (half_at ((g ∷ (words ns ++ tail_of t b)) ++ rest) (1 + 4 * length ns)) 0 ≡ length b
  size_back false none = sym (ap length (none refl))
  size_back true none =
      let h : length (g ∷ words ns) ≡ 1 + 4 * length ns = head_length in
      let x : get_or ((g ∷ words ns) ++ (half (length b) ++ (b ++ rest))) (1 + 4 * length ns) 0 ≡ length b % 256 =
      get_or_at (g ∷ words ns) (length b % 256) (length b / 256 % 256 ∷ (b ++ rest)) 0 (1 + 4 * length ns) h in
      let y : get_or ((g ∷ words ns) ++ (half (length b) ++ (b ++ rest))) (1 + 4 * length ns + 1) 0 ≡ length b / 256 % 256 =
      ap (λ (n : ℕ). get_or ((g ∷ words ns) ++ (half (length b) ++ (b ++ rest))) (n + 1) 0) (sym h)
      ∙ get_or-append-add (g ∷ words ns) (half (length b) ++ (b ++ rest)) 1 0 in
      ap (λ (z : List ℕ). half_at z (1 + 4 * length ns)) (apart true) ∙ ap₂ (λ (u v : ℕ). u + v * 256) x y ∙ half_of (length b) short

  bytes_back : (t : Bool) → (t ≡ false → b ≡ []) → take (length b) (drop (cond t (1 + 4 * length ns + 2) (1 + 4 * length ns)) ((g ∷ (words ns ++ tail_of t b)) ++ rest)) ≡ b
  bytes_back false none = rw (none refl)
  bytes_back true none =
      ap (take (length b))
      (ap (drop (1 + 4 * length ns + 2)) (apart true)
      ∙ ap (λ (n : ℕ). drop (n + 2) ((g ∷ words ns) ++ (half (length b) ++ (b ++ rest)))) (sym head_length)
      ∙ drop-append-add (g ∷ words ns) (half (length b) ++ (b ++ rest)) 2)
      ∙ take-append_seam b rest

  length_back : (t : Bool) → (t ≡ false → b ≡ []) → cond t (1 + 4 * length ns + 2) (1 + 4 * length ns) + length b ≡ length (g ∷ (words ns ++ tail_of t b))
  length_back false none = omega (arith, length-append (words ns) [], length-words ns, ap length (none refl))
  length_back true none = omega (arith, length-append (words ns) (half (length b) ++ b), length-words ns)

written_takes : (c : Call) (rest : List ℕ) → Fits c → Takes (written c ++ rest) c (length (written c))
unfolding written_form
written_takes c rest f =
    record {
      record_read = recorded_as k l;
      known = said;
      call = ap₂ (λ (n : List ℕ) (y : List ℕ). call_of k (seven n) y) numbers bytes ∙ r.back;
      size = long;
    }
  where
    k : CallKind
    k = (form_of c).kind

    l : List ℕ
    l = written c ++ rest

    r : Row c
    r = row c

    numbers : words_at (written c ++ rest) 1 (numbers_of (form_of c).kind) ≡ (form_of c).numbers
    numbers =
        ap (words_at (written c ++ rest) 1) (sym (row c).count)
        ∙ numbers_back (tag_of (form_of c).kind) (form_of c).numbers (form_of c).bytes rest f.numbers f.size (carries (form_of c).kind)

    size : size_in (form_of c).kind (written c ++ rest) ≡ length (form_of c).bytes
    size =
        ap (λ (m : ℕ). cond (carries (form_of c).kind) (half_at (written c ++ rest) (1 + 4 * m)) 0) (sym (row c).count)
        ∙ size_back (tag_of (form_of c).kind) (form_of c).numbers (form_of c).bytes rest f.numbers f.size (carries (form_of c).kind) (row c).none

    bytes : take (size_in (form_of c).kind (written c ++ rest)) (drop (start_of (form_of c).kind) (written c ++ rest)) ≡ (form_of c).bytes
    bytes =
        ap₂ (λ (n m : ℕ). take n (drop (cond (carries (form_of c).kind) (1 + 4 * m + 2) (1 + 4 * m)) (written c ++ rest))) size (sym (row c).count)
        ∙ bytes_back (tag_of (form_of c).kind) (form_of c).numbers (form_of c).bytes rest f.numbers f.size (carries (form_of c).kind) (row c).none

    long : start_of (form_of c).kind + size_in (form_of c).kind (written c ++ rest) ≡ length (written c)
    long =
        ap₂ (λ (m n : ℕ). cond (carries (form_of c).kind) (1 + 4 * m + 2) (1 + 4 * m) + n) (sym (row c).count) size
        ∙ length_back (tag_of (form_of c).kind) (form_of c).numbers (form_of c).bytes rest f.numbers f.size (carries (form_of c).kind) (row c).none

    said : read_of (written c ++ rest) ≡ Some (recorded_as (form_of c).kind (written c ++ rest))
    said = read_whole (written c ++ rest) (form_of c).kind (tag_back (form_of c).kind) (omega (arith, long, length-append (written c) rest))

starts_taken : (l : List ℕ) (c : Call) (n : ℕ) → Starts l c n → Takes l c n
starts_taken l c n s =
    let whole : written c ++ drop n l ≡ l = ap (λ (x : List ℕ). x ++ drop n l) (sym s.form) ∙ take-append-drop n l in
    subst (λ (x : List ℕ). Takes x c n) whole (subst (λ (m : ℕ). Takes (written c ++ drop n l) c m) (sym s.size) (written_takes c (drop n l) s.fits))

whole : (c : Call) → Fits c → Takes (written c) c (length (written c))
whole c f = subst (λ (x : List ℕ). Takes x c (length (written c))) (append-nil (written c)) (written_takes c [] f)

few_numbers : (c : Call) → length (form_of c).numbers ≤ 7
few_numbers (Control z s room) = omega arith
few_numbers (Poll z room) = omega arith
few_numbers (Start z p t f g a e l) = omega arith
few_numbers (Complete z a e d room) = omega arith
few_numbers (Launch room) = omega arith
few_numbers (Deliver r l) = omega arith
few_numbers (Event e n) = omega arith
few_numbers Tick = omega arith
few_numbers BusReset = omega arith

tail_short : (t : Bool) (l : List ℕ) → length (tail_of t l) ≤ 2 + length l
tail_short true l = omega arith
tail_short false l = omega arith

short : (c : Call) → length (written c) ≤ 31 + length (form_of c).bytes
unfolding written_form
short c =
    let f = form_of c in
    let tail = tail_of (carries f.kind) f.bytes in
    omega (arith, length-append (words f.numbers) tail, length-words f.numbers, few_numbers c, tail_short (carries f.kind) f.bytes)

pub record_exact_lem : RecordExact
record_exact_lem =
    record {
      exact = λ l c n b. (taken_starts l b c n, starts_taken l c n);
      refused = λ l b. (
        λ e c n s. none_some (sym e ∙ (starts_taken l c n s).known),
        λ none. shut l b none (read_of l) refl,
      );
      again = λ c l f. written_takes c l f;
      apart = λ c d f g e. (
          let p = whole c f in
          let q = whole d g in
          let same : p.record_read ≡ q.record_read = some_same (sym p.known ∙ ap read_of e ∙ q.known) in
          sym p.call ∙ ap₂ (λ (r : Recorded) (x : List ℕ). call_in r x) same e ∙ q.call);
      short = short;
    }
  where
    shut : (l : List ℕ) → Bytes l → ((c : Call) (n : ℕ) → ¬ (Starts l c n)) → (o : Option Recorded) → read_of l ≡ o → read_of l ≡ None
    shut l b none None e = e
    shut l b none (Some r) e =
        absurd (none (call_in r l) r.length (taken_starts l b _ _ (record { record_read = r; known = e; call = refl; size = refl })))

-- a record that is read has at least one byte, ends inside l, and its parts make up its length
pub read_size : (l : List ℕ) (r : Recorded) → read_of l ≡ Some r → (1 ≤ r.length) × (r.length ≤ length l)
read_size l r e =
    let s = read_says l r e in
    let long : start_of s.kind + size_in s.kind l ≡ r.length = ap (λ (x : Recorded). x.length) s.whole in
    let least : head_of s.kind ≤ start_of s.kind = head_start s.kind in
    (omega (arith, long, least), omega (arith, long, s.room))

pub read_parts : (l : List ℕ) (r : Recorded) → read_of l ≡ Some r → r.start + r.size ≡ r.length
read_parts l r e =
    let P : Recorded → Type 0 = λ x. x.start + x.size ≡ x.length in
    subst P (read_says l r e).whole refl
