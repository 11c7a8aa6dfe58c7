-- The entries write the written form of the calls whose records were added. Assumes nothing.
use Prim.Native.Nat.{ℕ, ◌+◌, ◌-◌, ◌%◌, ◌<◌, ◌≤◌}
use native.Mathlib.Omega.{arith}
use mathlib.Core.Path.{◌≡◌, refl, sym, ◌∙◌, ap, ap₂, subst}
use mathlib.Core.List.{List, [], ◌∷◌, ◌++◌, append_assoc, append-nil}
use mathlib.Core.Bool.{Bool, true, false, cond, not, ◌&&◌, and-eq-true_iff, and-false, false≢true}
use borrow.Author.Tests.{eq-eqb, ne_eqb, eqb-true, le-leb, lt-leb, leb-true}
use lib.Dec.{eqb, leb}
use Rattle.std.proofs.Common.{Option, Some, None}
use lib.ListN.{length, take, drop, replicate, length-append, length-replicate, replicate-append-replicate, take-append-drop, length-drop}
use lib.Seq.{take_at, drop_at, take-length, drop-append-add, length-take-le}
use Rattle.hub.specs.Call.{Call}
use Rattle.area_check.specs.Rows.{blank}
use Rattle.call_bytes.specs.Words.{half, half_at}
use Rattle.call_bytes.specs.declared.Recorded.{Recorded}
use Rattle.call_bytes.specs.Written.{written, Bytes}
use Rattle.call_bytes.specs.Claims.{Takes}
use Rattle.call_bytes.specs.Read.{read_of, call_in}
use Rattle.call_bytes.proofs.Exact.{record_exact_lem, half_lt}
use Rattle.recording.specs.Written.{written_all, AllFit, count_of, padded, unchecked, check_of, block_of, Writable}
use Rattle.recording.specs.Block.{Good, length_fits, count_fits, records_fit, is_filled, calls_at, verdict_of, is_good}
use Rattle.recording.proofs.Blocks.{not_zero, passed, made, front_length, made_length, made_count, made_zeros, made_last, made_sum, made_calls, Filled, filled}
use Rattle.grimholdi_block.specs.Writing.{Wrote, wrote, placed, begun, start_entry, is_waiting, is_under_way, takes_up, is_whole, longer, add_entry, numbered, sealed, finish_entry}
use Rattle.grimholdi_block.specs.Writer.{under_way, add_all, IsRecord, UnderWay, Keeps, WriterExact}

-- ---- bytes put between others

placed_in : (n : ℕ) (a b p c : List ℕ) → length a ≡ n → length b ≡ length p → placed n p (a ++ (b ++ c)) ≡ a ++ (p ++ c)
placed_in n a b p c e f =
    ap₂ (λ (x y : List ℕ). x ++ (p ++ y)) (take_at a (b ++ c) n e)
    (ap (λ (m : ℕ). drop (m + length p) (a ++ (b ++ c))) (sym e) ∙ drop-append-add a (b ++ c) (length p) ∙ drop_at b c (length p) f)

-- at the very end
placed_end : (n : ℕ) (a b p : List ℕ) → length a ≡ n → length b ≡ length p → placed n p (a ++ b) ≡ a ++ p
placed_end n a b p e f =
    ap (λ (x : List ℕ). placed n p (a ++ x)) (sym (append-nil b)) ∙ placed_in n a b p [] e f ∙ ap (λ (x : List ℕ). a ++ x) (append-nil p)

-- ---- start

begun_is : (p : ℕ) (l : List ℕ) → length l ≡ 512 → begun p l ≡ under_way p []
unfolding under_way unchecked written_all
begun_is p l long =
    ap (placed 510 (half p))
    (ap (placed 0 (replicate 510 0)) (sym (take-append-drop 510 l))
    ∙ placed_in 0 [] (take 510 l) (replicate 510 0) (drop 510 l) refl (length-take-le 510 l (omega (arith, long))))
    ∙ placed_end 510 (replicate 510 0) (drop 510 l) (half p) (length-replicate {A = ℕ} 510 0) (omega (arith, length-drop 510 l, long))

started : (p : ℕ) (l : List ℕ) → length l ≡ 512 → 1 ≤ p → p ≤ 65535 → start_entry l p ≡ wrote 0 (under_way p [])
unfolding start_entry
started p l long first last =
    let n : ¬ (p ≡ 0) = λ e. absurd (omega (arith, e, first)) in
    rw (eq-eqb (length l) 512 long, ne_eqb p 0 n, le-leb p 65535 last) (ap (wrote 0) (begun_is p l long))

not_started : (p : ℕ) (l : List ℕ) → ¬ ((length l ≡ 512) × ((1 ≤ p) × (p ≤ 65535))) → start_entry l p ≡ wrote 6 l
unfolding start_entry
not_started p l n = go (eqb (length l) 512) refl (eqb p 0) refl (leb p 65535) refl
  where
    go : (a : Bool) → eqb (length l) 512 ≡ a → (b : Bool) → eqb p 0 ≡ b → (d : Bool) → leb p 65535 ≡ d
        → cond (a && (not b && d)) (wrote 0 (begun p l)) (wrote 6 l) ≡ wrote 6 l
    go false x b y d z = refl
    go true x true y d z = refl
    go true x false y false z = refl
    go true x false y true z = absurd (n (eqb-true (length l) 512 x, (not_zero p (ap not y), leb-true p 65535 z)))

-- ---- a record

whole_record : (c : Call) (r : List ℕ) → IsRecord c r → is_whole r ≡ true
whole_record c r i =
    let t : Takes (written c) c (length (written c)) =
    subst (λ (x : List ℕ). Takes x c (length (written c))) (append-nil (written c)) (record_exact_lem.again c [] i.fits) in
    let k : Takes r c (length r) = subst (λ (x : List ℕ). Takes x c (length x)) (sym i.form) t in
    rw (k.known, eq-eqb k.record_read.length (length r) k.size)

-- some call has bytes that are one record
record_of : (r : List ℕ) → Bytes r → is_whole r ≡ true → (c : Call) × IsRecord c r
record_of r b e = go (read_of r) refl e
  where
    go : (o : Option Recorded) → read_of r ≡ o → takes_up (length r) o ≡ true → (c : Call) × IsRecord c r
    go None k f = absurd (false≢true f)
    go (Some x) k f =
        let n : x.length ≡ length r = eqb-true x.length (length r) f in
        let s = (record_exact_lem.exact r (call_in x r) x.length b).0 (record { record_read = x; known = k; call = refl; size = refl }) in
        (call_in x r, record { fits = s.fits; form = sym (take-length r) ∙ ap (λ (m : ℕ). take m r) (sym n) ∙ s.form })

no_record : (l r : List ℕ) → Bytes r → ((c : Call) → ¬ (IsRecord c r)) → add_entry l r ≡ wrote 6 l
unfolding add_entry
no_record l r b none = go (is_whole r) refl
  where
    go : (w : Bool) → is_whole r ≡ w
        → cond (is_under_way l && is_whole r) (cond (leb (count_of l + length r) 506) (wrote 0 (longer l r)) (wrote 3 l)) (wrote 6 l) ≡ wrote 6 l
    go true e = let i = record_of r b e in absurd (none i.0 i.1)
    go false e = rw (e, and-false (is_under_way l))

-- ---- under way

way_of : (l : List ℕ) → is_under_way l ≡ true → UnderWay l
way_of l e =
    let a = (and-eq-true_iff (length_fits l) (is_waiting l && leb (count_of l) 506)).0 e in
    let b = (and-eq-true_iff (is_waiting l) (leb (count_of l) 506)).0 a.1 in
    let w = (and-eq-true_iff (eqb (half_at l 0) 0) (not (eqb (half_at l 510) 0))).0 b.0 in
    record {
      long = eqb-true (length l) 512 a.0;
      unnumbered = eqb-true (half_at l 0) 0 w.0;
      waiting = not_zero (half_at l 510) w.1;
      few = leb-true (count_of l) 506 b.1;
    }

way_is : (l : List ℕ) → UnderWay l → is_under_way l ≡ true
way_is l w =
    let n : ¬ (half_at l 510 ≡ 0) = λ e. absurd (omega (arith, e, w.waiting)) in
    rw (eq-eqb (length l) 512 w.long, eq-eqb (half_at l 0) 0 w.unnumbered, ne_eqb (half_at l 510) 0 n, le-leb (count_of l) 506 w.few)

module _ (l : List ℕ) (c : Call) (r : List ℕ) (w : UnderWay l) (i : IsRecord c r) where
  fits : count_of l + length r ≤ 506 → (add_entry l r).answer ≡ 0
  unfolding add_entry
  fits h = rw (way_is l w, whole_record c r i, le-leb (count_of l + length r) 506 h)

  full : 506 < count_of l + length r → add_entry l r ≡ wrote 3 l
  unfolding add_entry
  full h = rw (way_is l w, whole_record c r i, lt-leb (count_of l + length r) 506 h)

unfinished : (l : List ℕ) (p : ℕ) → UnderWay l → ¬ (verdict_of p l ≡ Good)
unfinished l p w e =
    let q = passed p l (ap is_good e) in
    absurd (omega (arith, w.unnumbered, q.number, q.first))

nowhere : (l r : List ℕ) → ¬ (UnderWay l) → add_entry l r ≡ wrote 6 l
unfolding add_entry
nowhere l r n = go (is_under_way l) refl
  where
    go : (w : Bool) → is_under_way l ≡ w
        → cond (w && is_whole r) (cond (leb (count_of l + length r) 506) (wrote 0 (longer l r)) (wrote 3 l)) (wrote 6 l) ≡ wrote 6 l
    go true e = absurd (n (way_of l e))
    go false e = refl

module _ (p : ℕ) (cs : List Call) (w : Writable p cs) where
  abbrev u : List ℕ
  u = written_all cs

  -- the block under way is one with number 0 and p in the last two bytes
  way_made : under_way p cs ≡ made 0 u p w.room
  unfolding under_way
  way_made = refl

  waits : is_waiting (under_way p cs) ≡ true
  unfolding under_way unchecked
  waits =
      let n : ¬ (half_at (under_way p cs) 510 ≡ 0) = λ e. absurd (omega (arith, e, made_last 0 u p w.room w.last, w.first)) in
      rw (ne_eqb (half_at (under_way p cs) 510) 0 n)

  way_count : count_of (under_way p cs) ≡ length u
  way_count = ap count_of way_made ∙ made_count 0 u p w.room

  is_way : is_under_way (under_way p cs) ≡ true
  is_way =
      rw (
        eq-eqb (length (under_way p cs)) 512 (ap length way_made ∙ made_length 0 u p w.room),
        waits,
        le-leb (count_of (under_way p cs)) 506 (omega (arith, way_count, w.room)),
      )

  -- ---- finish

  is_filled_lem : is_filled (under_way p cs) ≡ true
  unfolding under_way
  is_filled_lem =
      let l : List ℕ = under_way p cs in
      rw (
        eq-eqb (length l) 512 (made_length 0 u p w.room),
        le-leb (count_of l) 506 (omega (arith, way_count, w.room)),
        made_zeros 0 u p w.room,
        made_calls 0 u p w.room cs refl w.fit,
      )

  numbered_is : numbered (under_way p cs) ≡ made p u p w.room
  unfolding under_way unchecked
  numbered_is =
      ap (λ (n : ℕ). placed 0 (half n) (under_way p cs)) (made_last 0 u p w.room w.last)
      ∙ placed_in 0 [] (half 0) (half p) ((half (length u) ++ padded u) ++ half p) refl refl

  sealed_is : sealed (under_way p cs) ≡ block_of p cs
  unfolding block_of
  sealed_is =
      ap (λ (m : List ℕ). placed 510 (half (check_of m)) m) numbered_is
      ∙ placed_end 510 (unchecked p u) (half p) (half (check_of (made p u p w.room))) (front_length p u p w.room) refl
      ∙ ap (λ (s : ℕ). unchecked p u ++ half ((65536 - s % 65536) % 65536)) (made_sum p u p w.room)

  finished : finish_entry (under_way p cs) ≡ wrote 0 (block_of p cs)
  unfolding finish_entry
  finished = rw (waits, is_filled_lem) (ap (wrote 0) sealed_is)

-- ---- add

-- one record more behind the bytes used
module _ (u r : List ℕ) (p : ℕ) (room : length u + length r ≤ 506) where
  abbrev left : ℕ
  left = 506 - (length u + length r)

  apart : (u ++ replicate (506 - length u) 0) ++ half p ≡ u ++ (replicate (length r) 0 ++ (replicate left 0 ++ half p))
  apart =
      append_assoc u (replicate (506 - length u) 0) (half p)
      ∙ ap (λ (x : List ℕ). u ++ x) (ap (λ (x : List ℕ). x ++ half p) zeros ∙ append_assoc (replicate (length r) 0) (replicate left 0) (half p))
    where
      zeros : ◌≡◌ {A = List ℕ} (replicate (506 - length u) 0) (replicate (length r) 0 ++ replicate left 0)
      zeros =
          let e : 506 - length u ≡ length r + left = omega (arith, room) in
          ap (λ (m : ℕ). replicate m 0) e ∙ sym (replicate-append-replicate (length r) left 0)

  together : u ++ (r ++ (replicate left 0 ++ half p)) ≡ padded (u ++ r) ++ half p
  together =
      sym (append_assoc u r (replicate left 0 ++ half p))
      ∙ sym (append_assoc (u ++ r) (replicate left 0) (half p))
      ∙ ap (λ (n : ℕ). ((u ++ r) ++ replicate (506 - n) 0) ++ half p) (sym (length-append u r))

  longer_is : placed (4 + length u) r (placed 2 (half (length u + length r)) (unchecked 0 u ++ half p)) ≡ unchecked 0 (u ++ r) ++ half p
  unfolding unchecked
  longer_is =
      ap (placed (4 + length u) r)
      (placed_in 2 (half 0) (half (length u)) (half (length u + length r)) (padded u ++ half p) refl refl
      ∙ ap (λ (x : List ℕ). half 0 ++ (half (length u + length r) ++ x)) apart)
      ∙ placed_in (4 + length u) (half 0 ++ (half (length u + length r) ++ u)) (replicate (length r) 0) r (replicate left 0 ++ half p)
      (omega arith) (length-replicate {A = ℕ} (length r) 0)
      ∙ ap (λ (x : List ℕ). half 0 ++ (half (length u + length r) ++ x)) together
      ∙ ap (λ (n : ℕ). half 0 ++ (half n ++ (padded (u ++ r) ++ half p))) (sym (length-append u r))

written-append : (cs ds : List Call) → written_all (cs ++ ds) ≡ written_all cs ++ written_all ds
unfolding written_all
written-append [] ds = refl
written-append (c ∷ cs) ds = ap (λ (x : List ℕ). written c ++ x) (written-append cs ds) ∙ sym (append_assoc (written c) (written_all cs) (written_all ds))

written_more : (cs : List Call) (c : Call) → written_all (cs ++ (c ∷ [])) ≡ written_all cs ++ written c
unfolding written_all
written_more cs c = written-append cs (c ∷ []) ∙ ap (λ (x : List ℕ). written_all cs ++ x) (append-nil (written c))

added : (p : ℕ) (cs : List Call) (c : Call) (r : List ℕ) → Writable p cs → IsRecord c r → length (written_all cs) + length r ≤ 506
    → add_entry (under_way p cs) r ≡ wrote 0 (under_way p (cs ++ (c ∷ [])))
unfolding add_entry under_way
added p cs c r w i h =
    rw (is_way p cs w, whole_record c r i, le-leb (count_of (under_way p cs) + length r) 506 (omega (arith, way_count p cs w, h)))
    (ap (wrote 0)
    (ap (λ (n : ℕ). placed (4 + n) r (placed 2 (half (n + length r)) (under_way p cs))) (way_count p cs w)
    ∙ longer_is (written_all cs) r p h
    ∙ ap (λ (x : List ℕ). unchecked 0 x ++ half p) (ap (λ (x : List ℕ). written_all cs ++ x) i.form ∙ sym (written_more cs c))))

-- ---- a block from start to finish

fit_first : (cs ds : List Call) → AllFit (cs ++ ds) → AllFit cs
unfolding AllFit
fit_first [] ds f = tt
fit_first (c ∷ cs) ds f = (f.0, fit_first cs ds f.1)

fit_behind : (cs ds : List Call) → AllFit (cs ++ ds) → AllFit ds
unfolding AllFit
fit_behind [] ds f = f
fit_behind (c ∷ cs) ds f = fit_behind cs ds f.1

all_added : (p : ℕ) (ds cs : List Call) → Writable p (ds ++ cs) → add_all (under_way p ds) cs ≡ under_way p (ds ++ cs)
unfolding add_all AllFit written_all
all_added p ds [] w = ap (under_way p) (sym (append-nil ds))
all_added p ds (c ∷ cs) w =
    ap (λ (x : Wrote). add_all x.block cs) (added p ds c (written c) first (record { fits = (fit_behind ds (c ∷ cs) w.fit).0; form = refl }) room)
    ∙ all_added p (ds ++ (c ∷ [])) cs (subst (Writable p) (sym (append_assoc ds (c ∷ []) cs)) w)
    ∙ ap (under_way p) (append_assoc ds (c ∷ []) cs)
  where
    long : length (written_all (ds ++ (c ∷ cs))) ≡ length (written_all ds) + (length (written c) + length (written_all cs))
    long =
        ap length (written-append ds (c ∷ cs))
        ∙ length-append (written_all ds) (written c ++ written_all cs)
        ∙ ap (λ (n : ℕ). length (written_all ds) + n) (length-append (written c) (written_all cs))

    first : Writable p ds
    first = record { first = w.first; last = w.last; fit = fit_first ds (c ∷ cs) w.fit; room = omega (arith, long, w.room) }

    room : length (written_all ds) + length (written c) ≤ 506
    room = omega (arith, long, w.room)

whole : (p : ℕ) (cs : List Call) (l : List ℕ) → length l ≡ 512 → Writable p cs → finish_entry (add_all (start_entry l p).block cs) ≡ wrote 0 (block_of p cs)
whole p cs l long w =
    ap (λ (x : Wrote). finish_entry (add_all x.block cs)) (started p l long w.first w.last)
    ∙ ap finish_entry (all_added p [] cs w)
    ∙ finished p cs w

-- ---- nothing else is finished

not_finished : (l : List ℕ) → Bytes l → ((p : ℕ) (cs : List Call) → Writable p cs → ¬ (l ≡ under_way p cs)) → finish_entry l ≡ wrote 6 l
unfolding finish_entry under_way
not_finished l b none = go (is_waiting l) refl (is_filled l) refl
  where
    go : (x : Bool) → is_waiting l ≡ x → (y : Bool) → is_filled l ≡ y → cond (x && y) (wrote 0 (sealed l)) (wrote 6 l) ≡ wrote 6 l
    go false e y f = refl
    go true e false f = refl
    go true e true f =
        let w = (and-eq-true_iff (eqb (half_at l 0) 0) (not (eqb (half_at l 510) 0))).0 e in
        let a = (and-eq-true_iff (length_fits l) (count_fits l && records_fit l)).0 f in
        let d = (and-eq-true_iff (count_fits l) (records_fit l)).0 a.1 in
        let k = (and-eq-true_iff (leb (count_of l) 506) (blank (drop (4 + count_of l) (take 510 l)))).0 d.0 in
        let q : Filled l = filled l b (eqb-true (length l) 512 a.0) (leb-true (count_of l) 506 k.0) k.1 d.1 in
        absurd
        (none (half_at l 510) (calls_at l)
        (record { first = not_zero (half_at l 510) w.1; last = omega (arith, half_lt l 510 b); fit = q.fit; room = q.room })
        (q.all
        ∙ ap (λ (x : List ℕ). x ++ half (half_at l 510)) (q.front ∙ ap (λ (n : ℕ). unchecked n (written_all (calls_at l))) (eqb-true (half_at l 0) 0 w.0))))

-- ---- other answers than 0

keeps : (l x : List ℕ) (n : ℕ) (b : Bool) → Keeps l (cond b (wrote 0 x) (wrote n l))
keeps l x n true other = absurd (other refl)
keeps l x n false other = refl

start_keeps : (l : List ℕ) (p : ℕ) → Keeps l (start_entry l p)
unfolding start_entry
start_keeps l p = keeps l (begun p l) 6 (length_fits l && (not (eqb p 0) && leb p 65535))

add_keeps : (l r : List ℕ) → Keeps l (add_entry l r)
unfolding add_entry
add_keeps l r = go (is_under_way l && is_whole r)
  where
    go : (b : Bool) → Keeps l (cond b (cond (leb (count_of l + length r) 506) (wrote 0 (longer l r)) (wrote 3 l)) (wrote 6 l))
    go true = keeps l (longer l r) 3 (leb (count_of l + length r) 506)
    go false = λ other. refl

finish_keeps : (l : List ℕ) → Keeps l (finish_entry l)
unfolding finish_entry
finish_keeps l = keeps l (sealed l) 6 (is_waiting l && is_filled l)

pub writer_exact_lem : WriterExact
writer_exact_lem =
    record {
      started = started;
      not_started = not_started;
      added = added;
      fits = fits;
      full = full;
      unfinished = unfinished;
      nowhere = nowhere;
      no_record = no_record;
      finished = finished;
      not_finished = not_finished;
      whole = whole;
      start_keeps = start_keeps;
      add_keeps = add_keeps;
      finish_keeps = finish_keeps;
    }
