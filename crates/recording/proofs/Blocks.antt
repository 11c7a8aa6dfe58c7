-- A block is good at its place exactly if it is the written form of some calls. Assumes nothing.
use Prim.Native.Nat.{ℕ, zero, suc, ◌+◌, ◌-◌, ◌*◌, ◌/◌, ◌%◌, ◌<◌, ◌≤◌}
use native.Mathlib.Omega.{arith}
use mathlib.Core.Path.{◌≡◌, refl, sym, ◌∙◌, ap, ap₂, subst}
use mathlib.Core.List.{List, [], ◌∷◌, ◌++◌, append_assoc}
use mathlib.Core.Bool.{Bool, true, false, cond, not, and-eq-true_iff, false≢true}
use borrow.Author.Tests.{eqb-true, eq-eqb, ne_eqb, leb-true, le-leb}
use lib.Dec.{eqb, leb}
use Rattle.std.proofs.Common.{Option, Some, None, Err, is_some}
use lib.ListN.{length, get_or, take, drop, replicate, length-append, length-drop, length-replicate, take-append-drop}
use lib.Seq.{take_all, take-add, take_at, drop_at, drop-drop, drop-append-add, get_or-take, get_or_at, get_or-append-add, length-take-le, take-append_seam, drop-append_seam}
use Rattle.hub.specs.Call.{Call}
use Rattle.area_check.specs.Rows.{blank}
use Rattle.area_check.proofs.Rows.{blank_to, blank_of}
use Rattle.call_bytes.specs.Words.{half, half_at}
use Rattle.call_bytes.specs.Written.{Bytes}
use Rattle.call_bytes.proofs.Words.{half_of, half-take}
use Rattle.call_bytes.proofs.Exact.{bytes_drop, bytes_take, half_lt}
use Rattle.recording.specs.declared.BlockFault.TheVariants.{BadLength, BadCheck, BadNumber, BadCount, BadRecord}
use Rattle.recording.specs.Written.{written_all, AllFit, sum_to, count_of, used_of, padded, unchecked, check_of, block_of, Writable, IsBlock}
use Rattle.recording.specs.Calls.{calls_of, listed}
use Rattle.recording.specs.Block.{Verdict, Good, length_fits, check_fits, number_fits, count_fits, records_fit, verdict_for, verdict_of, is_good, calls_at}
use Rattle.recording.specs.Claims.{BlockExact}
use Rattle.recording.proofs.Rows.{back, calls_exact_lem}

-- ---- the five tests, each by itself

pub record Passed (p : ℕ) (l : List ℕ) : Type 0 where
  pub long : length l ≡ 512
  pub check : sum_to l 256 % 65536 ≡ 0
  pub first : 1 ≤ p
  pub number : half_at l 0 ≡ p
  pub few : count_of l ≤ 506
  pub zeros : blank (drop (4 + count_of l) (take 510 l)) ≡ true
  pub records : is_some (calls_of (used_of l)) ≡ true

pub not_zero : (p : ℕ) → not (eqb p 0) ≡ true → 1 ≤ p
not_zero zero e = absurd (false≢true e)
not_zero (suc p) e = omega arith

pub passed : (p : ℕ) (l : List ℕ) → is_good (verdict_of p l) ≡ true → Passed p l
unfolding verdict_for
passed p l e = go (length_fits l) refl (check_fits l) refl (number_fits p l) refl (count_fits l) refl (records_fit l) refl e
  where
    go : (a : Bool) → length_fits l ≡ a → (b : Bool) → check_fits l ≡ b → (c : Bool) → number_fits p l ≡ c → (d : Bool) → count_fits l ≡ d
        → (f : Bool) → records_fit l ≡ f
        → is_good (cond a (cond b (cond c (cond d (cond f Good (Err BadRecord)) (Err BadCount)) (Err BadNumber)) (Err BadCheck)) (Err BadLength)) ≡ true → Passed p l
    go false s b t c u d v f w e = absurd (false≢true e)
    go true s false t c u d v f w e = absurd (false≢true e)
    go true s true t false u d v f w e = absurd (false≢true e)
    go true s true t true u false v f w e = absurd (false≢true e)
    go true s true t true u true v false w e = absurd (false≢true e)
    go true s true t true u true v true w e =
        let n = (and-eq-true_iff (not (eqb p 0)) (eqb (half_at l 0) p)).0 u in
        let k = (and-eq-true_iff (leb (count_of l) 506) (blank (drop (4 + count_of l) (take 510 l)))).0 v in
        record {
          long = eqb-true (length l) 512 s;
          check = eqb-true (sum_to l 256 % 65536) 0 t;
          first = not_zero p n.0;
          number = eqb-true (half_at l 0) p n.1;
          few = leb-true (count_of l) 506 k.0;
          zeros = k.1;
          records = w;
        }

good : (p : ℕ) (l : List ℕ) → Passed p l → verdict_of p l ≡ Good
unfolding verdict_for
good p l q =
    let n : ¬ (p ≡ 0) = λ e. absurd (omega (arith, e, q.first)) in
    rw (
      eq-eqb (length l) 512 q.long,
      eq-eqb (sum_to l 256 % 65536) 0 q.check,
      ne_eqb p 0 n,
      eq-eqb (half_at l 0) p q.number,
      le-leb (count_of l) 506 q.few,
      q.zeros,
      q.records,
    )

is_good_lem : (v : Verdict) → v ≡ Good → is_good v ≡ true
is_good_lem v e = ap is_good e

-- ---- sums

sum_suc : (l : List ℕ) (n : ℕ) → sum_to l (suc n) ≡ sum_to l n + half_at l (2 * n)
unfolding sum_to
sum_suc l n = refl

-- only the first 2 n bytes count
sum-take : (l : List ℕ) (m n : ℕ) → 2 * n ≤ m → sum_to (take m l) n ≡ sum_to l n
unfolding sum_to
sum-take l m zero h = refl
sum-take l m (suc n) h =
    ap₂ ◌+◌ (sum-take l m n (omega (arith, h)))
    (ap₂ (λ (a b : ℕ). a + b * 256) (get_or-take m l (2 * n) 0 (omega (arith, h))) (get_or-take m l (2 * n + 1) 0 (omega (arith, h))))

sum_all : (l : List ℕ) → sum_to l 256 ≡ sum_to (take 510 l) 255 + half_at l 510
sum_all l = sum_suc l 255 ∙ ap (λ (s : ℕ). s + half_at l 510) (sym (sum-take l 510 255 (omega arith)))

check_to : (s v : ℕ) → v < 65536 → (s + v) % 65536 ≡ 0 → v ≡ (65536 - s % 65536) % 65536
check_to s v h e = omega arith

check_of_lem : (s : ℕ) → (s + (65536 - s % 65536) % 65536) % 65536 ≡ 0
check_of_lem s = omega arith

-- ---- a good block is a written form

module _ (l : List ℕ) (b : Bytes l) (long : length l ≡ 512) where
  whole : l ≡ take 510 l ++ half (half_at l 510)
  whole =
      sym (take-append-drop 510 l)
      ∙ ap (λ (x : List ℕ). take 510 l ++ x)
      (sym (take_all 2 (drop 510 l) (omega (arith, length-drop 510 l, long))) ∙ sym (half-take l 510 b (omega (arith, long))))

  module _ (few : count_of l ≤ 506) where
    size : length (used_of l) ≡ count_of l
    size = length-take-le (count_of l) (drop 4 l) (omega (arith, length-drop 4 l, long, few))

    behind : drop (4 + count_of l) (take 510 l) ≡ take (506 - count_of l) (drop (4 + count_of l) l)
    behind =
        let e : 4 + count_of l + (506 - count_of l) ≡ 510 = omega (arith, few) in
        ap (drop (4 + count_of l)) (ap (λ (m : ℕ). take m l) (sym e) ∙ take-add (4 + count_of l) (506 - count_of l) l)
        ∙ drop_at (take (4 + count_of l) l) (take (506 - count_of l) (drop (4 + count_of l) l)) (4 + count_of l)
        (length-take-le (4 + count_of l) l (omega (arith, long, few)))

    front : blank (drop (4 + count_of l) (take 510 l)) ≡ true → take 510 l ≡ unchecked (half_at l 0) (used_of l)
    unfolding unchecked
    front z =
        let e : 510 ≡ 2 + (2 + (count_of l + (506 - count_of l))) = omega (arith, few) in
        ap (λ (m : ℕ). take m l) e
        ∙ take-add 2 (2 + (count_of l + (506 - count_of l))) l
        ∙ ap₂ ◌++◌ (sym (half-take l 0 b (omega (arith, long)))) second
      where
        behind_size : length (take (506 - count_of l) (drop (4 + count_of l) l)) ≡ 506 - count_of l
        behind_size = length-take-le (506 - count_of l) (drop (4 + count_of l) l) (omega (arith, length-drop (4 + count_of l) l, long, few))

        unused : take (506 - count_of l) (drop (4 + count_of l) l) ≡ replicate (506 - length (used_of l)) 0
        unused =
            blank_to (take (506 - count_of l) (drop (4 + count_of l) l)) (ap blank (sym behind) ∙ z)
            ∙ ap (λ (m : ℕ). replicate m 0) (behind_size ∙ ap (λ (m : ℕ). 506 - m) (sym size))

        third : take (count_of l + (506 - count_of l)) (drop 2 (drop 2 l)) ≡ padded (used_of l)
        third =
            ap (take (count_of l + (506 - count_of l))) (drop-drop 2 2 l)
            ∙ take-add (count_of l) (506 - count_of l) (drop 4 l)
            ∙ ap (λ (x : List ℕ). used_of l ++ x) (ap (take (506 - count_of l)) (drop-drop (count_of l) 4 l) ∙ unused)

        second : take (2 + (count_of l + (506 - count_of l))) (drop 2 l) ≡ half (length (used_of l)) ++ padded (used_of l)
        second =
            take-add 2 (count_of l + (506 - count_of l)) (drop 2 l)
            ∙ ap₂ ◌++◌ (sym (half-take l 2 b (omega (arith, long))) ∙ ap half (sym size)) third

pub some_listed : (o : Option (List Call)) → is_some o ≡ true → o ≡ Some (listed o)
some_listed None e = absurd (false≢true e)
some_listed (Some cs) e = refl

-- what the bytes in front of the check are, where count and records fit
pub record Filled (l : List ℕ) : Type 0 where
  pub fit : AllFit (calls_at l)
  pub room : length (written_all (calls_at l)) ≤ 506
  pub front : take 510 l ≡ unchecked (half_at l 0) (written_all (calls_at l))
  pub all : l ≡ take 510 l ++ half (half_at l 510)

pub filled : (l : List ℕ) → Bytes l → length l ≡ 512 → count_of l ≤ 506 → blank (drop (4 + count_of l) (take 510 l)) ≡ true
    → is_some (calls_of (used_of l)) ≡ true → Filled l
filled l b long few zeros records =
    record {
      fit = rows.0;
      room = omega (arith, ap length rows.1, size l b long few, few);
      front = front l b long few zeros ∙ ap (unchecked (half_at l 0)) rows.1;
      all = whole l b long;
    }
  where
    rows : AllFit (calls_at l) × (used_of l ≡ written_all (calls_at l))
    rows = (calls_exact_lem (used_of l) (calls_at l) (bytes_take (drop 4 l) (count_of l) (bytes_drop l 4 b))).0 (some_listed (calls_of (used_of l)) records)

good_is_block : (p : ℕ) (l : List ℕ) → Bytes l → Passed p l → IsBlock p (calls_at l) l
unfolding block_of
good_is_block p l b q =
    record {
      writable = record { first = q.first; last = omega (arith, q.number, half_lt l 0 b); fit = f.fit; room = f.room };
      form =
          f.all
          ∙ ap (λ (v : ℕ). take 510 l ++ half v) check
          ∙ ap (λ (x : List ℕ). x ++ half (check_of x)) (f.front ∙ ap (λ (n : ℕ). unchecked n (written_all (calls_at l))) q.number);
    }
  where
    f : Filled l
    f = filled l b q.long q.few q.zeros q.records

    check : half_at l 510 ≡ check_of (take 510 l)
    check = check_to (sum_to (take 510 l) 255) (half_at l 510) (half_lt l 510 b) (ap (λ (s : ℕ). s % 65536) (sym (sum_all l)) ∙ q.check)

-- ---- a written form is a good block

-- the number p, the bytes used u, zeros, and v in the last two bytes
module _ (p : ℕ) (u : List ℕ) (v : ℕ) (room : length u ≤ 506) where
  abbrev pub made : List ℕ
  made = unchecked p u ++ half v

  body_length : length (padded u) ≡ 506
  body_length = omega (arith, length-append u (replicate (506 - length u) 0), length-replicate {A = ℕ} (506 - length u) 0, room)

  pub front_length : length (unchecked p u) ≡ 510
  unfolding unchecked
  front_length = omega (arith, body_length)

  pub made_length : length made ≡ 512
  made_length = omega (arith, length-append (unchecked p u) (half v), front_length)

  pub made_number : p ≤ 65535 → half_at made 0 ≡ p
  unfolding unchecked
  made_number small = half_of p (omega (arith, small))

  pub made_count : count_of made ≡ length u
  unfolding unchecked
  made_count = half_of (length u) (omega (arith, room))

  pub made_used : used_of made ≡ u
  unfolding unchecked
  made_used =
      ap (λ (n : ℕ). take n (drop 4 made)) made_count
      ∙ ap (take (length u)) (append_assoc u (replicate (506 - length u) 0) (half v))
      ∙ take-append_seam u (replicate (506 - length u) 0 ++ half v)

  pub made_front : take 510 made ≡ unchecked p u
  made_front = take_at (unchecked p u) (half v) 510 front_length

  made_apart : drop (4 + length u) (unchecked p u) ≡ replicate (506 - length u) 0
  unfolding unchecked
  made_apart = drop-append-add (half p ++ half (length u)) (padded u) (length u) ∙ drop-append_seam u (replicate (506 - length u) 0)

  pub made_zeros : blank (drop (4 + count_of made) (take 510 made)) ≡ true
  made_zeros =
      ap₂ (λ (n : ℕ) (x : List ℕ). blank (drop (4 + n) x)) made_count made_front ∙ ap blank made_apart ∙ blank_of (506 - length u)

  pub made_last : v ≤ 65535 → half_at made 510 ≡ v
  made_last small =
      ap₂ (λ (a b : ℕ). a + b * 256) (get_or_at (unchecked p u) (v % 256) (v / 256 % 256 ∷ []) 0 510 front_length)
      (ap (λ (n : ℕ). get_or made (n + 1) 0) (sym front_length) ∙ get_or-append-add (unchecked p u) (half v) 1 0)
      ∙ half_of v (omega (arith, small))

  pub made_sum : sum_to made 255 ≡ sum_to (unchecked p u) 255
  made_sum = sym (sum-take made 510 255 (omega arith)) ∙ ap (λ (x : List ℕ). sum_to x 255) made_front

  -- calls that have a written form are read back
  pub made_calls : (cs : List Call) → u ≡ written_all cs → AllFit cs → calls_of (used_of made) ≡ Some cs
  made_calls cs is fit = ap calls_of (made_used ∙ is) ∙ back cs fit

pub check_fits_lem : (p : ℕ) (u : List ℕ) (room : length u ≤ 506) → sum_to (made p u (check_of (unchecked p u)) room) 256 % 65536 ≡ 0
check_fits_lem p u room =
    ap (λ (s : ℕ). s % 65536)
    (sum_suc (made p u (check_of (unchecked p u)) room) 255
    ∙ ap₂ ◌+◌ (made_sum p u (check_of (unchecked p u)) room) (made_last p u (check_of (unchecked p u)) room (omega arith)))
    ∙ check_of_lem (sum_to (unchecked p u) 255)

pub block_is_good : (p : ℕ) (cs : List Call) → Writable p cs → (verdict_of p (block_of p cs) ≡ Good) × (calls_at (block_of p cs) ≡ cs)
unfolding block_of
block_is_good p cs w = (
  good p (made p u v w.room)
      (record {
        long = made_length p u v w.room;
        check = check_fits_lem p u w.room;
        first = w.first;
        number = made_number p u v w.room w.last;
        few = omega (arith, made_count p u v w.room, w.room);
        zeros = made_zeros p u v w.room;
        records = ap is_some calls;
      }),
  ap listed calls,
)
  where
    u : List ℕ
    u = written_all cs

    v : ℕ
    v = check_of (unchecked p (written_all cs))

    calls : calls_of (used_of (made p (written_all cs) (check_of (unchecked p (written_all cs))) w.room)) ≡ Some cs
    calls = made_calls p u v w.room cs refl w.fit

pub block_exact_lem : BlockExact
block_exact_lem =
    record {
      exact = λ p l cs b. (
        λ g. subst (λ (ds : List Call). IsBlock p ds l) g.1 (good_is_block p l b (passed p l (is_good_lem (verdict_of p l) g.0))),
        λ i. subst (λ (m : List ℕ). (verdict_of p m ≡ Good) × (calls_at m ≡ cs)) (sym i.form) (block_is_good p cs i.writable),
      );
      refused = λ p l b. (
        λ n cs i. n (subst (λ (m : List ℕ). verdict_of p m ≡ Good) (sym i.form) (block_is_good p cs i.writable).0),
        λ n g. n (calls_at l) (good_is_block p l b (passed p l (is_good_lem (verdict_of p l) g))),
      );
    }
