-- A block's verdict is the one to be told. Assumes nothing.
use Prim.Native.Nat.{ℕ, zero, suc, ◌+◌, ◌-◌, ◌%◌, ◌≤◌, ◌<◌}
use native.Mathlib.Omega.{arith}
use mathlib.Core.Path.{◌≡◌, refl, sym, ◌∙◌, ap, subst}
use mathlib.Core.List.{List, [], ◌∷◌}
use mathlib.Core.Bool.{Bool, true, false, cond, not, and-eq-true_iff, true≢false}
use borrow.Author.Tests.{eqb-true, eq-eqb, ne_eqb, leb-true, le-leb}
use lib.Dec.{eqb, leb}
use Rattle.std.proofs.Common.{Ok, Err, is_some}
use lib.ListN.{length, get_or, take, drop, length-drop}
use lib.Seq.{get_or-take, get_or-drop, length-take-le}
use Rattle.area_check.specs.Rows.{blank}
use Rattle.call_bytes.specs.Words.{half_at}
use Rattle.call_bytes.specs.Written.{Bytes}
use Rattle.call_bytes.proofs.Exact.{bytes_drop, bytes_take}
use Rattle.recording.specs.declared.BlockFault.TheVariants.{BadLength, BadCheck, BadNumber, BadCount, BadRecord}
use Rattle.recording.specs.Calls.{calls_of}
use Rattle.recording.specs.Written.{sum_to, count_of, used_of}
use Rattle.recording.specs.Block.{Verdict, Good, length_fits, check_fits, number_fits, count_fits, records_fit, verdict_for, verdict_of, calls_at}
use Rattle.recording.specs.Refusals.{CountRight, RecordsRight, Right, Told, BlockRefusals}
use Rattle.recording.proofs.Rows.{back, calls_exact_lem}
use Rattle.recording.proofs.Blocks.{not_zero, some_listed}

-- ---- zeros, byte by byte

blank-at : (l : List ℕ) → blank l ≡ true → (i : ℕ) → get_or l i 0 ≡ 0
unfolding blank
blank-at [] e i = refl
blank-at (x ∷ l) e zero = eqb-true x 0 ((and-eq-true_iff (eqb x 0) (blank l)).0 e).0
blank-at (x ∷ l) e (suc i) = blank-at l ((and-eq-true_iff (eqb x 0) (blank l)).0 e).1 i

at-blank : (l : List ℕ) → ((i : ℕ) → i < length l → get_or l i 0 ≡ 0) → blank l ≡ true
unfolding blank
at-blank [] z = refl
at-blank (x ∷ l) z = rw (eq-eqb x 0 (z 0 (omega arith))) (at-blank l (λ i h. z (suc i) (omega (arith, h))))

-- ---- each test, both ways

module _ (p : ℕ) (l : List ℕ) where
  number_right : number_fits p l ≡ true → Right BadNumber p l
  number_right e =
      let n = (and-eq-true_iff (not (eqb p 0)) (eqb (half_at l 0) p)).0 e in
      (not_zero p n.0, eqb-true (half_at l 0) p n.1)

  right_number : Right BadNumber p l → number_fits p l ≡ true
  right_number r =
      let n : ¬ (p ≡ 0) = λ e. absurd (omega (arith, e, r.0)) in
      rw (ne_eqb p 0 n, eq-eqb (half_at l 0) p r.1)

  module _ (long : length l ≡ 512) where
    unused_at : (i : ℕ) → 4 + count_of l ≤ 510 → i < 510 → 4 + count_of l ≤ i
        → get_or (drop (4 + count_of l) (take 510 l)) (i - (4 + count_of l)) 0 ≡ get_or l i 0
    unused_at i few h k =
        let e : 4 + count_of l + (i - (4 + count_of l)) ≡ i = omega (arith, k) in
        get_or-drop (4 + count_of l) (take 510 l) (i - (4 + count_of l)) 0 ∙ ap (λ (n : ℕ). get_or (take 510 l) n 0) e ∙ get_or-take 510 l i 0 h

    count_right : count_fits l ≡ true → CountRight l
    count_right e =
        let k = (and-eq-true_iff (leb (count_of l) 506) (blank (drop (4 + count_of l) (take 510 l)))).0 e in
        let few : count_of l ≤ 506 = leb-true (count_of l) 506 k.0 in
        record {
          few = few;
          zeros = λ i b h. sym (unused_at i (omega (arith, few)) h b) ∙ blank-at (drop (4 + count_of l) (take 510 l)) k.1 (i - (4 + count_of l));
        }

    right_count : CountRight l → count_fits l ≡ true
    right_count r =
        rw (le-leb (count_of l) 506 r.few)
        (at-blank (drop (4 + count_of l) (take 510 l))
        (λ i h. get_or-drop (4 + count_of l) (take 510 l) i 0 ∙ get_or-take 510 l (4 + count_of l + i) 0 (inside i h) ∙ r.zeros (4 + count_of l + i) (omega arith) (inside i h)))
      where
        inside : (i : ℕ) → i < length (drop (4 + count_of l) (take 510 l)) → 4 + count_of l + i < 510
        inside i h =
            omega (arith, h, length-drop (4 + count_of l) (take 510 l), length-take-le 510 l (omega (arith, long)))

  records_right : Bytes l → records_fit l ≡ true → RecordsRight l
  records_right b e =
      let r = (calls_exact_lem (used_of l) (calls_at l) (bytes_take (drop 4 l) (count_of l) (bytes_drop l 4 b))).0 (some_listed (calls_of (used_of l)) e) in
      record { calls = calls_at l; fit = r.0; form = r.1 }

  right_records : RecordsRight l → records_fit l ≡ true
  right_records r = ap (λ (u : List ℕ). is_some (calls_of u)) r.form ∙ ap is_some (back r.calls r.fit)

-- ---- what is told

no : {A : Type 0} {x : Bool} → (A → x ≡ true) → x ≡ false → ¬ A
no f e a = true≢false (sym (f a) ∙ e)

told : (p : ℕ) (l : List ℕ) → Bytes l → Told (verdict_of p l) p l
unfolding verdict_for
told p l b = go (length_fits l) refl (check_fits l) refl (number_fits p l) refl (count_fits l) refl (records_fit l) refl
  where
    go : (a : Bool) → length_fits l ≡ a → (c : Bool) → check_fits l ≡ c → (n : Bool) → number_fits p l ≡ n → (d : Bool) → count_fits l ≡ d
        → (f : Bool) → records_fit l ≡ f
        → Told (cond a (cond c (cond n (cond d (cond f Good (Err BadRecord)) (Err BadCount)) (Err BadNumber)) (Err BadCheck)) (Err BadLength)) p l
    go false s c t n u d v f w = no (eq-eqb (length l) 512) s
    go true s false t n u d v f w = (eqb-true (length l) 512 s, no (eq-eqb (sum_to l 256 % 65536) 0) t)
    go true s true t false u d v f w = (eqb-true (length l) 512 s, (eqb-true (sum_to l 256 % 65536) 0 t, no (right_number p l) u))
    go true s true t true u false v f w =
        let long = eqb-true (length l) 512 s in
        (long, (eqb-true (sum_to l 256 % 65536) 0 t, (number_right p l u, no (right_count p l long) v)))
    go true s true t true u true v false w =
        let long = eqb-true (length l) 512 s in
        (long, (eqb-true (sum_to l 256 % 65536) 0 t, (number_right p l u, (count_right p l long v, no (right_records p l) w))))
    go true s true t true u true v true w =
        let long = eqb-true (length l) 512 s in
        (long, (eqb-true (sum_to l 256 % 65536) 0 t, (number_right p l u, (count_right p l long v, records_right p l b w))))

not_so : (x : Bool) → ¬ (x ≡ true) → x ≡ false
not_so true n = absurd (n refl)
not_so false n = refl

is_told : (v : Verdict) (p : ℕ) (l : List ℕ) → Bytes l → Told v p l → verdict_of p l ≡ v
unfolding verdict_for
is_told (Err BadLength) p l b t = rw (ne_eqb (length l) 512 t)
is_told (Err BadCheck) p l b t = rw (eq-eqb (length l) 512 t.0, ne_eqb (sum_to l 256 % 65536) 0 t.1)
is_told (Err BadNumber) p l b t =
    rw (eq-eqb (length l) 512 t.0, eq-eqb (sum_to l 256 % 65536) 0 t.1.0, not_so (number_fits p l) (λ e. t.1.1 (number_right p l e)))
is_told (Err BadCount) p l b t =
    rw (
      eq-eqb (length l) 512 t.0,
      eq-eqb (sum_to l 256 % 65536) 0 t.1.0,
      right_number p l t.1.1.0,
      not_so (count_fits l) (λ e. t.1.1.1 (count_right p l t.0 e)),
    )
is_told (Err BadRecord) p l b t =
    rw (
      eq-eqb (length l) 512 t.0,
      eq-eqb (sum_to l 256 % 65536) 0 t.1.0,
      right_number p l t.1.1.0,
      right_count p l t.0 t.1.1.1.0,
      not_so (records_fit l) (λ e. t.1.1.1.1 (records_right p l b e)),
    )
is_told (Ok tt) p l b t =
    rw (
      eq-eqb (length l) 512 t.0,
      eq-eqb (sum_to l 256 % 65536) 0 t.1.0,
      right_number p l t.1.1.0,
      right_count p l t.0 t.1.1.1.0,
      right_records p l t.1.1.1.1,
    )

pub block_refusals_lem : BlockRefusals verdict_of
block_refusals_lem v p l b = (λ e. subst (λ (w : Verdict). Told w p l) e (told p l b), is_told v p l b)
