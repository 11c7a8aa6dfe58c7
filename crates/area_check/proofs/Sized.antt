-- What the first bytes and the length of an area say. Assumes nothing.
use mathlib.Core.Path.{◌≡◌, sym, ap, ◌∙◌}
use mathlib.Core.List.{List, map}
use mathlib.Core.Bool.{Bool, true, not, ◌&&◌, ◌||◌, and_assoc, and-eq-true_iff}
use Prim.Native.Nat.{ℕ, ◌+◌, ◌-◌, ◌*◌, ◌^◌, ◌%◌, ◌/◌, ◌≤◌, ◌<◌}
use native.Mathlib.Omega.{arith}
use lib.Seq.{length-take-le}
use native.Mathlib.Nat.{add-sub_cancel_left}
use lib.ListN.{length, get_or, take, drop, length-drop}
use lib.Dec.{eqb, leb, ltb}
use borrow.Author.Tests.{eqb-true, leb-true, ltb-true}
use Rattle.hub.specs.Hub.{new_fits}
use Rattle.area_check.specs.Rows.{every}
use Rattle.std.specs.List.{list_all}
use Rattle.std.specs.Simd.{first_chunks}
use Rattle.buffer.specs.declared.Lane.TheVariants.{Zero, One}
use Rattle.area_check.proofs.Rows.{every_rows}
use Rattle.area_check.proofs.Ties.{clashing_rows, runs_rows}
use Rattle.area_check.specs.Read.{port_part, buffer_part, port_fits, buffer_fits, slot_of, filled_by, clashing, runs, low_fits, head_fits, sized, rows_fit, accepts}

-- what a right head and length say
pub record Sized (a : List ℕ) : Type 0 where
  pub head : 8 ≤ length a
  pub seven : get_or a 0 0 ≤ 7
  pub two : 2 ≤ get_or a 1 0
  pub four : get_or a 1 0 ≤ 4
  pub whole : length a ≡ 8 + get_or a 0 0 * 4 + get_or a 1 0 * 72
  pub fits : head_fits a ≡ true

-- the numbers of ports and buffers
pub record Counts (n b : ℕ) : Type 0 where
  pub one : 1 ≤ n
  pub seven : n ≤ 7
  pub two : 2 ≤ b
  pub four : b ≤ 4

pub counts : (n b g c r : ℕ) → new_fits n b g c r ≡ true → Counts n b
unfolding new_fits
counts n b g c r e =
    let x = ((and-eq-true_iff ((leb 1 n && leb n 7) && (leb 2 b && leb b 4)) ((ltb g 256 && ltb c 256) && (eqb (r % 2) 0 && ltb r (2 ^ (n + 1))))).0 e).0 in
    let y = (and-eq-true_iff (leb 1 n && leb n 7) (leb 2 b && leb b 4)).0 x in
    let u = (and-eq-true_iff (leb 1 n) (leb n 7)).0 y.0 in
    let v = (and-eq-true_iff (leb 2 b) (leb b 4)).0 y.1 in
    record { one = leb-true 1 n u.0; seven = leb-true n 7 u.1; two = leb-true 2 b v.0; four = leb-true b 4 v.1 }

-- what a right head says
pub record Headed (a : List ℕ) : Type 0 where
  pub numbers : new_fits (get_or a 0 0) (get_or a 1 0) (get_or a 2 0) (get_or a 3 0) (get_or a 4 0) ≡ true
  pub configured : get_or a 5 0 < 2
  pub low : low_fits (get_or a 6 0) (get_or a 7 0) ≡ true

pub headed : (a : List ℕ) → head_fits a ≡ true → Headed a
unfolding head_fits
headed a e =
    let x = (and-eq-true_iff (new_fits (get_or a 0 0) (get_or a 1 0) (get_or a 2 0) (get_or a 3 0) (get_or a 4 0)) (ltb (get_or a 5 0) 2 && low_fits (get_or a 6 0) (get_or a 7 0))).0 e in
    let y = (and-eq-true_iff (ltb (get_or a 5 0) 2) (low_fits (get_or a 6 0) (get_or a 7 0))).0 x.1 in
    record { numbers = x.0; configured = ltb-true (get_or a 5 0) 2 y.0; low = y.1 }

pub sized_to : (a : List ℕ) → sized a ≡ true → Sized a
unfolding sized
sized_to a e =
    let x = (and-eq-true_iff (leb 8 (length a)) (head_fits a && eqb (length a) (8 + get_or a 0 0 * 4 + get_or a 1 0 * 72))).0 e in
    let y = (and-eq-true_iff (head_fits a) (eqb (length a) (8 + get_or a 0 0 * 4 + get_or a 1 0 * 72))).0 x.1 in
    let k = counts (get_or a 0 0) (get_or a 1 0) (get_or a 2 0) (get_or a 3 0) (get_or a 4 0) (headed a y.0).numbers in
    record {
      head = leb-true 8 (length a) x.0;
      seven = k.seven;
      two = k.two;
      four = k.four;
      whole = eqb-true (length a) (8 + get_or a 0 0 * 4 + get_or a 1 0 * 72) y.1;
      fits = y.0;
    }

pub taken_sized : (a : List ℕ) → accepts a ≡ true → Sized a
unfolding accepts
taken_sized a e = sized_to a ((and-eq-true_iff (sized a) (rows_fit a)).0 e).0

-- ---- the rows of `rows_fit`

module _ (a : List ℕ) where
  abbrev pub port_tests : List (List ℕ) → Bool
  port_tests rows = list_all (port_fits (eqb (get_or a 5 0) 1)) rows

  abbrev pub buffer_tests : List (List ℕ) → Bool
  buffer_tests rows =
      list_all buffer_fits rows
      && (not (clashing (map slot_of rows))
      && (not (list_all (filled_by Zero) rows || list_all (filled_by One) rows) && runs (map slot_of rows) (get_or a 6 0) (get_or a 7 0)))

  pub rows_is : port_tests (first_chunks 4 (get_or a 0 0) (port_part a)) && buffer_tests (first_chunks 72 (get_or a 1 0) (buffer_part a)) ≡ rows_fit a
  unfolding rows_fit
  rows_is =
      let m : ℕ = get_or a 1 0 in
      let b : List ℕ = buffer_part a in
      rw (every_rows (port_fits (eqb (get_or a 5 0) 1)) 4 (get_or a 0 0) (port_part a), every_rows buffer_fits 72 m b, every_rows (filled_by Zero) 72 m b, every_rows (filled_by One) 72 m b, clashing_rows m b, runs_rows m b (get_or a 6 0) (get_or a 7 0))
      (sym (and_assoc (every (port_fits (eqb (get_or a 5 0) 1)) 4 (get_or a 0 0) (port_part a)) _ _))

  module _ (h : length a ≡ 8 + get_or a 0 0 * 4 + get_or a 1 0 * 72) where
    -- the slices that the rows are of
    pub port_rows : (p : List ℕ) → p ≡ take (8 + get_or a 0 0 * 4 - 8) (drop 8 a) → first_chunks 4 (length p / 4) p ≡ first_chunks 4 (get_or a 0 0) (port_part a)
    port_rows p e =
        let q : p ≡ port_part a = e ∙ ap (λ (k : ℕ). take k (drop 8 a)) (add-sub_cancel_left 8 (get_or a 0 0 * 4)) in
        let l : length p ≡ get_or a 0 0 * 4 = ap length q ∙ length-take-le (get_or a 0 0 * 4) (drop 8 a) (simp length-drop (omega arith)) in
        let n : length p / 4 ≡ get_or a 0 0 = omega arith in
        rw (n, q)

    pub buffer_rows : (b : List ℕ) → b ≡ take (length a - (8 + get_or a 0 0 * 4)) (drop (8 + get_or a 0 0 * 4) a)
        → first_chunks 72 (length b / 72) b ≡ first_chunks 72 (get_or a 1 0) (buffer_part a)
    buffer_rows b e =
        let k : length a - (8 + get_or a 0 0 * 4) ≡ get_or a 1 0 * 72 = omega arith in
        let q : b ≡ buffer_part a = e ∙ ap (λ (i : ℕ). take i (drop (8 + get_or a 0 0 * 4) a)) k in
        let l : length b ≡ get_or a 1 0 * 72 = ap length q ∙ length-take-le (get_or a 1 0 * 72) (drop (8 + get_or a 0 0 * 4) a) (simp length-drop (omega arith)) in
        let n : length b / 72 ≡ get_or a 1 0 = omega arith in
        rw (n, q)
