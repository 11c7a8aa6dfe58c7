-- What reading and writing a whole area come to, over plain values. Assumes nothing.
use mathlib.Core.Path.{◌≡◌, sym, ap, ◌∙◌}
use mathlib.Core.List.{List, [], ◌++◌, map, append_assoc, append-nil}
use mathlib.Core.Bool.{Bool, true, false, cond}
use Prim.Native.Nat.{ℕ, ◌+◌, ◌-◌, ◌*◌, ◌≤◌, min}
use native.Mathlib.Nat.{add-sub_cancel_left}
use native.Mathlib.Decide.{dec_le}
use native.Mathlib.Omega.{arith}
use lib.ListN.{length, get_or, take, drop, length-append}
use lib.Seq.{drop-length, drop-drop, take_all}
use lib.Dec.{eqb}
use borrow.Author.Tests.{eq-eqb, ne_eqb}
use borrow.Rule.Slice.PartMut.{put_mid}
use Rattle.std.specs.Prelude.{Some, None}
use Rattle.std.specs.Simd.{first_chunks}
use Rattle.port.specs.declared.Port.{Port}
use Rattle.buffer.specs.declared.Buffer.{Buffer}
use Rattle.translator.specs.declared.LowSide.{LowSide}
use Rattle.hub.specs.declared.Hub.{Hub}
use Rattle.payload.specs.Bytes.{flat}
use Rattle.area.specs.Written.{port_bytes, buffer_bytes, head_bytes, written, written_over}
use Rattle.area_check.specs.Read.{low_of, port_of, buffer_of, no_ports, no_buffers, ports_of, buffers_of, port_part, buffer_part, decoded, accepts}
use Rattle.area.specs.Read.{read_of}
use Rattle.area_check.proofs.Rows.{put_next, chunks_long, parts_rows}

-- ---- the paths through `read_area` and what it calls

pub port_row : (n : ℕ) (l : List ℕ) → map port_of (first_chunks 4 n l) ++ drop (length (first_chunks 4 n l)) no_ports ≡ ports_of n l
unfolding ports_of
port_row n l = ap (λ (k : ℕ). map port_of (first_chunks 4 n l) ++ drop k no_ports) (chunks_long 4 n l) ∙ ap (λ (r : List Port). r ++ drop n no_ports) (parts_rows port_of 4 n l)

pub buffer_row : (n : ℕ) (l : List ℕ) → map buffer_of (first_chunks 72 n l) ++ drop (length (first_chunks 72 n l)) no_buffers ≡ buffers_of n l
unfolding buffers_of
buffer_row n l =
    ap (λ (k : ℕ). map buffer_of (first_chunks 72 n l) ++ drop k no_buffers) (chunks_long 72 n l) ∙ ap (λ (r : List Buffer). r ++ drop n no_buffers) (parts_rows buffer_of 72 n l)

pub decode_end : (a : List ℕ) (ps : List Port) (bs : List Buffer) (l : LowSide) → l ≡ low_of (get_or a 6 0) (get_or a 7 0)
    → ps ≡ ports_of (get_or a 0 0) (port_part a)
    → bs ≡ buffers_of (get_or a 1 0) (buffer_part a)
    → ◌≡◌ {A = Hub}
    (record {
      identity = record { ports = get_or a 0 0; powergood = get_or a 2 0; current = get_or a 3 0; removable = get_or a 4 0 };
      configured = eqb (get_or a 5 0) 1;
      ports = ps;
      translator = record { buffers = bs; count = get_or a 1 0; low = l };
    })
    (decoded a)
unfolding decoded
decode_end a ps bs l d p q = rw (p, q, d)

module _ (a : List ℕ) (z : Bool) (ez : z ≡ accepts a) where
  pub read_not : z ≡ false → None ≡ read_of a
  unfolding read_of
  read_not f = sym (ap (λ (b : Bool). cond b (Some (decoded a)) None) (sym ez ∙ f))

  pub read_taken : (h : Hub) → h ≡ decoded a → z ≡ true → Some h ≡ read_of a
  unfolding read_of
  read_taken h e t = ap Some e ∙ sym (ap (λ (b : Bool). cond b (Some (decoded a)) None) (sym ez ∙ t))

-- ---- the paths through `write_area`

-- no more than there is can be taken
pub take_min : {A : Type 0} (n k : ℕ) (l : List A) → length l ≡ k → take (min n k) l ≡ take n l
take_min {A} n k l e = go (dec_le n k)
  where
    go : Dec (n ≤ k) → take (min n k) l ≡ take n l
    go (yes h) = let m : min n k ≡ n = omega arith in ap (λ (i : ℕ). take i l) m
    go (no h) =
        let m : min n k ≡ k = omega arith in
        let x : length l ≤ k = omega arith in
        let y : length l ≤ n = omega arith in
        ap (λ (i : ℕ). take i l) m ∙ take_all k l x ∙ sym (take_all n l y)

module _ (h : Hub) (o : List ℕ) (n m : ℕ) (en : n ≡ min h.identity.ports 7) (em : m ≡ min h.translator.count 4) where
  span : 8 + n * 4 + m * 72 ≡ 8 + min h.identity.ports 7 * 4 + min h.translator.count 4 * 72
  span = ap (λ (x : ℕ). 8 + x * 4 + m * 72) en ∙ ap (λ (x : ℕ). 8 + min h.identity.ports 7 * 4 + x * 72) em

  pub write_not : ¬ (length o ≡ 8 + n * 4 + m * 72) → o ≡ written_over h o
  unfolding written_over
  write_not d = sym (ap (λ (b : Bool). cond b (written h) o) (ne_eqb _ _ (λ e. d (e ∙ sym span))))

  module _ (lp : length h.ports ≡ 7) (lb : length h.translator.buffers ≡ 4) (lo : length o ≡ 8 + n * 4 + m * 72) where
    joined : head_bytes h.identity h.configured h.translator.count h.translator.low
        ++ (flat port_bytes (take n h.ports) ++ flat buffer_bytes (take m h.translator.buffers))
        ≡ written_over h o
    unfolding written_over written
    joined =
        let p : take n h.ports ≡ take h.identity.ports h.ports =
        ap (λ (i : ℕ). take i h.ports) en ∙ take_min h.identity.ports 7 h.ports lp in
        let b : take m h.translator.buffers ≡ take h.translator.count h.translator.buffers =
        ap (λ (i : ℕ). take i h.translator.buffers) em ∙ take_min h.translator.count 4 h.translator.buffers lb in
        rw (p, b) (sym (ap (λ (t : Bool). cond t (written h) o) (eq-eqb (length o) _ (lo ∙ span))))

    pub write_end : (f p b : List ℕ) → length f ≡ 8 → length p ≡ n * 4
        → f ≡ head_bytes h.identity h.configured h.translator.count h.translator.low → p ≡ flat port_bytes (take n h.ports)
        → b ≡ flat buffer_bytes (take m h.translator.buffers)
        → put_mid (8 + n * 4) (8 + n * 4 + m * 72 - (8 + n * 4)) (put_mid 8 (8 + n * 4 - 8) (put_mid 0 8 o f) p) b ≡ written_over h o
    write_end f p b nf np e₁ e₂ e₃ =
        let i : ℕ = n * 4 in
        let j : ℕ = m * 72 in
        let r : List ℕ = drop 8 o in
        let hd : List ℕ = head_bytes h.identity h.configured h.translator.count h.translator.low in
        let l : length (f ++ p) ≡ 8 + i = length-append f p ∙ ap (λ (k : ℕ). k + length p) nf ∙ ap (λ (k : ℕ). 8 + k) np in
        let z : drop j (drop i r) ≡ [] = ap (drop j) (drop-drop i 8 o) ∙ drop-drop j (8 + i) o ∙ ap (λ (k : ℕ). drop k o) (sym lo) ∙ drop-length o in
        ap (λ (k : ℕ). put_mid (8 + i) k (put_mid 8 (8 + i - 8) (put_mid 0 8 o f) p) b) (add-sub_cancel_left (8 + i) j)
        ∙ ap (λ (k : ℕ). put_mid (8 + i) j (put_mid 8 k (put_mid 0 8 o f) p) b) (add-sub_cancel_left 8 i)
        ∙ ap (λ (x : List ℕ). put_mid (8 + i) j x b) (put_next 8 i f r p nf)
        ∙ put_next (8 + i) j (f ++ p) (drop i r) b l
        ∙ ap (λ (x : List ℕ). ((f ++ p) ++ b) ++ x) z
        ∙ append-nil ((f ++ p) ++ b)
        ∙ append_assoc f p b
        ∙ ap (λ (x : List ℕ). x ++ (p ++ b)) e₁
        ∙ ap (λ (x : List ℕ). hd ++ (x ++ b)) e₂
        ∙ ap (λ (x : List ℕ). hd ++ (flat port_bytes (take n h.ports) ++ x)) e₃
        ∙ joined
