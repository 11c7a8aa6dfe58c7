-- Laws of payloads: what is put in is what is held, with zeros behind it; what is given is written and no more.
-- Assumes nothing.
use Prim.Native.Nat.{ℕ, zero, suc, ◌-◌, ◌≤◌, min}
use mathlib.Core.Path.{◌≡◌, sym, ap, ◌∙◌}
use mathlib.Core.List.{List, [], ◌∷◌, ◌++◌}
use native.Mathlib.Nat.{suc-sub-suc, sub-zero, zero-sub, zero-min, min-zero, suc-min-suc}
use native.Mathlib.Omega.{arith}
use lib.ListN.{length, take, drop, replicate, length-take}
use lib.Seq.{take-length, take-append_seam, take_all}
use Rattle.payload.specs.declared.Payload.{Payload}
use Rattle.payload.specs.Payload.{padded, payload_of, content, written}

pub drop-replicate : (n m a : ℕ) → drop n (replicate m a) ≡ replicate (m - n) a
drop-replicate zero m a = rw sub-zero
drop-replicate (suc n) zero a = rw zero-sub
drop-replicate (suc n) (suc m) a = rw suc-sub-suc (drop-replicate n m a)

-- no more can be taken than there is
pub take_min : (n : ℕ) (l : List ℕ) → take (min (length l) n) l ≡ take n l
take_min zero l = rw min-zero
take_min (suc n) [] = rw zero-min
take_min (suc n) (x ∷ l) = rw (suc-min-suc, take_min n l)

pub drop_min : (n : ℕ) (l : List ℕ) → drop (min n (length l)) l ≡ drop n l
drop_min zero l = rw zero-min
drop_min (suc n) [] = rw min-zero
drop_min (suc n) (x ∷ l) = rw (suc-min-suc, drop_min n l)

pub take_both : (m n : ℕ) (l : List ℕ) → take m (take n l) ≡ take (min n m) l
take_both zero n l = rw min-zero
take_both (suc m) zero l = rw zero-min
take_both (suc m) (suc n) [] = rw suc-min-suc
take_both (suc m) (suc n) (x ∷ l) = rw (suc-min-suc, take_both m n l)

-- a copy of l over 64 zeros
pub over_zeros : (l : List ℕ) → take (length l) l ++ drop (length l) (replicate 64 0) ≡ padded l
unfolding padded
over_zeros l = rw (take-length, drop-replicate)

pub made : (s : List ℕ) {n : ℕ} {b : List ℕ} → n ≡ min (length s) 64
    → b ≡ take n s ++ drop n (replicate 64 0)
    → record { len = n; bytes = b } ≡ payload_of s
unfolding payload_of padded
made s {n} {b} e f =
    let t : take n s ≡ take 64 s = ap (λ (k : ℕ). take k s) e ∙ take_min 64 s in
    let l : n ≡ length (take 64 s) = simp length-take (omega arith) in
    rw (f, t, l, drop-replicate)

-- the first n of the bytes b, at the start of r
pub gave : (p : Payload) (r : List ℕ) {len n : ℕ} {w : List ℕ} → length p.bytes ≡ 64 → len ≡ min p.len 64 → n ≡ min len (length r)
    → w ≡ take n p.bytes ++ drop n r
    → w ≡ written (content p) r
unfolding written
gave p r {len} {n} l e f g =
    let a : n ≡ min (length p.bytes) (min p.len (length r)) = omega arith in
    let t : take n p.bytes ≡ take (length r) (content p) =
    ap (λ (k : ℕ). take k p.bytes) a ∙ (take_min (min p.len (length r)) p.bytes ∙ sym (take_both (length r) p.len p.bytes)) in
    let k : length (content p) ≡ len = simp length-take (omega arith) in
    g ∙ rw (t, k, f, drop_min)

-- a payload holds the first 64 bytes, ..
pub content_taken : (l : List ℕ) → content (payload_of l) ≡ take 64 l
unfolding payload_of padded
content_taken l = take-append_seam (take 64 l) (replicate (64 - length (take 64 l)) 0)

-- .. with zeros behind them; ..
pub zeros_of : (l : List ℕ) → (payload_of l).bytes ≡ padded (content (payload_of l))
unfolding payload_of
zeros_of l = ap padded (sym (content_taken l))

-- .. at most 64 bytes are given back
pub content_of : (l : List ℕ) → length l ≤ 64 → content (payload_of l) ≡ l
content_of l h = content_taken l ∙ take_all 64 l h

pub len_of : (l : List ℕ) → length l ≤ 64 → (payload_of l).len ≡ length l
unfolding payload_of
len_of l h = rw (take_all 64 l)
