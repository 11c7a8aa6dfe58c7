-- What reading and writing one buffer come to, over plain values. Assumes nothing.
use mathlib.Core.Path.{◌≡◌, refl, ap, ◌∙◌}
use mathlib.Core.List.{List, ◌++◌, append-nil}
use Prim.Native.Nat.{ℕ, ◌+◌, ◌-◌, ◌≤◌, ◌<◌}
use native.Mathlib.Omega.{arith}
use lib.ListN.{length, take, drop, length-append, length-drop, drop_of_length-le}
use borrow.Rule.Slice.PartMut.{put_mid}
use Rattle.buffer.specs.declared.Slot.{Slot}
use Rattle.buffer.specs.declared.Slot.TheVariants.{Empty}
use Rattle.buffer.specs.declared.Buffer.{Buffer}
use Rattle.buffer.specs.Buffer.{vacant}
use Rattle.area_check.specs.Read.{slot_of, buffer_of}
use Rattle.area.specs.Written.{slot_bytes, buffer_bytes, buffer_put}
use Rattle.area.specs.Read.{buffer_from}
use Rattle.area_check.proofs.Rows.{put_next}
use Rattle.area.proofs.Over.{over_none, over_some, over_put}

-- a buffer's two parts are its written form
pub put_both : (b : Buffer) (o f p : List ℕ) → length o ≡ 72 → length f ≡ 8 → f ≡ slot_bytes b.slot b.payload.len → p ≡ b.payload.bytes
    → put_mid 8 (length (f ++ drop 8 o) - 8) (f ++ drop 8 o) p ≡ buffer_bytes b
unfolding buffer_bytes
put_both b o f p n nf ef ep =
    let h : length (drop 8 o) ≤ 64 = simp length-drop (omega arith) in
    let k : length (f ++ drop 8 o) - 8 ≡ 64 = simp (length-append, length-drop) (omega arith) in
    ap (λ (i : ℕ). put_mid 8 i (f ++ drop 8 o) p) k
    ∙ put_next 8 64 f (drop 8 o) p nf
    ∙ ap (λ (r : List ℕ). (f ++ p) ++ r) (drop_of_length-le (drop 8 o) h)
    ∙ append-nil (f ++ p)
    ∙ ap (λ (r : List ℕ). r ++ p) ef
    ∙ ap (λ (r : List ℕ). slot_bytes b.slot b.payload.len ++ r) ep

-- ---- one buffer in an area

module _ (n : ℕ) (a : List ℕ) where
  module _ (h : length a < n + 72) where
    pub buffer_none : {b : Buffer} → b ≡ vacant → b ≡ buffer_from n a
    unfolding buffer_from
    buffer_none e = e ∙ over_none (n + 72) a _ _ h

    pub slot_none : Empty ≡ (buffer_from n a).slot
    slot_none = ap (λ (b : Buffer). b.slot) (buffer_none refl)

    pub put_none : (b : Buffer) → a ≡ buffer_put n b a
    unfolding buffer_put
    put_none b = over_none (n + 72) a _ _ h

  module _ (h : n + 72 ≤ length a) where
    pub buffer_some : {b : Buffer} → b ≡ buffer_of (take 72 (drop n a)) → b ≡ buffer_from n a
    unfolding buffer_from
    buffer_some e = e ∙ over_some (n + 72) a _ _ h

    pub slot_some : {s : Slot} → s ≡ slot_of (take 72 (drop n a)) → s ≡ (buffer_from n a).slot
    unfolding buffer_of
    slot_some e = e ∙ ap (λ (b : Buffer). b.slot) (buffer_some refl)

    pub put_some : (b : Buffer) {p : List ℕ} → p ≡ buffer_bytes b → put_mid n (n + 72 - n) a p ≡ buffer_put n b a
    unfolding buffer_put
    put_some b e = over_put n 72 (n + 72) a _ _ h e
