-- One part of a written form, got and put. Assumes nothing.
use mathlib.Core.Path.{◌≡◌, refl, sym, ap, ◌∙◌}
use mathlib.Core.List.{List, [], ◌∷◌, ◌++◌, append_assoc, append-nil}
use mathlib.Core.Bool.{Bool, true, false, cond}
use Prim.Native.Nat.{ℕ, ◌+◌, ◌*◌, ◌≤◌, ◌<◌}
use native.Mathlib.Omega.{arith}
use native.Mathlib.Decide.{dec_lt}
use lib.Dec.{eqb}
use lib.ListN.{length, get_or, take, drop, set, length-append}
use lib.Seq.{length-take-le, take-take, take-set-lt, take-set-le, get_or-take}
use borrow.Author.Tests.{le-leb}
use borrow.Rule.Slice.PartMut.{put_mid}
use Rattle.bools.specs.Bit.{bit}
use Rattle.buffer.specs.declared.Buffer.{Buffer}
use Rattle.buffer.specs.declared.BufferNumber.{BufferNumber}
use Rattle.buffer.specs.Buffer.{vacant}
use Rattle.buffer.specs.Valid.{Whole}
use Rattle.translator.specs.declared.LowSide.{LowSide}
use Rattle.translator.specs.declared.LowSide.TheVariants.{Idle}
use Rattle.translator.specs.Translator.{at, with_buffer, with_low}
use Rattle.translator.proofs.Lists.{slots_four}
use Rattle.translator.specs.Slots.{slots_in}
use Rattle.hub.specs.declared.Hub.{Hub}
use Rattle.hub.specs.Hub.{with_translator}
use Rattle.hub.specs.Valid.{ValidHub}
use Rattle.payload.specs.Bytes.{flat}
use Rattle.area.specs.Written.{port_bytes, buffer_bytes, head_bytes, low_byte, running_byte, written, placed, buffer_put}
use Rattle.area.specs.Read.{buffer_from}
use Rattle.area_check.specs.Read.{buffer_of, low_of}
use Rattle.area_check.proofs.Rows.{Kept, All, all_map, all_take, flat_size, flat_length, row_put}
use Rattle.area.proofs.Ports.{port_size}
use Rattle.area.proofs.Buffers.{buffer_size, buffer_again}
use Rattle.area.proofs.Ties.{low_again}
use Rattle.area.proofs.Exact.{ports_there, buffers_there}
use Rattle.area_parts.specs.Parts.{head_at, buffer_at, slot_at, slots_at, low_over, buffer_over}
use Rattle.area.proofs.Over.{placed_is, over_none, over_some, row_got}

-- what a hub's written form needs to have its parts at their places; less than validity, so that it holds between two writings
pub record Shaped (h : Hub) : Type 0 where
  pub ports : h.identity.ports ≤ length h.ports
  pub buffers : h.translator.count ≤ length h.translator.buffers
  pub whole : (i : ℕ) → Whole (at h.translator.buffers i)

bit_again : (b : Bool) → eqb (bit b) 1 ≡ b
bit_again true = refl
bit_again false = refl

pub shaped : (h : Hub) → ValidHub h → Shaped h
shaped h v = record { ports = ports_there h v; buffers = buffers_there h v; whole = v.translator.whole }

module _ (h : Hub) (v : Shaped h) where
  abbrev hd : List ℕ
  hd = head_bytes h.identity h.configured h.translator.count h.translator.low

  abbrev ps : List ℕ
  ps = flat port_bytes (take h.identity.ports h.ports)

  abbrev bs : List ℕ
  bs = flat buffer_bytes (take h.translator.count h.translator.buffers)

  hd_long : length hd ≡ 8
  unfolding head_bytes
  hd_long = refl

  ps_long : length ps ≡ h.identity.ports * 4
  ps_long =
      flat_size port_bytes 4 port_size (take h.identity.ports h.ports)
      ∙ ap (λ (m : ℕ). m * 4) (length-take-le h.identity.ports h.ports v.ports)

  kept : (i : ℕ) → All (Kept buffer_bytes buffer_of 72) (take i h.translator.buffers)
  kept i =
      all_map {P = Whole} {Q = Kept buffer_bytes buffer_of 72} (λ x w. record { size = buffer_size x w; again = buffer_again x w })
      (take i h.translator.buffers) (all_take Whole vacant i h.translator.buffers (λ j q. v.whole j))

  -- the first i buffers take i times 72 bytes
  first_long : (i : ℕ) → i ≤ h.translator.count → length (flat buffer_bytes (take i h.translator.buffers)) ≡ i * 72
  first_long i k =
      flat_length buffer_bytes buffer_of 72 (take i h.translator.buffers) (kept i)
      ∙ ap (λ (j : ℕ). j * 72) (length-take-le i h.translator.buffers (omega (arith, v.buffers)))

  whole_long : length (written h) ≡ 8 + h.identity.ports * 4 + h.translator.count * 72
  unfolding written
  whole_long =
      let l = length-append ps bs in
      let m = length-append hd (ps ++ bs) in
      let x = ps_long in
      let y = first_long h.translator.count (omega arith) in
      let z = hd_long in
      omega (arith, l, m, x, y, z)

  pub low_anew : (l : LowSide) → low_over l (written h) ≡ written (with_translator h (with_low h.translator l))
  unfolding low_over written head_bytes
  low_anew l =
      ap (λ (b : Bool). cond b (placed 6 2 (low_byte l ∷ running_byte l ∷ []) (written h)) (written h))
      (le-leb 8 (length (written h)) (omega (arith, whole_long)))

  module _ (m : BufferNumber) where
    abbrev i : ℕ
    i = m.0

    abbrev start : ℕ
    start = 8 + h.identity.ports * 4

    abbrev all : List Buffer
    all = h.translator.buffers

    abbrev xs : List Buffer
    xs = take h.translator.count all

    before_long : length (hd ++ ps) ≡ start
    before_long = length-append hd ps ∙ ap (λ (j : ℕ). j + length ps) hd_long ∙ ap (λ (j : ℕ). 8 + j) ps_long

    joined : written h ≡ (hd ++ ps) ++ (bs ++ [])
    unfolding written
    joined = sym (append_assoc hd ps bs) ∙ ap (λ (r : List ℕ). (hd ++ ps) ++ r) (sym (append-nil bs))

    module _ (k : i < h.translator.count) where
      in_row : i < length xs
      in_row = let l = length-take-le h.translator.count all v.buffers in omega (arith, l, k)

      room : start + i * 72 + 72 ≤ length (written h)
      room = omega (arith, whole_long, k)

      part_long : length (flat buffer_bytes (take i xs)) ≡ i * 72
      part_long =
          ap (λ (r : List Buffer). length (flat buffer_bytes r)) (take-take i h.translator.count all (omega (arith, k)))
          ∙ first_long i (omega (arith, k))

      old_long : length (buffer_bytes (get_or xs i vacant)) ≡ 72
      old_long =
          ap (λ (x : Buffer). length (buffer_bytes x)) (get_or-take h.translator.count all i vacant k)
          ∙ buffer_size (get_or all i vacant) (v.whole i)

      put_inside : (b : Buffer) → buffer_over h.identity.ports m b (written h) ≡ written (with_translator h (with_buffer h.translator m b))
      unfolding buffer_over buffer_put written
      put_inside b =
          ap (λ (t : Bool). cond t (placed (start + i * 72) 72 (buffer_bytes b) (written h)) (written h)) (le-leb (start + i * 72 + 72) (length (written h)) room)
          ∙ sym (placed_is (start + i * 72) 72 (written h) (buffer_bytes b))
          ∙ ap (λ (r : List ℕ). put_mid (start + i * 72) 72 r (buffer_bytes b)) joined
          ∙ row_put buffer_bytes 72 start (hd ++ ps) [] xs i b vacant before_long in_row part_long old_long
          ∙ ap (λ (r : List ℕ). (hd ++ ps) ++ r) (append-nil (flat buffer_bytes (set xs i b)))
          ∙ append_assoc hd ps (flat buffer_bytes (set xs i b))
          ∙ ap (λ (r : List Buffer). hd ++ (ps ++ flat buffer_bytes r)) (sym (take-set-lt h.translator.count all i b k))

      pub got_inside : buffer_at h.identity.ports m (written h) ≡ get_or all i vacant
      unfolding buffer_at buffer_from
      got_inside =
          sym (over_some (start + i * 72 + 72) (written h) (buffer_of (take 72 (drop (start + i * 72) (written h)))) vacant room)
          ∙ ap (λ (r : List ℕ). buffer_of (take 72 (drop (start + i * 72) r))) joined
          ∙ ap buffer_of (row_got buffer_bytes 72 start (hd ++ ps) [] xs i vacant before_long in_row part_long old_long)
          ∙ ap (λ (x : Buffer). buffer_of (buffer_bytes x)) (get_or-take h.translator.count all i vacant k)
          ∙ buffer_again (get_or all i vacant) (v.whole i)

    module _ (k : h.translator.count ≤ i) where
      no_room : length (written h) < start + i * 72 + 72
      no_room = omega (arith, whole_long, k)

      put_outside : (b : Buffer) → buffer_over h.identity.ports m b (written h) ≡ written (with_translator h (with_buffer h.translator m b))
      unfolding buffer_over buffer_put written
      put_outside b =
          sym (over_none (start + i * 72 + 72) (written h) (placed (start + i * 72) 72 (buffer_bytes b) (written h)) (written h) no_room)
          ∙ ap (λ (r : List Buffer). hd ++ (ps ++ flat buffer_bytes r)) (sym (take-set-le h.translator.count all i b k))

      got_outside : buffer_at h.identity.ports m (written h) ≡ vacant
      unfolding buffer_at buffer_from
      got_outside = sym (over_none (start + i * 72 + 72) (written h) (buffer_of (take 72 (drop (start + i * 72) (written h)))) vacant no_room)

    pub buffer_anew : (b : Buffer) → buffer_over h.identity.ports m b (written h) ≡ written (with_translator h (with_buffer h.translator m b))
    buffer_anew b = go (dec_lt i h.translator.count)
      where
        go : Dec (i < h.translator.count) → buffer_over h.identity.ports m b (written h) ≡ written (with_translator h (with_buffer h.translator m b))
        go (yes k) = put_inside k b
        go (no k) = put_outside (omega (arith, k)) b

module _ (h : Hub) (v : ValidHub h) where
  pub buffer_there : (m : BufferNumber) → buffer_at h.identity.ports m (written h) ≡ at h.translator.buffers m.0
  buffer_there m = go (dec_lt m.0 h.translator.count)
    where
      go : Dec (m.0 < h.translator.count) → buffer_at h.identity.ports m (written h) ≡ at h.translator.buffers m.0
      go (yes k) = got_inside h (shaped h v) m k
      go (no k) =
          let outside : h.translator.count ≤ m.0 = omega (arith, k) in
          got_outside h (shaped h v) m outside ∙ sym (v.translator.spare m.0 outside)

  pub slots_there : slots_at h.identity.ports (written h) ≡ slots_in h.translator.buffers
  unfolding slots_at
  slots_there =
      let slot : (n : ℕ) → slot_at h.identity.ports n (written h) ≡ (at h.translator.buffers n).slot =
      λ n. ap (λ (b : Buffer). b.slot) (buffer_there (record { 0 = n })) in
      rw (slot 0, slot 1, slot 2, slot 3) (slots_four vacant h.translator.buffers v.translator.four)

  pub head_there : head_at (written h)
      ≡ record {
        ports = record { 0 = h.identity.ports };
        count = record { 0 = h.translator.count };
        configured = h.configured;
        low = h.translator.low;
      }
  unfolding head_at written head_bytes
  head_there =
      sym (over_some 8 (written h)
      (record {
        ports = record { 0 = h.identity.ports };
        count = record { 0 = h.translator.count };
        configured = eqb (bit h.configured) 1;
        low = low_of (low_byte h.translator.low) (running_byte h.translator.low);
      })
      (record { ports = record { 0 = 0 }; count = record { 0 = 0 }; configured = false; low = Idle })
      (omega (arith, whole_long h (shaped h v))))
      ∙ rw (bit_again h.configured, low_again h.translator.low)
