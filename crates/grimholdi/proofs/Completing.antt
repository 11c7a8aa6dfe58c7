-- Complete-split on an area that is taken, way by way. Assumes nothing.
use Prim.Native.Nat.{ℕ}
use mathlib.Core.Path.{◌≡◌, refl, sym, ◌∙◌, ap}
use mathlib.Core.Bool.{Bool, true, true≢false}
use mathlib.Core.List.{List}
use lib.Dec.{leb}
use lib.ListN.{length, take}
use Rattle.payload.specs.Payload.{content, written}
use Rattle.buffer.specs.declared.Key.{Key}
use Rattle.buffer.specs.declared.StartSplit.{StartSplit}
use Rattle.buffer.specs.declared.DeviceResult.{DeviceResult}
use Rattle.buffer.specs.declared.Slot.{Slot}
use Rattle.buffer.specs.declared.Slot.TheVariants.{Empty, Pending, Ready, Old}
use Rattle.buffer.specs.declared.Buffer.{Buffer}
use Rattle.buffer.specs.declared.BufferNumber.{BufferNumber}
use Rattle.buffer.specs.Buffer.{holds}
use Rattle.std.specs.Prelude.{None, Option, Some}
use Rattle.translator.specs.declared.Translator.{Translator}
use Rattle.translator.specs.Slots.{bare}
use Rattle.translator.specs.Search.{find}
use Rattle.translator.specs.CompleteSplit.{given, completed, complete_at, complete_split}
use Rattle.translator.proofs.Bare.{find-bare}
use Rattle.numbers.specs.Split.{key_named, key_from}
use Rattle.hub.specs.declared.Refusal.{Refusal}
use Rattle.hub.specs.declared.Hub.{Hub}
use Rattle.hub.specs.Call.{Call, Complete}
use Rattle.hub.specs.Rules.{completed_as}
use Rattle.hub.specs.Checks.{within, has_space, not_silent, fitting, refusal_number, first_refusal}
use Rattle.hub.specs.Step.{served, step}
use Rattle.area_check.specs.Read.{accepts}
use Rattle.area_parts.specs.declared.Head.{Head}
use Rattle.area_parts.specs.Parts.{head_at, buffer_at, slots_at, buffer_over}
use Rattle.area_parts.proofs.Exact.{parts_exact_lem}
use Rattle.grimholdi.specs.declared.Answer.{Answer}
use Rattle.grimholdi.specs.Outcome.{plain_struct}
use Rattle.grimholdi.specs.Entry.{result_struct}
use Rattle.grimholdi.proofs.Taken.{hub_in, valid, form, head_is, configured_is, slots_are, buffer_is, early, ruled, Gives, Unchanged, moves, stays}

module _ (a : List ℕ) (ok : accepts a ≡ true) (hd : Head) (e : hd ≡ head_at a) (lane address endpoint direction : ℕ) {w : Bool}
    (ew : w ≡ key_named lane address endpoint direction) (r : List ℕ) where
  abbrev h : Hub
  h = hub_in a ok

  abbrev t : Translator
  t = h.translator

  abbrev call : Call
  call = Complete lane address endpoint direction (length r)

  pub complete_refused : (i : Refusal) → refusal_number i ≡ first_refusal w (leb 64 (length r)) hd.configured true → (x : Answer) → x ≡ plain_struct (refusal_number i) → Unchanged a call r x
  unfolding within has_space not_silent
  complete_refused i g x ex = stays a ok call r (refusal_number i) (early a ok call ew refl (configured_is a ok hd e) i g) x ex

  module _ (g : 0 ≡ first_refusal w (leb 64 (length r)) hd.configured true) (s : List Slot) (es : s ≡ slots_at hd.ports.0 a) (k : Key) (ek : k ≡ key_from lane address endpoint direction) {f : Option BufferNumber}
      (ef : f ≡ find (holds k) (take hd.count.0 (bare s))) where
    by_found : (b : Option BufferNumber) → f ≡ b → step h call ≡ completed_as h (complete_at t b)
    unfolding within has_space not_silent fitting served complete_split
    by_found b i =
        ruled a ok call ew refl (configured_is a ok hd e) g (λ p. absurd (true≢false p))
        ∙ ap (λ (x : Key). completed_as h (complete_at t (find (holds x) (take t.count t.buffers)))) (sym ek)
        ∙ ap (λ (x : Option BufferNumber). completed_as h (complete_at t x))
        (sym (find-bare (holds k) t.count t.buffers)
        ∙ ap (λ (x : List Slot). find (holds k) (take t.count (bare x))) (sym (slots_are a ok hd e s es))
        ∙ ap (λ (x : Head). find (holds k) (take x.count.0 (bare s))) (sym (head_is a ok hd e))
        ∙ sym ef
        ∙ i)

    pub nowhere : f ≡ None → (x : Answer) → x ≡ plain_struct 2 → Unchanged a call r x
    nowhere i x ex = stays a ok call r 2 (by_found None i) x ex

    module _ {m : BufferNumber} (p : f ≡ Some m) (b : Buffer) (eb : b ≡ buffer_at hd.ports.0 m a) where
      by_slot : (c : Slot) → b.slot ≡ c → step h call ≡ completed_as h (completed t m b.payload c)
      by_slot c i =
          by_found (Some m) p
          ∙ ap (λ (x : Buffer). completed_as h (completed t m x.payload x.slot)) (sym (buffer_is a ok hd e m b eb))
          ∙ ap (λ (x : Slot). completed_as h (completed t m b.payload x)) i

      pub on_empty : b.slot ≡ Empty → (x : Answer) → x ≡ plain_struct 2 → Unchanged a call r x
      on_empty i x ex = stays a ok call r 2 (by_slot Empty i) x ex

      pub on_pending : {k : StartSplit} {d : ℕ} → b.slot ≡ Pending k d → (x : Answer) → x ≡ plain_struct 4 → Unchanged a call r x
      on_pending i x ex = stays a ok call r 4 (by_slot _ i) x ex

      pub on_ready : {k : StartSplit} {d : DeviceResult} → b.slot ≡ Ready k d → (x : Answer) (u v : List ℕ)
          → u ≡ buffer_over hd.ports.0 m (record { slot = Old k d; payload = b.payload }) a
          → (x ≡ result_struct d (content (given d b.payload))) × (v ≡ written (content (given d b.payload)) r) → Gives a call r x u v
      on_ready {k} {d} i x u v eu q =
          let old : Buffer = record { slot = Old k d; payload = b.payload } in
          moves a ok call r _ (by_slot (Ready k d) i) x u v q.0
          (eu
          ∙ ap (λ (y : Head). buffer_over y.ports.0 m old a) (head_is a ok hd e)
          ∙ ap (buffer_over h.identity.ports m old) (form a ok)
          ∙ parts_exact_lem.buffer_put_lem h m old (valid a ok))
          q.1

      pub on_old : {k : StartSplit} {d : DeviceResult} → b.slot ≡ Old k d → (x : Answer) (v : List ℕ)
          → (x ≡ result_struct d (content (given d b.payload))) × (v ≡ written (content (given d b.payload)) r) → Gives a call r x a v
      on_old {k} {d} i x v q = moves a ok call r _ (by_slot (Old k d) i) x a v q.0 (form a ok) q.1
