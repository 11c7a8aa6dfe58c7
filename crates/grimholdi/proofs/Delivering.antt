-- Deliver on an area that is taken, way by way. Assumes nothing.
use Prim.Native.Nat.{ℕ}
use mathlib.Core.Path.{◌≡◌, refl, sym, ◌∙◌, ap}
use mathlib.Core.Bool.{Bool, true, false, cond, not, ◌&&◌, true≢false}
use mathlib.Core.List.{List}
use mathlib.Core.Logic.{◌⊎◌, inl, inr}
use lib.Dec.{eqb}
use lib.ListN.{length, set}
use Rattle.payload.specs.Payload.{payload_of}
use Rattle.buffer.specs.declared.StartSplit.{StartSplit}
use Rattle.buffer.specs.declared.DeviceResult.{DeviceResult}
use Rattle.buffer.specs.declared.Slot.{Slot}
use Rattle.buffer.specs.declared.Slot.TheVariants.{Empty, Pending, Ready, Old}
use Rattle.buffer.specs.declared.Buffer.{Buffer}
use Rattle.buffer.specs.declared.BufferNumber.{BufferNumber}
use Rattle.buffer.specs.Lengths.{result_length, suits}
use Rattle.std.specs.Prelude.{Ok}
use Rattle.translator.specs.declared.LowSide.{LowSide}
use Rattle.translator.specs.declared.LowSide.TheVariants.{Idle, Running, Abandoned}
use Rattle.translator.specs.declared.Translator.{Translator}
use Rattle.translator.specs.declared.NotDelivered.TheVariants.{Outside, NotInThisState}
use Rattle.translator.specs.declared.Delivered.{Delivered}
use Rattle.translator.specs.Answers.{deliver_number}
use Rattle.translator.specs.Translator.{at, with_low}
use Rattle.translator.specs.Deliver.{undelivered, delivered, deliver_by, deliver}
use Rattle.numbers.specs.Named.{is_result, result_from}
use Rattle.hub.specs.declared.Refusal.{Refusal}
use Rattle.hub.specs.declared.Hub.{Hub}
use Rattle.hub.specs.Hub.{with_translator}
use Rattle.hub.specs.Call.{Call, Deliver, plain}
use Rattle.hub.specs.Rules.{delivered_as}
use Rattle.hub.specs.Checks.{within, has_space, not_silent, fitting, refusal_number, first_refusal}
use Rattle.hub.specs.Step.{served, step}
use Rattle.hub.proofs.Numbers.{right}
use Rattle.area.specs.Written.{written as form_of}
use Rattle.area_check.specs.Read.{accepts}
use Rattle.area_parts.specs.declared.Head.{Head}
use Rattle.area_parts.specs.Parts.{head_at, buffer_at, low_over, buffer_over}
use Rattle.area_parts.proofs.Anew.{Shaped, shaped, buffer_anew}
use Rattle.area_parts.proofs.Exact.{parts_exact_lem}
use Rattle.grimholdi.specs.declared.Answer.{Answer}
use Rattle.grimholdi.specs.Outcome.{plain_struct}
use Rattle.grimholdi.proofs.Taken.{hub_in, valid, form, head_is, configured_is, buffer_is, early, ruled, all_held, Leaves, leaves, rests}

-- a delivery that is answered 8 changes nothing
module _ (h : Hub) (r : DeviceResult) (l : List ℕ) where
  abbrev Eight : Delivered → Type 0
  Eight x = not (eqb (deliver_number x.answer) 8) ≡ false → delivered_as h x ≡ plain h 8

  unfit_test : (b : Bool) (x : Delivered) → deliver_number x.answer ≡ 0 → Eight (cond b x (undelivered h.translator NotInThisState))
  unfit_test true x z e = absurd (true≢false (ap (λ (n : ℕ). not (eqb n 8)) (sym z) ∙ e))
  unfit_test false x z e = refl

  unfit_slot : (m : BufferNumber) (s : Slot) → Eight (delivered h.translator r l m s)
  unfit_slot m Empty e = refl
  unfit_slot m (Pending s q) e = unfit_test (suits s.pid r) _ refl e
  unfit_slot m (Ready s q) e = refl
  unfit_slot m (Old s q) e = refl

  unfit_by : (b : Bool) (low : LowSide) → Eight (cond b (deliver_by h.translator r l low) (undelivered h.translator Outside))
  unfit_by true Idle e = refl
  unfit_by true (Running m) e = unfit_slot m (at h.translator.buffers m.0).slot e
  unfit_by true Abandoned e = absurd (true≢false e)
  unfit_by false low e = absurd (true≢false e)

module _ (a : List ℕ) (ok : accepts a ≡ true) (hd : Head) (e : hd ≡ head_at a) (result : ℕ) (l : List ℕ) (k : DeviceResult) (ek : k ≡ result_from result)
    {w : Bool} (ew : w ≡ (is_result result && result_length k (length l))) where
  abbrev h : Hub
  h = hub_in a ok

  abbrev t : Translator
  t = h.translator

  abbrev call : Call
  call = Deliver result l

  within_is : w ≡ within h call
  unfolding within
  within_is = ew ∙ ap (λ (x : DeviceResult). is_result result && result_length x (length l)) ek

  pub deliver_refused : (i : Refusal) → refusal_number i ≡ first_refusal w true hd.configured true → (x : Answer) → x ≡ plain_struct (refusal_number i) → Leaves a call x a
  unfolding has_space not_silent
  deliver_refused i g x ex = rests a ok call (refusal_number i) (early a ok call within_is refl (configured_is a ok hd e) i g) x ex

  module _ (g : 0 ≡ first_refusal w true hd.configured true) where
    long_enough : result_length (result_from result) (length l) ≡ true
    long_enough = right (is_result result) (result_length (result_from result) (length l)) (sym within_of ∙ all_held w true hd.configured g)
      where
        within_of : w ≡ (is_result result && result_length (result_from result) (length l))
        within_of = ew ∙ ap (λ (x : DeviceResult). is_result result && result_length x (length l)) ek

    served_is : step h call ≡ delivered_as h (deliver_by t k l hd.low)
    unfolding has_space not_silent fitting served deliver
    served_is =
        ruled a ok call within_is refl (configured_is a ok hd e) g (unfit_by h (result_from result) l (result_length (result_from result) (length l)) t.low)
        ∙ ap (λ (b : Bool). delivered_as h (cond b (deliver_by t (result_from result) l t.low) (undelivered t Outside))) long_enough
        ∙ ap (λ (x : DeviceResult). delivered_as h (deliver_by t x l t.low)) (sym ek)
        ∙ ap (λ (x : Head). delivered_as h (deliver_by t k l x.low)) (sym (head_is a ok hd e))

    by_low : (b : LowSide) → hd.low ≡ b → step h call ≡ delivered_as h (deliver_by t k l b)
    by_low b i = served_is ∙ ap (λ (x : LowSide). delivered_as h (deliver_by t k l x)) i

    pub idle : hd.low ≡ Idle → (x : Answer) → x ≡ plain_struct 8 → Leaves a call x a
    idle i x ex = rests a ok call 8 (by_low Idle i) x ex

    low_left : low_over Idle a ≡ form_of (with_translator h (with_low t Idle))
    low_left = ap (low_over Idle) (form a ok) ∙ parts_exact_lem.low_put h Idle (valid a ok)

    -- the delivery is thrown away
    pub abandoned : hd.low ≡ Abandoned → (x : Answer) (u : List ℕ) → x ≡ plain_struct 0 → u ≡ low_over Idle a → Leaves a call x u
    abandoned i x u ex eu = leaves a ok call _ (by_low Abandoned i) x u ex (eu ∙ low_left)

    module _ {m : BufferNumber} (i : hd.low ≡ Running m) (s : Slot) (es : s ≡ (buffer_at hd.ports.0 m a).slot) where
      by_slot : (b : Slot) → s ≡ b → step h call ≡ delivered_as h (delivered t k l m b)
      by_slot b j =
          by_low (Running m) i
          ∙ ap (λ (x : Slot). delivered_as h (delivered t k l m x)) (sym (es ∙ ap (λ (x : Buffer). x.slot) (buffer_is a ok hd e m _ refl)) ∙ j)

      pub not_pending : (s ≡ Empty) ⊎ ((p : StartSplit) × (d : DeviceResult) × s ≡ Ready p d) ⊎ ((p : StartSplit) × (d : DeviceResult) × s ≡ Old p d)
          → (x : Answer) → x ≡ plain_struct 8 → Leaves a call x a
      not_pending (inl j) x ex = rests a ok call 8 (by_slot Empty j) x ex
      not_pending (inr (inl (p, d, j))) x ex = rests a ok call 8 (by_slot (Ready p d) j) x ex
      not_pending (inr (inr (p, d, j))) x ex = rests a ok call 8 (by_slot (Old p d) j) x ex

      module _ {p : StartSplit} {d : ℕ} (j : s ≡ Pending p d) {f : Bool} (ef : f ≡ suits p.pid k) where
        abbrev ready : Delivered
        ready =
            record {
              next = record { buffers = set t.buffers m.0 (record { slot = Ready p k; payload = payload_of l }); count = t.count; low = Idle };
              answer = Ok tt;
            }

        by_test : (b : Bool) → f ≡ b → step h call ≡ delivered_as h (cond b ready (undelivered t NotInThisState))
        by_test b q = by_slot (Pending p d) j ∙ ap (λ (x : Bool). delivered_as h (cond x ready (undelivered t NotInThisState))) (sym ef ∙ q)

        pub unsuited : f ≡ false → (x : Answer) → x ≡ plain_struct 8 → Leaves a call x a
        unsuited q x ex = rests a ok call 8 (by_test false q) x ex

        pub suited : f ≡ true → (x : Answer) (u : List ℕ) → x ≡ plain_struct 0
            → u ≡ buffer_over hd.ports.0 m (record { slot = Ready p k; payload = payload_of l }) (low_over Idle a) → Leaves a call x u
        suited q x u ex eu =
            let b : Buffer = record { slot = Ready p k; payload = payload_of l } in
            leaves a ok call _ (by_test true q) x u ex
            (eu
            ∙ ap (buffer_over hd.ports.0 m b) low_left
            ∙ ap (λ (y : Head). buffer_over y.ports.0 m b (form_of (with_translator h (with_low t Idle)))) (head_is a ok hd e)
            ∙ buffer_anew (with_translator h (with_low t Idle)) between m b)
          where
            between : Shaped (with_translator h (with_low t Idle))
            between = let v = shaped h (valid a ok) in record { ports = v.ports; buffers = v.buffers; whole = v.whole }
