-- Launch on an area that is taken, way by way. Assumes nothing.
use Prim.Native.Nat.{ℕ}
use mathlib.Core.Path.{◌≡◌, refl, sym, ◌∙◌, ap}
use mathlib.Core.Bool.{true, false, not, true≢false}
use mathlib.Core.List.{List}
use mathlib.Core.Logic.{◌⊎◌, inl, inr}
use lib.Dec.{eqb, leb}
use lib.ListN.{length, take}
use Rattle.payload.specs.Payload.{content, written}
use Rattle.buffer.specs.declared.StartSplit.{StartSplit}
use Rattle.buffer.specs.declared.Slot.{Slot}
use Rattle.buffer.specs.declared.Slot.TheVariants.{Empty, Pending, Ready, Old}
use Rattle.buffer.specs.declared.Buffer.{Buffer}
use Rattle.buffer.specs.declared.BufferNumber.{BufferNumber}
use Rattle.std.specs.Prelude.{None, Option, Some}
use Rattle.translator.specs.declared.LowSide.{LowSide}
use Rattle.translator.specs.declared.LowSide.TheVariants.{Idle, Running, Abandoned}
use Rattle.translator.specs.declared.Translator.{Translator}
use Rattle.translator.specs.Answers.{launch_number}
use Rattle.translator.specs.Slots.{bare}
use Rattle.translator.specs.Translator.{at}
use Rattle.translator.specs.Order.{earliest}
use Rattle.translator.specs.Launch.{launched, launch_at, launch_by, launch}
use Rattle.translator.proofs.Bare.{earliest-bare}
use Rattle.hub.specs.declared.Refusal.{Refusal}
use Rattle.hub.specs.declared.Hub.{Hub}
use Rattle.hub.specs.Call.{Call, Launch, plain}
use Rattle.hub.specs.Rules.{launch_answer, launched_as}
use Rattle.hub.specs.Checks.{within, has_space, not_silent, fitting, refusal_number, first_refusal}
use Rattle.hub.specs.Step.{served, step}
use Rattle.area_check.specs.Read.{accepts}
use Rattle.area_parts.specs.declared.Head.{Head}
use Rattle.area_parts.specs.Parts.{head_at, buffer_at, slots_at, low_over}
use Rattle.area_parts.proofs.Exact.{parts_exact_lem}
use Rattle.grimholdi.specs.declared.Answer.{Answer}
use Rattle.grimholdi.specs.Outcome.{plain_struct}
use Rattle.grimholdi.specs.Entry.{struct_of}
use Rattle.grimholdi.proofs.Taken.{hub_in, valid, form, head_is, configured_is, slots_are, buffer_is, early, ruled, Gives, Unchanged, moves, stays}

-- while the low side is idle a launch is never answered 8
idle_fits : (t : Translator) (e : Option (BufferNumber × ℕ)) → not (eqb (launch_number (launch_at t e).answer) 8) ≡ true
idle_fits t None = refl
idle_fits t (Some (n, q)) = go (at t.buffers n.0).slot
  where
    go : (s : Slot) → not (eqb (launch_number (launched t n (at t.buffers n.0).payload s).answer) 8) ≡ true
    go Empty = refl
    go (Pending s p) = refl
    go (Ready s r) = refl
    go (Old s r) = refl

unfit : (h : Hub) (l : LowSide) → not (eqb (launch_number (launch_by h.translator l).answer) 8) ≡ false
    → launched_as h (launch_by h.translator l) ≡ plain h 8
unfit h Idle e =
    let t = h.translator in
    absurd (true≢false (sym (idle_fits t (earliest (take t.count t.buffers))) ∙ e))
unfit h (Running n) e = refl
unfit h Abandoned e = refl

module _ (a : List ℕ) (ok : accepts a ≡ true) (hd : Head) (e : hd ≡ head_at a) (r : List ℕ) where
  abbrev h : Hub
  h = hub_in a ok

  abbrev t : Translator
  t = h.translator

  abbrev call : Call
  call = Launch (length r)

  pub launch_refused : (i : Refusal) → refusal_number i ≡ first_refusal true (leb 64 (length r)) hd.configured true → (x : Answer) → x ≡ plain_struct (refusal_number i) → Unchanged a call r x
  unfolding within has_space not_silent
  launch_refused i g x ex = stays a ok call r (refusal_number i) (early a ok call refl refl (configured_is a ok hd e) i g) x ex

  module _ (g : 0 ≡ first_refusal true (leb 64 (length r)) hd.configured true) where
    served_is : step h call ≡ launched_as h (launch_by t hd.low)
    unfolding within has_space not_silent fitting served launch
    served_is =
        ruled a ok call refl refl (configured_is a ok hd e) g (unfit h t.low)
        ∙ ap (λ (x : Head). launched_as h (launch_by t x.low)) (sym (head_is a ok hd e))

    pub occupied : ((m : BufferNumber) × hd.low ≡ Running m) ⊎ (hd.low ≡ Abandoned) → (x : Answer) → x ≡ plain_struct 8 → Unchanged a call r x
    occupied (inl (m, l)) x ex = stays a ok call r 8 (served_is ∙ ap (λ (y : LowSide). launched_as h (launch_by t y)) l) x ex
    occupied (inr l) x ex = stays a ok call r 8 (served_is ∙ ap (λ (y : LowSide). launched_as h (launch_by t y)) l) x ex

    module _ (l : hd.low ≡ Idle) (s : List Slot) (es : s ≡ slots_at hd.ports.0 a) {f : Option (BufferNumber × ℕ)} (ef : f ≡ earliest (take hd.count.0 (bare s))) where
      idle : step h call ≡ launched_as h (launch_at t f)
      idle =
          served_is
          ∙ ap (λ (y : LowSide). launched_as h (launch_by t y)) l
          ∙ ap (λ (y : Option (BufferNumber × ℕ)). launched_as h (launch_at t y))
          (sym (earliest-bare t.count t.buffers)
          ∙ ap (λ (y : List Slot). earliest (take t.count (bare y))) (sym (slots_are a ok hd e s es))
          ∙ ap (λ (y : Head). earliest (take y.count.0 (bare s))) (sym (head_is a ok hd e))
          ∙ sym ef)

      pub none_pending : f ≡ None → (x : Answer) → x ≡ plain_struct 3 → Unchanged a call r x
      none_pending p x ex = stays a ok call r 3 (idle ∙ ap (λ (y : Option (BufferNumber × ℕ)). launched_as h (launch_at t y)) p) x ex

      module _ {m : BufferNumber} {q : ℕ} (p : f ≡ Some (m, q)) (b : Buffer) (eb : b ≡ buffer_at hd.ports.0 m a) where
        by_slot : (k : Slot) → b.slot ≡ k → step h call ≡ launched_as h (launched t m b.payload k)
        by_slot k i =
            idle
            ∙ ap (λ (y : Option (BufferNumber × ℕ)). launched_as h (launch_at t y)) p
            ∙ ap (λ (y : Buffer). launched_as h (launched t m y.payload y.slot)) (sym (buffer_is a ok hd e m b eb))
            ∙ ap (λ (y : Slot). launched_as h (launched t m b.payload y)) i

        pub not_pending : ((k : StartSplit) (d : ℕ) → b.slot ≡ Pending k d → ⊥) → (x : Answer) → x ≡ plain_struct 3 → Unchanged a call r x
        not_pending none x ex = go b.slot refl
          where
            go : (k : Slot) → b.slot ≡ k → Unchanged a call r x
            go Empty i = stays a ok call r 3 (by_slot Empty i) x ex
            go (Pending k d) i = absurd (none k d i)
            go (Ready k d) i = stays a ok call r 3 (by_slot (Ready k d) i) x ex
            go (Old k d) i = stays a ok call r 3 (by_slot (Old k d) i) x ex

        pub launches : {k : StartSplit} {d : ℕ} → b.slot ≡ Pending k d → (x : Answer) (u v : List ℕ)
            → x ≡ struct_of (launch_answer k (content b.payload)) → u ≡ low_over (Running m) a → v ≡ written (content b.payload) r → Gives a call r x u v
        launches {k} {d} i x u v ex eu ev =
            moves a ok call r _ (by_slot (Pending k d) i) x u v ex
            (eu ∙ ap (low_over (Running m)) (form a ok) ∙ parts_exact_lem.low_put h (Running m) (valid a ok)) ev
