-- Start-split on an area that is taken, way by way. Assumes nothing.
use Prim.Native.Nat.{ℕ}
use mathlib.Core.Path.{◌≡◌, refl, sym, ◌∙◌, ap}
use mathlib.Core.Bool.{Bool, true, cond, ◌&&◌, true≢false}
use mathlib.Core.List.{List}
use mathlib.Core.Logic.{◌⊎◌, inl, inr}
use lib.ListN.{length, take}
use Rattle.buffer.specs.declared.Key.{Key}
use Rattle.buffer.specs.declared.StartSplit.{StartSplit}
use Rattle.buffer.specs.declared.Slot.{Slot}
use Rattle.buffer.specs.declared.BufferNumber.{BufferNumber}
use Rattle.buffer.specs.Key.{key_of}
use Rattle.buffer.specs.Lengths.{start_fits}
use Rattle.std.specs.Prelude.{Err}
use Rattle.translator.specs.declared.Translator.{Translator}
use Rattle.translator.specs.declared.Choice.{Choice}
use Rattle.translator.specs.declared.Choice.TheVariants.{NoRoom, LimitReached, Held, Reused, Took}
use Rattle.translator.specs.Answers.{choice_number}
use Rattle.translator.specs.Slots.{bare, slots_in}
use Rattle.translator.specs.Limit.{permitted}
use Rattle.translator.specs.StartSplit.{stored, start_by, start_split, outside}
use Rattle.translator.proofs.Bare.{permitted-bare}
use Rattle.numbers.specs.Split.{split_named, split_from}
use Rattle.hub.specs.declared.Refusal.{Refusal}
use Rattle.hub.specs.declared.Hub.{Hub}
use Rattle.hub.specs.Hub.{with_translator}
use Rattle.hub.specs.Call.{Call, Start}
use Rattle.hub.specs.Rules.{started_as}
use Rattle.hub.specs.Checks.{within, has_space, not_silent, fitting, refusal_number, first_refusal}
use Rattle.hub.specs.Step.{served, step}
use Rattle.hub.proofs.Numbers.{right}
use Rattle.area_check.specs.Read.{accepts}
use Rattle.area.specs.Written.{written}
use Rattle.area_parts.specs.declared.Head.{Head}
use Rattle.area_parts.specs.Parts.{head_at, slots_at, store_over}
use Rattle.area_parts.proofs.Exact.{parts_exact_lem}
use Rattle.grimholdi.specs.declared.Answer.{Answer}
use Rattle.grimholdi.specs.Outcome.{plain_struct}
use Rattle.grimholdi.proofs.Taken.{hub_in, valid, form, head_is, configured_is, slots_are, early, ruled, all_held, Leaves, leaves, rests}

module _ (a : List ℕ) (ok : accepts a ≡ true) (hd : Head) (e : hd ≡ head_at a) (lane pid transfer lowspeed toggle address endpoint : ℕ) (l : List ℕ)
    (k : StartSplit) (ek : k ≡ split_from lane pid transfer lowspeed toggle address endpoint) {w : Bool}
    (ew : w ≡ (split_named lane pid transfer lowspeed toggle address endpoint && start_fits k (length l))) where
  abbrev h : Hub
  h = hub_in a ok

  abbrev t : Translator
  t = h.translator

  abbrev call : Call
  call = Start lane pid transfer lowspeed toggle address endpoint l

  within_is : w ≡ within h call
  unfolding within
  within_is = ew ∙ ap (λ (x : StartSplit). split_named lane pid transfer lowspeed toggle address endpoint && start_fits x (length l)) ek

  pub start_refused : (i : Refusal) → refusal_number i ≡ first_refusal w true hd.configured true → (x : Answer) → x ≡ plain_struct (refusal_number i) → Leaves a call x a
  unfolding has_space not_silent
  start_refused i g x ex = rests a ok call (refusal_number i) (early a ok call within_is refl (configured_is a ok hd e) i g) x ex

  module _ (g : 0 ≡ first_refusal w true hd.configured true) (s : List Slot) (es : s ≡ slots_at hd.ports.0 a) (y : Key) (ey : y ≡ key_of k) {f : Choice}
      (ef : f ≡ permitted hd.count.0 y (take hd.count.0 (bare s))) where
    fits : start_fits k (length l) ≡ true
    fits =
        right (split_named lane pid transfer lowspeed toggle address endpoint) (start_fits k (length l))
        (sym ew ∙ all_held w true hd.configured g)

    by_choice : (b : Choice) → f ≡ b → step h call ≡ started_as h (start_by t k l b)
    unfolding has_space not_silent fitting served start_split
    by_choice b i =
        ruled a ok call within_is refl (configured_is a ok hd e) g (λ p. absurd (true≢false p))
        ∙ ap (λ (x : StartSplit). started_as h (start_split t x l)) (sym ek)
        ∙ ap (λ (x : Bool). started_as h (cond x (start_by t k l (permitted t.count (key_of k) (take t.count t.buffers))) (record { next = t; answer = Err outside }))) fits
        ∙ ap (λ (x : Choice). started_as h (start_by t k l x))
        (ap (λ (x : Key). permitted t.count x (take t.count t.buffers)) (sym ey)
        ∙ sym (permitted-bare t.count y t.count t.buffers)
        ∙ ap (λ (x : List Slot). permitted t.count y (take t.count (bare x))) (sym (slots_are a ok hd e s es))
        ∙ ap (λ (x : Head). permitted x.count.0 y (take x.count.0 (bare s))) (sym (head_is a ok hd e))
        ∙ sym ef
        ∙ i)

    store_left : (m : BufferNumber) → store_over s hd.ports.0 m k l a ≡ written (with_translator h (stored t m k l))
    store_left m =
        ap (λ (x : List Slot). store_over x hd.ports.0 m k l a) (slots_are a ok hd e s es)
        ∙ ap (λ (x : Head). store_over (slots_in t.buffers) x.ports.0 m k l a) (head_is a ok hd e)
        ∙ ap (store_over (slots_in t.buffers) h.identity.ports m k l) (form a ok)
        ∙ parts_exact_lem.store_put h m k l (valid a ok)

    module _ (v : Choice) (ev : v ≡ f) (x : Answer) (ex : x ≡ plain_struct (choice_number v)) (u : List ℕ) where
      answered : {b : Choice} → f ≡ b → x ≡ plain_struct (choice_number b)
      answered i = ex ∙ ap (λ (y : Choice). plain_struct (choice_number y)) (ev ∙ i)

      pub keeps : u ≡ a → ((m : BufferNumber) → f ≡ Reused m → ⊥) → ((m : BufferNumber) → f ≡ Took m → ⊥) → Leaves a call x u
      keeps eu not_reused not_took = go f refl
        where
          go : (b : Choice) → f ≡ b → Leaves a call x u
          go NoRoom i = leaves a ok call _ (by_choice NoRoom i) x u (answered i) (eu ∙ form a ok)
          go LimitReached i = leaves a ok call _ (by_choice LimitReached i) x u (answered i) (eu ∙ form a ok)
          go (Held m) i = leaves a ok call _ (by_choice (Held m) i) x u (answered i) (eu ∙ form a ok)
          go (Reused m) i = absurd (not_reused m i)
          go (Took m) i = absurd (not_took m i)

      pub stores : {m : BufferNumber} → u ≡ store_over s hd.ports.0 m k l a → (f ≡ Reused m) ⊎ (f ≡ Took m) → Leaves a call x u
      stores {m} eu (inl i) = leaves a ok call _ (by_choice (Reused m) i) x u (answered i) (eu ∙ store_left m)
      stores {m} eu (inr i) = leaves a ok call _ (by_choice (Took m) i) x u (answered i) (eu ∙ store_left m)
