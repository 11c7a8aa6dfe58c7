-- A translator's call on an area that is taken: what its parts are, when a check refuses it, and what it gives and leaves otherwise.
-- Assumes nothing.
use Prim.Native.Nat.{ℕ, ◌≤◌}
use native.Mathlib.Omega.{arith}
use mathlib.Core.Path.{◌≡◌, refl, sym, ◌∙◌, ap}
use mathlib.Core.Bool.{Bool, true, false}
use mathlib.Core.List.{List, []}
use lib.Seq.{take_all}
use lib.ListN.{length}
use Rattle.payload.specs.Payload as payload
use Rattle.buffer.specs.declared.Slot.{Slot}
use Rattle.buffer.specs.declared.Buffer.{Buffer}
use Rattle.buffer.specs.declared.BufferNumber.{BufferNumber}
use Rattle.translator.specs.Translator.{at}
use Rattle.translator.specs.Slots.{slots_in}
use Rattle.std.specs.Prelude.{Some, None}
use Rattle.hub.specs.declared.Hub.{Hub}
use Rattle.hub.specs.declared.Refusal.{Refusal}
use Rattle.hub.specs.declared.Refusal.TheVariants.{NotInThisState}
use Rattle.hub.specs.Call.{Call, Outcome, plain}
use Rattle.hub.specs.Checks.{within, has_space, not_silent, fitting, refusal_number, first_refusal}
use Rattle.hub.specs.Step.{served, step}
use Rattle.hub.specs.Valid.{ValidHub}
use Rattle.hub.proofs.Order.{never_0, refused_by, served_by_lem}
use Rattle.area.specs.Written.{written}
use Rattle.area_check.specs.Read.{decoded, accepts}
use Rattle.area.specs.Read.{read_of}
use Rattle.area_parts.specs.declared.Head.{Head}
use Rattle.area_parts.specs.Parts.{head_at, buffer_at, slots_at}
use Rattle.area_parts.proofs.Exact.{parts_exact_lem}
use Rattle.grimholdi.specs.declared.Answer.{Answer}
use Rattle.grimholdi.specs.Outcome.{plain_struct, EntryOutcome}
use Rattle.grimholdi.specs.Entry.{struct_of, entry}
use Rattle.grimholdi.proofs.Entries.{taken_hub, entry_taken, refuses, refuses_reply}

pub none_written : (r : List ℕ) → payload.written [] r ≡ r
unfolding payload.written
none_written r = let l : length {A = ℕ} [] ≤ length r = omega arith in rw (take_all (length r) [] l)

read_taken : (a : List ℕ) → accepts a ≡ true → Some (decoded a) ≡ read_of a
unfolding read_of
read_taken a e = rw e

read-refused : (a : List ℕ) → accepts a ≡ false → None ≡ read_of a
unfolding read_of
read-refused a e = rw e

-- the answer, the area and the reply space are those of the entry
abbrev pub Gives : List ℕ → Call → List ℕ → Answer → List ℕ → List ℕ → Type 0
Gives a c r x u v = (x ≡ (entry a c r).answer) × ((u ≡ (entry a c r).area) × (v ≡ (entry a c r).reply))

-- of a call that takes no reply space
abbrev pub Leaves : List ℕ → Call → Answer → List ℕ → Type 0
Leaves a c x u = (x ≡ (entry a c []).answer) × (u ≡ (entry a c []).area)

abbrev pub Unchanged : List ℕ → Call → List ℕ → Answer → Type 0
Unchanged a c r x = Gives a c r x a r

pub not_taken : (a : List ℕ) → accepts a ≡ false → (c : Call) (r : List ℕ) (x : Answer) → x ≡ plain_struct 6 → Unchanged a c r x
not_taken a e c r x p = refuses_reply a (read-refused a e) c r x p

-- no check refuses: the first of them held
pub all_held : (w r s : Bool) → 0 ≡ first_refusal w r s true → w ≡ true
all_held true r s p = refl
all_held false r s p = let x : ⊥ = omega (arith, p) in absurd x

pub turned_away : (a : List ℕ) → accepts a ≡ false → (c : Call) (x : Answer) → x ≡ plain_struct 6 → Leaves a c x a
turned_away a e c x p = refuses a (read-refused a e) c [] x p

module _ (a : List ℕ) (ok : accepts a ≡ true) where
  abbrev pub hub_in : Hub
  hub_in = decoded a

  pub valid : ValidHub hub_in
  valid = (taken_hub a (decoded a) (read_taken a ok)).0

  pub form : a ≡ written hub_in
  form = (taken_hub a (decoded a) (read_taken a ok)).1

  -- ---- its parts

  module _ (hd : Head) (e : hd ≡ head_at a) where
    pub head_is : hd ≡ record { ports = record { 0 = hub_in.identity.ports }; count = record { 0 = hub_in.translator.count }; configured = hub_in.configured; low = hub_in.translator.low }
    head_is = e ∙ ap head_at form ∙ parts_exact_lem.head_got hub_in valid

    pub configured_is : hd.configured ≡ hub_in.configured
    configured_is = ap (λ (x : Head). x.configured) head_is

    pub slots_are : (s : List Slot) → s ≡ slots_at hd.ports.0 a → s ≡ slots_in hub_in.translator.buffers
    slots_are s f = f ∙ ap (λ (x : Head). slots_at x.ports.0 a) head_is ∙ ap (slots_at hub_in.identity.ports) form ∙ parts_exact_lem.slots_got hub_in valid

    pub buffer_is : (n : BufferNumber) (b : Buffer) → b ≡ buffer_at hd.ports.0 n a → b ≡ at hub_in.translator.buffers n.0
    buffer_is n b f =
        f ∙ ap (λ (x : Head). buffer_at x.ports.0 n a) head_is ∙ ap (buffer_at hub_in.identity.ports n) form ∙ parts_exact_lem.buffer_got hub_in n valid

  -- ---- the order of checks

  module _ (c : Call) {w r s : Bool} (ew : w ≡ within hub_in c) (er : r ≡ has_space c) (es : s ≡ not_silent hub_in c) where
    pub early : (x : Refusal) → refusal_number x ≡ first_refusal w r s true → step hub_in c ≡ plain hub_in (refusal_number x)
    early x g = sym (refused_by hub_in c x refl (any w r s (fitting hub_in c) g) ew er es refl)
      where
        any : (w r s f : Bool) → refusal_number x ≡ first_refusal w r s true → refusal_number x ≡ first_refusal w r s f
        any true true true f p = absurd (never_0 x p)
        any true true false f p = p
        any true false s f p = p
        any false r s f p = p

    -- 8 is what the call's rule says itself
    pub ruled : 0 ≡ first_refusal w r s true → (fitting hub_in c ≡ false → served hub_in c ≡ plain hub_in 8) → step hub_in c ≡ served hub_in c
    ruled g unfit = go (fitting hub_in c) refl
      where
        last : (w r s : Bool) → 0 ≡ first_refusal w r s true → 8 ≡ first_refusal w r s false
        last true true true p = refl
        last true true false p = let x : ⊥ = omega (arith, p) in absurd x
        last true false s p = let x : ⊥ = omega (arith, p) in absurd x
        last false r s p = let x : ⊥ = omega (arith, p) in absurd x

        go : (f : Bool) → f ≡ fitting hub_in c → step hub_in c ≡ served hub_in c
        go true p = sym (served_by_lem hub_in c g ew er es p refl)
        go false p = sym (refused_by hub_in c NotInThisState refl (last w r s g) ew er es p) ∙ sym (unfit (sym p))

  -- ---- what it gives and leaves

  module _ (c : Call) (r : List ℕ) where
    pub moves : (o : Outcome) → step hub_in c ≡ o → (x : Answer) (u v : List ℕ) → x ≡ struct_of o.answer → u ≡ written o.next
        → v ≡ payload.written o.answer.bytes r → Gives a c r x u v
    moves o e x u v ex eu ev =
        let q = entry_taken a (decoded a) (read_taken a ok) c r in (
          ex ∙ ap (λ (y : Outcome). struct_of y.answer) (sym e) ∙ ap (λ (g : EntryOutcome). g.answer) (sym q),
          (
            eu ∙ ap (λ (y : Outcome). written y.next) (sym e) ∙ ap (λ (g : EntryOutcome). g.area) (sym q),
            ev ∙ ap (λ (y : Outcome). payload.written y.answer.bytes r) (sym e) ∙ ap (λ (g : EntryOutcome). g.reply) (sym q),
          ),
        )

    pub stays : (n : ℕ) → step hub_in c ≡ plain hub_in n → (x : Answer) → x ≡ plain_struct n → Unchanged a c r x
    stays n e x ex = moves (plain hub_in n) e x a r ex form (sym (none_written r))

  module _ (c : Call) where
    pub leaves : (o : Outcome) → step hub_in c ≡ o → (x : Answer) (u : List ℕ) → x ≡ struct_of o.answer → u ≡ written o.next → Leaves a c x u
    leaves o e x u ex eu = let q = moves c [] o e x u _ ex eu refl in (q.0, q.1.0)

    pub rests : (n : ℕ) → step hub_in c ≡ plain hub_in n → (x : Answer) → x ≡ plain_struct n → Leaves a c x a
    rests n e x ex = leaves (plain hub_in n) e x a ex form
