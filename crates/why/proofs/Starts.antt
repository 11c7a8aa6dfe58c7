-- A start-split: the reason that the search gives is true, no other is, and it is enough. Assumes nothing.
use Prim.Native.Nat.{ℕ}
use mathlib.Core.Path.{◌≡◌, sym, ◌∙◌, ap}
use Rattle.std.specs.Prelude.{Some, Ok}
use mathlib.Core.Bool.{true, and-eq-true_iff}
use mathlib.Core.List.{List}
use lib.ListN.{length, take}
use Rattle.buffer.specs.declared.Key.{Key}
use Rattle.buffer.specs.declared.BufferNumber.{BufferNumber}
use Rattle.buffer.specs.declared.StartSplit.{StartSplit}
use Rattle.buffer.specs.Key.{key_of}
use Rattle.buffer.specs.Lengths.{start_fits}
use Rattle.buffer.specs.Buffer.{holds}
use Rattle.buffer.specs.Words.{With}
use Rattle.buffer.proofs.Words.{holding_with, old_with, elsewhere, elsewhere_without, elsewhere_taken}
use Rattle.translator.specs.declared.Choice.{Choice}
use Rattle.translator.specs.declared.Choice.TheVariants as choice
use Rattle.translator.specs.declared.Translator.{Translator}
use Rattle.translator.specs.Limit.{permitted}
use Rattle.translator.specs.TwoSteps.{InUse, Lowest, TwoSteps}
use Rattle.translator.specs.StartSplit.{start_split}
use Rattle.translator.specs.Valid.{Apart}
use Rattle.translator.proofs.TwoSteps.{one_choice, only_holder}
use Rattle.translator.proofs.OnePass.{permitted_so}
use Rattle.translator.proofs.StartSplit.{chosen_answer}
use Rattle.hub.specs.declared.Hub.{Hub}
use Rattle.translator.specs.Answers.{choice_number}
use Rattle.numbers.specs.Split.{split_named, split_from}
use Rattle.hub.specs.Call.{Start, Answer, plain_answer}
use Rattle.hub.specs.Checks.{within}
use Rattle.runs.specs.Refusals.{slot_at}
use Rattle.why.specs.declared.Reason.{Reason}
use Rattle.why.specs.declared.Reason.TheVariants.{Nothing, Number, HeldBy, Reused, TookFree, LimitReached, NoRoom, Changed, Wrong}
use Rattle.why.specs.Said.{SaidOfStart, enough_for}
use Rattle.why.specs.Why.{choice_reason}

-- what the search picks
abbrev pub picked : Hub → Key → Choice
picked h k = permitted h.translator.count k (take h.translator.count h.translator.buffers)

-- ---- a hub that holds the key once at most: what a reason says of it is what document 01's words say of the choice

module _ (h : Hub) (k : Key) (apart : Apart (holds k) h.translator.buffers) where
  abbrev t : Translator
  t = h.translator

  -- the one with the key
  holder : (n : BufferNumber) → InUse t n.0 → With k (slot_at h n.0) → Lowest (With k) t n
  holder n l w = only_holder t k apart n (record { in_use = l; so = w })

  said : (c : Choice) → TwoSteps t k c → SaidOfStart (choice_reason c) h k
  said (choice.Held n) w = w.1
  said (choice.Reused n) w = (w.0, w.1.1)
  said (choice.Took n) w =
      record { may = w.0; free = w.1.1.one; lowest = w.1.1.none_lower; no_match = λ i l v. w.1.0 (record { 0 = i }) (record { in_use = l; so = v }) }
  said choice.NoRoom w = (
    w.0,
    λ i l. elsewhere k (slot_at h i) (λ v. w.1.0 (record { 0 = i }) (record { in_use = l; so = v })) (λ v. w.1.1 (record { 0 = i }) (record { in_use = l; so = v })),
  )
  said choice.LimitReached w =
      record {
        full = w.0;
        no_repeat = λ i l v. w.1 (record { 0 = i }) (holder (record { 0 = i }) l (holding_with k (slot_at h i) v)) (record { in_use = l; so = v });
      }

  steps : (c : Choice) → SaidOfStart (choice_reason c) h k → TwoSteps t k c
  steps (choice.Held n) s = (holder n s.in_use (holding_with k (slot_at h n.0) s.so), s)
  steps (choice.Reused n) s = (s.0, (holder n s.1.in_use (old_with k (slot_at h n.0) s.1.so), s.1))
  steps (choice.Took n) s = (s.may, (λ m b. s.no_match m.0 b.in_use b.so, record { one = s.free; none_lower = s.lowest }))
  steps choice.NoRoom s = (
    s.0,
    (
      λ m b. elsewhere_without k (slot_at h m.0) (s.1 m.0 b.in_use) b.so,
      λ m b. elsewhere_taken k (slot_at h m.0) (s.1 m.0 b.in_use) b.so,
    ),
  )
  steps choice.LimitReached s = (s.full, λ n w b. s.no_repeat n.0 b.in_use b.so)

  pub picked_true : SaidOfStart (choice_reason (picked h k)) h k
  picked_true = said (picked h k) (permitted_so t k)

  -- the reason of a choice is that of the choice picked
  reason_picked : (c : Choice) → SaidOfStart (choice_reason c) h k → choice_reason c ≡ choice_reason (picked h k)
  reason_picked c s = ap choice_reason (one_choice t k c (picked h k) (steps c s) (permitted_so t k))

  pub picked_only : (r : Reason) → SaidOfStart r h k → r ≡ choice_reason (picked h k)
  picked_only (HeldBy b) s = reason_picked (choice.Held b) s
  picked_only (Reused b) s = reason_picked (choice.Reused b) s
  picked_only (TookFree b) s = reason_picked (choice.Took b) s
  picked_only NoRoom s = reason_picked choice.NoRoom s
  picked_only LimitReached s = reason_picked choice.LimitReached s
  picked_only Nothing s = absurd s
  picked_only (Number n) s = absurd s
  picked_only (Changed f) s = absurd s
  picked_only (Wrong x) s = absurd s

  pub picked_enough : (r : Reason) (a : Answer) → SaidOfStart r h k → enough_for r ≡ Some a → plain_answer (choice_number (picked h k)) ≡ a
  picked_enough r a s e = go (picked h k) (ap enough_for (sym (picked_only r s)) ∙ e)
    where
      go : (c : Choice) → enough_for (choice_reason c) ≡ Some a → plain_answer (choice_number c) ≡ a
      go choice.NoRoom f = cc
      go choice.LimitReached f = cc
      go (choice.Held n) f = cc
      go (choice.Reused n) f = cc
      go (choice.Took n) f = cc

-- ---- a start-split that passes is answered by what was chosen

pub start_chosen : (h : Hub) (z p t f g a e : ℕ) (l : List ℕ) → within h (Start z p t f g a e l) ≡ true
    → (start_split h.translator (split_from z p t f g a e) l).answer ≡ Ok (picked h (key_of (split_from z p t f g a e)))
unfolding within
start_chosen h z p t f g a e l w =
    let s : StartSplit = split_from z p t f g a e in
    let fit : start_fits s (length l) ≡ true = ((and-eq-true_iff (split_named z p t f g a e) (start_fits s (length l))).0 w).1 in
    chosen_answer h.translator s l fit
