-- Where a start-split is stored. Assumes nothing.
use Prim.Native.Nat.{ℕ, ◌<◌, ◌≤◌}
use mathlib.Core.Path.{◌≡◌, refl, sym, ◌∙◌, ap, subst}
use mathlib.Core.Bool.{Bool, true, false, cond, and-eq-true_iff}
use mathlib.Core.List.{List}
use lib.ListN.{length, set}
use Rattle.payload.specs.Payload.{content, payload_of}
use Rattle.payload.proofs.Laws.{content_of}
use Rattle.buffer.specs.declared.Slot.{Slot}
use Rattle.buffer.specs.declared.Slot.TheVariants.{Empty, Pending, Ready, Old}
use Rattle.buffer.specs.declared.Buffer.{Buffer}
use Rattle.buffer.specs.declared.BufferNumber.{BufferNumber}
use Rattle.buffer.specs.declared.StartSplit.{StartSplit}
use Rattle.buffer.specs.Key.{key_of}
use Rattle.buffer.specs.Lengths.{start_fits}
use Rattle.std.specs.Prelude.{Ok, Result}
use Rattle.translator.specs.declared.Outside.{Outside}
use Rattle.translator.specs.declared.Translator.{Translator}
use Rattle.translator.specs.declared.Choice.{Choice}
use Rattle.translator.specs.declared.Choice.TheVariants as choice
use Rattle.translator.specs.Translator.{at}
use Rattle.translator.specs.Order.{waiting, reranked, ranked_in, ranked}
use Rattle.translator.specs.StartSplit.{stored, start_split}
use Rattle.translator.proofs.At.{at_same, at_other, at-ranked, length-ranked}
use Rattle.translator.proofs.Kept.{start_le}
use Rattle.translator.proofs.Calls.{StartedAs, started_as_lem}
use Rattle.numbers.specs.Split.{split_named, split_from}
use Rattle.hub.specs.declared.Hub.{Hub}
use Rattle.hub.specs.Hub.{with_translator}
use Rattle.hub.specs.Call.{Call, Start}
use Rattle.hub.specs.Checks.{within}
use Rattle.hub.specs.Step.{served, step}
use Rattle.runs.proofs.Refusing.{refusals}
use Rattle.why.specs.declared.Reason.TheVariants.{Number}
use Rattle.why.specs.Said.{is_number}
use Rattle.why.specs.Why.{numbered, choice_reason, rule_reason, why_of}
use Rattle.why.specs.Claims.{placeless, StoredIn, Leaves, WhyStored}
use Rattle.why.proofs.Passing.{number_due, by_rule}
use Rattle.why.proofs.Starts.{picked, start_chosen}

placeless-reranked : (bs : List Buffer) (s : Slot) → placeless (reranked bs s) ≡ placeless s
placeless-reranked bs Empty = refl
placeless-reranked bs (Pending s p) = refl
placeless-reranked bs (Ready s r) = refl
placeless-reranked bs (Old s r) = refl

module _ (h : Hub) (s : StartSplit) (l : List ℕ) (short : length l ≤ 64) where
  stored_in : (n : BufferNumber) → n.0 < length h.translator.buffers → StoredIn n s l h (with_translator h (stored h.translator n s l))
  unfolding stored
  stored_in n here =
      record {
        place = waiting bs;
        pending = ap (λ (b : Buffer). b.slot) same;
        payload = ap (λ (b : Buffer). content b.payload) same ∙ content_of l short;
        other_slots = λ i ne. ap (λ (b : Buffer). placeless b.slot) (other i ne) ∙ placeless-reranked bs (at bs i).slot;
        other_payloads = λ i ne. ap (λ (b : Buffer). b.payload) (other i ne);
      }
    where
      bs : List Buffer
      bs = h.translator.buffers

      new : Buffer
      new = record { slot = Pending s (waiting bs); payload = payload_of l }

      there : n.0 < length (ranked bs)
      there = subst (λ (m : ℕ). n.0 < m) (sym (length-ranked bs)) here

      same : at (set (ranked bs) n.0 new) n.0 ≡ new
      same = at_same (ranked bs) n.0 new there

      other : (i : ℕ) → ¬ (i ≡ n.0) → at (set (ranked bs) n.0 new) i ≡ ranked_in bs (at bs i)
      other i ne = at_other (ranked bs) n.0 new there i ne ∙ at-ranked bs i

  leaves : (c : Choice) (u : Translator) → StartedAs h.translator s l (Ok c) u → Leaves (choice_reason c) s l h (with_translator h u)
  leaves choice.NoRoom u x = ap (with_translator h) x
  leaves choice.LimitReached u x = ap (with_translator h) x
  leaves (choice.Held n) u x = ap (with_translator h) x
  leaves (choice.Reused n) u x = subst (λ (v : Translator). StoredIn n s l h (with_translator h v)) (sym x.1) (stored_in n x.0)
  leaves (choice.Took n) u x = subst (λ (v : Translator). StoredIn n s l h (with_translator h v)) (sym x.1) (stored_in n x.0)

pub why_stored : WhyStored step why_of
unfolding why_of numbered rule_reason served within
why_stored h z p t f g a e l valid = go (is_number (step h c).answer.number) refl
  where
    c : Call
    c = Start z p t f g a e l

    s : StartSplit
    s = split_from z p t f g a e

    go : (x : Bool) → is_number (step h c).answer.number ≡ x → Leaves (cond x (Number (step h c).answer.number) (rule_reason h c)) s l h (step h c).next
    go true q = let d = number_due h c valid q in (refusals.unchanged d.refusal h c valid d.number).0
    go false q =
        let b = by_rule h c q in
        let short = start_le s (length l) ((and-eq-true_iff (split_named z p t f g a e) (start_fits s (length l))).0 b.fits).1 in
        let o = start_split h.translator s l in
        let k : o.answer ≡ Ok (picked h (key_of s)) = start_chosen h z p t f g a e l b.fits in
        let x = subst (λ (v : Result Choice Outside). StartedAs h.translator s l v o.next) k (started_as_lem h.translator s l) in
        rw (b.rule, k) (leaves h s l short (picked h (key_of s)) o.next x)
