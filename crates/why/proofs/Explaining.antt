-- How the code of the three explained calls that have reasons of their own is put together. Assumes nothing.
use Prim.Native.Nat.{ℕ}
use mathlib.Core.Path.{◌≡◌, ◌∙◌}
use mathlib.Core.List.{List}
use borrow.Author.Tests.{ne_eqb}
use lib.ListN.{length}
use Rattle.buffer.specs.declared.StartSplit.{StartSplit}
use Rattle.translator.specs.declared.Started.{Started}
use Rattle.translator.specs.StartSplit.{start_split}
use Rattle.numbers.specs.Split.{split_from}
use Rattle.hub.specs.declared.Hub.{Hub}
use Rattle.hub.specs.Call.{Control, Poll, Start, Outcome}
use Rattle.hub.specs.Checks.{within}
use Rattle.hub.specs.Step.{step}
use Rattle.why.specs.declared.PortChanges.{PortChanges}
use Rattle.why.specs.declared.Reason.{Reason}
use Rattle.why.specs.declared.Reason.TheVariants.{Number}
use Rattle.why.specs.Why.{numbered, start_reason, changes_by_port, poll_reason, request_reason, rule_reason, why_of}

module _ (h : Hub) {r x : Reason} {o : Outcome} where
  pub poll_way : (z room : ℕ) {f : PortChanges} → o ≡ step h (Poll z room) → r ≡ numbered o.answer.number x → x ≡ poll_reason o.answer.number f → f ≡ changes_by_port h.ports
      → r ≡ why_of h (Poll z room)
  unfolding rule_reason why_of
  poll_way z room s e p f = e ∙ rw (p, f, s)

  pub start_way : (z p t f g a e : ℕ) (l : List ℕ) {q : StartSplit} {w : Started} → o ≡ step h (Start z p t f g a e l) → q ≡ split_from z p t f g a e
      → w ≡ start_split h.translator q l → r ≡ numbered o.answer.number x → x ≡ start_reason w.answer → r ≡ why_of h (Start z p t f g a e l)
  unfolding rule_reason why_of
  start_way z p t f g a e l s q w n x = n ∙ rw (x, w, q, s)

  pub control_way : (z : ℕ) (s : List ℕ) (room : ℕ) → o ≡ step h (Control z s room) → r ≡ numbered o.answer.number x → x ≡ request_reason h s
      → r ≡ why_of h (Control z s room)
  unfolding rule_reason why_of
  control_way z s room c e q = e ∙ rw (q, c)

-- Setup bytes are exactly 8, else 6.
pub control_short : (h : Hub) (z : ℕ) (s : List ℕ) (room : ℕ) → ¬ (length s ≡ 8) → Number 6 ≡ why_of h (Control z s room)
unfolding step within numbered why_of
control_short h z s room n = rw (ne_eqb (length s) 8 n)
