-- The claims on reasons. Assumes nothing.
use Prim.Native.Nat.{ℕ}
use native.Mathlib.Omega.{arith}
use mathlib.Core.Path.{◌≡◌, refl, sym, ◌∙◌, ap, subst}
use mathlib.Core.Logic.{◌↔◌}
use Rattle.std.specs.Prelude.{None, Some, Result}
use mathlib.Core.List.{List, [], ◌∷◌}
use mathlib.Core.Bool.{Bool, true, false, cond, true≢false}
use borrow.Author.Tests.{eqb-false, ne_eqb}
use lib.Dec.{eqb}
use Rattle.buffer.specs.declared.Lane.{Lane}
use Rattle.buffer.specs.Key.{key_of}
use Rattle.translator.specs.declared.Outside.{Outside}
use Rattle.translator.specs.declared.Choice.{Choice}
use Rattle.translator.specs.declared.Choice.TheVariants as choice
use Rattle.translator.specs.Answers.{start_number}
use Rattle.numbers.specs.Named.{lane_from}
use Rattle.numbers.specs.Split.{split_from}
use Rattle.request.specs.Request.{request_of}
use Rattle.hub.specs.declared.Hub.{Hub}
use Rattle.hub.specs.Call.{Call, Control, Poll, Start, Complete, Launch, Deliver, Event, Tick, BusReset, Answer, Outcome, plain_answer, pid_answer}
use Rattle.hub.specs.Requests.{requested}
use Rattle.hub.specs.Rules.{polled}
use Rattle.hub.specs.Valid.{ValidHub}
use Rattle.hub.specs.Checks.{within, has_space, not_silent, fitting}
use Rattle.hub.specs.Step.{served, step}
use Rattle.runs.specs.Refusals.{outside, short, silent}
use Rattle.runs.proofs.Outside.{outside_tells, short_tells}
use Rattle.why.specs.declared.Reason.{Reason}
use Rattle.why.specs.declared.Reason.TheVariants.{Nothing, Number, HeldBy, Reused, TookFree, LimitReached, NoRoom, Changed, Wrong}
use Rattle.why.specs.Said.{bitmap_by, SaidOfPoll, SaidOfRequest, NoReason, Said, Passes, TrueOf, number, says, is_number, gets_reason, enough_for}
use Rattle.why.specs.Why.{numbered, choice_reason, start_reason, changes_by_port, poll_reason, request_reason, rule_reason, why_of}
use Rattle.why.specs.Claims.{KeysApart, WhyClaims}
use Rattle.why.proofs.Passing.{number_due, due_answered, due_number, unnumbered_passes, passes_unnumbered, ByRule, by_rule}
use Rattle.why.proofs.Starts.{picked, picked_true, picked_only, picked_enough, start_chosen}
use Rattle.why.proofs.Stored.{why_stored}
use Rattle.why.proofs.Requests.{request_true, request_only, wrong_enough, right_served}
use Rattle.why.proofs.Polls.{poll_true, poll_only, poll_enough, poll_nothing}

no_reason_lem : (r : Reason) → NoReason r → r ≡ Nothing
no_reason_lem Nothing s = refl
no_reason_lem (Number n) s = absurd s
no_reason_lem (HeldBy b) s = absurd s
no_reason_lem (Reused b) s = absurd s
no_reason_lem (TookFree b) s = absurd s
no_reason_lem NoRoom s = absurd s
no_reason_lem LimitReached s = absurd s
no_reason_lem (Changed f) s = absurd s
no_reason_lem (Wrong w) s = absurd s

-- ---- enough, on any hub

is_true : (x : Bool) → ¬ (x ≡ false) → x ≡ true
is_true true n = refl
is_true false n = absurd (n refl)

inside : (h : Hub) (c : Call) → Passes h c → within h c ≡ true
inside h c p = is_true (within h c) (λ e. p outside (omega arith) ((outside_tells h c).0 e))

wide : (h : Hub) (c : Call) → Passes h c → has_space c ≡ true
wide h c p = is_true (has_space c) (λ e. p short (omega arith) ((short_tells c).0 e))

none_for : (r : Reason) (a : Answer) → NoReason r → enough_for r ≡ Some a → ⊥
none_for r a s e = let q : None ≡ Some a = ap enough_for (sym (no_reason_lem r s)) ∙ e in let z : ◌≡◌ {A = ℕ} 0 1 = cc in omega arith

passed : (h : Hub) (c : Call) → within h c ≡ true → has_space c ≡ true → not_silent h c ≡ true → fitting h c ≡ true → step h c ≡ served h c
unfolding step
passed h c w r s f = rw (w, r, s, f)

module _ (h : Hub) (a : Answer) where
  request_enough : (y : Lane) (s : List ℕ) (r : Reason) → SaidOfRequest r h s → enough_for r ≡ Some a → (requested h y (request_of h.identity.ports s)).answer ≡ a
  request_enough y s (Wrong x) w e = let q : plain_answer 2 ≡ a = cc in ap (λ (o : Outcome). o.answer) (wrong_enough h s y x w) ∙ q
  request_enough y s Nothing w e = absurd (none_for Nothing a tt e)
  request_enough y s (Number n) w e = absurd w
  request_enough y s (HeldBy n) w e = absurd w
  request_enough y s (Reused n) w e = absurd w
  request_enough y s (TookFree n) w e = absurd w
  request_enough y s NoRoom w e = absurd w
  request_enough y s LimitReached w e = absurd w
  request_enough y s (Changed f) w e = absurd w

  changes_enough : (r : Reason) → SaidOfPoll r h → enough_for r ≡ Some a → (polled h).answer ≡ a
  changes_enough (Changed f) w e = let q : pid_answer 1 0 (bitmap_by f ∷ []) ≡ a = cc in ap (λ (o : Outcome). o.answer) (poll_enough h f w) ∙ q
  changes_enough Nothing w e = absurd (none_for Nothing a tt e)
  changes_enough (Number n) w e = absurd w
  changes_enough (HeldBy n) w e = absurd w
  changes_enough (Reused n) w e = absurd w
  changes_enough (TookFree n) w e = absurd w
  changes_enough NoRoom w e = absurd w
  changes_enough LimitReached w e = absurd w
  changes_enough (Wrong x) w e = absurd w

  enough : (r : Reason) (c : Call) → KeysApart h → enough_for r ≡ Some a → Passes h c → Said r h c → (step h c).answer ≡ a
  unfolding has_space not_silent fitting served
  enough r (Control v s room) apart e p w =
      let x = inside h (Control v s room) p in
      let y = wide h (Control v s room) p in
      ap (λ (o : Outcome). o.answer) (passed h (Control v s room) x y refl refl) ∙ request_enough (lane_from v) s r w e
  enough r (Poll v room) apart e p w =
      let x = inside h (Poll v room) p in
      let y = wide h (Poll v room) p in
      let z = is_true h.configured (p silent (omega arith)) in
      ap (λ (o : Outcome). o.answer) (passed h (Poll v room) x y z refl) ∙ changes_enough r w e
  enough r (Start v q t f g b n l) apart e p w =
      let x = inside h (Start v q t f g b n l) p in
      let z = is_true h.configured (p silent (omega arith)) in
      let k = key_of (split_from v q t f g b n) in
      ap (λ (o : Outcome). o.answer) (passed h (Start v q t f g b n l) x refl z refl)
      ∙ ap (λ (s : Result Choice Outside). plain_answer (start_number s)) (start_chosen h v q t f g b n l x)
      ∙ picked_enough h k (apart k) r a w e
  enough r (Complete v x y d room) apart e p w = absurd (none_for r a w e)
  enough r (Launch room) apart e p w = absurd (none_for r a w e)
  enough r (Deliver x l) apart e p w = absurd (none_for r a w e)
  enough r (Event x n) apart e p w = absurd (none_for r a w e)
  enough r Tick apart e p w = absurd (none_for r a w e)
  enough r BusReset apart e p w = absurd (none_for r a w e)

-- ---- where none of 5 to 8 is answered

module _ (h : Hub) (valid : ValidHub h) where
  rule_true : (c : Call) → ByRule h c → Said (rule_reason h c) h c
  unfolding rule_reason served
  rule_true (Control z s room) b = request_true h s
  rule_true (Poll z room) b = rw b.rule (poll_true h valid)
  rule_true (Start z p t f g a e l) b = rw (start_chosen h z p t f g a e l b.fits) (picked_true h (key_of (split_from z p t f g a e)) (valid.translator.keys (key_of (split_from z p t f g a e))))
  rule_true (Complete z a e d room) b = tt
  rule_true (Launch room) b = tt
  rule_true (Deliver r l) b = tt
  rule_true (Event e n) b = tt
  rule_true Tick b = tt
  rule_true BusReset b = tt

  rule_only : (r : Reason) (c : Call) → ByRule h c → Said r h c → r ≡ rule_reason h c
  unfolding rule_reason served
  rule_only r (Control z s room) b w = request_only h s r w
  rule_only r (Poll z room) b w = rw b.rule (poll_only h valid r w)
  rule_only r (Start z p t f g a e l) b w = rw (start_chosen h z p t f g a e l b.fits) (picked_only h (key_of (split_from z p t f g a e)) (valid.translator.keys (key_of (split_from z p t f g a e))) r w)
  rule_only r (Complete z a e d room) b w = no_reason_lem r w
  rule_only r (Launch room) b w = no_reason_lem r w
  rule_only r (Deliver x l) b w = no_reason_lem r w
  rule_only r (Event e n) b w = no_reason_lem r w
  rule_only r Tick b w = no_reason_lem r w
  rule_only r BusReset b w = no_reason_lem r w

  -- ---- true, and the only one

  true_of : (c : Call) → TrueOf (why_of h c) h c
  unfolding why_of numbered
  true_of c = go (is_number n) refl
    where
      n : ℕ
      n = (step h c).answer.number

      go : (x : Bool) → is_number n ≡ x → TrueOf (cond x (Number n) (rule_reason h c)) h c
      go true e = let d = number_due h c valid e in number d.refusal d.early d.due (ap Number d.number)
      go false e = says (unnumbered_passes h c valid e) (rule_true c (by_rule h c e))

  is_why : (r : Reason) (c : Call) → TrueOf r h c → r ≡ why_of h c
  unfolding why_of numbered
  is_why r c (number q l d e) = e ∙ rw (due_number h c valid q l d, due_answered h c valid q d)
  is_why r c (says p s) = let e = passes_unnumbered h c valid p in rw e (rule_only r c (by_rule h c e) s)

  -- ---- given exactly where the answer gets one

  request_given : (y : Lane) (s : List ℕ) (r : Reason) → SaidOfRequest r h s → (r ≡ Nothing) ↔ (eqb (requested h y (request_of h.identity.ports s)).answer.number 2 ≡ false)
  request_given y s (Wrong x) w = (
    λ e. let z : ◌≡◌ {A = ℕ} 0 1 = cc in absurd (omega arith),
    λ e. absurd (eqb-false (requested h y (request_of h.identity.ports s)).answer.number 2 e (ap (λ (o : Outcome). o.answer.number) (wrong_enough h s y x w))),
  )
  request_given y s Nothing w = (λ e. ne_eqb (requested h y (request_of h.identity.ports s)).answer.number 2 (right_served h s y w), λ e. refl)
  request_given y s (Number n) w = absurd w
  request_given y s (HeldBy b) w = absurd w
  request_given y s (Reused b) w = absurd w
  request_given y s (TookFree b) w = absurd w
  request_given y s NoRoom w = absurd w
  request_given y s LimitReached w = absurd w
  request_given y s (Changed f) w = absurd w

  poll_given : (r : Reason) → SaidOfPoll r h → (r ≡ Nothing) ↔ (eqb (polled h).answer.number 1 ≡ false)
  poll_given (Changed f) w = (
    λ e. let z : ◌≡◌ {A = ℕ} 0 1 = cc in absurd (omega arith),
    λ e. absurd (eqb-false (polled h).answer.number 1 e (ap (λ (o : Outcome). o.answer.number) (poll_enough h f w))),
  )
  poll_given Nothing w = (λ e. ne_eqb (polled h).answer.number 1 (poll_nothing h valid w), λ e. refl)
  poll_given (Number n) w = absurd w
  poll_given (HeldBy b) w = absurd w
  poll_given (Reused b) w = absurd w
  poll_given (TookFree b) w = absurd w
  poll_given NoRoom w = absurd w
  poll_given LimitReached w = absurd w
  poll_given (Wrong x) w = absurd w

  start_given : (c : Choice) → choice_reason c ≡ Nothing → ⊥
  start_given choice.NoRoom e = let z : ◌≡◌ {A = ℕ} 0 1 = cc in omega arith
  start_given choice.LimitReached e = let z : ◌≡◌ {A = ℕ} 0 1 = cc in omega arith
  start_given (choice.Held n) e = let z : ◌≡◌ {A = ℕ} 0 1 = cc in omega arith
  start_given (choice.Reused n) e = let z : ◌≡◌ {A = ℕ} 0 1 = cc in omega arith
  start_given (choice.Took n) e = let z : ◌≡◌ {A = ℕ} 0 1 = cc in omega arith

  rule_given : (c : Call) → ByRule h c → is_number (served h c).answer.number ≡ false
      → (rule_reason h c ≡ Nothing) ↔ (gets_reason c (served h c).answer.number ≡ false)
  unfolding rule_reason served
  rule_given (Control z s room) b u = rw u (request_given (lane_from z) s (request_reason h s) (request_true h s))
  rule_given (Poll z room) b u = rw (b.rule, u) (poll_given (poll_reason (polled h).answer.number (changes_by_port h.ports)) (poll_true h valid))
  rule_given (Start z p t f g a e l) b u = (
    λ x. absurd (start_given (picked h (key_of (split_from z p t f g a e))) (ap start_reason (sym (start_chosen h z p t f g a e l b.fits)) ∙ x)),
    λ x. absurd (true≢false x),
  )
  rule_given (Complete z a e d room) b u = (λ z. u, λ z. refl)
  rule_given (Launch room) b u = (λ z. u, λ z. refl)
  rule_given (Deliver r l) b u = (λ z. u, λ z. refl)
  rule_given (Event e n) b u = (λ z. u, λ z. refl)
  rule_given Tick b u = (λ z. u, λ z. refl)
  rule_given BusReset b u = (λ z. u, λ z. refl)

  numbered_gets : (c : Call) (n : ℕ) → is_number n ≡ true → gets_reason c n ≡ true
  numbered_gets (Control z s room) n e = rw e
  numbered_gets (Poll z room) n e = rw e
  numbered_gets (Start z p t f g a x l) n e = refl
  numbered_gets (Complete z a x d room) n e = e
  numbered_gets (Launch room) n e = e
  numbered_gets (Deliver r l) n e = e
  numbered_gets (Event x m) n e = e
  numbered_gets Tick n e = e
  numbered_gets BusReset n e = e

  given : (c : Call) → (why_of h c ≡ Nothing) ↔ (gets_reason c (step h c).answer.number ≡ false)
  unfolding why_of numbered
  given c = go (is_number n) refl
    where
      n : ℕ
      n = (step h c).answer.number

      go : (x : Bool) → is_number n ≡ x → (cond x (Number n) (rule_reason h c) ≡ Nothing) ↔ (gets_reason c n ≡ false)
      go true e = (λ z. let y : ◌≡◌ {A = ℕ} 0 1 = cc in absurd (omega arith), λ z. absurd (true≢false (sym (numbered_gets c n e) ∙ z)))
      go false e =
          let b = by_rule h c e in
          let m : (step h c).answer.number ≡ (served h c).answer.number = ap (λ (o : Outcome). o.answer.number) b.rule in
          subst (λ (k : ℕ). (rule_reason h c ≡ Nothing) ↔ (gets_reason c k ≡ false)) (sym m) (rule_given c b (ap is_number (sym m) ∙ e))

pub why_claims_lem : WhyClaims step why_of
why_claims_lem =
    record {
      true_of = λ h c v. true_of h v c;
      only = λ r s h c v x y. is_why h v r c x ∙ sym (is_why h v s c y);
      enough = λ r a h c. enough h a r c;
      given = λ h c v. given h v c;
      stored = why_stored;
    }
