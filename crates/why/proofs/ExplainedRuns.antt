-- The same reason in both of demand 3's runs. Assumes nothing.
use mathlib.Core.Path.{◌≡◌, refl, sym, ◌∙◌, ap, ap₂, subst}
use mathlib.Core.List.{List, [], ◌∷◌}
use mathlib.Core.Bool.{Bool, true, false, cond, and-eq-true_iff}
use lib.ListN.{length}
use Rattle.buffer.specs.Lengths.{start_fits}
use Rattle.numbers.specs.Split.{split_named, split_from}
use Rattle.hub.specs.declared.Hub.{Hub}
use Rattle.hub.specs.Call.{Call, Control, Poll, Start, Complete, Launch, Deliver, Event as Line, Tick, BusReset, Outcome}
use Rattle.hub.specs.Checks.{within}
use Rattle.hub.specs.Step.{step}
use Rattle.runs.specs.History.{Event, History, last_for}
use Rattle.runs.specs.Machine.{new_hub_of, run_from}
use Rattle.runs.specs.Demand3.{Marks, only_key, every_key_of, SameCall, AllExplained, DataExplained}
use Rattle.runs.specs.Order.{AllOrdered, LaunchOrder}
use Rattle.runs.proofs.Kept.{ev, Tied}
use Rattle.runs.proofs.Steps.{step_kept, start_key}
use Rattle.runs.proofs.Hiding.{hide_start}
use Rattle.runs.proofs.HidingHub.{hide_h, hide_c, step_hide}
use Rattle.runs.proofs.Theorems.{new_tied, call_hidden, step_same, demand_3}
use Rattle.runs.proofs.AcceptanceSteps.{launch_order}
use Rattle.why.specs.declared.Reason.TheVariants.{Number}
use Rattle.why.specs.Said.{is_number}
use Rattle.why.specs.Why.{numbered, request_reason, rule_reason, why_of}
use Rattle.why.specs.ExplainedRuns.{Explainer, Item, make, explain, Seen, seen_from, seen, SameItems, SameSeen, HiddenWithReasons, makes_of, made_of, NotMade, Demand3WithReasons, explaining, items_of, Demand2WithReasons}
use Rattle.why.proofs.Passing.{by_rule}

module _ (m : Marks) where
  -- the number that is answered doesn't depend on the marked bytes
  same_number : (h : Hub) (c : Call) → (step (hide_h m h) (hide_c m h c)).answer.number ≡ (step h c).answer.number
  same_number h c = ap (λ (o : Outcome). o.answer.number) (step_hide m h c)

  -- nor does the reason, where the call's own rule gives it
  rule_hide : (h : Hub) (c : Call) → within h c ≡ true → rule_reason (hide_h m h) (hide_c m h c) ≡ rule_reason h c
  unfolding request_reason rule_reason within
  rule_hide h (Control z s room) w = refl
  rule_hide h (Poll z room) w = rw (same_number h (Poll z room))
  rule_hide h (Start z p t f g a e l) w =
      let named = (and-eq-true_iff (split_named z p t f g a e) (start_fits (split_from z p t f g a e) (length l))).0 w in
      let same = ap m (start_key z p t f g a e named.0) in
      rw (same, hide_start m h.translator (split_from z p t f g a e) l)
  rule_hide h (Complete z a e d room) w = refl
  rule_hide h (Launch room) w = refl
  rule_hide h (Deliver r l) w = refl
  rule_hide h (Line e n) w = refl
  rule_hide h Tick w = refl
  rule_hide h BusReset w = refl

  why_hide : (h : Hub) (c : Call) → why_of (hide_h m h) (hide_c m h c) ≡ why_of h c
  unfolding why_of numbered
  why_hide h c = rw (same_number h c) (go (is_number (step h c).answer.number) refl)
    where
      go : (x : Bool) → is_number (step h c).answer.number ≡ x
          → cond x (Number (step h c).answer.number) (rule_reason (hide_h m h) (hide_c m h c)) ≡ cond x (Number (step h c).answer.number) (rule_reason h c)
      go true e = refl
      go false e = rule_hide h c (by_rule h c e).fits

  why_same : (h : History) (g u : Hub) (c d : Call) → Tied h g.translator → hide_h m g ≡ hide_h m u → SameCall m (last_for h) c d → why_of g c ≡ why_of u d
  why_same h g u c d tied e s = sym (why_hide g c) ∙ ap₂ why_of e (call_hidden m h g u c d tied e s) ∙ why_hide u d

  items_same : (is js : List (Item Call)) (h : History) (g u : Hub) → Tied h g.translator → hide_h m g ≡ hide_h m u
      → SameItems m h (seen_from explaining g is) (seen_from explaining u js) → SameSeen m (seen_from explaining g is) (seen_from explaining u js)
  unfolding seen_from SameItems SameSeen
  items_same [] [] h g u tied e s = tt
  items_same [] (make d ∷ js) h g u tied e s = s
  items_same [] (explain d ∷ js) h g u tied e s = s
  items_same (make c ∷ is) [] h g u tied e s = s
  items_same (explain c ∷ is) [] h g u tied e s = s
  items_same (make c ∷ is) (make d ∷ js) h g u tied e s =
      let one = step_same m h g u c d tied e s.0 in
      (one.0, items_same is js (ev c (step g c).answer ∷ h) (step g c).next (step u d).next (step_kept h g tied c).0 one.1 s.1)
  items_same (make c ∷ is) (explain d ∷ js) h g u tied e s = s
  items_same (explain c ∷ is) (make d ∷ js) h g u tied e s = s
  items_same (explain c ∷ is) (explain d ∷ js) h g u tied e s = (why_same h g u c d tied e s.0, items_same is js h g u tied e s.1)

hidden_with_reasons : (m : Marks) → HiddenWithReasons explaining m
hidden_with_reasons m n k is js e s = items_same m is js [] (new_hub_of n) (new_hub_of k) (new_tied n) (ap (hide_h m) e) s

-- ---- a tool that leaves all as it was

module _ (x : Explainer) (kept : (t : x.machine.State) (c : x.machine.Asked) → x.left t c ≡ t) where
  not_made_from : (is : List (Item x.machine.Asked)) (t : x.machine.State) → made_of (seen_from x t is) ≡ run_from x.machine t (makes_of is)
  unfolding made_of seen_from run_from makes_of
  not_made_from [] t = refl
  not_made_from (make c ∷ is) t =
      ap (λ (es : List Event). record { call = x.machine.call c; answer = x.machine.answer t c } ∷ es) (not_made_from is (x.machine.next t c))
  not_made_from (explain c ∷ is) t = ap (λ (u : x.machine.State). made_of (seen_from x u is)) (kept t c) ∙ not_made_from is t

  not_made : NotMade x
  not_made n is = not_made_from is (x.machine.new n)

  pub with_reasons : ((m : Marks) → HiddenWithReasons x m) → DataExplained x.machine → LaunchOrder x.machine → Demand3WithReasons x
  with_reasons hidden given order =
      record {
        set_hidden = hidden;
        mark_hidden = λ k. hidden (only_key k);
        lane_hidden = λ z. hidden (every_key_of z);
        data_explained = λ n is. subst (λ (es : List Event). AllExplained [] es) (sym (not_made n is)) (given n (makes_of is));
        launch_order = λ n is. subst (λ (es : List Event). AllOrdered [] es) (sym (not_made n is)) (order n (makes_of is));
        not_made = not_made;
      }

pub demand_3_with_reasons_lem : Demand3WithReasons explaining
demand_3_with_reasons_lem = with_reasons explaining (λ h c. refl) hidden_with_reasons demand_3.data_explained launch_order

-- ---- a layer above

pub carried : (x : Explainer) → Demand2WithReasons x → (m : Marks) → HiddenWithReasons x m
carried x d m n k is js e s =
    subst (λ (a : List Seen). SameSeen m a (seen x k js)) (sym (d n is))
    (subst (λ (b : List Seen). SameSeen m (ruled n is) b) (sym (d k js))
    (hidden_with_reasons m (x.machine.numbers n) (x.machine.numbers k) (items_of x.machine.call is) (items_of x.machine.call js) e
    (subst (λ (b : List Seen). SameItems m [] (ruled n is) b) (d k js)
    (subst (λ (a : List Seen). SameItems m [] a (seen x k js)) (d n is) s))))
  where
    ruled : x.machine.Made → List (Item x.machine.Asked) → List Seen
    ruled j is = seen explaining (x.machine.numbers j) (items_of x.machine.call is)
