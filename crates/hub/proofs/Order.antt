-- The order of checks, as the code of a call uses it: what its tests and `first_refusal` gave makes what `step` says. Assumes nothing.
use Prim.Native.Nat.{ℕ}
use mathlib.Core.Path.{◌≡◌, refl, sym, ap, ◌∙◌}
use mathlib.Core.Bool.{Bool, true, false, cond, true≢false}
use lib.Dec.{eqb}
use Rattle.hub.specs.declared.Hub.{Hub}
use Rattle.hub.specs.declared.Refusal.{Refusal}
use Rattle.hub.specs.declared.Refusal.TheVariants.{Outside, NoSpace, Unconfigured, NotInThisState}
use Rattle.hub.specs.Call.{Call, Outcome, refuse}
use Rattle.hub.specs.Checks.{within, has_space, not_silent, fitting, refusal_number, first_refusal}
use Rattle.hub.specs.Step.{served, step}

-- no refusal has the number of a call that is let pass
refusing : (x : Refusal) → eqb (refusal_number x) 0 ≡ false
refusing Outside = refl
refusing NoSpace = refl
refusing Unconfigured = refl
refusing NotInThisState = refl

pub never_0 : (x : Refusal) → ¬ (refusal_number x ≡ 0)
never_0 x e = true≢false (ap (λ (n : ℕ). eqb n 0) (sym e) ∙ refusing x)

module _ (h : Hub) (c : Call) {o : Outcome} {w r s f : Bool} where
  pub refused_by : (x : Refusal) → o ≡ refuse (refusal_number x) h → refusal_number x ≡ first_refusal w r s f
      → w ≡ within h c → r ≡ has_space c → s ≡ not_silent h c → f ≡ fitting h c → o ≡ step h c
  unfolding step
  refused_by x e g a b d i = e ∙ rw (← a, ← b, ← d, ← i, ← g, refusing x)

  pub served_by_lem : 0 ≡ first_refusal w r s f → w ≡ within h c → r ≡ has_space c → s ≡ not_silent h c → f ≡ fitting h c → o ≡ served h c
      → o ≡ step h c
  unfolding step
  served_by_lem g a b d i e = e ∙ rw (← a, ← b, ← d, ← i, ← g)

-- what holds of the four refusals, and of what the call's rule says where its checks let it pass
pub by_checks : (h : Hub) (c : Call) (P : Outcome → Type 0) → P (refuse 6 h) → P (refuse 7 h) → P (refuse 5 h) → P (refuse 8 h)
    → (within h c ≡ true → fitting h c ≡ true → P (served h c)) → P (step h c)
unfolding step
by_checks h c P outside short silent misplaced rule = go (within h c) (has_space c) (not_silent h c) (fitting h c) refl refl
  where
    go : (w r s f : Bool) → within h c ≡ w → fitting h c ≡ f
        → P (cond (eqb (first_refusal w r s f) 0) (served h c) (refuse (first_refusal w r s f) h))
    go true true true true a b = rule a b
    go true true true false a b = misplaced
    go true true false f a b = silent
    go true false s f a b = short
    go false r s f a b = outside

-- the same for what holds of every refusal
pub by_step : (h : Hub) (c : Call) (P : Outcome → Type 0) → ((n : ℕ) → P (refuse n h))
    → (within h c ≡ true → fitting h c ≡ true → P (served h c)) → P (step h c)
by_step h c P refusal rule = by_checks h c P (refusal 6) (refusal 7) (refusal 5) (refusal 8) rule
