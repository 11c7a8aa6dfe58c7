-- The explaining entries, and runs with explained calls. Assumes nothing.
use Prim.Native.Nat.{ℕ}
use native.Mathlib.Omega.{arith}
use mathlib.Core.Path.{◌≡◌, refl, sym, ◌∙◌, ap, ap₂, subst}
use mathlib.Core.Logic.{◌↔◌}
use mathlib.Core.Bool.{false}
use Rattle.std.specs.Prelude.{Option, Some, None, unwrap_or}
use mathlib.Core.List.{List, [], ◌∷◌}
use Rattle.hub.specs.declared.Hub.{Hub}
use Rattle.hub.specs.Hub.{hub_of}
use Rattle.hub.specs.Call.{Call, Answer}
use Rattle.hub.specs.Step.{step}
use Rattle.hub.specs.Valid.{ValidHub}
use Rattle.hub.proofs.Claimed.{hub_claims_lem}
use Rattle.runs.specs.History.{Event}
use Rattle.runs.specs.Machine.{new_hub_of}
use Rattle.numbers.specs.Split.{split_from}
use Rattle.why.specs.declared.Reason.{Reason}
use Rattle.why.specs.declared.Reason.TheVariants.{Nothing, Number}
use Rattle.why.specs.Said.{TrueOf, number, says, gets_reason, enough_for}
use Rattle.why.specs.Why.{why_of}
use Rattle.why.specs.Claims.{Leaves}
use Rattle.why.specs.ExplainedRuns.{Item, make, explain, Seen, made, explained, seen_from, explaining, items_of, Demand2WithReasons}
use Rattle.why.proofs.Claimed.{why_claims_lem}
use Rattle.why.proofs.ExplainedRuns as runs
use Rattle.area.specs.Written.{written}
use Rattle.area.specs.Read.{read_of, hub_read}
use Rattle.area.proofs.Exact.{area_exact_lem}
use Rattle.grimholdi.specs.Outcome.{EntryOutcome}
use Rattle.grimholdi.specs.Asked.{Asked, start_split, call_of, gives}
use Rattle.grimholdi.specs.Runs.{seen}
use Rattle.grimholdi_why.specs.Explained.{entry_reason, explains, explained_entries, EntryReasons}
use Rattle.grimholdi.proofs.Carried.{gives_taken, answer_same, next_same, new_hub_lem, filled_is}
use Rattle.grimholdi.proofs.Claimed.{entry_claims_lem}

reason_refused : (a : List ℕ) (c : Call) → read_of a ≡ None → entry_reason a c ≡ Number 6
unfolding entry_reason
reason_refused a c e = rw e

-- ---- on the written form of a valid hub

module _ (h : Hub) (v : ValidHub h) where
  reason_same : (c : Call) → entry_reason (written h) c ≡ why_of h c
  unfolding entry_reason
  reason_same c = rw (area_exact_lem.again h v)

  true_of : (c : Call) → TrueOf (entry_reason (written h) c) h c
  true_of c = subst (λ (r : Reason). TrueOf r h c) (sym (reason_same c)) (why_claims_lem.true_of h c v)

  -- a number is enough for nothing
  no_number : {r : Reason} {n : ℕ} {a : Answer} → r ≡ Number n → enough_for r ≡ Some a → ⊥
  no_number {n = n} {a = a} p e = let w : enough_for (Number n) ≡ Some a = ap enough_for (sym p) ∙ e in let z : ◌≡◌ {A = ℕ} 0 1 = cc in omega arith

  answered : (x : Asked) (a : Answer) → enough_for (explains (written h) x) ≡ Some a → seen (gives (written h) x) ≡ a
  answered x a e = answer_same h v x ∙ go (true_of (call_of x))
    where
      go : TrueOf (explains (written h) x) h (call_of x) → (step h (call_of x)).answer ≡ a
      go (number q l d p) = absurd (no_number p e)
      go (says p s) = why_claims_lem.enough (explains (written h) x) a h (call_of x) v.translator.keys e p s

  given : (x : Asked) → (explains (written h) x ≡ Nothing) ↔ (gets_reason (call_of x) (gives (written h) x).answer.number ≡ false)
  given x =
      let n = ap (λ (g : EntryOutcome). gets_reason (call_of x) g.answer.number) (gives_taken h v x) in
      let w = why_claims_lem.given h (call_of x) v in
      let r = reason_same (call_of x) in
      (λ e. n ∙ w.0 (sym r ∙ e), λ e. r ∙ w.1 (sym n ∙ e))

  -- the hub that is read from the area that an entry leaves
  next_read : (x : Asked) → hub_read (gives (written h) x).area ≡ (step h (call_of x)).next
  next_read x =
      ap hub_read (next_same h v x)
      ∙ ap (λ (r : Option Hub). unwrap_or r (hub_of 0 0 0 0 0)) (area_exact_lem.again (step h (call_of x)).next (hub_claims_lem.step_valid h v (call_of x)))

  stored : (z p t f g a e : ℕ) (l : List ℕ)
      → Leaves (explains (written h) (start_split z p t f g a e l)) (split_from z p t f g a e) l h (hub_read (gives (written h) (start_split z p t f g a e l)).area)
  stored z p t f g a e l =
      let x : Asked = start_split z p t f g a e l in
      let s = split_from z p t f g a e in
      subst (λ (r : Reason). Leaves r s l h (hub_read (gives (written h) x).area)) (sym (reason_same (call_of x)))
      (subst (λ (k : Hub). Leaves (why_of h (call_of x)) s l h k) (sym (next_read x)) (why_claims_lem.stored h z p t f g a e l v))

-- ---- runs

follows : (is : List (Item Asked)) (h : Hub) → ValidHub h → seen_from explained_entries (written h) is ≡ seen_from explaining h (items_of call_of is)
unfolding seen_from items_of
follows [] h v = refl
follows (make x ∷ is) h v =
    ap₂ (λ (e : Event) (es : List Seen). made e ∷ es)
    (ap (λ (a : Answer). record { call = call_of x; answer = a }) (answer_same h v x))
    (ap (λ (a : List ℕ). seen_from explained_entries a is) (next_same h v x)
    ∙ follows is (step h (call_of x)).next (hub_claims_lem.step_valid h v (call_of x)))
follows (explain x ∷ is) h v =
    ap₂ (λ (r : Reason) (es : List Seen). explained (call_of x) r ∷ es) (reason_same h v (call_of x)) (follows is h v)

demand_2 : Demand2WithReasons explained_entries
demand_2 m is = ap (λ (a : List ℕ). seen_from explained_entries a is) (filled_is m) ∙ follows is (new_hub_of m.numbers) (new_hub_lem m)

pub entry_reasons_lem : EntryReasons
entry_reasons_lem =
    record {
      bad_area = λ a c n. reason_refused a c ((area_exact_lem.refused a).1 n);
      true_of = λ h c v. true_of h v c;
      answered = λ h x a v. answered h v x a;
      given = λ h x v. given h v x;
      stored = λ h z p t f g a e l v. stored h v z p t f g a e l;
      demand_2 = demand_2;
      demand_3 = runs.with_reasons explained_entries (λ a x. refl) (runs.carried explained_entries demand_2) entry_claims_lem.demand_3.data_explained entry_claims_lem.launch_order;
    }
