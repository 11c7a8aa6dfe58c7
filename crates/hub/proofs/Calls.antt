-- How the code of the calls and requests is put together: what the functions that it calls gave makes what the rule says.
-- Assumes nothing.
use Prim.Native.Nat.{ℕ, ◌≤◌, min}
use mathlib.Core.Path.{◌≡◌, refl, sym, ap, ap₂, ◌∙◌}
use mathlib.Core.Bool.{Bool, true, false, cond, not, ◌&&◌}
use mathlib.Core.List.{List, [], ◌∷◌}
use mathlib.Core.Logic.{⊎_elim}
use native.Mathlib.Omega.{arith}
use borrow.Author.Tests.{ne_eqb}
use lib.Dec.{eqb}
use lib.ListN.{take, length, length-take}
use Rattle.payload.specs.declared.Payload.{Payload}
use Rattle.payload.specs.Payload.{padded, payload_of, content}
use Rattle.payload.proofs.Laws.{content_of, take_min}
use Rattle.port.specs.declared.Port.{Port}
use Rattle.port.specs.declared.PortNumber.{PortNumber}
use Rattle.port.specs.declared.LineEvent.{LineEvent}
use Rattle.port.specs.Reaction.{Answered}
use Rattle.port.specs.Events.{line_event}
use Rattle.port.proofs.Claimed.{port_claims_lem}
use Rattle.ports.specs.Ports.{port_at}
use Rattle.ports.proofs.Laws.{put_back}
use Rattle.ports.specs.Bitmap.{bitmap_of}
use Rattle.buffer.specs.declared.DeviceResult.{DeviceResult}
use Rattle.translator.specs.declared.Translator.{Translator}
use Rattle.translator.specs.declared.Launched.{Launched}
use Rattle.translator.specs.declared.NotLaunched.{NotLaunched}
use Rattle.translator.specs.declared.NotLaunched.TheVariants.{NothingPending, Occupied}
use Rattle.translator.specs.declared.NotDelivered.{NotDelivered}
use Rattle.translator.specs.declared.NotDelivered.TheVariants.{Outside, NotInThisState}
use Rattle.buffer.specs.declared.StartSplit.{StartSplit}
use Rattle.std.specs.Prelude.{Result, Ok, Err}
use Rattle.std.specs.Result.{result_eq}
use Rattle.translator.specs.declared.Delivered.{Delivered}
use Rattle.translator.specs.Launch.{launch}
use Rattle.translator.specs.Deliver.{deliver}
use Rattle.translator.specs.Answers.{launch_number, deliver_number}
use Rattle.numbers.specs.Named.{event_from}
use Rattle.hub.specs.declared.Hub.{Hub}
use Rattle.hub.specs.declared.Refusal.{Refusal}
use Rattle.hub.specs.Hub.{with_ports, with_port_at}
use Rattle.hub.specs.Call.{Event, Outcome, plain, refuse, gives}
use Rattle.hub.specs.Requests.{descriptor}
use Rattle.hub.specs.Rules.{polled, stepped_at, event_at}
use Rattle.hub.specs.Checks.{within, has_space, not_silent, fitting, refusal_number, unless, first_refusal}
use Rattle.hub.specs.Step.{served, step}
use Rattle.hub.proofs.Order.{never_0, refused_by}

-- a poll leaves the hub as it was
pub polled_stays : (h : Hub) → (polled h).next ≡ h
unfolding polled
polled_stays h = go (eqb (bitmap_of h.identity.ports h.ports) 0)
  where
    go : (b : Bool) → (cond {A = Outcome} b (refuse 3 h) (gives h (bitmap_of h.identity.ports h.ports ∷ []))).next ≡ h
    go true = refl
    go false = refl

module _ (h : Hub) {o : Outcome} where
  pub poll_nothing : {m : ℕ} → o ≡ plain h 3 → m ≡ bitmap_of h.identity.ports h.ports → m ≡ 0 → o ≡ polled h
  unfolding polled
  poll_nothing e b z = e ∙ rw (← b, z)

  pub poll_data : {m : ℕ} {p : Payload} → o ≡ gives h (content p) → p ≡ payload_of (m ∷ []) → m ≡ bitmap_of h.identity.ports h.ports → ¬ (m ≡ 0)
      → o ≡ polled h
  unfolding polled payload_of padded
  poll_data {m} e p b z = e ∙ rw (p, ← b, ne_eqb m 0 z)

  -- the descriptor is cut to the length that is asked
  pub descriptor_cut : (n : ℕ) {k : ℕ} {p : Payload} → o ≡ gives h (content p) → p ≡ payload_of (take k (descriptor h.identity)) → k ≡ min n 9
      → o ≡ gives h (take n (descriptor h.identity))
  descriptor_cut n {k} e p q =
      let d = descriptor h.identity in
      let m : k ≡ min (length d) n = omega arith in
      let l : length (take k d) ≤ 64 = simp length-take (omega arith) in
      e ∙ ap (gives h) (ap content p ∙ content_of (take k d) l ∙ ap (λ (x : ℕ). take x d) m ∙ take_min n d)

-- whether the translator takes the call in its state
pub launch_fits : (t : Translator) {x : Launched} {b : Bool} (f : StartSplit → StartSplit → Bool) (g : NotLaunched → NotLaunched → Bool)
    → g NothingPending Occupied ≡ false → g Occupied Occupied ≡ true → b ≡ not (result_eq f g x.answer (Err Occupied)) → x ≡ launch t
    → b ≡ not (eqb (launch_number (launch t).answer) 8)
launch_fits t {x} f g other same e l = e ∙ (split x.answer ∙ rw l)
  where
    split : (a : Result StartSplit NotLaunched) → not (result_eq f g a (Err Occupied)) ≡ not (eqb (launch_number a) 8)
    split (Ok s) = refl
    split (Err NothingPending) = rw other
    split (Err Occupied) = rw same

pub deliver_fits : (t : Translator) (r : DeviceResult) (l : List ℕ) {x : Delivered} {k : DeviceResult} {b : Bool} (f : Unit {0} → Unit {0} → Bool)
    (g : NotDelivered → NotDelivered → Bool) → g Outside NotInThisState ≡ false → g NotInThisState NotInThisState ≡ true
    → b ≡ not (result_eq f g x.answer (Err NotInThisState)) → x ≡ deliver t k l → k ≡ r → b ≡ not (eqb (deliver_number (deliver t r l).answer) 8)
deliver_fits t r l {x} f g other same e d k = e ∙ (split x.answer ∙ rw (d, k))
  where
    split : (a : Result (Unit {0}) NotDelivered) → not (result_eq f g a (Err NotInThisState)) ≡ not (eqb (deliver_number a) 8)
    split (Ok o) = refl
    split (Err Outside) = rw other
    split (Err NotInThisState) = rw same

-- ---- a line event: its numbers and the hub's configuration are looked at before the port, and the port's own answer is the last check

refuses_still : (w f x : Bool) (i : Refusal) → refusal_number i ≡ first_refusal w true true f → refusal_number i ≡ first_refusal w true true (f && x)
refuses_still true true x i e = absurd (never_0 i e)
refuses_still true false x i e = e
refuses_still false f x i e = e

port_decides : (w f x : Bool) → 0 ≡ first_refusal w true true f → first_refusal w true true (f && x) ≡ unless x 8 0
port_decides true true x e = refl
port_decides true false x e = absurd (omega (arith, e))
port_decides false f x e = absurd (omega (arith, e))

-- a port that answers 8 is put back as it stood
last_check : (h : Hub) (e : LineEvent) (m : PortNumber)
    → (let k = unless (not (eqb (line_event (port_at h.ports m) e).number 8)) 8 0 in cond {A = Outcome} (eqb k 0) (event_at h e m) (refuse k h)) ≡ event_at h e m
last_check h e m =
    let p = port_at h.ports m in
    let o = line_event p e in
    let F : ℕ → Outcome = λ (i : ℕ). let k = unless (not (eqb i 8)) 8 0 in cond {A = Outcome} (eqb k 0) (event_at h e m) (refuse k h) in
    ⊎_elim (λ (z : o.number ≡ 0). ap F z)
    (λ (z : o.number ≡ 8).
    ap F z
    ∙ sym
    (ap₂ (λ (q : Port) (i : ℕ). plain (with_port_at h m q) i) (port_claims_lem.refused_unchanged p e z) z
    ∙ ap (λ (ps : List Port). plain (with_ports h ps) 8) (put_back h.ports m)))
    (port_claims_lem.event_answers p e)

module _ (h : Hub) (e n : ℕ) {o : Outcome} where
  pub event_at_lem : {x : Answered} {p : Port} {v : LineEvent} → o ≡ stepped_at h (record { 0 = n }) x → x ≡ line_event p v
      → p ≡ port_at h.ports (record { 0 = n }) → v ≡ event_from e → o ≡ event_at h (event_from e) (record { 0 = n })
  event_at_lem s made port event = s ∙ ap (stepped_at h (record { 0 = n })) (made ∙ ap₂ line_event port event)

  module _ {w : Bool} where
    pub event_refused : (x : Refusal) → o ≡ refuse (refusal_number x) h → refusal_number x ≡ first_refusal w true true h.configured → w ≡ within h (Event e n)
        → o ≡ step h (Event e n)
    unfolding has_space not_silent fitting
    event_refused x a g i = refused_by h (Event e n) x a (refuses_still w h.configured _ x g) i refl refl refl

    pub event_stepped : 0 ≡ first_refusal w true true h.configured → w ≡ within h (Event e n) → o ≡ event_at h (event_from e) (record { 0 = n })
        → o ≡ step h (Event e n)
    unfolding step has_space not_silent fitting served
    event_stepped g i a =
        a
        ∙ sym
        (ap (λ (k : ℕ). cond {A = Outcome} (eqb k 0) (event_at h (event_from e) (record { 0 = n })) (refuse k h))
        (port_decides (within h (Event e n)) h.configured _ (g ∙ ap (λ (b : Bool). first_refusal b true true h.configured) i))
        ∙ last_check h (event_from e) (record { 0 = n }))
