-- A line event is done exactly in the states in which it is named.
-- Assumes nothing.
use Prim.Native.Nat.{ℕ}
use native.Mathlib.Omega.{arith}
use mathlib.Core.Path.{◌≡◌, refl, sym, ◌∙◌, ap}
use mathlib.Core.Bool.{Bool, true, false}
use mathlib.Core.Logic.{◌↔◌, inl, inr}
use Rattle.port.specs.declared.Speed.{Speed}
use Rattle.port.specs.declared.Speed.TheVariants.{Low, Full, High}
use Rattle.port.specs.declared.PortState.{PortState}
use Rattle.port.specs.declared.PortState.TheVariants.{NotConfigured, PoweredOff, Disconnected, Disabled, Resetting, Enabled, Suspended, Resuming}
use Rattle.port.specs.declared.Port.{Port}
use Rattle.port.specs.declared.LineEvent.{LineEvent}
use Rattle.port.specs.declared.LineEvent.TheVariants.{AttachLow, AttachFull, Detach, Chirp, Wake, PortError, OverCurrentOn, OverCurrentOff}
use Rattle.port.specs.Reaction.{Reaction, refused, done, reacted}
use Rattle.port.specs.Events.{attach, detach, chirp, wake, port_error, over_current_on, over_current_off, event_rule, line_event}
use Rattle.port.specs.Words.{NamedIn}
use Rattle.port.proofs.States.{by_state, each}

-- the number of a reaction
abbrev number : Reaction → ℕ
number refused = 8
number (done s l bs) = 0

reacted-number : (p : Port) (r : Reaction) → (reacted p r).number ≡ number r
reacted-number p refused = refl
reacted-number p (done s l bs) = refl

no : {X : Type 0} → ◌≡◌ {A = ℕ} 8 0 → X
no e = absurd (omega (arith, e))

abbrev Done : (Bool → PortState → Reaction) → Bool → PortState → Type 0
Done rule l s = number (rule l s) ≡ 0

-- ---- done: named

attach_named : (v : Speed) (l : Bool) (s : PortState) → Done (attach v) l s → s ≡ Disconnected
attach_named v l = by_state (λ s. Done (attach v) l s → s ≡ Disconnected) no no (λ e. refl) (λ w. no) (λ w t. no) (λ w. no) (λ w. no) (λ w t. no)

detach_named : (l : Bool) (s : PortState) → Done detach l s → NamedIn Detach s
detach_named l =
    by_state (λ s. Done detach l s → NamedIn Detach s) no no no (λ v e. (v, inl refl)) (λ v t. no) (λ v e. (v, inr (inl refl))) (λ v e. (v, inr (inr refl))) (λ v t. no)

chirp_speed : (l : Bool) (v : Speed) (t : ℕ) → Done chirp l (Resetting v t) → NamedIn Chirp (Resetting v t)
chirp_speed l Low t e = no e
chirp_speed l Full t e = (t, refl)
chirp_speed l High t e = no e

chirp_named : (l : Bool) (s : PortState) → Done chirp l s → NamedIn Chirp s
chirp_named l = by_state (λ s. Done chirp l s → NamedIn Chirp s) no no no (λ v. no) (chirp_speed l) (λ v. no) (λ v. no) (λ v t. no)

wake_named : (l : Bool) (s : PortState) → Done wake l s → NamedIn Wake s
wake_named l = by_state (λ s. Done wake l s → NamedIn Wake s) no no no (λ v. no) (λ v t. no) (λ v. no) (λ v e. (v, refl)) (λ v t. no)

error_named : (l : Bool) (s : PortState) → Done port_error l s → NamedIn PortError s
error_named l = by_state (λ s. Done port_error l s → NamedIn PortError s) no no no (λ v. no) (λ v t. no) (λ v e. (v, refl)) (λ v. no) (λ v t. no)

-- ---- named: done

detach-done : (l : Bool) (s : PortState) → NamedIn Detach s → Done detach l s
detach-done l s (v, inl e) = ap (λ (x : PortState). number (detach l x)) e
detach-done l s (v, inr (inl e)) = ap (λ (x : PortState). number (detach l x)) e
detach-done l s (v, inr (inr e)) = ap (λ (x : PortState). number (detach l x)) e

-- ---- over-current: refused where Not Configured alone

abbrev configured_number : PortState → ℕ
configured_number NotConfigured = 8
configured_number PoweredOff = 0
configured_number Disconnected = 0
configured_number (Disabled v) = 0
configured_number (Resetting v t) = 0
configured_number (Enabled v) = 0
configured_number (Suspended v) = 0
configured_number (Resuming v t) = 0

on_number_lem : (l : Bool) (s : PortState) → number (over_current_on l s) ≡ configured_number s
on_number_lem true = each (λ s. number (over_current_on true s)) configured_number (λ v t. refl)
on_number_lem false = each (λ s. number (over_current_on false s)) configured_number (λ v t. refl)

off_number : (l : Bool) (s : PortState) → number (over_current_off l s) ≡ configured_number s
off_number true = each (λ s. number (over_current_off true s)) configured_number (λ v t. refl)
off_number false = each (λ s. number (over_current_off false s)) configured_number (λ v t. refl)

configured-done : (s : PortState) → ¬ (s ≡ NotConfigured) → configured_number s ≡ 0
configured-done =
    by_state (λ s. ¬ (s ≡ NotConfigured) → configured_number s ≡ 0) (λ n. absurd (n refl)) (λ n. refl) (λ n. refl) (λ v n. refl) (λ v t n. refl)
    (λ v n. refl) (λ v n. refl) (λ v t n. refl)

configured_named : (s : PortState) {n : ℕ} → n ≡ configured_number s → (n ≡ 0) ↔ (¬ (s ≡ NotConfigured))
configured_named s is = (λ e n. no (ap configured_number (sym n) ∙ sym is ∙ e), λ n. is ∙ configured-done s n)

-- ---- both, of each event

done_named : (e : LineEvent) (l : Bool) (s : PortState) → Done (event_rule e) l s ↔ NamedIn e s
done_named AttachLow l s = (attach_named Low l s, λ n. ap (λ (x : PortState). number (attach Low l x)) n)
done_named AttachFull l s = (attach_named Full l s, λ n. ap (λ (x : PortState). number (attach Full l x)) n)
done_named Detach l s = (detach_named l s, detach-done l s)
done_named Chirp l s = (chirp_named l s, λ n. ap (λ (x : PortState). number (chirp l x)) n.1)
done_named Wake l s = (wake_named l s, λ n. ap (λ (x : PortState). number (wake l x)) n.1)
done_named PortError l s = (error_named l s, λ n. ap (λ (x : PortState). number (port_error l x)) n.1)
done_named OverCurrentOn l s = configured_named s (on_number_lem l s)
done_named OverCurrentOff l s = configured_named s (off_number l s)

pub event_done : (p : Port) (e : LineEvent) → ((line_event p e).number ≡ 0) ↔ NamedIn e p.state
event_done p e =
    let r = event_rule e p.overcurrent p.state in
    let w = done_named e p.overcurrent p.state in
    (λ n. w.0 (sym (reacted-number p r) ∙ n), λ n. reacted-number p r ∙ w.1 n)
