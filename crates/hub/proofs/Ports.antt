-- Which lists of seven ports are a valid hub's, and that sweeps and a port set anew keep them so. Assumes nothing.
use Prim.Native.Nat.{ℕ, zero, suc, ◌+◌, ◌-◌, ◌≤◌, ◌<◌}
use mathlib.Core.Path.{◌≡◌, refl, sym, ap, ◌∙◌, subst}
use mathlib.Core.Bool.{Bool, true, false, not, cond}
use mathlib.Core.List.{List, [], ◌∷◌}
use native.Mathlib.Omega.{arith}
use lib.Dec.{eqb, ltb}
use lib.ListN.{length, get_or}
use lib.Seq.{get_or-drop, get_or-set_same, get_or-set_other}
use borrow.Author.Tests.{ltb-true, ltb-false, eqb-true, eqb-false}
use Rattle.port.specs.declared.Speed.{Speed}
use Rattle.port.specs.declared.Speed.TheVariants.{Low, Full, High}
use Rattle.port.specs.declared.Port.{Port}
use Rattle.port.specs.declared.PortNumber.{PortNumber}
use Rattle.port.specs.declared.PortState.{PortState}
use Rattle.port.specs.declared.PortState.TheVariants.{Resetting, Enabled, Resuming}
use Rattle.port.specs.declared.ChangeBit.TheVariants.{Suspend, Reset}
use Rattle.port.specs.declared.LineEvent.{LineEvent}
use Rattle.port.specs.declared.LineEvent.TheVariants.{AttachLow, AttachFull, Detach, Chirp, Wake, PortError, OverCurrentOn, OverCurrentOff}
use Rattle.port.specs.declared.SettableFeature.{SettableFeature}
use Rattle.port.specs.declared.SettableFeature.TheVariants as settable
use Rattle.port.specs.declared.ClearableFeature.TheVariants as clearable
use Rattle.port.specs.Reaction.{Reaction, done, ruled, new_port}
use Rattle.port.specs.Events.{attach, detach, chirp, wake, port_error, over_current_on, over_current_off, event_rule}
use Rattle.port.specs.Tick as ticking
use Rattle.port.specs.Features.{set_power, set_reset, set_suspend, clear_enable, clear_suspend, set_rule}
use Rattle.port.specs.declared.Input.{Input}
use Rattle.port.specs.declared.Input.TheVariants as input
use Rattle.port.specs.Input.{after}
use Rattle.port.specs.Words.{is_not_configured, TimerBelowEnd, Among}
use Rattle.port.proofs.States.{by_state, row, each, next, next_state}
use Rattle.ports.specs.declared.Sweep.{Sweep}
use Rattle.ports.specs.Ports.{new_ports, port_at, with_port}
use Rattle.ports.specs.Sweep.{swept_by, swept}
use Rattle.ports.proofs.Front.{drop_front, get_d_front}
use Rattle.ports.proofs.Laws.{at-port, set-port, ports_claims_lem}

-- ---- no rule of a port but SetConfiguration makes it Not Configured

abbrev Same : (Bool → PortState → Reaction) → Type 0
Same rule = (l : Bool) (s : PortState) → is_not_configured (next s (rule l s)) ≡ is_not_configured s

-- where all rows compute
rows : (rule : Bool → PortState → Reaction) (l : Bool)
    → ((v : Speed) (t : ℕ) → row (λ s. is_not_configured (next s (rule l s))) v t ≡ row is_not_configured v t)
    → (s : PortState) → is_not_configured (next s (rule l s)) ≡ is_not_configured s
rows rule l = each (λ s. is_not_configured (next s (rule l s))) is_not_configured

tick_same : Same ticking.tick
tick_same l =
    by_state (λ s. is_not_configured (next s (ticking.tick l s)) ≡ is_not_configured s) refl refl refl (λ s. refl)
    (λ s t.
    elim (ltb t 14) as (λ b. is_not_configured (next (Resetting s t) (cond b (done (Resetting s (t + 1)) l []) (done (Enabled s) l (Reset ∷ [])))) ≡ false) [
      | true ↦ refl
      | false ↦ refl
    ])
    (λ s. refl) (λ s. refl)
    (λ s t.
    elim (ltb t 21) as (λ b. is_not_configured (next (Resuming s t) (cond b (done (Resuming s (t + 1)) l []) (done (Enabled s) l (Suspend ∷ [])))) ≡ false) [
      | true ↦ refl
      | false ↦ refl
    ])

chirp_speed : (l : Bool) (v : Speed) (t : ℕ) → is_not_configured (next (Resetting v t) (chirp l (Resetting v t))) ≡ false
chirp_speed l Low t = refl
chirp_speed l Full t = refl
chirp_speed l High t = refl

event_same : (e : LineEvent) → Same (event_rule e)
event_same AttachLow l = rows (attach Low) l (λ v t. refl)
event_same AttachFull l = rows (attach Full) l (λ v t. refl)
event_same Detach l = rows detach l (λ v t. refl)
event_same Chirp l =
    by_state (λ s. is_not_configured (next s (chirp l s)) ≡ is_not_configured s) refl refl refl (λ s. refl) (chirp_speed l) (λ s. refl) (λ s. refl) (λ s t. refl)
event_same Wake l = rows wake l (λ v t. refl)
event_same PortError l = rows port_error l (λ v t. refl)
event_same OverCurrentOn true = rows over_current_on true (λ v t. refl)
event_same OverCurrentOn false = rows over_current_on false (λ v t. refl)
event_same OverCurrentOff true = rows over_current_off true (λ v t. refl)
event_same OverCurrentOff false = rows over_current_off false (λ v t. refl)

set_same : (f : SettableFeature) → Same (set_rule f)
set_same settable.Suspend l = rows set_suspend l (λ v t. refl)
set_same settable.Reset l = rows set_reset l (λ v t. refl)
set_same settable.Power true = rows set_power true (λ v t. refl)
set_same settable.Power false = rows set_power false (λ v t. refl)

ruled_same : (rule : Bool → PortState → Reaction) → Same rule → (p : Port) → is_not_configured p.state ≡ false → is_not_configured (ruled rule p).port.state ≡ false
ruled_same rule k p h = rw (next_state p (rule p.overcurrent p.state)) (k p.overcurrent p.state ∙ h)

abbrev pub NotUnconfigure : Input → Type 0
NotUnconfigure (input.Event e) = Unit {0}
NotUnconfigure input.Tick = Unit {0}
NotUnconfigure (input.SetFeature f) = Unit {0}
NotUnconfigure (input.ClearFeature f) = Unit {0}
NotUnconfigure input.Configure = Unit {0}
NotUnconfigure input.Unconfigure = ⊥
NotUnconfigure input.BusReset = ⊥

pub stays_configured : (p : Port) (i : Input) → NotUnconfigure i → is_not_configured p.state ≡ false → is_not_configured (after p i).state ≡ false
stays_configured p (input.Event e) n h = ruled_same (event_rule e) (event_same e) p h
stays_configured p input.Tick n h = ruled_same ticking.tick tick_same p h
stays_configured p (input.SetFeature f) n h = ruled_same (set_rule f) (set_same f) p h
stays_configured p (input.ClearFeature clearable.Enable) n h = ruled_same clear_enable (λ l. rows clear_enable l (λ v t. refl)) p h
stays_configured p (input.ClearFeature clearable.Suspend) n h = ruled_same clear_suspend (λ l. rows clear_suspend l (λ v t. refl)) p h
stays_configured p (input.ClearFeature clearable.Power) n h = refl
stays_configured p (input.ClearFeature (clearable.Change b)) n h = h
stays_configured p input.Configure n h = refl
stays_configured p input.Unconfigure n h = absurd n
stays_configured p input.BusReset n h = absurd n

-- ---- seven ports, of which the first n are the hub's

pub record ValidPorts (n : ℕ) (on : Bool) (ps : List Port) : Type 0 where
  pub seven : length ps ≡ 7
  pub timers : (i : ℕ) → TimerBelowEnd (get_or ps i new_port).state
  pub spare : (i : ℕ) → n ≤ i → get_or ps i new_port ≡ new_port
  pub configuration : (i : ℕ) → i < n → is_not_configured (get_or ps i new_port).state ≡ not on

at_new : (i : ℕ) → get_or new_ports i new_port ≡ new_port
at_new zero = refl
at_new (suc zero) = refl
at_new (suc (suc zero)) = refl
at_new (suc (suc (suc zero))) = refl
at_new (suc (suc (suc (suc zero)))) = refl
at_new (suc (suc (suc (suc (suc zero))))) = refl
at_new (suc (suc (suc (suc (suc (suc zero)))))) = refl
at_new (suc (suc (suc (suc (suc (suc (suc i))))))) = refl

pub new_ports_lem : (n : ℕ) → ValidPorts n false new_ports
new_ports_lem n =
    record {
      seven = refl;
      timers = λ i. subst (λ (p : Port). TimerBelowEnd p.state) (sym (at_new i)) tt;
      spare = λ i _. at_new i;
      configuration = λ i _. ap (λ (p : Port). is_not_configured p.state) (at_new i);
    }

below_or_not : (P : Type 0) (i n : ℕ) → (i < n → P) → (n ≤ i → P) → P
below_or_not P i n x y = go (ltb i n) refl
  where
    go : (b : Bool) → ltb i n ≡ b → P
    go true e = x (ltb-true i n e)
    go false e = y (ltb-false i n e)

module _ (n : ℕ) (on : Bool) (ps : List Port) (v : ValidPorts n on ps) (most : n ≤ 7) where
  past_swept : (w : Sweep) (i : ℕ) → n ≤ i → get_or (swept w n ps) i new_port ≡ new_port
  unfolding swept
  past_swept w i h =
      let e : n + (i - n) ≡ i = omega arith in
      ap (λ (k : ℕ). get_or (swept w n ps) k new_port) (sym e)
      ∙ (sym (get_or-drop n (swept w n ps) (i - n) new_port)
      ∙ (ap (λ (l : List Port). get_or l (i - n) new_port) (drop_front (swept_by w) n ps)
      ∙ (get_or-drop n ps (i - n) new_port
      ∙ (ap (λ (k : ℕ). get_or ps k new_port) e ∙ v.spare i h))))

  at_swept : (w : Sweep) (i : ℕ) → i < n → get_or (swept w n ps) i new_port ≡ swept_by w (get_or ps i new_port)
  unfolding swept
  at_swept w i h = get_d_front (swept_by w) n i ps new_port h (omega (arith, h, most, v.seven))

  pub swept_valid : (w : Sweep) (now : Bool) → ((p : Port) → TimerBelowEnd p.state → TimerBelowEnd (swept_by w p).state)
      → ((p : Port) → is_not_configured p.state ≡ not on → is_not_configured (swept_by w p).state ≡ not now) → ValidPorts n now (swept w n ps)
  swept_valid w now t c =
      record {
        seven = ports_claims_lem.sweep_length w n ps ∙ v.seven;
        timers = λ i.
            below_or_not (TimerBelowEnd (get_or (swept w n ps) i new_port).state) i n
            (λ h. subst (λ (p : Port). TimerBelowEnd p.state) (sym (at_swept w i h)) (t (get_or ps i new_port) (v.timers i)))
            (λ h. subst (λ (p : Port). TimerBelowEnd p.state) (sym (past_swept w i h)) tt);
        spare = past_swept w;
        configuration = λ i h. ap (λ (p : Port). is_not_configured p.state) (at_swept w i h) ∙ c (get_or ps i new_port) (v.configuration i h);
      }

  module _ (m : PortNumber) (among : Among n m) where
    -- the port is the hub's, ..
    pub at_number : port_at ps m ≡ get_or ps (m.0 - 1) new_port
    at_number = at-port ps m among.0 (omega (arith, among.1, most))

    pub timer_at : TimerBelowEnd (port_at ps m).state
    timer_at = subst (λ (p : Port). TimerBelowEnd p.state) (sym at_number) (v.timers (m.0 - 1))

    pub configured_at : is_not_configured (port_at ps m).state ≡ not on
    configured_at = ap (λ (p : Port). is_not_configured p.state) at_number ∙ v.configuration (m.0 - 1) (omega (arith, among.0, among.1))

    -- .. and is set anew
    pub set_valid : (p : Port) → TimerBelowEnd p.state → is_not_configured p.state ≡ not on → ValidPorts n on (with_port ps m p)
    set_valid p t c =
        record {
          seven = ports_claims_lem.set_length ps m p ∙ v.seven;
          timers = λ i.
              go (λ x. TimerBelowEnd x.state) i t (v.timers i);
          spare = λ i h. at_other i (λ e. omega (arith, among.0, among.1, h, e)) ∙ v.spare i h;
          configuration = λ i h. go (λ x. is_not_configured x.state ≡ not on) i c (v.configuration i h);
        }
      where
        at_same : get_or (with_port ps m p) (m.0 - 1) new_port ≡ p
        at_same =
            ap (λ (l : List Port). get_or l (m.0 - 1) new_port) (set-port ps m p among.0 (omega (arith, among.1, most)))
            ∙ get_or-set_same ps (m.0 - 1) p new_port (omega (arith, among.0, among.1, most, v.seven))

        at_other : (i : ℕ) → ¬ (i ≡ m.0 - 1) → get_or (with_port ps m p) i new_port ≡ get_or ps i new_port
        at_other i d =
            ap (λ (l : List Port). get_or l i new_port) (set-port ps m p among.0 (omega (arith, among.1, most)))
            ∙ get_or-set_other ps (m.0 - 1) i p new_port d

        go : (P : Port → Type 0) (i : ℕ) → P p → P (get_or ps i new_port) → P (get_or (with_port ps m p) i new_port)
        go P i x y = test (eqb i (m.0 - 1)) refl
          where
            test : (b : Bool) → eqb i (m.0 - 1) ≡ b → P (get_or (with_port ps m p) i new_port)
            test true e = subst (λ (k : ℕ). P (get_or (with_port ps m p) k new_port)) (sym (eqb-true i (m.0 - 1) e)) (subst P (sym at_same) x)
            test false e = subst P (sym (at_other i (eqb-false i (m.0 - 1) e))) y
