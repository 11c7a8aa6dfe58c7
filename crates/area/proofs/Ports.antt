-- A port's four bytes: reading them back, and what their test says. Assumes nothing.
use mathlib.Core.Path.{◌≡◌, refl, sym, ap, ◌∙◌}
use mathlib.Core.List.{List, [], ◌∷◌}
use mathlib.Core.Bool.{Bool, true, false, false≢true, not, ◌&&◌, and-eq-true_iff}
use Prim.Native.Nat.{ℕ, zero, suc, ◌*◌, ◌/◌, ◌%◌, ◌<◌}
use native.Mathlib.Omega.{arith}
use lib.ListN.{length, get_or}
use lib.Dec.{eqb, ltb}
use borrow.Author.Tests.{eqb-true, eqb-false, ltb-true, lt-ltb}
use Rattle.port.specs.declared.Speed.{Speed}
use Rattle.port.specs.declared.Speed.TheVariants.{Low, Full, High}
use Rattle.port.specs.declared.PortState.{PortState}
use Rattle.port.specs.declared.PortState.TheVariants.{NotConfigured, PoweredOff, Disconnected, Disabled, Resetting, Enabled, Suspended, Resuming}
use Rattle.port.specs.declared.Port.{Port}
use Rattle.bools.specs.Bit.{bit}
use Rattle.port.specs.Status.{byte_of}
use Rattle.port.specs.Numbers.{state_number, speed_number, state_speed, ticks_so_far}
use Rattle.port.specs.FromNumbers.{speed_of, state_of, end_of}
use Rattle.port.specs.Words.{is_not_configured, TimerBelowEnd, bits_of}
use Rattle.port.proofs.Bits.{bits_back}
use Rattle.translator.proofs.Lists.{four}
use Rattle.area.specs.Written.{marks_byte, port_bytes}
use Rattle.area_check.specs.Read.{is_odd, marked_port, port_of, speeds_of, agrees, state_fits, port_fits}

-- ---- bits

bit_odd : (n : ℕ) → bit (is_odd n) ≡ n % 2
bit_odd n = go (is_odd n) refl
  where
    go : (b : Bool) → is_odd n ≡ b → bit b ≡ n % 2
    go true e = sym (eqb-true (n % 2) 1 e)
    go false e = let f : n % 2 ≡ 1 → ⊥ = eqb-false (n % 2) 1 e in omega arith

abbrev twos : ℕ → ℕ
twos zero = 1
twos (suc k) = 2 * twos k

-- a number of k bits is made of its bits
pub bits_whole : (k n : ℕ) → n < twos k → byte_of (bits_of k n) ≡ n
bits_whole zero n h = omega arith
bits_whole (suc k) n h =
    let e : byte_of (bits_of k (n / 2)) ≡ n / 2 = bits_whole k (n / 2) (omega arith) in
    let o : bit (is_odd n) ≡ n % 2 = bit_odd n in
    omega arith

-- ---- one state

speed_again : (v : Speed) → speed_of (speed_number v) ≡ v
speed_again Low = refl
speed_again Full = refl
speed_again High = refl

speed_back : (n : ℕ) → n < 3 → speed_number (speed_of n) ≡ n
speed_back zero h = refl
speed_back (suc zero) h = refl
speed_back (suc (suc zero)) h = refl
speed_back (suc (suc (suc n))) h = absurd (omega arith)

speed_lt : (v : Speed) → ltb (speed_number v) 3 ≡ true
speed_lt Low = refl
speed_lt Full = refl
speed_lt High = refl

state_again : (s : PortState) → state_of (state_number s) (speed_of (state_speed s)) (ticks_so_far s) ≡ s
state_again NotConfigured = refl
state_again PoweredOff = refl
state_again Disconnected = refl
state_again (Disabled v) = ap Disabled (speed_again v)
state_again (Resetting v t) = ap (λ (x : Speed). Resetting x t) (speed_again v)
state_again (Enabled v) = ap Enabled (speed_again v)
state_again (Suspended v) = ap Suspended (speed_again v)
state_again (Resuming v t) = ap (λ (x : Speed). Resuming x t) (speed_again v)

-- what a right state says
record StateRead (g : Bool) (n v t : ℕ) : Type 0 where
  state : state_number (state_of n (speed_of v) t) ≡ n
  speed : state_speed (state_of n (speed_of v) t) ≡ v
  ticks : ticks_so_far (state_of n (speed_of v) t) ≡ t
  timer : TimerBelowEnd (state_of n (speed_of v) t)
  agree : is_not_configured (state_of n (speed_of v) t) ≡ not g

below_eight : (n v : ℕ) → v < speeds_of n → n < 8
below_eight n v h = go (ltb n 3) refl (ltb n 8) refl
  where
    go : (a : Bool) → ltb n 3 ≡ a → (b : Bool) → ltb n 8 ≡ b → n < 8
    go true e b f = let x : n < 3 = ltb-true n 3 e in omega arith
    go false e true f = ltb-true n 8 f
    go false e false f = let z : speeds_of n ≡ 0 = rw (e, f) in absurd (omega arith)

eight : (P : ℕ → Type 0) → P 0 → P 1 → P 2 → P 3 → P 4 → P 5 → P 6 → P 7 → (n : ℕ) → n < 8 → P n
eight P a b c d e f g h zero l = a
eight P a b c d e f g h (suc zero) l = b
eight P a b c d e f g h (suc (suc zero)) l = c
eight P a b c d e f g h (suc (suc (suc zero))) l = d
eight P a b c d e f g h (suc (suc (suc (suc zero)))) l = e
eight P a b c d e f g h (suc (suc (suc (suc (suc zero))))) l = f
eight P a b c d e f g h (suc (suc (suc (suc (suc (suc zero)))))) l = g
eight P a b c d e f g h (suc (suc (suc (suc (suc (suc (suc zero))))))) l = h
eight P a b c d e f g h (suc (suc (suc (suc (suc (suc (suc (suc n)))))))) l = absurd (omega (arith, l))

-- the three tests of a state
record Tested (g b : Bool) (v t k m : ℕ) : Type 0 where
  speed : v < k
  ticks : t < m
  agree : agrees b g ≡ true

tested : (g b : Bool) (v t k m : ℕ) → (ltb v k && ltb t m) && agrees b g ≡ true → Tested g b v t k m
tested g b v t k m e =
    let x = (and-eq-true_iff (ltb v k && ltb t m) (agrees b g)).0 e in
    let y = (and-eq-true_iff (ltb v k) (ltb t m)).0 x.0 in
    record { speed = ltb-true v k y.0; ticks = ltb-true t m y.1; agree = x.1 }

state_to : (g : Bool) (n v t : ℕ) → state_fits g n v t ≡ true → StateRead g n v t
state_to g n v t e =
    let u = tested g (eqb n 0) v t (speeds_of n) (end_of n) e in
    eight (λ (m : ℕ). state_fits g m v t ≡ true → StateRead g m v t)
    (λ q. let x = tested g true v t 1 1 q in record { state = refl; speed = zero_is v x.speed; ticks = zero_is t x.ticks; timer = tt; agree = sym x.agree })
    (λ q. plain (tested g false v t 1 1 q))
    (λ q. plain' (tested g false v t 1 1 q))
    (λ q. let x = tested g false v t 3 1 q in record { state = refl; speed = speed_back v x.speed; ticks = zero_is t x.ticks; timer = tt; agree = on x.agree })
    (λ q. let x = tested g false v t 3 15 q in record { state = refl; speed = speed_back v x.speed; ticks = refl; timer = x.ticks; agree = on x.agree })
    (λ q. let x = tested g false v t 3 1 q in record { state = refl; speed = speed_back v x.speed; ticks = zero_is t x.ticks; timer = tt; agree = on x.agree })
    (λ q. let x = tested g false v t 3 1 q in record { state = refl; speed = speed_back v x.speed; ticks = zero_is t x.ticks; timer = tt; agree = on x.agree })
    (λ q. let x = tested g false v t 3 22 q in record { state = refl; speed = speed_back v x.speed; ticks = refl; timer = x.ticks; agree = on x.agree })
    n (below_eight n v u.speed) e
  where
    zero_is : (m : ℕ) → m < 1 → 0 ≡ m
    zero_is m h = omega arith

    on : g ≡ true → false ≡ not g
    on q = ap not (sym q)

    plain : Tested g false v t 1 1 → StateRead g 1 v t
    plain x = record { state = refl; speed = zero_is v x.speed; ticks = zero_is t x.ticks; timer = tt; agree = on x.agree }

    plain' : Tested g false v t 1 1 → StateRead g 2 v t
    plain' x = record { state = refl; speed = zero_is v x.speed; ticks = zero_is t x.ticks; timer = tt; agree = on x.agree }

configured_of : (g : Bool) → false ≡ not g → g ≡ true
configured_of true e = refl
configured_of false e = absurd (false≢true e)

state_of_lem : (g : Bool) (s : PortState) → TimerBelowEnd s → is_not_configured s ≡ not g → state_fits g (state_number s) (state_speed s) (ticks_so_far s) ≡ true
state_of_lem g NotConfigured h e = sym e
state_of_lem g PoweredOff h e = configured_of g e
state_of_lem g Disconnected h e = configured_of g e
state_of_lem g (Disabled v) h e = rw (speed_lt v) (configured_of g e)
state_of_lem g (Resetting v t) h e = rw (speed_lt v, lt-ltb t 15 h) (configured_of g e)
state_of_lem g (Enabled v) h e = rw (speed_lt v) (configured_of g e)
state_of_lem g (Suspended v) h e = rw (speed_lt v) (configured_of g e)
state_of_lem g (Resuming v t) h e = rw (speed_lt v, lt-ltb t 22 h) (configured_of g e)

-- ---- one port

-- a port as a hub with this configuration may have it
pub record PortValid (g : Bool) (p : Port) : Type 0 where
  pub timer : TimerBelowEnd p.state
  pub agree : is_not_configured p.state ≡ not g

abbrev with_bits : PortState → List Bool → Port
with_bits s l =
    record {
      state = s;
      overcurrent = get_or l 5 false;
      changes =
          record { connection = get_or l 0 false; enable = get_or l 1 false; suspend = get_or l 2 false; overcurrent = get_or l 3 false; reset = get_or l 4 false };
    }

abbrev marks_of : Port → List Bool
marks_of p = p.changes.connection ∷ p.changes.enable ∷ p.changes.suspend ∷ p.changes.overcurrent ∷ p.changes.reset ∷ p.overcurrent ∷ []

marks_again : (s : PortState) (p : Port) → marked_port s (marks_byte p) ≡ with_bits s (marks_of p)
unfolding marked_port
marks_again s p = ap (with_bits s) (bits_back (marks_of p))

pub port_again : (p : Port) → port_of (port_bytes p) ≡ p
unfolding port_of port_bytes
port_again p = marks_again (state_of (state_number p.state) (speed_of (state_speed p.state)) (ticks_so_far p.state)) p ∙ ap (λ (s : PortState). with_bits s (marks_of p)) (state_again p.state)

pub port_size : (p : Port) → length (port_bytes p) ≡ 4
unfolding port_bytes
port_size p = refl

four_is : (a a' b b' c c' d d' : ℕ) → a ≡ a' → b ≡ b' → c ≡ c' → d ≡ d' → ◌≡◌ {A = List ℕ} (a ∷ b ∷ c ∷ d ∷ []) (a' ∷ b' ∷ c' ∷ d' ∷ [])
four_is a a' b b' c c' d d' e f g h = cc

pub port_to : (g : Bool) (l : List ℕ) → length l ≡ 4 → port_fits g l ≡ true → (port_bytes (port_of l) ≡ l) × PortValid g (port_of l)
unfolding port_fits port_of port_bytes marked_port
port_to g l n e =
    let x = (and-eq-true_iff (state_fits g (get_or l 0 0) (get_or l 1 0) (get_or l 2 0)) (ltb (get_or l 3 0) 64)).0 e in
    let s = state_to g (get_or l 0 0) (get_or l 1 0) (get_or l 2 0) x.0 in
    let m : byte_of (bits_of 6 (get_or l 3 0)) ≡ get_or l 3 0 = bits_whole 6 (get_or l 3 0) (ltb-true (get_or l 3 0) 64 x.1) in (
      four_is _ (get_or l 0 0) _ (get_or l 1 0) _ (get_or l 2 0) _ (get_or l 3 0) s.state s.speed s.ticks m ∙ sym (four 0 l n),
      record { timer = s.timer; agree = s.agree },
    )

pub port_of_lem : (g : Bool) (p : Port) → PortValid g p → port_fits g (port_bytes p) ≡ true
unfolding port_fits port_bytes
port_of_lem g p v = rw (state_of_lem g p.state v.timer v.agree) (marks_lt (marks_of p))
  where
    below : (l : List Bool) → byte_of l < twos (length l)
    below [] = omega arith
    below (true ∷ l) = let h = below l in omega arith
    below (false ∷ l) = let h = below l in omega arith

    marks_lt : (l : List Bool) → ltb (byte_of l) (twos (length l)) ≡ true
    marks_lt l = lt-ltb (byte_of l) (twos (length l)) (below l)
