-- A call from a lane outside 0 and 1 is refused with 6. Assumes nothing.
use Prim.Native.Nat.{ℕ, ◌≤◌}
use native.Mathlib.Omega.{arith}
use mathlib.Core.Path.{◌≡◌}
use Rattle.std.specs.Prelude.{Option, None, Some}
use mathlib.Core.Bool.{false, and-false}
use borrow.Author.Tests.{ne_eqb}
use lib.Dec.{eqb}
use lib.ListN.{length}
use Rattle.numbers.specs.Named.{is_lane}
use Rattle.numbers.specs.Split.{split_named, key_named}
use Rattle.hub.specs.declared.Hub.{Hub}
use Rattle.hub.specs.Claims.{lane_of}
use Rattle.hub.specs.Call.{Call, Control, Poll, Start, Complete, Launch, Deliver, Event, Tick, BusReset, refuse}
use Rattle.hub.specs.Checks.{within}
use Rattle.hub.specs.Step.{step}

no_lane : (z y : ℕ) → ◌≡◌ {A = Option ℕ} (Some y) (Some z) → 2 ≤ z → is_lane y ≡ false
no_lane z y e l = let same : y ≡ z = cc in rw (ne_eqb y 0 (λ q. omega (arith, q, l, same)), ne_eqb y 1 (λ q. omega (arith, q, l, same)))

carries_none : (z : ℕ) → ¬ (◌≡◌ {A = Option ℕ} None (Some z))
carries_none z e = let x : ◌≡◌ {A = ℕ} 0 1 = cc in omega (arith, x)

outside : (h : Hub) (c : Call) → within h c ≡ false → step h c ≡ refuse 6 h
unfolding step
outside h c e = rw e

pub no_such_lane_lem : (h : Hub) (c : Call) (z : ℕ) → lane_of c ≡ Some z → 2 ≤ z → step h c ≡ refuse 6 h
unfolding within split_named key_named
no_such_lane_lem h (Control y s room) z q l = outside h (Control y s room) (rw (no_lane z y q l) (and-false (eqb (length s) 8)))
no_such_lane_lem h (Poll y room) z q l = outside h (Poll y room) (no_lane z y q l)
no_such_lane_lem h (Start y p t f g a e x) z q l = outside h (Start y p t f g a e x) (rw (no_lane z y q l))
no_such_lane_lem h (Complete y a e d room) z q l = outside h (Complete y a e d room) (rw (no_lane z y q l))
no_such_lane_lem h (Launch room) z q l = absurd (carries_none z q)
no_such_lane_lem h (Deliver r x) z q l = absurd (carries_none z q)
no_such_lane_lem h (Event e n) z q l = absurd (carries_none z q)
no_such_lane_lem h Tick z q l = absurd (carries_none z q)
no_such_lane_lem h BusReset z q l = absurd (carries_none z q)
