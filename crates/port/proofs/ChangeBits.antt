-- Change bits stay until cleared by request, whatever the rule; and what a refused event leaves.
-- Assumes nothing.
use mathlib.Core.Path.{◌≡◌, refl}
use mathlib.Core.Bool.{Bool, true, false}
use mathlib.Core.List.{List, [], ◌∷◌}
use mathlib.Core.Logic.{◌⊎◌, inl, inr}
use native.Mathlib.Omega.{arith}
use Rattle.port.specs.declared.PortState.{PortState}
use Rattle.port.specs.declared.ChangeBit.{ChangeBit}
use Rattle.port.specs.declared.ChangeBit.TheVariants.{Connection, Enable, Suspend, OverCurrent, Reset}
use Rattle.port.specs.declared.Changes.{Changes}
use Rattle.port.specs.declared.Port.{Port}
use Rattle.port.specs.declared.ClearableFeature.TheVariants as clearable
use Rattle.port.specs.Reaction.{Reaction, refused, done, mark, marked, reacted, ruled, no_changes}
use Rattle.port.specs.Events.{event_rule}
use Rattle.port.specs.Tick as ticking
use Rattle.port.specs.Features.{set_rule, clear_enable, clear_suspend, cleared_bit}
use Rattle.port.specs.declared.Input.{Input}
use Rattle.port.specs.declared.Input.TheVariants as input
use Rattle.port.specs.Input.{after}
use Rattle.port.specs.Words.{change_bit}

pub by_bit : (P : ChangeBit → Type 0) → P Connection → P Enable → P Suspend → P OverCurrent → P Reset → (b : ChangeBit) → P b
by_bit P c e s o r Connection = c
by_bit P c e s o r Enable = e
by_bit P c e s o r Suspend = s
by_bit P c e s o r OverCurrent = o
by_bit P c e s o r Reset = r

abbrev Stays : Changes → Changes → ChangeBit → Type 0
Stays c d b = change_bit b c ≡ true → change_bit b d ≡ true

mark_stays : (x b : ChangeBit) (c : Changes) → Stays c (mark x c) b
mark_stays Connection b c = by_bit (Stays c (mark Connection c)) (λ h. refl) (λ h. h) (λ h. h) (λ h. h) (λ h. h) b
mark_stays Enable b c = by_bit (Stays c (mark Enable c)) (λ h. h) (λ h. refl) (λ h. h) (λ h. h) (λ h. h) b
mark_stays Suspend b c = by_bit (Stays c (mark Suspend c)) (λ h. h) (λ h. h) (λ h. refl) (λ h. h) (λ h. h) b
mark_stays OverCurrent b c = by_bit (Stays c (mark OverCurrent c)) (λ h. h) (λ h. h) (λ h. h) (λ h. refl) (λ h. h) b
mark_stays Reset b c = by_bit (Stays c (mark Reset c)) (λ h. h) (λ h. h) (λ h. h) (λ h. h) (λ h. refl) b

marked_stays : (bs : List ChangeBit) (b : ChangeBit) (c : Changes) → Stays c (marked bs c) b
marked_stays [] b c h = h
marked_stays (x ∷ bs) b c h = mark_stays x b (marked bs c) (marked_stays bs b c h)

reacted_stays : (p : Port) (r : Reaction) (b : ChangeBit) → Stays p.changes (reacted p r).port.changes b
reacted_stays p refused b h = h
reacted_stays p (done s l bs) b h = marked_stays bs b p.changes h

ruled_stays : (rule : Bool → PortState → Reaction) (p : Port) (b : ChangeBit) → Stays p.changes (ruled rule p).port.changes b
ruled_stays rule p = reacted_stays p (rule p.overcurrent p.state)

abbrev Kept : ChangeBit → Changes → ChangeBit → Type 0
Kept b c x = ¬ (x ≡ b) → change_bit x (cleared_bit b c) ≡ change_bit x c

pub others_kept : (b x : ChangeBit) (c : Changes) → Kept b c x
others_kept Connection x c = by_bit (Kept Connection c) (λ n. absurd (n refl)) (λ n. refl) (λ n. refl) (λ n. refl) (λ n. refl) x
others_kept Enable x c = by_bit (Kept Enable c) (λ n. refl) (λ n. absurd (n refl)) (λ n. refl) (λ n. refl) (λ n. refl) x
others_kept Suspend x c = by_bit (Kept Suspend c) (λ n. refl) (λ n. refl) (λ n. absurd (n refl)) (λ n. refl) (λ n. refl) x
others_kept OverCurrent x c = by_bit (Kept OverCurrent c) (λ n. refl) (λ n. refl) (λ n. refl) (λ n. absurd (n refl)) (λ n. refl) x
others_kept Reset x c = by_bit (Kept Reset c) (λ n. refl) (λ n. refl) (λ n. refl) (λ n. refl) (λ n. absurd (n refl)) x

pub cleared : (b : ChangeBit) (c : Changes) → change_bit b (cleared_bit b c) ≡ false
cleared b c = by_bit (λ b. change_bit b (cleared_bit b c) ≡ false) refl refl refl refl refl b

pub none_set : (b : ChangeBit) → change_bit b no_changes ≡ false
none_set b = by_bit (λ b. change_bit b no_changes ≡ false) refl refl refl refl refl b

pub change_stays : (b : ChangeBit) (p : Port) (i : Input) → ¬ (i ≡ input.ClearFeature (clearable.Change b)) → ¬ (i ≡ input.BusReset)
    → Stays p.changes (after p i).changes b
change_stays b p (input.Event e) n r h = ruled_stays (event_rule e) p b h
change_stays b p input.Tick n r h = ruled_stays ticking.tick p b h
change_stays b p (input.SetFeature f) n r h = ruled_stays (set_rule f) p b h
change_stays b p (input.ClearFeature clearable.Enable) n r h = ruled_stays clear_enable p b h
change_stays b p (input.ClearFeature clearable.Suspend) n r h = ruled_stays clear_suspend p b h
change_stays b p (input.ClearFeature clearable.Power) n r h = h
change_stays b p (input.ClearFeature (clearable.Change x)) n r h = rw (others_kept x b p.changes (λ e. n (cc))) h
change_stays b p input.Configure n r h = h
change_stays b p input.Unconfigure n r h = h
change_stays b p input.BusReset n r h = absurd (r refl)

pub answers : (p : Port) (r : Reaction) → ((reacted p r).number ≡ 0) ⊎ ((reacted p r).number ≡ 8)
answers p refused = inr refl
answers p (done s l bs) = inl refl

pub unchanged : (p : Port) (r : Reaction) → (reacted p r).number ≡ 8 → (reacted p r).port ≡ p
unchanged p refused e = refl
unchanged p (done s l bs) e = absurd (omega (arith, e))
