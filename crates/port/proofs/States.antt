-- What holds of every state, by its eight cases, and what a reaction leaves.
-- Assumes nothing.
use Prim.Native.Nat.{ℕ}
use mathlib.Core.Path.{◌≡◌, refl, ap}
use mathlib.Core.List.{List, [], ◌∷◌}
use lib.ListN.{get_or}
use mathlib.Core.Bool.{Bool, true, false}
use Rattle.port.specs.declared.Speed.{Speed}
use Rattle.port.specs.declared.Speed.TheVariants.{Low}
use Rattle.port.specs.declared.PortState.{PortState}
use Rattle.port.specs.declared.PortState.TheVariants.{NotConfigured, PoweredOff, Disconnected, Disabled, Resetting, Enabled, Suspended, Resuming}
use Rattle.port.specs.declared.Port.{Port}
use Rattle.port.specs.Reaction.{Reaction, refused, done, reacted}

pub by_state : (P : PortState → Type 0) → P NotConfigured → P PoweredOff → P Disconnected → ((v : Speed) → P (Disabled v))
    → ((v : Speed) (t : ℕ) → P (Resetting v t)) → ((v : Speed) → P (Enabled v)) → ((v : Speed) → P (Suspended v))
    → ((v : Speed) (t : ℕ) → P (Resuming v t)) → (s : PortState) → P s
by_state P n o c d r e u w NotConfigured = n
by_state P n o c d r e u w PoweredOff = o
by_state P n o c d r e u w Disconnected = c
by_state P n o c d r e u w (Disabled v) = d v
by_state P n o c d r e u w (Resetting v t) = r v t
by_state P n o c d r e u w (Enabled v) = e v
by_state P n o c d r e u w (Suspended v) = u v
by_state P n o c d r e u w (Resuming v t) = w v t

-- a function of the state at each state, in the order of the tags
abbrev pub row : {X : Type 0} → (PortState → X) → Speed → ℕ → List X
row F v t = F NotConfigured ∷ F PoweredOff ∷ F Disconnected ∷ F (Disabled v) ∷ F (Resetting v t) ∷ F (Enabled v) ∷ F (Suspended v) ∷ F (Resuming v t) ∷ []

-- two functions of the state are the same where their rows are, which often computes
pub each : {X : Type 0} (F G : PortState → X) → ((v : Speed) (t : ℕ) → row F v t ≡ row G v t) → (s : PortState) → F s ≡ G s
each {X} F G a =
    let at : (k : ℕ) (v : Speed) (t : ℕ) → get_or (row F v t) k (F NotConfigured) ≡ get_or (row G v t) k (F NotConfigured)
    = λ k v t. ap (λ (l : List X). get_or l k (F NotConfigured)) (a v t) in
    by_state (λ s. F s ≡ G s) (at 0 Low 0) (at 1 Low 0) (at 2 Low 0) (λ v. at 3 v 0) (at 4) (λ v. at 5 v 0) (λ v. at 6 v 0) (at 7)

pub by_bool : (P : Bool → Type 0) → P true → P false → (b : Bool) → P b
by_bool P x y true = x
by_bool P x y false = y

-- the state that a reaction leaves
abbrev pub next : PortState → Reaction → PortState
next s refused = s
next s (done s' l bs) = s'

pub next_state : (p : Port) (r : Reaction) → (reacted p r).port.state ≡ next p.state r
next_state p refused = refl
next_state p (done s l bs) = refl
