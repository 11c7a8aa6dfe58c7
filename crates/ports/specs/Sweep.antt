-- What is done to every port of the hub at once: a tick, and SetConfiguration.
-- Believe: "every port" is the first N of the seven, and the others are left alone.
use Rattle.std.specs.Prelude.{ℕ, zero, suc, List, [], ◌∷◌}
use Rattle.port.specs.declared.Port.{Port}
use Rattle.port.specs.Tick.{ticked}
use Rattle.port.specs.Configuration.{configured, unconfigured}
use Rattle.ports.specs.declared.Sweep.{Sweep}
use Rattle.ports.specs.declared.Sweep.TheVariants.{Tick, Configure, Unconfigure}

-- tick (1 ms, all ports). SetConfiguration 0 puts every port in Not Configured, 1 in Powered-off
abbrev pub swept_by : Sweep → Port → Port
swept_by Tick p = ticked p
swept_by Configure p = configured p
swept_by Unconfigure p = unconfigured p

-- f done on the first n elements
unfoldable pub front : {A : Type 0} → (A → A) → ℕ → List A → List A
front f zero l = l
front f (suc n) [] = []
front f (suc n) (x ∷ xs) = f x ∷ front f n xs

-- the ports after it, of which the first n are the hub's
unfoldable pub swept : Sweep → ℕ → List Port → List Port
swept w n ps = front (swept_by w) n ps
