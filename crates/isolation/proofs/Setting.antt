-- The ports with port p put back to a new one: what is left of two hubs that agree in all but port p. Assumes nothing.
use Prim.Native.Nat.{ℕ, ◌-◌}
use mathlib.Core.Path.{◌≡◌, refl, sym, ◌∙◌, ap}
use mathlib.Core.Bool.{Bool, true, cond}
use mathlib.Core.List.{List}
use native.Mathlib.Omega.{arith}
use lib.ListN.{set}
use lib.Seq.{set-set, set_comm}
use Rattle.port.specs.declared.Port.{Port}
use Rattle.port.specs.declared.PortNumber.{PortNumber}
use Rattle.port.specs.Reaction.{new_port}
use Rattle.ports.specs.declared.Sweep.{Sweep}
use Rattle.ports.specs.Ports.{one_to_seven, port_at, with_port}
use Rattle.ports.specs.Sweep.{front, swept_by, swept}
use Rattle.ports.proofs.Front.{front_set}
use Rattle.ports.proofs.Laws.{by_range, ports_claims_lem}
use Rattle.hub.specs.declared.Hub.{Hub}
use Rattle.hub.specs.Hub.{with_ports}

module _ (p : PortNumber) where
  abbrev pub without : List Port → List Port
  without ps = with_port ps p new_port

  -- the hub with port p put back
  abbrev pub erased : Hub → Hub
  erased h = with_ports h (without h.ports)

  at_other : (ps : List Port) (m : PortNumber) → ¬ (m.0 ≡ p.0) → port_at (without ps) m ≡ port_at ps m
  at_other ps m d = ports_claims_lem.others_kept ps p m new_port d

  swept_without : (w : Sweep) (n : ℕ) (ps : List Port) → without (swept w n (without ps)) ≡ without (swept w n ps)
  unfolding with_port swept
  swept_without w n ps =
      by_range
      (λ b. cond b (set (all (cond b (put ps) ps)) i new_port) (all (cond b (put ps) ps)) ≡ cond b (set (all ps) i new_port) (all ps))
      p.0 (λ k l. front_set (swept_by w) n i ps new_port new_port) refl
    where
      i : ℕ
      i = p.0 - 1

      put : List Port → List Port
      put qs = set qs i new_port

      all : List Port → List Port
      all = front (swept_by w) n

  -- port p set anew
  pub set_named : (ps : List Port) (x : Port) → without (with_port ps p x) ≡ without ps
  unfolding with_port
  set_named ps x =
      by_range (λ b. cond b (set (cond b (set ps i x) ps) i new_port) (cond b (set ps i x) ps) ≡ cond b (set ps i new_port) ps)
      p.0 (λ k l. set-set ps i x new_port) refl
    where
      i : ℕ
      i = p.0 - 1

  set_without : (ps : List Port) (m : PortNumber) (x : Port) → ¬ (m.0 ≡ p.0) → without (with_port ps m x) ≡ with_port (without ps) m x
  unfolding with_port
  set_without ps m x d =
      by_range (λ b. Same b (one_to_seven m.0)) p.0
      (λ k l. by_range (Same true) m.0 (λ u v. set_comm ps j i x new_port (λ e. d (omega (arith, e, k, u)))) refl) refl
    where
      i : ℕ
      i = p.0 - 1

      j : ℕ
      j = m.0 - 1

      Same : Bool → Bool → Type 0
      Same b c =
          cond b (set (cond c (set ps j x) ps) i new_port) (cond c (set ps j x) ps)
          ≡ cond c (set (cond b (set ps i new_port) ps) j x) (cond b (set ps i new_port) ps)

  -- ---- two lists of ports that are the same but for port p

  module _ (qs ps : List Port) (e : without qs ≡ without ps) where
    pub others_same : (m : PortNumber) → ¬ (m.0 ≡ p.0) → port_at qs m ≡ port_at ps m
    others_same m d = sym (at_other qs m d) ∙ (ap (λ (l : List Port). port_at l m) e ∙ at_other ps m d)

    pub swept_same : (w : Sweep) (n : ℕ) → without (swept w n qs) ≡ without (swept w n ps)
    swept_same w n = sym (swept_without w n qs) ∙ (ap (λ (l : List Port). without (swept w n l)) e ∙ swept_without w n ps)

    -- a port set anew from what it was
    pub set_same : (m : PortNumber) (f : Port → Port) → ¬ (m.0 ≡ p.0)
        → without (with_port qs m (f (port_at qs m))) ≡ without (with_port ps m (f (port_at ps m)))
    set_same m f d =
        ap (λ (x : Port). without (with_port qs m (f x))) (others_same m d)
        ∙ (set_without qs m (f (port_at ps m)) d
        ∙ (ap (λ (l : List Port). with_port l m (f (port_at ps m))) e
        ∙ sym (set_without ps m (f (port_at ps m)) d)))
