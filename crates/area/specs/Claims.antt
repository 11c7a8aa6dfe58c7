-- Acceptance is exact. A reader must believe: `written` is the layout, `ValidHub` is document 01's list, and `read_area` and `write_area`
-- are `read_of` and `written_over`, as their contracts say.
use Rattle.std.specs.Prelude.{ℕ, ◌≡◌, List, Some, None, ◌↔◌, length}
use Rattle.hub.specs.declared.Hub.{Hub}
use Rattle.hub.specs.Valid.{ValidHub}
use Rattle.area.specs.Written.{written, area_length, written_over}
use Rattle.area.specs.Read.{read_of}

pub record AreaExact : Type 0 where
  -- an area is taken, and gives a hub, exactly if the hub is valid and the area is its written form
  pub taken : (a : List ℕ) (h : Hub) → (read_of a ≡ Some h) ↔ (ValidHub h × (a ≡ written h))
  -- an area is refused exactly if it is the written form of no valid hub
  pub refused : (a : List ℕ) → (read_of a ≡ None) ↔ ((h : Hub) → ValidHub h → ¬ (a ≡ written h))
  -- what was written is read back
  pub again : (h : Hub) → ValidHub h → read_of (written h) ≡ Some h
  -- each state has one written form of its own
  pub one_form : (h g : Hub) → ValidHub h → ValidHub g → written h ≡ written g → h ≡ g
  pub written_length : (h : Hub) → ValidHub h → length (written h) ≡ area_length h.identity.ports h.translator.count
  -- writing over an area of that length gives the written form, and over any other changes nothing
  pub writes : (h : Hub) (a : List ℕ) → ValidHub h → length a ≡ area_length h.identity.ports h.translator.count → written_over h a ≡ written h
  pub keeps : (h : Hub) (a : List ℕ) → ValidHub h → ¬ (length a ≡ area_length h.identity.ports h.translator.count) → written_over h a ≡ a
