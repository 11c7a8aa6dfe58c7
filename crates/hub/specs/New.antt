-- Which numbers make no hub, in document 01's words. A reader must believe: these sentences.
use Rattle.std.specs.Prelude.{ℕ, ◌<◌, ◌≡◌, ◌⊎◌, true, false, get_or}
use Rattle.port.specs.Words.{bits_of}

-- N ports, 1 to 7; B translator buffers, 2 to 4
abbrev pub CountsOutside : ℕ → ℕ → Type 0
CountsOutside n b = (n < 1) ⊎ (7 < n) ⊎ (b < 2) ⊎ (4 < b)

-- a removable byte whose bit 0 and bits above N are zero
abbrev pub RemovableOutside : ℕ → ℕ → Type 0
RemovableOutside n r = (255 < r) ⊎ ((i : ℕ) × ((i ≡ 0) ⊎ (n < i)) × (get_or (bits_of 8 r) i false ≡ true))

-- A new hub is made from N, B, power-good time, hub current (both 0 to 255) and a removable byte ..: one of these numbers is bad
abbrev pub NewOutside : ℕ → ℕ → ℕ → ℕ → ℕ → Type 0
NewOutside n b g c r = CountsOutside n b ⊎ (255 < g) ⊎ (255 < c) ⊎ RemovableOutside n r
