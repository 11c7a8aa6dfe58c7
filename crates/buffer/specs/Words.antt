-- One buffer and a key, in document 01's words, for claims: by its state and the equality of keys, not by the tests that the rules use.
-- A reader must believe: each line says its comment.
use Rattle.std.specs.Prelude.{◌≡◌}
use Rattle.buffer.specs.declared.Key.{Key}
use Rattle.buffer.specs.declared.Slot.{Slot}
use Rattle.buffer.specs.declared.Slot.TheVariants.{Empty, Pending, Ready, Old}
use Rattle.buffer.specs.Key.{key_of}

-- pending or ready, with the key k
abbrev pub Holding : Key → Slot → Type 0
Holding k Empty = ⊥
Holding k (Pending s p) = key_of s ≡ k
Holding k (Ready s r) = key_of s ≡ k
Holding k (Old s r) = ⊥

-- old, with the key k
abbrev pub OldWith : Key → Slot → Type 0
OldWith k Empty = ⊥
OldWith k (Pending s p) = ⊥
OldWith k (Ready s r) = ⊥
OldWith k (Old s r) = key_of s ≡ k

-- pending or ready under another key
abbrev pub Elsewhere : Key → Slot → Type 0
Elsewhere k Empty = ⊥
Elsewhere k (Pending s p) = ¬ (key_of s ≡ k)
Elsewhere k (Ready s r) = ¬ (key_of s ≡ k)
Elsewhere k (Old s r) = ⊥

-- all but empty hold a key
abbrev pub With : Key → Slot → Type 0
With k Empty = ⊥
With k (Pending s p) = key_of s ≡ k
With k (Ready s r) = key_of s ≡ k
With k (Old s r) = key_of s ≡ k

-- empty or old
abbrev pub Vacated : Slot → Type 0
Vacated Empty = Unit {0}
Vacated (Pending s p) = ⊥
Vacated (Ready s r) = ⊥
Vacated (Old s r) = Unit {0}
