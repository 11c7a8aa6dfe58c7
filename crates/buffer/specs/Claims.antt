-- The test of keys is their equality. A reader must believe: this statement.
use Rattle.std.specs.Prelude.{◌≡◌, ◌↔◌, true}
use Rattle.buffer.specs.declared.Key.{Key}
use Rattle.buffer.specs.Same.{same_key}

-- it holds exactly if the keys are equal
abbrev pub KeyTest : Type 0
KeyTest = (a b : Key) → (same_key a b ≡ true) ↔ (a ≡ b)
