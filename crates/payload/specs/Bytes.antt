-- Lists of bytes. A reader must believe: these two are what their comments say.
use Rattle.std.specs.Prelude.{ℕ, List, [], ◌∷◌, ◌++◌, Bool, true, false, ◌&&◌, eqb}

-- the elements' bytes, one after the other
unfoldable pub flat : {A : Type 0} → (A → List ℕ) → List A → List ℕ
flat enc [] = []
flat enc (x ∷ xs) = enc x ++ flat enc xs

-- the same bytes, as a test: for tables of cases that are computed
abbrev pub same_bytes : List ℕ → List ℕ → Bool
same_bytes [] [] = true
same_bytes [] (n ∷ ns) = false
same_bytes (m ∷ ms) [] = false
same_bytes (m ∷ ms) (n ∷ ns) = eqb m n && same_bytes ms ns
