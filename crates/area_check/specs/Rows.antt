-- Internal, pinned by `AreaExact` (crate `area`): rows, which are elements that each take the same number of bytes, as reading takes them apart.
use Rattle.std.specs.Prelude.{ℕ, zero, suc, List, [], ◌∷◌, Bool, true, ◌&&◌, take, drop, eqb}

-- n elements, each read from the next k bytes
unfoldable pub parts : {A : Type 0} → (List ℕ → A) → ℕ → ℕ → List ℕ → List A
parts dec k zero l = []
parts dec k (suc n) l = dec (take k l) ∷ parts dec k n (drop k l)

-- each of n parts of k bytes passes a test
unfoldable pub every : (List ℕ → Bool) → ℕ → ℕ → List ℕ → Bool
every f k zero l = true
every f k (suc n) l = f (take k l) && every f k n (drop k l)

-- zeros alone
unfoldable pub blank : List ℕ → Bool
blank [] = true
blank (x ∷ xs) = eqb x 0 && blank xs
