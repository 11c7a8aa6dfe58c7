-- New hubs and the length of an area, in document 01's words, for any numbers and any memory. A reader must believe: these sentences.
use Rattle.std.specs.Prelude.{ℕ, ◌≡◌, ◌↔◌, ◌⊎◌, List, [], length}
use Rattle.hub.specs.declared.Hub.{Hub}
use Rattle.hub.specs.Hub.{hub_of}
use Rattle.hub.specs.New.{CountsOutside, NewOutside}
use Rattle.hub.specs.Valid.{ValidHub}
use Rattle.area.specs.Written.{written}
use Rattle.grimholdi.specs.Outcome.{plain_struct, EntryOutcome, refused}

-- an area has the length of the new hub's written form
abbrev pub Long : List ℕ → ℕ → ℕ → ℕ → ℕ → ℕ → Type 0
Long a n b g c r = length a ≡ length (written (hub_of n b g c r))

-- of an entry that makes hubs
pub record NewHubs (f : List ℕ → ℕ → ℕ → ℕ → ℕ → ℕ → EntryOutcome) : Type 0 where
  -- Bad numbers or an area of the wrong length give no hub and answer 6,
  pub exactly : (a : List ℕ) (n b g c r : ℕ) → ((f a n b g c r).answer.number ≡ 6) ↔ (NewOutside n b g c r ⊎ ¬ (Long a n b g c r))
  -- and nothing changes
  pub unchanged : (a : List ℕ) (n b g c r : ℕ) → (f a n b g c r).answer.number ≡ 6 → f a n b g c r ≡ refused a []
  -- else answer 0, and the area is the new hub's written form, whatever the memory held
  pub made : (a : List ℕ) (n b g c r : ℕ) → ¬ (NewOutside n b g c r) → Long a n b g c r
      → f a n b g c r ≡ record { answer = plain_struct 0; area = written (hub_of n b g c r); reply = [] }

-- of an entry that tells the length of an area
pub record AreaLengths (f : ℕ → ℕ → ℕ) : Type 0 where
  -- 0 exactly if a number is outside the rules
  pub none : (n b : ℕ) → (f n b ≡ 0) ↔ CountsOutside n b
  -- else the length of every area with so many ports and buffers that is taken
  pub whole : (h : Hub) → ValidHub h → f h.identity.ports h.translator.count ≡ length (written h)
