-- Reading a block is exact. A reader must believe: the written form of a block (Written.antt), and these statements.
use Rattle.std.specs.Prelude.{ℕ, ◌≡◌, ◌↔◌, List, Some}
use Rattle.hub.specs.Call.{Call}
use Rattle.call_bytes.specs.Written.{Bytes}
use Rattle.recording.specs.Calls.{calls_of}
use Rattle.recording.specs.Block.{Good, verdict_of, calls_at}
use Rattle.recording.specs.Written.{written_all, AllFit, IsBlock}

-- bytes are read as these calls exactly if they are their written forms
abbrev pub CallsExact : Type 0
CallsExact = (l : List ℕ) (cs : List Call) → Bytes l → (calls_of l ≡ Some cs) ↔ (AllFit cs × (l ≡ written_all cs))

pub record BlockExact : Type 0 where
  -- a block is good at its place, with these calls, exactly if it is their written form
  pub exact : (p : ℕ) (l : List ℕ) (cs : List Call) → Bytes l → ((verdict_of p l ≡ Good) × (calls_at l ≡ cs)) ↔ IsBlock p cs l
  -- and refused exactly if it is that of no calls
  pub refused : (p : ℕ) (l : List ℕ) → Bytes l → (¬ (verdict_of p l ≡ Good)) ↔ ((cs : List Call) → ¬ (IsBlock p cs l))
