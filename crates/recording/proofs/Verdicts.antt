-- The paths through the code that checks a block, over plain values. Assumes nothing.
use Prim.Native.Nat.{ℕ, ◌%◌}
use mathlib.Core.Path.{◌≡◌, sym, ◌∙◌, ap}
use mathlib.Core.List.{List}
use mathlib.Core.Bool.{Bool, true, false}
use borrow.Author.Tests.{eq-eqb, ne_eqb}
use lib.ListN.{length}
use Rattle.std.proofs.Common.{Option, Err}
use Rattle.std.specs.Array.{IsWholeChunk}
use Rattle.recording.specs.declared.BlockFault.TheVariants.{BadLength, BadCheck, BadNumber}
use Rattle.recording.specs.Written.{sum_to}
use Rattle.recording.specs.Block.{Verdict, number_right, body_of, verdict_for}

pub wrong_length : (l : List ℕ) (place : Option ℕ) → ¬ (length l ≡ 512) → Err BadLength ≡ verdict_for place l
unfolding verdict_for
wrong_length l place n = rw (ne_eqb (length l) 512 n)

-- the 512 bytes b of l, and their sum
module _ {l b : List ℕ} (whole : IsWholeChunk l b 512) (place : Option ℕ) {sum : ℕ} (is : sum ≡ sum_to b 256) where
  sum_of : sum_to l 256 ≡ sum
  sum_of = ap (λ (m : List ℕ). sum_to m 256) (sym whole.same) ∙ sym is

  pub wrong_check : ¬ (sum % 65536 ≡ 0) → Err BadCheck ≡ verdict_for place l
  unfolding verdict_for
  wrong_check n = rw (eq-eqb (length l) 512 whole.long, sum_of, ne_eqb (sum % 65536) 0 n)

  module _ (right : sum % 65536 ≡ 0) {fits : Bool} (says : fits ≡ number_right place b) where
    number_of : number_right place l ≡ fits
    number_of = ap (number_right place) (sym whole.same) ∙ sym says

    pub wrong_number : fits ≡ false → Err BadNumber ≡ verdict_for place l
    unfolding verdict_for
    wrong_number n = rw (eq-eqb (length l) 512 whole.long, sum_of, eq-eqb (sum % 65536) 0 right, number_of, n)

    pub the_body : fits ≡ true → {v : Verdict} → v ≡ body_of b → v ≡ verdict_for place l
    unfolding verdict_for
    the_body n e =
        rw (eq-eqb (length l) 512 whole.long, sum_of, eq-eqb (sum % 65536) 0 right, number_of, n) (e ∙ ap body_of whole.same)
