-- Verdicts with one mistake each, and that the claim on refusals shuts each out. A reader must believe: each differs from the test of a block
-- where its comment says, and nowhere else.
use Rattle.std.specs.Prelude.{ℕ, cond, List, leb, Err}
use Rattle.recording.specs.declared.BlockFault.TheVariants.{BadLength, BadCheck, BadNumber, BadCount, BadRecord}
use Rattle.recording.specs.Written.{count_of}
use Rattle.recording.specs.Block.{Verdict, Good, length_fits, check_fits, number_fits, records_fit, body_of}
use Rattle.recording.specs.Refusals.{BlockRefusals}

-- the number is tested before the check
abbrev pub number_first : ℕ → List ℕ → Verdict
number_first p l = cond (length_fits l) (cond (number_fits p l) (cond (check_fits l) (body_of l) (Err BadCheck)) (Err BadNumber)) (Err BadLength)

-- unused bytes are not looked at
abbrev pub rest_unseen : ℕ → List ℕ → Verdict
rest_unseen p l =
    cond (length_fits l)
    (cond (check_fits l) (cond (number_fits p l) (cond (leb (count_of l) 506) (cond (records_fit l) Good (Err BadRecord)) (Err BadCount)) (Err BadNumber)) (Err BadCheck))
    (Err BadLength)

pub record BlockMistakesShutOut : Type 0 where
  pub number_first_lem : ¬ (BlockRefusals number_first)
  pub rest_unseen_lem : ¬ (BlockRefusals rest_unseen)
