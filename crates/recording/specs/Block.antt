-- Internal, pinned by `BlockRefusals` (Refusals.antt) and `BlockExact` (Claims.antt): the test of a block, in the order length, check, number,
-- count, record.
use Rattle.std.specs.Prelude.{ℕ, ◌+◌, ◌%◌, List, Bool, true, cond, not, ◌&&◌, eqb, leb, length, take, drop, is_some, Option, Some, None, Result, Ok, Err, is_ok}
use Rattle.hub.specs.Call.{Call}
use Rattle.area_check.specs.Rows.{blank}
use Rattle.call_bytes.specs.Words.{half_at}
use Rattle.recording.specs.declared.BlockFault.{BlockFault}
use Rattle.recording.specs.declared.BlockFault.TheVariants.{BadLength, BadCheck, BadNumber, BadCount, BadRecord}
use Rattle.recording.specs.Calls.{calls_of, listed}
use Rattle.recording.specs.Written.{sum_to, count_of, used_of}

-- good, or the first thing that is wrong
abbrev pub Verdict : Type 0
Verdict = Result (Unit {0}) BlockFault

abbrev pub Good : Verdict
Good = Ok tt

abbrev pub is_good : Verdict → Bool
is_good v = is_ok v

-- a block has 512 bytes
abbrev pub length_fits : List ℕ → Bool
length_fits l = eqb (length l) 512

-- the sum of all 256 words is zero modulo 65,536
abbrev pub check_fits : List ℕ → Bool
check_fits l = eqb (sum_to l 256 % 65536) 0

-- the block number is its place in the recording, counted from 1; no number is right for a place above 65,535, since no two bytes hold it
abbrev pub number_fits : ℕ → List ℕ → Bool
number_fits p l = not (eqb p 0) && eqb (half_at l 0) p

-- at most 506 bytes are used; unused bytes are zero
abbrev pub count_fits : List ℕ → Bool
count_fits l = leb (count_of l) 506 && blank (drop (4 + count_of l) (take 510 l))

-- they are records, one behind the other, and none crosses the block's end
abbrev pub records_fit : List ℕ → Bool
records_fit l = is_some (calls_of (used_of l))

-- 512 bytes of which both hold
abbrev pub is_filled : List ℕ → Bool
is_filled l = length_fits l && (count_fits l && records_fit l)

-- the first of the last two tests that fails
abbrev pub body_of : List ℕ → Verdict
body_of l = cond (count_fits l) (cond (records_fit l) Good (Err BadRecord)) (Err BadCount)

-- a block that is compared with another (C-22) has no place, and any number is right
abbrev pub number_right : Option ℕ → List ℕ → Bool
number_right None l = true
number_right (Some p) l = number_fits p l

-- the first test that fails, in the order length, check, number, count, record
unfoldable pub verdict_for : Option ℕ → List ℕ → Verdict
verdict_for place l =
    cond (length_fits l) (cond (check_fits l) (cond (number_right place l) (body_of l) (Err BadNumber)) (Err BadCheck)) (Err BadLength)

-- a block at the place p of a recording
abbrev pub verdict_of : ℕ → List ℕ → Verdict
verdict_of p l = verdict_for (Some p) l

-- the calls of a good block
abbrev pub calls_at : List ℕ → List Call
calls_at l = listed (calls_of (used_of l))
