-- Three cases beside those of the bench table (crate hub, specs/Cases), in lane 0 of a new translator with three buffers.
-- A reader must believe: each row has the calls of its case, and what document 01 answers to each.
use Rattle.std.specs.Prelude.{ℕ, ◌≡◌, Bool, true, false, ◌&&◌, List, [], ◌∷◌, eqb, replicate, Result, Ok, Err}
use Rattle.payload.specs.Bytes.{same_bytes}
use Rattle.payload.specs.Payload.{content}
use Rattle.buffer.specs.declared.Lane.{Lane}
use Rattle.buffer.specs.declared.Lane.TheVariants.{Zero}
use Rattle.buffer.specs.declared.Direction.TheVariants as direction
use Rattle.buffer.specs.declared.Key.{Key}
use Rattle.buffer.specs.declared.Pid.{Pid}
use Rattle.buffer.specs.declared.Pid.TheVariants as pid
use Rattle.buffer.specs.declared.TransferType.TheVariants.{Bulk}
use Rattle.buffer.specs.declared.StartSplit.{StartSplit}
use Rattle.buffer.specs.declared.DeviceResult.{DeviceResult}
use Rattle.buffer.specs.Key.{key_with}
use Rattle.buffer.specs.declared.DeviceResult.TheVariants.{Ack, Data0, Data1}
use Rattle.translator.specs.declared.Translator.{Translator}
use Rattle.translator.specs.declared.NoResult.{NoResult}
use Rattle.translator.specs.declared.NoResult.TheVariants.{NoMatch, NotYet}
use Rattle.translator.specs.declared.NotLaunched.{NotLaunched}
use Rattle.translator.specs.declared.NotLaunched.TheVariants.{NothingPending, Occupied}
use Rattle.translator.specs.Translator.{new_translator}
use Rattle.translator.specs.Answers.{start_number, result_pid, complete_number, pid_number, deliver_number}
use Rattle.translator.specs.StartSplit as starting
use Rattle.translator.specs.CompleteSplit as completing
use Rattle.translator.specs.Launch as launching
use Rattle.translator.specs.Deliver as delivering
use Rattle.translator.specs.Clear as clearing

pub data Call : Type 0 where
  start : Pid → ℕ → ℕ → List ℕ → Call
  complete : ℕ → ℕ → Call
  launch : Call
  deliver : DeviceResult → List ℕ → Call
  clear : ℕ → ℕ → Call

-- the number of an answer; PID, address and endpoint where it gives them; its bytes
pub record Said : Type 0 where
  pub number : ℕ
  pub pid : ℕ
  pub address : ℕ
  pub endpoint : ℕ
  pub bytes : List ℕ

abbrev pub plain : ℕ → Said
plain n = record { number = n; pid = 0; address = 0; endpoint = 0; bytes = [] }

-- a full-speed bulk start-split
abbrev pub split_in : Lane → Pid → ℕ → ℕ → StartSplit
split_in z p a e = record { lane = z; pid = p; transfer = Bulk; lowspeed = false; toggle = false; address = record { 0 = a }; endpoint = e }

abbrev pub split : Pid → ℕ → ℕ → StartSplit
split p a e = split_in Zero p a e

abbrev pub in_key : ℕ → ℕ → Key
in_key a e = key_with Zero (record { 0 = a }) e direction.In

abbrev pub complete_said : Result DeviceResult NoResult → List ℕ → Said
complete_said (Err NoMatch) l = plain 2
complete_said (Err NotYet) l = plain 4
complete_said (Ok r) l = record { number = complete_number (Ok r); pid = result_pid r; address = 0; endpoint = 0; bytes = l }

abbrev pub launch_said : Result StartSplit NotLaunched → List ℕ → Said
launch_said (Err NothingPending) l = plain 3
launch_said (Err Occupied) l = plain 8
launch_said (Ok s) l = record { number = 1; pid = pid_number s.pid; address = s.address.0; endpoint = s.endpoint; bytes = l }

pub record Answered : Type 0 where
  pub next : Translator
  pub said : Said

abbrev pub called : Translator → Call → Answered
called t (start p a e l) = let o = starting.start_split t (split p a e) l in record { next = o.next; said = plain (start_number o.answer) }
called t (complete a e) = let o = completing.complete_split t (in_key a e) in record { next = o.next; said = complete_said o.answer (content o.payload) }
called t launch = let o = launching.launch t in record { next = o.next; said = launch_said o.answer (content o.payload) }
called t (deliver r l) = let o = delivering.deliver t r l in record { next = o.next; said = plain (deliver_number o.answer) }
called t (clear a e) = record { next = clearing.clear_buffer t (in_key a e); said = plain 0 }

-- ---- the cases

pub record Row : Type 0 where
  pub calls : List Call
  pub answers : List Said

abbrev pub data0 : List ℕ → Said
data0 l = record { number = 1; pid = 3; address = 0; endpoint = 0; bytes = l }

abbrev pub data1 : List ℕ → Said
data1 l = record { number = 1; pid = 11; address = 0; endpoint = 0; bytes = l }

-- a launched IN
abbrev pub launched_in : ℕ → ℕ → Said
launched_in a e = record { number = 1; pid = 9; address = a; endpoint = e; bytes = [] }

-- Payload 64 passes, 65 is 6: stored, launched, and given back.
abbrev pub payload64 : Row
payload64 =
    record {
      calls =
          start pid.Out 5 1 (replicate 65 0xA5) ∷ start pid.Out 5 1 (replicate 64 0xA5) ∷ launch ∷ deliver Ack [] ∷ start pid.In 5 2 [] ∷ launch
          ∷ deliver Data1 (replicate 65 0x5A) ∷ deliver Data1 (replicate 64 0x5A) ∷ complete 5 2 ∷ [];
      answers =
          plain 6 ∷ plain 0 ∷ record { number = 1; pid = 1; address = 5; endpoint = 1; bytes = replicate 64 0xA5 } ∷ plain 0 ∷ plain 0
          ∷ launched_in 5 2 ∷ plain 6 ∷ plain 0 ∷ data1 (replicate 64 0x5A) ∷ [];
    }

-- A short result after a long one in the same buffer shows only its own bytes.
abbrev pub short_after_long : Row
short_after_long =
    record {
      calls =
          start pid.In 5 1 [] ∷ launch ∷ deliver Data0 (replicate 64 0xEE) ∷ complete 5 1 ∷ start pid.In 5 1 [] ∷ launch ∷ deliver Data1 (0x11 ∷ [])
          ∷ complete 5 1 ∷ [];
      answers =
          plain 0 ∷ launched_in 5 1 ∷ plain 0 ∷ data0 (replicate 64 0xEE) ∷ plain 0 ∷ launched_in 5 1 ∷ plain 0 ∷ data1 (0x11 ∷ []) ∷ [];
    }

-- A late result after a clear is thrown away, also where the buffer was filled again.
abbrev pub late_result : Row
late_result =
    record {
      calls =
          start pid.In 5 1 [] ∷ launch ∷ clear 5 1 ∷ start pid.In 6 1 [] ∷ launch ∷ deliver Data0 (0x99 ∷ []) ∷ complete 6 1 ∷ complete 5 1 ∷ launch
          ∷ deliver Data0 (0x66 ∷ []) ∷ complete 6 1 ∷ [];
      answers =
          plain 0 ∷ launched_in 5 1 ∷ plain 0 ∷ plain 0 ∷ plain 8 ∷ plain 0 ∷ plain 4 ∷ plain 2 ∷ launched_in 6 1 ∷ plain 0 ∷ data0 (0x66 ∷ []) ∷ [];
    }

abbrev pub table : List Row
table = payload64 ∷ short_after_long ∷ late_result ∷ []

abbrev pub same_said : Said → Said → Bool
same_said a b = eqb a.number b.number && (eqb a.pid b.pid && (eqb a.address b.address && (eqb a.endpoint b.endpoint && same_bytes a.bytes b.bytes)))

-- every call from here on is answered as the row says
abbrev pub holds_from : Translator → List Call → List Said → Bool
holds_from t [] [] = true
holds_from t [] (a ∷ rest) = false
holds_from t (c ∷ cs) [] = false
holds_from t (c ∷ cs) (a ∷ rest) = let o = called t c in same_said o.said a && holds_from o.next cs rest

abbrev pub all_hold : List Row → Bool
all_hold [] = true
all_hold (r ∷ rs) = holds_from (new_translator 3) r.calls r.answers && all_hold rs

-- every row of the table holds
abbrev pub CasesHold : Type 0
CasesHold = all_hold table ≡ true
