-- Concrete runs of the empty programs. Assumes nothing.
use Prim.Native.Nat.{ℕ}
use native.Mathlib.Omega.{arith}
use mathlib.Core.Path.{◌≡◌, sym, ◌∙◌, ap}
use mathlib.Core.List.{List, [], ◌∷◌, map}
use lib.ListN.{get_or}
use Rattle.payload.specs.Payload.{payload_of}
use Rattle.buffer.specs.Same.{same_key}
use Rattle.buffer.specs.Lengths.{numbers_fit, start_fits}
use Rattle.ports.specs.Ports.{port_at}
use Rattle.ports.specs.Sweep.{front, swept}
use Rattle.ports.specs.Bitmap.{bitmap_of}
use Rattle.translator.specs.Order.{pass, ranked, earliest}
use Rattle.translator.specs.Search.{find, chosen}
use Rattle.translator.specs.Limit.{permitted}
use Rattle.translator.specs.Translator.{tally}
use Rattle.translator.specs.StartSplit.{stored, start_split}
use Rattle.translator.specs.CompleteSplit.{complete_split}
use Rattle.translator.specs.Launch.{launch}
use Rattle.numbers.specs.Split.{split_named, split_from, key_named, key_from}
use Rattle.request.specs.Table.{kind_of}
use Rattle.request.specs.Request.{checked, request_of}
use Rattle.hub.specs.Hub.{configured_as, ticked_hub}
use Rattle.hub.specs.Call.{Call, Control, Poll, Start, Launch, Tick, Answer, plain_answer}
use Rattle.hub.specs.Requests.{requested}
use Rattle.hub.specs.Rules.{polled}
use Rattle.hub.specs.Checks.{within, has_space, not_silent, fitting}
use Rattle.hub.specs.Step.{served, step}
use Rattle.runs.specs.History.{Event}
use Rattle.runs.specs.Machine.{run_from}
use Rattle.runs.specs.Altered as of
use Rattle.runs.specs.Altered.{answering, Field, field_of}
use Rattle.runs.specs.Demand2.{Demand2}
use Rattle.runs.specs.EmptyPrograms.{EmptyProgramsShutOut}
use Rattle.runs.proofs.Refuted.{bench, configure, in_to, complete}

-- what call i of a run answered
abbrev answer_at : ℕ → List Event → Answer
answer_at i es = get_or (map (λ (e : Event). e.answer) es) i (plain_answer 0)

abbrev number_at : ℕ → List Event → ℕ
number_at i es = (answer_at i es).number

-- a start-split none of whose numbers is 0, and its launch
abbrev in_full : Call
in_full = Start 1 9 2 1 1 5 1 []

abbrev launched : Answer
launched = record { number = 1; pid = 9; transfer = 2; lane = 1; address = 5; endpoint = 1; direction = 1; lowspeed = 1; toggle = 1; bytes = [] }

none_zero : (f : Field) → ¬ (0 ≡ field_of f launched)
none_zero of.number e = omega (arith, e)
none_zero of.pid e = omega (arith, e)
none_zero of.transfer e = omega (arith, e)
none_zero of.lane e = omega (arith, e)
none_zero of.address e = omega (arith, e)
none_zero of.endpoint e = omega (arith, e)
none_zero of.direction e = omega (arith, e)
none_zero of.lowspeed e = omega (arith, e)
none_zero of.toggle e = omega (arith, e)

dropping : (f : Field) (drop : Answer → Answer) → ((a : Answer) → field_of f (drop a) ≡ 0) → ¬ (Demand2 (answering (λ h a. drop a)))
unfolding bench run_from payload_of same_key port_at numbers_fit start_fits front swept bitmap_of find chosen permitted pass tally ranked earliest stored start_split complete_split launch split_named split_from key_named key_from kind_of checked request_of configured_as ticked_hub requested polled within has_space not_silent fitting served step
dropping f drop is claim =
    let z : field_of f (drop launched) ≡ field_of f launched =
    ap (λ (es : List Event). field_of f (answer_at 2 es)) (claim bench (configure ∷ in_full ∷ Launch 64 ∷ [])) in
    none_zero f (sym (is launched) ∙ z)

pub empty_programs_shut_out_lem : EmptyProgramsShutOut
unfolding bench run_from payload_of same_key port_at numbers_fit start_fits front swept bitmap_of find chosen permitted pass tally ranked earliest stored start_split complete_split split_named split_from key_named key_from kind_of checked request_of configured_as ticked_hub requested polled within has_space not_silent fitting served step
empty_programs_shut_out_lem =
    record {
      refusing = λ claim. let z : ◌≡◌ {A = ℕ} 8 0 = ap (number_at 0) (claim bench (Tick ∷ [])) in omega (arith, z);
      naking = λ claim. let z : ◌≡◌ {A = ℕ} 3 0 = ap (number_at 0) (claim bench (Tick ∷ [])) in omega (arith, z);
      idle = λ claim. let z : ◌≡◌ {A = ℕ} 5 3 = ap (number_at 1) (claim bench (configure ∷ Poll 0 64 ∷ [])) in omega (arith, z);
      pretending = λ claim.
          let z : ◌≡◌ {A = ℕ} 2 4 = ap (number_at 3) (claim bench (configure ∷ in_to 5 ∷ in_to 6 ∷ complete 6 1 ∷ [])) in
          omega (arith, z);
      -- GetConfiguration gives 1
      zeroing = λ claim.
          let z : ◌≡◌ {A = ℕ} 0 1 =
          ap (λ (es : List Event). get_or (answer_at 1 es).bytes 0 0)
          (claim bench (configure ∷ Control 0 (0x80 ∷ 0x08 ∷ 0 ∷ 0 ∷ 0 ∷ 0 ∷ 1 ∷ 0 ∷ []) 64 ∷ [])) in
          omega (arith, z);
      dropping = dropping;
    }
