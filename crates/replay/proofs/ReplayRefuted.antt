-- Concrete recordings that players with a mistake replay wrongly. Assumes nothing.
use Prim.Native.Nat.{ℕ, ◌+◌, ◌%◌, ◌<◌, ◌≤◌, ◌^◌}
use native.Mathlib.Omega.{arith}
use mathlib.Core.Path.{◌≡◌, refl, sym, subst, ◌∙◌, ap}
use mathlib.Core.List.{List, [], ◌∷◌}
use mathlib.Core.Bool.{true, false}
use borrow.Author.Tests.{eq-eqb, le-leb}
use lib.ListN.{length}
use Rattle.std.proofs.Common.{None, Err, is_some}
use Rattle.buffer.specs.Same.{same_key}
use Rattle.buffer.specs.Lengths.{numbers_fit, start_fits}
use Rattle.translator.specs.Order.{pass, ranked}
use Rattle.translator.specs.Search.{find, chosen}
use Rattle.translator.specs.Limit.{permitted}
use Rattle.translator.specs.Translator.{tally}
use Rattle.translator.specs.StartSplit.{stored, start_split}
use Rattle.numbers.specs.Split.{split_named, split_from, key_named, key_from}
use Rattle.request.specs.Table.{kind_of}
use Rattle.request.specs.Request.{checked as asked, request_of}
use Rattle.hub.specs.declared.Hub.{Hub}
use Rattle.hub.specs.Hub.{new_fits, configured_as, reset_hub}
use Rattle.hub.specs.Call.{Call, Launch, Tick, BusReset}
use Rattle.hub.specs.Requests.{requested}
use Rattle.hub.specs.Checks.{within, has_space, not_silent, fitting}
use Rattle.hub.specs.Step.{served, step}
use Rattle.runs.specs.Machine.{new_hub_of, rules, run_from, after_from}
use Rattle.runs.specs.Tally.{active_buffers}
use Rattle.runs.proofs.Refuted.{bench, configure, in_to}
use Rattle.call_bytes.specs.Words.{half_at, words}
use Rattle.call_bytes.specs.Table.{with_tag, kind_of as kind_tagged, form_of}
use Rattle.call_bytes.specs.Written.{written_form, Fits}
use Rattle.call_bytes.specs.Read.{read_of}
use Rattle.recording.specs.declared.BlockFault.TheVariants.{BadNumber, BadRecord}
use Rattle.recording.specs.Written.{written_all, AllFit, sum_to, count_of, used_of, unchecked, check_of, block_of, Writable}
use Rattle.recording.specs.Calls.{calls_in, calls_of}
use Rattle.recording.specs.Block.{Good, verdict_for, verdict_of, is_good, calls_at}
use Rattle.recording.proofs.Refuted.{below, below_at}
use Rattle.recording.proofs.Blocks.{Passed, passed, block_is_good, made, made_length, made_number, made_count, made_used, made_zeros, check_fits_lem}
use Rattle.replay.specs.Answers.{answer_bytes, answers_in}
use Rattle.replay.specs.Counting.{no_tally, tallied}
use Rattle.replay.specs.Replay.{Replayed, Played, and_then, replay_from, playing, ReplayExact, ReplayAddsUp, played_calls, played_none, block_played}
use Rattle.replay.specs.ReplayMistakes.{unnumbered, calls_before, with_verdict, before_bad, swapped_in, swapped, uncounted_in, uncounted, unrefused, writing, refusals_left_out, ReplayMistakesShutOut}
use Rattle.replay.proofs.Replays.{replay_claims_lem}

fits : (c : Call) → below (2 ^ 32) (form_of c).numbers ≡ true → below 256 (form_of c).bytes ≡ true → length (form_of c).bytes < 2 ^ 16 → Fits c
fits c n b s =
    record { numbers = below_at (2 ^ 32) (form_of c).numbers (omega arith) n; bytes = below_at 256 (form_of c).bytes (omega arith) b; size = s }

-- ---- blocks

-- one start-split that is emptied, and a call that is refused
abbrev calls : List Call
calls = configure ∷ in_to 5 ∷ BusReset ∷ Launch 0 ∷ []

-- written at the place p
module _ (p : ℕ) (first : 1 ≤ p) (last : p ≤ 65535) where
  writable : Writable p calls
  unfolding written_all written_form words AllFit
  writable =
      record {
        first = first;
        last = last;
        fit = (
          fits configure refl refl (omega arith),
          (fits (in_to 5) refl refl (omega arith), (fits BusReset refl refl (omega arith), (fits (Launch 0) refl refl (omega arith), tt))),
        );
        room = omega arith;
      }

  is_good_lem : (verdict_of p (block_of p calls) ≡ Good) × (calls_at (block_of p calls) ≡ calls)
  is_good_lem = block_is_good p calls writable

  plays : (h : Hub) → block_played h p (block_of p calls) ≡ played_calls h calls
  unfolding block_played
  plays h = rw is_good_lem.0 (ap (played_calls h) is_good_lem.1)

  leaves_out : (h : Hub) → refusals_left_out h p (block_of p calls) ≡ writing (unrefused (run_from rules h calls)) (played_calls h calls)
  unfolding refusals_left_out
  leaves_out h = rw is_good_lem.0 (ap (λ (cs : List Call). writing (unrefused (run_from rules h cs)) (played_calls h cs)) is_good_lem.1)

  all_passed : Passed p (block_of p calls)
  all_passed = passed p (block_of p calls) (ap is_good is_good_lem.0)

-- ---- a block at another place

module _ (l : List ℕ) (t : Passed 2 l) where
  other_place : verdict_of 1 l ≡ (Err BadNumber)
  unfolding verdict_for
  other_place = rw (eq-eqb (length l) 512 t.long, eq-eqb (sum_to l 256 % 65536) 0 t.check, t.number)

  untested : verdict_for None l ≡ Good
  unfolding verdict_for
  untested =
      rw (eq-eqb (length l) 512 t.long, eq-eqb (sum_to l 256 % 65536) 0 t.check, le-leb (count_of l) 506 t.few, t.zeros, t.records)

-- ---- a block with a bad record: a tick, and a byte that is no call

abbrev used : List ℕ
used = 8 ∷ 0 ∷ []

abbrev check : ℕ
check = check_of (unchecked 1 used)

abbrev bad : List ℕ
bad = made 1 used check (omega arith)

no_records : is_some (calls_of (used_of bad)) ≡ false
unfolding calls_in read_of kind_tagged with_tag
no_records = ap (λ (l : List ℕ). is_some (calls_of l)) (made_used 1 used check (omega arith))

bad_record : verdict_of 1 bad ≡ (Err BadRecord)
unfolding verdict_for
bad_record =
    let few : count_of bad ≤ 506 = omega (arith, made_count 1 used check (omega arith)) in
    rw (
      eq-eqb (length bad) 512 (made_length 1 used check (omega arith)),
      eq-eqb (sum_to bad 256 % 65536) 0 (check_fits_lem 1 used (omega arith)),
      eq-eqb (half_at bad 0) 1 (made_number 1 used check (omega arith) (omega arith)),
      le-leb (count_of bad) 506 few,
      made_zeros 1 used check (omega arith),
      no_records,
    )

before : (h : Hub) → before_bad h 1 bad ≡ with_verdict (Err BadRecord) (played_calls h (Tick ∷ []))
unfolding before_bad calls_before read_of kind_tagged with_tag
before h =
    rw bad_record
    (ap (λ (l : List ℕ). with_verdict (Err BadRecord) (played_calls h (calls_before (length l) l))) (made_used 1 used check (omega arith)))

refuses : (h : Hub) → block_played h 1 bad ≡ played_none h (Err BadRecord)
unfolding block_played
refuses h = rw bad_record

-- ---- recordings of one block

abbrev new : Hub
new = new_hub_of bench

-- nothing is behind it
abbrev alone : Played Hub → Replayed Hub
alone a = and_then 1 a (record { output = []; state = a.state; tally = no_tally; stop = record { verdict = Good; place = 2 } })

-- a player that gives a where it is b by value
shown : (f : Hub → ℕ → List ℕ → Played Hub) (l : List ℕ) {a b : Played Hub} → f new 1 l ≡ a → block_played new 1 l ≡ b → ReplayExact (playing f)
    → alone a ≡ alone b
unfolding replay_from
shown f l p q claim = sym (ap alone p) ∙ (claim bench (l ∷ []) ∙ sym (replay_claims_lem.exact bench (l ∷ []))) ∙ ap alone q

-- the second block in the first place: it is replayed, not refused
number_counts : ¬ (ReplayExact (playing unnumbered))
unfolding unnumbered block_played
number_counts claim =
    let t = all_passed 2 (omega arith) (omega arith) in
    let l = block_of 2 calls in
    let z : ◌≡◌ {A = ℕ} 2 1 =
    ap (λ (r : Replayed Hub). r.stop.place)
    (shown unnumbered l {a = played_calls new (calls_at l)} {b = played_none new (Err BadNumber)} (rw (untested l t)) (rw (other_place l t)) claim) in
    omega (arith, z)

-- a tick is answered in front of a bad record
none_before : ¬ (ReplayExact (playing before_bad))
unfolding answers_in answer_bytes run_from step within has_space not_silent fitting served
none_before claim =
    let z : ◌≡◌ {A = ℕ} 10 0 = ap (λ (x : Replayed Hub). length x.output) (shown before_bad bad (before new) (refuses new) claim) in
    omega (arith, z)

-- the start-split is emptied, not answered
counts_apart : ¬ (ReplayExact (playing swapped))
unfolding bench new_fits tallied same_key numbers_fit start_fits find chosen permitted pass tally ranked stored start_split split_named split_from key_named
    key_from kind_of asked request_of configured_as requested within has_space not_silent fitting served step reset_hub
counts_apart claim =
    let p = plays 1 (omega arith) (omega arith) new in
    let z : ◌≡◌ {A = ℕ} 0 1 = ap (λ (x : Replayed Hub). x.tally.emptied) (shown swapped (block_of 1 calls) (ap swapped_in p) p claim) in
    omega (arith, z)

-- .. and the sum lacks it
emptied_counts : ¬ (ReplayAddsUp (playing uncounted))
unfolding replay_from bench new_fits after_from tallied same_key numbers_fit start_fits find chosen permitted pass tally ranked stored start_split split_named
    split_from key_named key_from kind_of asked request_of configured_as requested within has_space not_silent fitting served step reset_hub
emptied_counts claim =
    let adds : Played Hub → Type 0 = λ a. (let r = alone (uncounted_in a) in
    r.tally.stored ≡ r.tally.answered + r.tally.emptied + active_buffers r.state) in
    let z : ◌≡◌ {A = ℕ} 1 0 = subst adds (plays 1 (omega arith) (omega arith) new) (claim bench (block_of 1 calls ∷ [])) in
    omega (arith, z)

-- the last call's answer is missing
refusals_written : ¬ (ReplayExact (playing refusals_left_out))
unfolding bench new_fits run_from answers_in answer_bytes unrefused same_key numbers_fit start_fits find chosen permitted pass tally ranked stored start_split
    split_named split_from key_named key_from kind_of asked request_of configured_as requested within has_space not_silent fitting served step reset_hub
refusals_written claim =
    let z : ◌≡◌ {A = ℕ} 30 40 =
    ap (λ (x : Replayed Hub). length x.output)
    (shown refusals_left_out (block_of 1 calls) (leaves_out 1 (omega arith) (omega arith) new) (plays 1 (omega arith) (omega arith) new) claim) in
    omega (arith, z)

pub replay_mistakes_shut_out_lem : ReplayMistakesShutOut
replay_mistakes_shut_out_lem =
    record {
      unnumbered_block = number_counts;
      before_bad_lem = none_before;
      swapped_counts = counts_apart;
      emptied_uncounted = emptied_counts;
      refusals_left_out_lem = refusals_written;
    }
