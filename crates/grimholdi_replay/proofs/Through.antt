-- Replays through the entry are those by value. Assumes nothing.
use Prim.Native.Nat.{ℕ, ◌+◌, ◌<◌, ◌≤◌}
use mathlib.Core.Path.{◌≡◌, refl, sym, ◌∙◌, ap}
use mathlib.Core.Bool.{Bool, true, false}
use mathlib.Core.List.{List, [], ◌∷◌, map}
use borrow.Author.Tests.{le-leb, lt-leb}
use lib.ListN.{length, take, drop}
use lib.Seq.{take-append_seam, drop-append_seam}
use Rattle.hub.specs.declared.Hub.{Hub}
use Rattle.hub.specs.Hub.{hub_of}
use Rattle.hub.specs.Call.{Call}
use Rattle.hub.specs.Valid.{ValidHub}
use Rattle.runs.specs.Machine.{new_hub_of, rules, run, after_from}
use Rattle.runs.specs.Tally.{active_buffers}
use Rattle.area.specs.Written.{written}
use Rattle.std.specs.Prelude.{Option, None, unwrap_or, is_some}
use Rattle.area.specs.Read.{read_of, hub_read}
use Rattle.area.proofs.Exact.{area_exact_lem}
use Rattle.recording.specs.declared.BlockFault.{BlockFault}
use Rattle.recording.specs.declared.BlockFault.TheVariants.{BadLength, BadCheck, BadNumber, BadCount, BadRecord}
use Rattle.std.proofs.Common.{Ok, Err}
use Rattle.call_bytes.specs.Written.{Bytes}
use Rattle.recording.specs.Block.{Verdict, Good, verdict_of, is_good, calls_at}
use Rattle.recording.specs.Written.{IsBlock}
use Rattle.recording.specs.Refusals.{Told}
use Rattle.recording.proofs.Blocks.{block_exact_lem}
use Rattle.recording.proofs.Refusals.{block_refusals_lem}
use Rattle.replay.specs.Answers.{answers_in, answers_length, is_enough}
use Rattle.replay.specs.Replay.{Recording, Stop, Replayed, Played, and_then, replay_from, seen_as, ReplayExact, played_calls, played_none, block_played, by_value, blocks_of, AllWritable, joined}
use Rattle.replay.proofs.Replays.{sums, replay_claims_lem}
use Rattle.grimholdi.specs.Asked.{Asked, call_of}
use Rattle.grimholdi.specs.Runs.{NewArea}
use Rattle.grimholdi.proofs.Carried.{new_hub_lem, filled_is}
use Rattle.grimholdi.proofs.Claimed.{entry_claims_lem}
use Rattle.grimholdi_replay.specs.Entry.{refusal_number, ReplayOutcome, refused, carried_out, block_entry}
use Rattle.grimholdi_replay.specs.Replays.{verdict_numbered, through_entry, Large, SessionReplays, EntryReplays}
use Rattle.grimholdi_replay.proofs.Kept.{played_kept}

-- ---- one block

bad_area : (a : List ℕ) (p : ℕ) (b o : List ℕ) → read_of a ≡ None → block_entry a p b o ≡ refused 6 a o
unfolding block_entry
bad_area a p b o e = rw e

-- no byte behind the answers is written
behind : (a : List ℕ) (p : ℕ) (b o : List ℕ)
    → drop (block_entry a p b o).answer.length (block_entry a p b o).answers ≡ drop (block_entry a p b o).answer.length o
unfolding block_entry
behind a p b o = go (is_some (read_of a)) refl (is_enough (length o)) refl
  where
    l : List ℕ
    l = (block_played (hub_read a) p b).output

    go : (x : Bool) → is_some (read_of a) ≡ x → (y : Bool) → is_enough (length o) ≡ y
        → drop (block_entry a p b o).answer.length (block_entry a p b o).answers ≡ drop (block_entry a p b o).answer.length o
    go false e y f = rw e
    go true e false f = rw (e, f)
    go true e true f = rw (e, f) (drop-append_seam l (drop (length l) o))

number_back : (v : Verdict) → verdict_numbered (refusal_number v) ≡ v
number_back (Ok u) = refl
number_back (Err BadLength) = refl
number_back (Err BadCheck) = refl
number_back (Err BadNumber) = refl
number_back (Err BadCount) = refl
number_back (Err BadRecord) = refl

played_good : (h : Hub) (p : ℕ) (b : List ℕ) → verdict_of p b ≡ Good → block_played h p b ≡ played_calls h (calls_at b)
unfolding block_played
played_good h p b e = rw e

-- a block that isn't good leaves all as it was
played_none_lem : (h : Hub) (p : ℕ) (b : List ℕ) (f : BlockFault) → verdict_of p b ≡ Err f → block_played h p b ≡ played_none h (Err f)
unfolding block_played
played_none_lem h p b f e = rw e

module _ (h : Hub) (v : ValidHub h) (p : ℕ) (b o : List ℕ) where
  replayed : answers_length ≤ length o → block_entry (written h) p b o ≡ carried_out (block_played h p b) o
  unfolding block_entry
  replayed room = rw (area_exact_lem.again h v, le-leb answers_length (length o) room)

  no_space : length o < answers_length → block_entry (written h) p b o ≡ refused 7 (written h) o
  unfolding block_entry
  no_space small = rw (area_exact_lem.again h v, lt-leb answers_length (length o) small)

  good_block : (cs : List Call) → answers_length ≤ length o → Bytes b → IsBlock p cs b → block_entry (written h) p b o ≡ carried_out (played_calls h cs) o
  good_block cs room y i =
      let g = (block_exact_lem.exact p b cs y).1 i in
      replayed room ∙ ap (λ (x : Played Hub). carried_out x o) (played_good h p b g.0 ∙ ap (played_calls h) g.1)

  bad_block : (f : BlockFault) → answers_length ≤ length o → Bytes b → Told (Err f) p b
      → block_entry (written h) p b o ≡ carried_out (played_none h (Err f)) o
  bad_block f room y t =
      replayed room ∙ ap (λ (x : Played Hub). carried_out x o) (played_none_lem h p b f ((block_refusals_lem (Err f) p b y).1 t))

  active : answers_length ≤ length o → (block_entry (written h) p b o).answer.active ≡ active_buffers (hub_read (block_entry (written h) p b o).area)
  active room =
      ap (λ (g : ReplayOutcome). g.answer.active) (replayed room)
      ∙ ap (λ (r : Option Hub). active_buffers (unwrap_or r (hub_of 0 0 0 0 0))) (sym (area_exact_lem.again (block_played h p b).state (played_kept h p b v).valid))
      ∙ ap (λ (g : ReplayOutcome). active_buffers (hub_read g.area)) (sym (replayed room))

-- ---- block after block

module _ (memory : ℕ → List ℕ) (large : Large memory) where
  -- a block by value, its hub as an area
  abbrev as_area : Played Hub → Played (List ℕ)
  as_area a = record { output = a.output; state = written a.state; tally = a.tally; verdict = a.verdict }

  through : (h : Hub) → ValidHub h → (p : ℕ) (b : List ℕ) → (through_entry memory).block (written h) p b ≡ as_area (block_played h p b)
  through h v p b =
      ap
      (λ (g : ReplayOutcome). record {
        output = take g.answer.length g.answers;
        state = g.area;
        tally = record { stored = g.answer.stored; answered = g.answer.answered; emptied = g.answer.emptied };
        verdict = verdict_numbered g.answer.refusal;
      })
      (replayed h v p b (memory p) (large p))
      ∙ (λ i. record {
        output = take-append_seam (block_played h p b).output (drop (length (block_played h p b).output) (memory p)) i;
        state = written (block_played h p b).state;
        tally = (block_played h p b).tally;
        verdict = number_back (block_played h p b).verdict i;
      })

  abbrev entry : List ℕ → ℕ → Recording → Replayed (List ℕ)
  entry a p bs = replay_from (through_entry memory) a p bs

  read_back : (h : Hub) → ValidHub h → hub_read (written h) ≡ h
  read_back h v = ap (λ (r : Option Hub). unwrap_or r (hub_of 0 0 0 0 0)) (area_exact_lem.again h v)

  -- a block, then what is behind it
  then_seen : (p : ℕ) (x : Played Hub) → ValidHub x.state → (r : Replayed (List ℕ)) (s : Replayed Hub) → seen_as (through_entry memory) r ≡ s
      → seen_as (through_entry memory) (and_then p (as_area x) r) ≡ and_then p x s
  then_seen p x v r s e = go (is_good x.verdict) refl
    where
      go : (y : Bool) → is_good x.verdict ≡ y → seen_as (through_entry memory) (and_then p (as_area x) r) ≡ and_then p x s
      go true q = rw q (ap (λ (t : Replayed Hub). and_then p (record { output = x.output; state = x.state; tally = x.tally; verdict = Good }) t) e)
      go false q =
          rw q
          (ap (λ (h : Hub). record { output = x.output; state = h; tally = x.tally; stop = record { verdict = x.verdict; place = p } })
          (read_back x.state v))

  follows : (bs : Recording) (h : Hub) (p : ℕ) → ValidHub h → seen_as (through_entry memory) (entry (written h) p bs) ≡ replay_from by_value h p bs
  unfolding replay_from
  follows [] h p v =
      ap (λ (g : Hub). record { output = []; state = g; tally = (entry (written h) p []).tally; stop = (entry (written h) p []).stop }) (read_back h v)
  follows (b ∷ bs) h p v =
      let x = block_played h p b in
      let k = (played_kept h p b v).valid in
      ap (λ (a : Played (List ℕ)). seen_as (through_entry memory) (and_then p a (entry a.state (p + 1) bs))) (through h v p b)
      ∙ then_seen p x k (entry (written x.state) (p + 1) bs) (replay_from by_value x.state (p + 1) bs) (follows bs x.state (p + 1) k)

  -- the area is the written form of the hub by value
  areas : (bs : Recording) (h : Hub) (p : ℕ) → ValidHub h → (entry (written h) p bs).state ≡ written (replay_from by_value h p bs).state
  unfolding replay_from
  areas [] h p v = refl
  areas (b ∷ bs) h p v =
      ap (λ (a : Played (List ℕ)). (and_then p a (entry a.state (p + 1) bs)).state) (through h v p b)
      ∙ go (is_good (block_played h p b).verdict) refl (areas bs (block_played h p b).state (p + 1) (played_kept h p b v).valid)
    where
      go : (y : Bool) → is_good (block_played h p b).verdict ≡ y
          → (entry (written (block_played h p b).state) (p + 1) bs).state ≡ written (replay_from by_value (block_played h p b).state (p + 1) bs).state
          → (and_then p (as_area (block_played h p b)) (entry (written (block_played h p b).state) (p + 1) bs)).state
          ≡ written (and_then p (block_played h p b) (replay_from by_value (block_played h p b).state (p + 1) bs)).state
      go true q ih = rw q ih
      go false q ih = rw q

  exact : ReplayExact (through_entry memory)
  exact m bs =
      ap (λ (a : List ℕ). seen_as (through_entry memory) (entry a 1 bs)) (filled_is m)
      ∙ follows bs (new_hub_of m.numbers) 1 (new_hub_lem m)
      ∙ replay_claims_lem.exact m.numbers bs

-- ---- a session that was recorded

session : (memory : ℕ → List ℕ) → Large memory → (m : NewArea) (xs : List Asked) (css : List (List Call)) → AllWritable 1 css
    → joined css ≡ map call_of xs → SessionReplays memory m xs css
session memory large m xs css w e =
    let all = exact memory large m (blocks_of 1 css) in
    let again = replay_claims_lem.recorded css w in
    let n = m.numbers in
    record {
      output =
          ap (λ (r : Replayed Hub). r.output) all
          ∙ ap (λ (cs : List Call). answers_in (run rules n cs)) (again.calls ∙ e)
          ∙ ap answers_in (sym (entry_claims_lem.demand_2 m xs));
      area =
          ap (λ (a : List ℕ). (replay_from (through_entry memory) a 1 (blocks_of 1 css)).state) (filled_is m)
          ∙ areas memory large (blocks_of 1 css) (new_hub_of n) 1 (new_hub_lem m)
          ∙ ap (λ (r : Replayed Hub). written r.state) (replay_claims_lem.exact n (blocks_of 1 css))
          ∙ ap (λ (cs : List Call). written (after_from rules (new_hub_of n) cs)) (again.calls ∙ e)
          ∙ sym (entry_claims_lem.area_follows m xs);
      good = ap (λ (r : Replayed Hub). r.stop.verdict) all ∙ ap (λ (t : Stop). t.verdict) again.good;
    }

pub entry_replays_lem : EntryReplays
entry_replays_lem =
    record {
      bad_area = λ a p b o n. bad_area a p b o ((area_exact_lem.refused a).1 n);
      no_space = λ h p b o v. no_space h v p b o;
      good_block = λ h p b o cs v. good_block h v p b o cs;
      bad_block = λ h p b o f v. bad_block h v p b o f;
      behind = behind;
      active = λ h p b o v. active h v p b o;
      exact = exact;
      adds_up = λ memory large. sums (through_entry memory) (exact memory large);
      session = session;
    }
