-- Replays through the entry, and what is shown of them. A reader must believe: the area is memory that grimholdi_new filled; each block gets
-- the area as the last one left it, and any memory that is large enough for its answers; what the caller sees is the returned numbers and
-- as many bytes of that memory as they say.
use Rattle.std.specs.Prelude.{ℕ, ◌≤◌, ◌<◌, ◌≡◌, cond, List, map, eqb, length, take, drop, Err}
use Rattle.hub.specs.declared.Hub.{Hub}
use Rattle.hub.specs.Call.{Call}
use Rattle.hub.specs.Valid.{ValidHub}
use Rattle.runs.specs.Machine.{run, after_from}
use Rattle.runs.specs.Tally.{active_buffers}
use Rattle.area.specs.Written.{written}
use Rattle.area.specs.Read.{hub_read}
use Rattle.call_bytes.specs.Written.{Bytes}
use Rattle.recording.specs.declared.BlockFault.{BlockFault}
use Rattle.recording.specs.declared.BlockFault.TheVariants.{BadLength, BadCheck, BadNumber, BadCount, BadRecord}
use Rattle.recording.specs.Block.{Verdict, Good}
use Rattle.recording.specs.Written.{IsBlock}
use Rattle.recording.specs.Refusals.{Told}
use Rattle.replay.specs.Answers.{answers_in, answers_length}
use Rattle.replay.specs.Replay.{Player, replay_from, ReplayExact, ReplayAddsUp, played_calls, played_none, blocks_of, AllWritable, joined}
use Rattle.grimholdi.specs.Asked.{Asked, call_of}
use Rattle.grimholdi.specs.Runs.{NewArea, filled, entries}
use Rattle.grimholdi.specs.Refusals.{Unwritten}
use Rattle.grimholdi_replay.specs.Entry.{refused, carried_out, block_entry}

-- the verdict that a refusal's number stands for
abbrev pub verdict_numbered : ℕ → Verdict
verdict_numbered n =
    cond (eqb n 1) (Err BadLength)
    (cond (eqb n 2) (Err BadCheck) (cond (eqb n 3) (Err BadNumber) (cond (eqb n 4) (Err BadCount) (cond (eqb n 5) (Err BadRecord) Good))))

-- the entry, where the answers of the block at the place p get the memory `memory p`; the contract of the code is `block_entry`
abbrev pub through_entry : (ℕ → List ℕ) → Player
through_entry memory =
    record {
      State = List ℕ;
      Made = NewArea;
      numbers = λ m. m.numbers;
      new = filled;
      hub = hub_read;
      block = λ a p b. (let g = block_entry a p b (memory p) in
          record {
            output = take g.answer.length g.answers;
            state = g.area;
            tally = record { stored = g.answer.stored; answered = g.answer.answered; emptied = g.answer.emptied };
            verdict = verdict_numbered g.answer.refusal;
          });
    }

-- every memory is large enough
abbrev pub Large : (ℕ → List ℕ) → Type 0
Large memory = (p : ℕ) → answers_length ≤ length (memory p)

-- the calls xs, made through the entries from a new area and recorded in the blocks css, replayed
pub record SessionReplays (memory : ℕ → List ℕ) (m : NewArea) (xs : List Asked) (css : List (List Call)) : Type 0 where
  -- with the answers that they got, ..
  pub output : (replay_from (through_entry memory) (filled m) 1 (blocks_of 1 css)).output ≡ answers_in (run entries m xs)
  -- .. to the area that they left, ..
  pub area : (replay_from (through_entry memory) (filled m) 1 (blocks_of 1 css)).state ≡ after_from entries (filled m) xs
  -- .. and nothing is refused
  pub good : (replay_from (through_entry memory) (filled m) 1 (blocks_of 1 css)).stop.verdict ≡ Good

pub record EntryReplays : Type 0 where
  -- an area that is the written form of no valid hub answers 6, and nothing changes
  pub bad_area : (a : List ℕ) (p : ℕ) (b o : List ℕ) → Unwritten a → block_entry a p b o ≡ refused 6 a o
  -- on any other, too little space answers 7, and nothing changes
  pub no_space : (h : Hub) (p : ℕ) (b o : List ℕ) → ValidHub h → length o < answers_length
      → block_entry (written h) p b o ≡ refused 7 (written h) o
  -- else a block that is the written form of calls at its place answers 0, and they are made, ..
  pub good_block : (h : Hub) (p : ℕ) (b o : List ℕ) (cs : List Call) → ValidHub h → answers_length ≤ length o → Bytes b → IsBlock p cs b
      → block_entry (written h) p b o ≡ carried_out (played_calls h cs) o
  -- .. and any other is refused with the fault that is to be told, and nothing changes
  pub bad_block : (h : Hub) (p : ℕ) (b o : List ℕ) (f : BlockFault) → ValidHub h → answers_length ≤ length o → Bytes b → Told (Err f) p b
      → block_entry (written h) p b o ≡ carried_out (played_none h (Err f)) o
  -- no byte behind the answers is written
  pub behind : (a : List ℕ) (p : ℕ) (b o : List ℕ)
      → drop (block_entry a p b o).answer.length (block_entry a p b o).answers ≡ drop (block_entry a p b o).answer.length o
  -- pending or ready now: of the hub that is read from the area that is left
  pub active : (h : Hub) (p : ℕ) (b o : List ℕ) → ValidHub h → answers_length ≤ length o
      → (block_entry (written h) p b o).answer.active ≡ active_buffers (hub_read (block_entry (written h) p b o).area)
  -- block after block from a new area is the replay of the recording, whatever memory the answers get
  pub exact : (memory : ℕ → List ℕ) → Large memory → ReplayExact (through_entry memory)
  pub adds_up : (memory : ℕ → List ℕ) → Large memory → ReplayAddsUp (through_entry memory)
  -- a session that was recorded, in whatever blocks, is replayed
  pub session : (memory : ℕ → List ℕ) → Large memory → (m : NewArea) (xs : List Asked) (css : List (List Call)) → AllWritable 1 css
      → joined css ≡ map call_of xs → SessionReplays memory m xs css
