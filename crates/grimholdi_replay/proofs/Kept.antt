-- What a block leaves of a valid hub, and how many bytes its answers take. Assumes nothing.
use Prim.Native.Nat.{ℕ, zero, suc, ◌*◌, ◌≤◌}
use native.Mathlib.Omega.{arith}
use mathlib.Core.Path.{◌≡◌, refl, sym, ◌∙◌, ap, ap₂}
use Rattle.std.proofs.Common.{Option, Some, None, option_and_then}
use mathlib.Core.List.{List, [], ◌∷◌}
use mathlib.Core.Bool.{Bool, true, false}
use lib.ListN.{length, drop, length-append, length-drop}
use lib.Seq.{length-take-le}
use Rattle.hub.specs.declared.Hub.{Hub}
use Rattle.hub.specs.declared.Identity.{Identity}
use Rattle.hub.specs.Call.{Call, Answer}
use Rattle.hub.specs.Step.{step}
use Rattle.hub.specs.Valid.{ValidHub}
use Rattle.hub.proofs.Claimed.{hub_claims_lem}
use Rattle.runs.specs.Machine.{rules, run_from, after_from}
use Rattle.area.specs.Written.{written, area_length, written_over}
use Rattle.area.proofs.Exact.{area_exact_lem}
use Rattle.call_bytes.specs.declared.Recorded.{Recorded}
use Rattle.call_bytes.specs.Read.{read_of, call_in}
use Rattle.recording.specs.Calls.{cons_to, calls_in, listed}
use Rattle.recording.specs.Written.{count_of, used_of}
use Rattle.recording.specs.Block.{verdict_of, is_good, calls_at}
use Rattle.recording.proofs.Blocks.{Passed, passed}
use Rattle.replay.specs.Answers.{head_bytes, answer_bytes, answers_in}
use Rattle.replay.specs.Replay.{block_played}

-- ---- the hub

-- g is valid, with the numbers of h
pub record Kept (h g : Hub) : Type 0 where
  pub valid : ValidHub g
  pub identity : g.identity ≡ h.identity
  pub buffers : g.translator.count ≡ h.translator.count

after_kept : (cs : List Call) (h : Hub) → ValidHub h → Kept h (after_from rules h cs)
unfolding after_from
after_kept [] h v = record { valid = v; identity = refl; buffers = refl }
after_kept (c ∷ cs) h v =
    let k = after_kept cs (step h c).next (hub_claims_lem.step_valid h v c) in
    record {
      valid = k.valid;
      identity = k.identity ∙ hub_claims_lem.identity_kept h c;
      buffers = k.buffers ∙ hub_claims_lem.buffers_kept h c;
    }

pub played_kept : (h : Hub) (p : ℕ) (b : List ℕ) → ValidHub h → Kept h (block_played h p b).state
unfolding block_played
played_kept h p b v = go (is_good (verdict_of p b)) refl
  where
    go : (x : Bool) → is_good (verdict_of p b) ≡ x → Kept h (block_played h p b).state
    go true e = rw e (after_kept (calls_at b) h v)
    go false e = rw e (record { valid = v; identity = refl; buffers = refl })

-- it has the same length, so that writing it gives its written form
pub written_over_lem : {h g : Hub} {a : List ℕ} → ValidHub h → a ≡ written h → Kept h g → written_over g a ≡ written g
written_over_lem {h} {g} {a} v e k =
    area_exact_lem.writes g a k.valid
    (ap length e ∙ area_exact_lem.written_length h v ∙ ap₂ area_length (ap (λ (i : Identity). i.ports) (sym k.identity)) (sym k.buffers))

-- ---- its answers

answers_short : (cs : List Call) (h : Hub) → ValidHub h → length (answers_in (run_from rules h cs)) ≤ 74 * length cs
unfolding answers_in answer_bytes run_from
answers_short [] h v = omega arith
answers_short (c ∷ cs) h v =
    let a : Answer = (step h c).answer in
    let rest = answers_in (run_from rules (step h c).next cs) in
    omega (
      arith,
      length-append (answer_bytes a) rest,
      length-append (head_bytes a) a.bytes,
      hub_claims_lem.bytes_fit h v c,
      answers_short cs (step h c).next (hub_claims_lem.step_valid h v c),
    )

-- at most as many calls as bytes
calls_few : (n : ℕ) (l : List ℕ) → length (listed (calls_in n l)) ≤ n
unfolding calls_in
calls_few zero [] = omega arith
calls_few zero (x ∷ l) = omega arith
calls_few (suc n) [] = omega arith
calls_few (suc n) (x ∷ l) = go (read_of (x ∷ l)) (calls_few n)
  where
    more : (r : Recorded) (o : Option (List Call)) → length (listed o) ≤ n → length (listed (cons_to (call_in r (x ∷ l)) o)) ≤ suc n
    more r None h = omega arith
    more r (Some cs) h = omega (arith, h)

    go : (o : Option Recorded) → ((k : List ℕ) → length (listed (calls_in n k)) ≤ n)
        → length (listed (option_and_then (λ r. cons_to (call_in r (x ∷ l)) (calls_in n (drop r.length (x ∷ l)))) o)) ≤ suc n
    go None h = omega arith
    go (Some r) h = more r (calls_in n (drop r.length (x ∷ l))) (h (drop r.length (x ∷ l)))

pub played_short : (h : Hub) (p : ℕ) (b : List ℕ) → ValidHub h → length (block_played h p b).output ≤ 37444
unfolding block_played
played_short h p b v = go (is_good (verdict_of p b)) refl
  where
    go : (x : Bool) → is_good (verdict_of p b) ≡ x → length (block_played h p b).output ≤ 37444
    go true e =
        let t : Passed p b = passed p b e in
        let used : length (used_of b) ≡ count_of b = length-take-le (count_of b) (drop 4 b) (omega (arith, length-drop 4 b, t.long, t.few)) in
        rw e (omega (arith, answers_short (calls_at b) h v, calls_few (length (used_of b)) (used_of b), used, t.few))
    go false e = rw e (omega arith)
