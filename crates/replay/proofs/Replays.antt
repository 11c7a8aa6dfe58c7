-- Block by block gives the run of all calls before the first bad block. Assumes nothing.
use Prim.Native.Nat.{ℕ, ◌+◌}
use native.Mathlib.Omega.{arith}
use mathlib.Core.Path.{◌≡◌, refl, sym, ◌∙◌, ap, ap₂, subst}
use mathlib.Core.List.{List, [], ◌∷◌, ◌++◌, append_assoc}
use mathlib.Core.Bool.{Bool, true, false}
use lib.ListN.{length}
use Rattle.std.proofs.Common.{Ok, Err}
use Rattle.hub.specs.declared.Hub.{Hub}
use Rattle.hub.specs.Call.{Call}
use Rattle.hub.specs.Step.{step}
use Rattle.runs.specs.History.{Event}
use Rattle.runs.specs.Machine.{rules, run_from, after_from, new_hub_of}
use Rattle.runs.specs.Tally.{Tally, active_buffers}
use Rattle.runs.proofs.Tallied.{tally_holds}
use Rattle.recording.specs.Block.{Verdict, Good, verdict_of, is_good, calls_at}
use Rattle.recording.specs.Written.{IsBlock}
use Rattle.recording.proofs.Blocks.{block_is_good, block_exact_lem}
use Rattle.replay.specs.Answers.{answer_bytes, answers_in}
use Rattle.replay.specs.Counting.{no_tally, plus, is_complete, tallied_by, tallied}
use Rattle.replay.specs.Replay.{Recording, calls_from, stop_from, Stop, Replayed, replay_of, Played, and_then, Player, replay_from, ReplayExact, ReplayAddsUp, played_none, block_played, by_value, ReplayClaims, blocks_of, AllWritable, joined, RecordedReplays}
use Rattle.replay.proofs.Tallying.{tally_is, counted}

-- ---- calls behind calls

answers_append : (es fs : List Event) → answers_in (es ++ fs) ≡ answers_in es ++ answers_in fs
unfolding answers_in
answers_append [] fs = refl
answers_append (e ∷ es) fs =
    ap (λ (x : List ℕ). answer_bytes e.answer ++ x) (answers_append es fs)
    ∙ sym (append_assoc (answer_bytes e.answer) (answers_in es) (answers_in fs))

run-append : (h : Hub) (cs ds : List Call) → run_from rules h (cs ++ ds) ≡ run_from rules h cs ++ run_from rules (after_from rules h cs) ds
unfolding run_from after_from
run-append h [] ds = refl
run-append h (c ∷ cs) ds = ap (λ (x : List Event). record { call = c; answer = (step h c).answer } ∷ x) (run-append (step h c).next cs ds)

after-append : (h : Hub) (cs ds : List Call) → after_from rules h (cs ++ ds) ≡ after_from rules (after_from rules h cs) ds
unfolding after_from
after-append h [] ds = refl
after-append h (c ∷ cs) ds = after-append (step h c).next cs ds

tallied-append : (h : Hub) (cs ds : List Call) (t : Tally) → tallied h (cs ++ ds) t ≡ tallied (after_from rules h cs) ds (tallied h cs t)
unfolding after_from tallied
tallied-append h [] ds t = refl
tallied-append h (c ∷ cs) ds t = tallied-append (step h c).next cs ds (tallied_by (is_complete c) _ _ t)

-- ---- parts of a tally

by_plus : (complete : Bool) (before after : ℕ) (t u : Tally)
    → plus (tallied_by complete before after t) u ≡ plus t (plus (tallied_by complete before after no_tally) u)
by_plus true before after t u = tally_is _ _ (omega arith) (omega arith) (omega arith)
by_plus false before after t u = tally_is _ _ (omega arith) (omega arith) (omega arith)

-- a count that starts from t is t and the count from zero
tallied-plus : (cs : List Call) (h : Hub) (t : Tally) → tallied h cs t ≡ plus t (tallied h cs no_tally)
unfolding tallied
tallied-plus [] h t = tally_is _ _ (omega arith) (omega arith) (omega arith)
tallied-plus (c ∷ cs) h t =
    tallied-plus cs (step h c).next (tallied_by (is_complete c) (active_buffers h) (active_buffers (step h c).next) t)
    ∙ by_plus (is_complete c) (active_buffers h) (active_buffers (step h c).next) t (tallied (step h c).next cs no_tally)
    ∙ ap (plus t) (sym (tallied-plus cs (step h c).next (tallied_by (is_complete c) (active_buffers h) (active_buffers (step h c).next) no_tally)))

-- ---- block by block

-- calls that are run on a hub, up to a stop
abbrev ran_to : Hub → List Call → Stop → Replayed Hub
ran_to h cs s =
    record { output = answers_in (run_from rules h cs); state = after_from rules h cs; tally = tallied h cs no_tally; stop = s }

-- some calls, then what is behind them
abbrev behind : Hub → List Call → Replayed Hub → Replayed Hub
behind h cs r =
    record { output = answers_in (run_from rules h cs) ++ r.output; state = r.state; tally = plus (tallied h cs no_tally) r.tally; stop = r.stop }

behind_ran : (h : Hub) (cs ds : List Call) (s : Stop) → behind h cs (ran_to (after_from rules h cs) ds s) ≡ ran_to h (cs ++ ds) s
behind_ran h cs ds s =
    λ i. record { output = output i; state = sym (after-append h cs ds) i; tally = tally i; stop = s }
  where
    output : answers_in (run_from rules h cs) ++ answers_in (run_from rules (after_from rules h cs) ds) ≡ answers_in (run_from rules h (cs ++ ds))
    output = sym (answers_append (run_from rules h cs) (run_from rules (after_from rules h cs) ds)) ∙ ap answers_in (sym (run-append h cs ds))

    tally : plus (tallied h cs no_tally) (tallied (after_from rules h cs) ds no_tally) ≡ tallied h (cs ++ ds) no_tally
    tally = sym (tallied-plus ds (after_from rules h cs) (tallied h cs no_tally)) ∙ sym (tallied-append h cs ds no_tally)

bad_stops : (p : ℕ) (a : Played Hub) (r : Replayed Hub) → is_good a.verdict ≡ false
    → and_then p a r ≡ record { output = a.output; state = a.state; tally = a.tally; stop = record { verdict = a.verdict; place = p } }
bad_stops p a r e = rw e

-- from any hub and place
blocks_run : (bs : Recording) (h : Hub) (p : ℕ) → replay_from by_value h p bs ≡ ran_to h (calls_from p bs) (stop_from p bs)
unfolding replay_from calls_from stop_from block_played answers_in run_from after_from tallied
blocks_run [] h p = refl
blocks_run (b ∷ bs) h p = go (is_good (verdict_of p b)) refl (blocks_run bs (after_from rules h (calls_at b)) (p + 1))
  where
    left : Hub
    left = after_from rules h (calls_at b)

    go : (x : Bool) → is_good (verdict_of p b) ≡ x
        → replay_from by_value left (p + 1) bs ≡ ran_to left (calls_from (p + 1) bs) (stop_from (p + 1) bs)
        → replay_from by_value h p (b ∷ bs) ≡ ran_to h (calls_from p (b ∷ bs)) (stop_from p (b ∷ bs))
    go true e rest = rw e (ap (behind h (calls_at b)) rest ∙ behind_ran h (calls_at b) (calls_from (p + 1) bs) (stop_from (p + 1) bs))
    go false e rest = rw e (bad_stops p (played_none h (verdict_of p b)) _ e)

by_value_lem : ReplayExact by_value
by_value_lem n bs =
    blocks_run bs (new_hub_of n) 1
    ∙ ap (λ (t : Tally). record { output = (replay_of n bs).output; state = (replay_of n bs).state; tally = t; stop = stop_from 1 bs })
    (counted n (calls_from 1 bs))

-- the sum of the tally over the history, at the end of what is replayed
pub sums : (w : Player) → ReplayExact w → ReplayAddsUp w
sums w exact m bs =
    subst (λ (r : Replayed Hub). r.tally.stored ≡ r.tally.answered + r.tally.emptied + active_buffers r.state) (sym (exact m bs))
    (tally_holds (w.numbers m) (calls_from 1 bs))

-- ---- what was recorded

not_good : (v : Verdict) → ¬ (v ≡ Good) → is_good v ≡ false
not_good (Ok tt) n = absurd (n refl)
not_good (Err f) n = refl

recorded : (p : ℕ) (css : List (List Call)) → AllWritable p css → RecordedReplays p css
unfolding blocks_of AllWritable joined calls_from stop_from
recorded p [] w =
    record {
      calls = refl;
      good = ap (λ (n : ℕ). record { verdict = Good; place = n }) (omega arith);
      bad = λ b bs y none. (
          let n : ¬ (verdict_of p b ≡ Good) = (block_exact_lem.refused p b y).1 (λ cs i. none cs (subst (λ (q : ℕ). IsBlock q cs b) (omega arith) i)) in
          let f : is_good (verdict_of p b) ≡ false = not_good (verdict_of p b) n in
          (rw f, rw f (omega arith)));
    }
recorded p (cs ∷ css) w =
    let g = block_is_good p cs w.0 in
    let r : RecordedReplays (p + 1) css = recorded (p + 1) css w.1 in
    let next : p + 1 + length css ≡ p + length (cs ∷ css) = omega arith in
    record {
      calls = rw g.0 (ap₂ ◌++◌ g.1 r.calls);
      good = rw g.0 (r.good ∙ ap (λ (n : ℕ). record { verdict = Good; place = n }) next);
      bad = λ b bs y none. (
          let t = r.bad b bs y (λ ds i. none ds (subst (λ (q : ℕ). IsBlock q ds b) next i)) in
          (rw g.0 (ap₂ ◌++◌ g.1 t.0), rw g.0 (t.1 ∙ next)));
    }

pub replay_claims_lem : ReplayClaims
replay_claims_lem = record { exact = by_value_lem; adds_up = sums by_value by_value_lem; recorded = recorded 1 }
