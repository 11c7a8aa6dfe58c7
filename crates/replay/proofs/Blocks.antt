-- One block, over plain values. Assumes nothing.
use Prim.Native.Nat.{ℕ, ◌+◌, ◌-◌, ◌<◌, ◌≤◌}
use native.Mathlib.Omega.{arith}
use mathlib.Core.Path.{◌≡◌, refl, sym, ◌∙◌, ap, subst}
use mathlib.Core.List.{List}
use mathlib.Core.Bool.{Bool, true, false, false≢true}
use borrow.Author.Tests.{le-leb, lt-leb}
use lib.ListN.{length, take, drop, length-drop}
use lib.Seq.{length-take-le}
use Rattle.std.proofs.Common.{Option, Some, None, Ok, Err, is_some, is_err}
use Rattle.recording.specs.Calls.{calls_of}
use Rattle.recording.specs.Written.{count_of, used_of}
use Rattle.recording.specs.Block.{Verdict, Good, verdict_of, is_good}
use Rattle.recording.proofs.Blocks.{Passed, passed}
use Rattle.hub.specs.declared.Hub.{Hub}
use Rattle.replay.specs.declared.Block.{Block}
use Rattle.replay.specs.declared.Counts.{Counts}
use Rattle.replay.specs.declared.Ran.{Ran}
use Rattle.replay.specs.Counting.{no_tally}
use Rattle.replay.specs.Replay.{block_played}
use Rattle.replay.specs.Code.{tally_in, counts_of, block_gives, block_writes}
use Rattle.replay.specs.Turn.{RunFits, RanAll}

pub part_is : (l : List ℕ) (n : ℕ) → n ≡ count_of l → take (4 + n - 4) (drop 4 l) ≡ used_of l
part_is l n e = let d : 4 + n - 4 ≡ n = omega arith in ap (λ (m : ℕ). take m (drop 4 l)) (d ∙ e)

used_few : (p : ℕ) (l : List ℕ) → Passed p l → length (used_of l) ≡ count_of l
used_few p l g = length-take-le (count_of l) (drop 4 l) (omega (arith, g.long, g.few, length-drop 4 l))

pub run_fits : {p : ℕ} {l m : List ℕ} {room : ℕ} → Passed p l → m ≡ used_of l → 37444 ≤ room → RunFits m room
run_fits {p = p} {l = l} {m = m} g e space =
    let n : length m ≡ count_of l = ap length e ∙ used_few p l g in
    record {
      used = omega (arith, n, g.few);
      records = ap (λ (x : List ℕ). is_some (calls_of x)) e ∙ g.records;
      space = omega (arith, n, g.few, space);
    }

-- ---- what is returned and left

pub not_err : (v : Verdict) {b : Bool} → b ≡ is_err v → b ≡ false → is_good v ≡ true
not_err (Ok u) e f = refl
not_err (Err x) e f = absurd (false≢true (sym f ∙ e))

pub is_bad : (v : Verdict) {b : Bool} → b ≡ is_err v → b ≡ true → is_good v ≡ false
is_bad (Ok u) e f = absurd (false≢true (sym e ∙ f))
is_bad (Err x) e f = refl

pub good_passed : (p : ℕ) (l : List ℕ) {v : Verdict} → v ≡ verdict_of p l → is_good v ≡ true → Passed p l
good_passed p l is good = passed p l (ap is_good (sym is) ∙ good)

good_is : (v : Verdict) → is_good v ≡ true → v ≡ Good
good_is (Ok tt) e = refl
good_is (Err f) e = absurd (false≢true e)

module _ (h : Hub) (p : ℕ) (l o : List ℕ) where
  abbrev pub Gives : Option Block → List ℕ → Type 0
  Gives r o' = (r ≡ block_gives h p l (length o)) × (o' ≡ block_writes h p l o)

  -- too little room
  pub block_small : length o < 37444 → Gives None o
  unfolding block_gives block_writes
  block_small small = (rw (lt-leb 37444 (length o) small), rw (lt-leb 37444 (length o) small))

  module _ (room : 37444 ≤ length o) (v : Verdict) (is : v ≡ verdict_of p l) where
    pub block_bad : (c : Counts) → is_good v ≡ false → tally_in c ≡ no_tally → Gives (Some (record { hub = h; verdict = v; counts = c; written = 0 })) o
    unfolding block_gives block_writes block_played
    block_bad c bad zero = (
      rw (le-leb 37444 (length o) room, ← is, bad) (λ i. Some (record { hub = h; verdict = v; counts = counts_of (zero i); written = 0 })),
      rw (le-leb 37444 (length o) room, ← is, bad),
    )

    pub block_good : (m o' : List ℕ) (r : Ran) → is_good v ≡ true → m ≡ used_of l → RanAll h r m o o'
        → Gives (Some (record { hub = r.hub; verdict = v; counts = r.counts; written = r.written })) o'
    unfolding block_gives block_writes block_played
    block_good m o' r good u a =
        let w : RanAll h r (used_of l) o o' = subst (λ (x : List ℕ). RanAll h r x o o') u a in (
          rw (le-leb 37444 (length o) room, ← is, good)
              (λ i. Some (record { hub = w.hub i; verdict = good_is v good i; counts = counts_of (w.tally i); written = w.written i })),
          rw (le-leb 37444 (length o) room, ← is, good) w.out,
        )
