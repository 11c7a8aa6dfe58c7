-- All records of a block: what is left still gives the whole. Assumes nothing.
use Prim.Native.Nat.{ℕ, ◌+◌, ◌-◌, ◌*◌, ◌<◌, ◌≤◌}
use native.Mathlib.Omega.{arith}
use mathlib.Core.Path.{◌≡◌, refl, sym, ◌∙◌, ap, ap₂}
use mathlib.Core.List.{List, [], ◌∷◌, ◌++◌, append_assoc, append-nil}
use mathlib.Core.Bool.{Bool, true, false, false≢true}
use borrow.Author.Tests.{leb-true, leb-false}
use lib.Dec.{leb}
use lib.ListN.{length, take, drop, length-append, length-drop, take-append-drop}
use lib.Seq.{drop-drop, length-take-le, take-append-add, drop-append-add, take-append_seam, drop-append_seam}
use Rattle.hub.specs.declared.Hub.{Hub}
use Rattle.hub.specs.Call.{Call}
use Rattle.hub.specs.Step.{step}
use Rattle.runs.specs.Machine.{rules, run_from, after_from}
use Rattle.std.proofs.Common.{Option, Some, None, is_some}
use Rattle.runs.specs.Tally.{Tally}
use Rattle.call_bytes.specs.declared.Recorded.{Recorded}
use Rattle.call_bytes.specs.Read.{read_of}
use Rattle.recording.specs.Calls.{cons_to, calls_of, listed}
use Rattle.recording.proofs.Rows.{calls_known, tail_is, at_end}
use Rattle.replay.specs.declared.Counts.{Counts}
use Rattle.replay.specs.declared.Ran.{Ran}
use Rattle.replay.specs.Answers.{answer_bytes, answers_in}
use Rattle.replay.specs.Counting.{no_tally, tallied}
use Rattle.replay.specs.Code.{tally_in}
use Rattle.replay.specs.Turn.{AtMost, TurnFits, call_there, Turned, RunFits, RanAll}
use Rattle.replay.proofs.Turning.{known_there, There, there}

-- counts of zero
pub zero_counts : {c : Counts} → (c.stored ≡ 0) × ((c.answered ≡ 0) × (c.emptied ≡ 0)) → tally_in c ≡ no_tally
zero_counts z = λ i. record { stored = z.0 i; answered = z.1.0 i; emptied = z.1.1 i }

-- what the code reads at a byte is what stands there
pub read_at : (l : List ℕ) (at : ℕ) {o p : Option Recorded} → o ≡ read_of (take (length l - at) (drop at l)) → o ≡ p → read_of (drop at l) ≡ p
read_at l at e f = ap read_of (sym (tail_is l at)) ∙ sym e ∙ f

-- the calls that are left
abbrev pub left : ℕ → List ℕ → List Call
left at l = listed (calls_of (drop at l))

pub record Going (h₀ : Hub) (c₀ : Counts) (l o₀ : List ℕ) (ran : Ran) (o : List ℕ) : Type 0 where
  pub inside : ran.at ≤ length l
  pub records : is_some (calls_of (drop ran.at l)) ≡ true
  pub few : ran.written ≤ 74 * ran.at
  pub same : length o ≡ length o₀
  pub behind : drop ran.written o ≡ drop ran.written o₀
  pub answers : take ran.written o ++ answers_in (run_from rules ran.hub (left ran.at l)) ≡ answers_in (run_from rules h₀ (listed (calls_of l)))
  pub after : after_from rules ran.hub (left ran.at l) ≡ after_from rules h₀ (listed (calls_of l))
  pub tally : tallied ran.hub (left ran.at l) (tally_in ran.counts) ≡ tallied h₀ (listed (calls_of l)) (tally_in c₀)
  pub most : AtMost c₀ ran.counts (4 * ran.at)

pub going_start : {h₀ : Hub} {c₀ : Counts} {l o₀ : List ℕ} → RunFits l (length o₀)
    → Going h₀ c₀ l o₀ (record { hub = h₀; counts = c₀; at = 0; written = 0 }) o₀
going_start f =
    record {
      inside = omega arith;
      records = f.records;
      few = omega arith;
      same = refl;
      behind = refl;
      answers = refl;
      after = refl;
      tally = refl;
      most = record { stored = omega arith; answered = omega arith; emptied = omega arith };
    }

module _ {h₀ : Hub} {c₀ : Counts} {l o₀ : List ℕ} (f : RunFits l (length o₀)) (z : tally_in c₀ ≡ no_tally) {ran : Ran} {o : List ℕ} (g : Going h₀ c₀ l o₀ ran o) where
  -- the record that stands at the byte reached
  module _ {taken : Recorded} (e : read_of (drop ran.at l) ≡ Some taken) where
    stands : There l ran.at taken
    stands = there e

    pub going_fits : TurnFits ran taken l (length o)
    going_fits =
        record {
          used = f.used;
          there = e;
          few = g.few;
          space = omega (arith, f.space, g.few, g.same, stands.more, stands.ends);
          counts =
              record {
                stored = omega (arith, f.used, ap (λ (t : Tally). t.stored) z, g.most.stored, stands.ends);
                answered = omega (arith, f.used, ap (λ (t : Tally). t.answered) z, g.most.answered, stands.ends);
                emptied = omega (arith, f.used, ap (λ (t : Tally). t.emptied) z, g.most.emptied, stands.ends);
              };
        }

    some_rest : (c : Call) (x : Option (List Call)) → is_some (cons_to c x) ≡ true → (is_some x ≡ true) × (listed (cons_to c x) ≡ c ∷ listed x)
    some_rest c None e = absurd (false≢true e)
    some_rest c (Some cs) e = (refl, refl)

    pub going_turn : {r : Ran} {o' : List ℕ} → Turned ran taken r l o o' → Going h₀ c₀ l o₀ r o'
    unfolding answers_in run_from after_from tallied
    going_turn {r} t =
        record {
          inside = omega (arith, stands.ends, t.at);
          records = ap (λ (n : ℕ). is_some (calls_of (drop n l))) t.at ∙ rest.0;
          few = omega (arith, g.few, t.short, t.at, stands.more);
          same = ap length t.out ∙ longer ∙ g.same;
          behind =
              ap₂ (λ (n : ℕ) (x : List ℕ). drop n x) t.written t.out
              ∙ tail
              ∙ ap (drop (length ab)) g.behind
              ∙ drop-drop (length ab) ran.written o₀
              ∙ ap (λ (n : ℕ). drop n o₀) (sym t.written);
          answers =
              ap₂ ◌++◌ (ap₂ (λ (n : ℕ) (x : List ℕ). take n x) t.written t.out ∙ front)
              (ap₂ (λ (x : Hub) (n : ℕ). answers_in (run_from rules x (left n l))) t.hub t.at)
              ∙ append_assoc (take ran.written o) ab (answers_in (run_from rules (step ran.hub c).next (left (ran.at + n₁) l)))
              ∙ ap (λ (cs : List Call). take ran.written o ++ answers_in (run_from rules ran.hub cs)) (sym calls)
              ∙ g.answers;
          after =
              ap₂ (λ (x : Hub) (n : ℕ). after_from rules x (left n l)) t.hub t.at
              ∙ ap (after_from rules ran.hub) (sym calls)
              ∙ g.after;
          tally =
              ap₂ (λ (x : Hub) (n : ℕ). tallied x (left n l) (tally_in r.counts)) t.hub t.at
              ∙ ap (tallied (step ran.hub c).next (left (ran.at + n₁) l)) t.tally
              ∙ ap (λ (cs : List Call). tallied ran.hub cs (tally_in ran.counts)) (sym calls)
              ∙ g.tally;
          most =
              record {
                stored = omega (arith, g.most.stored, t.most.stored, t.at, stands.more);
                answered = omega (arith, g.most.answered, t.most.answered, t.at, stands.more);
                emptied = omega (arith, g.most.emptied, t.most.emptied, t.at, stands.more);
              };
        }
      where
        c : Call
        c = call_there taken ran.at l

        ab : List ℕ
        ab = answer_bytes (step ran.hub (call_there taken ran.at l)).answer

        n₁ : ℕ
        n₁ = taken.length

        whole : calls_of (drop ran.at l) ≡ cons_to (call_there taken ran.at l) (calls_of (drop (ran.at + taken.length) l))
        whole =
            calls_known (drop ran.at l) taken e
            ∙ ap (λ (m : List ℕ). cons_to (call_there taken ran.at l) (calls_of m)) (drop-drop taken.length ran.at l)

        behind_it : Option (List Call)
        behind_it = calls_of (drop (ran.at + taken.length) l)

        rest : (is_some behind_it ≡ true) × (listed (cons_to (call_there taken ran.at l) behind_it) ≡ call_there taken ran.at l ∷ listed behind_it)
        rest = some_rest (call_there taken ran.at l) (calls_of (drop (ran.at + taken.length) l)) (ap is_some (sym whole) ∙ g.records)

        calls : left ran.at l ≡ call_there taken ran.at l ∷ left (ran.at + taken.length) l
        calls = ap listed whole ∙ rest.1

        first : length (take ran.written o) ≡ ran.written
        first = length-take-le ran.written o (omega (arith, g.few, g.same, f.space, stands.more, stands.ends))

        put : List ℕ
        put = take ran.written o ++ (ab ++ drop (length ab) (drop ran.written o))

        front : take (ran.written + length ab) put ≡ take ran.written o ++ ab
        front =
            ap (λ (n : ℕ). take (n + length ab) put) (sym first)
            ∙ take-append-add (take ran.written o) (ab ++ drop (length ab) (drop ran.written o)) (length ab)
            ∙ ap (λ (x : List ℕ). take ran.written o ++ x) (take-append_seam ab (drop (length ab) (drop ran.written o)))

        tail : drop (ran.written + length ab) put ≡ drop (length ab) (drop ran.written o)
        tail =
            ap (λ (n : ℕ). drop (n + length ab) put) (sym first)
            ∙ drop-append-add (take ran.written o) (ab ++ drop (length ab) (drop ran.written o)) (length ab)
            ∙ drop-append_seam ab (drop (length ab) (drop ran.written o))

        fitted : length ab ≤ length (drop ran.written o)
        fitted = omega (arith, t.written, t.short, length-drop ran.written o, g.few, g.same, f.space, stands.more, stands.ends)

        longer : length put ≡ length o
        longer =
            omega (
              arith,
              length-append (take ran.written o) (ab ++ drop (length ab) (drop ran.written o)),
              length-append ab (drop (length ab) (drop ran.written o)),
              length-drop (length ab) (drop ran.written o),
              length-drop ran.written o,
              first,
              fitted,
              g.few,
              g.same,
              f.space,
              stands.more,
              stands.ends,
            )

    pub turn_more : {r : Ran} {o' : List ℕ} → Turned ran taken r l o o' → ran.at < r.at
    turn_more t = omega (arith, t.at, stands.more)

  -- no record stands at the end only
  pub going_ends : read_of (drop ran.at l) ≡ None → length l ≤ ran.at
  going_ends e = go (leb (length l) ran.at) refl
    where
      go : (x : Bool) → leb (length l) ran.at ≡ x → length l ≤ ran.at
      go true q = leb-true (length l) ran.at q
      go false q =
          absurd (known_there (drop ran.at l) (omega (arith, length-drop ran.at l, leb-false (length l) ran.at q)) g.records e)

  pub going_end : length l ≤ ran.at → RanAll h₀ ran l o₀ o
  unfolding answers_in run_from after_from tallied
  going_end h =
      record {
        hub = ap (after_from rules ran.hub) (sym none_left) ∙ g.after;
        tally =
            ap (λ (cs : List Call). tallied ran.hub cs (tally_in ran.counts)) (sym none_left)
            ∙ g.tally
            ∙ ap (tallied h₀ (listed (calls_of l))) z;
        most =
            record {
              stored = omega (arith, ap (λ (t : Tally). t.stored) z, g.most.stored, g.inside);
              answered = omega (arith, ap (λ (t : Tally). t.answered) z, g.most.answered, g.inside);
              emptied = omega (arith, ap (λ (t : Tally). t.emptied) z, g.most.emptied, g.inside);
            };
        written = sym first ∙ ap length all;
        short = omega (arith, g.few, g.inside);
        out = sym (take-append-drop ran.written o) ∙ ap₂ ◌++◌ all (g.behind ∙ ap (λ (n : ℕ). drop n o₀) (sym first ∙ ap length all));
      }
    where
      none_left : left ran.at l ≡ []
      none_left = ap listed (at_end l ran.at h)

      all : take ran.written o ≡ answers_in (run_from rules h₀ (listed (calls_of l)))
      all =
          sym (append-nil (take ran.written o))
          ∙ ap (λ (cs : List Call). take ran.written o ++ answers_in (run_from rules ran.hub cs)) (sym none_left)
          ∙ g.answers

      first : length (take ran.written o) ≡ ran.written
      first = length-take-le ran.written o (omega (arith, g.few, g.same, f.space, g.inside))
