-- One record of a block, over plain values. Assumes nothing.
use Prim.Native.Nat.{ℕ, ◌+◌, ◌-◌, ◌<◌, ◌≤◌}
use native.Mathlib.Omega.{arith}
use mathlib.Core.Path.{◌≡◌, refl, sym, ◌∙◌, ap, ap₂}
use mathlib.Core.List.{List, ◌++◌, append-nil}
use mathlib.Core.Bool.{Bool, true, false, false≢true}
use lib.ListN.{length, take, drop, length-drop}
use lib.Seq.{drop-drop, drop-length}
use borrow.Rule.Slice.PartMut.{put_mid}
use Rattle.hub.specs.declared.Stepped.{Stepped}
use Rattle.hub.specs.Method.{outcome_of}
use Rattle.hub.specs.Call.{Call, Outcome}
use Rattle.hub.specs.Step.{step}
use Rattle.runs.specs.Tally.{Tally, active_buffers}
use Rattle.call_bytes.specs.declared.CallKind.{CallKind}
use Rattle.call_bytes.specs.declared.CallKind.TheVariants as kind
use Rattle.call_bytes.specs.declared.Recorded.{Recorded}
use Rattle.std.proofs.Common.{Some, None, is_some}
use Rattle.call_bytes.specs.Table.{call_of}
use Rattle.call_bytes.specs.Read.{read_of}
use Rattle.call_bytes.proofs.Exact.{read_size, read_parts}
use Rattle.recording.specs.Calls.{calls_of}
use Rattle.recording.proofs.Rows.{none_there, tail_is}
use Rattle.replay.specs.declared.Counts.{Counts}
use Rattle.replay.specs.declared.Ran.{Ran}
use Rattle.replay.specs.Answers.{answer_bytes, put_first}
use Rattle.replay.specs.Counting.{is_complete_kind, is_complete, tallied_by}
use Rattle.replay.specs.Code.{tally_in}
use Rattle.replay.specs.Turn.{AtMost, TurnFits, call_there, Turned}

-- where records are left, one stands there
pub known_there : (l : List ℕ) → 0 < length l → is_some (calls_of l) ≡ true → ¬ (read_of l ≡ None)
known_there l h e n = false≢true (sym (none_there l h n) ∙ e)

pub record There (l : List ℕ) (at : ℕ) (r : Recorded) : Type 0 where
  pub more : 1 ≤ r.length
  pub parts : r.start + r.size ≡ r.length
  pub ends : at + r.length ≤ length l
  pub call : call_of r.kind r.numbers (take (at + r.start + r.size - (at + r.start)) (drop (at + r.start) l)) ≡ call_there r at l

pub there : {l : List ℕ} {at : ℕ} {r : Recorded} → read_of (drop at l) ≡ Some r → There l at r
there {l} {at} {r} e =
    let s = read_size (drop at l) r e in
    let d : at + r.start + r.size - (at + r.start) ≡ r.size = omega arith in
    record {
      more = s.0;
      parts = read_parts (drop at l) r e;
      ends = omega (arith, s.0, s.1, length-drop at l);
      call = ap₂ (λ (m : ℕ) (x : List ℕ). call_of r.kind r.numbers (take m x)) d (sym (drop-drop r.start at l));
    }

kind_complete : (k : CallKind) (ns b : List ℕ) → is_complete (call_of k ns b) ≡ is_complete_kind k
kind_complete kind.Control ns b = refl
kind_complete kind.Poll ns b = refl
kind_complete kind.StartSplit ns b = refl
kind_complete kind.CompleteSplit ns b = refl
kind_complete kind.Launch ns b = refl
kind_complete kind.Deliver ns b = refl
kind_complete kind.LineEvent ns b = refl
kind_complete kind.Tick ns b = refl
kind_complete kind.BusReset ns b = refl

-- a part of the output that reaches to its end
end_put : (o o₁ : List ℕ) (w : ℕ) → w ≤ length o → put_mid w (length o - w) o o₁ ≡ take w o ++ o₁
end_put o o₁ w h =
    let e : length o - w ≡ length (drop w o) = sym (length-drop w o) in
    ap (λ (x : List ℕ). take w o ++ (o₁ ++ x)) (ap (λ (n : ℕ). drop n (drop w o)) e ∙ drop-length (drop w o))
    ∙ ap (λ (x : List ℕ). take w o ++ x) (append-nil o₁)

most_by : (comp : Bool) (a b : Counts) (before after : ℕ) → before ≤ 4 → after ≤ 4
    → tally_in b ≡ tallied_by comp before after (tally_in a) → AtMost a b 4
most_by true a b before after p q e =
    record {
      stored = omega (arith, ap (λ (t : Tally). t.stored) e);
      answered = omega (arith, ap (λ (t : Tally). t.answered) e);
      emptied = omega (arith, ap (λ (t : Tally). t.emptied) e);
    }
most_by false a b before after p q e =
    record {
      stored = omega (arith, ap (λ (t : Tally). t.stored) e);
      answered = omega (arith, ap (λ (t : Tally). t.answered) e);
      emptied = omega (arith, ap (λ (t : Tally). t.emptied) e);
    }

-- the call of the record r, as the code hands its bytes over
abbrev called_by : Ran → List ℕ → Recorded → Call
called_by ran l r =
    call_of r.kind r.numbers (take (ran.at + r.start + r.size - (ran.at + r.start)) (drop (ran.at + r.start) l))

pub turned : {ran : Ran} {l : List ℕ} (o : List ℕ) {o₁ : List ℕ} {r : Recorded} (said : Stepped) {t : Counts} {comp : Bool} {before after n : ℕ}
    → TurnFits ran r l (length o)
    → outcome_of said ≡ step ran.hub (called_by ran l r)
    → comp ≡ is_complete_kind r.kind
    → (before ≡ active_buffers ran.hub) × (before ≤ 4) → (after ≡ active_buffers said.hub) × (after ≤ 4)
    → tally_in t ≡ tallied_by comp before after (tally_in ran.counts)
    → (n ≡ length (answer_bytes (outcome_of said).answer)) × (n ≤ 74)
    → o₁ ≡ put_first (answer_bytes (outcome_of said).answer) (take (length o - ran.written) (drop ran.written o))
    → Turned ran r (record { hub = said.hub; counts = t; at = ran.at + r.length; written = ran.written + n }) l o
    (put_mid ran.written (length o - ran.written) o o₁)
turned {ran} {l} o {o₁} {r} said {t} {comp} {before} {after} {n} fits es ec eb ea et en eo =
    record {
      hub = ap (λ (x : Outcome). x.next) does;
      tally =
          et
          ∙ ap₂ (λ (x : Bool) (y : ℕ). tallied_by x y after (tally_in ran.counts)) whether eb.0
          ∙ ap (tallied_to (tally_in ran.counts)) (ea.0 ∙ ap (λ (x : Outcome). active_buffers x.next) does);
      most = most_by comp ran.counts t before after eb.1 ea.1 et;
      at = refl;
      written = ap (λ (x : ℕ). ran.written + x) (en.0 ∙ ap (λ (x : Outcome). length (answer_bytes x.answer)) does);
      short = omega (arith, en.1);
      out =
          end_put o o₁ ran.written (omega (arith, fits.space))
          ∙ ap (λ (x : List ℕ). take ran.written o ++ x)
          (eo
          ∙ ap (put_first (answer_bytes (outcome_of said).answer)) (tail_is o ran.written)
          ∙ ap (λ (x : Outcome). put_first (answer_bytes x.answer) (drop ran.written o)) does);
    }
  where
    th : There l ran.at r
    th = there fits.there

    does : outcome_of said ≡ step ran.hub (call_there r ran.at l)
    does = es ∙ ap (step ran.hub) th.call

    whether : comp ≡ is_complete (call_there r ran.at l)
    whether = ec ∙ sym (kind_complete r.kind r.numbers _) ∙ ap is_complete th.call

    tallied_to : Tally → ℕ → Tally
    tallied_to t after = tallied_by (is_complete (call_there r ran.at l)) (active_buffers ran.hub) after t
