-- Demand 3 over whole runs of the rules. Assumes nothing.
use mathlib.Core.Path.{◌≡◌, refl, sym, ◌∙◌, ap, ap₂}
use Rattle.std.specs.Prelude.{Option, Some}
use mathlib.Core.List.{List, [], ◌∷◌, map}
use mathlib.Core.Bool.{Bool, true, false}
use lib.ListN.{length}
use Rattle.buffer.specs.declared.Slot.{Slot}
use Rattle.buffer.specs.declared.Slot.TheVariants.{Empty, Pending, Ready, Old}
use Rattle.buffer.specs.declared.Buffer.{Buffer}
use Rattle.translator.specs.declared.Translator.{Translator}
use Rattle.translator.specs.declared.LowSide.{LowSide}
use Rattle.translator.specs.declared.LowSide.TheVariants.{Idle, Running, Abandoned}
use Rattle.translator.specs.Translator.{at}
use Rattle.translator.proofs.Kept.{new_valid}
use Rattle.hub.specs.declared.Hub.{Hub}
use Rattle.hub.specs.Call.{Call, Control, Poll, Start, Complete, Launch, Deliver, Event as Line, Tick, BusReset, Answer, Outcome}
use Rattle.hub.specs.Step.{step}
use Rattle.hub.proofs.Numbers.{fits}
use Rattle.runs.specs.History.{History, Asks, nothing, starts, completes, launches, delivers, clears, resets, empties, asks, answer_key, is_open, For, last_for}
use Rattle.runs.specs.Machine.{Numbers, new_hub_of, rules, run_from}
use Rattle.runs.specs.Demand3.{Marks, only_key, every_key_of, SameCall, same, start, deliver, SameCalls, Excepted, SameAnswer, SameAnswers, Hidden, AllExplained, Demand3}
use Rattle.runs.proofs.Invariant.{LowOk, RunsFor, empty_kept}
use Rattle.runs.proofs.Kept.{ev, Tied}
use Rattle.runs.proofs.Steps.{step_kept}
use Rattle.runs.specs.Altered.{holds_key}
use Rattle.runs.proofs.Hiding.{blank, length-blank, hide_b, hide_t, shown, hide_at}
use Rattle.runs.proofs.HidingHub.{hide_h, hide_c, excepted, hide_a, hide_o, step_hide}

-- ---- a new hub

pub new_tied : (n : Numbers) → Tied [] (new_hub_of n).translator
unfolding is_open
new_tied n =
    let f = fits n.ports n.buffers n.powergood n.current n.removable n.fit in
    record { valid = new_valid n.buffers f.buffers_least f.buffers_most; inv = empty_kept [] (λ k. refl) }

-- ---- every data answer is explained by the history

all_explained : (cs : List Call) (h : History) (hub : Hub) → Tied h hub.translator → AllExplained h (run_from rules hub cs)
unfolding run_from AllExplained
all_explained [] h hub tied = tt
all_explained (c ∷ cs) h hub tied =
    let one = step_kept h hub tied c in
    (one.1, all_explained cs (ev c (step hub c).answer ∷ h) (step hub c).next one.0)

-- ---- two runs that differ in the marked bytes alone

module _ (m : Marks) where
  shown_hide : (bs : List Buffer) (l : LowSide) → shown m (map (hide_b m) bs) l ≡ shown m bs l
  shown_hide bs Idle = refl
  shown_hide bs (Running n) = rw (hide_at m bs n.0)
  shown_hide bs Abandoned = refl

  shown_same : (t u : Translator) → hide_t m t ≡ hide_t m u → shown m t.buffers t.low ≡ shown m u.buffers u.low
  shown_same t u e =
      sym (shown_hide t.buffers t.low) ∙ ap (λ (x : Translator). shown m x.buffers x.low) e ∙ shown_hide u.buffers u.low

  for_key : {x y : For} → ◌≡◌ {A = Option For} (Some x) (Some y) → x.key ≡ y.key
  for_key {x} {y} e = let p : x ≡ y = cc in ap (λ (z : For). z.key) p

  -- a delivery for a marked key may be blanked
  shown_for : (h : History) (t : Translator) (s : For) → Tied h t → last_for h ≡ Some s → m s.key ≡ true
      → shown m t.buffers t.low ≡ true
  shown_for h t s tied f k = go t.low tied.inv.low_ok
    where
      by : (x : Slot) → RunsFor h x → holds_key m x ≡ true
      by Empty w = absurd w
      by (Pending q p) w = ap m (for_key (sym w ∙ f)) ∙ k
      by (Ready q r) w = absurd w
      by (Old q r) w = absurd w

      go : (l : LowSide) → LowOk h t.buffers l → shown m t.buffers l ≡ true
      go Idle w = refl
      go (Running n) w = by (at t.buffers n.0).slot w
      go Abandoned w = refl

  pub call_hidden : (h : History) (g u : Hub) (c d : Call) → Tied h g.translator → hide_h m g ≡ hide_h m u → SameCall m (last_for h) c d → hide_c m g c ≡ hide_c m u d
  call_hidden h g u c d tied e (same x) = go x
    where
      go : (x : Call) → hide_c m g x ≡ hide_c m u x
      go (Control z s room) = refl
      go (Poll z room) = refl
      go (Start z p t f q a n l) = refl
      go (Complete z a n x room) = refl
      go (Launch room) = refl
      go (Deliver r l) = rw (shown_same g.translator u.translator (ap (λ (x : Hub). x.translator) e))
      go (Line x n) = refl
      go Tick = refl
      go BusReset = refl
  call_hidden h g u c d tied e (start z p t f q a n x y k l) = rw (k, l)
  call_hidden h g u c d tied e (deliver r x y s f k l) =
      rw (← shown_same g.translator u.translator (ap (λ (x : Hub). x.translator) e), shown_for h g.translator s tied f k, l)

  -- both calls ask the same but for bytes, which the exception doesn't see
  same_hidden : (l : Option For) (c d : Call) (a : Answer) → SameCall m l c d → hide_a m (asks d) a ≡ hide_a m (asks c) a
  unfolding asks
  same_hidden l c d a (same x) = refl
  same_hidden l c d a (start z p t f q b n x y k e) = refl
  same_hidden l c d a (deliver r x y s f k e) = refl

  unmarked : (b : Bool) → ¬ (b ≡ true) → b ≡ false
  unmarked true n = absurd (n refl)
  unmarked false n = refl

  not_excepted : (x : Asks) (a : Answer) → ¬ (Excepted m x a) → excepted m x a ≡ false
  not_excepted nothing a n = refl
  not_excepted (starts k) a n = refl
  not_excepted (completes k) a n = unmarked (m k) n
  not_excepted launches a n = unmarked (m (answer_key a)) n
  not_excepted (delivers r l) a n = refl
  not_excepted (clears k) a n = refl
  not_excepted (resets z) a n = refl
  not_excepted empties a n = refl

  -- answers that are the same once blanked
  answer_same : (c : Call) (a b : Answer) → hide_a m (asks c) a ≡ hide_a m (asks c) b → SameAnswer m c a b
  answer_same c a b e =
      record {
        number = ap (λ (x : Answer). x.number) e;
        pid = ap (λ (x : Answer). x.pid) e;
        transfer = ap (λ (x : Answer). x.transfer) e;
        lane = ap (λ (x : Answer). x.lane) e;
        address = ap (λ (x : Answer). x.address) e;
        endpoint = ap (λ (x : Answer). x.endpoint) e;
        direction = ap (λ (x : Answer). x.direction) e;
        lowspeed = ap (λ (x : Answer). x.lowspeed) e;
        toggle = ap (λ (x : Answer). x.toggle) e;
        size = sym (length-blank (excepted m (asks c) a) a.bytes) ∙ ap length shut ∙ length-blank (excepted m (asks c) b) b.bytes;
        bytes = λ n.
            let q : excepted m (asks c) a ≡ false = not_excepted (asks c) a n in
            ap (λ (x : Bool). blank x a.bytes) (sym q) ∙ shut ∙ ap (λ (x : Bool). blank x b.bytes) (sym (excepted_same (asks c)) ∙ q);
      }
    where
      shut : blank (excepted m (asks c) a) a.bytes ≡ blank (excepted m (asks c) b) b.bytes
      shut = ap (λ (x : Answer). x.bytes) e

      excepted_same : (x : Asks) → excepted m x a ≡ excepted m x b
      excepted_same nothing = refl
      excepted_same (starts k) = refl
      excepted_same (completes k) = refl
      excepted_same launches = ap (λ (x : Answer). m (answer_key x)) e
      excepted_same (delivers r l) = refl
      excepted_same (clears k) = refl
      excepted_same (resets z) = refl
      excepted_same empties = refl

  -- one call of each run: the answers agree but for the marked bytes, and so do the hubs left
  pub step_same : (h : History) (g u : Hub) (c d : Call) → Tied h g.translator → hide_h m g ≡ hide_h m u → SameCall m (last_for h) c d
      → SameAnswer m c (step g c).answer (step u d).answer × (hide_h m (step g c).next ≡ hide_h m (step u d).next)
  step_same h g u c d tied e s = (
    answer_same c (step g c).answer (step u d).answer
        (ap (λ (o : Outcome). o.answer) hidden ∙ same_hidden (last_for h) c d (step u d).answer s),
    ap (λ (o : Outcome). o.next) hidden,
  )
    where
      hidden : hide_o m (asks c) (step g c) ≡ hide_o m (asks d) (step u d)
      hidden = sym (step_hide m g c) ∙ ap₂ step e (call_hidden h g u c d tied e s) ∙ step_hide m u d

  runs_same : (cs ds : List Call) (h : History) (g u : Hub) → Tied h g.translator → hide_h m g ≡ hide_h m u → SameCalls m h (run_from rules g cs) (run_from rules u ds)
      → SameAnswers m (run_from rules g cs) (run_from rules u ds)
  unfolding run_from SameCalls SameAnswers
  runs_same [] [] h g u tied e s = tt
  runs_same [] (d ∷ ds) h g u tied e s = s
  runs_same (c ∷ cs) [] h g u tied e s = s
  runs_same (c ∷ cs) (d ∷ ds) h g u tied e s =
      let one = step_same h g u c d tied e s.0 in
      (one.0, runs_same cs ds (ev c (step g c).answer ∷ h) (step g c).next (step u d).next (step_kept h g tied c).0 one.1 s.1)

hidden : (m : Marks) → Hidden rules m
hidden m n k cs ds e s = runs_same m cs ds [] (new_hub_of n) (new_hub_of k) (new_tied n) (ap (hide_h m) e) s

pub demand_3 : Demand3 rules
demand_3 =
    record {
      set_hidden = hidden;
      mark_hidden = λ m. hidden (only_key m);
      lane_hidden = λ z. hidden (every_key_of z);
      data_explained = λ n cs. all_explained cs [] (new_hub_of n) (new_tied n);
    }
