-- What became of a start-split, and the keys that are open: laws of any history. Assumes nothing.
use Prim.Native.Nat.{ℕ, ◌≤◌}
use native.Mathlib.Omega.{arith}
use mathlib.Core.Path.{◌≡◌, refl, sym, ◌∙◌, ap}
use mathlib.Core.List.{[], ◌∷◌}
use mathlib.Core.Bool.{Bool, true, false, cond, not, ◌&&◌, ◌||◌, and-eq-true_iff, false≢true, true≢false, and-false, or-true}
use borrow.Author.Tests.{eq-eqb, ne_eqb, eqb-true}
use lib.ListN.{length}
use lib.Dec.{eqb}
use Rattle.buffer.specs.declared.Lane.{Lane}
use Rattle.buffer.specs.declared.Key.{Key}
use Rattle.buffer.specs.Same.{same_key}
use Rattle.buffer.specs.Key.{same_lane}
use Rattle.buffer.proofs.Keys.{same_true, same_refl, same_eq}
use Rattle.numbers.specs.Named.{lane_from}
use Rattle.std.specs.Prelude.{Some, None, Option}
use Rattle.request.specs.declared.Kind.{Kind}
use Rattle.request.specs.declared.Kind.TheVariants as kind
use Rattle.request.specs.Setup.{setup_of}
use Rattle.request.specs.Table.{kind_of}
use Rattle.hub.specs.Call.{Call, Control, Poll, Start, Complete, Launch, Deliver, Event as Line, Tick, BusReset}
use Rattle.runs.specs.History.{History, Asks, nothing, starts, completes, launches, delivers, clears, resets, empties, request_asks, asks, is_done, gives_result, open_after, is_open, stores, last_stored, is_at}
use Rattle.runs.specs.Order.{call_at, is_from}
use Rattle.runs.specs.Tally.{stores_it, answers_it, empties_it, is_stored_at, is_answered_at, is_emptied_at}
use Rattle.runs.proofs.Histories.{Below, stored-below, not_new, some_inj, one_key}

pub is_at_lem : (o : Option ℕ) (s : ℕ) → is_at o s ≡ true → o ≡ Some s
is_at_lem None s e = absurd (false≢true e)
is_at_lem (Some n) s e = ap Some (eqb-true n s e)

pub at_is : (o : Option ℕ) (s : ℕ) → o ≡ Some s → is_at o s ≡ true
at_is o s e = ap (λ (x : Option ℕ). is_at x s) e ∙ eq-eqb s s refl

-- ---- what waits was stored, and neither answered nor emptied

pub record Waiting (st an em : Bool) : Type 0 where
  pub was_stored : st ≡ true
  pub not_answered : an ≡ false
  pub not_emptied : em ≡ false

pub waiting : (st an em : Bool) → (st && (not an && not em)) ≡ true → Waiting st an em
waiting true false false e = record { was_stored = refl; not_answered = refl; not_emptied = refl }
waiting true false true e = absurd (false≢true e)
waiting true true em e = absurd (false≢true e)
waiting false an em e = absurd (false≢true e)

pub waits : (st an em : Bool) → Waiting st an em → (st && (not an && not em)) ≡ true
waits st an em w = rw (w.was_stored, w.not_answered, w.not_emptied)

-- ---- a start-split that is yet to come was neither stored nor answered nor emptied

at_late : (h : History) (k : Key) (s : ℕ) → length h ≤ s → is_at (last_stored h k) s ≡ false
at_late h k s l = go (last_stored h k) (stored-below h k)
  where
    go : (o : Option ℕ) → Below o (length h) → is_at o s ≡ false
    go None b = refl
    go (Some n) b = ne_eqb n s (λ e. omega (arith, e, b, l))

pub late_stored : (h : History) (s : ℕ) → length h ≤ s → is_stored_at h s ≡ false
unfolding is_stored_at stores_it
late_stored [] s l = refl
late_stored (e ∷ h) s l = go (asks e.call) (late_stored h s (omega arith))
  where
    go : (x : Asks) → is_stored_at h s ≡ false → (stores_it x e.answer h s || is_stored_at h s) ≡ false
    go nothing p = p
    go (starts k) p = rw (p, ne_eqb s (length h) (λ q. omega (arith, q, l)), and-false (stores (starts k) e.answer k (is_open h k)))
    go (completes k) p = p
    go launches p = p
    go (delivers r y) p = p
    go (clears k) p = p
    go (resets z) p = p
    go empties p = p

pub late_answered : (h : History) (s : ℕ) → length h ≤ s → is_answered_at h s ≡ false
unfolding is_answered_at answers_it
late_answered [] s l = refl
late_answered (e ∷ h) s l = go (asks e.call) (late_answered h s (omega arith))
  where
    go : (x : Asks) → is_answered_at h s ≡ false → (answers_it x e.answer h s || is_answered_at h s) ≡ false
    go nothing p = p
    go (starts k) p = p
    go (completes k) p = rw (p, at_late h k s (omega arith), and-false (gives_result e.answer))
    go launches p = p
    go (delivers r y) p = p
    go (clears k) p = p
    go (resets z) p = p
    go empties p = p

pub late_emptied : (h : History) (s : ℕ) → length h ≤ s → is_emptied_at h s ≡ false
unfolding is_emptied_at
late_emptied [] s l = refl
late_emptied (e ∷ h) s l = rw (late_stored h s (omega arith), late_emptied h s (omega arith), and-false (empties_it (asks e.call) e.answer h s))

-- ---- the lane of a start-split that was stored is that of its key

-- the lane of what is stored, if the call stores
abbrev lane_or : Lane → Asks → Bool → Bool
lane_or z nothing b = b
lane_or z (starts k) b = same_lane k.lane z
lane_or z (completes k) b = b
lane_or z launches b = b
lane_or z (delivers r l) b = b
lane_or z (clears k) b = b
lane_or z (resets y) b = b
lane_or z empties b = b

request_lane : (z y : Lane) (x : Option Kind) (v : ℕ) → false ≡ lane_or z (request_asks y x v) false
request_lane z y None v = refl
request_lane z y (Some kind.SetConfiguration) v = refl
request_lane z y (Some kind.GetConfiguration) v = refl
request_lane z y (Some kind.GetHubDescriptor) v = refl
request_lane z y (Some kind.GetHubStatus) v = refl
request_lane z y (Some kind.GetPortStatus) v = refl
request_lane z y (Some kind.ClearHubFeature) v = refl
request_lane z y (Some kind.ClearPortFeature) v = refl
request_lane z y (Some kind.SetPortFeature) v = refl
request_lane z y (Some kind.ClearTTBuffer) v = refl
request_lane z y (Some kind.ResetTT) v = refl

call_lane : (z : Lane) (c : Call) → is_from z (Some c) ≡ lane_or z (asks c) false
unfolding asks
call_lane z (Control y s room) = request_lane z (lane_from y) (kind_of (setup_of s).requesttype (setup_of s).code) (setup_of s).value
call_lane z (Poll y room) = refl
call_lane z (Start y p t f g a e l) = refl
call_lane z (Complete y a e d room) = refl
call_lane z (Launch room) = refl
call_lane z (Deliver r l) = refl
call_lane z (Line e n) = refl
call_lane z Tick = refl
call_lane z BusReset = refl

pub stored_lane : (h : History) (z : Lane) (k : Key) (s : ℕ) → last_stored h k ≡ Some s → is_from z (call_at h s) ≡ same_lane k.lane z
unfolding last_stored call_at stores
stored_lane [] z k s l = let x : ◌≡◌ {A = ℕ} 0 1 = cc in absurd (omega (arith, x))
stored_lane (e ∷ h) z k s l = go (asks e.call) refl l (stored_lane h z k s)
  where
    before : last_stored h k ≡ Some s → (last_stored h k ≡ Some s → is_from z (call_at h s) ≡ same_lane k.lane z)
        → is_from z (cond (eqb s (length h)) (Some e.call) (call_at h s)) ≡ same_lane k.lane z
    before l ih = rw (ne_eqb s (length h) (λ q. not_new h k l (sym q))) (ih l)

    go : (x : Asks) → asks e.call ≡ x → cond (stores x e.answer k (is_open h k)) (Some (length h)) (last_stored h k) ≡ Some s
        → (last_stored h k ≡ Some s → is_from z (call_at h s) ≡ same_lane k.lane z)
        → is_from z (cond (eqb s (length h)) (Some e.call) (call_at h s)) ≡ same_lane k.lane z
    go nothing q l ih = before l ih
    go (starts k') q l ih = by ((is_done e.answer && same_key k' k) && not (is_open h k)) refl l
      where
        by : (t : Bool) → ((is_done e.answer && same_key k' k) && not (is_open h k)) ≡ t → cond t (Some (length h)) (last_stored h k) ≡ Some s
            → is_from z (cond (eqb s (length h)) (Some e.call) (call_at h s)) ≡ same_lane k.lane z
        by false p l = before l ih
        by true p l =
            let two = (and-eq-true_iff (is_done e.answer && same_key k' k) (not (is_open h k))).0 p in
            let same = (and-eq-true_iff (is_done e.answer) (same_key k' k)).0 two.0 in
            rw (eq-eqb s (length h) (sym (some_inj l)))
            (call_lane z e.call ∙ ap (λ (x : Asks). lane_or z x false) q ∙ ap (λ (x : Key). same_lane x.lane z) (same_true k' k same.1))
    go (completes k') q l ih = before l ih
    go launches q l ih = before l ih
    go (delivers r y) q l ih = before l ih
    go (clears k') q l ih = before l ih
    go (resets y) q l ih = before l ih
    go empties q l ih = before l ih

-- ---- an open key has a start-split that waits

still_waits : (st an em t u v : Bool) → Waiting st an em → u ≡ false → v ≡ false → Waiting (t || st) (u || an) ((v && (st && not an)) || em)
still_waits st an em t u v w p q =
    record { was_stored = rw w.was_stored (or-true t); not_answered = rw p w.not_answered; not_emptied = rw q w.not_emptied }

pub open_waits : (h : History) (k : Key) (s : ℕ) → is_open h k ≡ true → last_stored h k ≡ Some s → Waiting (is_stored_at h s) (is_answered_at h s) (is_emptied_at h s)
unfolding is_open last_stored open_after stores is_stored_at is_answered_at is_emptied_at stores_it answers_it empties_it
open_waits [] k s o l = absurd (false≢true o)
open_waits (e ∷ h) k s o l = go (asks e.call) o l (open_waits h k s)
  where
    -- a call that closes another key's start-split
    other : (d : Bool) (k' : Key) → (d && same_key k' k) ≡ false → last_stored h k ≡ Some s → (d && is_at (last_stored h k') s) ≡ false
    other false k' n q = refl
    other true k' n q = by (is_at (last_stored h k') s) refl
      where
        by : (x : Bool) → is_at (last_stored h k') s ≡ x → x ≡ false
        by true y = absurd (true≢false (sym (same_eq k' k (one_key h k' k s (is_at_lem (last_stored h k') s y) q)) ∙ n))
        by false y = refl

    go : (x : Asks) → open_after x e.answer k (is_open h k) ≡ true → cond (stores x e.answer k (is_open h k)) (Some (length h)) (last_stored h k) ≡ Some s
        → (is_open h k ≡ true → last_stored h k ≡ Some s → Waiting (is_stored_at h s) (is_answered_at h s) (is_emptied_at h s))
        → Waiting (stores_it x e.answer h s || is_stored_at h s) (answers_it x e.answer h s || is_answered_at h s)
        ((empties_it x e.answer h s && (is_stored_at h s && not (is_answered_at h s))) || is_emptied_at h s)
    go nothing o l ih = ih o l
    go launches o l ih = ih o l
    go (delivers r y) o l ih = ih o l
    go (starts k') o l ih = by (is_open h k) refl (is_done e.answer && same_key k' k) refl o l
      where
        by : (w : Bool) → is_open h k ≡ w → (d : Bool) → (is_done e.answer && same_key k' k) ≡ d → (d || w) ≡ true → cond (d && not w) (Some (length h)) (last_stored h k) ≡ Some s
            → Waiting (((is_done e.answer && same_key k' k') && not (is_open h k')) && eqb s (length h) || is_stored_at h s) (is_answered_at h s) (is_emptied_at h s)
        by true p d q y z = still_waits (is_stored_at h s) (is_answered_at h s) (is_emptied_at h s) (((is_done e.answer && same_key k' k') && not (is_open h k')) && eqb s (length h)) false false (ih p (old d z)) refl refl
          where
            old : (d : Bool) → cond (d && false) (Some (length h)) (last_stored h k) ≡ Some s → last_stored h k ≡ Some s
            old true z = z
            old false z = z
        by false p false q y z = absurd (false≢true y)
        by false p true q y z =
            let here : length h ≡ s = some_inj z in
            let both = (and-eq-true_iff (is_done e.answer) (same_key k' k)).0 q in
            let shut : is_open h k' ≡ false = ap (is_open h) (same_true k' k both.1) ∙ p in
            record {
              was_stored = rw (both.0, same_refl k', shut, eq-eqb s (length h) (sym here));
              not_answered = late_answered h s (omega (arith, here));
              not_emptied = late_emptied h s (omega (arith, here));
            }
    go (completes k') o l ih = by (gives_result e.answer && same_key k' k) refl o
      where
        by : (d : Bool) → (gives_result e.answer && same_key k' k) ≡ d → (not d && is_open h k) ≡ true
            → Waiting (is_stored_at h s) ((gives_result e.answer && is_at (last_stored h k') s) || is_answered_at h s) (is_emptied_at h s)
        by true q y = absurd (false≢true y)
        by false q y = still_waits (is_stored_at h s) (is_answered_at h s) (is_emptied_at h s) false (gives_result e.answer && is_at (last_stored h k') s) false (ih y l) (other (gives_result e.answer) k' q l) refl
    go (clears k') o l ih = by (is_done e.answer && same_key k' k) refl o
      where
        by : (d : Bool) → (is_done e.answer && same_key k' k) ≡ d → (not d && is_open h k) ≡ true
            → Waiting (is_stored_at h s) (is_answered_at h s) (((is_done e.answer && is_at (last_stored h k') s) && (is_stored_at h s && not (is_answered_at h s))) || is_emptied_at h s)
        by true q y = absurd (false≢true y)
        by false q y = still_waits (is_stored_at h s) (is_answered_at h s) (is_emptied_at h s) false false (is_done e.answer && is_at (last_stored h k') s) (ih y l) refl (other (is_done e.answer) k' q l)
    go (resets z) o l ih = by (is_done e.answer) (same_lane k.lane z) refl o
      where
        by : (d x : Bool) → same_lane k.lane z ≡ x → (not (d && x) && is_open h k) ≡ true
            → Waiting (is_stored_at h s) (is_answered_at h s) (((d && is_from z (call_at h s)) && (is_stored_at h s && not (is_answered_at h s))) || is_emptied_at h s)
        by true true q y = absurd (false≢true y)
        by true false q y =
            still_waits (is_stored_at h s) (is_answered_at h s) (is_emptied_at h s) false false (is_from z (call_at h s)) (ih y l) refl (stored_lane h z k s l ∙ q)
        by false x q y = ih y l
    go empties o l ih = by (is_done e.answer) refl o
      where
        by : (d : Bool) → is_done e.answer ≡ d → (not d && is_open h k) ≡ true
            → Waiting (is_stored_at h s) (is_answered_at h s) ((d && (is_stored_at h s && not (is_answered_at h s))) || is_emptied_at h s)
        by true q y = absurd (false≢true y)
        by false q y = ih y l

-- ---- a start-split that waits has an open key

pub record Opener (h : History) (s : ℕ) : Type 0 where
  pub key : Key
  pub placed : last_stored h key ≡ Some s
  pub opened : is_open h key ≡ true

pub opener : (h : History) (s : ℕ) → Waiting (is_stored_at h s) (is_answered_at h s) (is_emptied_at h s) → Opener h s
unfolding is_open last_stored open_after stores is_stored_at is_answered_at is_emptied_at stores_it answers_it empties_it
opener [] s w = absurd (false≢true w.was_stored)
opener (e ∷ h) s w = go (asks e.call) refl w (opener h s)
  where
    stays : (x : Asks) → asks e.call ≡ x → (o : Opener h s) → open_after x e.answer o.key (is_open h o.key) ≡ true
        → stores x e.answer o.key (is_open h o.key) ≡ false → Opener (e ∷ h) s
    stays x q o p r = record { key = o.key; placed = rw (q, r) o.placed; opened = rw q p }

    -- a call that would have closed its key
    kept : (d : Bool) (k' : Key) (o : Opener h s) → (d && is_at (last_stored h k') s) ≡ false → (not (d && same_key k' o.key) && is_open h o.key) ≡ true
    kept false k' o n = o.opened
    kept true k' o n = by (same_key k' o.key) refl
      where
        by : (x : Bool) → same_key k' o.key ≡ x → (not x && is_open h o.key) ≡ true
        by true y = absurd (true≢false (sym (at_is (last_stored h k') s (ap (last_stored h) (same_true k' o.key y) ∙ o.placed)) ∙ n))
        by false y = o.opened

    go : (x : Asks) → asks e.call ≡ x
        → Waiting (stores_it x e.answer h s || is_stored_at h s) (answers_it x e.answer h s || is_answered_at h s)
        ((empties_it x e.answer h s && (is_stored_at h s && not (is_answered_at h s))) || is_emptied_at h s)
        → (Waiting (is_stored_at h s) (is_answered_at h s) (is_emptied_at h s) → Opener h s) → Opener (e ∷ h) s
    go nothing q w ih = stays nothing q (ih w) (ih w).opened refl
    go launches q w ih = stays launches q (ih w) (ih w).opened refl
    go (delivers r y) q w ih = stays (delivers r y) q (ih w) (ih w).opened refl
    go (starts k) q w ih = by (((is_done e.answer && same_key k k) && not (is_open h k)) && eqb s (length h)) refl
      where
        by : (t : Bool) → (((is_done e.answer && same_key k k) && not (is_open h k)) && eqb s (length h)) ≡ t → Opener (e ∷ h) s
        by true p =
            let two = (and-eq-true_iff ((is_done e.answer && same_key k k) && not (is_open h k)) (eqb s (length h))).0 p in
            let done = (and-eq-true_iff (is_done e.answer && same_key k k) (not (is_open h k))).0 two.0 in
            record { key = k; placed = rw (q, two.0) (ap Some (sym (eqb-true s (length h) two.1))); opened = rw (q, done.0) }
        by false p = again (ih (record { was_stored = rw p at w.was_stored; not_answered = w.not_answered; not_emptied = w.not_emptied }))
          where
            again : Opener h s → Opener (e ∷ h) s
            again o = stays (starts k) q o (rw o.opened (or-true (is_done e.answer && same_key k o.key))) (rw o.opened (and-false (is_done e.answer && same_key k o.key)))
    go (completes k) q w ih = by (gives_result e.answer && is_at (last_stored h k) s) refl w.not_answered
      where
        by : (t : Bool) → (gives_result e.answer && is_at (last_stored h k) s) ≡ t → (t || is_answered_at h s) ≡ false → Opener (e ∷ h) s
        by true p n = absurd (true≢false n)
        by false p n = again (ih (record { was_stored = w.was_stored; not_answered = n; not_emptied = w.not_emptied }))
          where
            again : Opener h s → Opener (e ∷ h) s
            again o = stays (completes k) q o (kept (gives_result e.answer) k o p) refl
    go (clears k) q w ih = by (is_done e.answer && is_at (last_stored h k) s) refl w.not_emptied
      where
        by : (t : Bool) → (is_done e.answer && is_at (last_stored h k) s) ≡ t → ((t && (is_stored_at h s && not (is_answered_at h s))) || is_emptied_at h s) ≡ false → Opener (e ∷ h) s
        by true p n = absurd (true≢false (rw (w.was_stored, w.not_answered) at n))
        by false p n = again (ih (record { was_stored = w.was_stored; not_answered = w.not_answered; not_emptied = n }))
          where
            again : Opener h s → Opener (e ∷ h) s
            again o = stays (clears k) q o (kept (is_done e.answer) k o p) refl
    go (resets z) q w ih = by (is_done e.answer && is_from z (call_at h s)) refl w.not_emptied
      where
        by : (t : Bool) → (is_done e.answer && is_from z (call_at h s)) ≡ t → ((t && (is_stored_at h s && not (is_answered_at h s))) || is_emptied_at h s) ≡ false → Opener (e ∷ h) s
        by true p n = absurd (true≢false (rw (w.was_stored, w.not_answered) at n))
        by false p n = again (ih (record { was_stored = w.was_stored; not_answered = w.not_answered; not_emptied = n }))
          where
            again : Opener h s → Opener (e ∷ h) s
            again o = stays (resets z) q o (rw (sym (stored_lane h z o.key s o.placed), p) o.opened) refl
    go empties q w ih = by (is_done e.answer) refl w.not_emptied
      where
        by : (t : Bool) → is_done e.answer ≡ t → ((t && (is_stored_at h s && not (is_answered_at h s))) || is_emptied_at h s) ≡ false → Opener (e ∷ h) s
        by true p n = absurd (true≢false (rw (w.was_stored, w.not_answered) at n))
        by false p n = again (ih (record { was_stored = w.was_stored; not_answered = w.not_answered; not_emptied = n }))
          where
            again : Opener h s → Opener (e ∷ h) s
            again o = stays empties q o (rw p o.opened) refl
