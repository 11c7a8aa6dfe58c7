-- What ties the translator's state to the history that led to it, and that every change of the translator keeps it. Assumes nothing.
use Prim.Native.Nat.{ℕ, zero, suc, ◌<◌, ◌≤◌}
use native.Mathlib.Decide.{ℕ_discrete}
use mathlib.Core.Path.{◌≡◌, refl, sym, ◌∙◌, ap, subst}
use Rattle.std.specs.Prelude.{Option, None, Some}
use mathlib.Core.List.{List, [], ◌∷◌, map, append-nil}
use mathlib.Core.Bool.{Bool, true, false, cond, true≢false, false≢true}
use borrow.Author.Tests.{eq-eqb, ne_eqb, eqb-true, eqb-false}
use lib.ListN.{length, set, replicate}
use lib.Dec.{eqb}
use Rattle.payload.specs.Payload.{content, payload_of}
use Rattle.payload.proofs.Laws.{content_of}
use Rattle.buffer.specs.declared.Lane.{Lane}
use Rattle.buffer.specs.declared.Key.{Key}
use Rattle.buffer.specs.declared.StartSplit.{StartSplit}
use Rattle.buffer.specs.declared.DeviceResult.{DeviceResult}
use Rattle.buffer.specs.declared.Slot.{Slot}
use Rattle.buffer.specs.declared.Slot.TheVariants.{Empty, Pending, Ready, Old}
use Rattle.buffer.specs.declared.Buffer.{Buffer}
use Rattle.buffer.specs.declared.BufferNumber.{BufferNumber}
use Rattle.buffer.specs.Key as key
use Rattle.buffer.specs.Lengths.{is_data}
use Rattle.buffer.specs.Buffer.{vacant, is_active, is_free, holds, in_lane}
use Rattle.buffer.proofs.Keys.{same_true, same_refl, same_eq, key?}
use Rattle.translator.specs.declared.LowSide.{LowSide}
use Rattle.translator.specs.declared.LowSide.TheVariants.{Idle, Running, Abandoned}
use Rattle.translator.specs.Translator.{at}
use Rattle.translator.specs.Order.{reranked, ranked_in, ranked}
use Rattle.translator.specs.Clear.{low_without}
use Rattle.translator.specs.ResetLane.{without_lane, low_without_lane}
use Rattle.translator.specs.Answers.{result_pid}
use Rattle.translator.specs.Valid.{Apart}
use Rattle.translator.proofs.At.{inside, at_same, at_other, at_cases, at-ranked, at-without_lane, holds-reranked}
use Rattle.runs.specs.History.{Event, History, starts, completes, launches, delivers, clears, resets, asks, answer_key, is_done, gives_result, is_open, last_stored, For, last_for, is_at, is_for, Delivered, delivered_for}
use Rattle.runs.specs.Tally.{is_answered_at}
use Rattle.runs.proofs.Histories.{fresh, fresh_for, one_key, Keeps, Any, Else, Silent, not_for_it, keeps_start, start_opens, start_stores, start_for, start_data, keeps_repeat, keeps_complete, complete_closes, complete_stores, complete_closed, complete_for, complete_data, keeps_clear, clear_closes, keeps_closed, clear_for, clear_data, keeps_launch, launch_data, launch_for, keeps_deliver, stays_answered, now_answered, Other, keeps_reset, reset_closes, reset_stores, reset_for, reset_data}

-- the data that a buffer has from the low side
abbrev pub held_data : Slot → List ℕ → List Delivered
held_data Empty l = []
held_data (Pending s p) l = []
held_data (Ready s r) l = cond (is_data r) (record { pid = result_pid r; bytes = l } ∷ []) []
held_data (Old s r) l = cond (is_data r) (record { pid = result_pid r; bytes = l } ∷ []) []

-- a buffer that holds the key k: the key is open if it is pending or ready, and its data are those delivered for what was last stored
pub record Good (h : History) (k : Key) (b : Buffer) : Type 0 where
  pub opened : is_open h k ≡ is_active b.slot
  pub place : ℕ
  pub placed : last_stored h k ≡ Some place
  pub got : delivered_for h place ≡ held_data b.slot (content b.payload)
  -- what is old was answered
  pub aged : is_active b.slot ≡ false → is_answered_at h place ≡ true

-- what runs is what the last launch answered 1 was for
abbrev pub RunsFor : History → Slot → Type 0
RunsFor h Empty = ⊥
RunsFor h (Pending s p) = last_for h ≡ Some (record { key = key.key_of s; place = last_stored h (key.key_of s) })
RunsFor h (Ready s r) = ⊥
RunsFor h (Old s r) = ⊥

abbrev pub LowOk : History → List Buffer → LowSide → Type 0
LowOk h bs Idle = Unit {0}
LowOk h bs (Running n) = RunsFor h (at bs n.0).slot
-- what was launched is held nowhere any more
LowOk h bs Abandoned = (l : For) → last_for h ≡ Some l → (i : ℕ) (k : Key) → holds k (at bs i).slot ≡ true → ¬ (l.place ≡ last_stored h k)

abbrev pub Unheld : Key → List Buffer → Type 0
Unheld k bs = (i : ℕ) → holds k (at bs i).slot ≡ false

pub record Inv (h : History) (bs : List Buffer) (low : LowSide) : Type 0 where
  pub good : (i : ℕ) (k : Key) → holds k (at bs i).slot ≡ true → Good h k (at bs i)
  pub closed : (k : Key) → Unheld k bs → is_open h k ≡ false
  pub low_ok : LowOk h bs low

for_inj : {a b : For} → ◌≡◌ {A = Option For} (Some a) (Some b) → a ≡ b
for_inj e = cc

for_same : {k : Key} {p q : Option ℕ} → p ≡ q → ◌≡◌ {A = Option For} (Some (record { key = k; place = p })) (Some (record { key = k; place = q }))
for_same {k} e = ap (λ (x : Option ℕ). Some (record { key = k; place = x })) e

-- ---- an event that leaves a key alone

good_kept : {h : History} {e : Event} {P : Key → Type 0} {k : Key} {b : Buffer} → Keeps h e P → P k
    → ((s : ℕ) → delivered_for (e ∷ h) s ≡ delivered_for h s) → Good h k b → Good (e ∷ h) k b
good_kept {h} {e} {k = k} kp p d g =
    record { opened = kp.open_kept k p ∙ g.opened; place = g.place; placed = kp.stored_kept k p ∙ g.placed; got = d g.place ∙ g.got; aged = λ o. stays_answered h e g.place (g.aged o) }

runs_kept : {h : History} {e : Event} {P : Key → Type 0} → Keeps h e P → last_for (e ∷ h) ≡ last_for h → (s : Slot)
    → ((k : Key) → holds k s ≡ true → P k) → RunsFor h s → RunsFor (e ∷ h) s
runs_kept kp f Empty p w = w
runs_kept kp f (Pending s q) p w = f ∙ w ∙ for_same (sym (kp.stored_kept (key.key_of s) (p (key.key_of s) (same_refl (key.key_of s)))))
runs_kept kp f (Ready s r) p w = w
runs_kept kp f (Old s r) p w = w

pub quiet : {h : History} {e : Event} {bs : List Buffer} {low : LowSide} → Silent h e → Inv h bs low → Inv (e ∷ h) bs low
quiet {h} {e} {bs} {low} s inv =
    record {
      good = λ i k hd. good_kept s.keeps tt s.data_kept (inv.good i k hd);
      closed = λ k u. s.keeps.open_kept k tt ∙ inv.closed k u;
      low_ok = go low inv.low_ok;
    }
  where
    go : (l : LowSide) → LowOk h bs l → LowOk (e ∷ h) bs l
    go Idle w = tt
    go (Running n) w = runs_kept s.keeps s.for_kept (at bs n.0).slot (λ k _. tt) w
    go Abandoned w = λ l g i k hd q. w l (sym s.for_kept ∙ g) i k hd (q ∙ s.keeps.stored_kept k tt)

-- ---- one buffer is changed, by an event that touches the key k alone

module _ (h : History) (e : Event) (bs : List Buffer) (i : ℕ) (b : Buffer) (k : Key) (here : i < length bs)
    (kp : Keeps h e (Else k)) (f : last_for (e ∷ h) ≡ last_for h)
    (others : (j : ℕ) → ¬ (j ≡ i) → (l : Key) → holds l (at bs j).slot ≡ true → Else k l)
  where
    running_else : (n : BufferNumber) → ¬ (n.0 ≡ i) → LowOk h bs (Running n) → LowOk (e ∷ h) (set bs i b) (Running n)
    running_else n ne w =
        subst (λ (x : Buffer). RunsFor (e ∷ h) x.slot) (sym (at_other bs i b here n.0 ne))
        (runs_kept kp f (at bs n.0).slot (others n.0 ne) w)

    abandoned_else : ((l : For) → last_for h ≡ Some l → (x : Key) → holds x b.slot ≡ true → ¬ (l.place ≡ last_stored (e ∷ h) x))
        → LowOk h bs Abandoned → LowOk (e ∷ h) (set bs i b) Abandoned
    abandoned_else new w l g j x =
        at_cases bs i b here (λ (y : Buffer). holds x y.slot ≡ true → ¬ (l.place ≡ last_stored (e ∷ h) x)) j
        (λ _. new l (sym f ∙ g) x)
        (λ ne hd q. w l (sym f ∙ g) j x hd (q ∙ kp.stored_kept x (others j ne x hd)))

    good_else : ((j : ℕ) (x : Key) → holds x (at bs j).slot ≡ true → Good h x (at bs j)) → ((s : ℕ) → delivered_for (e ∷ h) s ≡ delivered_for h s)
        → ((x : Key) → holds x b.slot ≡ true → Good (e ∷ h) x b) → (j : ℕ) (x : Key) → holds x (at (set bs i b) j).slot ≡ true → Good (e ∷ h) x (at (set bs i b) j)
    good_else goods d new j x =
        at_cases bs i b here (λ (y : Buffer). holds x y.slot ≡ true → Good (e ∷ h) x y) j
        (λ _. new x)
        (λ ne hd. good_kept kp (others j ne x hd) d (goods j x hd))

module _ (bs : List Buffer) (i : ℕ) (b : Buffer) (here : i < length bs) (x : Key) (u : Unheld x (set bs i b)) where
  -- a key that the changed list does not hold was held at most there
  unheld_else : (j : ℕ) → ¬ (j ≡ i) → holds x (at bs j).slot ≡ false
  unheld_else j ne = subst (λ (y : Buffer). holds x y.slot ≡ false) (at_other bs i b here j ne) (u j)

  unheld_here : holds x b.slot ≡ false
  unheld_here = subst (λ (y : Buffer). holds x y.slot ≡ false) (at_same bs i b here) (u i)

  -- and nowhere, if the old buffer there doesn't hold it either
  unheld_all : holds x (at bs i).slot ≡ false → Unheld x bs
  unheld_all own j = pick (ℕ_discrete j i)
    where
      pick : Dec (j ≡ i) → holds x (at bs j).slot ≡ false
      pick (yes q) = ap (λ (y : ℕ). holds x (at bs y).slot) q ∙ own
      pick (no ne) = unheld_else j ne

free_active : (s : Slot) → is_free s ≡ true → is_active s ≡ false
free_active Empty e = refl
free_active (Pending s p) e = sym e
free_active (Ready s r) e = sym e
free_active (Old s r) e = refl

-- a key that is held at most by a free buffer is closed
pub idle_closed : {h : History} {bs : List Buffer} {low : LowSide} → Inv h bs low → (i : ℕ) → is_free (at bs i).slot ≡ true → (x : Key)
    → ((j : ℕ) → ¬ (j ≡ i) → holds x (at bs j).slot ≡ false) → is_open h x ≡ false
idle_closed {h} {bs} inv i free x else = go (holds x (at bs i).slot) refl
  where
    all : holds x (at bs i).slot ≡ false → Unheld x bs
    all own j = pick (ℕ_discrete j i)
      where
        pick : Dec (j ≡ i) → holds x (at bs j).slot ≡ false
        pick (yes q) = ap (λ (y : ℕ). holds x (at bs y).slot) q ∙ own
        pick (no ne) = else j ne

    go : (p : Bool) → holds x (at bs i).slot ≡ p → is_open h x ≡ false
    go true hd = (inv.good i x hd).opened ∙ free_active (at bs i).slot free
    go false hd = inv.closed x (all hd)

-- ---- the places in the order of acceptance don't matter here

active_reranked : (bs : List Buffer) (s : Slot) → is_active (reranked bs s) ≡ is_active s
active_reranked bs Empty = refl
active_reranked bs (Pending s p) = refl
active_reranked bs (Ready s r) = refl
active_reranked bs (Old s r) = refl

free_reranked : (bs : List Buffer) (s : Slot) → is_free (reranked bs s) ≡ is_free s
free_reranked bs Empty = refl
free_reranked bs (Pending s p) = refl
free_reranked bs (Ready s r) = refl
free_reranked bs (Old s r) = refl

held_data_reranked : (bs : List Buffer) (s : Slot) (l : List ℕ) → held_data (reranked bs s) l ≡ held_data s l
held_data_reranked bs Empty l = refl
held_data_reranked bs (Pending s p) l = refl
held_data_reranked bs (Ready s r) l = refl
held_data_reranked bs (Old s r) l = refl

runs-reranked : (bs : List Buffer) (h : History) (s : Slot) → RunsFor h s → RunsFor h (reranked bs s)
runs-reranked bs h Empty w = w
runs-reranked bs h (Pending s p) w = w
runs-reranked bs h (Ready s r) w = w
runs-reranked bs h (Old s r) w = w

pub free_ranked : (bs : List Buffer) (i : ℕ) → is_free (at (ranked bs) i).slot ≡ is_free (at bs i).slot
free_ranked bs i = ap (λ (b : Buffer). is_free b.slot) (at-ranked bs i) ∙ free_reranked bs (at bs i).slot

pub held-ranked : (bs : List Buffer) (k : Key) (i : ℕ) → holds k (at (ranked bs) i).slot ≡ holds k (at bs i).slot
held-ranked bs k i = ap (λ (b : Buffer). holds k b.slot) (at-ranked bs i) ∙ holds-reranked bs k (at bs i).slot

pub inv_ranked : {h : History} (bs : List Buffer) (low : LowSide) → Inv h bs low → Inv h (ranked bs) low
inv_ranked {h} bs low inv =
    record {
      good = λ i k hd. subst (Good h k) (sym (at-ranked bs i)) (moved i k (inv.good i k (sym (held-ranked bs k i) ∙ hd)));
      closed = λ k u. inv.closed k (λ i. sym (held-ranked bs k i) ∙ u i);
      low_ok = go low inv.low_ok;
    }
  where
    moved : (i : ℕ) (k : Key) → Good h k (at bs i) → Good h k (ranked_in bs (at bs i))
    moved i k g =
        record {
          opened = g.opened ∙ sym (active_reranked bs (at bs i).slot);
          place = g.place;
          placed = g.placed;
          got = g.got ∙ sym (held_data_reranked bs (at bs i).slot (content (at bs i).payload));
          aged = λ o. g.aged (sym (active_reranked bs (at bs i).slot) ∙ o);
        }

    go : (l : LowSide) → LowOk h bs l → LowOk h (ranked bs) l
    go Idle w = tt
    go (Running n) w = subst (λ (b : Buffer). RunsFor h b.slot) (sym (at-ranked bs n.0)) (runs-reranked bs h (at bs n.0).slot w)
    go Abandoned w = λ l g i k hd. w l g i k (sym (held-ranked bs k i) ∙ hd)

-- ---- the calls

module _ (h : History) (e : Event) (bs : List Buffer) (low : LowSide) (inv : Inv h bs low) where
  -- a start-split is stored in the free buffer i, under a key that no other holds
  pub into_kept : (s : StartSplit) (l : List ℕ) (i p : ℕ) → asks e.call ≡ starts (key.key_of s) → is_done e.answer ≡ true → i < length bs
      → is_free (at bs i).slot ≡ true → ((j : ℕ) → holds (key.key_of s) (at bs j).slot ≡ true → j ≡ i)
      → Inv (e ∷ h) (set bs i (record { slot = Pending s p; payload = payload_of l })) low
  into_kept s l i p q d here free only =
      record {
        good = good_else h e bs i b k here kp f others inv.good data_same new;
        closed = λ x u. kp.open_kept x (not_k x u) ∙ idle_closed inv i free x (unheld_else bs i b here x u);
        low_ok = go low inv.low_ok;
      }
    where
      b : Buffer
      b = record { slot = Pending s p; payload = payload_of l }

      k : Key
      k = key.key_of s

      kp : Keeps h e (Else (key.key_of s))
      kp = keeps_start h e (key.key_of s) q d

      f : last_for (e ∷ h) ≡ last_for h
      f = start_for h e (key.key_of s) q

      data_same : (x : ℕ) → delivered_for (e ∷ h) x ≡ delivered_for h x
      data_same = start_data h e (key.key_of s) q

      others : (j : ℕ) → ¬ (j ≡ i) → (x : Key) → holds x (at bs j).slot ≡ true → Else (key.key_of s) x
      others j ne x hd u = ne (only j (ap (λ (y : Key). holds y (at bs j).slot) u ∙ hd))

      not_k : (x : Key) → Unheld x (set bs i b) → Else (key.key_of s) x
      not_k x u w = true≢false (sym (same_eq (key.key_of s) x w) ∙ unheld_here bs i b here x u)

      was_closed : is_open h (key.key_of s) ≡ false
      was_closed = idle_closed inv i free (key.key_of s) (λ j ne. no_hold j ne (holds (key.key_of s) (at bs j).slot) refl)
        where
          no_hold : (j : ℕ) → ¬ (j ≡ i) → (x : Bool) → holds (key.key_of s) (at bs j).slot ≡ x → x ≡ false
          no_hold j ne true w = absurd (ne (only j w))
          no_hold j ne false w = refl

      stored_now : last_stored (e ∷ h) (key.key_of s) ≡ Some (length h)
      stored_now = start_stores h e (key.key_of s) q d was_closed

      new : (x : Key) → holds x b.slot ≡ true → Good (e ∷ h) x b
      new x hd =
          let same : key.key_of s ≡ x = same_true (key.key_of s) x hd in
          subst (λ (y : Key). Good (e ∷ h) y b) same
          (record {
            opened = start_opens h e (key.key_of s) q d;
            place = length h;
            placed = stored_now;
            got = data_same (length h) ∙ fresh h;
            aged = λ o. absurd (true≢false o);
          })

      go : (x : LowSide) → LowOk h bs x → LowOk (e ∷ h) (set bs i b) x
      go Idle w = tt
      go (Running n) w = running_else h e bs i b k here kp f others n (λ y. busy (at bs n.0).slot w (ap (λ (z : ℕ). is_free (at bs z).slot) y ∙ free)) w
        where
          busy : (z : Slot) → RunsFor h z → is_free z ≡ true → ⊥
          busy Empty r z = r
          busy (Pending a c) r z = false≢true z
          busy (Ready a c) r z = r
          busy (Old a c) r z = r
      go Abandoned w =
          abandoned_else h e bs i b k here kp f others
          (λ m g x hd y.
          true≢false (sym (eq-eqb (length h) (length h) refl)
          ∙ ap (λ (o : Option ℕ). is_at o (length h)) (sym (y ∙ ap (last_stored (e ∷ h)) (sym (same_true (key.key_of s) x hd)) ∙ stored_now))
          ∙ ap (λ (o : Option For). is_for o (length h)) (sym g)
          ∙ fresh_for h))
          w

  -- a complete-split: the ready buffer i is old now
  pub aged_kept : (k : Key) (i : ℕ) (s : StartSplit) (r : DeviceResult) → asks e.call ≡ completes k → gives_result e.answer ≡ true → i < length bs
      → (at bs i).slot ≡ Ready s r → key.key_of s ≡ k → Apart (holds k) bs
      → Inv (e ∷ h) (set bs i (record { slot = Old s r; payload = (at bs i).payload })) low
  aged_kept k i s r q res here is under apart =
      record {
        good = good_else h e bs i b k here kp f others inv.good data_same new;
        closed = λ x u. complete_closed h e k q x (inv.closed x (unheld_all bs i b here x u (ap (holds x) is ∙ unheld_here bs i b here x u)));
        low_ok = go low inv.low_ok;
      }
    where
      b : Buffer
      b = record { slot = Old s r; payload = (at bs i).payload }

      kp : Keeps h e (Else k)
      kp = keeps_complete h e k q

      f : last_for (e ∷ h) ≡ last_for h
      f = complete_for h e k q

      data_same : (x : ℕ) → delivered_for (e ∷ h) x ≡ delivered_for h x
      data_same = complete_data h e k q

      holding : holds k (at bs i).slot ≡ true
      holding = ap (holds k) is ∙ same_eq (key.key_of s) k under

      others : (j : ℕ) → ¬ (j ≡ i) → (x : Key) → holds x (at bs j).slot ≡ true → Else k x
      others j ne x hd u = ne (apart j i (ap (λ (y : Key). holds y (at bs j).slot) u ∙ hd) holding)

      new : (x : Key) → holds x b.slot ≡ true → Good (e ∷ h) x b
      new x hd =
          let same : k ≡ x = sym under ∙ same_true (key.key_of s) x hd in
          let g : Good h k (at bs i) = inv.good i k holding in
          subst (λ (y : Key). Good (e ∷ h) y b) same
          (record {
            opened = complete_closes h e k q res;
            place = g.place;
            placed = complete_stores h e k q k ∙ g.placed;
            got = data_same g.place ∙ g.got ∙ ap (λ (z : Slot). held_data z (content (at bs i).payload)) is;
            aged = λ _. now_answered h e k g.place q res g.placed;
          })

      go : (x : LowSide) → LowOk h bs x → LowOk (e ∷ h) (set bs i b) x
      go Idle w = tt
      go (Running n) w = running_else h e bs i b k here kp f others n (λ y. subst (RunsFor h) (ap (λ (z : ℕ). (at bs z).slot) y ∙ is) w) w
      go Abandoned w =
          abandoned_else h e bs i b k here kp f others
          (λ m g x hd y. w m g i x (ap (holds x) is ∙ hd) (y ∙ complete_stores h e k q x)) w

  -- an old buffer gives its result again
  pub again_kept : (k : Key) (i : ℕ) → asks e.call ≡ completes k → holds k (at bs i).slot ≡ true → is_active (at bs i).slot ≡ false → Inv (e ∷ h) bs low
  again_kept k i q holding idle =
      record {
        good = λ j x hd. kept j x hd (key? k x);
        closed = λ x u. complete_closed h e k q x (inv.closed x u);
        low_ok = go low inv.low_ok;
      }
    where
      kp : Keeps h e (Else k)
      kp = keeps_complete h e k q

      kept : (j : ℕ) (x : Key) → holds x (at bs j).slot ≡ true → Dec (k ≡ x) → Good (e ∷ h) x (at bs j)
      kept j x hd (no ne) = good_kept kp ne (complete_data h e k q) (inv.good j x hd)
      kept j x hd (yes same) =
          let g : Good h x (at bs j) = inv.good j x hd in
          let was : is_open h x ≡ false = ap (is_open h) (sym same) ∙ ((inv.good i k holding).opened ∙ idle) in
          record {
            opened = complete_closed h e k q x was ∙ (sym was ∙ g.opened);
            place = g.place;
            placed = complete_stores h e k q x ∙ g.placed;
            got = complete_data h e k q g.place ∙ g.got;
            aged = λ o. stays_answered h e g.place (g.aged o);
          }

      run : (s : Slot) → RunsFor h s → RunsFor (e ∷ h) s
      run Empty w = w
      run (Pending s p) w = complete_for h e k q ∙ w ∙ for_same (sym (complete_stores h e k q (key.key_of s)))
      run (Ready s r) w = w
      run (Old s r) w = w

      go : (x : LowSide) → LowOk h bs x → LowOk (e ∷ h) bs x
      go Idle w = tt
      go (Running n) w = run (at bs n.0).slot w
      go Abandoned w = λ m g j x hd y. w m (sym (complete_for h e k q) ∙ g) j x hd (y ∙ complete_stores h e k q x)

  -- a launch: the pending buffer n runs
  pub launch_kept : (n : BufferNumber) (s : StartSplit) (p : ℕ) → asks e.call ≡ launches → eqb e.answer.number 1 ≡ true
      → (at bs n.0).slot ≡ Pending s p → answer_key e.answer ≡ key.key_of s → Inv (e ∷ h) bs (Running n)
  launch_kept n s p q one is under =
      record {
        good = λ j x hd. good_kept kp tt (launch_data h e q) (inv.good j x hd);
        closed = λ x u. kp.open_kept x tt ∙ inv.closed x u;
        low_ok =
            subst (RunsFor (e ∷ h)) (sym is)
            (launch_for h e q one
            ∙ ap (λ (x : Key). Some (record { key = x; place = last_stored h x })) under
            ∙ for_same (sym (kp.stored_kept (key.key_of s) tt)));
      }
    where
      kp : Keeps h e Any
      kp = keeps_launch h e q

  -- the running buffer gets its result: no other buffer holds the start-split that was launched
  pub delivered_kept : (n : BufferNumber) (s : StartSplit) (p : ℕ) (r : DeviceResult) (l : List ℕ) → asks e.call ≡ delivers r l → is_done e.answer ≡ true
      → length l ≤ 64 → (at bs n.0).slot ≡ Pending s p → LowOk h bs (Running n) → Apart (holds (key.key_of s)) bs
      → Inv (e ∷ h) (set bs n.0 (record { slot = Ready s r; payload = payload_of l })) Idle
  unfolding delivered_for
  delivered_kept n s p r l q d short is w apart =
      record {
        good = λ j x. at_cases bs n.0 b here (λ (y : Buffer). holds x y.slot ≡ true → Good (e ∷ h) x y) j (λ _. new x) (old j x);
        closed = λ x u. kp.open_kept x tt ∙ inv.closed x (unheld_all bs n.0 b here x u (ap (holds x) is ∙ unheld_here bs n.0 b here x u));
        low_ok = tt;
      }
    where
      b : Buffer
      b = record { slot = Ready s r; payload = payload_of l }

      k : Key
      k = key.key_of s

      kp : Keeps h e Any
      kp = keeps_deliver h e r l q

      holding : holds (key.key_of s) (at bs n.0).slot ≡ true
      holding = ap (holds (key.key_of s)) is ∙ same_refl (key.key_of s)

      here : n.0 < length bs
      here = inside (holds (key.key_of s)) refl bs n.0 holding

      g : Good h (key.key_of s) (at bs n.0)
      g = inv.good n.0 (key.key_of s) holding

      is_for_lem : (x : ℕ) → is_for (last_for h) x ≡ eqb g.place x
      is_for_lem x = rw (subst (RunsFor h) is w, g.placed)

      new : (x : Key) → holds x b.slot ≡ true → Good (e ∷ h) x b
      new x hd =
          subst (λ (y : Key). Good (e ∷ h) y b) (same_true (key.key_of s) x hd)
          (record {
            opened = kp.open_kept (key.key_of s) tt ∙ g.opened ∙ ap is_active is;
            place = g.place;
            placed = kp.stored_kept (key.key_of s) tt ∙ g.placed;
            got = rw (is_for_lem g.place, eq-eqb g.place g.place refl, q, d, g.got, is, content_of l short) (append-nil _);
            aged = λ o. absurd (true≢false o);
          })

      old : (j : ℕ) (x : Key) → ¬ (j ≡ n.0) → holds x (at bs j).slot ≡ true → Good (e ∷ h) x (at bs j)
      old j x ne hd =
          let o : Good h x (at bs j) = inv.good j x hd in
          record {
            opened = kp.open_kept x tt ∙ o.opened;
            place = o.place;
            placed = kp.stored_kept x tt ∙ o.placed;
            got =
                not_for_it h e o.place
                (is_for_lem o.place
                ∙ ne_eqb g.place o.place
                (λ y. ne (apart j n.0 (ap (λ (z : Key). holds z (at bs j).slot) (one_key h (key.key_of s) x o.place (g.placed ∙ ap Some y) o.placed) ∙ hd) holding)))
                ∙ o.got;
            aged = λ y. stays_answered h e o.place (o.aged y);
          }

  -- the result of an abandoned transaction is thrown away
  pub thrown_kept : (r : DeviceResult) (l : List ℕ) → asks e.call ≡ delivers r l → LowOk h bs Abandoned → Inv (e ∷ h) bs Idle
  thrown_kept r l q w =
      record {
        good = old;
        closed = λ x u. kp.open_kept x tt ∙ inv.closed x u;
        low_ok = tt;
      }
    where
      kp : Keeps h e Any
      kp = keeps_deliver h e r l q

      other : (o : Option For) → last_for h ≡ o → (j : ℕ) (x : Key) → holds x (at bs j).slot ≡ true → (s : ℕ) → last_stored h x ≡ Some s → is_for o s ≡ false
      other None y j x hd s p = refl
      other (Some m) y j x hd s p = at_place m.place refl
        where
          at_place : (o : Option ℕ) → m.place ≡ o → is_at o s ≡ false
          at_place None z = refl
          at_place (Some n) z = ne_eqb n s (λ v. w m y j x hd (z ∙ ap Some v ∙ sym p))

      old : (j : ℕ) (x : Key) → holds x (at bs j).slot ≡ true → Good (e ∷ h) x (at bs j)
      old j x hd =
          let o : Good h x (at bs j) = inv.good j x hd in
          record {
            opened = kp.open_kept x tt ∙ o.opened;
            place = o.place;
            placed = kp.stored_kept x tt ∙ o.placed;
            got = not_for_it h e o.place (other (last_for h) refl j x hd o.place o.placed) ∙ o.got;
            aged = λ y. stays_answered h e o.place (o.aged y);
          }

  -- the buffer of the key k is emptied
  pub clear_kept : (k : Key) (n : BufferNumber) → asks e.call ≡ clears k → is_done e.answer ≡ true → n.0 < length bs → holds k (at bs n.0).slot ≡ true
      → ((x : Key) → Apart (holds x) bs) → Inv (e ∷ h) (set bs n.0 vacant) (low_without n low)
  clear_kept k n q d here holding apart =
      record {
        good = good_else h e bs n.0 vacant k here kp f others inv.good (clear_data h e k q d) (λ x hd. absurd (false≢true hd));
        closed = λ x u. shut x u (key? k x);
        low_ok = go low inv.low_ok;
      }
    where
      kp : Keeps h e (Else k)
      kp = keeps_clear h e k q d

      f : last_for (e ∷ h) ≡ last_for h
      f = clear_for h e k q d

      others : (j : ℕ) → ¬ (j ≡ n.0) → (x : Key) → holds x (at bs j).slot ≡ true → Else k x
      others j ne x hd u = ne (apart k j n.0 (ap (λ (y : Key). holds y (at bs j).slot) u ∙ hd) holding)

      only : (x : Key) → holds x (at bs n.0).slot ≡ true → k ≡ x
      only x hd = one_holder (at bs n.0).slot holding hd
        where
          one_holder : (s : Slot) → holds k s ≡ true → holds x s ≡ true → k ≡ x
          one_holder Empty y z = absurd (false≢true y)
          one_holder (Pending s p) y z = sym (same_true (key.key_of s) k y) ∙ same_true (key.key_of s) x z
          one_holder (Ready s r) y z = sym (same_true (key.key_of s) k y) ∙ same_true (key.key_of s) x z
          one_holder (Old s r) y z = sym (same_true (key.key_of s) k y) ∙ same_true (key.key_of s) x z

      shut : (x : Key) → Unheld x (set bs n.0 vacant) → Dec (k ≡ x) → is_open (e ∷ h) x ≡ false
      shut x u (yes y) = ap (is_open (e ∷ h)) (sym y) ∙ clear_closes h e k q d
      shut x u (no ne) = kp.open_kept x ne ∙ inv.closed x (unheld_all bs n.0 vacant here x u (own (holds x (at bs n.0).slot) refl))
        where
          own : (y : Bool) → holds x (at bs n.0).slot ≡ y → y ≡ false
          own true hd = absurd (ne (only x hd))
          own false hd = refl

      go : (x : LowSide) → LowOk h bs x → LowOk (e ∷ h) (set bs n.0 vacant) (low_without n x)
      go Idle w = tt
      go Abandoned w = abandoned_else h e bs n.0 vacant k here kp f others (λ m g x hd. absurd (false≢true hd)) w
      go (Running m) w = by (eqb m.0 n.0) refl
        where
          -- the start-split that was launched is held nowhere any more
          left : (z : Slot) → (at bs n.0).slot ≡ z → RunsFor h z → LowOk (e ∷ h) (set bs n.0 vacant) Abandoned
          left Empty is v = absurd v
          left (Ready s r) is v = absurd v
          left (Old s r) is v = absurd v
          left (Pending s p) is v = λ o g j x.
              at_cases bs n.0 vacant here (λ (y : Buffer). holds x y.slot ≡ true → ¬ (o.place ≡ last_stored (e ∷ h) x)) j
              (λ _ hd. absurd (false≢true hd))
              (λ ne hd y.
              let a : Good h x (at bs j) = inv.good j x hd in
              let mine : holds (key.key_of s) (at bs n.0).slot ≡ true = ap (holds (key.key_of s)) is ∙ same_refl (key.key_of s) in
              let stored_same : last_stored h (key.key_of s) ≡ last_stored h x =
              ap (λ (c : For). c.place) (for_inj (sym v ∙ (sym f ∙ g))) ∙ y ∙ kp.stored_kept x (others j ne x hd) in
              ne (apart x j n.0 hd
              (ap (λ (c : Key). holds c (at bs n.0).slot) (sym (one_key h (key.key_of s) x a.place (stored_same ∙ a.placed) a.placed)) ∙ mine)))

          by : (x : Bool) → eqb m.0 n.0 ≡ x → LowOk (e ∷ h) (set bs n.0 vacant) (cond x Abandoned (Running m))
          by true y = left (at bs n.0).slot refl (subst (λ (z : ℕ). RunsFor h (at bs z).slot) (eqb-true m.0 n.0 y) w)
          by false y = running_else h e bs n.0 vacant k here kp f others m (eqb-false m.0 n.0 y) w

-- a key that is held nowhere is cleared
pub closed_kept : (h : History) (e : Event) (bs : List Buffer) (low : LowSide) → Inv h bs low → (k : Key) → asks e.call ≡ clears k → is_done e.answer ≡ true
    → Unheld k bs → Inv (e ∷ h) bs low
closed_kept h e bs low inv k q d u =
    quiet (record { keeps = keeps_closed h e k q d (inv.closed k u); for_kept = clear_for h e k q d; data_kept = clear_data h e k q d }) inv

-- a repeat: its key is held by an active buffer
pub repeat_kept : (h : History) (e : Event) (bs : List Buffer) (low : LowSide) → Inv h bs low → (k : Key) (i : ℕ) → asks e.call ≡ starts k → is_done e.answer ≡ true
    → holds k (at bs i).slot ≡ true → is_active (at bs i).slot ≡ true → Inv (e ∷ h) bs low
repeat_kept h e bs low inv k i q d holding active =
    quiet
    (record { keeps = keeps_repeat h e k q d ((inv.good i k holding).opened ∙ active); for_kept = start_for h e k q; data_kept = start_data h e k q })
    inv

-- every buffer is empty
pub empty_held : (k : Key) (i : ℕ) → holds k (at (replicate 4 vacant) i).slot ≡ false
empty_held k zero = refl
empty_held k (suc zero) = refl
empty_held k (suc (suc zero)) = refl
empty_held k (suc (suc (suc zero))) = refl
empty_held k (suc (suc (suc (suc i)))) = refl

pub empty_kept : (h : History) → ((k : Key) → is_open h k ≡ false) → Inv h (replicate 4 vacant) Idle
empty_kept h closed =
    record {
      good = λ i k hd. absurd (true≢false (sym hd ∙ empty_held k i));
      closed = λ k _. closed k;
      low_ok = tt;
    }

-- ---- a lane's buffers are emptied

-- a buffer's lane is that of its key
pub lane_of : (z : Lane) (k : Key) (s : Slot) → holds k s ≡ true → in_lane z s ≡ key.same_lane k.lane z
lane_of z k Empty e = absurd (false≢true e)
lane_of z k (Pending s p) e = ap (λ (x : Key). key.same_lane x.lane z) (same_true (key.key_of s) k e)
lane_of z k (Ready s r) e = ap (λ (x : Key). key.same_lane x.lane z) (same_true (key.key_of s) k e)
lane_of z k (Old s r) e = ap (λ (x : Key). key.same_lane x.lane z) (same_true (key.key_of s) k e)

-- what passes a test that an empty buffer fails was left as it was
pub record Spared (z : Lane) (f : Slot → Bool) (bs : List Buffer) (i : ℕ) : Type 0 where
  pub same : at (map (without_lane z) bs) i ≡ at bs i
  pub passes : f (at bs i).slot ≡ true
  pub other : in_lane z (at bs i).slot ≡ false

pub spared : (z : Lane) (f : Slot → Bool) → f Empty ≡ false → (bs : List Buffer) (i : ℕ) → f (at (map (without_lane z) bs) i).slot ≡ true → Spared z f bs i
spared z f off bs i e = go (in_lane z (at bs i).slot) refl (ap (λ (b : Buffer). f b.slot) (sym (at-without_lane z bs i)) ∙ e)
  where
    go : (x : Bool) → in_lane z (at bs i).slot ≡ x → f (cond x vacant (at bs i)).slot ≡ true → Spared z f bs i
    go true n p = absurd (true≢false (sym p ∙ off))
    go false n p = record { same = at-without_lane z bs i ∙ ap (λ (x : Bool). cond x vacant (at bs i)) n; passes = p; other = n }

-- the buffer of another lane is left as it was
pub left_alone : (z : Lane) (bs : List Buffer) (i : ℕ) → in_lane z (at bs i).slot ≡ false → at (map (without_lane z) bs) i ≡ at bs i
left_alone z bs i n = at-without_lane z bs i ∙ ap (λ (x : Bool). cond x vacant (at bs i)) n

module _ (h : History) (e : Event) (bs : List Buffer) (low : LowSide) (inv : Inv h bs low) (z : Lane) (q : asks e.call ≡ resets z) (d : is_done e.answer ≡ true) where
  kp : Keeps h e (Other z)
  kp = keeps_reset h e z q d

  spared_key : (k : Key) (i : ℕ) → holds k (at (map (without_lane z) bs) i).slot ≡ true → Other z k
  spared_key k i hd = let s = spared z (holds k) refl bs i hd in sym (lane_of z k (at bs i).slot s.passes) ∙ s.other

  pub reset_kept : Inv (e ∷ h) (map (without_lane z) bs) (low_without_lane z bs low)
  reset_kept =
      record {
        good = λ i k hd.
            let s = spared z (holds k) refl bs i hd in
            subst (Good (e ∷ h) k) (sym s.same) (good_kept kp (spared_key k i hd) (reset_data h e z q d) (inv.good i k s.passes));
        closed = λ k u. shut k u (key.same_lane k.lane z) refl;
        low_ok = go low inv.low_ok;
      }
    where
      shut : (k : Key) → Unheld k (map (without_lane z) bs) → (x : Bool) → key.same_lane k.lane z ≡ x → is_open (e ∷ h) k ≡ false
      shut k u true y = reset_closes h e z q d k y
      shut k u false y = kp.open_kept k y ∙ inv.closed k (λ i. by i (holds k (at bs i).slot) refl)
        where
          by : (i : ℕ) (x : Bool) → holds k (at bs i).slot ≡ x → x ≡ false
          by i true hd = sym hd ∙ (ap (λ (b : Buffer). holds k b.slot) (sym (left_alone z bs i (lane_of z k (at bs i).slot hd ∙ y))) ∙ u i)
          by i false hd = refl

      -- the start-split that was launched is held nowhere any more
      left : (s : Slot) → in_lane z s ≡ true → RunsFor h s → LowOk (e ∷ h) (map (without_lane z) bs) Abandoned
      left Empty n w = absurd w
      left (Ready s r) n w = absurd w
      left (Old s r) n w = absurd w
      left (Pending s p) n w = λ l g i k hd y.
          let a : Good h k (at bs i) = inv.good i k (spared z (holds k) refl bs i hd).passes in
          let stored_same : last_stored h (key.key_of s) ≡ last_stored h k =
          ap (λ (c : For). c.place) (for_inj (sym w ∙ (sym (reset_for h e z q d) ∙ g))) ∙ y ∙ reset_stores h e z q d k in
          let one : key.key_of s ≡ k = one_key h (key.key_of s) k a.place (stored_same ∙ a.placed) a.placed in
          true≢false (sym n ∙ ap (λ (x : Key). key.same_lane x.lane z) one ∙ spared_key k i hd)

      go : (x : LowSide) → LowOk h bs x → LowOk (e ∷ h) (map (without_lane z) bs) (low_without_lane z bs x)
      go Idle w = tt
      go Abandoned w = λ l g i k hd y. w l (sym (reset_for h e z q d) ∙ g) i k (spared z (holds k) refl bs i hd).passes (y ∙ reset_stores h e z q d k)
      go (Running n) w = by (in_lane z (at bs n.0).slot) refl
        where
          by : (x : Bool) → in_lane z (at bs n.0).slot ≡ x → LowOk (e ∷ h) (map (without_lane z) bs) (cond x Abandoned (Running n))
          by true y = left (at bs n.0).slot y w
          by false y =
              subst (λ (b : Buffer). RunsFor (e ∷ h) b.slot) (sym (left_alone z bs n.0 y))
              (runs_kept kp (reset_for h e z q d) (at bs n.0).slot (λ k hd. sym (lane_of z k (at bs n.0).slot hd) ∙ y) w)
