-- The tally holds: as many start-splits wait, by the history, as buffers are pending or ready, and nothing emptied is answered. Assumes nothing.
use Prim.Native.Nat.{ℕ, zero, suc, ◌+◌}
use native.Mathlib.Omega.{arith}
use mathlib.Core.Path.{◌≡◌, refl, sym, ◌∙◌, ap, subst}
use mathlib.Core.Logic.{◌⊎◌, inl, inr}
use mathlib.Core.List.{List, [], ◌∷◌}
use mathlib.Core.Bool.{Bool, true, false, cond, not, ◌&&◌, ◌||◌, and-eq-true_iff, false≢true, true≢false, or-true}
use borrow.Author.Tests.{eq-eqb}
use lib.ListN.{length, take}
use lib.Dec.{eqb}
use Rattle.buffer.specs.declared.Lane.{Lane}
use Rattle.buffer.specs.declared.Key.{Key}
use Rattle.buffer.specs.declared.Slot.{Slot}
use Rattle.buffer.specs.declared.Slot.TheVariants.{Empty, Pending, Ready, Old}
use Rattle.buffer.specs.declared.Buffer.{Buffer}
use Rattle.buffer.specs.Same.{same_key}
use Rattle.buffer.specs.Buffer.{is_active, holds}
use Rattle.buffer.proofs.Keys.{same_refl, same_true}
use Rattle.buffer.specs.declared.BufferNumber.{BufferNumber}
use Rattle.translator.specs.declared.Translator.{Translator}
use Rattle.translator.specs.declared.LowSide.{LowSide}
use Rattle.translator.specs.Translator.{at, tally}
use Rattle.bools.specs.Bit.{bit}
use Rattle.translator.specs.Search.{find}
use Rattle.translator.specs.CompleteSplit.{complete_at, complete_split}
use Rattle.translator.proofs.Finding.{FindSays, find_says}
use Rattle.numbers.specs.Named.{lane_from}
use Rattle.numbers.specs.Split.{key_from}
use Rattle.std.specs.Prelude.{Some, None, Option}
use Rattle.request.specs.declared.Kind.{Kind}
use Rattle.request.specs.declared.Kind.TheVariants as kind
use Rattle.request.specs.Setup.{setup_of}
use Rattle.request.specs.Table.{kind_of}
use Rattle.hub.specs.declared.Hub.{Hub}
use Rattle.hub.specs.Call.{Call, Control, Poll, Start, Complete, Launch, Deliver, Event as Line, Tick, BusReset}
use Rattle.hub.specs.Rules.{completed_as}
use Rattle.hub.specs.Checks.{within}
use Rattle.hub.specs.Step.{served, step}
use Rattle.hub.proofs.Order.{by_checks}
use Rattle.runs.specs.History.{Event, History, Asks, nothing, starts, completes, launches, delivers, clears, resets, empties, request_asks, asks, is_done, gives_result, is_open, stores, last_stored, is_at}
use Rattle.runs.specs.Order.{call_at, is_from}
use Rattle.runs.specs.Machine.{rules, new_hub_of, run_from, after_from}
use Rattle.runs.specs.Tally.{stores_it, answers_it, empties_it, is_stored_at, is_answered_at, is_emptied_at, waits_at, count_to, tally_of, active_buffers, past, TallyHolds}
use Rattle.runs.proofs.Histories.{Below, stored-below, some_inj, one_key}
use Rattle.runs.proofs.Invariant.{Good, Inv, Unheld}
use Rattle.runs.proofs.Kept.{ev, Tied}
use Rattle.runs.proofs.Steps.{complete-key, step_kept}
use Rattle.runs.proofs.Theorems.{new_tied}
use Rattle.runs.proofs.Acceptance.{key_in, holds-key}
use Rattle.runs.proofs.Counting.{count_sum, Matched, matched}
use Rattle.runs.proofs.Fates.{is_at_lem, waiting, waits, open_waits, Opener, opener}

-- ---- an open key is held

held_or : (k : Key) (bs : List Buffer) → ((i : ℕ) × (holds k (at bs i).slot ≡ true)) ⊎ Unheld k bs
held_or k [] = inr (λ i. refl)
held_or k (b ∷ bs) = go (holds k b.slot) refl (held_or k bs)
  where
    go : (x : Bool) → holds k b.slot ≡ x → ((i : ℕ) × (holds k (at bs i).slot ≡ true)) ⊎ Unheld k bs → ((i : ℕ) × (holds k (at (b ∷ bs) i).slot ≡ true)) ⊎ Unheld k (b ∷ bs)
    go true e r = inl (0, e)
    go false e (inl f) = inl (suc f.0, f.1)
    go false e (inr u) = inr None
      where
        None : (i : ℕ) → holds k (at (b ∷ bs) i).slot ≡ false
        None zero = e
        None (suc i) = u i

holder : {h : History} {bs : List Buffer} {low : LowSide} → Inv h bs low → (k : Key) → is_open h k ≡ true → (i : ℕ) × (holds k (at bs i).slot ≡ true)
holder {h} {bs} inv k o = go (held_or k bs)
  where
    go : ((i : ℕ) × (holds k (at bs i).slot ≡ true)) ⊎ Unheld k bs → (i : ℕ) × (holds k (at bs i).slot ≡ true)
    go (inl f) = f
    go (inr u) = absurd (true≢false (sym o ∙ inv.closed k u))

-- ---- as many start-splits wait as buffers are pending or ready

active_holds : (s : Slot) → is_active s ≡ true → holds (key_in s) s ≡ true
active_holds Empty e = e
active_holds (Pending s p) e = same_refl (key_in (Pending s p))
active_holds (Ready s r) e = same_refl (key_in (Ready s r))
active_holds (Old s r) e = absurd (false≢true e)

abbrev place_of : Option ℕ → ℕ
place_of None = 0
place_of (Some s) = s

-- f tells of a buffer that is pending or ready, and p of a start-split, whether its key passes m; nothing else passes f
pub record ByKey (h : History) (m : Key → Bool) (f : Slot → Bool) (p : ℕ → Bool) : Type 0 where
  pub active : (s : Slot) → f s ≡ true → is_active s ≡ true
  pub of_slot : (s : Slot) → is_active s ≡ true → f s ≡ m (key_in s)
  pub of_place : (k : Key) (s : ℕ) → last_stored h k ≡ Some s → p s ≡ m k

pub waiting_count : (h : History) (t : Translator) → Tied h t → (m : Key → Bool) (f : Slot → Bool) (p : ℕ → Bool) → ByKey h m f p
    → count_to (λ s. p s && waits_at h s) (length h) ≡ tally f t.buffers
waiting_count h t tied m f p told = matched f (empty (f Empty) refl) t.buffers (λ s. p s && waits_at h s) (length h) together
  where
    empty : (x : Bool) → f Empty ≡ x → x ≡ false
    empty true e = sym (told.active Empty e)
    empty false e = refl

    slot : ℕ → Slot
    slot i = (at t.buffers i).slot

    key : ℕ → Key
    key i = key_in (at t.buffers i).slot

    act : (i : ℕ) → f (slot i) ≡ true → is_active (slot i) ≡ true
    act i e = told.active (slot i) e

    good : (i : ℕ) → f (slot i) ≡ true → Good h (key i) (at t.buffers i)
    good i e = tied.inv.good i (key i) (active_holds (slot i) (act i e))

    placed : (i : ℕ) (e : f (slot i) ≡ true) → place_of (last_stored h (key i)) ≡ (good i e).place
    placed i e = ap place_of (good i e).placed

    waits_at_lem : (i : ℕ) (e : f (slot i) ≡ true) → (p (good i e).place && waits_at h (good i e).place) ≡ true
    waits_at_lem i e =
        let s = (good i e).place in
        rw (told.of_place (key i) s (good i e).placed ∙ sym (told.of_slot (slot i) (act i e)) ∙ e)
        (waits (is_stored_at h s) (is_answered_at h s) (is_emptied_at h s) (open_waits h (key i) s ((good i e).opened ∙ act i e) (good i e).placed))

    spot : (s : ℕ) → p s ≡ true → Opener h s → (i : ℕ) × (f (slot i) ≡ true) × (place_of (last_stored h (key i)) ≡ s)
    spot s named o =
        let b = holder tied.inv o.key o.opened in
        let same : key b.0 ≡ o.key = holds-key o.key (slot b.0) b.1 in
        let active : is_active (slot b.0) ≡ true = sym (tied.inv.good b.0 o.key b.1).opened ∙ o.opened in (
          b.0,
          told.of_slot (slot b.0) active ∙ ap m same ∙ sym (told.of_place o.key s o.placed) ∙ named,
          ap (λ (k : Key). place_of (last_stored h k)) same ∙ ap place_of o.placed,
        )

    together : Matched (λ s. p s && waits_at h s) (length h) f t.buffers
    together =
        record {
          place = λ i. place_of (last_stored h (key i));
          below = λ i e. rw (placed i e) (subst (λ (o : Option ℕ). Below o (length h)) (good i e).placed (stored-below h (key i)));
          marked = λ i e. ap (λ (s : ℕ). p s && waits_at h s) (placed i e) ∙ waits_at_lem i e;
          apart = λ i j e g q.
              let same : key i ≡ key j =
              one_key h (key i) (key j) (good i e).place (good i e).placed ((good j g).placed ∙ ap Some (sym (placed j g) ∙ (sym q ∙ placed i e))) in
              tied.valid.keys (key j) i j
              (ap (λ (k : Key). holds k (slot i)) (sym same) ∙ active_holds (slot i) (act i e))
              (active_holds (slot j) (act j g));
          found = λ s l w.
              let two = (and-eq-true_iff (p s) (waits_at h s)).0 w in
              spot s two.0 (opener h s (waiting (is_stored_at h s) (is_answered_at h s) (is_emptied_at h s) two.1));
        }

active_count : (h : History) (t : Translator) → Tied h t → count_to (waits_at h) (length h) ≡ tally is_active t.buffers
active_count h t tied =
    waiting_count h t tied (λ k. true) is_active (λ s. true) (record { active = λ s e. e; of_slot = λ s e. e; of_place = λ k s l. refl })

-- ---- what was answered or emptied was stored

stored_is : (h : History) (k : Key) (s : ℕ) → last_stored h k ≡ Some s → is_stored_at h s ≡ true
unfolding last_stored is_stored_at stores stores_it
stored_is [] k s l = let z : ◌≡◌ {A = ℕ} 0 1 = cc in absurd (omega arith)
stored_is (e ∷ h) k s l = go (asks e.call) l (stored_is h k s)
  where
    go : (x : Asks) → cond (stores x e.answer k (is_open h k)) (Some (length h)) (last_stored h k) ≡ Some s → (last_stored h k ≡ Some s → is_stored_at h s ≡ true)
        → (stores_it x e.answer h s || is_stored_at h s) ≡ true
    go nothing l ih = ih l
    go (starts k') l ih = by ((is_done e.answer && same_key k' k) && not (is_open h k)) refl l
      where
        by : (t : Bool) → ((is_done e.answer && same_key k' k) && not (is_open h k)) ≡ t → cond t (Some (length h)) (last_stored h k) ≡ Some s
            → (((is_done e.answer && same_key k' k') && not (is_open h k')) && eqb s (length h) || is_stored_at h s) ≡ true
        by false p l = rw (ih l) (or-true (((is_done e.answer && same_key k' k') && not (is_open h k')) && eqb s (length h)))
        by true p l =
            let two = (and-eq-true_iff (is_done e.answer && same_key k' k) (not (is_open h k))).0 p in
            let done = (and-eq-true_iff (is_done e.answer) (same_key k' k)).0 two.0 in
            rw (done.0, same_refl k', ap (λ (x : Key). not (is_open h x)) (same_true k' k done.1) ∙ two.1, eq-eqb s (length h) (sym (some_inj l)))
    go (completes k') l ih = ih l
    go launches l ih = ih l
    go (delivers r y) l ih = ih l
    go (clears k') l ih = ih l
    go (resets z) l ih = ih l
    go empties l ih = ih l

stays_stored : (h : History) (e : Event) (s : ℕ) → is_stored_at h s ≡ true → is_stored_at (e ∷ h) s ≡ true
unfolding is_stored_at
stays_stored h e s p = rw p (or-true (stores_it (asks e.call) e.answer h s))

answered-stored : (h : History) (s : ℕ) → is_answered_at h s ≡ true → is_stored_at h s ≡ true
unfolding is_answered_at answers_it
answered-stored [] s p = absurd (false≢true p)
answered-stored (e ∷ h) s p = stays_stored h e s (go (asks e.call) p (answered-stored h s))
  where
    go : (x : Asks) → (answers_it x e.answer h s || is_answered_at h s) ≡ true → (is_answered_at h s ≡ true → is_stored_at h s ≡ true) → is_stored_at h s ≡ true
    go nothing p ih = ih p
    go (starts k) p ih = ih p
    go (completes k) p ih = by (gives_result e.answer && is_at (last_stored h k) s) refl p
      where
        by : (t : Bool) → (gives_result e.answer && is_at (last_stored h k) s) ≡ t → (t || is_answered_at h s) ≡ true → is_stored_at h s ≡ true
        by true q p = stored_is h k s (is_at_lem (last_stored h k) s ((and-eq-true_iff (gives_result e.answer) (is_at (last_stored h k) s)).0 q).1)
        by false q p = ih p
    go launches p ih = ih p
    go (delivers r y) p ih = ih p
    go (clears k) p ih = ih p
    go (resets z) p ih = ih p
    go empties p ih = ih p

emptied-stored : (h : History) (s : ℕ) → is_emptied_at h s ≡ true → is_stored_at h s ≡ true
unfolding is_emptied_at
emptied-stored [] s p = absurd (false≢true p)
emptied-stored (e ∷ h) s p = stays_stored h e s (go (empties_it (asks e.call) e.answer h s) (is_stored_at h s) (is_answered_at h s) p (emptied-stored h s))
  where
    go : (t st an : Bool) → ((t && (st && not an)) || is_emptied_at h s) ≡ true → (is_emptied_at h s ≡ true → st ≡ true) → st ≡ true
    go t true an p ih = refl
    go true false an p ih = ih p
    go false false an p ih = ih p

-- ---- nothing emptied is answered

abbrev pub is_complete : Asks → Bool
is_complete nothing = false
is_complete (starts k) = false
is_complete (completes k) = true
is_complete launches = false
is_complete (delivers r l) = false
is_complete (clears k) = false
is_complete (resets z) = false
is_complete empties = false

pub request_else : (z : Lane) (x : Option Kind) (v : ℕ) → is_complete (request_asks z x v) ≡ false
request_else z None v = refl
request_else z (Some kind.SetConfiguration) v = refl
request_else z (Some kind.GetConfiguration) v = refl
request_else z (Some kind.GetHubDescriptor) v = refl
request_else z (Some kind.GetHubStatus) v = refl
request_else z (Some kind.GetPortStatus) v = refl
request_else z (Some kind.ClearHubFeature) v = refl
request_else z (Some kind.ClearPortFeature) v = refl
request_else z (Some kind.SetPortFeature) v = refl
request_else z (Some kind.ClearTTBuffer) v = refl
request_else z (Some kind.ResetTT) v = refl

completes_inj : (k l : Key) → completes k ≡ completes l → k ≡ l
completes_inj k l e = cc

-- a complete-split answered 1 or 9 finds its key held
abbrev Held : Hub → Key → Type 0
Held hub k = (i : ℕ) × (holds k (at hub.translator.buffers i).slot ≡ true)

complete-held : (hub : Hub) (c : Call) (k : Key) → asks c ≡ completes k → gives_result (step hub c).answer ≡ true → Held hub k
unfolding asks served within complete_split
complete-held hub (Complete z a e d room) k q r =
    by_checks hub (Complete z a e d room) (λ o. gives_result o.answer ≡ true → Held hub k) (λ r. absurd (false≢true r)) (λ r. absurd (false≢true r))
    (λ r. absurd (false≢true r)) (λ r. absurd (false≢true r))
    (λ n f g.
    subst (Held hub) (sym (complete-key z a e d n) ∙ completes_inj _ k q)
    (found (find (holds (key_from z a e d)) (take hub.translator.count hub.translator.buffers))
    (find_says (holds (key_from z a e d)) hub.translator.count hub.translator.buffers) g))
    r
  where
    found : (f : Option BufferNumber) → FindSays (holds (key_from z a e d)) hub.translator.count hub.translator.buffers f
        → gives_result (completed_as hub (complete_at hub.translator f)).answer ≡ true → Held hub (key_from z a e d)
    found None s r = absurd (false≢true r)
    found (Some n) s r = (n.0, s.passes)
complete-held hub (Control z s room) k q r = absurd (false≢true (sym (request_else (lane_from z) (kind_of (setup_of s).requesttype (setup_of s).code) (setup_of s).value) ∙ ap is_complete q))
complete-held hub (Poll z room) k q r = absurd (false≢true (ap is_complete q))
complete-held hub (Start z p t f g a e l) k q r = absurd (false≢true (ap is_complete q))
complete-held hub (Launch room) k q r = absurd (false≢true (ap is_complete q))
complete-held hub (Deliver x l) k q r = absurd (false≢true (ap is_complete q))
complete-held hub (Line e n) k q r = absurd (false≢true (ap is_complete q))
complete-held hub Tick k q r = absurd (false≢true (ap is_complete q))
complete-held hub BusReset k q r = absurd (false≢true (ap is_complete q))

abbrev pub Never : History → Type 0
Never h = (s : ℕ) → is_answered_at h s ≡ true → is_emptied_at h s ≡ false

pub never_step : (h : History) (hub : Hub) → Tied h hub.translator → Never h → (c : Call) → Never (ev c (step hub c).answer ∷ h)
unfolding is_answered_at is_emptied_at answers_it empties_it
never_step h hub tied never c s p = go (asks c) refl p
  where
    again : (t st an : Bool) → is_answered_at h s ≡ true → an ≡ true → ((t && (st && not an)) || is_emptied_at h s) ≡ false
    again false st an p q = never s p
    again true false an p q = never s p
    again true true an p q = rw q (never s p)

    held : (k : Key) → last_stored h k ≡ Some s → (i : ℕ) → holds k (at hub.translator.buffers i).slot ≡ true → is_emptied_at h s ≡ false
    held k l i hd = by (is_active (at hub.translator.buffers i).slot) refl
      where
        g : Good h k (at hub.translator.buffers i)
        g = tied.inv.good i k hd

        by : (x : Bool) → is_active (at hub.translator.buffers i).slot ≡ x → is_emptied_at h s ≡ false
        by true e = (open_waits h k s (g.opened ∙ e) l).not_emptied
        by false e = never s (ap (is_answered_at h) (some_inj (sym l ∙ g.placed)) ∙ g.aged e)

    go : (x : Asks) → asks c ≡ x → (answers_it x (step hub c).answer h s || is_answered_at h s) ≡ true
        → ((empties_it x (step hub c).answer h s && (is_stored_at h s && not (is_answered_at h s))) || is_emptied_at h s) ≡ false
    go nothing q p = never s p
    go (starts k) q p = never s p
    go launches q p = never s p
    go (delivers r l) q p = never s p
    go (clears k) q p = again (is_done (step hub c).answer && is_at (last_stored h k) s) (is_stored_at h s) (is_answered_at h s) p p
    go (resets z) q p = again (is_done (step hub c).answer && is_from z (call_at h s)) (is_stored_at h s) (is_answered_at h s) p p
    go empties q p = again (is_done (step hub c).answer) (is_stored_at h s) (is_answered_at h s) p p
    go (completes k) q p = by (gives_result (step hub c).answer && is_at (last_stored h k) s) refl p
      where
        by : (t : Bool) → (gives_result (step hub c).answer && is_at (last_stored h k) s) ≡ t → (t || is_answered_at h s) ≡ true → is_emptied_at h s ≡ false
        by false e p = never s p
        by true e p =
            let two = (and-eq-true_iff (gives_result (step hub c).answer) (is_at (last_stored h k) s)).0 e in
            let f = complete-held hub c k q two.0 in
            held k (is_at_lem (last_stored h k) s two.1) f.0 f.1

-- ---- the sum

parted : (st an em : Bool) → (an ≡ true → st ≡ true) → (em ≡ true → st ≡ true) → (an ≡ true → em ≡ false) → bit st ≡ bit an + bit em + bit (st && (not an && not em))
parted true true true a e n = absurd (true≢false (n refl))
parted true true false a e n = refl
parted true false true a e n = refl
parted true false false a e n = refl
parted false true em a e n = absurd (false≢true (a refl))
parted false false true a e n = absurd (false≢true (e refl))
parted false false false a e n = refl

pub tally-sum : (h : History) (t : Translator) → Tied h t → Never h → (tally_of h).stored ≡ (tally_of h).answered + (tally_of h).emptied + tally is_active t.buffers
unfolding tally_of
tally-sum h t tied never =
    omega (arith, active_count h t tied, count_sum (is_stored_at h) (is_answered_at h) (is_emptied_at h) (waits_at h) (length h) (λ s. parted (is_stored_at h s) (is_answered_at h s) (is_emptied_at h s) (answered-stored h s) (emptied-stored h s) (never s)))

tally-after : (cs : List Call) (h : History) (hub : Hub) → Tied h hub.translator → Never h
    → (tally_of (past h (run_from rules hub cs))).stored ≡ (tally_of (past h (run_from rules hub cs))).answered + (tally_of (past h (run_from rules hub cs))).emptied + active_buffers (after_from rules hub cs)
unfolding run_from after_from past
tally-after [] h hub tied never = tally-sum h hub.translator tied never
tally-after (c ∷ cs) h hub tied never = tally-after cs (ev c (step hub c).answer ∷ h) (step hub c).next (step_kept h hub tied c).0 (never_step h hub tied never c)

pub tally_holds : TallyHolds rules active_buffers
unfolding is_answered_at
tally_holds n cs = tally-after cs [] (new_hub_of n) (new_tied n) (λ s p. absurd (false≢true p))
