-- What replay counts is the tally over the history. Assumes nothing.
use Prim.Native.Nat.{ℕ, zero, suc, ◌+◌, ◌≤◌, zero-le}
use native.Mathlib.Omega.{arith}
use mathlib.Core.Path.{◌≡◌, refl, ◌∙◌, ap, subst}
use mathlib.Core.List.{List, [], ◌∷◌}
use mathlib.Core.Bool.{Bool, true, false, not, ◌&&◌, or-true, false≢true}
use lib.ListN.{length}
use Rattle.bools.specs.Bit.{bit}
use Rattle.numbers.specs.Named.{lane_from}
use Rattle.request.specs.Setup.{setup_of}
use Rattle.request.specs.Table.{kind_of}
use Rattle.hub.specs.declared.Hub.{Hub}
use Rattle.hub.specs.Call.{Answer, Call, Control, Poll, Start, Complete, Launch, Deliver, Event as Line, Tick, BusReset}
use Rattle.hub.specs.Step.{step}
use Rattle.runs.specs.History.{Event, History, Asks, nothing, starts, completes, launches, delivers, clears, resets, empties, asks}
use Rattle.runs.specs.Machine.{new_hub_of, rules, run_from}
use Rattle.runs.specs.Tally.{Tally, stores_it, answers_it, empties_it, is_stored_at, is_answered_at, is_emptied_at, count_to, tally_of, active_buffers, past}
use Rattle.runs.proofs.Kept.{ev, Tied}
use Rattle.runs.proofs.Steps.{step_kept}
use Rattle.runs.proofs.Theorems.{new_tied}
use Rattle.runs.proofs.Counting.{count_same}
use Rattle.runs.proofs.Fates.{late_stored, late_answered, late_emptied}
use Rattle.runs.proofs.Tallied.{is_complete as is_completes, request_else, Never, never_step, tally-sum}
use Rattle.replay.specs.Counting.{is_complete, tallied_by, tallied, Counted}

-- ---- counting one place more

bit_le : (x y : Bool) → (x ≡ true → y ≡ true) → bit x ≤ bit y
bit_le true y h = rw (h refl) (omega arith)
bit_le false y h = zero-le

count_le : (f g : ℕ → Bool) (n : ℕ) → ((s : ℕ) → f s ≡ true → g s ≡ true) → count_to f n ≤ count_to g n
unfolding count_to
count_le f g zero h = omega arith
count_le f g (suc n) h = omega (arith, bit_le (f n) (g n) (h n), count_le f g n h)

module _ (h : History) (e : Event) where
  stored_le : (tally_of h).stored ≤ (tally_of (e ∷ h)).stored
  unfolding tally_of count_to is_stored_at
  stored_le =
      omega (arith, count_le (is_stored_at h) (is_stored_at (e ∷ h)) (length h) (λ s p. rw p (or-true (stores_it (asks e.call) e.answer h s))))

  answered_le : (tally_of h).answered ≤ (tally_of (e ∷ h)).answered
  unfolding tally_of count_to is_answered_at
  answered_le =
      omega (arith, count_le (is_answered_at h) (is_answered_at (e ∷ h)) (length h) (λ s p. rw p (or-true (answers_it (asks e.call) e.answer h s))))

  emptied_le : (tally_of h).emptied ≤ (tally_of (e ∷ h)).emptied
  unfolding tally_of count_to is_emptied_at
  emptied_le =
      omega (
        arith,
        count_le (is_emptied_at h) (is_emptied_at (e ∷ h)) (length h)
            (λ s p. rw p (or-true (empties_it (asks e.call) e.answer h s && (is_stored_at h s && not (is_answered_at h s))))),
      )

  stored_same : ((s : ℕ) → is_stored_at (e ∷ h) s ≡ is_stored_at h s) → (tally_of (e ∷ h)).stored ≡ (tally_of h).stored
  unfolding tally_of count_to
  stored_same p =
      let last = ap bit (p (length h) ∙ late_stored h (length h) (omega arith)) in
      omega (arith, last, count_same (is_stored_at (e ∷ h)) (is_stored_at h) (length h) (λ s _. p s))

  answered_same : ((s : ℕ) → is_answered_at (e ∷ h) s ≡ is_answered_at h s) → (tally_of (e ∷ h)).answered ≡ (tally_of h).answered
  unfolding tally_of count_to
  answered_same p =
      let last = ap bit (p (length h) ∙ late_answered h (length h) (omega arith)) in
      omega (arith, last, count_same (is_answered_at (e ∷ h)) (is_answered_at h) (length h) (λ s _. p s))

  emptied_same : ((s : ℕ) → is_emptied_at (e ∷ h) s ≡ is_emptied_at h s) → (tally_of (e ∷ h)).emptied ≡ (tally_of h).emptied
  unfolding tally_of count_to
  emptied_same p =
      let last = ap bit (p (length h) ∙ late_emptied h (length h) (omega arith)) in
      omega (arith, last, count_same (is_emptied_at (e ∷ h)) (is_emptied_at h) (length h) (λ s _. p s))

-- ---- one call

complete_is : (c : Call) → is_completes (asks c) ≡ is_complete c
unfolding asks
complete_is (Control z s room) = request_else (lane_from z) (kind_of (setup_of s).requesttype (setup_of s).code) (setup_of s).value
complete_is (Poll z room) = refl
complete_is (Start z p t f g a e l) = refl
complete_is (Complete z a e d room) = refl
complete_is (Launch room) = refl
complete_is (Deliver r l) = refl
complete_is (Line e n) = refl
complete_is Tick = refl
complete_is BusReset = refl

pub tally_is : (t u : Tally) → t.stored ≡ u.stored → t.answered ≡ u.answered → t.emptied ≡ u.emptied → t ≡ u
tally_is t u p q r = λ i. record { stored = p i; answered = q i; emptied = r i }

-- which of the three a call may change
stored_else : (h : History) (e : Event) (x : Asks) → asks e.call ≡ x → (s : ℕ) → stores_it x e.answer h s ≡ false
    → is_stored_at (e ∷ h) s ≡ is_stored_at h s
unfolding is_stored_at
stored_else h e x q s p = rw (q, p)

answered_else : (h : History) (e : Event) (x : Asks) → asks e.call ≡ x → (s : ℕ) → answers_it x e.answer h s ≡ false
    → is_answered_at (e ∷ h) s ≡ is_answered_at h s
unfolding is_answered_at
answered_else h e x q s p = rw (q, p)

emptied_else : (h : History) (e : Event) (x : Asks) → asks e.call ≡ x → (s : ℕ) → empties_it x e.answer h s ≡ false
    → is_emptied_at (e ∷ h) s ≡ is_emptied_at h s
unfolding is_emptied_at
emptied_else h e x q s p = rw (q, p)

module _ (h : History) (hub : Hub) (tied : Tied h hub.translator) (never : Never h) (c : Call) where
  abbrev next : Hub
  next = (step hub c).next

  abbrev said : Answer
  said = (step hub c).answer

  abbrev now : History
  now = ev c said ∷ h

  was : (tally_of h).stored ≡ (tally_of h).answered + (tally_of h).emptied + active_buffers hub
  was = tally-sum h hub.translator tied never

  is : (tally_of now).stored ≡ (tally_of now).answered + (tally_of now).emptied + active_buffers next
  is = tally-sum now next.translator (step_kept h hub tied c).0 (never_step h hub tied never c)

  none_stored : (x : Asks) → asks c ≡ x → ((s : ℕ) → stores_it x said h s ≡ false) → (tally_of now).stored ≡ (tally_of h).stored
  none_stored x q p = stored_same h (ev c said) (λ s. stored_else h (ev c said) x q s (p s))

  none_answered : (x : Asks) → asks c ≡ x → ((s : ℕ) → answers_it x said h s ≡ false) → (tally_of now).answered ≡ (tally_of h).answered
  none_answered x q p = answered_same h (ev c said) (λ s. answered_else h (ev c said) x q s (p s))

  none_emptied : (x : Asks) → asks c ≡ x → ((s : ℕ) → empties_it x said h s ≡ false) → (tally_of now).emptied ≡ (tally_of h).emptied
  none_emptied x q p = emptied_same h (ev c said) (λ s. emptied_else h (ev c said) x q s (p s))

  abbrev Tallies : Bool → Type 0
  Tallies complete = tallied_by complete (active_buffers hub) (active_buffers next) (tally_of h) ≡ tally_of now

  emptied_only : (tally_of now).stored ≡ (tally_of h).stored → (tally_of now).answered ≡ (tally_of h).answered → Tallies false
  emptied_only s a =
      let more = emptied_le h (ev c said) in
      tally_is _ _ (omega (arith, was, is, a, s, more)) (omega (arith, a)) (omega (arith, was, is, a, s, more))

  stored_only : (tally_of now).answered ≡ (tally_of h).answered → (tally_of now).emptied ≡ (tally_of h).emptied → Tallies false
  stored_only a m =
      let more = stored_le h (ev c said) in
      tally_is _ _ (omega (arith, was, is, a, m, more)) (omega (arith, a)) (omega (arith, was, is, a, m, more))

  answered_only : (tally_of now).stored ≡ (tally_of h).stored → (tally_of now).emptied ≡ (tally_of h).emptied → Tallies true
  answered_only s m =
      let more = answered_le h (ev c said) in
      tally_is _ _ (omega (arith, was, is, s, m, more)) (omega (arith, was, is, s, m, more)) (omega (arith, m))

  tally_step : Tallies (is_complete c)
  unfolding stores_it answers_it empties_it
  tally_step = subst Tallies (complete_is c) (go (asks c) refl)
    where
      emptied_by : (x : Asks) → asks c ≡ x → ((s : ℕ) → stores_it x (step hub c).answer h s ≡ false)
          → ((s : ℕ) → answers_it x (step hub c).answer h s ≡ false) → Tallies false
      emptied_by x q s a = emptied_only (none_stored x q s) (none_answered x q a)

      go : (x : Asks) → asks c ≡ x → Tallies (is_completes x)
      go nothing q = emptied_by nothing q (λ s. refl) (λ s. refl)
      go (starts k) q = stored_only (none_answered (starts k) q (λ s. refl)) (none_emptied (starts k) q (λ s. refl))
      go (completes k) q = answered_only (none_stored (completes k) q (λ s. refl)) (none_emptied (completes k) q (λ s. refl))
      go launches q = emptied_by launches q (λ s. refl) (λ s. refl)
      go (delivers r l) q = emptied_by (delivers r l) q (λ s. refl) (λ s. refl)
      go (clears k) q = emptied_by (clears k) q (λ s. refl) (λ s. refl)
      go (resets z) q = emptied_by (resets z) q (λ s. refl) (λ s. refl)
      go empties q = emptied_by empties q (λ s. refl) (λ s. refl)

counts_from : (cs : List Call) (h : History) (hub : Hub) → Tied h hub.translator → Never h
    → tallied hub cs (tally_of h) ≡ tally_of (past h (run_from rules hub cs))
unfolding tallied past run_from
counts_from [] h hub tied never = refl
counts_from (c ∷ cs) h hub tied never =
    ap (tallied (step hub c).next cs) (tally_step h hub tied never c)
    ∙ counts_from cs (ev c (step hub c).answer ∷ h) (step hub c).next (step_kept h hub tied c).0 (never_step h hub tied never c)

pub counted : Counted
unfolding is_answered_at tally_of count_to
counted n cs = counts_from cs [] (new_hub_of n) (new_tied n) (λ s p. absurd (false≢true p))
