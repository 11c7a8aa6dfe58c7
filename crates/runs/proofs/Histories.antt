-- Laws of a history that hold of any list of events. Assumes nothing.
use Prim.Native.Nat.{ℕ, suc, ◌<◌, ◌≤◌}
use native.Mathlib.Omega.{arith}
use mathlib.Core.Path.{◌≡◌, refl, sym, ◌∙◌, ap, subst}
use Rattle.std.specs.Prelude.{Option, None, Some}
use mathlib.Core.List.{List, [], ◌∷◌}
use mathlib.Core.Bool.{Bool, true, false, cond, not, ◌&&◌, ◌||◌, and-eq-true_iff, false≢true, and-false, or-true}
use borrow.Author.Tests.{eq-eqb, ne_eqb}
use lib.ListN.{length}
use lib.Dec.{eqb}
use Rattle.buffer.specs.declared.Lane.{Lane}
use Rattle.buffer.specs.declared.Key.{Key}
use Rattle.buffer.specs.declared.DeviceResult.{DeviceResult}
use Rattle.buffer.specs.Same.{same_key}
use Rattle.buffer.specs.Key.{same_lane}
use Rattle.buffer.proofs.Keys.{same_true, same_eq, same_ne, key?}
use Rattle.hub.specs.Call.{Answer}
use Rattle.runs.specs.History.{Event, History, Asks, nothing, starts, completes, launches, delivers, clears, resets, empties, asks, answer_key, is_done, gives_result, open_after, is_open, stores, last_stored, For, for_after, last_for, is_at, is_for, data_of, delivered_for}
use Rattle.runs.specs.Tally.{answers_it, is_answered_at}

-- ---- the place of a stored start-split is in the history

abbrev pub Below : Option ℕ → ℕ → Type 0
Below None n = Unit {0}
Below (Some s) n = s < n

below_suc : (o : Option ℕ) (n : ℕ) → Below o n → Below o (suc n)
below_suc None n b = tt
below_suc (Some s) n b = omega arith

pub stored-below : (h : History) (k : Key) → Below (last_stored h k) (length h)
unfolding last_stored
stored-below [] k = tt
stored-below (e ∷ h) k = go (stores (asks e.call) e.answer k (is_open h k)) (last_stored h k) (stored-below h k)
  where
    go : (t : Bool) (o : Option ℕ) → Below o (length h) → Below (cond t (Some (length h)) o) (suc (length h))
    go true o b = omega arith
    go false o b = below_suc o (length h) b

abbrev ForBelow : Option For → ℕ → Type 0
ForBelow None n = Unit {0}
ForBelow (Some l) n = Below l.place n

for_below : (h : History) → ForBelow (last_for h) (length h)
unfolding last_for for_after
for_below [] = tt
for_below (e ∷ h) = go (asks e.call) (last_for h) (for_below h)
  where
    up : (o : Option For) → ForBelow o (length h) → ForBelow o (suc (length h))
    up None b = tt
    up (Some l) b = below_suc l.place (length h) b

    by : (x : Bool) (k : Key) (o : Option For) → ForBelow o (length h) → ForBelow (cond x (Some (record { key = k; place = last_stored h k })) o) (suc (length h))
    by true k o b = below_suc (last_stored h k) (length h) (stored-below h k)
    by false k o b = up o b

    go : (x : Asks) (o : Option For) → ForBelow o (length h) → ForBelow (for_after x e.answer h o) (suc (length h))
    go nothing o b = up o b
    go (starts k) o b = up o b
    go (completes k) o b = up o b
    go launches o b = by (eqb e.answer.number 1) (answer_key e.answer) o b
    go (delivers r l) o b = up o b
    go (clears k) o b = up o b
    go (resets z) o b = up o b
    go empties o b = up o b

-- nothing was launched or delivered for a start-split that is yet to come
not_for : (o : Option For) (n s : ℕ) → ForBelow o n → n ≤ s → is_for o s ≡ false
not_for None n s b h = refl
not_for (Some l) n s b h = go l.place b
  where
    go : (o : Option ℕ) → Below o n → is_at o s ≡ false
    go None b = refl
    go (Some m) b = ne_eqb m s (λ e. omega arith)

pub fresh_for : (h : History) → is_for (last_for h) (length h) ≡ false
fresh_for h = not_for (last_for h) (length h) (length h) (for_below h) (omega arith)

fresh_from : (h : History) (s : ℕ) → length h ≤ s → delivered_for h s ≡ []
unfolding delivered_for
fresh_from [] s b = refl
fresh_from (e ∷ h) s b = rw (not_for (last_for h) (length h) s (for_below h) (omega arith)) (fresh_from h s (omega arith))

pub fresh : (h : History) → delivered_for h (length h) ≡ []
fresh h = fresh_from h (length h) (omega arith)

-- ---- a place is stored under one key

stores-key : (x : Asks) (a : Answer) (k l : Key) (o u : Bool) → stores x a k o ≡ true → stores x a l u ≡ true → k ≡ l
unfolding stores
stores-key nothing a k l o u e f = absurd (false≢true e)
stores-key (starts k') a k l o u e f = sym (same_true k' k (under k o e)) ∙ same_true k' l (under l u f)
  where
    under : (x : Key) (o : Bool) → ((is_done a && same_key k' x) && not o) ≡ true → same_key k' x ≡ true
    under x o e = ((and-eq-true_iff (is_done a) (same_key k' x)).0 ((and-eq-true_iff (is_done a && same_key k' x) (not o)).0 e).0).1
stores-key (completes k') a k l o u e f = absurd (false≢true e)
stores-key launches a k l o u e f = absurd (false≢true e)
stores-key (delivers r x) a k l o u e f = absurd (false≢true e)
stores-key (clears k') a k l o u e f = absurd (false≢true e)
stores-key (resets z) a k l o u e f = absurd (false≢true e)
stores-key empties a k l o u e f = absurd (false≢true e)

pub not_new : (h : History) (k : Key) {s : ℕ} → last_stored h k ≡ Some s → length h ≡ s → ⊥
not_new h k {s} e f =
    let b : s < length h = subst (λ (o : Option ℕ). Below o (length h)) e (stored-below h k) in
    omega arith

pub some_inj : {a b : ℕ} → ◌≡◌ {A = Option ℕ} (Some a) (Some b) → a ≡ b
some_inj e = cc

pub one_key : (h : History) (k l : Key) (s : ℕ) → last_stored h k ≡ Some s → last_stored h l ≡ Some s → k ≡ l
unfolding last_stored
one_key [] k l s e f = let z : ◌≡◌ {A = ℕ} 0 1 = cc in absurd (omega arith)
one_key (e ∷ h) k l s p q =
    go (stores (asks e.call) e.answer k (is_open h k)) refl (stores (asks e.call) e.answer l (is_open h l)) refl p q (one_key h k l s)
  where
    go : (t : Bool) → stores (asks e.call) e.answer k (is_open h k) ≡ t → (u : Bool) → stores (asks e.call) e.answer l (is_open h l) ≡ u
        → cond t (Some (length h)) (last_stored h k) ≡ Some s → cond u (Some (length h)) (last_stored h l) ≡ Some s
        → (last_stored h k ≡ Some s → last_stored h l ≡ Some s → k ≡ l) → k ≡ l
    go true x true y p q ih = stores-key (asks e.call) e.answer k l (is_open h k) (is_open h l) x y
    go true x false y p q ih = absurd (not_new h l q (some_inj p))
    go false x true y p q ih = absurd (not_new h k p (some_inj q))
    go false x false y p q ih = ih p q

-- ---- what an event leaves alone

-- the keys of P keep what the history says of them
pub record Keeps (h : History) (e : Event) (P : Key → Type 0) : Type 0 where
  pub open_kept : (k : Key) → P k → is_open (e ∷ h) k ≡ is_open h k
  pub stored_kept : (k : Key) → P k → last_stored (e ∷ h) k ≡ last_stored h k

abbrev pub Any : Key → Type 0
Any k = Unit {0}

abbrev pub Else : Key → Key → Type 0
Else k l = ¬ (k ≡ l)

pub keeps_any : {h : History} {e : Event} → Keeps h e Any → (P : Key → Type 0) → Keeps h e P
keeps_any kp P = record { open_kept = λ k _. kp.open_kept k tt; stored_kept = λ k _. kp.stored_kept k tt }

module _ (h : History) (e : Event) where
  keeps_by : (P : Key → Type 0) → ((k : Key) → P k → open_after (asks e.call) e.answer k (is_open h k) ≡ is_open h k)
      → ((k : Key) → P k → stores (asks e.call) e.answer k (is_open h k) ≡ false) → Keeps h e P
  unfolding is_open last_stored
  keeps_by P o s = record { open_kept = o; stored_kept = λ k p. rw (s k p) }

  pub no_data : data_of (asks e.call) e.answer ≡ [] → (s : ℕ) → delivered_for (e ∷ h) s ≡ delivered_for h s
  unfolding delivered_for
  no_data n s = rw n (go (is_for (last_for h) s))
    where
      go : (t : Bool) → cond t (delivered_for h s) (delivered_for h s) ≡ delivered_for h s
      go true = refl
      go false = refl

  -- a delivery for another start-split, or none
  pub not_for_it : (s : ℕ) → is_for (last_for h) s ≡ false → delivered_for (e ∷ h) s ≡ delivered_for h s
  unfolding delivered_for
  not_for_it s n = rw n

-- an event that says nothing of any key: what is asked is nothing, or the answer is a refusal
pub record Silent (h : History) (e : Event) : Type 0 where
  pub keeps : Keeps h e Any
  pub for_kept : last_for (e ∷ h) ≡ last_for h
  pub data_kept : (s : ℕ) → delivered_for (e ∷ h) s ≡ delivered_for h s

pub silent_nothing : (h : History) (e : Event) → asks e.call ≡ nothing → Silent h e
unfolding open_after stores last_for for_after
silent_nothing h e q =
    record {
      keeps = keeps_by h e Any (λ k _. rw q) (λ k _. rw q);
      for_kept = rw q;
      data_kept = no_data h e (ap (λ (x : Asks). data_of x e.answer) q);
    }

-- no number that opens, closes, stores or gives
pub record Refused (a : Answer) : Type 0 where
  pub not_0 : eqb a.number 0 ≡ false
  pub not_1 : eqb a.number 1 ≡ false
  pub not_9 : eqb a.number 9 ≡ false

module _ (a : Answer) (r : Refused a) where
  open_refused : (x : Asks) (k : Key) (o : Bool) → open_after x a k o ≡ o
  unfolding open_after
  open_refused nothing k o = refl
  open_refused (starts l) k o = rw r.not_0
  open_refused (completes l) k o = rw (r.not_1, r.not_9)
  open_refused launches k o = refl
  open_refused (delivers x l) k o = refl
  open_refused (clears l) k o = rw r.not_0
  open_refused (resets z) k o = rw r.not_0
  open_refused empties k o = rw r.not_0

  stores_refused : (x : Asks) (k : Key) (o : Bool) → stores x a k o ≡ false
  unfolding stores
  stores_refused nothing k o = refl
  stores_refused (starts l) k o = rw r.not_0
  stores_refused (completes l) k o = refl
  stores_refused launches k o = refl
  stores_refused (delivers x l) k o = refl
  stores_refused (clears l) k o = refl
  stores_refused (resets z) k o = refl
  stores_refused empties k o = refl

  for_refused : (x : Asks) (h : History) (l : Option For) → for_after x a h l ≡ l
  unfolding for_after
  for_refused nothing h l = refl
  for_refused (starts k) h l = refl
  for_refused (completes k) h l = refl
  for_refused launches h l = rw r.not_1
  for_refused (delivers x y) h l = refl
  for_refused (clears k) h l = refl
  for_refused (resets z) h l = refl
  for_refused empties h l = refl

  data_refused : (x : Asks) → data_of x a ≡ []
  data_refused nothing = refl
  data_refused (starts k) = refl
  data_refused (completes k) = refl
  data_refused launches = refl
  data_refused (delivers x l) = rw r.not_0
  data_refused (clears k) = refl
  data_refused (resets z) = refl
  data_refused empties = refl

pub silent_refused : (h : History) (e : Event) → Refused e.answer → Silent h e
unfolding last_for
silent_refused h e r =
    record {
      keeps = keeps_by h e Any (λ k _. open_refused e.answer r (asks e.call) k (is_open h k)) (λ k _. stores_refused e.answer r (asks e.call) k (is_open h k));
      for_kept = for_refused e.answer r (asks e.call) h (last_for h);
      data_kept = no_data h e (data_refused e.answer r (asks e.call));
    }

-- ---- what each call says of its key

module _ (h : History) (e : Event) (k : Key) where
  -- a start-split answered 0
  module _ (q : asks e.call ≡ starts k) (d : is_done e.answer ≡ true) where
    pub keeps_start : Keeps h e (Else k)
    unfolding open_after stores
    keeps_start = keeps_by h e (Else k) (λ l n. rw (q, d, same_ne k l n)) (λ l n. rw (q, d, same_ne k l n))

    pub start_opens : is_open (e ∷ h) k ≡ true
    unfolding is_open open_after
    start_opens = rw (q, d, same_eq k k refl)

    pub start_stores : is_open h k ≡ false → last_stored (e ∷ h) k ≡ Some (length h)
    unfolding last_stored stores
    start_stores o = rw (q, d, same_eq k k refl, o)

    -- a repeat: its key is open already
    pub keeps_repeat : is_open h k ≡ true → Keeps h e Any
    unfolding open_after stores
    keeps_repeat o = keeps_by h e Any (λ l _. rw (q, d) (opened l (key? k l))) (λ l _. rw (q, d) (stored l (key? k l)))
      where
        opened : (l : Key) → Dec (k ≡ l) → (same_key k l || is_open h l) ≡ is_open h l
        opened l (yes x) = rw (same_eq k l x) (sym o ∙ ap (is_open h) x)
        opened l (no x) = rw (same_ne k l x)

        stored : (l : Key) → Dec (k ≡ l) → (same_key k l && not (is_open h l)) ≡ false
        stored l (yes x) = rw (same_eq k l x, ← x, o)
        stored l (no x) = rw (same_ne k l x)

  pub start_for : asks e.call ≡ starts k → last_for (e ∷ h) ≡ last_for h
  unfolding last_for for_after
  start_for q = rw q

  pub start_data : asks e.call ≡ starts k → (s : ℕ) → delivered_for (e ∷ h) s ≡ delivered_for h s
  start_data q = no_data h e (ap (λ (x : Asks). data_of x e.answer) q)

  -- a complete-split
  module _ (q : asks e.call ≡ completes k) where
    pub keeps_complete : Keeps h e (Else k)
    unfolding open_after stores
    keeps_complete = keeps_by h e (Else k) (λ l n. rw (q, same_ne k l n, and-false (gives_result e.answer))) (λ l n. rw q)

    pub complete_closes : gives_result e.answer ≡ true → is_open (e ∷ h) k ≡ false
    unfolding is_open open_after
    complete_closes r = rw (q, same_eq k k refl, r)

    pub complete_stores : (l : Key) → last_stored (e ∷ h) l ≡ last_stored h l
    unfolding last_stored stores
    complete_stores l = rw q

    -- closed stays closed
    pub complete_closed : (l : Key) → is_open h l ≡ false → is_open (e ∷ h) l ≡ false
    unfolding is_open open_after
    complete_closed l o = rw (q, o, and-false (not (gives_result e.answer && same_key k l)))

    pub complete_for : last_for (e ∷ h) ≡ last_for h
    unfolding last_for for_after
    complete_for = rw q

    pub complete_data : (s : ℕ) → delivered_for (e ∷ h) s ≡ delivered_for h s
    complete_data = no_data h e (ap (λ (x : Asks). data_of x e.answer) q)

  -- ClearTTBuffer answered 0
  module _ (q : asks e.call ≡ clears k) (d : is_done e.answer ≡ true) where
    pub keeps_clear : Keeps h e (Else k)
    unfolding open_after stores
    keeps_clear = keeps_by h e (Else k) (λ l n. rw (q, d, same_ne k l n)) (λ l n. rw q)

    pub clear_closes : is_open (e ∷ h) k ≡ false
    unfolding is_open open_after
    clear_closes = rw (q, d, same_eq k k refl)

    -- its key is closed already
    pub keeps_closed : is_open h k ≡ false → Keeps h e Any
    unfolding open_after stores
    keeps_closed o = keeps_by h e Any (λ l _. rw (q, d) (opened l (key? k l))) (λ l _. rw q)
      where
        opened : (l : Key) → Dec (k ≡ l) → (not (same_key k l) && is_open h l) ≡ is_open h l
        opened l (yes x) = rw (same_eq k l x) (sym o ∙ ap (is_open h) x)
        opened l (no x) = rw (same_ne k l x)

    pub clear_for : last_for (e ∷ h) ≡ last_for h
    unfolding last_for for_after
    clear_for = rw q

    pub clear_data : (s : ℕ) → delivered_for (e ∷ h) s ≡ delivered_for h s
    clear_data = no_data h e (ap (λ (x : Asks). data_of x e.answer) q)

module _ (h : History) (e : Event) where
  pub keeps_launch : asks e.call ≡ launches → Keeps h e Any
  unfolding open_after stores
  keeps_launch q = keeps_by h e Any (λ k _. rw q) (λ k _. rw q)

  pub launch_data : asks e.call ≡ launches → (s : ℕ) → delivered_for (e ∷ h) s ≡ delivered_for h s
  launch_data q = no_data h e (ap (λ (x : Asks). data_of x e.answer) q)

  pub launch_for : asks e.call ≡ launches → eqb e.answer.number 1 ≡ true
      → last_for (e ∷ h) ≡ Some (record { key = answer_key e.answer; place = last_stored h (answer_key e.answer) })
  unfolding last_for for_after
  launch_for q n = rw (q, n)

  pub keeps_deliver : (r : DeviceResult) (l : List ℕ) → asks e.call ≡ delivers r l → Keeps h e Any
  unfolding open_after stores
  keeps_deliver r l q = keeps_by h e Any (λ k _. rw q) (λ k _. rw q)

  pub deliver_for : (r : DeviceResult) (l : List ℕ) → asks e.call ≡ delivers r l → last_for (e ∷ h) ≡ last_for h
  unfolding last_for for_after
  deliver_for r l q = rw q

  pub empty_closes : asks e.call ≡ empties → is_done e.answer ≡ true → (k : Key) → is_open (e ∷ h) k ≡ false
  unfolding is_open open_after
  empty_closes q d k = rw (q, d)

-- the keys of another lane
abbrev pub Other : Lane → Key → Type 0
Other z k = same_lane k.lane z ≡ false

-- ResetTT from a lane, answered 0
module _ (h : History) (e : Event) (z : Lane) (q : asks e.call ≡ resets z) (d : is_done e.answer ≡ true) where
  pub keeps_reset : Keeps h e (Other z)
  unfolding open_after stores
  keeps_reset = keeps_by h e (Other z) (λ k n. rw (q, d, n)) (λ k n. rw q)

  pub reset_closes : (k : Key) → same_lane k.lane z ≡ true → is_open (e ∷ h) k ≡ false
  unfolding is_open open_after
  reset_closes k n = rw (q, d, n)

  pub reset_stores : (k : Key) → last_stored (e ∷ h) k ≡ last_stored h k
  unfolding last_stored stores
  reset_stores k = rw q

  pub reset_for : last_for (e ∷ h) ≡ last_for h
  unfolding last_for for_after
  reset_for = rw q

  pub reset_data : (s : ℕ) → delivered_for (e ∷ h) s ≡ delivered_for h s
  reset_data = no_data h e (ap (λ (x : Asks). data_of x e.answer) q)

-- ---- answered start-splits

pub stays_answered : (h : History) (e : Event) (s : ℕ) → is_answered_at h s ≡ true → is_answered_at (e ∷ h) s ≡ true
unfolding is_answered_at
stays_answered h e s p = rw p (or-true (answers_it (asks e.call) e.answer h s))

-- by a complete-split answered 1 or 9 under the key that it was last stored under
pub now_answered : (h : History) (e : Event) (k : Key) (s : ℕ) → asks e.call ≡ completes k → gives_result e.answer ≡ true → last_stored h k ≡ Some s → is_answered_at (e ∷ h) s ≡ true
unfolding is_answered_at answers_it
now_answered h e k s q r l = rw (q, r, l, eq-eqb s s refl)
