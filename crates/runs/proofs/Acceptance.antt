-- The order of acceptance: the places of the pending buffers go as their start-splits were stored. Assumes nothing.
use Prim.Native.Nat.{ℕ, zero, suc, ◌<◌, ◌≤◌}
use native.Mathlib.Omega.{arith}
use mathlib.Core.Path.{◌≡◌, refl, sym, ◌∙◌, ap, subst}
use Rattle.std.specs.Prelude.{Option, Some}
use mathlib.Core.List.{List, ◌∷◌, map}
use mathlib.Core.Bool.{Bool, true, false, not, ◌&&◌, ◌||◌, true≢false, false≢true, or-true, and-eq-true_iff}
use borrow.Author.Tests.{eq-eqb, ne_eqb, eqb-true, eqb-false, not-true}
use lib.ListN.{length, set, replicate}
use lib.Dec.{eqb}
use Rattle.payload.specs.Payload.{content, payload_of}
use Rattle.payload.proofs.Laws.{content_of}
use Rattle.bools.specs.Bit.{bit}
use Rattle.buffer.specs.declared.Lane.{Lane}
use Rattle.buffer.specs.declared.Lane.TheVariants.{Zero}
use Rattle.buffer.specs.declared.Key.{Key}
use Rattle.buffer.specs.declared.StartSplit.{StartSplit}
use Rattle.buffer.specs.declared.Pid.TheVariants as pid
use Rattle.buffer.specs.declared.TransferType.TheVariants.{Control}
use Rattle.buffer.specs.declared.Slot.{Slot}
use Rattle.buffer.specs.declared.Slot.TheVariants.{Empty, Pending, Ready, Old}
use Rattle.buffer.specs.declared.Buffer.{Buffer}
use Rattle.buffer.specs.Key as key
use Rattle.buffer.specs.Same.{same_key}
use Rattle.buffer.specs.Buffer.{vacant, is_pending, is_free, holds, in_lane}
use Rattle.buffer.proofs.Keys.{same_true, same_refl}
use Rattle.translator.specs.declared.LowSide.{LowSide}
use Rattle.translator.specs.Translator.{at}
use Rattle.translator.specs.Valid.{at_place, Apart}
use Rattle.translator.specs.Order.{waiting, before, reranked, ranked_in, ranked}
use Rattle.translator.specs.Answers.{lane_number, pid_number}
use Rattle.translator.specs.ResetLane.{without_lane}
use Rattle.translator.proofs.At.{at_same, at_other, at_cases, at-ranked, pending_reranked}
use Rattle.translator.proofs.Ranks.{rank_lt, rank_below}
use Rattle.numbers.proofs.Laws.{numbers_claims_lem}
use Rattle.numbers.specs.Written.{type_number}
use Rattle.hub.specs.Call.{Call, Start}
use Rattle.runs.specs.History.{Event, History, starts, resets, asks, is_done, is_open, stores, last_stored}
use Rattle.runs.specs.Order.{pending_after, is_pending_at, call_at, is_from}
use Rattle.runs.proofs.Histories.{Below, stored-below, not_new, some_inj, one_key, keeps_start, start_stores, reset_stores}
use Rattle.runs.proofs.Invariant.{Inv, idle_closed, lane_of, Spared, spared, left_alone}

-- ---- what a pending slot holds

abbrev pub no_split : StartSplit
no_split = record { lane = Zero; pid = pid.Out; transfer = Control; lowspeed = false; toggle = false; address = record { 0 = 0 }; endpoint = 0 }

abbrev pub split_in : Slot → StartSplit
split_in Empty = no_split
split_in (Pending s p) = s
split_in (Ready s r) = s
split_in (Old s r) = s

abbrev pub place_in : Slot → ℕ
place_in Empty = 0
place_in (Pending s p) = p
place_in (Ready s r) = 0
place_in (Old s r) = 0

abbrev pub key_in : Slot → Key
key_in s = key.key_of (split_in s)

abbrev pub Waits : List Buffer → ℕ → Type 0
Waits bs i = is_pending (at bs i).slot ≡ true

pub waits_holds : (s : Slot) → is_pending s ≡ true → holds (key_in s) s ≡ true
waits_holds Empty e = e
waits_holds (Pending s p) e = same_refl (key.key_of s)
waits_holds (Ready s r) e = absurd (false≢true e)
waits_holds (Old s r) e = absurd (false≢true e)

pub holds-key : (k : Key) (s : Slot) → holds k s ≡ true → key_in s ≡ k
holds-key k Empty e = absurd (false≢true e)
holds-key k (Pending s p) e = same_true (key.key_of s) k e
holds-key k (Ready s r) e = same_true (key.key_of s) k e
holds-key k (Old s r) e = same_true (key.key_of s) k e

pub waits_placed : (s : Slot) → is_pending s ≡ true → at_place (place_in s) s ≡ true
waits_placed Empty e = e
waits_placed (Pending s p) e = eq-eqb p p refl
waits_placed (Ready s r) e = absurd (false≢true e)
waits_placed (Old s r) e = absurd (false≢true e)

key-reranked : (bs : List Buffer) (s : Slot) → split_in (reranked bs s) ≡ split_in s
key-reranked bs Empty = refl
key-reranked bs (Pending s p) = refl
key-reranked bs (Ready s r) = refl
key-reranked bs (Old s r) = refl

pub place-reranked : (bs : List Buffer) (s : Slot) → is_pending s ≡ true → place_in (reranked bs s) ≡ before (place_in s) bs
place-reranked bs Empty e = absurd (false≢true e)
place-reranked bs (Pending s p) e = refl
place-reranked bs (Ready s r) e = absurd (false≢true e)
place-reranked bs (Old s r) e = absurd (false≢true e)

-- the start-split with these numbers
abbrev pub call_of : StartSplit → List ℕ → Call
call_of s l = Start (lane_number s.lane) (pid_number s.pid) (type_number s.transfer) (bit s.lowspeed) (bit s.toggle) s.address.0 s.endpoint l

pub ranked-below : (bs : List Buffer) (i : ℕ) → Waits (ranked bs) i → place_in (at (ranked bs) i).slot < waiting bs
ranked-below bs i w =
    let was : Waits bs i = sym (ap (λ (b : Buffer). is_pending b.slot) (at-ranked bs i) ∙ pending_reranked bs (at bs i).slot) ∙ w in
    let place : place_in (at (ranked bs) i).slot ≡ before (place_in (at bs i).slot) bs =
    ap (λ (b : Buffer). place_in b.slot) (at-ranked bs i) ∙ place-reranked bs (at bs i).slot was in
    let below : before (place_in (at bs i).slot) bs < waiting bs = rank_below bs i (place_in (at bs i).slot) (waits_placed (at bs i).slot was) in
    omega (arith, place, below)

-- ---- the invariant

-- a pending buffer holds a start-split that the history calls pending
pub record Stands (h : History) (b : Buffer) : Type 0 where
  pub place : ℕ
  pub placed : last_stored h (key_in b.slot) ≡ Some place
  pub pending : is_pending_at h place ≡ true
  pub asked : call_at h place ≡ Some (call_of (split_in b.slot) (content b.payload))

-- a start-split that the history calls pending is in a pending buffer
pub record Known (h : History) (bs : List Buffer) (s : ℕ) : Type 0 where
  pub spot : ℕ
  pub waits : Waits bs spot
  pub placed : last_stored h (key_in (at bs spot).slot) ≡ Some s

pub record Queue (h : History) (bs : List Buffer) : Type 0 where
  pub stands : (i : ℕ) → Waits bs i → Stands h (at bs i)
  pub known : (s : ℕ) → is_pending_at h s ≡ true → Known h bs s
  pub order : (i j s r : ℕ) → Waits bs i → Waits bs j → last_stored h (key_in (at bs i).slot) ≡ Some s → last_stored h (key_in (at bs j).slot) ≡ Some r
      → s < r → place_in (at bs i).slot < place_in (at bs j).slot

call_kept : (h : History) (e : Event) (k : Key) (s : ℕ) (c : Call) → last_stored h k ≡ Some s → call_at h s ≡ Some c → call_at (e ∷ h) s ≡ Some c
unfolding call_at
call_kept h e k s c l f = rw (ne_eqb s (length h) (λ q. not_new h k l (sym q))) f

-- numbering anew by rank keeps the order
pub queue_ranked : (h : History) (bs : List Buffer) → Queue h bs → Queue h (ranked bs)
queue_ranked h bs queue =
    record {
      stands = λ i w. subst (Stands h) (sym (at-ranked bs i)) (moved i (queue.stands i (was i w)));
      known = λ s p.
          let k : Known h bs s = queue.known s p in
          record { spot = k.spot; waits = is k.spot ∙ k.waits; placed = ap (last_stored h) (under k.spot) ∙ k.placed };
      order = λ i j s r w v e f l.
          let a : place_in (at bs i).slot < place_in (at bs j).slot =
          queue.order i j s r (was i w) (was j v) (ap (last_stored h) (sym (under i)) ∙ e) (ap (last_stored h) (sym (under j)) ∙ f) l in
          let b : before (place_in (at bs i).slot) bs < before (place_in (at bs j).slot) bs =
          rank_lt bs i (place_in (at bs i).slot) (waits_placed (at bs i).slot (was i w)) (place_in (at bs j).slot) a in
          omega (arith, b, new_place i w, new_place j v);
    }
  where
    is : (i : ℕ) → is_pending (at (ranked bs) i).slot ≡ is_pending (at bs i).slot
    is i = ap (λ (b : Buffer). is_pending b.slot) (at-ranked bs i) ∙ pending_reranked bs (at bs i).slot

    was : (i : ℕ) → Waits (ranked bs) i → Waits bs i
    was i w = sym (is i) ∙ w

    under : (i : ℕ) → key_in (at (ranked bs) i).slot ≡ key_in (at bs i).slot
    under i = ap (λ (b : Buffer). key_in b.slot) (at-ranked bs i) ∙ ap key.key_of (key-reranked bs (at bs i).slot)

    new_place : (i : ℕ) → Waits (ranked bs) i → place_in (at (ranked bs) i).slot ≡ before (place_in (at bs i).slot) bs
    new_place i w = ap (λ (b : Buffer). place_in b.slot) (at-ranked bs i) ∙ place-reranked bs (at bs i).slot (was i w)

    moved : (i : ℕ) → Stands h (at bs i) → Stands h (ranked_in bs (at bs i))
    moved i s =
        record {
          place = s.place;
          placed = ap (λ (x : StartSplit). last_stored h (key.key_of x)) (key-reranked bs (at bs i).slot) ∙ s.placed;
          pending = s.pending;
          asked = s.asked ∙ ap (λ (x : StartSplit). Some (call_of x (content (at bs i).payload))) (sym (key-reranked bs (at bs i).slot));
        }

-- ---- an event that changes no buffer, nor what is pending

module _ (h : History) (e : Event) (bs : List Buffer) (queue : Queue h bs) (same : (l : Key) → last_stored (e ∷ h) l ≡ last_stored h l) where
  pub queue_quiet : ((s : ℕ) → is_pending_at (e ∷ h) s ≡ is_pending_at h s) → Queue (e ∷ h) bs
  queue_quiet still =
      record {
        stands = λ i w.
            let s : Stands h (at bs i) = queue.stands i w in
            record {
              place = s.place;
              placed = same (key_in (at bs i).slot) ∙ s.placed;
              pending = still s.place ∙ s.pending;
              asked = call_kept h e (key_in (at bs i).slot) s.place _ s.placed s.asked;
            };
        known = λ s p.
            let k : Known h bs s = queue.known s (sym (still s) ∙ p) in
            record { spot = k.spot; waits = k.waits; placed = same (key_in (at bs k.spot).slot) ∙ k.placed };
        order = λ i j s r w v f g. queue.order i j s r w v (sym (same (key_in (at bs i).slot)) ∙ f) (sym (same (key_in (at bs j).slot)) ∙ g);
      }

  -- buffer i is left not pending, and the other pending ones stay
  module _ (i : ℕ) (b : Buffer) (here : i < length bs) (np : is_pending b.slot ≡ false) where
    else : (j : ℕ) → Waits (set bs i b) j → ¬ (j ≡ i)
    else j w q =
        true≢false (sym w ∙ ap (λ (n : ℕ). is_pending (at (set bs i b) n).slot) q ∙ ap (λ (x : Buffer). is_pending x.slot) (at_same bs i b here) ∙ np)

    was : (j : ℕ) → Waits (set bs i b) j → at (set bs i b) j ≡ at bs j
    was j w = at_other bs i b here j (else j w)

    pub queue_left : ((j s : ℕ) → ¬ (j ≡ i) → Waits bs j → last_stored h (key_in (at bs j).slot) ≡ Some s → is_pending_at h s ≡ true → is_pending_at (e ∷ h) s ≡ true)
        → ((s : ℕ) → is_pending_at (e ∷ h) s ≡ true → (is_pending_at h s ≡ true) × (Waits bs i → ¬ (last_stored h (key_in (at bs i).slot) ≡ Some s)))
        → Queue (e ∷ h) (set bs i b)
    queue_left stay only =
        record {
          stands = λ j w. subst (Stands (e ∷ h)) (sym (was j w)) (stood j (else j w) (subst (λ (x : Buffer). is_pending x.slot ≡ true) (was j w) w));
          known = λ s p. knew s (only s p);
          order = λ j l s r w v f g.
              let w' : Waits bs j = subst (λ (x : Buffer). is_pending x.slot ≡ true) (was j w) w in
              let v' : Waits bs l = subst (λ (x : Buffer). is_pending x.slot ≡ true) (was l v) v in
              λ q. subst (λ (x : Buffer). place_in x.slot < place_in (at (set bs i b) l).slot) (sym (was j w))
              (subst (λ (x : Buffer). place_in (at bs j).slot < place_in x.slot) (sym (was l v))
              (queue.order j l s r w' v'
              (sym (same (key_in (at bs j).slot)) ∙ ap (λ (x : Buffer). last_stored (e ∷ h) (key_in x.slot)) (sym (was j w)) ∙ f)
              (sym (same (key_in (at bs l).slot)) ∙ ap (λ (x : Buffer). last_stored (e ∷ h) (key_in x.slot)) (sym (was l v)) ∙ g) q));
        }
      where
        stood : (j : ℕ) → ¬ (j ≡ i) → Waits bs j → Stands (e ∷ h) (at bs j)
        stood j ne w =
            let s : Stands h (at bs j) = queue.stands j w in
            record {
              place = s.place;
              placed = same (key_in (at bs j).slot) ∙ s.placed;
              pending = stay j s.place ne w s.placed s.pending;
              asked = call_kept h e (key_in (at bs j).slot) s.place _ s.placed s.asked;
            }

        knew : (s : ℕ) → (is_pending_at h s ≡ true) × (Waits bs i → ¬ (last_stored h (key_in (at bs i).slot) ≡ Some s)) → Known (e ∷ h) (set bs i b) s
        knew s o =
            let k : Known h bs s = queue.known s o.0 in
            let ne : ¬ (k.spot ≡ i) = λ q.
            o.1 (subst (λ (n : ℕ). Waits bs n) q k.waits) (subst (λ (n : ℕ). last_stored h (key_in (at bs n).slot) ≡ Some s) q k.placed) in
            record {
              spot = k.spot;
              waits = subst (λ (x : Buffer). is_pending x.slot ≡ true) (sym (at_other bs i b here k.spot ne)) k.waits;
              placed = subst (λ (x : Buffer). last_stored (e ∷ h) (key_in x.slot) ≡ Some s) (sym (at_other bs i b here k.spot ne))
                  (same (key_in (at bs k.spot).slot) ∙ k.placed);
            }

    -- the start-split p, which buffer i holds under the key k, is no longer pending
    pub queue_gone : (k : Key) → Apart (holds k) bs → holds k (at bs i).slot ≡ true → (p : ℕ) → last_stored h k ≡ Some p
        → ((s : ℕ) → is_pending_at (e ∷ h) s ≡ (not (eqb p s) && is_pending_at h s)) → Queue (e ∷ h) (set bs i b)
    queue_gone k apart hd p placed gone = queue_left
        (λ j s ne w l q. gone s ∙ rw (ne_eqb p s (λ u. ne (apart j i (mine j w (one_key h (key_in (at bs j).slot) k s l (placed ∙ ap Some u))) hd)), q))
        (λ s q.
        let both = (and-eq-true_iff (not (eqb p s)) (is_pending_at h s)).0 (sym (gone s) ∙ q) in
        (both.1, λ w l. eqb-false p s (not-true (eqb p s) both.0) (some_inj (sym placed ∙ (ap (last_stored h) (sym (holds-key k (at bs i).slot hd)) ∙ l)))))
      where
        mine : (j : ℕ) → Waits bs j → key_in (at bs j).slot ≡ k → holds k (at bs j).slot ≡ true
        mine j w u = ap (λ (x : Key). holds x (at bs j).slot) (sym u) ∙ waits_holds (at bs j).slot w

-- ---- a start-split is stored, in the last place

pub queue_into : (h : History) (e : Event) (bs : List Buffer) (low : LowSide) → Inv h bs low → Queue h bs → (s : StartSplit) (l : List ℕ) (i n : ℕ)
    → asks e.call ≡ starts (key.key_of s) → is_done e.answer ≡ true → e.call ≡ call_of s l → length l ≤ 64 → i < length bs → is_free (at bs i).slot ≡ true
    → ((j : ℕ) → holds (key.key_of s) (at bs j).slot ≡ true → j ≡ i) → ((j : ℕ) → Waits bs j → place_in (at bs j).slot < n)
    → Queue (e ∷ h) (set bs i (record { slot = Pending s n; payload = payload_of l }))
unfolding is_pending_at pending_after call_at stores
queue_into h e bs low inv queue s l i n q d says short here free only last =
    record {
      stands = λ j. at_cases bs i b here (λ (y : Buffer). is_pending y.slot ≡ true → Stands (e ∷ h) y) j (λ _ _. new) (old j);
      known = λ x p. knew x ((is_done e.answer && same_key k k) && not (is_open h k)) (eqb x (length h)) refl (is_pending_at h x) refl (rw q at p);
      order = λ j m x y.
          at_cases bs i b here (λ (c : Buffer). is_pending c.slot ≡ true → Waits (set bs i b) m → last_stored (e ∷ h) (key_in c.slot) ≡ Some x
          → last_stored (e ∷ h) (key_in (at (set bs i b) m).slot) ≡ Some y → x < y → place_in c.slot < place_in (at (set bs i b) m).slot) j
          (λ _ _. at_cases bs i b here (λ (z : Buffer). is_pending z.slot ≡ true → last_stored (e ∷ h) k ≡ Some x
          → last_stored (e ∷ h) (key_in z.slot) ≡ Some y → x < y → n < place_in z.slot) m
          (λ _ _ f g lt. absurd (let u : x ≡ y = some_inj (sym f ∙ g) in omega (arith, u, lt)))
          (λ ne w f g lt. absurd (let u : x ≡ length h = some_inj (sym f ∙ placed) in
          let z : y < length h = below (key_in (at bs m).slot) y (sym (kept m ne w) ∙ g) in omega (arith, u, z, lt))))
          (λ nj wj. at_cases bs i b here (λ (z : Buffer). is_pending z.slot ≡ true → last_stored (e ∷ h) (key_in (at bs j).slot) ≡ Some x
          → last_stored (e ∷ h) (key_in z.slot) ≡ Some y → x < y → place_in (at bs j).slot < place_in z.slot) m
          (λ _ _ f g lt. last j wj)
          (λ nl wl f g lt. queue.order j m x y wj wl (sym (kept j nj wj) ∙ f) (sym (kept m nl wl) ∙ g) lt));
    }
  where
    k : Key
    k = key.key_of s

    b : Buffer
    b = record { slot = Pending s n; payload = payload_of l }

    was_closed : is_open h (key.key_of s) ≡ false
    was_closed = idle_closed inv i free (key.key_of s) (λ j ne. no_hold j ne (holds (key.key_of s) (at bs j).slot) refl)
      where
        no_hold : (j : ℕ) → ¬ (j ≡ i) → (x : Bool) → holds (key.key_of s) (at bs j).slot ≡ x → x ≡ false
        no_hold j ne true w = absurd (ne (only j w))
        no_hold j ne false w = refl

    placed : last_stored (e ∷ h) (key.key_of s) ≡ Some (length h)
    placed = start_stores h e (key.key_of s) q d was_closed

    kept : (j : ℕ) → ¬ (j ≡ i) → Waits bs j → last_stored (e ∷ h) (key_in (at bs j).slot) ≡ last_stored h (key_in (at bs j).slot)
    kept j ne w =
        (keeps_start h e (key.key_of s) q d).stored_kept (key_in (at bs j).slot)
        (λ u. ne (only j (ap (λ (x : Key). holds x (at bs j).slot) u ∙ waits_holds (at bs j).slot w)))

    below : (x : Key) (y : ℕ) → last_stored h x ≡ Some y → y < length h
    below x y f = subst (λ (o : Option ℕ). Below o (length h)) f (stored-below h x)

    new : Stands (e ∷ h) b
    new =
        record {
          place = length h;
          placed = placed;
          pending = rw (q, d, same_refl (key.key_of s), was_closed, eq-eqb (length h) (length h) refl);
          asked = rw (eq-eqb (length h) (length h) refl, content_of l short) (ap Some says);
        }

    old : (j : ℕ) → ¬ (j ≡ i) → Waits bs j → Stands (e ∷ h) (at bs j)
    old j ne w =
        let x : Stands h (at bs j) = queue.stands j w in
        record {
          place = x.place;
          placed = kept j ne w ∙ x.placed;
          pending = rw (q, x.pending) (or-true (((is_done e.answer && same_key (key.key_of s) (key.key_of s)) && not (is_open h (key.key_of s))) && eqb x.place (length h)));
          asked = call_kept h e (key_in (at bs j).slot) x.place _ x.placed x.asked;
        }

    knew : (x : ℕ) (u v : Bool) → eqb x (length h) ≡ v → (w : Bool) → is_pending_at h x ≡ w → ((u && v) || w) ≡ true → Known (e ∷ h) (set bs i b) x
    knew x u v f true g p =
        let a : Known h bs x = queue.known x g in
        let ne : ¬ (a.spot ≡ i) = λ z. busy (at bs a.spot).slot a.waits (ap (λ (y : ℕ). is_free (at bs y).slot) z ∙ free) in
        record {
          spot = a.spot;
          waits = subst (λ (y : Buffer). is_pending y.slot ≡ true) (sym (at_other bs i b here a.spot ne)) a.waits;
          placed = subst (λ (y : Buffer). last_stored (e ∷ h) (key_in y.slot) ≡ Some x) (sym (at_other bs i b here a.spot ne)) (kept a.spot ne a.waits ∙ a.placed);
        }
      where
        busy : (z : Slot) → is_pending z ≡ true → is_free z ≡ true → ⊥
        busy Empty y z = false≢true y
        busy (Pending c r) y z = false≢true z
        busy (Ready c r) y z = false≢true y
        busy (Old c r) y z = false≢true y
    knew x true true f false g p =
        record {
          spot = i;
          waits = subst (λ (y : Buffer). is_pending y.slot ≡ true) (sym (at_same bs i b here)) refl;
          placed = subst (λ (y : Buffer). last_stored (e ∷ h) (key_in y.slot) ≡ Some x) (sym (at_same bs i b here)) (placed ∙ ap Some (sym (eqb-true x (length h) f)));
        }
    knew x true false f false g p = absurd (false≢true p)
    knew x false v f false g p = absurd (false≢true p)

-- every buffer is empty
pub queue_empty : (h : History) → ((s : ℕ) → is_pending_at h s ≡ false) → Queue h (replicate 4 vacant)
queue_empty h idle-all =
    record {
      stands = λ i w. absurd (true≢false (sym w ∙ idle i));
      known = λ s p. absurd (true≢false (sym p ∙ idle-all s));
      order = λ i j s r w. absurd (true≢false (sym w ∙ idle i));
    }
  where
    idle : (i : ℕ) → is_pending (at (replicate 4 vacant) i).slot ≡ false
    idle zero = refl
    idle (suc zero) = refl
    idle (suc (suc zero)) = refl
    idle (suc (suc (suc zero))) = refl
    idle (suc (suc (suc (suc i)))) = refl

-- ---- a lane's buffers are emptied

module _ (h : History) (e : Event) (bs : List Buffer) (queue : Queue h bs) (z : Lane) (q : asks e.call ≡ resets z) (d : is_done e.answer ≡ true) where
  same_stored : (l : Key) → last_stored (e ∷ h) l ≡ last_stored h l
  same_stored = reset_stores h e z q d

  -- whether the start-split of a pending buffer is the lane's
  from_lane : (i : ℕ) → Waits bs i → (s : Stands h (at bs i)) → is_from z (call_at h s.place) ≡ in_lane z (at bs i).slot
  from_lane i w s =
      ap (is_from z) s.asked ∙ ap (λ (y : Lane). key.same_lane y z) (numbers_claims_lem.lanes.value_back (split_in (at bs i).slot).lane)
      ∙ sym (lane_of z (key_in (at bs i).slot) (at bs i).slot (waits_holds (at bs i).slot w))

  after : (s : ℕ) → is_pending_at (e ∷ h) s ≡ (not (is_from z (call_at h s)) && is_pending_at h s)
  unfolding is_pending_at pending_after
  after s = rw (q, d)

  pub queue_reset : Queue (e ∷ h) (map (without_lane z) bs)
  queue_reset =
      record {
        stands = λ i w. let x = left i w in subst (Stands (e ∷ h)) (sym x.same) (stood i x.passes x.other);
        known = λ s p.
            let x = (and-eq-true_iff (not (is_from z (call_at h s))) (is_pending_at h s)).0 (sym (after s) ∙ p) in
            knew s (not-true (is_from z (call_at h s)) x.0) (queue.known s x.1);
        order = λ i j s r w v f g.
            let x = left i w in
            let y = left j v in
            let o : s < r → place_in (at bs i).slot < place_in (at bs j).slot =
            queue.order i j s r x.passes y.passes (sym (same_stored (key_in (at bs i).slot)) ∙ (ap (λ (b : Buffer). last_stored (e ∷ h) (key_in b.slot)) (sym x.same) ∙ f))
            (sym (same_stored (key_in (at bs j).slot)) ∙ (ap (λ (b : Buffer). last_stored (e ∷ h) (key_in b.slot)) (sym y.same) ∙ g)) in
            λ lt.
            let a : place_in (at (map (without_lane z) bs) i).slot ≡ place_in (at bs i).slot = ap (λ (b : Buffer). place_in b.slot) x.same in
            let b : place_in (at (map (without_lane z) bs) j).slot ≡ place_in (at bs j).slot = ap (λ (b : Buffer). place_in b.slot) y.same in
            omega (arith, o lt, a, b);
      }
    where
      left : (i : ℕ) → Waits (map (without_lane z) bs) i → Spared z is_pending bs i
      left i w = spared z is_pending refl bs i w

      stood : (i : ℕ) → Waits bs i → in_lane z (at bs i).slot ≡ false → Stands (e ∷ h) (at bs i)
      stood i w n =
          let s : Stands h (at bs i) = queue.stands i w in
          record {
            place = s.place;
            placed = same_stored (key_in (at bs i).slot) ∙ s.placed;
            pending = after s.place ∙ rw (from_lane i w s, n, s.pending);
            asked = call_kept h e (key_in (at bs i).slot) s.place _ s.placed s.asked;
          }

      knew : (s : ℕ) → is_from z (call_at h s) ≡ false → Known h bs s → Known (e ∷ h) (map (without_lane z) bs) s
      knew s n k =
          let x : Stands h (at bs k.spot) = queue.stands k.spot k.waits in
          let here : x.place ≡ s = some_inj (sym x.placed ∙ k.placed) in
          let other : in_lane z (at bs k.spot).slot ≡ false =
          sym (from_lane k.spot k.waits x) ∙ (ap (λ (m : ℕ). is_from z (call_at h m)) here ∙ n) in
          let kept : at (map (without_lane z) bs) k.spot ≡ at bs k.spot = left_alone z bs k.spot other in
          record {
            spot = k.spot;
            waits = ap (λ (b : Buffer). is_pending b.slot) kept ∙ k.waits;
            placed = same_stored (key_in (at (map (without_lane z) bs) k.spot).slot) ∙ (ap (λ (b : Buffer). last_stored h (key_in b.slot)) kept ∙ k.placed);
          }
