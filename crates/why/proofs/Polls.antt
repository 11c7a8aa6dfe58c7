-- A poll: the ports and change bits that made a bit one. Assumes nothing.
use Prim.Native.Nat.{ℕ, zero, suc, ◌+◌, ◌-◌, ◌<◌, ◌≤◌}
use native.Mathlib.Omega.{arith}
use mathlib.Core.Path.{◌≡◌, refl, sym, ◌∙◌, ap}
use mathlib.Core.Logic.{◌↔◌, ◌⊎◌, inl, inr}
use mathlib.Core.List.{List, [], ◌∷◌, map}
use mathlib.Core.Bool.{Bool, true, false, cond, ◌||◌, and-eq-true_iff, true≢false, false≢true}
use borrow.Author.Tests.{eqb-true, eqb-false, ne_eqb, leb-true, le-leb, ltb-true, ltb-false}
use native.Mathlib.Decide.{ℕ_discrete}
use lib.Dec.{eqb, leb, ltb}
use lib.ListN.{get_or, get_or-map}
use Rattle.port.specs.declared.Port.{Port}
use Rattle.port.specs.declared.PortNumber.{PortNumber}
use Rattle.port.specs.declared.Changes.{Changes}
use Rattle.port.specs.declared.ChangeBit.{ChangeBit}
use Rattle.port.specs.declared.ChangeBit.TheVariants.{Connection, Enable, Suspend, OverCurrent, Reset}
use Rattle.port.specs.Reaction.{no_changes}
use Rattle.port.specs.Status.{byte_of, has_change}
use Rattle.port.specs.Words.{change_bit, Among}
use Rattle.ports.specs.Ports.{port_at}
use Rattle.ports.specs.Bitmap.{port_bit, bitmap_of}
use Rattle.ports.proofs.Laws.{at-port, ports_claims_lem}
use Rattle.hub.specs.declared.Hub.{Hub}
use Rattle.hub.specs.Call.{refuse, gives}
use Rattle.hub.specs.Rules.{polled}
use Rattle.hub.specs.Valid.{ValidHub, port_indexed}
use Rattle.hub.proofs.Numbers.{fits}
use Rattle.why.specs.declared.PortChanges.{PortChanges}
use Rattle.why.specs.declared.Reason.{Reason}
use Rattle.why.specs.declared.Reason.TheVariants.{Nothing, Number, HeldBy, Reused, TookFree, LimitReached, NoRoom, Changed, Wrong}
use Rattle.why.specs.Said.{by_port, bitmap_by, names, Stands, SomeStands, NamesChanges, SaidOfPoll}
use Rattle.why.specs.Why.{changes_by_port, poll_reason}

-- ---- change bits

or_right : (x y : Bool) → y ≡ true → x || y ≡ true
or_right true y e = refl
or_right false y e = e

bit_changes : (b : ChangeBit) (c : Changes) → change_bit b c ≡ true → has_change c ≡ true
bit_changes Connection c e = rw e
bit_changes Enable c e = or_right c.connection _ (rw e)
bit_changes Suspend c e = or_right c.connection _ (or_right c.enable _ (rw e))
bit_changes OverCurrent c e = or_right c.connection _ (or_right c.enable _ (or_right c.suspend _ (rw e)))
bit_changes Reset c e = or_right c.connection _ (or_right c.enable _ (or_right c.suspend _ (or_right c.overcurrent _ e)))

changes_bit : (c : Changes) → has_change c ≡ true → (b : ChangeBit) × (change_bit b c ≡ true)
changes_bit c = go c.connection refl c.enable refl c.suspend refl c.overcurrent refl c.reset refl
  where
    go : (v : Bool) → c.connection ≡ v → (w : Bool) → c.enable ≡ w → (x : Bool) → c.suspend ≡ x → (y : Bool) → c.overcurrent ≡ y
        → (z : Bool) → c.reset ≡ z → v || (w || (x || (y || z))) ≡ true → (b : ChangeBit) × (change_bit b c ≡ true)
    go true v w f x g y i z j e = (Connection, v)
    go false v true f x g y i z j e = (Enable, f)
    go false v false f true g y i z j e = (Suspend, g)
    go false v false f false g true i z j e = (OverCurrent, i)
    go false v false f false g false i true j e = (Reset, j)
    go false v false f false g false i false j e = absurd (false≢true e)

none_new : (b : ChangeBit) → change_bit b no_changes ≡ false
none_new Connection = refl
none_new Enable = refl
none_new Suspend = refl
none_new OverCurrent = refl
none_new Reset = refl

same_bool : (x y : Bool) → (x ≡ true) ↔ (y ≡ true) → x ≡ y
same_bool true true e = refl
same_bool true false e = sym (e.0 refl)
same_bool false true e = e.1 refl
same_bool false false e = refl

same_changes : (c d : Changes) → ((b : ChangeBit) → change_bit b c ≡ change_bit b d) → c ≡ d
same_changes c d e = λ i. record { connection = e Connection i; enable = e Enable i; suspend = e Suspend i; overcurrent = e OverCurrent i; reset = e Reset i }

same_port_changes : (f g : PortChanges) → ((i : ℕ) (b : ChangeBit) → names f i b ≡ names g i b) → f ≡ g
same_port_changes f g e =
    λ i. record {
      port1 = same_changes f.port1 g.port1 (e 0) i;
      port2 = same_changes f.port2 g.port2 (e 1) i;
      port3 = same_changes f.port3 g.port3 (e 2) i;
      port4 = same_changes f.port4 g.port4 (e 3) i;
      port5 = same_changes f.port5 g.port5 (e 4) i;
      port6 = same_changes f.port6 g.port6 (e 5) i;
      port7 = same_changes f.port7 g.port7 (e 6) i;
    }

-- ---- any hub: the byte follows from what is named

byte_nonzero : (bs : List Bool) (i : ℕ) → get_or bs i false ≡ true → ¬ (byte_of bs ≡ 0)
byte_nonzero [] i e z = false≢true e
byte_nonzero (true ∷ bs) zero e z = absurd (omega (arith, z))
byte_nonzero (false ∷ bs) zero e z = false≢true e
byte_nonzero (true ∷ bs) (suc i) e z = absurd (omega (arith, z))
byte_nonzero (false ∷ bs) (suc i) e z = byte_nonzero bs i e (omega (arith, z))

module _ (h : Hub) (f : PortChanges) (named-all : NamesChanges h f) where
  abbrev ports : ℕ
  ports = h.identity.ports

  port_bit_lem : (p i : ℕ) → p ≡ i + 1 → p ≤ 7 → port_bit ports h.ports p ≡ has_change (get_or (by_port f) i no_changes)
  port_bit_lem p i e l = same_bool (port_bit ports h.ports p) (has_change (get_or (by_port f) i no_changes)) (named, stood)
    where
      there : port_at h.ports (record { 0 = p }) ≡ port_indexed h i
      there =
          let q : p - 1 ≡ i = omega (arith, e) in
          at-port h.ports (record { 0 = p }) (omega (arith, e)) l ∙ ap (port_indexed h) q

      named : port_bit ports h.ports p ≡ true → has_change (get_or (by_port f) i no_changes) ≡ true
      named x =
          let y = (and-eq-true_iff (leb p ports) (has_change (port_at h.ports (record { 0 = p })).changes)).0 x in
          let b = changes_bit (port_indexed h i).changes (ap (λ (q : Port). has_change q.changes) (sym there) ∙ y.1) in
          bit_changes b.0 (get_or (by_port f) i no_changes)
          ((named-all.each i b.0).1 (record { one_of_n = omega (arith, e, leb-true p ports y.0); set = b.1 }))

      stood : has_change (get_or (by_port f) i no_changes) ≡ true → port_bit ports h.ports p ≡ true
      stood x =
          let b = changes_bit (get_or (by_port f) i no_changes) x in
          let s = (named-all.each i b.0).0 b.1 in
          let g : leb p ports ≡ true = le-leb p ports (omega (arith, e, s.one_of_n)) in
          (and-eq-true_iff (leb p ports) (has_change (port_at h.ports (record { 0 = p })).changes)).1
          (g, ap (λ (q : Port). has_change q.changes) there ∙ bit_changes b.0 (port_indexed h i).changes s.set)

  bitmap_is : bitmap_of ports h.ports ≡ bitmap_by f
  unfolding bitmap_of
  bitmap_is =
      rw (
        port_bit_lem 1 0 refl (omega arith),
        port_bit_lem 2 1 refl (omega arith),
        port_bit_lem 3 2 refl (omega arith),
        port_bit_lem 4 3 refl (omega arith),
        port_bit_lem 5 4 refl (omega arith),
        port_bit_lem 6 5 refl (omega arith),
        port_bit_lem 7 6 refl (omega arith),
      )

  byte_one : ¬ (bitmap_by f ≡ 0)
  byte_one =
      let s = named-all.some_one in
      let x : names f s.index s.bit ≡ true = (named-all.each s.index s.bit).1 s.stands in
      byte_nonzero (false ∷ map has_change (by_port f)) (suc s.index)
      (get_or-map has_change (by_port f) s.index no_changes ∙ bit_changes s.bit (get_or (by_port f) s.index no_changes) x)

  pub poll_enough : polled h ≡ gives h (bitmap_by f ∷ [])
  unfolding polled
  poll_enough = rw (bitmap_is, ne_eqb (bitmap_by f) 0 byte_one)

-- ---- a valid hub

module _ (h : Hub) (valid : ValidHub h) where
  abbrev n : ℕ
  n = h.identity.ports

  most : n ≤ 7
  most = (fits n h.translator.count h.identity.powergood h.identity.current h.identity.removable valid.numbers).ports_most

  abbrev changes : ℕ → Changes
  changes i = (port_indexed h i).changes

  past_seven : (i : ℕ) → 7 ≤ i → changes i ≡ no_changes
  past_seven i l = ap (λ (p : Port). p.changes) (valid.spare i (omega (arith, l, most)))

  -- what the tool names are the ports' change bits
  names_changes : (i : ℕ) (b : ChangeBit) → names (changes_by_port h.ports) i b ≡ change_bit b (changes i)
  unfolding changes_by_port
  names_changes zero b = refl
  names_changes (suc zero) b = refl
  names_changes (suc (suc zero)) b = refl
  names_changes (suc (suc (suc zero))) b = refl
  names_changes (suc (suc (suc (suc zero)))) b = refl
  names_changes (suc (suc (suc (suc (suc zero))))) b = refl
  names_changes (suc (suc (suc (suc (suc (suc zero)))))) b = refl
  names_changes (suc (suc (suc (suc (suc (suc (suc i))))))) b = ap (change_bit b) (sym (past_seven (suc (suc (suc (suc (suc (suc (suc i))))))) (omega arith)))

  stands : (i : ℕ) (b : ChangeBit) → change_bit b (changes i) ≡ true → Stands h i b
  stands i b e = go (ltb i n) refl
    where
      go : (x : Bool) → ltb i n ≡ x → Stands h i b
      go true l = record { one_of_n = ltb-true i n l; set = e }
      go false l =
          absurd (true≢false (sym e ∙ ap (λ (p : Port). change_bit b p.changes) (valid.spare i (ltb-false i n l)) ∙ none_new b))

  each : (i : ℕ) (b : ChangeBit) → (names (changes_by_port h.ports) i b ≡ true) ↔ Stands h i b
  each i b = (λ e. stands i b (sym (names_changes i b) ∙ e), λ s. names_changes i b ∙ s.set)

  -- one of the first m ports has a change bit set, or none
  abbrev Found : ℕ → Type 0
  Found m = (i : ℕ) × (i < m) × (has_change (changes i) ≡ true)

  abbrev NoneOf : ℕ → Type 0
  NoneOf m = (i : ℕ) → i < m → has_change (changes i) ≡ false

  search_ports : (m : ℕ) → Found m ⊎ NoneOf m
  search_ports zero = inr (λ i l. absurd (omega (arith, l)))
  search_ports (suc m) = go (has_change (changes m)) refl (search_ports m)
    where
      go : (x : Bool) → has_change (changes m) ≡ x → Found m ⊎ NoneOf m → Found (suc m) ⊎ NoneOf (suc m)
      go true e r = inl (m, omega arith, e)
      go false e (inl f) = inl (f.0, omega (arith, f.1), f.2)
      go false e (inr u) = inr by
        where
          by : (i : ℕ) → i < suc m → has_change (changes i) ≡ false
          by i l = at (ℕ_discrete i m)
            where
              at : Dec (i ≡ m) → has_change (changes i) ≡ false
              at (yes q) = ap (λ (j : ℕ). has_change (changes j)) q ∙ e
              at (no nq) = u i (omega (arith, l, nq))

  abbrev map8 : ℕ
  map8 = bitmap_of n h.ports

  at_index : (m : PortNumber) → Among n m → port_at h.ports m ≡ port_indexed h (m.0 - 1)
  at_index m a = at-port h.ports m a.0 (omega (arith, a.1, most))

  none_zero : NoneOf n → map8 ≡ 0
  none_zero u =
      (ports_claims_lem.bitmap_none n h.ports most).1
      (λ m a. ap (λ (p : Port). has_change p.changes) (at_index m a) ∙ u (m.0 - 1) (omega (arith, a.0, a.1)))

  some_one : ¬ (map8 ≡ 0) → SomeStands h
  some_one z = go (search_ports n)
    where
      go : Found n ⊎ NoneOf n → SomeStands h
      go (inl f) =
          let b = changes_bit (changes f.0) f.2 in
          record { index = f.0; bit = b.0; stands = record { one_of_n = f.1; set = b.1 } }
      go (inr u) = absurd (z (none_zero u))

  not_zero : SomeStands h → ¬ (map8 ≡ 0)
  not_zero s z =
      let i : ℕ = s.index in
      let m : PortNumber = record { 0 = i + 1 } in
      let l : i < n = s.stands.one_of_n in
      let a : Among n m = (omega arith, omega (arith, l)) in
      let e : i + 1 - 1 ≡ i = omega arith in
      true≢false
      (sym (bit_changes s.bit (changes i) s.stands.set)
      ∙ ap (λ (j : ℕ). has_change (changes j)) (sym e)
      ∙ ap (λ (p : Port). has_change p.changes) (sym (at_index m a))
      ∙ (ports_claims_lem.bitmap_none n h.ports most).0 z m a)

  naming : ¬ (map8 ≡ 0) → NamesChanges h (changes_by_port h.ports)
  naming z = record { each = each; some_one = some_one z }

  one_naming : (f : PortChanges) → NamesChanges h f → f ≡ changes_by_port h.ports
  one_naming f g =
      same_port_changes f (changes_by_port h.ports)
      (λ i b. same_bool (names f i b) (names (changes_by_port h.ports) i b)
      (λ e. (each i b).1 ((g.each i b).0 e), λ e. (g.each i b).1 ((each i b).0 e)))

  pub poll_true : SaidOfPoll (poll_reason (polled h).answer.number (changes_by_port h.ports)) h
  unfolding polled poll_reason
  poll_true = go (eqb map8 0) refl
    where
      go : (x : Bool) → eqb map8 0 ≡ x
          → SaidOfPoll (cond (eqb (cond x (refuse 3 h) (gives h (map8 ∷ []))).answer.number 1) (Changed (changes_by_port h.ports)) Nothing) h
      go true e = λ s. not_zero s (eqb-true map8 0 e)
      go false e = naming (eqb-false map8 0 e)

  pub poll_only : (r : Reason) → SaidOfPoll r h → r ≡ poll_reason (polled h).answer.number (changes_by_port h.ports)
  unfolding polled poll_reason
  poll_only r s = go (eqb map8 0) refl r s
    where
      go : (x : Bool) → eqb map8 0 ≡ x → (r : Reason) → SaidOfPoll r h
          → r ≡ cond (eqb (cond x (refuse 3 h) (gives h (map8 ∷ []))).answer.number 1) (Changed (changes_by_port h.ports)) Nothing
      go true e (Changed f) s = absurd (not_zero s.some_one (eqb-true map8 0 e))
      go true e Nothing s = refl
      go false e (Changed f) s = ap Changed (one_naming f s)
      go false e Nothing s = absurd (s (some_one (eqb-false map8 0 e)))
      go x e (Number m) s = absurd s
      go x e (HeldBy b) s = absurd s
      go x e (Reused b) s = absurd s
      go x e (TookFree b) s = absurd s
      go x e NoRoom s = absurd s
      go x e LimitReached s = absurd s
      go x e (Wrong w) s = absurd s

  -- nothing to name: not 1
  pub poll_nothing : ¬ (SomeStands h) → ¬ ((polled h).answer.number ≡ 1)
  unfolding polled
  poll_nothing u = go (eqb map8 0) refl
    where
      go : (x : Bool) → eqb map8 0 ≡ x → ¬ ((cond x (refuse 3 h) (gives h (map8 ∷ []))).answer.number ≡ 1)
      go true e z = absurd (omega (arith, z))
      go false e z = u (some_one (eqb-false map8 0 e))
