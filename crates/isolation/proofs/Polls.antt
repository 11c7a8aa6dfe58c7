-- Two polls of hubs whose ports agree in all but port p. Assumes nothing.
use Prim.Native.Nat.{ℕ, zero, suc, ◌^◌, ◌<◌, ◌≤◌}
use mathlib.Core.Path.{◌≡◌, refl, sym, ◌∙◌, ap, subst}
use mathlib.Core.Bool.{Bool, true, false, cond, ◌&&◌, true≢false}
use mathlib.Core.List.{List, [], ◌∷◌}
use mathlib.Core.Logic.{◌↔◌}
use native.Mathlib.Omega.{arith}
use lib.Dec.{eqb, leb}
use lib.ListN.{get_or}
use borrow.Author.Tests.{eqb-true, eqb-false, leb-false, le-leb, lt-leb}
use Rattle.port.specs.declared.Port.{Port}
use Rattle.port.specs.declared.PortNumber.{PortNumber}
use Rattle.port.specs.Reaction.{new_port}
use Rattle.port.specs.Status.{byte_of, has_change}
use Rattle.ports.specs.Ports.{port_at}
use Rattle.ports.specs.Bitmap.{port_bit, bitmap_bits, bitmap_of}
use Rattle.ports.proofs.Laws.{bitmap_bits_lem, by_bit, all_zero, none_of_0, ports_claims_lem}
use Rattle.hub.specs.declared.Hub.{Hub}
use Rattle.hub.specs.Call.{Answer, plain_answer}
use Rattle.hub.specs.Valid.{port_indexed, ValidHub}
use Rattle.isolation.specs.Isolation.{bit_at, bitmap_bit, poll_gives, SamePoll, same, bytes, byte_or_none, none_or_byte}

-- a number with one bit alone
alone : (bs : List Bool) (p : ℕ) → ((i : ℕ) → ¬ (i ≡ p) → get_or bs i false ≡ false) → ¬ (byte_of bs ≡ 0) → byte_of bs ≡ 2 ^ p
alone [] p h z = absurd (z refl)
alone (true ∷ bs) zero h z = rw (all_zero bs (λ i. h (suc i) (λ e. omega (arith, e))))
alone (false ∷ bs) zero h z = absurd (z (rw (all_zero bs (λ i. h (suc i) (λ e. omega (arith, e))))))
alone (true ∷ bs) (suc p) h z = absurd (true≢false (h 0 (λ e. omega (arith, e))))
alone (false ∷ bs) (suc p) h z =
    let r : byte_of bs ≡ 2 ^ p = alone bs p (λ i d. h (suc i) (λ e. d (omega (arith, e)))) (λ e. z (rw e)) in
    rw r (omega arith)

-- all bits but one are zero, and that one too
no_bit : (bs : List Bool) (p : ℕ) → ((i : ℕ) → ¬ (i ≡ p) → get_or bs i false ≡ false) → get_or bs p false ≡ false → byte_of bs ≡ 0
no_bit bs p h z = all_zero bs (λ i. go i (eqb i p) refl)
  where
    go : (i : ℕ) (b : Bool) → eqb i p ≡ b → get_or bs i false ≡ false
    go i true e = ap (λ (k : ℕ). get_or bs k false) (eqb-true i p e) ∙ z
    go i false e = h i (eqb-false i p e)

-- the answer to a poll that nothing refuses, by the bitmap
abbrev pub given : ℕ → Answer
given b = cond (eqb b 0) (plain_answer 3) (poll_gives b)

module _ (n : ℕ) (ps : List Port) where
  bit_read : (i : ℕ) → bit_at (bitmap_of n ps) i ≡ get_or (bitmap_bits n ps) i false
  bit_read i = ap (λ (bs : List Bool). get_or bs i false) (bitmap_bits_lem n ps)

  bits_none : bitmap_of n ps ≡ 0 → (i : ℕ) → get_or (bitmap_bits n ps) i false ≡ false
  bits_none e i = sym (bit_read i) ∙ ap (λ (k : ℕ). bit_at k i) e ∙ none_of_0 i

-- a bitmap without bits
zero_bitmap : (n : ℕ) (ps : List Port) → ((i : ℕ) → get_or (bitmap_bits n ps) i false ≡ false) → bitmap_of n ps ≡ 0
unfolding bitmap_of
zero_bitmap n ps k = all_zero (bitmap_bits n ps) k

-- there is no port 8
beyond : (ps : List Port) (k : ℕ) → 8 ≤ k → port_at ps (record { 0 = k }) ≡ new_port
unfolding port_at
beyond ps k l = rw (le-leb 1 k (omega (arith, l)), lt-leb k 7 (omega (arith, l)))

-- port p's bit is whether it has a change bit: the ports above N have none
module _ (h : Hub) (v : ValidHub h) where
  counted : (i : ℕ) → (leb (suc i) h.identity.ports && has_change (port_indexed h i).changes) ≡ has_change (port_indexed h i).changes
  counted i = go (leb (suc i) h.identity.ports) refl
    where
      go : (b : Bool) → leb (suc i) h.identity.ports ≡ b → (b && has_change (port_indexed h i).changes) ≡ has_change (port_indexed h i).changes
      go true e = refl
      go false e =
          let above : h.identity.ports < suc i = leb-false (suc i) h.identity.ports e in
          ap (λ (x : Port). has_change x.changes) (sym (v.spare i (omega (arith, above))))

  pub bit_of_port : (p : PortNumber) → bitmap_bit h p ≡ has_change (port_at h.ports p).changes
  unfolding port_at
  bit_of_port p = bit_read h.identity.ports h.ports p.0 ∙ by_number p.0
    where
      by_number : (i : ℕ) → get_or (bitmap_bits h.identity.ports h.ports) i false ≡ has_change (port_at h.ports (record { 0 = i })).changes
      by_number =
          by_bit (λ i. get_or (bitmap_bits h.identity.ports h.ports) i false ≡ has_change (port_at h.ports (record { 0 = i })).changes) refl
          (counted 0) (counted 1) (counted 2) (counted 3) (counted 4) (counted 5) (counted 6)
          (λ i. ap (λ (x : Port). has_change x.changes) (sym (beyond h.ports (suc (suc (suc (suc (suc (suc (suc (suc i)))))))) (omega arith))))

  -- nothing to give: no port has a change bit
  pub none_set : (bitmap_of h.identity.ports h.ports ≡ 0) ↔ ((m : PortNumber) → has_change (port_at h.ports m).changes ≡ false)
  none_set = (
    λ e m. sym (bit_of_port m) ∙ ap (λ (k : ℕ). bit_at k m.0) e ∙ none_of_0 m.0,
    λ k. zero_bitmap n h.ports (λ i. sym (bit_read n h.ports i) ∙ bit_of_port (record { 0 = i }) ∙ k (record { 0 = i })),
  )
    where
      n : ℕ
      n = h.identity.ports

module _ (p : PortNumber) (n : ℕ) (qs ps : List Port) (agree : (m : PortNumber) → ¬ (m.0 ≡ p.0) → port_at qs m ≡ port_at ps m) where
  bit_same : (m : ℕ) → ¬ (m ≡ p.0) → port_bit n qs m ≡ port_bit n ps m
  bit_same m d = ap (λ (x : Port). leb m n && has_change x.changes) (agree (record { 0 = m }) d)

  bits_same : (i : ℕ) → ¬ (i ≡ p.0) → get_or (bitmap_bits n qs) i false ≡ get_or (bitmap_bits n ps) i false
  bits_same =
      by_bit (λ i. ¬ (i ≡ p.0) → get_or (bitmap_bits n qs) i false ≡ get_or (bitmap_bits n ps) i false) (λ d. refl)
      (bit_same 1) (bit_same 2) (bit_same 3) (bit_same 4) (bit_same 5) (bit_same 6) (bit_same 7) (λ i d. refl)

  pub byte_same : (i : ℕ) → ¬ (i ≡ p.0) → bit_at (bitmap_of n qs) i ≡ bit_at (bitmap_of n ps) i
  byte_same i d = bit_read n qs i ∙ bits_same i d ∙ sym (bit_read n ps i)

  -- where the one has no bit, the other has none but p's
  others_none : bitmap_of n ps ≡ 0 → (i : ℕ) → ¬ (i ≡ p.0) → get_or (bitmap_bits n qs) i false ≡ false
  others_none e i d = bits_same i d ∙ bits_none n ps e i

  alone_in : bitmap_of n ps ≡ 0 → ¬ (bitmap_of n qs ≡ 0) → bitmap_of n qs ≡ 2 ^ p.0
  unfolding bitmap_of
  alone_in e z = alone (bitmap_bits n qs) p.0 (others_none e) z

  -- .. and has p's, unless it has none
  bit_set : bitmap_of n ps ≡ 0 → ¬ (bitmap_of n qs ≡ 0) → bit_at (bitmap_of n qs) p.0 ≡ true
  unfolding bitmap_of
  bit_set e z = go (get_or (bitmap_bits n qs) p.0 false) refl
    where
      go : (x : Bool) → get_or (bitmap_bits n qs) p.0 false ≡ x → bit_at (bitmap_of n qs) p.0 ≡ true
      go true u = bit_read n qs p.0 ∙ u
      go false u = absurd (z (no_bit (bitmap_bits n qs) p.0 (others_none e) u))

  pub given_one : (((given (bitmap_of n qs)).number ≡ 1) × ((given (bitmap_of n ps)).number ≡ 3)) ↔ ((bit_at (bitmap_of n qs) p.0 ≡ true) × (bitmap_of n ps ≡ 0))
  given_one = go (eqb (bitmap_of n ps) 0) refl (eqb (bitmap_of n qs) 0) refl
    where
      none : bitmap_of n qs ≡ 0 → bit_at (bitmap_of n qs) p.0 ≡ false
      none e = ap (λ (k : ℕ). bit_at k p.0) e ∙ none_of_0 p.0

      go : (x : Bool) → eqb (bitmap_of n ps) 0 ≡ x → (y : Bool) → eqb (bitmap_of n qs) 0 ≡ y
          → (((cond y (plain_answer 3) (poll_gives (bitmap_of n qs))).number ≡ 1) × ((cond x (plain_answer 3) (poll_gives (bitmap_of n ps))).number ≡ 3))
          ↔ ((bit_at (bitmap_of n qs) p.0 ≡ true) × (bitmap_of n ps ≡ 0))
      go true u true v = (λ k. absurd (omega (arith, k.0)), λ k. absurd (true≢false (sym k.0 ∙ none (eqb-true (bitmap_of n qs) 0 v))))
      go true u false v = (
        λ k. (bit_set (eqb-true (bitmap_of n ps) 0 u) (eqb-false (bitmap_of n qs) 0 v), eqb-true (bitmap_of n ps) 0 u),
        λ k. (refl, refl),
      )
      go false u y v = (λ k. absurd (omega (arith, k.1)), λ k. absurd (eqb-false (bitmap_of n ps) 0 u k.1))

module _ (p : PortNumber) (n : ℕ) (qs ps : List Port) (agree : (m : PortNumber) → ¬ (m.0 ≡ p.0) → port_at qs m ≡ port_at ps m) where
  pub given_same : SamePoll p (given (bitmap_of n qs)) (given (bitmap_of n ps))
  given_same = go (eqb b 0) refl (eqb c 0) refl
    where
      b : ℕ
      b = bitmap_of n qs

      c : ℕ
      c = bitmap_of n ps

      go : (x : Bool) → eqb b 0 ≡ x → (y : Bool) → eqb c 0 ≡ y → SamePoll p (cond x (plain_answer 3) (poll_gives b)) (cond y (plain_answer 3) (poll_gives c))
      go true u true v = same (plain_answer 3)
      go true u false v =
          subst (λ (k : ℕ). SamePoll p (plain_answer 3) (poll_gives k))
          (sym (alone_in p n ps qs (λ m d. sym (agree m d)) (eqb-true b 0 u) (eqb-false c 0 v))) none_or_byte
      go false u true v =
          subst (λ (k : ℕ). SamePoll p (poll_gives k) (plain_answer 3)) (sym (alone_in p n qs ps agree (eqb-true c 0 v) (eqb-false b 0 u))) byte_or_none
      go false u false v = bytes b c (ports_claims_lem.bitmap_byte n qs) (ports_claims_lem.bitmap_byte n ps) (byte_same p n qs ps agree)
