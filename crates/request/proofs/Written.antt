-- The numbers of features and keys in wValue, both ways.
-- Assumes nothing.
use Prim.Native.Nat.{ℕ, ◌+◌, ◌*◌, ◌/◌, ◌%◌, ◌<◌, ◌≤◌}
use mathlib.Core.Path.{◌≡◌, refl, sym, ◌∙◌}
use mathlib.Core.Bool.{Bool, true, false, cond, ◌&&◌, ◌||◌, false≢true}
use mathlib.Core.Logic.{◌⊎◌, inl, inr, ⊎_map, ⊎_elim}
use native.Mathlib.Omega.{arith}
use lib.Dec.{eqb, leb}
use borrow.Author.Tests.{eqb-true, eqb-false, leb-true}
use Rattle.port.specs.declared.ChangeBit.{ChangeBit}
use Rattle.port.specs.declared.ChangeBit.TheVariants as change
use Rattle.port.specs.declared.ClearableFeature.{ClearableFeature}
use Rattle.port.specs.declared.ClearableFeature.TheVariants as clearable
use Rattle.port.specs.declared.SettableFeature.{SettableFeature}
use Rattle.port.specs.declared.SettableFeature.TheVariants as settable
use Rattle.buffer.specs.declared.Direction.{Direction}
use Rattle.buffer.specs.declared.Direction.TheVariants.{Out, In}
use Rattle.request.specs.declared.Pipe.{Pipe}
use Rattle.request.specs.Values.{is_settable, settable_of, is_clearable, change_of, clearable_of, is_pipe, direction_in, pipe_in}
use Rattle.request.specs.Fields.{settable_number, change_number, clearable_number, direction_bit, pipe_value, PipeInRange}

pub by_cond : {A : Type 0} (P : A → Type 0) (x : Bool) {a b : A} → (x ≡ true → P a) → (x ≡ false → P b) → P (cond x a b)
by_cond P true h g = h refl
by_cond P false h g = g refl

pub and_left : (x y : Bool) → x && y ≡ true → x ≡ true
and_left true y e = refl
and_left false y e = e

pub and_right : (x y : Bool) → x && y ≡ true → y ≡ true
and_right true y e = e
and_right false y e = absurd (false≢true e)

pub one_back : (v : ℕ) → v ≤ 1 → v ≡ cond (eqb v 1) 1 0
one_back v h = by_cond (λ w. v ≡ w) (eqb v 1) (eqb-true v 1) (λ e. omega (arith, h, eqb-false v 1 e))

settable_at : (v : ℕ) (a b : Bool) → eqb v 2 ≡ a → eqb v 4 ≡ b → a || (b || eqb v 8) ≡ true
    → v ≡ settable_number (cond a settable.Suspend (cond b settable.Reset settable.Power))
settable_at v true b p q e = eqb-true v 2 p
settable_at v false true p q e = eqb-true v 4 q
settable_at v false false p q e = eqb-true v 8 e

pub settable_back : (v : ℕ) → is_settable v ≡ true → v ≡ settable_number (settable_of v)
settable_back v = settable_at v (eqb v 2) (eqb v 4) refl refl

change_back : (v : ℕ) → 16 ≤ v → v ≤ 20 → v ≡ change_number (change_of v)
change_back v h k =
    let P : ChangeBit → Type 0 = λ b. v ≡ change_number b in
    by_cond P (eqb v 16) (eqb-true v 16) (λ a.
    by_cond P (eqb v 17) (eqb-true v 17) (λ b.
    by_cond P (eqb v 18) (eqb-true v 18) (λ c.
    by_cond P (eqb v 19) (eqb-true v 19) (λ d.
    omega (arith, h, k, eqb-false v 16 a, eqb-false v 17 b, eqb-false v 18 c, eqb-false v 19 d)))))

clearable_at : (v : ℕ) (a b c : Bool) → eqb v 1 ≡ a → eqb v 2 ≡ b → eqb v 8 ≡ c → a || (b || (c || (leb 16 v && leb v 20))) ≡ true
    → v ≡ clearable_number (cond a clearable.Enable (cond b clearable.Suspend (cond c clearable.Power (clearable.Change (change_of v)))))
clearable_at v true b c p q r e = eqb-true v 1 p
clearable_at v false true c p q r e = eqb-true v 2 q
clearable_at v false false true p q r e = eqb-true v 8 r
clearable_at v false false false p q r e =
    change_back v (leb-true 16 v (and_left (leb 16 v) (leb v 20) e)) (leb-true v 20 (and_right (leb 16 v) (leb v 20) e))

pub clearable_back : (v : ℕ) → is_clearable v ≡ true → v ≡ clearable_number (clearable_of v)
clearable_back v = clearable_at v (eqb v 1) (eqb v 2) (eqb v 8) refl refl refl

pub settable_read : (f : SettableFeature) → settable_of (settable_number f) ≡ f
settable_read settable.Suspend = refl
settable_read settable.Reset = refl
settable_read settable.Power = refl

pub settable_fits : (f : SettableFeature) → is_settable (settable_number f) ≡ true
settable_fits settable.Suspend = refl
settable_fits settable.Reset = refl
settable_fits settable.Power = refl

pub clearable_read : (f : ClearableFeature) → clearable_of (clearable_number f) ≡ f
clearable_read clearable.Enable = refl
clearable_read clearable.Suspend = refl
clearable_read clearable.Power = refl
clearable_read (clearable.Change change.Connection) = refl
clearable_read (clearable.Change change.Enable) = refl
clearable_read (clearable.Change change.Suspend) = refl
clearable_read (clearable.Change change.OverCurrent) = refl
clearable_read (clearable.Change change.Reset) = refl

pub clearable_fits : (f : ClearableFeature) → is_clearable (clearable_number f) ≡ true
clearable_fits clearable.Enable = refl
clearable_fits clearable.Suspend = refl
clearable_fits clearable.Power = refl
clearable_fits (clearable.Change change.Connection) = refl
clearable_fits (clearable.Change change.Enable) = refl
clearable_fits (clearable.Change change.Suspend) = refl
clearable_fits (clearable.Change change.OverCurrent) = refl
clearable_fits (clearable.Change change.Reset) = refl

bit_back : (d : ℕ) → d < 2 → direction_bit (direction_in d) ≡ d
bit_back d h = by_cond (λ x. direction_bit x ≡ d) (eqb d 1) (λ e. sym (eqb-true d 1 e)) (λ e. omega (arith, h, eqb-false d 1 e))

direction_back : (d : Direction) → direction_in (direction_bit d) ≡ d
direction_back Out = refl
direction_back In = refl

type_told : (x y : Bool) (t : ℕ) → eqb t 0 ≡ x → eqb t 2 ≡ y → x || y ≡ true → (t ≡ 0) ⊎ (t ≡ 2)
type_told true y t p q e = inl (eqb-true t 0 p)
type_told false true t p q e = inr (eqb-true t 2 q)
type_told false false t p q e = absurd (false≢true e)

parts : (v : ℕ) → v / 8192 % 4 ≡ 0 → v ≡ v % 16 + 16 * (v / 16 % 128) + 2048 * (v / 2048 % 4) + 32768 * (v / 32768)
parts v z =
    let a : v / 16 / 128 ≡ v / 2048 = omega arith in
    let b : v / 2048 / 4 ≡ v / 8192 = omega arith in
    let c : v / 8192 / 4 ≡ v / 32768 = omega arith in
    omega (arith, a, b, c, z)

whole : (v t : ℕ) → v < 65536 → v / 8192 % 4 ≡ 0 → v / 2048 % 4 ≡ t → v ≡ pipe_value t (pipe_in v)
whole v t h z p =
    let d : v / 32768 < 2 = omega (arith, h) in
    parts v z ∙ rw (p, bit_back (v / 32768) d)

-- the key that a wValue has, with its type, is that wValue
pub pipe_back : (v : ℕ) → v < 65536 → is_pipe v ≡ true → (v ≡ pipe_value 0 (pipe_in v)) ⊎ (v ≡ pipe_value 2 (pipe_in v))
pipe_back v h e =
    let x = eqb (v / 2048 % 4) 0 || eqb (v / 2048 % 4) 2 in
    let y = eqb (v / 8192 % 4) 0 in
    let z = eqb-true (v / 8192 % 4) 0 (and_right x y e) in
    ⊎_map (whole v 0 h z) (whole v 2 h z)
    (type_told (eqb (v / 2048 % 4) 0) (eqb (v / 2048 % 4) 2) (v / 2048 % 4) refl refl (and_left x y e))

-- and the other way
module _ (t : ℕ) (k : Pipe) (r : PipeInRange k) (o : eqb t 0 || eqb t 2 ≡ true) where
  two : t < 4
  two = ⊎_elim (λ e. omega (arith, e)) (λ e. omega (arith, e)) (type_told (eqb t 0) (eqb t 2) t refl refl o)

  module _ (v a e d : ℕ) (w : v ≡ e + 16 * a + 2048 * t + 32768 * d) (h : a < 128) (g : e < 16) where
    endpoint_at : v % 16 ≡ e
    endpoint_at = omega (arith, w, g)

    address_at : v / 16 % 128 ≡ a
    address_at = let q : v / 16 ≡ a + 128 * t + 2048 * d = omega (arith, w, g) in omega (arith, q, h)

    type_at : v / 2048 % 4 ≡ t
    type_at = let q : v / 2048 ≡ t + 16 * d = omega (arith, w, g, h) in omega (arith, q, two)

    rest_at : v / 8192 % 4 ≡ 0
    rest_at = let q : v / 8192 ≡ 4 * d = omega (arith, w, g, h, two) in omega (arith, q)

    direction_at : v / 32768 ≡ d
    direction_at = omega (arith, w, g, h, two)

  pub pipe_fits : is_pipe (pipe_value t k) ≡ true
  pipe_fits =
      let v = pipe_value t k in
      rw (
        type_at v k.address.0 k.endpoint (direction_bit k.direction) refl r.0 r.1,
        rest_at v k.address.0 k.endpoint (direction_bit k.direction) refl r.0 r.1,
        o,
      )

  pub pipe_read : pipe_in (pipe_value t k) ≡ k
  pipe_read =
      let v = pipe_value t k in
      rw (
        address_at v k.address.0 k.endpoint (direction_bit k.direction) refl r.0 r.1,
        endpoint_at v k.address.0 k.endpoint (direction_bit k.direction) refl r.0 r.1,
        direction_at v k.address.0 k.endpoint (direction_bit k.direction) refl r.0 r.1,
        direction_back k.direction,
      )
