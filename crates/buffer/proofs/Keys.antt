-- The test of two keys is their equality. Assumes nothing.
use mathlib.Core.Path.{◌≡◌, refl, sym, ◌∙◌, ap}
use mathlib.Core.Bool.{Bool, true, false, ◌&&◌, and-eq-true_iff, false≢true}
use borrow.Author.Tests.{eqb-true, eq-eqb}
use lib.Dec.{eqb}
use Rattle.buffer.specs.declared.Lane.{Lane}
use Rattle.buffer.specs.declared.Lane.TheVariants.{Zero, One}
use Rattle.buffer.specs.declared.Direction.{Direction}
use Rattle.buffer.specs.declared.Direction.TheVariants as direction
use Rattle.buffer.specs.declared.Key.{Key}
use Rattle.buffer.specs.Same.{same_direction, same_key}
use Rattle.buffer.specs.Claims.{KeyTest}
use Rattle.buffer.specs.Key.{same_lane}

pub lane_true : (a b : Lane) → same_lane a b ≡ true → a ≡ b
lane_true Zero Zero e = refl
lane_true Zero One e = absurd (false≢true e)
lane_true One Zero e = absurd (false≢true e)
lane_true One One e = refl

pub lane_refl : (a : Lane) → same_lane a a ≡ true
lane_refl Zero = refl
lane_refl One = refl

direction_true : (a b : Direction) → same_direction a b ≡ true → a ≡ b
direction_true direction.Out direction.Out e = refl
direction_true direction.Out direction.In e = absurd (false≢true e)
direction_true direction.In direction.Out e = absurd (false≢true e)
direction_true direction.In direction.In e = refl

direction_refl : (a : Direction) → same_direction a a ≡ true
direction_refl direction.Out = refl
direction_refl direction.In = refl

pub same_true : (a b : Key) → same_key a b ≡ true → a ≡ b
unfolding same_key
same_true a b e =
    let l = (and-eq-true_iff (same_lane a.lane b.lane) (eqb a.address.0 b.address.0 && (eqb a.endpoint b.endpoint && same_direction a.direction b.direction))).0 e in
    let p = (and-eq-true_iff (eqb a.address.0 b.address.0) (eqb a.endpoint b.endpoint && same_direction a.direction b.direction)).0 l.1 in
    let q = (and-eq-true_iff (eqb a.endpoint b.endpoint) (same_direction a.direction b.direction)).0 p.1 in
    λ i. record {
      lane = lane_true a.lane b.lane l.0 i;
      address = record { 0 = eqb-true a.address.0 b.address.0 p.0 i };
      endpoint = eqb-true a.endpoint b.endpoint q.0 i;
      direction = direction_true a.direction b.direction q.1 i;
    }

pub same_refl : (a : Key) → same_key a a ≡ true
unfolding same_key
same_refl a = simp (lane_refl, eq-eqb a.address.0 a.address.0 refl, eq-eqb a.endpoint a.endpoint refl, direction_refl)

pub same_eq : (a b : Key) → a ≡ b → same_key a b ≡ true
same_eq a b e = ap (same_key a) (sym e) ∙ same_refl a

pub same_ne : (a b : Key) → ¬ (a ≡ b) → same_key a b ≡ false
same_ne a b ne = go (same_key a b) refl
  where
    go : (t : Bool) → same_key a b ≡ t → t ≡ false
    go true e = absurd (ne (same_true a b e))
    go false e = refl

pub key? : (a b : Key) → Dec (a ≡ b)
key? a b = go (same_key a b) refl
  where
    go : (t : Bool) → same_key a b ≡ t → Dec (a ≡ b)
    go true e = yes (same_true a b e)
    go false e = no (λ p. false≢true (sym e ∙ same_eq a b p))

pub key_test_holds : KeyTest
key_test_holds a b = (same_true a b, same_eq a b)
