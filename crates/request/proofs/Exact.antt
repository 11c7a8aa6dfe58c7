-- A setup packet is read as a request exactly if it has that request's fields.
-- Assumes nothing.
use Prim.Native.Nat.{ℕ, zero, suc, ◌/◌, ◌%◌, ◌<◌, ◌≤◌}
use mathlib.Core.Path.{◌≡◌, refl, ◌∙◌, ap}
use mathlib.Core.Bool.{true, false, cond, ◌&&◌}
use mathlib.Core.Logic.{◌⊎◌, inl, inr, ⊎_map, ⊎_elim}
use native.Mathlib.Omega.{arith}
use lib.Dec.{eqb, leb}
use borrow.Author.Tests.{eqb-true, leb-true, le-leb}
use Rattle.request.specs.declared.Setup.{Setup}
use Rattle.request.specs.declared.Fault.{Fault}
use Rattle.request.specs.declared.Fault.TheVariants.{TypeOrCode, Value, Index, Length}
use Rattle.request.specs.declared.Kind.{Kind}
use Rattle.request.specs.declared.Kind.TheVariants.{SetConfiguration, GetConfiguration, GetHubDescriptor, GetHubStatus, GetPortStatus, ClearHubFeature, ClearPortFeature, SetPortFeature, ClearTTBuffer, ResetTT}
use Rattle.request.specs.declared.Request.{Request}
use Rattle.request.specs.declared.Request.TheVariants as request
use Rattle.std.specs.Prelude.{Option, Some, None, Result, Ok, Err}
use Rattle.request.specs.Values.{pipe_in}
use Rattle.request.specs.Table.{kind_of, value_fits, is_port, index_fits, length_fits}
use Rattle.port.specs.declared.PortNumber.{PortNumber}
use Rattle.request.specs.Request.{port_in, meaning, checked}
use Rattle.port.specs.Words.{Among}
use Rattle.request.specs.Fields.{PipeInRange, fields, AsksFor}
use Rattle.request.specs.Ranges.{InRange}
use Rattle.request.proofs.Written.{by_cond, and_left, and_right, one_back, settable_back, settable_fits, settable_read, clearable_back, clearable_fits, clearable_read, pipe_back, pipe_fits, pipe_read}

abbrev pub TypeAndCode : ℕ → ℕ → Kind → Type 0
TypeAndCode t c SetConfiguration = (t ≡ 0x00) × (c ≡ 0x09)
TypeAndCode t c GetConfiguration = (t ≡ 0x80) × (c ≡ 0x08)
TypeAndCode t c GetHubDescriptor = (t ≡ 0xA0) × (c ≡ 0x06)
TypeAndCode t c GetHubStatus = (t ≡ 0xA0) × (c ≡ 0x00)
TypeAndCode t c GetPortStatus = (t ≡ 0xA3) × (c ≡ 0x00)
TypeAndCode t c ClearHubFeature = (t ≡ 0x20) × (c ≡ 0x01)
TypeAndCode t c ClearPortFeature = (t ≡ 0x23) × (c ≡ 0x01)
TypeAndCode t c SetPortFeature = (t ≡ 0x23) × (c ≡ 0x03)
TypeAndCode t c ClearTTBuffer = (t ≡ 0x23) × (c ≡ 0x08)
TypeAndCode t c ResetTT = (t ≡ 0x23) × (c ≡ 0x09)

-- what a row that is found says, whichever it is
abbrev pub Named : ℕ → ℕ → Option Kind → Type 0
Named t c None = Unit {0}
Named t c (Some k) = TypeAndCode t c k

row : (P : Option Kind → Type 0) (t c a b : ℕ) {k r : Option Kind} → ((t ≡ a) × (c ≡ b) → P k) → P r → P (cond (eqb t a && eqb c b) k r)
row P t c a b h g =
    by_cond P (eqb t a && eqb c b)
    (λ e. h (eqb-true t a (and_left (eqb t a) (eqb c b) e), eqb-true c b (and_right (eqb t a) (eqb c b) e)))
    (λ _. g)

pub named_by : (t c : ℕ) → Named t c (kind_of t c)
unfolding kind_of
named_by t c =
    let P : Option Kind → Type 0 = Named t c in
    row P t c 0x00 0x09 (λ w. w)
    (row P t c 0x80 0x08 (λ w. w)
    (row P t c 0xA0 0x06 (λ w. w)
    (row P t c 0xA0 0x00 (λ w. w)
    (row P t c 0xA3 0x00 (λ w. w)
    (row P t c 0x20 0x01 (λ w. w)
    (row P t c 0x23 0x01 (λ w. w)
    (row P t c 0x23 0x03 (λ w. w)
    (row P t c 0x23 0x08 (λ w. w)
    (row P t c 0x23 0x09 (λ w. w)
    tt)))))))))

-- what holds of each fault, and of the request that a found row means, holds of what is read
pub checks : (P : Result Request Fault → Type 0) (n : ℕ) (k : Option Kind) (v i l : ℕ) → ((f : Fault) → P (Err f))
    → ((r : Kind) → k ≡ Some r → value_fits r v ≡ true → index_fits n r i ≡ true → length_fits r l ≡ true → P (Ok (meaning r v i l))) → P (checked n k v i l)
unfolding checked
checks P n None v i l w m = w TypeOrCode
checks P n (Some k) v i l w m =
    by_cond P (value_fits k v) (λ x.
    by_cond P (index_fits n k i) (λ y.
    by_cond P (length_fits k l) (m k refl x y)
    (λ _. w Length)) (λ _. w Index)) (λ _. w Value)

same : {t c v i l t' c' v' i' l' : ℕ} → (t ≡ t') × (c ≡ c') → v ≡ v' → i ≡ i' → l ≡ l' → fields t c v i l ≡ fields t' c' v' i' l'
same w x y z = rw (w.0, w.1, x, y, z)

port_of_lem : (n i : ℕ) → is_port n i ≡ true → Among n (port_in i)
port_of_lem n i y = (leb-true 1 i (and_left (leb 1 i) (leb i n) y), leb-true i n (and_right (leb 1 i) (leb i n) y))

zero_or_one : (v : ℕ) → v ≤ 1 → (v ≡ 0) ⊎ (v ≡ 1)
zero_or_one zero h = inl refl
zero_or_one (suc zero) h = inr refl
zero_or_one (suc (suc v)) h = absurd (omega (arith, h))

pipe_ranged : (v : ℕ) → PipeInRange (pipe_in v)
pipe_ranged v =
    let a : v / 16 % 128 < 128 = omega arith in
    let e : v % 16 < 16 = omega arith in
    (a, e)

pub asks : (n t c v i l : ℕ) (k : Kind) → v < 65536 → TypeAndCode t c k → value_fits k v ≡ true → index_fits n k i ≡ true → length_fits k l ≡ true
    → AsksFor n (fields t c v i l) (meaning k v i l)
asks n t c v i l SetConfiguration h w x y z = same w (one_back v (leb-true v 1 x)) (eqb-true i 0 y) (eqb-true l 0 z)
asks n t c v i l GetConfiguration h w x y z = same w (eqb-true v 0 x) (eqb-true i 0 y) (eqb-true l 1 z)
asks n t c v i l GetHubDescriptor h w x y z = same w (eqb-true v 0x2900 x) (eqb-true i 0 y) refl
asks n t c v i l GetHubStatus h w x y z = same w (eqb-true v 0 x) (eqb-true i 0 y) (eqb-true l 4 z)
asks n t c v i l GetPortStatus h w x y z = (port_of_lem n i y, same w (eqb-true v 0 x) refl (eqb-true l 4 z))
asks n t c v i l ClearHubFeature h w x y z =
    ⊎_map (λ e. same w e (eqb-true i 0 y) (eqb-true l 0 z)) (λ e. same w e (eqb-true i 0 y) (eqb-true l 0 z)) (zero_or_one v (leb-true v 1 x))
asks n t c v i l ClearPortFeature h w x y z = (port_of_lem n i y, same w (clearable_back v x) refl (eqb-true l 0 z))
asks n t c v i l SetPortFeature h w x y z = (port_of_lem n i y, same w (settable_back v x) refl (eqb-true l 0 z))
asks n t c v i l ClearTTBuffer h w x y z =
    (pipe_ranged v, ⊎_map (λ e. same w e (eqb-true i 1 y) (eqb-true l 0 z)) (λ e. same w e (eqb-true i 1 y) (eqb-true l 0 z)) (pipe_back v h x))
asks n t c v i l ResetTT h w x y z = same w (eqb-true v 0 x) (eqb-true i 1 y) (eqb-true l 0 z)

abbrev asked : ℕ → Setup → Result Request Fault
asked n s = checked n (kind_of s.requesttype s.code) s.value s.index s.length

at-port : (n : ℕ) (p : PortNumber) → Among n p → is_port n p.0 ≡ true
at-port n p h = rw (le-leb 1 p.0 h.0, le-leb p.0 n h.1)

pub reads : (n : ℕ) (s : Setup) (r : Request) → AsksFor n s r → asked n s ≡ Ok r
unfolding kind_of checked
reads n s (request.SetConfiguration true) w = ap (asked n) w
reads n s (request.SetConfiguration false) w = ap (asked n) w
reads n s request.GetConfiguration w = ap (asked n) w
reads n s (request.GetHubDescriptor l) w = ap (asked n) w
reads n s request.GetHubStatus w = ap (asked n) w
reads n s (request.GetPortStatus p) w = ap (asked n) w.1 ∙ rw (at-port n p w.0)
reads n s request.ClearHubFeature w = ⊎_elim (ap (asked n)) (ap (asked n)) w
reads n s (request.ClearPortFeature p f) w = ap (asked n) w.1 ∙ rw (clearable_fits f, at-port n p w.0, clearable_read f)
reads n s (request.SetPortFeature p f) w = ap (asked n) w.1 ∙ rw (settable_fits f, at-port n p w.0, settable_read f)
reads n s (request.ClearTTBuffer k) w =
    ⊎_elim
    (λ e. ap (asked n) e ∙ rw (pipe_fits 0 k w.0 refl, pipe_read 0 k w.0 refl))
    (λ e. ap (asked n) e ∙ rw (pipe_fits 2 k w.0 refl, pipe_read 2 k w.0 refl))
    w.1
reads n s request.ResetTT w = ap (asked n) w

pub ranged : (n : ℕ) (k : Kind) (v i l : ℕ) → index_fits n k i ≡ true → InRange n (meaning k v i l)
ranged n SetConfiguration v i l y = tt
ranged n GetConfiguration v i l y = tt
ranged n GetHubDescriptor v i l y = tt
ranged n GetHubStatus v i l y = tt
ranged n GetPortStatus v i l y = port_of_lem n i y
ranged n ClearHubFeature v i l y = tt
ranged n ClearPortFeature v i l y = port_of_lem n i y
ranged n SetPortFeature v i l y = port_of_lem n i y
ranged n ClearTTBuffer v i l y = pipe_ranged v
ranged n ResetTT v i l y = tt
