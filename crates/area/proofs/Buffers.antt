-- A buffer's 72 bytes: reading them back, and what their test says. Assumes nothing.
use mathlib.Core.Path.{◌≡◌, refl, sym, ap, ◌∙◌}
use mathlib.Core.List.{List, [], ◌∷◌, ◌++◌}
use mathlib.Core.Bool.{Bool, true, false, cond, ◌&&◌, ◌||◌, and-eq-true_iff}
use Prim.Native.Nat.{ℕ, ◌+◌, ◌-◌, ◌/◌, ◌≤◌}
use native.Mathlib.Omega.{arith}
use lib.ListN.{length, get_or, take, drop, replicate, length-append, length-take, length-drop, length-replicate, take-append-drop}
use lib.Seq.{length-take-le, take_all, drop_at, drop-drop}
use lib.Dec.{eqb, ltb}
use borrow.Author.Tests.{eqb-true, eqb-false, ltb-true}
use Rattle.port.specs.Status.{byte_of}
use Rattle.port.specs.Words.{bits_of}
use Rattle.port.proofs.Bits.{bits_back}
use Rattle.payload.specs.Payload.{padded}
use Rattle.buffer.specs.declared.Lane.{Lane}
use Rattle.buffer.specs.declared.Lane.TheVariants.{Zero, One}
use Rattle.buffer.specs.declared.DeviceAddress.{DeviceAddress}
use Rattle.buffer.specs.declared.Pid.{Pid}
use Rattle.buffer.specs.declared.TransferType.{TransferType}
use Rattle.buffer.specs.declared.DeviceResult.{DeviceResult}
use Rattle.buffer.specs.declared.StartSplit.{StartSplit}
use Rattle.buffer.specs.declared.Slot.{Slot}
use Rattle.buffer.specs.declared.Slot.TheVariants.{Empty, Pending, Ready, Old}
use Rattle.buffer.specs.declared.Buffer.{Buffer}
use Rattle.buffer.specs.Key.{same_lane}
use Rattle.buffer.specs.Valid.{slot_fits, Whole}
use Rattle.translator.specs.Answers.{pid_number}
use Rattle.translator.proofs.Kept.{slot_le}
use Rattle.numbers.specs.Named.{is_pid, pid_from, is_type, type_from, is_result, result_from}
use Rattle.numbers.specs.Written.{type_number, result_written}
use Rattle.numbers.proofs.Laws.{numbers_claims_lem}
use Rattle.area_check.specs.Rows.{blank}
use Rattle.area.specs.Written.{held_bytes, slot_bytes, buffer_bytes}
use Rattle.area_check.specs.Read.{is_odd, held_split, slot_named, slot_of, buffer_of, empty_fits, held_fits, names_fit, buffer_fits}
use Rattle.area_check.proofs.Rows.{blank_to, blank_of}
use Rattle.area_check.proofs.Parts.{three}
use Rattle.area.proofs.Ports.{bits_whole}

-- ---- numbers and names

pid_again : (p : Pid) → pid_from (pid_number p) ≡ p
pid_again = numbers_claims_lem.pids.value_back

type_again : (t : TransferType) → type_from (type_number t) ≡ t
type_again = numbers_claims_lem.types.value_back

result_again : (r : DeviceResult) → result_from (result_written r) ≡ r
result_again = numbers_claims_lem.results.value_back

lane_again : (z : Lane) → cond (same_lane z One) One Zero ≡ z
lane_again Zero = refl
lane_again One = refl

one_again : (b : Bool) → same_lane (cond b One Zero) One ≡ b
one_again true = refl
one_again false = refl

flags_lt : (a b c : Bool) → ltb (byte_of (a ∷ b ∷ c ∷ [])) 8 ≡ true
flags_lt true true true = refl
flags_lt true true false = refl
flags_lt true false true = refl
flags_lt true false false = refl
flags_lt false true true = refl
flags_lt false true false = refl
flags_lt false false true = refl
flags_lt false false false = refl

-- ---- a slot

split_is : (z z' : Lane) (p p' : Pid) (t t' : TransferType) (f f' g g' : Bool) (a : DeviceAddress) (e : ℕ) → z ≡ z' → p ≡ p' → t ≡ t' → f ≡ f' → g ≡ g'
    → ◌≡◌ {A = StartSplit}
    (record { lane = z; pid = p; transfer = t; lowspeed = f; toggle = g; address = a; endpoint = e })
    (record { lane = z'; pid = p'; transfer = t'; lowspeed = f'; toggle = g'; address = a; endpoint = e })
split_is z z' p p' t t' f f' g g' a e v x y u w = cc

split_again : (k : ℕ) (s : StartSplit) (last n : ℕ) (l : List ℕ) → held_split (held_bytes k s last n ++ l) ≡ s
unfolding held_split
split_again k s last n l =
    let fs : List Bool = s.lowspeed ∷ s.toggle ∷ same_lane s.lane One ∷ [] in
    let b : bits_of 3 (byte_of fs) ≡ fs = bits_back fs in
    split_is _ s.lane _ s.pid _ s.transfer _ s.lowspeed _ s.toggle s.address s.endpoint (ap (λ (x : List Bool). cond (get_or x 2 false) One Zero) b ∙ lane_again s.lane) (pid_again s.pid) (type_again s.transfer)
    (ap (λ (x : List Bool). get_or x 0 false) b) (ap (λ (x : List Bool). get_or x 1 false) b)

pub slot_again : (s : Slot) (n : ℕ) (l : List ℕ) → slot_of (slot_bytes s n ++ l) ≡ s
unfolding slot_of
slot_again Empty n l = refl
slot_again (Pending s p) n l = ap (λ (x : StartSplit). Pending x p) (split_again 1 s p n l)
slot_again (Ready s r) n l = ap (λ (x : StartSplit). Ready x (result_from (result_written r))) (split_again 2 s (result_written r) n l) ∙ ap (Ready s) (result_again r)
slot_again (Old s r) n l = ap (λ (x : StartSplit). Old x (result_from (result_written r))) (split_again 3 s (result_written r) n l) ∙ ap (Old s) (result_again r)

length_again : (s : Slot) (n : ℕ) (l : List ℕ) → get_or (slot_bytes s n ++ l) 7 0 ≡ n
length_again Empty n l = refl
length_again (Pending s p) n l = refl
length_again (Ready s r) n l = refl
length_again (Old s r) n l = refl

slot_size : (s : Slot) (n : ℕ) → length (slot_bytes s n) ≡ 8
slot_size Empty n = refl
slot_size (Pending s p) n = refl
slot_size (Ready s r) n = refl
slot_size (Old s r) n = refl

held_of : (k : ℕ) (s : StartSplit) (last : ℕ) → ltb k 4 ≡ true → eqb k 1 || is_result last ≡ true
    → held_fits k (pid_number s.pid) (type_number s.transfer) (byte_of (s.lowspeed ∷ s.toggle ∷ same_lane s.lane One ∷ [])) last ≡ true
held_of k s last e f = rw (e, numbers_claims_lem.pids.named s.pid, numbers_claims_lem.types.named s.transfer, flags_lt s.lowspeed s.toggle (same_lane s.lane One)) f

names_of : (s : Slot) (n : ℕ) (l : List ℕ) → names_fit (slot_bytes s n ++ l) ≡ true
unfolding names_fit
names_of Empty n l = refl
names_of (Pending s p) n l = held_of 1 s p refl refl
names_of (Ready s r) n l = held_of 2 s (result_written r) refl (numbers_claims_lem.results.named r)
names_of (Old s r) n l = held_of 3 s (result_written r) refl (numbers_claims_lem.results.named r)

eight_is : (a a' b b' c c' d d' e e' f f' g g' h : ℕ) → a ≡ a' → b ≡ b' → c ≡ c' → d ≡ d' → e ≡ e' → f ≡ f' → g ≡ g'
    → ◌≡◌ {A = List ℕ} (a ∷ b ∷ c ∷ d ∷ e ∷ f ∷ g ∷ h ∷ []) (a' ∷ b' ∷ c' ∷ d' ∷ e' ∷ f' ∷ g' ∷ h ∷ [])
eight_is a a' b b' c c' d d' e e' f f' g g' h p q r s t u v = cc

-- the first eight bytes, one by one
abbrev pub firsts : List ℕ → List ℕ
firsts l = get_or l 0 0 ∷ get_or l 1 0 ∷ get_or l 2 0 ∷ get_or l 3 0 ∷ get_or l 4 0 ∷ get_or l 5 0 ∷ get_or l 6 0 ∷ get_or l 7 0 ∷ []

pub first_eight : (l : List ℕ) → 8 ≤ length l → take 8 l ≡ firsts l
first_eight [] h = absurd (omega arith)
first_eight (a ∷ []) h = absurd (omega arith)
first_eight (a ∷ b ∷ []) h = absurd (omega arith)
first_eight (a ∷ b ∷ c ∷ []) h = absurd (omega arith)
first_eight (a ∷ b ∷ c ∷ d ∷ []) h = absurd (omega arith)
first_eight (a ∷ b ∷ c ∷ d ∷ e ∷ []) h = absurd (omega arith)
first_eight (a ∷ b ∷ c ∷ d ∷ e ∷ f ∷ []) h = absurd (omega arith)
first_eight (a ∷ b ∷ c ∷ d ∷ e ∷ f ∷ g ∷ []) h = absurd (omega arith)
first_eight (a ∷ b ∷ c ∷ d ∷ e ∷ f ∷ g ∷ i ∷ l) h = refl

module _ (l : List ℕ) where
  empty_to : get_or l 0 0 ≡ 0 → empty_fits (get_or l 1 0) (get_or l 2 0) (get_or l 3 0) (get_or l 4 0) (get_or l 5 0) (get_or l 6 0) ≡ true
      → slot_bytes (slot_of l) (get_or l 7 0) ≡ firsts l
  unfolding slot_of
  empty_to z e =
      let x = (and-eq-true_iff (eqb (get_or l 1 0) 0 && (eqb (get_or l 2 0) 0 && eqb (get_or l 3 0) 0)) (eqb (get_or l 4 0) 0 && (eqb (get_or l 5 0) 0 && eqb (get_or l 6 0) 0))).0 e in
      let y = (and-eq-true_iff (eqb (get_or l 1 0) 0) (eqb (get_or l 2 0) 0 && eqb (get_or l 3 0) 0)).0 x.0 in
      let u = (and-eq-true_iff (eqb (get_or l 2 0) 0) (eqb (get_or l 3 0) 0)).0 y.1 in
      let v = (and-eq-true_iff (eqb (get_or l 4 0) 0) (eqb (get_or l 5 0) 0 && eqb (get_or l 6 0) 0)).0 x.1 in
      let w = (and-eq-true_iff (eqb (get_or l 5 0) 0) (eqb (get_or l 6 0) 0)).0 v.1 in
      ap (λ (k : ℕ). slot_bytes (slot_named k (held_split l) (get_or l 6 0)) (get_or l 7 0)) z
      ∙ eight_is 0 (get_or l 0 0) 0 (get_or l 1 0) 0 (get_or l 2 0) 0 (get_or l 3 0) 0 (get_or l 4 0) 0 (get_or l 5 0) 0 (get_or l 6 0) (get_or l 7 0)
      (sym z) (sym (eqb-true _ 0 y.0)) (sym (eqb-true _ 0 u.0)) (sym (eqb-true _ 0 u.1)) (sym (eqb-true _ 0 v.0)) (sym (eqb-true _ 0 w.0)) (sym (eqb-true _ 0 w.1))

  held_same : (k : ℕ) {m : ℕ} → pid_number (pid_from (get_or l 1 0)) ≡ get_or l 1 0 → type_number (type_from (get_or l 2 0)) ≡ get_or l 2 0
      → byte_of (bits_of 3 (get_or l 3 0)) ≡ get_or l 3 0 → m ≡ get_or l 6 0
      → held_bytes k (held_split l) m (get_or l 7 0) ≡ k ∷ get_or l 1 0 ∷ get_or l 2 0 ∷ get_or l 3 0 ∷ get_or l 4 0 ∷ get_or l 5 0 ∷ get_or l 6 0 ∷ get_or l 7 0 ∷ []
  unfolding held_split
  held_same k {m} p t b r =
      eight_is k k _ (get_or l 1 0) _ (get_or l 2 0) _ (get_or l 3 0) (get_or l 4 0) (get_or l 4 0) (get_or l 5 0) (get_or l 5 0) m (get_or l 6 0) (get_or l 7 0) refl p t
      (ap (λ (x : Bool). byte_of (is_odd (get_or l 3 0) ∷ is_odd (get_or l 3 0 / 2) ∷ x ∷ [])) (one_again (is_odd (get_or l 3 0 / 2 / 2))) ∙ b) refl refl r

  held_to : ¬ (get_or l 0 0 ≡ 0) → held_fits (get_or l 0 0) (get_or l 1 0) (get_or l 2 0) (get_or l 3 0) (get_or l 6 0) ≡ true
      → slot_bytes (slot_of l) (get_or l 7 0) ≡ firsts l
  unfolding slot_of
  held_to z e =
      let s : ℕ = get_or l 0 0 in
      let f : ℕ = get_or l 3 0 in
      let last : ℕ = get_or l 6 0 in
      let x = (and-eq-true_iff (ltb s 4 && (is_pid (get_or l 1 0) && is_type (get_or l 2 0))) (ltb f 8 && (eqb s 1 || is_result last))).0 e in
      let y = (and-eq-true_iff (ltb s 4) (is_pid (get_or l 1 0) && is_type (get_or l 2 0))).0 x.0 in
      let u = (and-eq-true_iff (is_pid (get_or l 1 0)) (is_type (get_or l 2 0))).0 y.1 in
      let v = (and-eq-true_iff (ltb f 8) (eqb s 1 || is_result last)).0 x.1 in
      let p = numbers_claims_lem.pids.number_back (get_or l 1 0) u.0 in
      let t = numbers_claims_lem.types.number_back (get_or l 2 0) u.1 in
      let b = bits_whole 3 f (ltb-true f 8 v.0) in
      three
      (λ (k : ℕ). eqb k 1 || is_result last ≡ true
      → slot_bytes (slot_named k (held_split l) last) (get_or l 7 0) ≡ k ∷ get_or l 1 0 ∷ get_or l 2 0 ∷ f ∷ get_or l 4 0 ∷ get_or l 5 0 ∷ last ∷ get_or l 7 0 ∷ [])
      (λ q. held_same 1 p t b refl) (λ q. held_same 2 p t b (numbers_claims_lem.results.number_back last q)) (λ q. held_same 3 p t b (numbers_claims_lem.results.number_back last q))
      s (ltb-true s 4 y.0) z v.1

  names_to : names_fit l ≡ true → slot_bytes (slot_of l) (get_or l 7 0) ≡ firsts l
  unfolding names_fit
  names_to e = go (eqb (get_or l 0 0) 0) refl e
    where
      go : (b : Bool) → eqb (get_or l 0 0) 0 ≡ b
          → cond b (empty_fits (get_or l 1 0) (get_or l 2 0) (get_or l 3 0) (get_or l 4 0) (get_or l 5 0) (get_or l 6 0)) (held_fits (get_or l 0 0) (get_or l 1 0) (get_or l 2 0) (get_or l 3 0) (get_or l 6 0)) ≡ true
          → slot_bytes (slot_of l) (get_or l 7 0) ≡ firsts l
      go true z q = empty_to (eqb-true (get_or l 0 0) 0 z) q
      go false z q = held_to (eqb-false (get_or l 0 0) 0 z) q

-- ---- zeros behind a payload

zeros_to : (b : List ℕ) (n : ℕ) → length b ≡ 64 → n ≤ 64 → blank (drop n b) ≡ true → b ≡ padded (take n b)
unfolding padded
zeros_to b n l h e =
    let k : length (take n b) ≡ n = length-take-le n b (omega arith) in
    let m : length (drop n b) ≡ 64 - n = length-drop n b ∙ ap (λ (x : ℕ). x - n) l in
    sym (take-append-drop n b)
    ∙ ap (λ (r : List ℕ). take n b ++ r) (blank_to (drop n b) e ∙ ap (λ (x : ℕ). replicate x 0) (m ∙ ap (λ (x : ℕ). 64 - x) (sym k)))

long_of : (b : List ℕ) (n : ℕ) → n ≤ 64 → b ≡ padded (take n b) → length b ≡ 64
unfolding padded
long_of b n h e =
    let k : length (take n b) ≤ 64 = simp length-take (omega arith) in
    ap length e ∙ length-append (take n b) (replicate (64 - length (take n b)) 0) ∙ ap (λ (x : ℕ). length (take n b) + x) (length-replicate (64 - length (take n b)) 0) ∙ omega arith

zeros_of : (b : List ℕ) (n : ℕ) → n ≤ 64 → b ≡ padded (take n b) → blank (drop n b) ≡ true
unfolding padded
zeros_of b n h e =
    let l : length b ≡ 64 = long_of b n h e in
    let k : length (take n b) ≡ n = length-take-le n b (omega arith) in
    ap (λ (r : List ℕ). blank (drop n r)) e ∙ ap blank (drop_at (take n b) (replicate (64 - length (take n b)) 0) n k) ∙ blank_of (64 - length (take n b))

-- ---- a buffer

pub whole_long : (b : Buffer) → Whole b → length b.payload.bytes ≡ 64
whole_long b w = long_of b.payload.bytes b.payload.len (slot_le b.slot b.payload.len w.fits) w.zeros

pub buffer_size : (b : Buffer) → Whole b → length (buffer_bytes b) ≡ 72
unfolding buffer_bytes
buffer_size b w = simp length-append (omega (arith, slot_size b.slot b.payload.len, whole_long b w))

buffer_is : (s s' : Slot) (n n' : ℕ) (b b' : List ℕ) → s ≡ s' → n ≡ n' → b ≡ b'
    → ◌≡◌ {A = Buffer} (record { slot = s; payload = record { len = n; bytes = b } }) (record { slot = s'; payload = record { len = n'; bytes = b' } })
buffer_is s s' n n' b b' e f g = cc

pub buffer_again : (b : Buffer) → Whole b → buffer_of (buffer_bytes b) ≡ b
unfolding buffer_of buffer_bytes
buffer_again b w =
    buffer_is _ b.slot _ b.payload.len _ b.payload.bytes (slot_again b.slot b.payload.len b.payload.bytes) (length_again b.slot b.payload.len b.payload.bytes)
    (ap (take 64) (drop_at (slot_bytes b.slot b.payload.len) b.payload.bytes 8 (slot_size b.slot b.payload.len))
    ∙ take_all 64 b.payload.bytes (omega (arith, whole_long b w)))

pub buffer_of_lem : (b : Buffer) → Whole b → buffer_fits (buffer_bytes b) ≡ true
unfolding buffer_fits buffer_bytes
buffer_of_lem b w =
    let s : Slot = b.slot in
    let n : ℕ = b.payload.len in
    let l : List ℕ = b.payload.bytes in
    let x = names_of s n l in
    let y : slot_fits (slot_of (slot_bytes s n ++ l)) (get_or (slot_bytes s n ++ l) 7 0) ≡ true =
    ap (λ (t : Slot). slot_fits t (get_or (slot_bytes s n ++ l) 7 0)) (slot_again s n l) ∙ ap (slot_fits s) (length_again s n l) ∙ w.fits in
    let z : blank (drop (8 + get_or (slot_bytes s n ++ l) 7 0) (slot_bytes s n ++ l)) ≡ true =
    ap (λ (k : ℕ). blank (drop (8 + k) (slot_bytes s n ++ l))) (length_again s n l)
    ∙ ap blank (sym (drop-drop n 8 (slot_bytes s n ++ l)) ∙ ap (drop n) (drop_at (slot_bytes s n) l 8 (slot_size s n)))
    ∙ zeros_of l n (slot_le s n w.fits) w.zeros in
    rw (x, y) z

pub buffer_to : (l : List ℕ) → length l ≡ 72 → buffer_fits l ≡ true → (buffer_bytes (buffer_of l) ≡ l) × Whole (buffer_of l)
unfolding buffer_fits buffer_of buffer_bytes
buffer_to l n e =
    let k : ℕ = get_or l 7 0 in
    let x = (and-eq-true_iff (names_fit l && slot_fits (slot_of l) k) (blank (drop (8 + k) l))).0 e in
    let y = (and-eq-true_iff (names_fit l) (slot_fits (slot_of l) k)).0 x.0 in
    let m : length (drop 8 l) ≡ 64 = length-drop 8 l ∙ ap (λ (j : ℕ). j - 8) n in
    let b : take 64 (drop 8 l) ≡ drop 8 l = take_all 64 (drop 8 l) (omega arith) in
    let z : drop 8 l ≡ padded (take k (drop 8 l)) =
    zeros_to (drop 8 l) k m (slot_le (slot_of l) k y.1) (ap blank (drop-drop k 8 l) ∙ x.1) in (
      ap (λ (r : List ℕ). r ++ take 64 (drop 8 l)) (names_to l y.0 ∙ sym (first_eight l (omega arith)))
          ∙ ap (λ (r : List ℕ). take 8 l ++ r) b
          ∙ take-append-drop 8 l,
      record { fits = y.1; zeros = b ∙ z ∙ ap (λ (r : List ℕ). padded (take k r)) (sym b) },
    )
