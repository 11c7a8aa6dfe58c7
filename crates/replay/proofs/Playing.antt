-- The paths through the code, over plain values. Assumes nothing.
use Prim.Native.Nat.{ℕ, ◌+◌, ◌-◌, ◌<◌, ◌≤◌}
use native.Mathlib.Omega.{arith}
use mathlib.Core.Path.{◌≡◌, refl, sym, ◌∙◌, ap, ap₂}
use mathlib.Core.List.{List, [], ◌∷◌, ◌++◌, append_assoc, append-nil}
use mathlib.Core.Bool.{Bool, true, false}
use lib.ListN.{length, get_or, take, drop, length-append, length-drop, length-take}
use lib.Seq.{drop-drop, take-length, drop-length, take_all}
use borrow.Rule.Slice.PartMut.{put_mid}
use Rattle.payload.specs.declared.Payload.{Payload}
use Rattle.payload.specs.Payload as payload
use Rattle.hub.specs.Call.{Answer}
use Rattle.replay.specs.Answers.{head_bytes, answer_bytes}
use mir.Val.{bool_byte}
use Rattle.buffer.specs.declared.Slot.{Slot}
use Rattle.buffer.specs.declared.Buffer.{Buffer}
use Rattle.bools.specs.Bit.{bit}
use Rattle.translator.specs.Translator.{tally}
use Rattle.translator.specs.Slots.{slots_in}
use Rattle.runs.specs.Tally.{Tally}
use Rattle.replay.specs.Counting.{tallied_by}
use Rattle.replay.proofs.Tallying.{tally_is}

-- ---- the tally

module _ (s a e before after : ℕ) where
  abbrev was : Tally
  was = record { stored = s; answered = a; emptied = e }

  pub more_active : (complete : Bool) → before ≤ after
      → ◌≡◌ {A = Tally} (record { stored = s + (after - before); answered = a; emptied = e }) (tallied_by complete before after was)
  more_active true h = tally_is _ _ refl (omega arith) (omega arith)
  more_active false h = tally_is _ _ refl (omega arith) (omega arith)

  pub fewer_answered : (complete : Bool) → complete ≡ true → after < before
      → ◌≡◌ {A = Tally} (record { stored = s; answered = a + (before - after); emptied = e }) (tallied_by complete before after was)
  fewer_answered c t h = rw t (tally_is _ _ (omega arith) refl (omega arith))

  pub fewer_emptied : (complete : Bool) → complete ≡ false → after < before
      → ◌≡◌ {A = Tally} (record { stored = s; answered = a; emptied = e + (before - after) }) (tallied_by complete before after was)
  fewer_emptied c t h = rw t (tally_is _ _ (omega arith) (omega arith) refl)

one_bit : (x : Bool) → (bool_byte x ≡ bit x) × (bit x ≤ 1)
one_bit true = (refl, omega arith)
one_bit false = (refl, omega arith)

-- a tally of four buffers by their slots
tally_slots : (f : Slot → Bool) (d : Slot) (bs : List Buffer) → length (slots_in bs) ≡ 4
    → tally f bs ≡ bit (f (get_or (slots_in bs) 0 d)) + (bit (f (get_or (slots_in bs) 1 d)) + (bit (f (get_or (slots_in bs) 2 d)) + (bit (f (get_or (slots_in bs) 3 d)) + 0)))
unfolding tally
tally_slots f d [] e = absurd (omega (arith, e))
tally_slots f d (w ∷ []) e = absurd (omega (arith, e))
tally_slots f d (w ∷ x ∷ []) e = absurd (omega (arith, e))
tally_slots f d (w ∷ x ∷ y ∷ []) e = absurd (omega (arith, e))
tally_slots f d (w ∷ x ∷ y ∷ z ∷ []) e = refl
tally_slots f d (w ∷ x ∷ y ∷ z ∷ v ∷ l) e = absurd (omega (arith, e))

pub sum_slots : (f : Slot → Bool) (d : Slot) (bs : List Buffer) (ss : List Slot) → ss ≡ slots_in bs → length ss ≡ 4 → {b₀ b₁ b₂ b₃ : Bool} {n₀ n₁ n₂ n₃ : ℕ}
    → n₀ ≡ bool_byte b₀ → n₁ ≡ bool_byte b₁ → n₂ ≡ bool_byte b₂ → n₃ ≡ bool_byte b₃
    → b₀ ≡ f (get_or ss 0 d) → b₁ ≡ f (get_or ss 1 d) → b₂ ≡ f (get_or ss 2 d) → b₃ ≡ f (get_or ss 3 d)
    → (n₀ + n₁ + n₂ + n₃ ≡ tally f bs) × (n₀ + n₁ + n₂ + n₃ ≤ 4)
sum_slots f d bs ss e long {b₀} {b₁} {b₂} {b₃} p q r s t u v w =
    let whole = tally_slots f d bs (ap length (sym e) ∙ long) in
    let at : (i : ℕ) → f (get_or ss i d) ≡ f (get_or (slots_in bs) i d) = λ i. ap (λ (l : List Slot). f (get_or l i d)) e in (
      omega (
        arith,
        whole,
        p ∙ (one_bit b₀).0 ∙ ap bit (t ∙ at 0),
        q ∙ (one_bit b₁).0 ∙ ap bit (u ∙ at 1),
        r ∙ (one_bit b₂).0 ∙ ap bit (v ∙ at 2),
        s ∙ (one_bit b₃).0 ∙ ap bit (w ∙ at 3),
      ),
      omega (arith, p ∙ (one_bit b₀).0, q ∙ (one_bit b₁).0, r ∙ (one_bit b₂).0, s ∙ (one_bit b₃).0, (one_bit b₀).1, (one_bit b₁).1, (one_bit b₂).1, (one_bit b₃).1),
    )

-- ---- an answer, at the start of the output: its head, then its bytes

-- its head, where n is how many bytes it has
abbrev pub head_with : Answer → ℕ → List ℕ
head_with a n =
    a.number ∷ n ∷ a.pid ∷ a.transfer ∷ a.lane ∷ a.address ∷ a.endpoint ∷ a.direction ∷ a.lowspeed ∷ a.toggle ∷ []

pub answer_put : (a : Answer) (h o d w : List ℕ) → h ≡ head_bytes a → 74 ≤ length o → length a.bytes ≤ 64 → d ≡ h ++ drop 10 o
    → w ≡ payload.written a.bytes (take (length d - 10) (drop 10 d))
    → put_mid 10 (length d - 10) d w ≡ answer_bytes a ++ drop (length (answer_bytes a)) o
unfolding answer_bytes payload.written
answer_put a h o d w eh long short ed ew =
    ap₂ ◌++◌ front (ap₂ ◌++◌ inner behind ∙ append-nil (b ++ drop (length b) r))
    ∙ sym (append_assoc (head_bytes a) b (drop (length b) r))
    ∙ ap (λ (x : List ℕ). (head_bytes a ++ b) ++ x) (drop-drop (length b) 10 o ∙ ap (λ (n : ℕ). drop n o) (sym (length-append (head_bytes a) b)))
  where
    b : List ℕ
    b = a.bytes

    r : List ℕ
    r = drop 10 o

    whole : d ≡ head_bytes a ++ drop 10 o
    whole = ed ∙ ap (λ (x : List ℕ). x ++ drop 10 o) eh

    rest : drop 10 d ≡ drop 10 o
    rest = ap (drop 10) whole

    front : take 10 d ≡ head_bytes a
    front = ap (take 10) whole

    count : length d - 10 ≡ length (drop 10 o)
    count = omega (arith, ap length whole, length-append (head_bytes a) (drop 10 o))

    part : take (length d - 10) (drop 10 d) ≡ drop 10 o
    part = ap₂ (λ (n : ℕ) (x : List ℕ). take n x) count rest ∙ take-length (drop 10 o)

    inner : w ≡ a.bytes ++ drop (length a.bytes) (drop 10 o)
    inner =
        ew
        ∙ ap (λ (x : List ℕ). take (length x) a.bytes ++ drop (length a.bytes) x) part
        ∙ ap (λ (x : List ℕ). x ++ drop (length a.bytes) (drop 10 o)) (take_all (length (drop 10 o)) a.bytes (omega (arith, length-drop 10 o)))

    behind : drop (length d - 10) (drop 10 d) ≡ []
    behind = ap₂ (λ (n : ℕ) (x : List ℕ). drop n x) count rest ∙ drop-length (drop 10 o)

pub answer_size : (a : Answer) (n : ℕ) → n ≡ length a.bytes → n ≤ 64 → (10 + n ≡ length (answer_bytes a)) × (10 + n ≤ 74)
unfolding answer_bytes
answer_size a n e h = (omega (arith, e, length-append (head_bytes a) a.bytes), omega arith)

pub content_short : (p : Payload) → length p.bytes ≡ 64 → length (payload.content p) ≤ 64
content_short p e = simp length-take (omega arith)
