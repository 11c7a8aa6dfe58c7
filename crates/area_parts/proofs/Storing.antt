-- A start-split stored in a written form: the ranks one buffer at a time, then the new buffer. Assumes nothing.
use mathlib.Core.Path.{◌≡◌, refl, sym, ap, ◌∙◌, subst}
use mathlib.Core.List.{List, [], ◌∷◌}
use mathlib.Core.Bool.{true}
use Prim.Native.Nat.{ℕ, ◌<◌}
use native.Mathlib.Omega.{arith}
use native.Mathlib.Decide.{dec_lt}
use lib.ListN.{length, set, length-set}
use lib.Seq.{set-get_or}
use Rattle.payload.specs.declared.Payload.{Payload}
use Rattle.payload.specs.Payload.{payload_of}
use Rattle.buffer.specs.declared.Slot.{Slot}
use Rattle.buffer.specs.declared.Slot.TheVariants.{Empty, Pending, Ready, Old}
use Rattle.buffer.specs.declared.StartSplit.{StartSplit}
use Rattle.buffer.specs.declared.Buffer.{Buffer}
use Rattle.buffer.specs.declared.BufferNumber.{BufferNumber}
use Rattle.buffer.specs.Buffer.{vacant, is_pending}
use Rattle.buffer.specs.Valid.{Whole}
use Rattle.translator.specs.Translator.{at, with_buffer}
use Rattle.translator.specs.Order.{waiting, before, reranked, ranked_in, ranked}
use Rattle.translator.specs.Slots.{slots_in, bare}
use Rattle.translator.specs.StartSplit.{stored}
use Rattle.translator.proofs.At.{at_cases}
use Rattle.translator.proofs.Kept.{fits_reranked}
use Rattle.translator.proofs.Bare.{waiting-bare}
use Rattle.translator.proofs.Lists.{four, ranked_four}
use Rattle.hub.specs.declared.Hub.{Hub}
use Rattle.hub.specs.Hub.{with_translator}
use Rattle.hub.specs.Valid.{ValidHub}
use Rattle.area.specs.Written.{written}
use Rattle.area_parts.specs.Parts.{buffer_over, rank_over, slot_ranked, ranks_over, store_over}
use Rattle.area_parts.proofs.Anew.{Shaped, shaped, buffer_anew, got_inside}

-- ---- over plain values

module _ (ss : List Slot) (n : ℕ) (i : BufferNumber) (s : StartSplit) (a : List ℕ) where
  pub store_all : (l : List ℕ) {a₀ a₁ a₂ a₃ e : List ℕ} {p : ℕ} {c : Payload}
      → a₀ ≡ slot_ranked ss n 0 a → a₁ ≡ slot_ranked ss n 1 a₀ → a₂ ≡ slot_ranked ss n 2 a₁ → a₃ ≡ slot_ranked ss n 3 a₂
      → p ≡ waiting (bare ss) → c ≡ payload_of l → e ≡ buffer_over n i (record { slot = Pending s p; payload = c }) a₃ → e ≡ store_over ss n i s l a
  unfolding store_over ranks_over
  store_all l r₀ r₁ r₂ r₃ place payload put = rw (put, place, payload, r₃, r₂, r₁, r₀)

-- ---- one buffer

-- the hub with these buffers
abbrev hub : Hub → List Buffer → Hub
hub h l = with_translator h (record { buffers = l; count = h.translator.count; low = h.translator.low })

whole-ranked : (bs : List Buffer) (b : Buffer) → Whole b → Whole (ranked_in bs b)
whole-ranked bs b w = record { fits = fits_reranked bs b.slot b.payload.len ∙ w.fits; zeros = w.zeros }

module _ (g : Hub) (v : Shaped g) (m : BufferNumber) where
  abbrev all : List Buffer
  all = g.translator.buffers

  abbrev anew : Buffer → Hub
  anew b = with_translator g (with_buffer g.translator m b)

  -- a whole buffer anew keeps the shape
  shaped_anew : (b : Buffer) → m.0 < length all → Whole b → Shaped (anew b)
  shaped_anew b here w =
      record {
        ports = v.ports;
        buffers = rw length-set v.buffers;
        whole = λ j. at_cases all m.0 b here Whole j (λ _. w) (λ _. v.whole j);
      }

  -- a buffer put where it was changes nothing
  same_anew : (b : Buffer) → at all m.0 ≡ b → written g ≡ written (anew b)
  same_anew b e = ap (λ (l : List Buffer). written (hub g l)) (sym (set-get_or all m.0 vacant) ∙ ap (set all m.0) e)

  -- one rank put: a pending buffer is there, any other stays
  rank_anew : (ss : List Slot) (b : Buffer) → at all m.0 ≡ b → (is_pending b.slot ≡ true → m.0 < g.translator.count)
      → rank_over ss g.identity.ports m b.slot (written g) ≡ written (anew (ranked_in (bare ss) b))
  unfolding rank_over
  rank_anew ss b = go b.slot
    where
      go : (s : Slot) → at all m.0 ≡ record { slot = s; payload = b.payload } → (is_pending s ≡ true → m.0 < g.translator.count)
          → rank_over ss g.identity.ports m s (written g) ≡ written (anew (record { slot = reranked (bare ss) s; payload = b.payload }))
      go Empty e k = same_anew _ e
      go (Pending s p) e k =
          ap (λ (x : Buffer). buffer_over g.identity.ports m (record { slot = Pending s (before p (bare ss)); payload = x.payload }) (written g))
          (got_inside g v m (k refl) ∙ e)
          ∙ buffer_anew g v m (record { slot = Pending s (before p (bare ss)); payload = b.payload })
      go (Ready s r) e k = same_anew _ e
      go (Old s r) e k = same_anew _ e

-- ---- the four, then the new one

module _ (h : Hub) (b₀ b₁ b₂ b₃ : Buffer) where
  abbrev bs : List Buffer
  bs = b₀ ∷ b₁ ∷ b₂ ∷ b₃ ∷ []

  abbrev r : Buffer → Buffer
  r b = ranked_in (bare (slots_in bs)) b

  -- the first buffers ranked: one, two, three, all
  abbrev h₁ : Hub
  h₁ = hub h (r b₀ ∷ b₁ ∷ b₂ ∷ b₃ ∷ [])

  abbrev h₂ : Hub
  h₂ = hub h (r b₀ ∷ r b₁ ∷ b₂ ∷ b₃ ∷ [])

  abbrev h₃ : Hub
  h₃ = hub h (r b₀ ∷ r b₁ ∷ r b₂ ∷ b₃ ∷ [])

  abbrev h₄ : Hub
  h₄ = hub h (r b₀ ∷ r b₁ ∷ r b₂ ∷ r b₃ ∷ [])

  abbrev n : ℕ
  n = h.identity.ports

  module _ (v : Shaped (hub h bs)) (pending : (i : ℕ) → is_pending (at bs i).slot ≡ true → i < h.translator.count) where
    whole : (i : ℕ) → Whole (r (at bs i))
    whole i = whole-ranked (bare (slots_in bs)) (at bs i) (v.whole i)

    v₁ : Shaped h₁
    v₁ = shaped_anew (hub h bs) v (record { 0 = 0 }) (r b₀) (omega arith) (whole 0)

    v₂ : Shaped h₂
    v₂ = shaped_anew h₁ v₁ (record { 0 = 1 }) (r b₁) (omega arith) (whole 1)

    v₃ : Shaped h₃
    v₃ = shaped_anew h₂ v₂ (record { 0 = 2 }) (r b₂) (omega arith) (whole 2)

    v₄ : Shaped h₄
    v₄ = shaped_anew h₃ v₃ (record { 0 = 3 }) (r b₃) (omega arith) (whole 3)

    ranks_anew : ranks_over (slots_in bs) n (written (hub h bs)) ≡ written h₄
    unfolding ranks_over
    ranks_anew =
        rw (
          rank_anew (hub h bs) v (record { 0 = 0 }) (slots_in bs) b₀ refl (pending 0),
          rank_anew h₁ v₁ (record { 0 = 1 }) (slots_in bs) b₁ refl (pending 1),
          rank_anew h₂ v₂ (record { 0 = 2 }) (slots_in bs) b₂ refl (pending 2),
          rank_anew h₃ v₃ (record { 0 = 3 }) (slots_in bs) b₃ refl (pending 3),
        )

    store_anew : (i : BufferNumber) (s : StartSplit) (l : List ℕ)
        → store_over (slots_in bs) n i s l (written (hub h bs)) ≡ written (with_translator h (stored (hub h bs).translator i s l))
    unfolding store_over stored
    store_anew i s l =
        let new : Buffer = record { slot = Pending s (waiting (bare (slots_in bs))); payload = payload_of l } in
        ap (buffer_over n i new) ranks_anew
        ∙ buffer_anew h₄ v₄ i new
        ∙ ap (λ (c : List Buffer). written (hub h (set c i.0 new))) (ranked_four vacant bs refl refl refl refl refl refl)
        ∙ ap (λ (k : ℕ). written (hub h (set (ranked bs) i.0 (record { slot = Pending s k; payload = payload_of l })))) (waiting-bare bs)

module _ (h : Hub) (v : ValidHub h) where
  abbrev own : List Buffer
  own = h.translator.buffers

  -- those that are not in use are empty
  pending_below : (i : ℕ) → is_pending (at own i).slot ≡ true → i < h.translator.count
  pending_below i e = go (dec_lt i h.translator.count)
    where
      go : Dec (i < h.translator.count) → i < h.translator.count
      go (yes k) = k
      go (no k) =
          let z : is_pending vacant.slot ≡ true = rw (v.translator.spare i (omega (arith, k))) at e in
          let y : ◌≡◌ {A = ℕ} 0 1 = cc in
          absurd (omega arith)

  pub store_there : (i : BufferNumber) (s : StartSplit) (l : List ℕ)
      → store_over (slots_in own) h.identity.ports i s l (written h) ≡ written (with_translator h (stored h.translator i s l))
  store_there i s l =
      subst
      (λ (c : List Buffer). Shaped (hub h c)
      → ((j : ℕ) → is_pending (at c j).slot ≡ true → j < h.translator.count)
      → store_over (slots_in c) h.identity.ports i s l (written (hub h c)) ≡ written (with_translator h (stored (hub h c).translator i s l)))
      (sym (four vacant own v.translator.four))
      (λ w p. store_anew h (at own 0) (at own 1) (at own 2) (at own 3) w p i s l)
      (shaped h v) pending_below
