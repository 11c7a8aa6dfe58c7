-- New hubs and the length of an area. Assumes nothing.
use Prim.Native.Nat.{ℕ, ◌+◌, ◌*◌}
use native.Mathlib.Omega.{arith}
use mathlib.Core.Path.{◌≡◌, refl, sym, ◌∙◌, ap}
use mathlib.Core.Logic.{◌↔◌, ◌⊎◌, inl, inr, ⊎_elim}
use mathlib.Core.Bool.{Bool, true, false, cond, ◌&&◌, true≢false}
use mathlib.Core.List.{List, []}
use lib.Dec.{eqb, leb}
use lib.ListN.{length}
use borrow.Author.Tests.{eqb-true, eqb-false}
use Rattle.hub.specs.Hub.{new_fits, hub_of}
use Rattle.hub.specs.New.{CountsOutside, NewOutside}
use Rattle.hub.proofs.Tells.{Tells}
use Rattle.hub.proofs.NewNumbers.{counts_tell}
use Rattle.hub.proofs.Claimed.{hub_claims_lem}
use Rattle.area.specs.Written.{written, area_length}
use Rattle.area.proofs.Exact.{area_exact_lem}
use Rattle.grimholdi.specs.Outcome.{plain_struct, EntryOutcome, refused}
use Rattle.grimholdi.specs.Entry.{new_entry}
use Rattle.grimholdi.specs.New.{Long, NewHubs, AreaLengths}

module _ (a : List ℕ) (n b g c r : ℕ) where
  abbrev made : EntryOutcome
  made = record { answer = plain_struct 0; area = written (hub_of n b g c r); reply = [] }

  form_long : new_fits n b g c r ≡ true → length (written (hub_of n b g c r)) ≡ area_length n b
  form_long f = area_exact_lem.written_length (hub_of n b g c r) (hub_claims_lem.new_valid n b g c r f)

  -- the two ways
  data Way (o : EntryOutcome) : Type 0 where
    refuses : NewOutside n b g c r ⊎ ¬ (Long a n b g c r) → o ≡ refused a [] → Way o
    makes : ¬ (NewOutside n b g c r) → Long a n b g c r → o ≡ made → Way o

  way : Way (new_entry a n b g c r)
  unfolding new_entry
  way = go (new_fits n b g c r) refl (eqb (length a) (area_length n b)) refl
    where
      go : (x : Bool) → new_fits n b g c r ≡ x → (y : Bool) → eqb (length a) (area_length n b) ≡ y → Way (cond (x && y) made (refused a []))
      go true e true f =
          makes (λ o. true≢false (sym e ∙ (hub_claims_lem.new_refused n b g c r).1 o)) (eqb-true (length a) (area_length n b) f ∙ sym (form_long e)) refl
      go true e false f = refuses (inr (λ l. eqb-false (length a) (area_length n b) f (l ∙ form_long e))) refl
      go false e y f = refuses (inl ((hub_claims_lem.new_refused n b g c r).0 e)) refl

  not_made : {o : EntryOutcome} → o ≡ made → ¬ (o.answer.number ≡ 6)
  not_made e s = let z : ◌≡◌ {A = ℕ} 0 6 = sym (ap (λ (y : EntryOutcome). y.answer.number) e) ∙ s in omega (arith, z)

  exactly : {o : EntryOutcome} → Way o → (o.answer.number ≡ 6) ↔ (NewOutside n b g c r ⊎ ¬ (Long a n b g c r))
  exactly (refuses w e) = (λ s. w, λ s. ap (λ (y : EntryOutcome). y.answer.number) e)
  exactly (makes f l e) = (λ s. absurd (not_made e s), λ s. absurd (⊎_elim f (λ k. k l) s))

  unchanged : {o : EntryOutcome} → Way o → o.answer.number ≡ 6 → o ≡ refused a []
  unchanged (refuses w e) s = e
  unchanged (makes f l e) s = absurd (not_made e s)

  is_made : {o : EntryOutcome} → Way o → ¬ (NewOutside n b g c r) → Long a n b g c r → o ≡ made
  is_made (refuses w e) f l = absurd (⊎_elim f (λ k. k l) w)
  is_made (makes f l e) _ _ = e

pub new_hubs : NewHubs new_entry
new_hubs =
    record {
      exactly = λ a n b g c r. exactly a n b g c r (way a n b g c r);
      unchanged = λ a n b g c r. unchanged a n b g c r (way a n b g c r);
      made = λ a n b g c r. is_made a n b g c r (way a n b g c r);
    }

none : (n b : ℕ) → (area_length n b ≡ 0) ↔ CountsOutside n b
unfolding area_length
none n b = go ((leb 1 n && leb n 7) && (leb 2 b && leb b 4)) (counts_tell n b)
  where
    go : (x : Bool) → Tells x (CountsOutside n b) → (cond x (8 + n * 4 + b * 72) 0 ≡ 0) ↔ CountsOutside n b
    go true t = (λ e. absurd (omega (arith, e)), λ o. absurd (true≢false (t.1 o)))
    go false t = (λ e. t.0 refl, λ o. refl)

pub area_lengths : AreaLengths area_length
area_lengths = record { none = none; whole = λ h v. sym (area_exact_lem.written_length h v) }
