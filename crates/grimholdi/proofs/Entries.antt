-- What the entries leave, way by way: an area that is taken, one that is refused, a new hub. Assumes nothing.
use Prim.Native.Nat.{ℕ}
use mathlib.Core.Path.{◌≡◌, refl, sym, ◌∙◌, ap, ap₂, subst}
use mathlib.Core.Bool.{Bool, true, false, cond}
use mathlib.Core.List.{List, []}
use lib.ListN.{length}
use borrow.Author.Tests.{eq-eqb, ne_eqb}
use Rattle.payload.specs.Payload as payload
use Rattle.hub.specs.declared.Hub.{Hub}
use Rattle.hub.specs.declared.Identity.{Identity}
use Rattle.hub.specs.declared.Refusal.{Refusal}
use Rattle.hub.specs.declared.Refusal.TheVariants.{Outside}
use Rattle.hub.specs.declared.Stepped.{Stepped}
use Rattle.hub.specs.Hub.{new_fits, hub_of, new_hub}
use Rattle.hub.specs.Method.{outcome_of}
use Rattle.hub.specs.Call.{Call, Poll, Outcome}
use Rattle.hub.specs.Step.{served, step}
use Rattle.hub.specs.Valid.{ValidHub}
use Rattle.hub.proofs.Order.{by_step}
use Rattle.hub.proofs.Calls.{polled_stays}
use Rattle.hub.proofs.Claimed.{hub_claims_lem}
use Rattle.std.specs.Prelude.{Some, None, Result, Ok, Err}
use Rattle.area.specs.Written.{written, area_length, written_over}
use Rattle.area.specs.Read.{read_of}
use Rattle.area.proofs.Exact.{area_exact_lem}
use Rattle.grimholdi.specs.declared.Answer.{Answer}
use Rattle.grimholdi.specs.Outcome.{plain_struct, EntryOutcome, refused}
use Rattle.grimholdi.specs.Entry.{struct_of, carried_out, entry, new_entry}

-- ---- an area that is taken

module _ (a : List ℕ) (h : Hub) (e : Some h ≡ read_of a) where
  pub taken_hub : ValidHub h × (a ≡ written h)
  taken_hub = (area_exact_lem.taken a h).0 (sym e)

  -- the next hub has the same length, so that writing it gives its written form
  left_written : (c : Call) → written_over (step h c).next a ≡ written (step h c).next
  left_written c =
      let v = taken_hub in
      area_exact_lem.writes (step h c).next a (hub_claims_lem.step_valid h v.0 c)
      (ap length v.1 ∙ area_exact_lem.written_length h v.0
      ∙ ap₂ area_length (ap (λ (i : Identity). i.ports) (sym (hub_claims_lem.identity_kept h c))) (sym (hub_claims_lem.buffers_kept h c)))

  pub entry_taken : (c : Call) (r : List ℕ) → entry a c r ≡ carried_out (step h c) r
  unfolding entry
  entry_taken c r = rw (← e)

  module _ (c : Call) (r : List ℕ) (s : Stepped) (o : outcome_of s ≡ step h c) where
    answers : (x : Answer) → x ≡ struct_of (outcome_of s).answer → x ≡ (entry a c r).answer
    answers x p = p ∙ ap (λ (y : Outcome). struct_of y.answer) o ∙ ap (λ (g : EntryOutcome). g.answer) (sym (entry_taken c r))

    areas : (b : List ℕ) → b ≡ written_over s.hub a → b ≡ (entry a c r).area
    areas b p = p ∙ ap (λ (y : Outcome). written_over y.next a) o ∙ left_written c ∙ ap (λ (g : EntryOutcome). g.area) (sym (entry_taken c r))

    replies : (t : List ℕ) → t ≡ payload.written (payload.content s.payload) r → t ≡ (entry a c r).reply
    replies t p = p ∙ ap (λ (y : Outcome). payload.written y.answer.bytes r) o ∙ ap (λ (g : EntryOutcome). g.reply) (sym (entry_taken c r))

    pub settles : (x : Answer) (b : List ℕ) → (x ≡ struct_of (outcome_of s).answer) × (b ≡ written_over s.hub a)
        → (x ≡ (entry a c r).answer) × (b ≡ (entry a c r).area)
    settles x b p = (answers x p.0, areas b p.1)

    pub settles_reply : (x : Answer) (b t : List ℕ)
        → (x ≡ struct_of (outcome_of s).answer) × ((b ≡ written_over s.hub a) × (t ≡ payload.written (payload.content s.payload) r))
        → (x ≡ (entry a c r).answer) × ((b ≡ (entry a c r).area) × (t ≡ (entry a c r).reply))
    settles_reply x b t p = (answers x p.0, (areas b p.1.0, replies t p.1.1))

    -- where the hub stays, nothing is written
    pub gives_reply : (step h c).next ≡ h → (x : Answer) (t : List ℕ)
        → (x ≡ struct_of (outcome_of s).answer) × (t ≡ payload.written (payload.content s.payload) r)
        → (x ≡ (entry a c r).answer) × ((a ≡ (entry a c r).area) × (t ≡ (entry a c r).reply))
    gives_reply n x t p =
        let kept = taken_hub.1 ∙ ap written (sym n) ∙ ap (λ (g : EntryOutcome). g.area) (sym (entry_taken c r)) in
        (answers x p.0, (kept, replies t p.1))

pub poll_stays : (h : Hub) (z room : ℕ) → (step h (Poll z room)).next ≡ h
unfolding served
poll_stays h z room = by_step h (Poll z room) (λ (o : Outcome). o.next ≡ h) (λ n. refl) (λ w f. polled_stays h)

-- ---- an area that is refused

module _ (a : List ℕ) (e : None ≡ read_of a) (c : Call) (r : List ℕ) where
  pub entry_refused : entry a c r ≡ refused a r
  unfolding entry
  entry_refused = rw (← e)

  pub refuses : (x : Answer) → x ≡ plain_struct 6 → (x ≡ (entry a c r).answer) × (a ≡ (entry a c r).area)
  refuses x p = (p ∙ ap (λ (g : EntryOutcome). g.answer) (sym entry_refused), ap (λ (g : EntryOutcome). g.area) (sym entry_refused))

  pub refuses_reply : (x : Answer) → x ≡ plain_struct 6 → (x ≡ (entry a c r).answer) × ((a ≡ (entry a c r).area) × (r ≡ (entry a c r).reply))
  refuses_reply x p = ((refuses x p).0, ((refuses x p).1, ap (λ (g : EntryOutcome). g.reply) (sym entry_refused)))

-- ---- a new hub

module _ (a : List ℕ) (n b g c r : ℕ) where
  -- what was made, if anything was
  abbrev Fitting : Result Hub Refusal → Type 0
  Fitting (Ok h) = (new_fits n b g c r ≡ true) × (h ≡ hub_of n b g c r)
  Fitting (Err x) = (new_fits n b g c r ≡ false) × (x ≡ Outside)

  new_says : Fitting (new_hub n b g c r)
  unfolding new_hub
  new_says = go (new_fits n b g c r) refl
    where
      go : (f : Bool) → new_fits n b g c r ≡ f → Fitting (cond f (Ok (hub_of n b g c r)) (Err Outside))
      go true p = (p, refl)
      go false p = (p, refl)

  fit : {h : Hub} → Ok h ≡ new_hub n b g c r → (new_fits n b g c r ≡ true) × (h ≡ hub_of n b g c r)
  fit e = subst Fitting (sym e) new_says

  pub bad_numbers : {x : Refusal} → Err x ≡ new_hub n b g c r → new_entry a n b g c r ≡ refused a []
  unfolding new_entry
  bad_numbers {x} e = let d : Fitting (Err x) = subst Fitting (sym e) new_says in rw d.0

  pub bad_length : {h : Hub} → Ok h ≡ new_hub n b g c r → ¬ (length a ≡ area_length n b) → new_entry a n b g c r ≡ refused a []
  unfolding new_entry
  bad_length e d = rw ((fit e).0, ne_eqb (length a) (area_length n b) d)

  pub new_made : new_fits n b g c r ≡ true → length a ≡ area_length n b
      → new_entry a n b g c r ≡ record { answer = plain_struct 0; area = written (hub_of n b g c r); reply = [] }
  unfolding new_entry
  new_made f l = rw (f, eq-eqb (length a) (area_length n b) l)

  pub made : {h : Hub} → Ok h ≡ new_hub n b g c r → length a ≡ area_length n b
      → new_entry a n b g c r ≡ record { answer = plain_struct 0; area = written (hub_of n b g c r); reply = [] }
  made e l = new_made (fit e).0 l

  pub made_area : {h : Hub} → Ok h ≡ new_hub n b g c r → length a ≡ area_length n b → written_over h a ≡ written (hub_of n b g c r)
  made_area e l =
      ap (λ (h : Hub). written_over h a) (fit e).1
      ∙ area_exact_lem.writes (hub_of n b g c r) a (hub_claims_lem.new_valid n b g c r (fit e).0) l
