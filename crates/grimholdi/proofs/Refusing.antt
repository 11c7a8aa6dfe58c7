-- What the entries refuse, and what each answer leaves. Assumes nothing.
use Prim.Native.Nat.{ℕ}
use native.Mathlib.Omega.{arith}
use mathlib.Core.Path.{◌≡◌, refl, sym, ◌∙◌, ap, subst}
use mathlib.Core.Logic.{◌⊎◌, inl, ⊎_elim}
use mathlib.Core.List.{List}
use lib.ListN.{length, drop}
use Rattle.std.specs.Prelude.{Option, Some, None}
use Rattle.payload.specs.Payload as payload
use Rattle.hub.specs.declared.Hub.{Hub}
use Rattle.hub.specs.Step.{step}
use Rattle.hub.specs.Valid.{ValidHub}
use Rattle.hub.proofs.Claimed.{hub_claims_lem}
use Rattle.runs.specs.Refusals.{Refusal, outside, number_of, Serves}
use Rattle.runs.proofs.Refusing.{refusals}
use Rattle.area.specs.Written.{written}
use Rattle.area.specs.Read.{read_of}
use Rattle.area.proofs.Exact.{area_exact_lem}
use Rattle.grimholdi.specs.Outcome.{EntryOutcome, refused}
use Rattle.grimholdi.specs.Entry.{carried_out}
use Rattle.grimholdi.specs.Asked.{Asked, call_of, reply_of, gives}
use Rattle.grimholdi.specs.Runs.{seen}
use Rattle.grimholdi.specs.Refusals.{EntryRefusals}
use Rattle.grimholdi.proofs.Taken.{none_written}
use Rattle.grimholdi.proofs.Entries.{taken_hub, entry_taken, entry_refused}
use Rattle.grimholdi.proofs.Carried.{seen_is, behind_is, same_long, fits_reply, gives_taken, answer_same}

-- an area is taken or refused
module _ (a : List ℕ) (x : Asked) (P : EntryOutcome → Type 0) where
  by_area : P (refused a (reply_of x)) → ((h : Hub) → ValidHub h → a ≡ written h → P (carried_out (step h (call_of x)) (reply_of x))) → P (gives a x)
  by_area no-hub by-hub = go (read_of a) refl
    where
      go : (q : Option Hub) → q ≡ read_of a → P (gives a x)
      go (Some h) e =
          let t = taken_hub a h e in
          subst P (sym (entry_taken a h e (call_of x) (reply_of x))) (by-hub h t.0 t.1)
      go None e = subst P (sym (entry_refused a e (call_of x) (reply_of x))) no-hub

module _ (a : List ℕ) (x : Asked) where
  numbered : ((r : Refusal) × ((gives a x).answer.number ≡ number_of r)) ⊎ Serves (gives a x).answer.number
  numbered =
      by_area a x (λ g. ((r : Refusal) × (g.answer.number ≡ number_of r)) ⊎ Serves g.answer.number) (inl (outside, refl))
      (λ h v e. refusals.numbered h (call_of x) v)

  as_it_was : (r : Refusal) → (gives a x).answer.number ≡ number_of r → ((gives a x).area ≡ a) × ((gives a x).reply ≡ reply_of x)
  as_it_was r =
      by_area a x (λ g. g.answer.number ≡ number_of r → (g.area ≡ a) × (g.reply ≡ reply_of x)) (λ n. (refl, refl))
      (λ h v e n.
      let u = refusals.unchanged r h (call_of x) v n in
      (ap written u.0 ∙ sym e, ap (λ (d : List ℕ). payload.written d (reply_of x)) u.1 ∙ none_written (reply_of x)))

  -- only data has bytes
  no_bytes : ¬ ((gives a x).answer.number ≡ 1) → ((gives a x).reply ≡ reply_of x) × ((gives a x).answer.length ≡ 0)
  no_bytes =
      by_area a x (λ g. ¬ (g.answer.number ≡ 1) → (g.reply ≡ reply_of x) × (g.answer.length ≡ 0)) (λ n. (refl, refl))
      (λ h v e n.
      let b = hub_claims_lem.bytes_of_data h (call_of x) n in
      (ap (λ (d : List ℕ). payload.written d (reply_of x)) b ∙ none_written (reply_of x), ap length b))

  untouched : ((gives a x).answer.number ≡ 0) ⊎ ((gives a x).answer.number ≡ 9) → (gives a x).reply ≡ reply_of x
  untouched n = (no_bytes (⊎_elim (λ z e. omega (arith, z, e)) (λ z e. omega (arith, z, e)) n)).0

  counted : length (seen (gives a x)).bytes ≡ (gives a x).answer.length
  counted =
      by_area a x (λ g. length (seen g).bytes ≡ g.answer.length) refl
      (λ h v e. ap length (seen_is (step h (call_of x)).answer.bytes (reply_of x) (fits_reply h v x)))

  same_length : length (gives a x).reply ≡ length (reply_of x)
  same_length =
      by_area a x (λ g. length g.reply ≡ length (reply_of x)) refl
      (λ h v e. same_long (step h (call_of x)).answer.bytes (reply_of x) (fits_reply h v x))

  behind : drop (gives a x).answer.length (gives a x).reply ≡ drop (gives a x).answer.length (reply_of x)
  behind =
      by_area a x (λ g. drop g.answer.length g.reply ≡ drop g.answer.length (reply_of x)) refl
      (λ h v e. behind_is (step h (call_of x)).answer.bytes (reply_of x) (fits_reply h v x))

pub entry_refusals : EntryRefusals gives
entry_refusals =
    record {
      bad_area = λ a x n. entry_refused a (sym ((area_exact_lem.refused a).1 n)) (call_of x) (reply_of x);
      exactly = λ r h x v.
          let q = ap (λ (g : EntryOutcome). g.answer.number) (gives_taken h v x) in
          let due = refusals.exactly r h (call_of x) v in
          (λ e. due.0 (sym q ∙ e), λ e. q ∙ due.1 e);
      numbered = numbered;
      unchanged = λ r a x e. as_it_was a x r e;
      untouched = untouched;
      given = λ h x v. answer_same h v x;
      left = λ h x v. ap (λ (g : EntryOutcome). g.area) (gives_taken h v x);
      counted = counted;
      no_data = λ a x n. (no_bytes a x n).1;
      same_length = same_length;
      behind = behind;
    }
