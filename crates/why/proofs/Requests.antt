-- A control request: the first thing that is wrong. Assumes nothing.
use Prim.Native.Nat.{ℕ, ◌<◌}
use native.Mathlib.Omega.{arith}
use mathlib.Core.Path.{◌≡◌, refl, sym, ap, ◌∙◌, subst}
use mathlib.Core.List.{List}
use mathlib.Core.Bool.{Bool, true, false, cond, ◌||◌, true≢false, false≢true}
use Rattle.std.specs.Prelude.{Option, Some, None, is_some, Result, Ok, Err}
use Rattle.buffer.specs.declared.Lane.{Lane}
use Rattle.request.specs.declared.Fault.{Fault}
use Rattle.request.specs.declared.Fault.TheVariants as fault
use Rattle.request.specs.declared.Kind.{Kind}
use Rattle.request.specs.declared.Kind.TheVariants as kind
use Rattle.request.specs.declared.Request.{Request}
use Rattle.request.specs.Setup.{setup_of}
use Rattle.request.specs.Table.{value_fits, index_fits, length_fits}
use Rattle.request.specs.Request.{meaning, checked, request_of}
use Rattle.hub.specs.declared.Hub.{Hub}
use Rattle.hub.specs.Call.{refuse}
use Rattle.hub.specs.Requests.{by_request, served_always, requested}
use Rattle.why.specs.declared.RequestFault.{RequestFault}
use Rattle.why.specs.declared.RequestFault.TheVariants as wrong
use Rattle.why.specs.declared.Reason.{Reason}
use Rattle.why.specs.declared.Reason.TheVariants.{Nothing, Number, HeldBy, Reused, TookFree, LimitReached, NoRoom, Changed, Wrong}
use Rattle.why.specs.Said.{kind_in, of_kind, right, served_unconfigured, place, FirstWrong, SaidOfRequest}
use Rattle.why.specs.Why.{own_fault, request_reason}

-- the first of the five tests that fails
abbrev first_wrong : Bool → Bool → Bool → Bool → Bool → Reason
first_wrong n c v i l =
    cond n (cond c (cond v (cond i (cond l Nothing (Wrong wrong.Length)) (Wrong wrong.Index)) (Wrong wrong.Value)) (Wrong wrong.Unconfigured)) (Wrong wrong.TypeOrCode)

module _ (h : Hub) (s : List ℕ) where
  -- the five tests, by their places
  abbrev Right : RequestFault → Type 0
  Right w = right w h s ≡ true

  before : (n : ℕ) → (0 < n → Right wrong.TypeOrCode) → (1 < n → Right wrong.Unconfigured) → (2 < n → Right wrong.Value) → (3 < n → Right wrong.Index)
      → (4 < n → Right wrong.Length) → (v : RequestFault) → place v < n → Right v
  before n a b c d e wrong.TypeOrCode l = a l
  before n a b c d e wrong.Unconfigured l = b l
  before n a b c d e wrong.Value l = c l
  before n a b c d e wrong.Index l = d l
  before n a b c d e wrong.Length l = e l

  abbrev k : Option Kind
  k = kind_in s

  abbrev v : ℕ
  v = (setup_of s).value

  abbrev i : ℕ
  i = (setup_of s).index

  abbrev l : ℕ
  l = (setup_of s).length

  abbrev n : ℕ
  n = h.identity.ports

  abbrev q : Result Request Fault
  q = request_of h.identity.ports s

  -- the first test that fails names what is wrong
  abbrev by_tests : Reason
  by_tests = first_wrong (right wrong.TypeOrCode h s) (right wrong.Unconfigured h s) (right wrong.Value h s) (right wrong.Index h s) (right wrong.Length h s)

  -- reading looks at the other fields in that order too
  reads : request_reason h s ≡ by_tests
  unfolding request_reason request_of checked
  reads = go (kind_in s) (right wrong.Unconfigured h s)
    where
      fields : (y : Kind) (c x z u : Bool)
          → cond c (own_fault (cond x (cond z (cond u (Ok (meaning y v i l)) (Err fault.Length)) (Err fault.Index)) (Err fault.Value))) (Wrong wrong.Unconfigured)
          ≡ first_wrong true c x z u
      fields y true true true true = refl
      fields y true true true false = refl
      fields y true true false u = refl
      fields y true false z u = refl
      fields y false x z u = refl

      go : (y : Option Kind) (c : Bool)
          → cond (is_some y) (cond c (own_fault (checked n y v i l)) (Wrong wrong.Unconfigured)) (Wrong wrong.TypeOrCode)
          ≡ first_wrong (is_some y) c (of_kind (λ r. value_fits r v) y) (of_kind (λ r. index_fits n r i) y) (of_kind (λ r. length_fits r l) y)
      go None c = refl
      go (Some y) c = fields y c (value_fits y v) (index_fits n y i) (length_fits y l)

  tests_true : SaidOfRequest by_tests h s
  tests_true =
      go (right wrong.TypeOrCode h s) refl (right wrong.Unconfigured h s) refl (right wrong.Value h s) refl (right wrong.Index h s) refl
      (right wrong.Length h s) refl
    where
      go : (n : Bool) → right wrong.TypeOrCode h s ≡ n → (c : Bool) → right wrong.Unconfigured h s ≡ c → (v : Bool) → right wrong.Value h s ≡ v
          → (i : Bool) → right wrong.Index h s ≡ i → (l : Bool) → right wrong.Length h s ≡ l → SaidOfRequest (first_wrong n c v i l) h s
      go true n true c true v true i true l = λ w. before 5 (λ _. n) (λ _. c) (λ _. v) (λ _. i) (λ _. l) w (small w)
        where
          small : (w : RequestFault) → place w < 5
          small wrong.TypeOrCode = omega arith
          small wrong.Unconfigured = omega arith
          small wrong.Value = omega arith
          small wrong.Index = omega arith
          small wrong.Length = omega arith
      go true n true c true v true i false l =
          record { is_wrong = l; before = before 4 (λ _. n) (λ _. c) (λ _. v) (λ _. i) (λ k. absurd (omega (arith, k))) }
      go true n true c true v false i l z =
          record { is_wrong = i; before = before 3 (λ _. n) (λ _. c) (λ _. v) (λ k. absurd (omega (arith, k))) (λ k. absurd (omega (arith, k))) }
      go true n true c false v i y l z =
          record {
            is_wrong = v;
            before = before 2 (λ _. n) (λ _. c) (λ k. absurd (omega (arith, k))) (λ k. absurd (omega (arith, k))) (λ k. absurd (omega (arith, k)));
          }
      go true n false c v x i y l z =
          record {
            is_wrong = c;
            before = before 1 (λ _. n) (λ k. absurd (omega (arith, k))) (λ k. absurd (omega (arith, k))) (λ k. absurd (omega (arith, k)))
                (λ k. absurd (omega (arith, k)));
          }
      go false n c w v x i y l z =
          record {
            is_wrong = n;
            before = before 0 (λ k. absurd (omega (arith, k))) (λ k. absurd (omega (arith, k))) (λ k. absurd (omega (arith, k)))
                (λ k. absurd (omega (arith, k))) (λ k. absurd (omega (arith, k)));
          }

  pub request_true : SaidOfRequest (request_reason h s) h s
  request_true = subst (λ (r : Reason). SaidOfRequest r h s) (sym reads) tests_true

  tests_only : (r : Reason) → SaidOfRequest r h s → r ≡ by_tests
  tests_only (Wrong wrong.TypeOrCode) f = rw f.is_wrong
  tests_only (Wrong wrong.Unconfigured) f = rw (f.before wrong.TypeOrCode (omega arith), f.is_wrong)
  tests_only (Wrong wrong.Value) f = rw (f.before wrong.TypeOrCode (omega arith), f.before wrong.Unconfigured (omega arith), f.is_wrong)
  tests_only (Wrong wrong.Index) f =
      rw (f.before wrong.TypeOrCode (omega arith), f.before wrong.Unconfigured (omega arith), f.before wrong.Value (omega arith), f.is_wrong)
  tests_only (Wrong wrong.Length) f =
      rw (f.before wrong.TypeOrCode (omega arith), f.before wrong.Unconfigured (omega arith), f.before wrong.Value (omega arith), f.before wrong.Index (omega arith), f.is_wrong)
  tests_only Nothing f = rw (f wrong.TypeOrCode, f wrong.Unconfigured, f wrong.Value, f wrong.Index, f wrong.Length)
  tests_only (Number n) f = absurd f
  tests_only (HeldBy b) f = absurd f
  tests_only (Reused b) f = absurd f
  tests_only (TookFree b) f = absurd f
  tests_only NoRoom f = absurd f
  tests_only LimitReached f = absurd f
  tests_only (Changed f) g = absurd g

  pub request_only : (r : Reason) → SaidOfRequest r h s → r ≡ request_reason h s
  request_only r w = tests_only r w ∙ sym reads

  -- ---- it is enough for 2

  wrong_stalls : (y : Lane) (f : Fault) → requested h y (Err f) ≡ refuse 2 h
  unfolding requested
  wrong_stalls y f = elim (h.configured || false) as (λ x. cond x (refuse 2 h) (refuse 2 h) ≡ refuse 2 h) [ true ↦ refl | false ↦ refl ]

  -- a request that is served unconfigured is of one of the first three kinds
  meaning_served : (y : Kind) (v i l : ℕ) → served_always (Ok (meaning y v i l)) ≡ served_unconfigured y
  meaning_served kind.SetConfiguration v i l = refl
  meaning_served kind.GetConfiguration v i l = refl
  meaning_served kind.GetHubDescriptor v i l = refl
  meaning_served kind.GetHubStatus v i l = refl
  meaning_served kind.GetPortStatus v i l = refl
  meaning_served kind.ClearHubFeature v i l = refl
  meaning_served kind.ClearPortFeature v i l = refl
  meaning_served kind.SetPortFeature v i l = refl
  meaning_served kind.ClearTTBuffer v i l = refl
  meaning_served kind.ResetTT v i l = refl

  unserved : of_kind served_unconfigured k ≡ false → served_always q ≡ false
  unfolding request_of checked
  unserved = go (kind_in s)
    where
      fields : (y : Kind) (x z u : Bool) → served_unconfigured y ≡ false
          → served_always (cond x (cond z (cond u (Ok (meaning y v i l)) (Err fault.Length)) (Err fault.Index)) (Err fault.Value)) ≡ false
      fields y true true true e = meaning_served y v i l ∙ e
      fields y true true false e = refl
      fields y true false u e = refl
      fields y false z u e = refl

      go : (y : Option Kind) → of_kind served_unconfigured y ≡ false → served_always (checked n y v i l) ≡ false
      go None e = refl
      go (Some y) e = fields y (value_fits y v) (index_fits n y i) (length_fits y l) e

  unconfigured_stalls : (y : Lane) → right wrong.Unconfigured h s ≡ false → requested h y q ≡ refuse 2 h
  unfolding requested
  unconfigured_stalls from e = go h.configured refl (of_kind served_unconfigured k) refl e
    where
      go : (x : Bool) → h.configured ≡ x → (y : Bool) → of_kind served_unconfigured k ≡ y → x || y ≡ false
          → cond (h.configured || served_always q) (by_request h from q) (refuse 2 h) ≡ refuse 2 h
      go true c y u f = absurd (true≢false f)
      go false c true u f = absurd (true≢false f)
      go false c false u f = rw (c, unserved u)

  -- what is read where the first test of the fields that fails is this one
  unread : is_some k ≡ false → q ≡ Err fault.TypeOrCode
  unfolding request_of checked
  unread = go (kind_in s)
    where
      go : (y : Option Kind) → is_some y ≡ false → checked n y v i l ≡ Err fault.TypeOrCode
      go None e = refl
      go (Some y) e = absurd (true≢false e)

  by_kind : (f : Fault) → is_some k ≡ true → ((y : Kind) → k ≡ Some y → checked n (Some y) v i l ≡ Err f) → q ≡ Err f
  unfolding request_of
  by_kind f = go (kind_in s)
    where
      go : (y : Option Kind) → is_some y ≡ true → ((r : Kind) → y ≡ Some r → checked n (Some r) v i l ≡ Err f) → checked n y v i l ≡ Err f
      go None e g = absurd (false≢true e)
      go (Some y) e g = g y refl

  of_row : (f : Kind → Bool) {b : Bool} (y : Kind) → k ≡ Some y → of_kind f k ≡ b → f y ≡ b
  of_row f y e g = sym (ap (of_kind f) e) ∙ g

  pub wrong_enough : (y : Lane) (w : RequestFault) → FirstWrong w h s → requested h y q ≡ refuse 2 h
  unfolding checked
  wrong_enough y wrong.TypeOrCode f = ap (requested h y) (unread f.is_wrong) ∙ wrong_stalls y fault.TypeOrCode
  wrong_enough y wrong.Unconfigured f = unconfigured_stalls y f.is_wrong
  wrong_enough y wrong.Value f =
      ap (requested h y) (by_kind fault.Value (f.before wrong.TypeOrCode (omega arith)) (λ r e. rw (of_row (λ x. value_fits x v) r e f.is_wrong)))
      ∙ wrong_stalls y fault.Value
  wrong_enough y wrong.Index f =
      ap (requested h y)
      (by_kind fault.Index (f.before wrong.TypeOrCode (omega arith))
      (λ r e. rw (of_row (λ x. value_fits x v) r e (f.before wrong.Value (omega arith)), of_row (λ x. index_fits n x i) r e f.is_wrong)))
      ∙ wrong_stalls y fault.Index
  wrong_enough y wrong.Length f =
      ap (requested h y)
      (by_kind fault.Length (f.before wrong.TypeOrCode (omega arith))
      (λ r e.
      rw (
        of_row (λ x. value_fits x v) r e (f.before wrong.Value (omega arith)),
        of_row (λ x. index_fits n x i) r e (f.before wrong.Index (omega arith)),
        of_row (λ x. length_fits x l) r e f.is_wrong,
      )))
      ∙ wrong_stalls y fault.Length

  -- ---- and where nothing is wrong, the request is served

  meaning_not_2 : (n : Lane) (y : Kind) (v i l : ℕ) → ¬ ((by_request h n (Ok (meaning y v i l))).answer.number ≡ 2)
  meaning_not_2 n kind.SetConfiguration v i l z = absurd (omega (arith, z))
  meaning_not_2 n kind.GetConfiguration v i l z = absurd (omega (arith, z))
  meaning_not_2 n kind.GetHubDescriptor v i l z = absurd (omega (arith, z))
  meaning_not_2 n kind.GetHubStatus v i l z = absurd (omega (arith, z))
  meaning_not_2 n kind.GetPortStatus v i l z = absurd (omega (arith, z))
  meaning_not_2 n kind.ClearHubFeature v i l z = absurd (omega (arith, z))
  meaning_not_2 n kind.ClearPortFeature v i l z = absurd (omega (arith, z))
  meaning_not_2 n kind.SetPortFeature v i l z = absurd (omega (arith, z))
  meaning_not_2 n kind.ClearTTBuffer v i l z = absurd (omega (arith, z))
  meaning_not_2 n kind.ResetTT v i l z = absurd (omega (arith, z))

  pub right_served : (y : Lane) → ((w : RequestFault) → right w h s ≡ true) → ¬ ((requested h y q).answer.number ≡ 2)
  unfolding requested request_of checked
  right_served y f = go (kind_in s) (f wrong.TypeOrCode) (f wrong.Value) (f wrong.Index) (f wrong.Length) (f wrong.Unconfigured)
    where
      go : (x : Option Kind) → is_some x ≡ true → of_kind (λ r. value_fits r v) x ≡ true → of_kind (λ r. index_fits n r i) x ≡ true
          → of_kind (λ r. length_fits r l) x ≡ true → h.configured || of_kind served_unconfigured x ≡ true
          → ¬ ((requested h y (checked n x v i l)).answer.number ≡ 2)
      go None e a b c d = absurd (false≢true e)
      go (Some x) e a b c d = rw (a, b, c, meaning_served x v i l, d) (meaning_not_2 y x v i l)
