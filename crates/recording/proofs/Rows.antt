-- Records one behind the other. Assumes nothing.
use Prim.Native.Nat.{ℕ, zero, suc, ◌-◌, ◌<◌, ◌≤◌}
use native.Mathlib.Omega.{arith}
use mathlib.Core.Path.{◌≡◌, refl, sym, ◌∙◌, ap, ap₂, subst}
use mathlib.Core.List.{List, [], ◌∷◌, ◌++◌}
use mathlib.Core.Bool.{true, false}
use lib.ListN.{length, take, drop, length-drop, take-append-drop, drop_of_length-le}
use lib.Seq.{drop-append_seam, take_all}
use Rattle.std.proofs.Common.{Option, Some, None, is_some, option_and_then}
use Rattle.hub.specs.Call.{Call}
use Rattle.call_bytes.specs.declared.Recorded.{Recorded}
use Rattle.call_bytes.specs.Written.{written, Bytes}
use Rattle.call_bytes.specs.Claims.{Takes, Starts}
use Rattle.call_bytes.specs.Read.{read_of, call_in}
use Rattle.call_bytes.proofs.Exact.{none_some, some_same, record_exact_lem, bytes_drop, read_size}
use Rattle.recording.specs.Written.{written_all, AllFit}
use Rattle.recording.specs.Claims.{CallsExact}
use Rattle.recording.specs.Calls.{cons_to, end_or, calls_in, calls_of}

-- ---- more turns than bytes change nothing

-- the first record's call and those behind it, of at most n
abbrev from : ℕ → List ℕ → Option Recorded → Option (List Call)
from n l o = option_and_then (λ r. cons_to (call_in r l) (calls_in n (drop r.length l))) o

known_end : (l : List ℕ) (o p : Option (List Call)) → (0 < length l → o ≡ p) → end_or l o ≡ end_or l p
known_end [] o p e = refl
known_end (x ∷ l) o p e = e (omega arith)

pub enough : (n m : ℕ) (l : List ℕ) → length l ≤ n → length l ≤ m → calls_in n l ≡ calls_in m l
unfolding calls_in
enough zero zero l p q = refl
enough zero (suc m) l p q = known_end l _ _ (λ h. absurd (omega (arith, h, p)))
enough (suc n) zero l p q = known_end l _ _ (λ h. absurd (omega (arith, h, q)))
enough (suc n) (suc m) l p q = known_end l _ _ (λ h. go (read_of l) refl (enough n m))
  where
    go : (o : Option Recorded) → read_of l ≡ o → ((k : List ℕ) → length k ≤ n → length k ≤ m → calls_in n k ≡ calls_in m k) → from n l o ≡ from m l o
    go None e ih = refl
    go (Some r) e ih =
        let s = read_size l r e in
        let d : length (drop r.length l) ≡ length l - r.length = length-drop r.length l in
        ap (cons_to (call_in r l)) (ih (drop r.length l) (omega (arith, s.0, s.1, d, p)) (omega (arith, s.0, s.1, d, q)))

-- ---- one record more

end_else : (l : List ℕ) (o : Option (List Call)) → 0 < length l → end_or l o ≡ o
end_else [] o h = absurd (omega (arith, h))
end_else (x ∷ l) o h = refl

pub calls_known : (l : List ℕ) (r : Recorded) → read_of l ≡ Some r → calls_of l ≡ cons_to (call_in r l) (calls_of (drop r.length l))
unfolding calls_in
calls_known l r e = go (length l) refl
  where
    s : (1 ≤ r.length) × (r.length ≤ length l)
    s = read_size l r e

    go : (n : ℕ) → length l ≡ n → calls_in n l ≡ cons_to (call_in r l) (calls_of (drop r.length l))
    go zero q = absurd (omega (arith, (read_size l r e).0, (read_size l r e).1, q))
    go (suc n) q =
        end_else l (from n l (read_of l)) (omega (arith, q))
        ∙ ap (from n l) e
        ∙ ap (cons_to (call_in r l))
        (enough n (length (drop r.length l)) (drop r.length l)
        (omega (arith, length-drop r.length l, (read_size l r e).0, q)) (omega arith))

pub calls_unknown : (l : List ℕ) → 0 < length l → read_of l ≡ None → calls_of l ≡ None
unfolding calls_in
calls_unknown [] h e = absurd (omega (arith, h))
calls_unknown (x ∷ l) h e = ap (from (length l) (x ∷ l)) e

-- ---- a loop's turn

some_cons : (c : Call) (o : Option (List Call)) → is_some (cons_to c o) ≡ is_some o
some_cons c None = refl
some_cons c (Some cs) = refl

pub none_there : (l : List ℕ) → 0 < length l → read_of l ≡ None → is_some (calls_of l) ≡ false
none_there l h e = ap is_some (calls_unknown l h e)

pub tail_is : (l : List ℕ) (at : ℕ) → take (length l - at) (drop at l) ≡ drop at l
tail_is l at = take_all (length l - at) (drop at l) (omega (arith, length-drop at l))

-- the bytes behind the first record
abbrev pub behind : List ℕ → Recorded → List ℕ
behind l r = take (length l - r.length) (drop r.length l)

pub turn_less : (l : List ℕ) (r : Recorded) → read_of l ≡ Some r → length (behind l r) < length l
turn_less l r e =
    let s = read_size l r e in
    omega (arith, ap length (tail_is l r.length), length-drop r.length l, s.0, s.1)

pub turn_some : (l : List ℕ) (r : Recorded) → read_of l ≡ Some r → is_some (calls_of (behind l r)) ≡ is_some (calls_of l)
turn_some l r e =
    ap (λ (m : List ℕ). is_some (calls_of m)) (tail_is l r.length)
    ∙ sym (some_cons (call_in r l) (calls_of (drop r.length l)))
    ∙ ap is_some (sym (calls_known l r e))

pub none_left : (l : List ℕ) → length l ≡ 0 → is_some (calls_of l) ≡ true
unfolding calls_in
none_left [] h = refl
none_left (x ∷ l) h = absurd (omega (arith, h))

pub at_end : (l : List ℕ) (at : ℕ) → length l ≤ at → calls_of (drop at l) ≡ Some []
unfolding calls_in
at_end l at h = rw (drop_of_length-le l h)

-- ---- the calls are those whose written forms the bytes are

pub record Row (l : List ℕ) (cs : List Call) : Type 0 where
  pub fit : AllFit cs
  pub form : l ≡ written_all cs

-- one record, then rows
row_first : (l : List ℕ) (r : Recorded) → Bytes l → read_of l ≡ Some r → (ds : List Call) → Row (drop r.length l) ds → Row l (call_in r l ∷ ds)
unfolding written_all AllFit
row_first l r b e ds rest =
    let first : Starts l (call_in r l) r.length =
    (record_exact_lem.exact l (call_in r l) r.length b).0 (record { record_read = r; known = e; call = refl; size = refl }) in
    record { fit = (first.fits, rest.fit); form = sym (take-append-drop r.length l) ∙ ap₂ ◌++◌ first.form rest.form }

rows : (n : ℕ) (l : List ℕ) (cs : List Call) → Bytes l → calls_in n l ≡ Some cs → Row l cs
unfolding calls_in written_all AllFit
rows zero [] cs b e = subst (Row []) (some_same e) (record { fit = tt; form = refl })
rows zero (x ∷ l) cs b e = absurd (none_some e)
rows (suc n) [] cs b e = subst (Row []) (some_same e) (record { fit = tt; form = refl })
rows (suc n) (x ∷ l) cs b e = go (read_of (x ∷ l)) refl e (rows n)
  where
    go : (o : Option Recorded) → read_of (x ∷ l) ≡ o → from n (x ∷ l) o ≡ Some cs
        → ((k : List ℕ) (ds : List Call) → Bytes k → calls_in n k ≡ Some ds → Row k ds) → Row (x ∷ l) cs
    go None k q ih = absurd (none_some q)
    go (Some r) k q ih = more (calls_in n (drop r.length (x ∷ l))) refl q
      where
        more : (o : Option (List Call)) → calls_in n (drop r.length (x ∷ l)) ≡ o → cons_to (call_in r (x ∷ l)) o ≡ Some cs → Row (x ∷ l) cs
        more None p q = absurd (none_some q)
        more (Some ds) p q =
            subst (Row (x ∷ l)) (some_same q)
            (row_first (x ∷ l) r b k ds (ih (drop r.length (x ∷ l)) ds (bytes_drop (x ∷ l) r.length b) p))

pub back : (cs : List Call) → AllFit cs → calls_of (written_all cs) ≡ Some cs
unfolding calls_in written_all AllFit
back [] f = refl
back (c ∷ cs) f =
    calls_known (written c ++ written_all cs) t.record_read t.known
    ∙ ap₂ (λ (x : Call) (n : ℕ). cons_to x (calls_of (drop n (written c ++ written_all cs)))) t.call t.size
    ∙ ap (λ (m : List ℕ). cons_to c (calls_of m)) (drop-append_seam (written c) (written_all cs))
    ∙ ap (cons_to c) (back cs f.1)
  where
    t : Takes (written c ++ written_all cs) c (length (written c))
    t = record_exact_lem.again c (written_all cs) f.0

pub calls_exact_lem : CallsExact
calls_exact_lem l cs b = (
  λ e. (let r : Row l cs = rows (length l) l cs b e in (r.fit, r.form)),
  λ q. ap calls_of q.1 ∙ back cs q.0,
)
