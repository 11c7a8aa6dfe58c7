-- A part put into a list of bytes, over plain values. Assumes nothing.
use mathlib.Core.Path.{◌≡◌, sym, ap, ◌∙◌}
use mathlib.Core.List.{List, ◌∷◌, ◌++◌, append_assoc}
use mathlib.Core.Bool.{Bool, cond}
use Prim.Native.Nat.{ℕ, suc, ◌+◌, ◌-◌, ◌*◌, ◌≤◌, ◌<◌}
use native.Mathlib.Nat.{add-sub_cancel_left}
use lib.ListN.{length, get_or, take, drop, length-append}
use lib.Seq.{drop-drop, drop_at, take_at, split_at}
use lib.Dec.{leb}
use borrow.Author.Tests.{le-leb, lt-leb}
use borrow.Rule.Slice.PartMut.{put_mid}
use Rattle.payload.specs.Bytes.{flat}
use Rattle.area_check.proofs.Rows.{flat_append}
use Rattle.area.specs.Written.{placed}

pub placed_is : (n k : ℕ) (o p : List ℕ) → put_mid n k o p ≡ placed n k p o
placed_is n k o p = ap (λ (r : List ℕ). take n o ++ (p ++ r)) (drop-drop k n o)

pub placed_cut : (n k : ℕ) (o p : List ℕ) → put_mid n (n + k - n) o p ≡ placed n k p o
placed_cut n k o p = ap (λ (m : ℕ). put_mid n m o p) (add-sub_cancel_left n k) ∙ placed_is n k o p

pub over_put : (n k m : ℕ) (o p q : List ℕ) → m ≤ length o → p ≡ q → put_mid n (n + k - n) o p ≡ cond (leb m (length o)) (placed n k q o) o
over_put n k m o p q h e =
    placed_cut n k o p ∙ ap (λ (r : List ℕ). placed n k r o) e ∙ sym (ap (λ (b : Bool). cond b (placed n k q o) o) (le-leb m (length o) h))

-- a test of the length that fails, or holds
pub over_none : {A : Type 0} (n : ℕ) (o : List ℕ) (x y : A) → length o < n → y ≡ cond (leb n (length o)) x y
over_none n o x y h = sym (ap (λ (b : Bool). cond b x y) (lt-leb n (length o) h))

pub over_some : {A : Type 0} (n : ℕ) (o : List ℕ) (x y : A) → n ≤ length o → x ≡ cond (leb n (length o)) x y
over_some n o x y h = sym (ap (λ (b : Bool). cond b x y) (le-leb n (length o) h))

-- one element of a row got, behind the bytes before the row
pub row_got : {A : Type 0} (enc : A → List ℕ) (k m : ℕ) (hd r : List ℕ) (xs : List A) (i : ℕ) (d : A) → length hd ≡ m → i < length xs
    → length (flat enc (take i xs)) ≡ i * k → length (enc (get_or xs i d)) ≡ k → take k (drop (m + i * k) (hd ++ (flat enc xs ++ r))) ≡ enc (get_or xs i d)
unfolding flat
row_got {A} enc k m hd r xs i d nh h nf nx =
    let x : A = get_or xs i d in
    let f : List ℕ = flat enc (take i xs) in
    let g : List ℕ = flat enc (drop (suc i) xs) in
    let whole : flat enc xs ≡ f ++ (enc x ++ g) = ap (flat enc) (split_at xs i d h) ∙ flat_append enc (take i xs) (x ∷ drop (suc i) xs) in
    let join : hd ++ (flat enc xs ++ r) ≡ (hd ++ f) ++ (enc x ++ (g ++ r)) =
    ap (λ (l : List ℕ). hd ++ (l ++ r)) whole
    ∙ ap (λ (l : List ℕ). hd ++ l) (append_assoc f (enc x ++ g) r ∙ ap (λ (l : List ℕ). f ++ l) (append_assoc (enc x) g r))
    ∙ sym (append_assoc hd f (enc x ++ (g ++ r))) in
    let n : length (hd ++ f) ≡ m + i * k = length-append hd f ∙ ap (λ (a : ℕ). a + length f) nh ∙ ap (λ (a : ℕ). m + a) nf in
    ap (λ (l : List ℕ). take k (drop (m + i * k) l)) join
    ∙ ap (take k) (drop_at (hd ++ f) (enc x ++ (g ++ r)) (m + i * k) n)
    ∙ take_at (enc x) (g ++ r) k nx
