-- Steps of the search with one mistake are shut out, each by another part of the claim. Assumes nothing.
use Prim.Native.Nat.{ℕ, zero-le, suc-le-suc}
use mathlib.Core.Path.{◌≡◌, refl, ap}
use mathlib.Core.List.{List, [], ◌∷◌}
use native.Mathlib.Omega.{arith}
use lib.ListN.{length}
use Rattle.std.specs.Prelude.{Result, Ok, Err}
use Rattle.buffer.specs.declared.Key.{Key}
use Rattle.buffer.specs.declared.BufferNumber.{BufferNumber}
use Rattle.buffer.specs.declared.DeviceResult.TheVariants.{Data0}
use Rattle.buffer.specs.declared.Slot.{Slot}
use Rattle.buffer.specs.declared.Slot.TheVariants.{Empty, Pending, Old}
use Rattle.buffer.specs.Same.{same_key}
use Rattle.buffer.specs.Key.{key_of}
use Rattle.buffer.specs.Lengths.{numbers_fit, start_fits}
use Rattle.translator.specs.declared.LowSide.TheVariants.{Idle}
use Rattle.translator.specs.declared.Translator.{Translator}
use Rattle.translator.specs.declared.Carried.{Carried}
use Rattle.translator.specs.declared.Carried.TheVariants.{NoneYet, LowestFree, OwnOld, Repeat}
use Rattle.translator.specs.declared.Choice.{Choice}
use Rattle.translator.specs.declared.Choice.TheVariants.{NoRoom, LimitReached, Held, Reused, Took}
use Rattle.translator.specs.declared.Outside.{Outside}
use Rattle.translator.specs.Slots.{bare}
use Rattle.translator.specs.Order.{pass}
use Rattle.translator.specs.Search.{find, chosen}
use Rattle.translator.specs.Translator.{tally}
use Rattle.translator.specs.Limit.{permitted}
use Rattle.translator.specs.StartSplit.{start_split}
use Rattle.translator.specs.OnePass.{past, look, OnePass}
use Rattle.translator.specs.SearchMistakes.{look_by, highest_free, stops_at_free, own_old_unseen, number_lost, first_skipped, uncounted, old_counted, SearchMistakesShutOut}
use Rattle.translator.specs.SearchCases.{own, second, across, b0, b1}
use Rattle.translator.proofs.OnePass.{one_pass_claim_lem}

abbrev key : Key
key = key_of own

-- a translator with these slots, all in use
abbrev with : List Slot → Translator
with ss = record { buffers = bare ss; count = length ss; low = Idle }

-- choices, told apart by numbers
abbrev told : Choice → ℕ
told NoRoom = 10
told LimitReached = 11
told (Held n) = 20
told (Reused n) = 30
told (Took n) = n.0

abbrev answer_told : Result Choice Outside → ℕ
answer_told (Err o) = 12
answer_told (Ok c) = told c

abbrev settled_told : Carried → ℕ
settled_told (NoneYet h) = 10
settled_told (LowestFree n h) = 11
settled_told (OwnOld n h) = 12
settled_told (Repeat n) = n.0

own-look : (c : Carried) (n : BufferNumber) (s : Slot) (k : Key) → look_by past c n s k ≡ look c n s k
unfolding look
own-look c n s k = refl

-- buffer 1 is taken, where buffer 0 is empty
highest_free_lem : ¬ (OnePass (look_by highest_free))
unfolding pass bare
highest_free_lem p = ((p.exactly (with (Empty ∷ Empty ∷ [])) key (Took b1)).0 refl).1.1.none_lower 0 (suc-le-suc zero-le) tt

-- buffer 0 is to be taken, and isn't
first_skipped_lem : ¬ (OnePass first_skipped)
unfolding pass bare look
first_skipped_lem p =
    let t = with (Empty ∷ Empty ∷ []) in
    let e : ◌≡◌ {A = ℕ} 1 0 = ap told ((p.exactly t key (Took b0)).1 ((one_pass_claim_lem.exactly t key (Took b0)).0 refl)) in
    absurd (omega (arith, e))

-- past an old buffer of the lane one is counted
old_counted_lem : ¬ (OnePass old_counted)
unfolding pass bare tally same_key
old_counted_lem p =
    let e : ◌≡◌ {A = ℕ} 1 0 = (p.carries (with (Old second Data0 ∷ [])) key).1.1 in
    absurd (omega (arith, e))

-- a start-split is answered as a repeat, and the pass takes buffer 0
stops_at_free_lem : ¬ (OnePass (look_by stops_at_free))
unfolding pass find chosen bare tally same_key numbers_fit start_fits permitted start_split
stops_at_free_lem p =
    let e : ◌≡◌ {A = ℕ} 20 0 = ap answer_told (p.answered (with (Empty ∷ Pending own 0 ∷ Empty ∷ [])) own [] refl) in
    absurd (omega (arith, e))

-- the slots have an own old one, and the pass takes buffer 0
own_old_unseen_lem : ¬ (OnePass (look_by own_old_unseen))
unfolding pass find chosen bare tally same_key permitted
own_old_unseen_lem p =
    let e : ◌≡◌ {A = ℕ} 30 0 = ap told (p.of_slots (with (Empty ∷ Old own Data0 ∷ [])) key) in
    absurd (omega (arith, e))

-- behind one of the own lane and one of the other the same is carried, and the choice differs
uncounted_out : ¬ (OnePass uncounted)
unfolding pass find chosen bare tally same_key permitted
uncounted_out p =
    let e : ◌≡◌ {A = ℕ} 11 1 = ap told (p.carried_alone 2 key (bare (Pending second 0 ∷ [])) (bare (Pending across 0 ∷ [])) (bare (Empty ∷ [])) refl refl) in
    absurd (omega (arith, e))

-- past a repeat another buffer is carried
number_lost_lem : ¬ (OnePass (look_by number_lost))
number_lost_lem p =
    let e : ◌≡◌ {A = ℕ} 1 0 = ap settled_told (p.settled (Repeat b0) b1 Empty key refl) in
    absurd (omega (arith, e))

pub search_mistakes_lem : SearchMistakesShutOut
search_mistakes_lem =
    record {
      own = own-look;
      highest_free_lem = highest_free_lem;
      stops_at_free_lem = stops_at_free_lem;
      own_old_unseen_lem = own_old_unseen_lem;
      number_lost_lem = number_lost_lem;
      first_skipped_lem = first_skipped_lem;
      uncounted = uncounted_out;
      old_counted_lem = old_counted_lem;
    }
