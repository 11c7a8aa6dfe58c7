-- The search in one pass. Assumes nothing.
use Prim.Native.Nat.{ℕ}
use mathlib.Core.Path.{◌≡◌, refl, sym, ◌∙◌, ap, subst}
use mathlib.Core.Bool.{true, false≢true}
use mathlib.Core.List.{List, ◌++◌}
use lib.ListN.{length, take}
use Rattle.std.specs.Prelude.{Ok}
use Rattle.buffer.specs.declared.Key.{Key}
use Rattle.buffer.specs.declared.Slot.{Slot}
use Rattle.buffer.specs.declared.Buffer.{Buffer}
use Rattle.buffer.specs.declared.BufferNumber.{BufferNumber}
use Rattle.buffer.specs.Key.{key_of}
use Rattle.translator.specs.declared.Translator.{Translator}
use Rattle.translator.specs.declared.Carried.{Carried}
use Rattle.translator.specs.declared.Carried.TheVariants.{NoneYet, LowestFree, OwnOld, Repeat}
use Rattle.translator.specs.Limit.{permitted}
use Rattle.translator.specs.TwoSteps.{TwoSteps}
use Rattle.translator.specs.OnePass.{look, is_settled, carried_by, choice_of, choice_by, OnePass}
use Rattle.translator.proofs.Passes.{pass-append}
use Rattle.translator.proofs.Search.{looking, pass-permitted}
use Rattle.translator.proofs.Bare.{permitted-bare}
use Rattle.translator.proofs.StartSplit.{chosen_answer}
use Rattle.translator.proofs.TwoSteps.{carried_so, choice_so, one_choice, only_holder}

carried_alone : (b : ℕ) (k : Key) (xs ys rest : List Buffer) → length xs ≡ length ys → carried_by look k xs ≡ carried_by look k ys
    → permitted b k (xs ++ rest) ≡ permitted b k (ys ++ rest)
carried_alone b k xs ys rest l e =
    let same : carried_by look k (xs ++ rest) ≡ carried_by look k (ys ++ rest) =
    rw (pass-append (looking k) 0 (NoneYet 0) xs rest, pass-append (looking k) 0 (NoneYet 0) ys rest, l, e) in
    sym (pass-permitted b k (xs ++ rest)) ∙ ap (choice_of b) same ∙ pass-permitted b k (ys ++ rest)

-- what is read off is document 01's choice, ..
read_so : (t : Translator) (k : Key) → TwoSteps t k (choice_by look t k)
read_so t k = choice_so t k (carried_by look k (take t.count t.buffers)) (carried_so t k)

-- .. and so is the rule's
pub permitted_so : (t : Translator) (k : Key) → TwoSteps t k (permitted t.count k (take t.count t.buffers))
permitted_so t k = subst (TwoSteps t k) (pass-permitted t.count k (take t.count t.buffers)) (read_so t k)

settled : (c : Carried) (n : BufferNumber) (s : Slot) (k : Key) → is_settled c ≡ true → look c n s k ≡ c
unfolding look
settled (NoneYet h) n s k e = absurd (false≢true e)
settled (LowestFree m h) n s k e = absurd (false≢true e)
settled (OwnOld m h) n s k e = absurd (false≢true e)
settled (Repeat m) n s k e = refl

pub one_pass_claim_lem : OnePass look
one_pass_claim_lem =
    record {
      carries = carried_so;
      exactly = λ t k c. (λ g. subst (TwoSteps t k) g (read_so t k), λ w. one_choice t k (choice_by look t k) c (read_so t k) w);
      one_holder = λ t k n valid. only_holder t k (valid.keys k) n;
      answered = λ t s l e. chosen_answer t s l e ∙ ap Ok (sym (pass-permitted t.count (key_of s) (take t.count t.buffers)));
      of_slots = λ t k. permitted-bare t.count k t.count t.buffers ∙ sym (pass-permitted t.count k (take t.count t.buffers));
      carried_alone = carried_alone;
      settled = settled;
    }
