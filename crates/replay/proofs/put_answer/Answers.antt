use Rattle.replay.proofs.Playing.{head_with, answer_put, answer_size, content_short}
use Rattle.hub.specs.Method.{outcome_of}
use Prim.Native.Nat.{ℕ, ◌≤◌}
use mathlib.Core.Path.{◌≡◌, ap, subst}
use lib.ListN.{length, drop}
use mathlib.Core.List.{List, ◌++◌}
use borrow.Author.Rules.{rules}
use Rattle.replay.proofs.put_answer.Goals as goal

pub returns : goal.returns
returns c =
    let a = (outcome_of c.args.said).answer in
    let k : length c.args.said.payload.bytes ≡ 64 = search rules in
    let e = c.size-size.ensures in
    let small : c.size-size.result ≤ 64 = rw e (content_short c.args.said.payload k) in
    let short = subst (λ (n : ℕ). n ≤ 64) e small in
    let copied = ap (λ (l : List ℕ). l ++ drop 10 c.args.out.now) c.copy_from_slice.ensures.after in
    record {
      value = answer_size a _ e small;
      out_after = answer_put a _ c.args.out.now _ _ (ap (head_with a) e) c.requires short copied c.give.ensures;
    }
