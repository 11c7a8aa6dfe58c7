use Rattle.area.proofs.Parts.{put_both}
use lib.ListN.{length}
use mathlib.Core.Path.{◌≡◌, ap, ◌∙◌}
use borrow.Author.Rules.{rules}
use Rattle.area.proofs.put_buffer.Goals as goal

pub returns : goal.returns
returns c = let f = c.copy_from_slice.ensures.after in
    let n : length c.slot_bytes.result ≡ 8 = search rules in
    put_both c.args.b.now c.args.out.now _ _ c.requires (ap length f ∙ n) (f ∙ c.slot_bytes.ensures) c.copy_from_slice-2.ensures.after
