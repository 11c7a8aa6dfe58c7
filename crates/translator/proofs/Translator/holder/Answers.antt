use Rattle.std.proofs.Common.{◌∙◌}
use Rattle.translator.proofs.Bare.{find-bare}
use Rattle.translator.proofs.Translator.holder.Goals as goal

pub returns : goal.returns
returns c =
    let t = c.args.self in
    c.holder.ensures ∙ rw (c.buffer_count.ensures, c.slots.ensures) (find-bare _ t.count t.buffers)
