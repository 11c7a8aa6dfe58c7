use Rattle.std.proofs.Common.{◌∙◌}
use Rattle.translator.proofs.Bare.{permitted-bare}
use Rattle.translator.proofs.Translator.choose.Goals as goal

pub returns : goal.returns
returns c =
    let t = c.args.self in
    c.choose.ensures ∙ rw (c.buffer_count.ensures, c.slots.ensures) (permitted-bare t.count _ t.count t.buffers)
