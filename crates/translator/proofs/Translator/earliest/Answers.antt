use Rattle.std.proofs.Common.{◌∙◌}
use Rattle.translator.proofs.Bare.{earliest-bare}
use Rattle.translator.proofs.Translator.earliest.Goals as goal

pub returns : goal.returns
returns c =
    let t = c.args.self in
    c.earliest_of.ensures ∙ rw (c.buffer_count.ensures, c.slots.ensures) (earliest-bare t.count t.buffers)
