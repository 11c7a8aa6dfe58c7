use Rattle.grimholdi_block.proofs.Writing.{start_done}
use mathlib.Core.Path.{◌∙◌, ap}
use Rattle.call_bytes.specs.Words.{half}
use Rattle.grimholdi_block.specs.Writing.{placed}
use Rattle.grimholdi_block.proofs.grimholdi_block_start.Goals as goal

pub returns-clause-block_after : goal.returns-clause-block_after
returns-clause-block_after c =
    start_done c.args.block.now c.args.number c.if-block-ne512.false c.if-number-eq0.false c.if-number-gt65535.false _
    (c.put_half.ensures ∙ ap (placed 510 (half c.args.number)) c.put.ensures)
