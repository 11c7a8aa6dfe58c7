use Rattle.grimholdi_block.proofs.Exact.{writer_exact_lem}
use Rattle.grimholdi_block.proofs.writer_exact.Goals as goal

pub returns : goal.returns
returns c = writer_exact_lem
