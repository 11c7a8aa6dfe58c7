use Rattle.grimholdi.proofs.Refuted as proved
use Rattle.grimholdi.proofs.entry_mistakes_shut_out.Goals as goal

pub returns : goal.returns
returns c = proved.entry_mistakes_shut_out_lem
