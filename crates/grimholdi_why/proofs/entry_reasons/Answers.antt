use Rattle.grimholdi_why.proofs.Explained as proved
use Rattle.grimholdi_why.proofs.entry_reasons.Goals as goal

pub returns : goal.returns
returns c = proved.entry_reasons_lem
