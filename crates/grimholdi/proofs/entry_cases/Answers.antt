use Rattle.grimholdi.proofs.Cases as proved
use Rattle.grimholdi.proofs.entry_cases.Goals as goal

pub returns : goal.returns
returns c = proved.entry_cases_lem
