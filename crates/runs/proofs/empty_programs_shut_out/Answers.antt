use Rattle.runs.proofs.EmptyRefuted as proved
use Rattle.runs.proofs.empty_programs_shut_out.Goals as goal

pub returns : goal.returns
returns c = proved.empty_programs_shut_out_lem
