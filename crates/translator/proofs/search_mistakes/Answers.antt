use Rattle.translator.proofs.SearchRefuted.{search_mistakes_lem}
use Rattle.translator.proofs.search_mistakes.Goals as goal

pub returns : goal.returns
returns c = search_mistakes_lem
