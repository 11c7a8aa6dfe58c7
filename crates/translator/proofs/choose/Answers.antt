use Rattle.std.proofs.Common.{◌∙◌, ap}
use Rattle.translator.specs.OnePass.{choice_of}
use Rattle.translator.proofs.Search.{pass-permitted}
use Rattle.translator.proofs.choose.Goals as goal

pub returns : goal.returns
returns c = c.choice.ensures ∙ ap (choice_of _) c.one_pass.ensures ∙ pass-permitted _ _ _
