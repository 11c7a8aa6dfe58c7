use Rattle.std.proofs.Common.{rules, tests}
use Rattle.std.proofs.lemmas.Iterator.{YieldsList-from_slice}
use Rattle.std.proofs.lemmas.Iterator.Search.{any_from_yields_List}
use Rattle.area_check.proofs.Ties.{pair_clashes, all_pairs}
use mathlib.Core.Path.{◌∙◌}
use Rattle.area_check.proofs.clashing.Goals as goal

pub returns : goal.returns
returns c =
    any_from_yields_List (pair_clashes c.args.rows.now) _ _ c.any.result c.any.ensures.ran (YieldsList-from_slice _ c.iter.ensures.rest) (λ x b q k. search (rules, tests))
    ∙ all_pairs c.args.rows.now c.requires
