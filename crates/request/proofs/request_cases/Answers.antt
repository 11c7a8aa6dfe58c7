use mathlib.Core.Path.{refl}
use Rattle.request.specs.Table.{kind_of}
use Rattle.request.specs.Request.{checked, request_of}
use Rattle.request.proofs.request_cases.Goals as goal

pub returns : goal.returns
unfolding kind_of checked request_of
returns c = record { right_read = refl; value_told = refl; index_told = refl; length_told = refl; type_told = refl; first_told = refl }
