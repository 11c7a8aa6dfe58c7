use Rattle.std.proofs.Common.{refl}
use Rattle.hub.specs.Call.{Start}
use Rattle.hub.specs.Checks.{within, has_space, not_silent, fitting}
use Rattle.hub.specs.Step.{served}
use Rattle.hub.proofs.Order.{refused_by, served_by_lem}
use Rattle.hub.proofs.Hub.start_split.Goals as goal

pub returns-in-Err : goal.returns-in-Err
unfolding within has_space not_silent fitting
returns-in-Err c =
    refused_by _ (Start _ _ _ _ _ _ _ _) _ c.refuse.ensures c.in-Err.ensures (rw (c.fits.ensures, c.split_named-named.ensures, c.split_of-split.ensures)) refl refl refl

pub returns : goal.returns
unfolding within has_space not_silent fitting served
returns c =
    served_by_lem _ (Start _ _ _ _ _ _ _ _) c.in_default.ensures (rw (c.fits.ensures, c.split_named-named.ensures, c.split_of-split.ensures)) refl refl refl
    (rw (c.answer.ensures, c.start_answer.ensures, c.with_translator.ensures, c.start_split-o.ensures, c.split_of-split.ensures))
