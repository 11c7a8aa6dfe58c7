use Rattle.area.proofs.Area.{decode_end, port_row, buffer_row}
use Rattle.area_check.proofs.Sized.{port_rows, buffer_rows}
use Rattle.area_check.specs.Read.{port_of, buffer_of, no_ports, no_buffers}
use mathlib.Core.List.{List, ◌++◌, map}
use mathlib.Core.Path.{refl, ap, ◌∙◌}
use lib.ListN.{length, drop}
use Prim.Native.Nat.{ℕ}
use Rattle.area.proofs.decode.Goals as goal

pub returns : goal.returns
returns c = let a = c.args.area.now in
    let p = c.as_chunks.ensures.front ∙ port_rows a c.requires.3 _ refl in
    let b = c.as_chunks-2.ensures.front ∙ buffer_rows a c.requires.3 _ refl in
    decode_end a _ _ _ c.low_of.ensures
    (c.get_ports.ensures ∙ ap (λ (r : List (List ℕ)). map port_of r ++ drop (length r) no_ports) p ∙ port_row _ _)
    (c.get_buffers.ensures ∙ ap (λ (r : List (List ℕ)). map buffer_of r ++ drop (length r) no_buffers) b ∙ buffer_row _ _)
