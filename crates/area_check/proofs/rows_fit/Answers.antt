use Rattle.area_check.proofs.Sized.{port_tests, buffer_tests, rows_is, port_rows, buffer_rows}
use Rattle.area_check.specs.Read.{buffer_part}
use Rattle.std.specs.Simd.{first_chunks}
use mathlib.Core.Bool.{Bool, ◌&&◌}
use mathlib.Core.Path.{refl, sym, ap, ◌∙◌}
use lib.ListN.{get_or}
use Rattle.area_check.proofs.rows_fit.Goals as goal

pub returns-then-ports_fit : goal.returns-then-ports_fit
returns-then-ports_fit c =
    let a = c.args.area.now in
    let p = c.as_chunks.ensures.front ∙ port_rows a c.requires.4 _ refl in
    let b = c.as_chunks-2.ensures.front ∙ buffer_rows a c.requires.4 _ refl in
    let t = sym (c.ports_fit.ensures ∙ ap (port_tests a) p) ∙ c.if-ports_fit.true in
    c.buffers_agree.ensures ∙ ap (buffer_tests a) b
    ∙ sym (ap (λ (x : Bool). x && buffer_tests a (first_chunks 72 (get_or a 1 0) (buffer_part a))) t) ∙ rows_is a

pub returns-else-ports_fit : goal.returns-else-ports_fit
returns-else-ports_fit c =
    let a = c.args.area.now in
    let p = c.as_chunks.ensures.front ∙ port_rows a c.requires.4 _ refl in
    let f = sym (c.ports_fit.ensures ∙ ap (port_tests a) p) ∙ c.if-ports_fit.false in
    c.if-ports_fit.false
    ∙ sym (ap (λ (x : Bool). x && buffer_tests a (first_chunks 72 (get_or a 1 0) (buffer_part a))) f) ∙ rows_is a
