use Rattle.area.proofs.Area.{write_not, write_end}
use Rattle.translator.proofs.Lists.{unmapped}
use lib.ListN.{length}
use mathlib.Core.Path.{◌≡◌, ap, ◌∙◌}
use borrow.Author.Rules.{rules}
use Rattle.area.proofs.write_area.Goals as goal

pub returns-then-area-end : goal.returns-then-area-end
returns-then-area-end c = write_not c.args.hub c.args.area.now _ _ c.min-n.ensures c.min-m.ensures c.if-area-end.true

pub returns : goal.returns
returns c = let h = c.args.hub in
    let lp : length h.ports ≡ 7 = search unmapped in
    let lb : length h.translator.buffers ≡ 4 = search unmapped in
    let f = c.copy_from_slice.ensures.after in
    let n : length c.head_bytes.result ≡ 8 = search rules in
    let p = c.put_ports in
    write_end h c.args.area.now _ _ c.min-n.ensures c.min-m.ensures lp lb c.if-area-end.false _ _ _ (ap length f ∙ n)
    (p.auto.out ∙ search rules) (f ∙ c.head_bytes.ensures) p.ensures c.put_buffers.ensures
