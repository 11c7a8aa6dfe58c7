use Rattle.std.proofs.Common.{sym, ◌∙◌, ap}
use Rattle.grimholdi.specs.Outcome.{EntryOutcome}
use Rattle.grimholdi.proofs.Entries.{bad_numbers, bad_length, made, made_area}
use Rattle.grimholdi.proofs.grimholdi_new.Goals as goal

pub returns-in_default : goal.returns-in_default
returns-in_default c =
    let w = bad_numbers _ _ _ _ _ _ c.in_default.ensures in
    record {
      value = c.refused.ensures ∙ ap (λ (g : EntryOutcome). g.answer) (sym w);
      area = ap (λ (g : EntryOutcome). g.area) (sym w);
    }

pub returns-then-area-area_length : goal.returns-then-area-area_length
returns-then-area-area_length c =
    let w = bad_length _ _ _ _ _ _ c.in-Ok.ensures (λ l. c.if-area-area_length.true (l ∙ sym c.area_length.ensures)) in
    record {
      value = c.refused-then-area-area_length.ensures ∙ ap (λ (g : EntryOutcome). g.answer) (sym w);
      area = ap (λ (g : EntryOutcome). g.area) (sym w);
    }

pub returns : goal.returns
returns c =
    let l = c.if-area-area_length.false ∙ c.area_length.ensures in
    let w = made _ _ _ _ _ _ c.in-Ok.ensures l in
    record {
      value = c.plain_answer.ensures ∙ ap (λ (g : EntryOutcome). g.answer) (sym w);
      area = c.write_area.ensures ∙ made_area _ _ _ _ _ _ c.in-Ok.ensures l ∙ ap (λ (g : EntryOutcome). g.area) (sym w);
    }
