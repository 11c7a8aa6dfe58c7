use Rattle.area_check.proofs.Parts.{held_end}
use mathlib.Core.Bool.{Bool, true, false, false≢true}
use mathlib.Core.Path.{◌≡◌, sym, ◌∙◌}
use Rattle.area_check.proofs.buffer_fits.Goals as goal
use Rattle.area_check.proofs.buffer_fits.Goals.{then-names_fit, else-names_fit, then-split_fits, else-split_fits}

both : {x y : Bool} → x ≡ true → x ≡ y → y ≡ true
both p q = sym q ∙ p

none : {A : Type 0} {x y : Bool} → x ≡ true → x ≡ y → y ≡ false → A
none p q r = absurd (false≢true (sym r ∙ sym q ∙ p))

pub returns-then-held_fits : goal.returns-then-held_fits
returns-then-held_fits c =
    elim c.if-split_fits.branch [
      | then-split_fits w ↦ elim c.if-names_fit.branch [
        | then-names_fit v ↦ c.blank_from-then-held_fits.ensures ∙ (rw (sym c.names_fit.ensures ∙ v.if-names_fit.true, sym v.split_fits.ensures ∙ both w.if-split_fits.true v.value-is, sym w.held_fits.ensures ∙ both c.if-held_fits.true w.value-is) at (held_end c.args.b.now c.if-b-eq0.false))
        | else-names_fit v ↦ none w.if-split_fits.true v.value-is v.if-names_fit.false
      ]
      | else-split_fits w ↦ none c.if-held_fits.true w.value-is w.if-split_fits.false
    ]

pub returns-else-held_fits : goal.returns-else-held_fits
returns-else-held_fits c =
    c.if-held_fits.false ∙ elim c.if-split_fits.branch [
      | then-split_fits w ↦ elim c.if-names_fit.branch [
        | then-names_fit v ↦ rw (sym c.names_fit.ensures ∙ v.if-names_fit.true, sym v.split_fits.ensures ∙ both w.if-split_fits.true v.value-is, sym w.held_fits.ensures ∙ sym w.value-is ∙ c.if-held_fits.false) at (held_end c.args.b.now c.if-b-eq0.false)
        | else-names_fit v ↦ none w.if-split_fits.true v.value-is v.if-names_fit.false
      ]
      | else-split_fits w ↦ elim c.if-names_fit.branch [
        | then-names_fit v ↦ rw (sym c.names_fit.ensures ∙ v.if-names_fit.true, sym v.split_fits.ensures ∙ sym v.value-is ∙ w.if-split_fits.false) at (held_end c.args.b.now c.if-b-eq0.false)
        | else-names_fit v ↦ rw (sym c.names_fit.ensures ∙ v.if-names_fit.false) at (held_end c.args.b.now c.if-b-eq0.false)
      ]
    ]
