use native.Mathlib.Omega.{arith}
use mathlib.Core.Path.{◌≡◌, sym, ◌∙◌}
use Prim.Native.Nat.{◌<◌}
use lib.ListN.{length}
use Rattle.call_bytes.proofs.Exact.{read_size}
use Rattle.recording.proofs.Rows.{none_there, turn_less, turn_some, none_left}
use Rattle.recording.proofs.are_records.Goals as goal

pub returns-in_default : goal.returns-in_default
returns-in_default c =
    let some : 0 < length c.loop-rest.rest.now = grind arith in
    sym (none_there c.loop-rest.rest.now some (sym c.read_record.ensures ∙ c.in_default.is)) ∙ c.loop-rest.invariant

pub slice_bounds-rest-count : goal.slice_bounds-rest-count
slice_bounds-rest-count c = (read_size c.loop-rest.rest.now c.in-Some.record (sym c.read_record.ensures ∙ c.in-Some.is)).1

pub slice_bounds-rest-start : goal.slice_bounds-rest-start
slice_bounds-rest-start c = (read_size c.loop-rest.rest.now c.in-Some.record (sym c.read_record.ensures ∙ c.in-Some.is)).1

pub loop-rest-smaller : goal.loop-rest-smaller
loop-rest-smaller c = turn_less c.loop-rest.rest.now c.in-Some.record (sym c.read_record.ensures ∙ c.in-Some.is)

pub loop-rest-preserved : goal.loop-rest-preserved
loop-rest-preserved c =
    turn_some c.loop-rest.rest.now c.in-Some.record (sym c.read_record.ensures ∙ c.in-Some.is) ∙ c.loop-rest.invariant

pub returns : goal.returns
returns c =
    let empty : length c.loop-rest.rest.now ≡ 0 = grind arith in
    sym (none_left c.loop-rest.rest.now empty) ∙ c.loop-rest.invariant
