-- One call on the hub. A reader must believe: where no check refuses it (Checks.antt), what its rule says is answered and left.
use Rattle.std.specs.Prelude.{cond, eqb}
use Rattle.translator.specs.StartSplit.{start_split}
use Rattle.translator.specs.CompleteSplit.{complete_split}
use Rattle.translator.specs.Launch.{launch}
use Rattle.translator.specs.Deliver.{deliver}
use Rattle.request.specs.Request.{request_of}
use Rattle.numbers.specs.Named.{result_from, event_from, lane_from}
use Rattle.numbers.specs.Split.{split_from, key_from}
use Rattle.hub.specs.declared.Hub.{Hub}
use Rattle.hub.specs.Hub.{ticked_hub, reset_hub}
use Rattle.hub.specs.Call.{Call, Control, Poll, Start, Complete, Launch, Deliver, Event, Tick, BusReset, Outcome, done, refuse}
use Rattle.hub.specs.Requests.{requested}
use Rattle.hub.specs.Rules.{polled, started_as, completed_as, launched_as, delivered_as, event_at}
use Rattle.hub.specs.Checks.{within, has_space, not_silent, fitting, first_refusal}

-- then the call's own rule
unfoldable pub served : Hub → Call → Outcome
served h (Control z s room) = requested h (lane_from z) (request_of h.identity.ports s)
served h (Poll z room) = polled h
served h (Start z p t f g a e l) = started_as h (start_split h.translator (split_from z p t f g a e) l)
served h (Complete z a e d room) = completed_as h (complete_split h.translator (key_from z a e d))
served h (Launch room) = launched_as h (launch h.translator)
served h (Deliver r l) = delivered_as h (deliver h.translator (result_from r) l)
served h (Event e n) = event_at h (event_from e) (record { 0 = n })
served h Tick = done (ticked_hub h)
served h BusReset = done (reset_hub h)

-- one call: the first refusal that applies, or what the call's rule says
unfoldable pub step : Hub → Call → Outcome
step h c =
    let n = first_refusal (within h c) (has_space c) (not_silent h c) (fitting h c) in
    cond (eqb n 0) (served h c) (refuse n h)
