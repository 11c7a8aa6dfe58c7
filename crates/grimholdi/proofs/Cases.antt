-- The worked cases, by computation. Assumes nothing.
use Rattle.payload.specs.Payload as payload
use Rattle.buffer.specs.Same.{same_key}
use Rattle.translator.specs.Search.{find}
use Rattle.translator.specs.CompleteSplit.{complete_split}
use Rattle.numbers.specs.Split.{key_named, key_from}
use Rattle.hub.specs.Call.{Complete}
use Rattle.hub.specs.Checks.{within, has_space, not_silent, fitting}
use Rattle.hub.specs.Step.{served, step}
use Rattle.hub.proofs.Claimed.{hub_claims_lem}
use Rattle.area.proofs.Cases.{valid_cases_lem}
use Rattle.grimholdi.specs.Cases.{ready_in_ack, old_in_ack, old_out_data, complete_in, complete_out, EntryCases}
use Rattle.grimholdi.proofs.Carried.{gives_taken}

pub entry_cases_lem : EntryCases
unfolding payload.padded payload.payload_of payload.written same_key find complete_split key_named key_from within has_space not_silent fitting served step
entry_cases_lem =
    record {
      in_ack = gives_taken ready_in_ack valid_cases_lem.others.in_ack complete_in;
      in_ack_again = gives_taken old_in_ack (hub_claims_lem.step_valid ready_in_ack valid_cases_lem.others.in_ack (Complete 0 5 1 1 64)) complete_in;
      out_data = gives_taken old_out_data valid_cases_lem.others.out_data complete_out;
    }
