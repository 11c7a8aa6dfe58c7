-- The claims of specs/Claims.antt. Assumes nothing.
use Rattle.hub.specs.Claims.{HubClaims}
use Rattle.hub.proofs.NewNumbers.{new_refused}
use Rattle.hub.proofs.Valid.{new_valid, step_valid}
use Rattle.hub.proofs.Refused.{refused_same}
use Rattle.hub.proofs.MadeFrom.{numbers_kept}
use Rattle.hub.proofs.Lanes.{no_such_lane_lem}
use Rattle.hub.proofs.Bytes.{bytes_of_data, bytes_fit}

pub hub_claims_lem : HubClaims
hub_claims_lem =
    record {
      new_refused = new_refused;
      new_valid = new_valid;
      step_valid = step_valid;
      refused_same = refused_same;
      identity_kept = λ h c. (numbers_kept h c).identity;
      buffers_kept = λ h c. (numbers_kept h c).buffers;
      no_such_lane_lem = no_such_lane_lem;
      bytes_of_data = bytes_of_data;
      bytes_fit = bytes_fit;
    }
