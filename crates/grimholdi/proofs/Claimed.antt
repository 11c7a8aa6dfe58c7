-- What is claimed of runs of entries, put together. Assumes nothing.
use Rattle.grimholdi.specs.Runs.{entries}
use Rattle.grimholdi.specs.Claims.{EntryClaims}
use Rattle.grimholdi.proofs.Carried.{demand_2, area_follows, carried_3, carried_order, carried_reports, carried_share, carried_tally}
use Rattle.grimholdi.proofs.NewAreas.{new_hubs, area_lengths}
use Rattle.grimholdi.proofs.Refusing.{entry_refusals}
use Rattle.grimholdi.proofs.Isolating.{entry_isolation}

pub entry_claims_lem : EntryClaims
entry_claims_lem =
    record {
      new_hubs = new_hubs;
      area_lengths = area_lengths;
      refusals = entry_refusals;
      demand_2 = demand_2;
      area_follows = area_follows;
      demand_3 = carried_3 entries demand_2;
      launch_order = carried_order entries demand_2;
      error_reports = carried_reports entries demand_2;
      lane_share = carried_share entries demand_2;
      tally_holds = carried_tally;
      isolation = entry_isolation;
    }
