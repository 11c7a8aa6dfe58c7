-- What is shown of the C entries and of runs of them, put together. A reader must believe nothing here beside the parts.
use Rattle.runs.specs.Demand2.{Demand2}
use Rattle.runs.specs.Demand3.{Demand3}
use Rattle.runs.specs.Order.{LaunchOrder}
use Rattle.runs.specs.ErrorReports.{ErrorReports}
use Rattle.runs.specs.Tally.{active_buffers, TallyHolds}
use Rattle.runs.specs.Share.{LaneShare}
use Rattle.area.specs.Written.{area_length}
use Rattle.area.specs.Read.{hub_read}
use Rattle.grimholdi.specs.Entry.{new_entry}
use Rattle.grimholdi.specs.Asked.{gives}
use Rattle.grimholdi.specs.Runs.{entries, AreaFollows}
use Rattle.grimholdi.specs.New.{NewHubs, AreaLengths}
use Rattle.grimholdi.specs.Refusals.{EntryRefusals}
use Rattle.grimholdi.specs.Isolation.{EntryIsolation}

pub record EntryClaims : Type 0 where
  pub new_hubs : NewHubs new_entry
  pub area_lengths : AreaLengths area_length
  pub refusals : EntryRefusals gives
  pub demand_2 : Demand2 entries
  pub area_follows : AreaFollows gives
  pub demand_3 : Demand3 entries
  pub launch_order : LaunchOrder entries
  pub error_reports : ErrorReports entries
  pub lane_share : LaneShare entries
  -- pending or ready now: of the hub that is read from the area
  pub tally_holds : TallyHolds entries (λ a. active_buffers (hub_read a))
  pub isolation : EntryIsolation
