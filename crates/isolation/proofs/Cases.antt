-- The cases, computed. Assumes nothing.
use mathlib.Core.Path.{refl}
use Rattle.ports.specs.Ports.{port_at, with_port}
use Rattle.ports.specs.Bitmap.{bitmap_of}
use Rattle.ports.specs.Sweep.{front, swept}
use Rattle.request.specs.Table.{kind_of}
use Rattle.request.specs.Request.{checked, request_of}
use Rattle.hub.specs.Hub.{new_fits, new_hub, configured_as}
use Rattle.hub.specs.Requests.{requested}
use Rattle.hub.specs.Rules.{polled}
use Rattle.hub.specs.Checks.{within, has_space, not_silent, fitting}
use Rattle.hub.specs.Step.{served, step}
use Rattle.runs.specs.Machine.{after_from}
use Rattle.isolation.specs.Naming.{naming, struck}
use Rattle.isolation.specs.Cases.{IsolationCases}

pub isolation_cases_lem : IsolationCases
unfolding new_fits new_hub after_from struck naming port_at with_port front swept bitmap_of polled kind_of checked request_of configured_as requested within has_space not_silent fitting served step
isolation_cases_lem =
    record {
      named = refl;
      refused = refl;
      in_both = refl;
      translator = refl;
      no_port_0 = refl;
      no_port_5 = refl;
      high_byte_lem = refl;
      malformed = refl;
      bit_alone = refl;
      none = refl;
      two_bits = refl;
      other_bit = refl;
    }
