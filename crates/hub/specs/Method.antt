-- Internal, pinned by the contracts of the C entries (crate `grimholdi`), which don't speak of it: what a method of the hub gives back, as an
-- outcome.
use Rattle.payload.specs.Payload.{content}
use Rattle.hub.specs.declared.Stepped.{Stepped}
use Rattle.hub.specs.Call.{Outcome}

abbrev pub outcome_of : Stepped → Outcome
outcome_of r =
    record {
      next = r.hub;
      answer =
          record {
            number = r.reply.number;
            pid = r.reply.pid;
            transfer = r.reply.transfer;
            lane = r.reply.lane;
            address = r.reply.address;
            endpoint = r.reply.endpoint;
            direction = r.reply.direction;
            lowspeed = r.reply.lowspeed;
            toggle = r.reply.toggle;
            bytes = content r.payload;
          };
    }
