-- What holds of every setup packet: the two readings of document 01's table, Table.antt and Fields.antt, agree. A reader must believe
-- `AsksFor` (Fields.antt) and these statements.
use Rattle.std.specs.Prelude.{ℕ, ◌<◌, ◌≡◌, List, ◌↔◌, Ok}
use Rattle.request.specs.declared.Setup.{Setup}
use Rattle.request.specs.declared.Request.{Request}
use Rattle.request.specs.Setup.{setup_of, setup_bytes}
use Rattle.request.specs.Request.{request_of}
use Rattle.request.specs.Fields.{AsksFor}
use Rattle.request.specs.Ranges.{InRange}

pub record RequestClaims : Type 0 where
  -- bytes read as a request exactly if they have its fields (a wValue of two bytes is below 65536)
  pub exact : (n : ℕ) (b : List ℕ) (r : Request) → (setup_of b).value < 65536 → (request_of n b ≡ Ok r) ↔ AsksFor n (setup_of b) r
  -- all fields can be written
  pub bytes_back : (s : Setup) → setup_of (setup_bytes s) ≡ s
  -- what was read needs no further check of port number, address and endpoint
  pub in_range : (n : ℕ) (b : List ℕ) (r : Request) → request_of n b ≡ Ok r → InRange n r
