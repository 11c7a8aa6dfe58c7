-- The library's version. A reader must believe: it is the number of version 0.5.0, as the header computes it: MAJOR * 10000 + MINOR * 100 + PATCH.
use Rattle.std.specs.Prelude.{ℕ}

abbrev pub version : ℕ
version = 500
