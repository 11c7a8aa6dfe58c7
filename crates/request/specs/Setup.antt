-- The fields of a setup packet. A reader must believe: these are the eight bytes in document 01's order,
-- type, request, wValue, wIndex, wLength, and fields are little-endian.
use Rattle.std.specs.Prelude.{ℕ, ◌+◌, ◌*◌, ◌/◌, ◌%◌, List, [], ◌∷◌, get_or}
use Rattle.request.specs.declared.Setup.{Setup}

-- Fields little-endian: the low byte first
abbrev pub word_of : ℕ → ℕ → ℕ
word_of low high = low + 256 * high

-- type, request, wValue, wIndex, wLength
abbrev pub setup_of : List ℕ → Setup
setup_of b =
    record {
      requesttype = get_or b 0 0;
      code = get_or b 1 0;
      value = word_of (get_or b 2 0) (get_or b 3 0);
      index = word_of (get_or b 4 0) (get_or b 5 0);
      length = word_of (get_or b 6 0) (get_or b 7 0);
    }

-- the eight bytes of these fields
abbrev pub setup_bytes : Setup → List ℕ
setup_bytes s =
    s.requesttype ∷ s.code
    ∷ s.value % 256 ∷ s.value / 256
    ∷ s.index % 256 ∷ s.index / 256
    ∷ s.length % 256 ∷ s.length / 256 ∷ []
