-- The written form of a call. A reader must believe: tag, numbers of four bytes, then, of a call that has setup or payload bytes, their count in
-- two bytes, 0 too, and those bytes. docs/CALLS.md says the same byte by byte.
use Rattle.std.specs.Prelude.{ℕ, ◌<◌, ◌^◌, List, [], ◌∷◌, ◌++◌, Bool, true, false, length, get_or}
use Rattle.hub.specs.Call.{Call}
use Rattle.call_bytes.specs.Words.{half, words}
use Rattle.call_bytes.specs.Table.{tag_of, carries, Form, form_of}

-- count and bytes, where the table gives the call bytes
abbrev pub tail_of : Bool → List ℕ → List ℕ
tail_of true l = half (length l) ++ l
tail_of false l = []

unfoldable pub written_form : Form → List ℕ
written_form f = tag_of f.kind ∷ (words f.numbers ++ tail_of (carries f.kind) f.bytes)

abbrev pub written : Call → List ℕ
written c = written_form (form_of c)

-- each is a byte
abbrev pub Bytes : List ℕ → Type 0
Bytes l = (i : ℕ) → get_or l i 0 < 256

-- the calls that have a written form: numbers of 32 bits, byte strings of bytes, their length of 16 bits
pub record Fits (c : Call) : Type 0 where
  pub numbers : (i : ℕ) → get_or (form_of c).numbers i 0 < 2 ^ 32
  pub bytes : Bytes (form_of c).bytes
  pub size : length (form_of c).bytes < 2 ^ 16
