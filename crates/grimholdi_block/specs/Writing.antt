-- Internal, pinned by `WriterExact` (Writer.antt), which says what they come to: what each writing entry answers and leaves, for any memory.
use Rattle.std.specs.Prelude.{ℕ, ◌+◌, Bool, false, cond, not, ◌&&◌, List, ◌++◌, eqb, leb, length, take, drop, replicate, Option, Some, None}
use Rattle.call_bytes.specs.Words.{half, half_at}
use Rattle.call_bytes.specs.declared.Recorded.{Recorded}
use Rattle.call_bytes.specs.Read.{read_of}
use Rattle.recording.specs.Written.{count_of, check_of}
use Rattle.recording.specs.Block.{length_fits, is_filled}

-- what an entry answers, and the block that it leaves
pub record Wrote : Type 0 where
  pub answer : ℕ
  pub block : List ℕ

abbrev pub wrote : ℕ → List ℕ → Wrote
wrote n l = record { answer = n; block = l }

-- the bytes p from byte n on
abbrev pub placed : ℕ → List ℕ → List ℕ → List ℕ
placed n p l = take n l ++ (p ++ drop (n + length p) l)

-- zeros, and the number in the last two bytes
abbrev pub begun : ℕ → List ℕ → List ℕ
begun p l = placed 510 (half p) (placed 0 (replicate 510 0) l)

unfoldable pub start_entry : List ℕ → ℕ → Wrote
start_entry l p =
    cond (length_fits l && (not (eqb p 0) && leb p 65535)) (wrote 0 (begun p l)) (wrote 6 l)

-- bytes 0 and 1 are zero, and a number waits in the last two
abbrev pub is_waiting : List ℕ → Bool
is_waiting l = eqb (half_at l 0) 0 && not (eqb (half_at l 510) 0)

abbrev pub is_under_way : List ℕ → Bool
is_under_way l = length_fits l && (is_waiting l && leb (count_of l) 506)

-- a record of n bytes
abbrev pub takes_up : ℕ → Option Recorded → Bool
takes_up n None = false
takes_up n (Some x) = eqb x.length n

-- one record, and nothing behind it
abbrev pub is_whole : List ℕ → Bool
is_whole r = takes_up (length r) (read_of r)

-- the record behind the bytes used, and the count
abbrev pub longer : List ℕ → List ℕ → List ℕ
longer l r = placed (4 + count_of l) r (placed 2 (half (count_of l + length r)) l)

unfoldable pub add_entry : List ℕ → List ℕ → Wrote
add_entry l r =
    cond (is_under_way l && is_whole r)
    (cond (leb (count_of l + length r) 506) (wrote 0 (longer l r)) (wrote 3 l))
    (wrote 6 l)

-- the number, then the check
abbrev pub numbered : List ℕ → List ℕ
numbered l = placed 0 (half (half_at l 510)) l

abbrev pub sealed : List ℕ → List ℕ
sealed l = placed 510 (half (check_of (numbered l))) (numbered l)

unfoldable pub finish_entry : List ℕ → Wrote
finish_entry l = cond (is_waiting l && is_filled l) (wrote 0 (sealed l)) (wrote 6 l)
