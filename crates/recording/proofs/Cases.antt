-- Blocks worked out by hand: each by computation. Assumes nothing.
use mathlib.Core.Path.{refl}
use Rattle.area_check.specs.Rows.{blank}
use Rattle.call_bytes.specs.Words.{words, words_at}
use Rattle.call_bytes.specs.Table.{with_tag, kind_of}
use Rattle.call_bytes.specs.Written.{written_form}
use Rattle.call_bytes.specs.Read.{read_of}
use Rattle.recording.specs.Written.{written_all, sum_to, unchecked, block_of}
use Rattle.recording.specs.Calls.{calls_in}
use Rattle.recording.specs.Block.{verdict_for}
use Rattle.recording.specs.Cases.{BlockCases}

pub block_cases_lem : BlockCases
unfolding block_of unchecked written_all written_form words sum_to verdict_for blank calls_in read_of kind_of with_tag words_at
block_cases_lem =
    record {
      tick_written = refl;
      tick_good = refl;
      tick_calls = refl;
      empty_good = refl;
      cut = refl;
      damaged = refl;
      misplaced = refl;
      too_many = refl;
      place_zero = refl;
      count_507 = refl;
      unused = refl;
      no_record = refl;
      number_first_lem = refl;
      check_first = refl;
    }
