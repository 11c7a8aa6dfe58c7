-- Records worked out by hand: each by computation. Assumes nothing.
use mathlib.Core.Path.{refl}
use Rattle.call_bytes.specs.Words.{words, words_at}
use Rattle.call_bytes.specs.Table.{kind_of, with_tag}
use Rattle.call_bytes.specs.Written.{written_form}
use Rattle.call_bytes.specs.Read.{read_of}
use Rattle.call_bytes.specs.Cases.{RecordCases}

pub record_cases_lem : RecordCases
unfolding written_form words read_of kind_of with_tag words_at
record_cases_lem =
    record {
      start_written = refl;
      start_read = refl;
      control_written = refl;
      poll_written = refl;
      complete_written = refl;
      deliver_written = refl;
      setup_written = refl;
      launch_written = refl;
      event_written = refl;
      tick_written = refl;
      reset_written = refl;
      no_bytes = refl;
      tag_zero = refl;
      tag_ten = refl;
      poll_cut = refl;
      deliver_cut = refl;
    }
