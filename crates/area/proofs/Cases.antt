-- The valid hubs and those that aren't, by computation. Assumes nothing.
use mathlib.Core.Path.{◌≡◌, refl}
use Rattle.std.specs.Prelude.{Some, None}
use Rattle.payload.specs.Payload.{padded, payload_of}
use Rattle.buffer.specs.Same.{same_key}
use Rattle.buffer.specs.Lengths.{numbers_fit, start_fits, result_length}
use Rattle.hub.specs.declared.Hub.{Hub}
use Rattle.hub.specs.Hub.{new_fits}
use Rattle.hub.specs.Valid.{ValidHub}
use Rattle.payload.specs.Bytes.{flat}
use Rattle.area_check.specs.Rows.{parts, every, blank}
use Rattle.area_check.specs.Read.{marked_port, port_of, held_split, slot_of, buffer_of, no_ports, no_buffers, ports_of, buffers_of, decoded, port_fits, names_fit, buffer_fits, clashing, filled_by, runs, head_fits, sized, rows_fit, accepts}
use Rattle.area.specs.Written.{port_bytes, buffer_bytes, head_bytes, written}
use Rattle.area.specs.Read.{read_of}
use Rattle.area.specs.Cases.{NumbersAsked, PayloadsAsked, TimersAsked, BuffersAsked, ConfigurationAsked, OthersTaken, NewNumbers, ValidCases}
use Rattle.area.proofs.Exact.{area_exact_lem}

valid : (h : Hub) → read_of (written h) ≡ Some h → ValidHub h
valid h e = ((area_exact_lem.taken (written h) h).0 e).0

invalid : (h : Hub) → read_of (written h) ≡ None → ¬ (ValidHub h)
invalid h e v = let t = area_exact_lem.again h v in cc

numbers : NumbersAsked
unfolding padded payload_of same_key numbers_fit start_fits result_length new_fits flat parts every blank marked_port port_of held_split slot_of buffer_of no_ports no_buffers ports_of buffers_of decoded port_fits names_fit buffer_fits clashing filled_by runs head_fits sized rows_fit accepts port_bytes buffer_bytes head_bytes written read_of
numbers =
    record {
      kept = valid _ refl;
      no_port = invalid _ refl;
      eight_ports = invalid _ refl;
      one_buffer = invalid _ refl;
      five_buffers = invalid _ refl;
      power_good = invalid _ refl;
      current = invalid _ refl;
      removable_bit_0 = invalid _ refl;
      removable_above = invalid _ refl;
      largest = valid _ refl;
      address_128 = invalid _ refl;
      endpoint_16 = invalid _ refl;
    }

payloads : PayloadsAsked
unfolding padded payload_of same_key numbers_fit start_fits result_length new_fits flat parts every blank marked_port port_of held_split slot_of buffer_of no_ports no_buffers ports_of buffers_of decoded port_fits names_fit buffer_fits clashing filled_by runs head_fits sized rows_fit accepts port_bytes buffer_bytes head_bytes written read_of
payloads =
    record {
      setup = valid _ refl;
      setup_bulk = invalid _ refl;
      setup_7_bytes = invalid _ refl;
      in_with_payload = invalid _ refl;
      sixty_four = valid _ refl;
      sixty_five = invalid _ refl;
      data_payload = valid _ refl;
      nak_payload = invalid _ refl;
      old_nak_payload = invalid _ refl;
      zeros_behind = valid _ refl;
      byte_behind = invalid _ refl;
      empty_payload = invalid _ refl;
    }

timers : TimersAsked
unfolding padded payload_of same_key numbers_fit start_fits result_length new_fits flat parts every blank marked_port port_of held_split slot_of buffer_of no_ports no_buffers ports_of buffers_of decoded port_fits names_fit buffer_fits clashing filled_by runs head_fits sized rows_fit accepts port_bytes buffer_bytes head_bytes written read_of
timers =
    record {
      resetting_14 = valid _ refl;
      resetting_15 = invalid _ refl;
      resuming_21 = valid _ refl;
      resuming_22 = invalid _ refl;
    }

buffers : BuffersAsked
unfolding padded payload_of same_key numbers_fit start_fits result_length new_fits flat parts every blank marked_port port_of held_split slot_of buffer_of no_ports no_buffers ports_of buffers_of decoded port_fits names_fit buffer_fits clashing filled_by runs head_fits sized rows_fit accepts port_bytes buffer_bytes head_bytes written read_of
buffers =
    record {
      other_key = valid _ refl;
      same_key = invalid _ refl;
      same_key_old = invalid _ refl;
      other_direction = valid _ refl;
      other_lane = valid _ refl;
      same_place = invalid _ refl;
      running = valid _ refl;
      running_ready = invalid _ refl;
      running_empty = invalid _ refl;
      running_nowhere = invalid _ refl;
      abandoned = valid _ refl;
      two_of_three = valid _ refl;
      all_pending = invalid _ refl;
      all_held = invalid _ refl;
    }

configuration : ConfigurationAsked
unfolding padded payload_of same_key numbers_fit start_fits result_length new_fits flat parts every blank marked_port port_of held_split slot_of buffer_of no_ports no_buffers ports_of buffers_of decoded port_fits names_fit buffer_fits clashing filled_by runs head_fits sized rows_fit accepts port_bytes buffer_bytes head_bytes written read_of
configuration =
    record {
      none_not_configured = valid _ refl;
      one_not_configured = invalid _ refl;
      all_not_configured = valid _ refl;
      one_powered_off = invalid _ refl;
    }

others : OthersTaken
unfolding padded payload_of same_key numbers_fit start_fits result_length new_fits flat parts every blank marked_port port_of held_split slot_of buffer_of no_ports no_buffers ports_of buffers_of decoded port_fits names_fit buffer_fits clashing filled_by runs head_fits sized rows_fit accepts port_bytes buffer_bytes head_bytes written read_of
others =
    record {
      in_ack = valid _ refl;
      out_data = valid _ refl;
      powered = valid _ refl;
      later_runs = valid _ refl;
      far_place = valid _ refl;
      held_unconfigured = valid _ refl;
      level_unconfigured = valid _ refl;
    }

new : NewNumbers
unfolding new_fits
new =
    record {
      least = refl;
      most = refl;
      no_port = refl;
      eight_ports = refl;
      one_buffer = refl;
      five_buffers = refl;
      power_good = refl;
      current = refl;
      removable_bit_0 = refl;
      removable_bit_4 = refl;
      removable_bit_5 = refl;
    }

pub valid_cases_lem : ValidCases
valid_cases_lem =
    record { numbers = numbers; payloads = payloads; timers = timers; buffers = buffers; configuration = configuration; others = others; new = new }
