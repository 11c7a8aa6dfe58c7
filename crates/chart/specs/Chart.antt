-- Internal, pinned by `EnginesAgree` (specs/Engines), which compares all that is read from a chart with the rules: where the cell of a port and an
-- input stands, what a cell says, and the timer's counting.
use Rattle.std.specs.Prelude.{ℕ, ◌+◌, ◌-◌, ◌*◌, ◌/◌, ◌%◌, Bool, true, false, not, cond, List, eqb, ltb, get_or}
use Rattle.bools.specs.Bit.{bit}
use Rattle.port.specs.declared.PortState.{PortState}
use Rattle.port.specs.declared.PortState.TheVariants.{NotConfigured, PoweredOff, Disconnected, Disabled, Resetting, Enabled, Suspended, Resuming}
use Rattle.port.specs.declared.ChangeBit.{ChangeBit}
use Rattle.port.specs.declared.ChangeBit.TheVariants as change
use Rattle.port.specs.declared.Changes.{Changes}
use Rattle.port.specs.declared.Port.{Port}
use Rattle.port.specs.declared.LineEvent.{LineEvent}
use Rattle.port.specs.declared.LineEvent.TheVariants.{AttachLow, AttachFull, Detach, Chirp, Wake, PortError, OverCurrentOn, OverCurrentOff}
use Rattle.port.specs.declared.SettableFeature.{SettableFeature}
use Rattle.port.specs.declared.SettableFeature.TheVariants as settable
use Rattle.port.specs.declared.ClearableFeature.{ClearableFeature}
use Rattle.port.specs.declared.ClearableFeature.TheVariants as clearable
use Rattle.port.specs.declared.Input.{Input}
use Rattle.port.specs.declared.Input.TheVariants as input
use Rattle.port.specs.Reaction.{Answered}
use Rattle.port.specs.Numbers.{state_number, speed_number, ticks_so_far}
use Rattle.port.specs.FromNumbers.{speed_of, state_of, end_of}

-- ---- the 23 columns, one for each input

abbrev pub event_column : LineEvent → ℕ
event_column AttachLow = 0
event_column AttachFull = 1
event_column Detach = 2
event_column Chirp = 3
event_column Wake = 4
event_column PortError = 5
event_column OverCurrentOn = 6
event_column OverCurrentOff = 7

abbrev pub tick_column : ℕ
tick_column = 8

abbrev pub set_column : SettableFeature → ℕ
set_column settable.Suspend = 9
set_column settable.Reset = 10
set_column settable.Power = 11

abbrev pub change_place : ChangeBit → ℕ
change_place change.Connection = 0
change_place change.Enable = 1
change_place change.Suspend = 2
change_place change.OverCurrent = 3
change_place change.Reset = 4

abbrev pub clear_column : ClearableFeature → ℕ
clear_column clearable.Enable = 12
clear_column clearable.Suspend = 13
clear_column clearable.Power = 14
clear_column (clearable.Change b) = 15 + change_place b

abbrev pub column : Input → ℕ
column (input.Event e) = event_column e
column input.Tick = tick_column
column (input.SetFeature f) = set_column f
column (input.ClearFeature f) = clear_column f
column input.Unconfigure = 20
column input.Configure = 21
column input.BusReset = 22

-- ---- the 48 lines, 24 for each over-current level

-- whether the timer runs on at the next tick
abbrev pub runs_on : PortState → Bool
runs_on s = ltb (ticks_so_far s) (end_of (state_number s) - 1)

-- a state's place among the 24; e is 1 where the timer ends at the next tick, else 0
abbrev pub situation : ℕ → PortState → ℕ
situation e NotConfigured = 0
situation e PoweredOff = 1
situation e Disconnected = 2
situation e (Disabled s) = 3 + speed_number s
situation e (Resetting s t) = 6 + 2 * speed_number s + e
situation e (Enabled s) = 12 + speed_number s
situation e (Suspended s) = 15 + speed_number s
situation e (Resuming s t) = 18 + 2 * speed_number s + e

-- the line of a port, where r says whether its timer runs on
abbrev pub line_of : Bool → Port → ℕ
line_of r p = bit p.overcurrent * 24 + situation (bit (not r)) p.state

abbrev pub index_of : Bool → Port → Input → ℕ
index_of r p i = line_of r p * 23 + column i

-- ---- the timer

-- the ticks in the state with number n: a tick counts, up to the timer's end; another input keeps them; another state starts at 0
abbrev pub ticks_after : Bool → PortState → ℕ → Bool → ℕ
ticks_after r s n tick = cond (eqb n (state_number s)) (cond tick (cond r (ticks_so_far s + 1) 0) (ticks_so_far s)) 0

-- ---- a cell, its hexadecimal digits from the left: 1 state, 1 speed, 1 level, 2 change bits set, 2 change bits cleared, 1 number

abbrev pub bit_after : Bool → Bool → Bool → Bool
bit_after set cleared before = cond set true (cond cleared false before)

-- change bits as in the change byte of GetPortStatus
abbrev pub bits_after : ℕ → ℕ → Changes → Changes
bits_after s k c =
    record {
      connection = bit_after (eqb (s % 2) 1) (eqb (k % 2) 1) c.connection;
      enable = bit_after (eqb (s / 2 % 2) 1) (eqb (k / 2 % 2) 1) c.enable;
      suspend = bit_after (eqb (s / 4 % 2) 1) (eqb (k / 4 % 2) 1) c.suspend;
      overcurrent = bit_after (eqb (s / 8 % 2) 1) (eqb (k / 8 % 2) 1) c.overcurrent;
      reset = bit_after (eqb (s / 16 % 2) 1) (eqb (k / 16 % 2) 1) c.reset;
    }

-- what a cell makes of a port
abbrev pub read : Bool → Port → Input → ℕ → Answered
read r p i n =
    record {
      port =
          record {
            state =
                state_of (n / 0x10000000 % 16) (speed_of (n / 0x1000000 % 16))
                (ticks_after r p.state (n / 0x10000000 % 16) (eqb (column i) tick_column));
            overcurrent = eqb (n / 0x100000 % 16) 1;
            changes = bits_after (n / 0x1000 % 256) (n / 16 % 256) p.changes;
          };
      number = n % 16;
    }

-- the cell of a port and an input, where r says whether the timer runs on
abbrev pub looked_at : List ℕ → Bool → Port → Input → Answered
looked_at chart r p i = read r p i (get_or chart (index_of r p i) 0)

-- the engine: the timer's counting apart, it only looks up the chart
unfoldable pub looked_up : List ℕ → Port → Input → Answered
looked_up chart p i = looked_at chart (runs_on p.state) p i
