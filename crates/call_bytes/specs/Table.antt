-- The table of docs/CALLS.md. A reader must believe: for each call its tag, how many numbers it has and whether setup or payload bytes
-- follow, and which number is which, in the order of its C function. A new call is a row more in each list here.
use Rattle.std.specs.Prelude.{ℕ, List, [], ◌∷◌, Bool, true, false, cond, eqb, get_or, Option, Some, None}
use Rattle.hub.specs.Call.{Call, Control, Poll, Start, Complete, Launch, Deliver, Event, Tick, BusReset}
use Rattle.call_bytes.specs.declared.CallKind.{CallKind}
use Rattle.call_bytes.specs.declared.CallKind.TheVariants as kind
use Rattle.call_bytes.specs.declared.Layout.{Layout}

abbrev pub laid : ℕ → ℕ → Bool → Layout
laid t n b = record { tag = t; numbers = n; bytes = b }

-- tag, how many numbers, whether bytes follow
abbrev pub layout_of : CallKind → Layout
layout_of kind.Control = laid 1 2 true
layout_of kind.Poll = laid 2 2 false
layout_of kind.StartSplit = laid 3 7 true
layout_of kind.CompleteSplit = laid 4 5 false
layout_of kind.Launch = laid 5 1 false
layout_of kind.Deliver = laid 6 1 true
layout_of kind.LineEvent = laid 7 2 false
layout_of kind.Tick = laid 8 0 false
layout_of kind.BusReset = laid 9 0 false

abbrev pub tag_of : CallKind → ℕ
tag_of k = (layout_of k).tag

abbrev pub numbers_of : CallKind → ℕ
numbers_of k = (layout_of k).numbers

abbrev pub carries : CallKind → Bool
carries k = (layout_of k).bytes

-- ---- a call's kind, numbers and bytes

pub record Form : Type 0 where
  pub kind : CallKind
  pub numbers : List ℕ
  pub bytes : List ℕ

abbrev pub form_of : Call → Form
form_of (Control z s room) = record { kind = kind.Control; numbers = z ∷ room ∷ []; bytes = s }
form_of (Poll z room) = record { kind = kind.Poll; numbers = z ∷ room ∷ []; bytes = [] }
form_of (Start z p t f g a e l) = record { kind = kind.StartSplit; numbers = z ∷ p ∷ t ∷ f ∷ g ∷ a ∷ e ∷ []; bytes = l }
form_of (Complete z a e d room) = record { kind = kind.CompleteSplit; numbers = z ∷ a ∷ e ∷ d ∷ room ∷ []; bytes = [] }
form_of (Launch room) = record { kind = kind.Launch; numbers = room ∷ []; bytes = [] }
form_of (Deliver r l) = record { kind = kind.Deliver; numbers = r ∷ []; bytes = l }
form_of (Event e n) = record { kind = kind.LineEvent; numbers = e ∷ n ∷ []; bytes = [] }
form_of Tick = record { kind = kind.Tick; numbers = []; bytes = [] }
form_of BusReset = record { kind = kind.BusReset; numbers = []; bytes = [] }

-- ---- and back

-- the kinds of calls
abbrev pub kinds : List CallKind
kinds =
    kind.Control ∷ kind.Poll ∷ kind.StartSplit ∷ kind.CompleteSplit ∷ kind.Launch ∷ kind.Deliver ∷ kind.LineEvent ∷ kind.Tick ∷ kind.BusReset ∷ []

-- the first one with the tag t, or none
unfoldable pub with_tag : ℕ → List CallKind → Option CallKind
with_tag t [] = None
with_tag t (k ∷ ks) = cond (eqb t (tag_of k)) (Some k) (with_tag t ks)

unfoldable pub kind_of : ℕ → Option CallKind
kind_of t = with_tag t kinds

-- the call of a kind, its numbers and bytes
abbrev pub call_of : CallKind → List ℕ → List ℕ → Call
call_of kind.Control ns l = Control (get_or ns 0 0) l (get_or ns 1 0)
call_of kind.Poll ns l = Poll (get_or ns 0 0) (get_or ns 1 0)
call_of kind.StartSplit ns l = Start (get_or ns 0 0) (get_or ns 1 0) (get_or ns 2 0) (get_or ns 3 0) (get_or ns 4 0) (get_or ns 5 0) (get_or ns 6 0) l
call_of kind.CompleteSplit ns l = Complete (get_or ns 0 0) (get_or ns 1 0) (get_or ns 2 0) (get_or ns 3 0) (get_or ns 4 0)
call_of kind.Launch ns l = Launch (get_or ns 0 0)
call_of kind.Deliver ns l = Deliver (get_or ns 0 0) l
call_of kind.LineEvent ns l = Event (get_or ns 0 0) (get_or ns 1 0)
call_of kind.Tick ns l = Tick
call_of kind.BusReset ns l = BusReset
