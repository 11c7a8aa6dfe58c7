-- C-21: one port cannot disturb another. In the standard words: noninterference of a port with all else, `struck` being the purge.
-- A reader must believe: which calls name a port (Naming.antt), and that what is compared here is what the request lists. `hub` gives the
-- hub that a state of the machine holds.
use Rattle.std.specs.Prelude.{ℕ, ◌^◌, ◌<◌, ◌≡◌, Bool, true, false, List, [], ◌∷◌, map, ◌↔◌, ◌⊎◌, get_or}
use Rattle.port.specs.declared.PortNumber.{PortNumber}
use Rattle.port.specs.Status.{status_bytes, has_change}
use Rattle.port.specs.Words.{bits_of}
use Rattle.ports.specs.Ports.{port_at}
use Rattle.ports.specs.Bitmap.{bitmap_of}
use Rattle.hub.specs.declared.Hub.{Hub}
use Rattle.hub.specs.Call.{Poll, Answer, plain_answer, pid_answer}
use Rattle.runs.specs.Machine.{Machine, new_hub_of, after_from}
use Rattle.isolation.specs.Naming.{naming, struck}

-- bit i of a byte, bit 0 the lowest; and of the bitmap
abbrev pub bit_at : ℕ → ℕ → Bool
bit_at b i = get_or (bits_of 8 b) i false

abbrev pub bitmap_bit : Hub → PortNumber → Bool
bitmap_bit h m = bit_at (bitmap_of h.identity.ports h.ports) m.0

pub record SamePort (m : PortNumber) (g h : Hub) : Type 0 where
  -- state with its timer and speed, over-current level, change bits
  pub port : port_at g.ports m ≡ port_at h.ports m
  pub status : status_bytes (port_at g.ports m) ≡ status_bytes (port_at h.ports m)
  pub bitmap_bit_lem : bitmap_bit g m ≡ bitmap_bit h m

-- all but port p is the same
pub record SameBut (p : PortNumber) (g h : Hub) : Type 0 where
  pub other_ports : (m : PortNumber) → ¬ (m.0 ≡ p.0) → SamePort m g h
  pub translator : g.translator ≡ h.translator
  pub configured : g.configured ≡ h.configured
  pub identity : g.identity ≡ h.identity

abbrev pub poll_gives : ℕ → Answer
poll_gives b = pid_answer 1 0 (b ∷ [])

-- two answers to a poll that may differ through bit p alone
pub data SamePoll (p : PortNumber) : Answer → Answer → Type 0 where
  same : (a : Answer) → SamePoll p a a
  bytes : (b c : ℕ) → b < 256 → c < 256 → ((i : ℕ) → ¬ (i ≡ p.0) → bit_at b i ≡ bit_at c i) → SamePoll p (poll_gives b) (poll_gives c)
  -- bit p and no other
  byte_or_none : SamePoll p (poll_gives (2 ^ p.0)) (plain_answer 3)
  none_or_byte : SamePoll p (plain_answer 3) (poll_gives (2 ^ p.0))

-- A call that is in both, where the two histories before it left s and t, has the same answer,
pub record SameAnswers (w : Machine) (hub : w.State → Hub) (p : PortNumber) (s t : w.State) : Type 0 where
  pub calls : (x y : w.Asked) → w.call x ≡ w.call y → naming (hub s).identity.ports p (w.call x) ≡ false
      → ((z room : ℕ) → ¬ (w.call x ≡ Poll z room)) → w.answer s x ≡ w.answer t y
  -- but for the poll, whose byte may differ in bit p alone.
  pub polls : (x y : w.Asked) (z room : ℕ) → w.call x ≡ Poll z room → w.call y ≡ Poll z room → SamePoll p (w.answer s x) (w.answer t y)
  -- Where it is 1 or 3, it is 1 in the one and 3 in the other exactly if port p has a change bit in the one and no port has any in the other.
  pub one_or_none : (x y : w.Asked) (z room : ℕ) → w.call x ≡ Poll z room → w.call y ≡ Poll z room
      → ((w.answer t y).number ≡ 1) ⊎ ((w.answer t y).number ≡ 3)
      → (((w.answer s x).number ≡ 1) × ((w.answer t y).number ≡ 3))
      ↔ ((has_change (port_at (hub s).ports p).changes ≡ true) × ((m : PortNumber) → has_change (port_at (hub t).ports m).changes ≡ false))

-- Pick a port. Take two histories from equal new hubs that become equal when each event and port request naming that port is struck out.
pub record Matching (w : Machine) (p : PortNumber) (m n : w.Made) (cs ds : List w.Asked) : Type 0 where
  pub new_hubs : new_hub_of (w.numbers m) ≡ new_hub_of (w.numbers n)
  pub left : struck (w.numbers m).ports p (map w.call cs) ≡ struck (w.numbers n).ports p (map w.call ds)

-- A matching point is where two such histories end. R holds at all of them.
abbrev pub AtMatchingPoints : (w : Machine) → (PortNumber → w.State → w.State → Type 0) → Type 0
AtMatchingPoints w R =
    (p : PortNumber) (m n : w.Made) (cs ds : List w.Asked) → Matching w p m n cs ds → R p (after_from w (w.new m) cs) (after_from w (w.new n) ds)

-- Then all but that port is the same, and so is the answer to the next call that is in both.
pub record PortIsolation (w : Machine) (hub : w.State → Hub) : Type 0 where
  pub hubs : AtMatchingPoints w (λ p s t. SameBut p (hub s) (hub t))
  pub answers : AtMatchingPoints w (SameAnswers w hub)
