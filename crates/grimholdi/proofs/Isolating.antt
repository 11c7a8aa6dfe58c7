-- One port cannot disturb another, of runs of entries and of their areas. Assumes nothing.
use Prim.Native.Nat.{ℕ, zero, suc, ◌+◌, ◌*◌, ◌-◌}
use mathlib.Core.Path.{◌≡◌, refl, sym, ◌∙◌, ap, ap₂, subst}
use mathlib.Core.Bool.{Bool, true, false, cond}
use mathlib.Core.List.{List, [], ◌∷◌, ◌++◌, map}
use native.Mathlib.Omega.{arith}
use lib.ListN.{take, drop, set}
use Rattle.port.specs.declared.Port.{Port}
use Rattle.port.specs.declared.PortNumber.{PortNumber}
use Rattle.port.specs.Reaction.{new_port}
use Rattle.ports.specs.Ports.{one_to_seven, with_port}
use Rattle.hub.specs.declared.Hub.{Hub}
use Rattle.hub.specs.Hub.{with_ports}
use Rattle.hub.specs.Step.{step}
use Rattle.hub.specs.Valid.{ValidHub}
use Rattle.runs.specs.Machine.{after_from}
use Rattle.runs.specs.Demand2.{reached_by}
use Rattle.runs.proofs.Reaching.{reached}
use Rattle.isolation.specs.Isolation.{SameBut, SameAnswers, Matching}
use Rattle.isolation.proofs.Setting.{erased}
use Rattle.isolation.proofs.Isolated.{all_but, reached_same, answers_same, carried}
use Rattle.payload.specs.Bytes.{flat}
use Rattle.area.specs.Written.{port_bytes, buffer_bytes, head_bytes, written, area_length}
use Rattle.area.specs.Read.{hub_read}
use Rattle.area.proofs.Exact.{area_exact_lem}
use Rattle.grimholdi.specs.Asked.{Asked, call_of}
use Rattle.grimholdi.specs.Runs.{NewArea, filled, entries}
use Rattle.grimholdi.specs.Isolation.{port_place, SameAreaBut, EntryIsolation}
use Rattle.grimholdi.proofs.Carried.{answer_same, area_follows, read-reached}

-- ---- the written form of a hub with port p put back

-- four times i, so that `take` and `drop` compute
fours : ℕ → ℕ
fours zero = zero
fours (suc i) = suc (suc (suc (suc (fours i))))

fours_is : (i : ℕ) → fours i ≡ i * 4
unfolding fours
fours_is zero = refl
fours_is (suc i) = omega (arith, fours_is i)

-- the bytes before those of one port, and behind them
before : (n i : ℕ) (ps : List Port) (x : Port) (b : List ℕ)
    → take (fours i) (flat port_bytes (take n (set ps i x)) ++ b) ≡ take (fours i) (flat port_bytes (take n ps) ++ b)
unfolding fours flat port_bytes
before n zero ps x b = refl
before zero (suc i) ps x b = refl
before (suc n) (suc i) [] x b = refl
before (suc n) (suc i) (q ∷ ps) x b = ap (λ (r : List ℕ). port_bytes q ++ r) (before n i ps x b)

behind : (n i : ℕ) (ps : List Port) (x : Port) (b : List ℕ)
    → drop (fours (suc i)) (flat port_bytes (take n (set ps i x)) ++ b) ≡ drop (fours (suc i)) (flat port_bytes (take n ps) ++ b)
unfolding fours flat port_bytes
behind zero i ps x b = refl
behind (suc n) i [] x b = refl
behind (suc n) zero (q ∷ ps) x b = refl
behind (suc n) (suc i) (q ∷ ps) x b = behind n i ps x b

-- eight bytes stand before the ports
abbrev past_head : ℕ → ℕ
past_head k = suc (suc (suc (suc (suc (suc (suc (suc k)))))))

-- what two areas have in common around the bytes of the port with index i
record Around (i : ℕ) (a b : List ℕ) : Type 0 where
  before_it : take (past_head (fours i)) a ≡ take (past_head (fours i)) b
  behind_it : drop (past_head (fours (suc i))) a ≡ drop (past_head (fours (suc i))) b

around : (h : Hub) (i : ℕ) → Around i (written (with_ports h (set h.ports i new_port))) (written h)
unfolding written head_bytes
around h i =
    let buffers : List ℕ = flat buffer_bytes (take h.translator.count h.translator.buffers) in
    let head : List ℕ = head_bytes h.identity h.configured h.translator.count h.translator.low in
    record {
      before_it = ap (λ (r : List ℕ). head ++ r) (before h.identity.ports i h.ports new_port buffers);
      behind_it = behind h.identity.ports i h.ports new_port buffers;
    }

put_back : (p : PortNumber) (h : Hub) → Around (p.0 - 1) (written (erased p h)) (written h)
unfolding with_port
put_back p h = go (one_to_seven p.0)
  where
    go : (b : Bool) → Around (p.0 - 1) (written (with_ports h (cond b (set h.ports (p.0 - 1) new_port) h.ports))) (written h)
    go true = around h (p.0 - 1)
    go false = record { before_it = refl; behind_it = refl }

module _ (p : PortNumber) (g h : Hub) (v : ValidHub g) (w : ValidHub h) (e : erased p g ≡ erased p h) where
  areas_same : SameAreaBut p (written g) (written h)
  unfolding fours
  areas_same =
      let i = p.0 - 1 in
      let start : port_place p ≡ past_head (fours i) = omega (arith, fours_is i) in
      let end : port_place p + 4 ≡ past_head (fours (suc i)) = omega (arith, fours_is i) in
      let left = put_back p g in
      let right = put_back p h in
      record {
        long =
            area_exact_lem.written_length g v
            ∙ (ap₂ area_length (ap (λ (k : Hub). k.identity.ports) e) (ap (λ (k : Hub). k.translator.count) e)
            ∙ sym (area_exact_lem.written_length h w));
        before = rw start (sym left.before_it ∙ (ap (λ (k : Hub). take (past_head (fours i)) (written k)) e ∙ right.before_it));
        behind = rw end (sym left.behind_it ∙ (ap (λ (k : Hub). drop (past_head (fours (suc i))) (written k)) e ∙ right.behind_it));
      }

-- ---- runs of entries

module _ (m : NewArea) (xs : List Asked) where
  abbrev hub_left : Hub
  hub_left = reached_by m.numbers (map call_of xs)

  abbrev area_left : List ℕ
  area_left = after_from entries (filled m) xs

  valid : ValidHub hub_left
  valid = reached m.numbers (map call_of xs)

  answered : (x : Asked) → entries.answer area_left x ≡ (step hub_left (call_of x)).answer
  answered x = ap (λ (a : List ℕ). entries.answer a x) (area_follows m xs) ∙ answer_same hub_left valid x

module _ (p : PortNumber) (m n : NewArea) (xs ys : List Asked) (t : Matching entries p m n xs ys) where
  same : erased p (hub_left m xs) ≡ erased p (hub_left n ys)
  same = reached_same p m.numbers n.numbers (map call_of xs) (map call_of ys) t.new_hubs t.left

  hubs_same : SameBut p (hub_read (area_left m xs)) (hub_read (area_left n ys))
  hubs_same = rw (read-reached m xs, read-reached n ys) (all_but p (hub_left m xs) (hub_left n ys) same)

  entries_same : SameAnswers entries hub_read p (area_left m xs) (area_left n ys)
  entries_same =
      carried entries hub_read p (area_left m xs) (area_left n ys) (hub_left m xs) (hub_left n ys)
      (read-reached m xs) (read-reached n ys) (answered m xs) (answered n ys)
      (answers_same p (hub_left m xs) (hub_left n ys) (valid m xs) (valid n ys) same)

  only_port : SameAreaBut p (area_left m xs) (area_left n ys)
  only_port =
      subst (λ (a : List ℕ). SameAreaBut p a (area_left n ys)) (sym (area_follows m xs))
      (subst (SameAreaBut p (written (hub_left m xs))) (sym (area_follows n ys))
      (areas_same p (hub_left m xs) (hub_left n ys) (valid m xs) (valid n ys) same))

pub entry_isolation : EntryIsolation
entry_isolation = record { ports = record { hubs = hubs_same; answers = entries_same }; areas = only_port }
