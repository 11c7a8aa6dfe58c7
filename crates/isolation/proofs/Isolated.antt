-- One port cannot disturb another, over whole runs of the rules. Assumes nothing.
use Prim.Native.Nat.{ℕ}
use mathlib.Core.Path.{◌≡◌, refl, sym, ◌∙◌, ap}
use mathlib.Core.Bool.{Bool, true, false, cond}
use mathlib.Core.List.{List, [], ◌∷◌, map-id}
use Rattle.port.specs.declared.PortNumber.{PortNumber}
use Rattle.port.specs.Status.{status_bytes}
use Rattle.ports.specs.Ports.{port_at}
use Rattle.ports.specs.Bitmap.{bitmap_of}
use Rattle.hub.specs.declared.Hub.{Hub}
use Rattle.hub.specs.Call.{Call}
use Rattle.hub.specs.Step.{step}
use Rattle.hub.specs.Valid.{ValidHub}
use Rattle.hub.proofs.Claimed.{hub_claims_lem}
use Rattle.runs.specs.Machine.{Machine, Numbers, new_hub_of, rules, after_from}
use Rattle.runs.specs.Demand2.{reached_by}
use Rattle.runs.proofs.Reaching.{reached}
use Rattle.isolation.specs.Naming.{naming, struck}
use Rattle.isolation.specs.Isolation.{bit_at, SameBut, SameAnswers, Matching, PortIsolation}
use Rattle.isolation.proofs.Setting.{erased, others_same}
use Rattle.isolation.proofs.Polls.{bit_of_port, none_set, byte_same}
use Rattle.isolation.proofs.Steps.{step_same, step_named, poll_same, poll_one}

-- what the equation of two hubs with port p put back says
pub all_but : (p : PortNumber) (g h : Hub) → erased p g ≡ erased p h → SameBut p g h
all_but p g h e =
    record {
      other_ports = λ m d.
          let same = agree m d in
          record {
            port = same;
            status = ap status_bytes same;
            bitmap_bit_lem =
                ap (λ (n : ℕ). bit_at (bitmap_of n g.ports) m.0) (ap (λ (k : Hub). k.identity.ports) e)
                ∙ byte_same p h.identity.ports g.ports h.ports agree m.0 d;
          };
      translator = ap (λ (k : Hub). k.translator) e;
      configured = ap (λ (k : Hub). k.configured) e;
      identity = ap (λ (k : Hub). k.identity) e;
    }
  where
    agree : (m : PortNumber) → ¬ (m.0 ≡ p.0) → port_at g.ports m ≡ port_at h.ports m
    agree m d = others_same p g.ports h.ports (ap (λ (k : Hub). k.ports) e) m d

module _ (n : ℕ) (p : PortNumber) where
  count_kept : (h : Hub) (c : Call) → h.identity.ports ≡ n → (step h c).next.identity.ports ≡ n
  count_kept h c i = ap (λ k. k.ports) (hub_claims_lem.identity_kept h c) ∙ i

  -- a run leaves what it leaves with the calls that name port p struck out
  struck_out : (cs : List Call) (g h : Hub) → g.identity.ports ≡ n → erased p g ≡ erased p h
      → erased p (after_from rules g cs) ≡ erased p (after_from rules h (struck n p cs))
  unfolding after_from struck
  struck_out [] g h i e = e
  struck_out (c ∷ cs) g h i e =
      go (naming n p c) refl (struck_out cs (step g c).next h (count_kept g c i)) (struck_out cs (step g c).next (step h c).next (count_kept g c i))
    where
      left : Hub
      left = after_from rules (step g c).next cs

      count : h.identity.ports ≡ n
      count = sym (ap (λ (k : Hub). k.identity.ports) e) ∙ i

      go : (b : Bool) → naming n p c ≡ b
          → (erased p (step g c).next ≡ erased p h → erased p left ≡ erased p (after_from rules h (struck n p cs)))
          → (erased p (step g c).next ≡ erased p (step h c).next → erased p left ≡ erased p (after_from rules (step h c).next (struck n p cs)))
          → erased p left ≡ erased p (after_from rules h (cond b (struck n p cs) (c ∷ struck n p cs)))
      go true u apart together = apart (step_named p g c (ap (λ (k : ℕ). naming k p c) i ∙ u) ∙ e)
      go false u apart together = together (step_same p g h e c (ap (λ (k : ℕ). naming k p c) count ∙ u)).0

-- what two such histories leave is the same once port p is put back
pub reached_same : (p : PortNumber) (m n : Numbers) (cs ds : List Call) → new_hub_of m ≡ new_hub_of n → struck m.ports p cs ≡ struck n.ports p ds
    → erased p (reached_by m cs) ≡ erased p (reached_by n ds)
reached_same p m n cs ds e q =
    struck_out m.ports p cs (new_hub_of m) (new_hub_of n) refl (ap (erased p) e)
    ∙ (ap (λ (l : List Call). erased p (reached_by n l)) q ∙ sym (struck_out n.ports p ds (new_hub_of n) (new_hub_of n) refl refl))

-- what the equation says of answers
pub answers_same : (p : PortNumber) (g h : Hub) → ValidHub g → ValidHub h → erased p g ≡ erased p h → SameAnswers rules (λ k. k) p g h
answers_same p g h v w e =
    record {
      calls = λ x y r u d. (step_same p g h e x (ap (λ (k : Hub). naming k.identity.ports p x) (sym e) ∙ u)).1 d ∙ ap (λ (c : Call). (step h c).answer) r;
      polls = λ x y z room r s. rw (r, s) (poll_same p g h e z room);
      one_or_none = λ x y z room r s.
          rw (r, s)
          (λ k.
          let both = poll_one p g h e z room k in
          let none = none_set h w in (
            λ u. (sym (bit_of_port g v p) ∙ (both.0 u).0, none.0 (both.0 u).1),
            λ u. both.1 (bit_of_port g v p ∙ u.0, none.1 u.1),
          ));
    }

pub port_isolation_lem : PortIsolation rules (λ h. h)
port_isolation_lem =
    record {
      hubs = λ p m n cs ds t. all_but p (reached_by m cs) (reached_by n ds) (same p m n cs ds t);
      answers = λ p m n cs ds t. answers_same p (reached_by m cs) (reached_by n ds) (reached m cs) (reached n ds) (same p m n cs ds t);
    }
  where
    same : (p : PortNumber) (m n : Numbers) (cs ds : List Call) → Matching rules p m n cs ds → erased p (reached_by m cs) ≡ erased p (reached_by n ds)
    same p m n cs ds t =
        reached_same p m n cs ds t.new_hubs (ap (struck m.ports p) (sym (map-id cs)) ∙ t.left ∙ ap (struck n.ports p) (map-id ds))

-- what holds of the answers of two hubs holds of two states of any machine that hold them and answer as the rules do
module _ (w : Machine) (hub : w.State → Hub) (p : PortNumber) (s t : w.State) (g h : Hub) (holds-g : hub s ≡ g) (holds-h : hub t ≡ h)
    (answer-g : (x : w.Asked) → w.answer s x ≡ (step g (w.call x)).answer) (answer-h : (x : w.Asked) → w.answer t x ≡ (step h (w.call x)).answer) where
  pub carried : SameAnswers rules (λ k. k) p g h → SameAnswers w hub p s t
  carried u =
      record {
        calls = λ x y r. rw (holds-g, answer-g x, answer-h y) (u.calls (w.call x) (w.call y) r);
        polls = λ x y z room i j. rw (answer-g x, answer-h y) (u.polls (w.call x) (w.call y) z room i j);
        one_or_none = λ x y z room i j. rw (holds-g, holds-h, answer-g x, answer-h y) (u.one_or_none (w.call x) (w.call y) z room i j);
      }
