-- Runs of entries are runs of the rules, so that what holds of these holds of those. Assumes nothing.
use Prim.Native.Nat.{ℕ, ◌+◌, ◌<◌, ◌≤◌}
use native.Mathlib.Omega.{arith}
use mathlib.Core.Path.{◌≡◌, refl, sym, ◌∙◌, ap, ap₂, subst}
use mathlib.Core.Bool.{Bool, true, false, cond}
use mathlib.Core.List.{List, [], ◌∷◌, ◌++◌, map}
use lib.Dec.{eqb, leb}
use lib.ListN.{length, take, drop, length-append, length-drop}
use lib.Seq.{take_all, take-append_seam}
use borrow.Author.Tests.{leb-true}
use Rattle.std.specs.Prelude.{Option, unwrap_or}
use Rattle.payload.specs.Payload as payload
use Rattle.hub.specs.declared.Hub.{Hub}
use Rattle.hub.specs.Hub.{hub_of}
use Rattle.hub.specs.Call as hub
use Rattle.hub.specs.Call.{Call, Control, Poll, Start, Complete, Launch, Deliver, Event as LineEvent, Tick, BusReset, Outcome, refuse}
use Rattle.hub.specs.Checks.{within, has_space, not_silent, fitting, first_refusal}
use Rattle.hub.specs.Step.{served, step}
use Rattle.hub.specs.Valid.{ValidHub}
use Rattle.hub.proofs.Order.{by_step}
use Rattle.hub.proofs.Claimed.{hub_claims_lem}
use Rattle.runs.specs.History.{Event}
use Rattle.runs.specs.Machine.{Machine, new_hub_of, rules, run_from, run, after_from}
use Rattle.runs.specs.Altered.{with_bytes}
use Rattle.runs.specs.Demand2.{Demand2}
use Rattle.runs.specs.Demand3.{Marks, only_key, every_key_of, SameCalls, SameAnswers, Hidden, AllExplained, Demand3}
use Rattle.runs.specs.Order.{AllOrdered, LaunchOrder}
use Rattle.runs.specs.ErrorReports.{AllShow, ErrorReports}
use Rattle.runs.specs.Tally.{tally_of, active_buffers, past, TallyHolds}
use Rattle.runs.specs.Share.{holding, AllShared, LaneShare}
use Rattle.runs.proofs.Theorems.{demand_3}
use Rattle.runs.proofs.AcceptanceSteps.{launch_order}
use Rattle.runs.proofs.Reporting.{error_reports}
use Rattle.runs.proofs.Reaching.{reached}
use Rattle.runs.proofs.Tallied.{tally_holds}
use Rattle.runs.proofs.Sharing.{lane_share}
use Rattle.area.specs.Written.{written}
use Rattle.area.specs.Read.{hub_read}
use Rattle.area.proofs.Exact.{area_exact_lem}
use Rattle.grimholdi.specs.Outcome.{EntryOutcome}
use Rattle.grimholdi.specs.Entry.{carried_out}
use Rattle.grimholdi.specs.Asked.{Asked, control, poll, start_split, complete_split, launch, deliver, line_event, tick, bus_reset, call_of, reply_of, gives}
use Rattle.grimholdi.specs.Runs.{seen, NewArea, filled, entries, AreaFollows}
use Rattle.grimholdi.proofs.Entries.{entry_taken, new_made}

-- ---- bytes in a reply space that has room for them

drop_seam : (xs ys : List ℕ) → drop (length xs) (xs ++ ys) ≡ ys
drop_seam [] ys = refl
drop_seam (x ∷ xs) ys = drop_seam xs ys

pub seen_is : (d r : List ℕ) → length d ≤ length r → take (length d) (payload.written d r) ≡ d
unfolding payload.written
seen_is d r l = rw (take_all (length r) d l, take-append_seam d (drop (length d) r))

pub behind_is : (d r : List ℕ) → length d ≤ length r → drop (length d) (payload.written d r) ≡ drop (length d) r
unfolding payload.written
behind_is d r l = rw (take_all (length r) d l) (drop_seam d (drop (length d) r))

pub same_long : (d r : List ℕ) → length d ≤ length r → length (payload.written d r) ≡ length r
unfolding payload.written
same_long d r l = rw (take_all (length r) d l) (length-append d (drop (length d) r) ∙ omega (arith, l, length-drop (length d) r))

none_fits : (d r : List ℕ) → d ≡ [] → length d ≤ length r
none_fits d r e = let z : length d ≡ 0 = ap length e in omega (arith, z)

module _ (h : Hub) (v : ValidHub h) where
  without_space : (c : Call) → has_space c ≡ false → (step h c).answer.bytes ≡ []
  unfolding step
  without_space c p = go (within h c)
    where
      go : (w : Bool)
          → (cond {A = Outcome} (eqb (first_refusal w (has_space c) (not_silent h c) (fitting h c)) 0) (served h c)
          (refuse (first_refusal w (has_space c) (not_silent h c) (fitting h c)) h)).answer.bytes ≡ []
      go true = rw p
      go false = refl

  room_enough : (c : Call) (r : List ℕ) → has_space c ≡ leb 64 (length r) → length (step h c).answer.bytes ≤ length r
  room_enough c r e = go (leb 64 (length r)) refl
    where
      go : (b : Bool) → leb 64 (length r) ≡ b → length (step h c).answer.bytes ≤ length r
      go true p =
          let most : length (step h c).answer.bytes ≤ 64 = hub_claims_lem.bytes_fit h v c in
          let room : 64 ≤ length r = leb-true 64 (length r) p in
          omega (arith, most, room)
      go false p = none_fits (step h c).answer.bytes r (without_space c (e ∙ p))

  none_given : (c : Call) → (served h c).answer.bytes ≡ [] → (step h c).answer.bytes ≡ []
  none_given c e = by_step h c (λ (o : Outcome). o.answer.bytes ≡ []) (λ n. refl) (λ w f. e)

  pub fits_reply : (x : Asked) → length (step h (call_of x)).answer.bytes ≤ length (reply_of x)
  unfolding has_space served
  fits_reply (control z s r) = room_enough (Control z s (length r)) r refl
  fits_reply (poll z r) = room_enough (Poll z (length r)) r refl
  fits_reply (start_split z p t f g a e l) = none_fits _ [] (none_given (Start z p t f g a e l) refl)
  fits_reply (complete_split z a e d r) = room_enough (Complete z a e d (length r)) r refl
  fits_reply (launch r) = room_enough (Launch (length r)) r refl
  fits_reply (deliver n l) = none_fits _ [] (none_given (Deliver n l) refl)
  fits_reply (line_event e n) = none_fits _ [] (none_given (LineEvent e n) refl)
  fits_reply tick = none_fits _ [] (none_given Tick refl)
  fits_reply bus_reset = none_fits _ [] (none_given BusReset refl)

  -- ---- one entry on the written form of a valid hub

  pub gives_taken : (x : Asked) → gives (written h) x ≡ carried_out (step h (call_of x)) (reply_of x)
  gives_taken x = entry_taken (written h) h (sym (area_exact_lem.again h v)) (call_of x) (reply_of x)

  pub answer_same : (x : Asked) → seen (gives (written h) x) ≡ (step h (call_of x)).answer
  answer_same x =
      let a = (step h (call_of x)).answer in
      ap seen (gives_taken x) ∙ ap (with_bytes a) (seen_is a.bytes (reply_of x) (fits_reply x))

  pub next_same : (x : Asked) → (gives (written h) x).area ≡ written (step h (call_of x)).next
  next_same x = ap (λ (g : EntryOutcome). g.area) (gives_taken x)

-- ---- runs

follows : (xs : List Asked) (h : Hub) → ValidHub h → run_from entries (written h) xs ≡ run_from rules h (map call_of xs)
unfolding run_from
follows [] h v = refl
follows (x ∷ xs) h v =
    ap₂ (λ (e : Event) (es : List Event). e ∷ es)
    (ap (λ (a : hub.Answer). record { call = call_of x; answer = a }) (answer_same h v x))
    (ap (λ (a : List ℕ). run_from entries a xs) (next_same h v x)
    ∙ follows xs (step h (call_of x)).next (hub_claims_lem.step_valid h v (call_of x)))

leaves : (xs : List Asked) (h : Hub) → ValidHub h → after_from entries (written h) xs ≡ written (after_from rules h (map call_of xs))
unfolding after_from
leaves [] h v = refl
leaves (x ∷ xs) h v =
    ap (λ (a : List ℕ). after_from entries a xs) (next_same h v x)
    ∙ leaves xs (step h (call_of x)).next (hub_claims_lem.step_valid h v (call_of x))

module _ (m : NewArea) where
  pub new_hub_lem : ValidHub (new_hub_of m.numbers)
  new_hub_lem =
      let n = m.numbers in
      hub_claims_lem.new_valid n.ports n.buffers n.powergood n.current n.removable n.fit

  pub filled_is : filled m ≡ written (new_hub_of m.numbers)
  filled_is =
      let n = m.numbers in
      ap (λ (g : EntryOutcome). g.area) (new_made m.memory n.ports n.buffers n.powergood n.current n.removable n.fit m.long)

pub demand_2 : Demand2 entries
demand_2 m xs = ap (λ (a : List ℕ). run_from entries a xs) (filled_is m) ∙ follows xs (new_hub_of m.numbers) (new_hub_lem m)

pub area_follows : AreaFollows gives
area_follows m xs = ap (λ (a : List ℕ). after_from entries a xs) (filled_is m) ∙ leaves xs (new_hub_of m.numbers) (new_hub_lem m)

-- a machine that keeps demand 2 keeps what the rules' runs keep
module _ (w : Machine) (d : Demand2 w) where
  abbrev ruled_run : w.Made → List w.Asked → List Event
  ruled_run n cs = run rules (w.numbers n) (map w.call cs)

  hidden : (k : Marks) → Hidden w k
  hidden k n o cs ds e s =
      subst (λ (x : List Event). SameAnswers k x (run w o ds)) (sym (d n cs))
      (subst (λ (y : List Event). SameAnswers k (ruled_run n cs) y) (sym (d o ds))
      (demand_3.set_hidden k (w.numbers n) (w.numbers o) (map w.call cs) (map w.call ds) e
      (subst (λ (y : List Event). SameCalls k [] (ruled_run n cs) y) (d o ds)
      (subst (λ (x : List Event). SameCalls k [] x (run w o ds)) (d n cs) s))))

  pub carried_3 : Demand3 w
  carried_3 =
      record {
        set_hidden = hidden;
        mark_hidden = λ m. hidden (only_key m);
        lane_hidden = λ z. hidden (every_key_of z);
        data_explained = λ n cs. subst (AllExplained []) (sym (d n cs)) (demand_3.data_explained (w.numbers n) (map w.call cs));
      }

  pub carried_order : LaunchOrder w
  carried_order n cs = subst (AllOrdered []) (sym (d n cs)) (launch_order (w.numbers n) (map w.call cs))

  pub carried_reports : ErrorReports w
  carried_reports n cs = subst (AllShow []) (sym (d n cs)) (error_reports (w.numbers n) (map w.call cs))

  pub carried_share : LaneShare w
  carried_share =
      record {
        few = λ z n cs. subst (λ (es : List Event). holding z (past [] es) < (w.numbers n).buffers) (sym (d n cs)) (lane_share.few z (w.numbers n) (map w.call cs));
        served = λ n cs. subst (AllShared []) (sym (d n cs)) (lane_share.served (w.numbers n) (map w.call cs));
      }

-- the hub that is read from the area is the one that the rules leave
pub read-reached : (m : NewArea) (xs : List Asked) → hub_read (after_from entries (filled m) xs) ≡ after_from rules (new_hub_of m.numbers) (map call_of xs)
read-reached m xs =
    ap hub_read (area_follows m xs)
    ∙ ap (λ (r : Option Hub). unwrap_or r (hub_of 0 0 0 0 0)) (area_exact_lem.again (after_from rules (new_hub_of m.numbers) (map call_of xs)) (reached m.numbers (map call_of xs)))

pub carried_tally : TallyHolds entries (λ a. active_buffers (hub_read a))
carried_tally m xs =
    subst (λ (h : Hub). (tally_of (past [] (run entries m xs))).stored ≡ (tally_of (past [] (run entries m xs))).answered + (tally_of (past [] (run entries m xs))).emptied + active_buffers h)
    (sym (read-reached m xs))
    (subst (λ (es : List Event). (tally_of (past [] es)).stored ≡ (tally_of (past [] es)).answered + (tally_of (past [] es)).emptied + active_buffers (after_from rules (new_hub_of m.numbers) (map call_of xs)))
    (sym (demand_2 m xs)) (tally_holds m.numbers (map call_of xs)))
