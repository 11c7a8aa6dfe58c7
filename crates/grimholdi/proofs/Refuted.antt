-- Entries with a mistake, on the bench hub. Assumes nothing.
use Prim.Native.Nat.{ℕ, ◌-◌}
use native.Mathlib.Omega.{arith}
use mathlib.Core.Path.{◌≡◌, refl, sym, ◌∙◌, ap, subst}
use mathlib.Core.Logic.{◌⊎◌, inl, inr, ⊎_elim}
use mathlib.Core.Bool.{cond, false≢true}
use mathlib.Core.List.{List, [], ◌∷◌, ◌++◌}
use lib.ListN.{length, get_or, take, drop, replicate}
use Rattle.payload.specs.Payload as payload
use Rattle.request.specs.Table.{kind_of}
use Rattle.request.specs.Request.{checked, request_of}
use Rattle.ports.specs.Bitmap.{bitmap_of}
use Rattle.ports.specs.Ports.{port_at}
use Rattle.ports.specs.Sweep.{front, swept}
use Rattle.hub.specs.declared.Hub.{Hub}
use Rattle.hub.specs.Hub.{new_fits, hub_of, configured_as}
use Rattle.hub.specs.Call as hub
use Rattle.hub.specs.Requests.{requested}
use Rattle.hub.specs.Rules.{polled}
use Rattle.hub.specs.Checks.{within, has_space, not_silent, fitting}
use Rattle.hub.specs.Step.{served, step}
use Rattle.hub.specs.Valid.{ValidHub}
use Rattle.hub.proofs.Claimed.{hub_claims_lem}
use Rattle.runs.specs.Machine.{after_from}
use Rattle.runs.specs.Refusals.{Refusal, outside, short, silent, misplaced, stall, nak, nyet, number_of, Serves}
use Rattle.runs.proofs.Refuted.{bench, configure}
use Rattle.payload.specs.Bytes.{flat}
use Rattle.area_check.specs.Read.{head_fits, sized, accepts}
use Rattle.std.specs.Prelude.{Option, None, is_some}
use Rattle.area.specs.Written.{port_bytes, buffer_bytes, head_bytes, written, area_length}
use Rattle.area.specs.Read.{read_of}
use Rattle.area.proofs.Exact.{area_exact_lem}
use Rattle.grimholdi.specs.Outcome.{EntryOutcome}
use Rattle.grimholdi.specs.Entry.{carried_out, new_entry}
use Rattle.grimholdi.specs.Asked.{Asked, control, poll, tick, call_of, reply_of, gives}
use Rattle.grimholdi.specs.Runs.{seen, NewArea, AreaFollows}
use Rattle.grimholdi.specs.New.{NewHubs, AreaLengths}
use Rattle.grimholdi.specs.Refusals.{EntryRefusals}
use Rattle.grimholdi.specs.Mistakes.{zeroed, on_number, touched, ten, one_more, keeps_area, takes_longer, makes_longer, refused_writes, keeps_byte, any_length, no_length, EntryMistakesShutOut}
use Rattle.grimholdi.proofs.Carried.{gives_taken, filled_is}

-- ---- a valid hub: what an altered entry gives is what is given, altered

module _ (h : Hub) (v : ValidHub h) (x : Asked) (alter : EntryOutcome → EntryOutcome) (P : EntryOutcome → Type 0) where
  as_ruled : P (alter (gives (written h) x)) → P (alter (carried_out (step h (call_of x)) (reply_of x)))
  as_ruled p = subst (λ (g : EntryOutcome). P (alter g)) (gives_taken h v x) p

-- a new hub, and the same configured
abbrev fresh : Hub
fresh = hub_of 4 3 0x32 0x64 0

fresh_valid : ValidHub fresh
unfolding new_fits
fresh_valid = hub_claims_lem.new_valid 4 3 0x32 0x64 0 refl

abbrev ready : Hub
ready = (step fresh configure).next

ready_valid : ValidHub ready
ready_valid = hub_claims_lem.step_valid fresh fresh_valid configure

-- ---- a reply space, and calls that are answered 1 with no bytes, 3 and 0

abbrev sevens : List ℕ
sevens = replicate 64 7

abbrev first : List ℕ → ℕ
first l = get_or l 0 0

-- GetHubDescriptor of length 0
abbrev descriptor : Asked
descriptor = control 0 (0xA0 ∷ 0x06 ∷ 0x00 ∷ 0x29 ∷ 0 ∷ 0 ∷ 0 ∷ 0 ∷ []) sevens

abbrev polling : Asked
polling = poll 0 sevens

abbrev configuring : Asked
configuring = control 0 (0x00 ∷ 0x09 ∷ 1 ∷ 0 ∷ 0 ∷ 0 ∷ 0 ∷ 0 ∷ []) sevens

-- ---- what is given

zeroes_behind : ¬ (EntryRefusals (λ a x. zeroed (gives a x)))
unfolding step within has_space not_silent fitting served requested request_of checked kind_of payload.written
zeroes_behind claim =
    let e =
    as_ruled fresh fresh_valid descriptor zeroed (λ g. drop g.answer.length g.reply ≡ drop g.answer.length sevens)
    (claim.behind (written fresh) descriptor) in
    let z : ◌≡◌ {A = ℕ} 0 7 = ap first e in omega (arith, z)

writes_on_nak : ¬ (EntryRefusals (λ a x. on_number 3 touched (gives a x)))
unfolding step within has_space not_silent fitting served requested request_of checked kind_of payload.written configured_as front swept polled bitmap_of port_at
writes_on_nak claim =
    let e =
    as_ruled ready ready_valid polling (on_number 3 touched) (λ g. g.answer.number ≡ 3 → (g.area ≡ written ready) × (g.reply ≡ sevens))
    (claim.unchanged nak (written ready) polling) in
    let z : ◌≡◌ {A = ℕ} 0xFF 7 = ap first (e refl).1 in omega (arith, z)

writes_on_done : ¬ (EntryRefusals (λ a x. on_number 0 touched (gives a x)))
unfolding step within has_space not_silent fitting served requested request_of checked kind_of payload.written
writes_on_done claim =
    let e =
    as_ruled fresh fresh_valid configuring (on_number 0 touched) (λ g. (g.answer.number ≡ 0) ⊎ (g.answer.number ≡ 9) → g.reply ≡ sevens)
    (claim.untouched (written fresh) configuring) in
    let z : ◌≡◌ {A = ℕ} 0xFF 7 = ap first (e (inl refl)) in omega (arith, z)

no_such : (r : Refusal) → ¬ (10 ≡ number_of r)
no_such outside e = omega (arith, e)
no_such short e = omega (arith, e)
no_such silent e = omega (arith, e)
no_such misplaced e = omega (arith, e)
no_such stall e = omega (arith, e)
no_such nak e = omega (arith, e)
no_such nyet e = omega (arith, e)

answers_ten : ¬ (EntryRefusals (λ a x. on_number 0 ten (gives a x)))
unfolding step within has_space not_silent fitting served
answers_ten claim =
    let e =
    as_ruled fresh fresh_valid tick (on_number 0 ten) (λ g. ((r : Refusal) × (g.answer.number ≡ number_of r)) ⊎ Serves g.answer.number)
    (claim.numbered (written fresh) tick) in
    ⊎_elim (λ q. no_such q.0 q.1) (⊎_elim (λ z. omega (arith, z)) (⊎_elim (λ z. omega (arith, z)) (λ z. omega (arith, z)))) e

says_more : ¬ (EntryRefusals (λ a x. on_number 1 one_more (gives a x)))
unfolding step within has_space not_silent fitting served requested request_of checked kind_of payload.written
says_more claim =
    let e =
    as_ruled fresh fresh_valid descriptor (on_number 1 one_more) (λ g. seen g ≡ (step fresh (call_of descriptor)).answer)
    (claim.given fresh descriptor fresh_valid) in
    let z : ◌≡◌ {A = ℕ} 1 0 = ap (λ (a : hub.Answer). length a.bytes) e in omega (arith, z)

-- ---- areas

-- an area that is the new hub's written form is ticked
ticked : (b : List ℕ) (o : EntryOutcome) → b ≡ written fresh → (cond (is_some (read_of b)) (gives b tick) o).answer.number ≡ 0
unfolding step within has_space not_silent fitting served
ticked b o e =
    ap (λ (l : List ℕ). (cond (is_some (read_of l)) (gives l tick) o).answer.number) e
    ∙ ap (λ (r : Option Hub). (cond (is_some r) (gives (written fresh) tick) o).answer.number) (area_exact_lem.again fresh fresh_valid)
    ∙ ap (λ (g : EntryOutcome). g.answer.number) (gives_taken fresh fresh_valid tick)

abbrev longer : List ℕ
longer = written fresh ++ 0 ∷ []

longer-refused : read_of longer ≡ None
unfolding written head_bytes flat port_bytes buffer_bytes new_fits read_of accepts sized head_fits
longer-refused = refl

takes_longer_lem : ¬ (EntryRefusals takes_longer)
unfolding written head_bytes flat port_bytes buffer_bytes
takes_longer_lem claim =
    let e = ap (λ (g : EntryOutcome). g.answer.number) (claim.bad_area longer tick ((area_exact_lem.refused longer).0 longer-refused)) in
    let z : ◌≡◌ {A = ℕ} 0 6 = sym (ticked (take (length longer - 1) longer) (gives longer tick) refl) ∙ e in
    omega (arith, z)

unfoldable memory : NewArea
unfolding bench area_length
memory = record { numbers = bench; memory = replicate 240 0; long = refl }

keeps_area_lem : ¬ (AreaFollows keeps_area)
unfolding bench memory after_from step within has_space not_silent fitting served requested request_of checked kind_of configured_as front swept written head_bytes
keeps_area_lem claim =
    let e = sym (filled_is memory) ∙ claim memory (configuring ∷ []) in
    let z : ◌≡◌ {A = ℕ} 0 1 = ap (λ (l : List ℕ). get_or l 5 0) e in omega (arith, z)

keeps_lent : ¬ (EntryRefusals keeps_area)
unfolding step within has_space not_silent fitting served requested request_of checked kind_of configured_as front swept written head_bytes
keeps_lent claim =
    let z : ◌≡◌ {A = ℕ} 0 1 = ap (λ (l : List ℕ). get_or l 5 0) (claim.left fresh configuring fresh_valid) in omega (arith, z)

-- ---- new hubs

-- memory of the length that the bench hub takes
abbrev held : List ℕ
held = replicate 240 7

held_long : length held ≡ length (written fresh)
unfolding area_length
held_long = sym (area_exact_lem.written_length fresh fresh_valid)

makes_longer_lem : ¬ (NewHubs makes_longer)
unfolding new_entry new_fits area_length written head_bytes flat port_bytes buffer_bytes
makes_longer_lem claim =
    let z : ◌≡◌ {A = ℕ} 0 6 = (claim.exactly (replicate 241 0) 4 3 0x32 0x64 0).1 (inr (λ l. omega (arith, l))) in omega (arith, z)

refused_writes_lem : ¬ (NewHubs refused_writes)
unfolding new_entry new_fits area_length
refused_writes_lem claim =
    let z : ◌≡◌ {A = ℕ} 0xFF 0 = ap (λ (g : EntryOutcome). first g.area) (claim.unchanged (0 ∷ []) 0 3 0 0 0 refl) in omega (arith, z)

keeps_byte_lem : ¬ (NewHubs keeps_byte)
unfolding new_entry new_fits area_length written head_bytes
keeps_byte_lem claim =
    let e = claim.made held 4 3 0x32 0x64 0 (λ o. false≢true (sym ((hub_claims_lem.new_refused 4 3 0x32 0x64 0).1 o))) held_long in
    let z : ◌≡◌ {A = ℕ} 7 0x32 = ap (λ (g : EntryOutcome). get_or g.area 2 0) e in omega (arith, z)

-- ---- lengths

any_length_lem : ¬ (AreaLengths any_length)
any_length_lem claim = let z : ◌≡◌ {A = ℕ} 152 0 = (claim.none 0 2).1 (inl (omega arith)) in omega (arith, z)

no_length_lem : ¬ (AreaLengths no_length)
unfolding area_length
no_length_lem claim =
    let z : ◌≡◌ {A = ℕ} 0 240 = claim.whole fresh fresh_valid ∙ area_exact_lem.written_length fresh fresh_valid in omega (arith, z)

pub entry_mistakes_shut_out_lem : EntryMistakesShutOut
entry_mistakes_shut_out_lem =
    record {
      zeroes_behind = zeroes_behind;
      writes_on_nak = writes_on_nak;
      writes_on_done = writes_on_done;
      answers_ten = answers_ten;
      says_more = says_more;
      takes_longer_lem = takes_longer_lem;
      keeps_area_lem = keeps_area_lem;
      keeps_lent = keeps_lent;
      makes_longer_lem = makes_longer_lem;
      refused_writes_lem = refused_writes_lem;
      keeps_byte_lem = keeps_byte_lem;
      any_length_lem = any_length_lem;
      no_length_lem = no_length_lem;
    }
