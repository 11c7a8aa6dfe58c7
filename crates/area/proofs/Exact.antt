-- An area is taken, and gives a hub, exactly if the hub is valid and the area is its written form. Assumes nothing.
use mathlib.Core.Path.{◌≡◌, refl, sym, ap, subst, ◌∙◌}
use mathlib.Core.List.{List, [], ◌∷◌, ◌++◌}
use mathlib.Core.Bool.{Bool, true, false, cond, not, ◌&&◌, and-eq-true_iff}
use Prim.Native.Nat.{ℕ, zero, suc, ◌+◌, ◌*◌, ◌≤◌, ◌<◌, min}
use native.Mathlib.Omega.{arith}
use lib.ListN.{length, get_or, take, drop, length-append, length-drop, take-append-drop}
use lib.Seq.{take_at, drop_at, take-length, take_all, length-take-le, drop-drop}
use lib.Dec.{eqb, ltb}
use borrow.Author.Tests.{eq-eqb, ne_eqb, not-true, le-leb}
use Rattle.std.specs.Prelude.{Option, Some, None}
use Rattle.payload.specs.Payload.{padded}
use Rattle.port.specs.declared.Port.{Port}
use Rattle.bools.specs.Bit.{bit}
use Rattle.port.specs.Reaction.{new_port}
use Rattle.port.specs.Words.{is_not_configured, TimerBelowEnd}
use Rattle.buffer.specs.declared.Slot.{Slot}
use Rattle.buffer.specs.declared.Buffer.{Buffer}
use Rattle.buffer.specs.Buffer.{vacant}
use Rattle.buffer.specs.Valid.{Whole}
use Rattle.translator.specs.declared.LowSide.{LowSide}
use Rattle.translator.specs.Slots.{slots_in}
use Rattle.translator.specs.Limit.{held_by}
use Rattle.translator.specs.Valid.{ValidTranslator}
use Rattle.hub.specs.declared.Identity.{Identity}
use Rattle.hub.specs.declared.Hub.{Hub}
use Rattle.hub.specs.Valid.{ValidHub}
use Rattle.payload.specs.Bytes.{flat}
use Rattle.area_check.specs.Rows.{parts, every}
use Rattle.area.specs.Written.{port_bytes, buffer_bytes, head_bytes, written, area_length, written_over}
use Rattle.area_check.specs.Read.{port_of, buffer_of, low_of, no_ports, no_buffers, ports_of, buffers_of, port_part, buffer_part, decoded, port_fits, buffer_fits, clashing, crowded, runs, head_fits, sized, rows_fit, accepts}
use Rattle.area.specs.Read.{read_of}
use Rattle.area.specs.Claims.{AreaExact}
use Rattle.area_check.proofs.Rows.{All, all_map, all_take, row_each, row_used, row_spare, row_long, row_tail, parts_length, Kept, flat_length, parts_flat, every_to, every_of}
use Rattle.area_check.proofs.Sized.{Counts, counts, headed, Sized, sized_to}
use Rattle.area_check.proofs.Ties.{vacant_buffers, four_long}
use Rattle.area.proofs.Ports.{PortValid, port_again, port_size, port_to, port_of_lem}
use Rattle.area.proofs.Buffers.{first_eight, buffer_size, buffer_again, buffer_to, buffer_of_lem}
use Rattle.area.proofs.Lanes.{lanes_to, lanes_of}
use Rattle.area.proofs.Ties.{keys_to, places_to, clashing_from, runs_to, runs_of, low_again, low_of_lem, low_back}

-- ---- the entries that are not in use

new_ports_lem : All (λ (p : Port). p ≡ new_port) no_ports
unfolding All no_ports
new_ports_lem = (refl, (refl, (refl, (refl, (refl, (refl, (refl, tt)))))))

seven_long : length no_ports ≡ 7
unfolding no_ports
seven_long = refl

vacant-whole : Whole vacant
unfolding padded
vacant-whole = record { fits = refl; zeros = refl }

-- ---- an accepted area

flag_back : (n : ℕ) → n < 2 → bit (eqb n 1) ≡ n
flag_back zero h = refl
flag_back (suc zero) h = refl
flag_back (suc (suc n)) h = absurd (omega arith)

flag_again : (b : Bool) → eqb (bit b) 1 ≡ b
flag_again true = refl
flag_again false = refl

three_is : (a b c d e x x' y y' z z' : ℕ) → x ≡ x' → y ≡ y' → z ≡ z'
    → ◌≡◌ {A = List ℕ} (a ∷ b ∷ c ∷ d ∷ e ∷ x ∷ y ∷ z ∷ []) (a ∷ b ∷ c ∷ d ∷ e ∷ x' ∷ y' ∷ z' ∷ [])
three_is a b c d e x x' y y' z z' p q r = cc

-- what the rows' tests say
record Rows (a : List ℕ) : Type 0 where
  ports : every (port_fits (eqb (get_or a 5 0) 1)) 4 (get_or a 0 0) (port_part a) ≡ true
  buffers : every buffer_fits 72 (get_or a 1 0) (buffer_part a) ≡ true
  apart : clashing (slots_in (buffers_of (get_or a 1 0) (buffer_part a))) ≡ false
  limits : crowded (get_or a 1 0) (buffer_part a) ≡ false
  running : runs (slots_in (buffers_of (get_or a 1 0) (buffer_part a))) (get_or a 6 0) (get_or a 7 0) ≡ true

rows_to : (a : List ℕ) → rows_fit a ≡ true → Rows a
unfolding rows_fit
rows_to a e =
    let p : Bool = every (port_fits (eqb (get_or a 5 0) 1)) 4 (get_or a 0 0) (port_part a) in
    let b : Bool = every buffer_fits 72 (get_or a 1 0) (buffer_part a) in
    let s : List Slot = slots_in (buffers_of (get_or a 1 0) (buffer_part a)) in
    let c : Bool = crowded (get_or a 1 0) (buffer_part a) in
    let x = (and-eq-true_iff (p && b) (not (clashing s) && (not c && runs s (get_or a 6 0) (get_or a 7 0)))).0 e in
    let y = (and-eq-true_iff p b).0 x.0 in
    let z = (and-eq-true_iff (not (clashing s)) (not c && runs s (get_or a 6 0) (get_or a 7 0))).0 x.1 in
    let w = (and-eq-true_iff (not c) (runs s (get_or a 6 0) (get_or a 7 0))).0 z.1 in
    record { ports = y.0; buffers = y.1; apart = not-true (clashing s) z.0; limits = not-true c w.0; running = w.1 }

module _ (a : List ℕ) (z : Sized a) (t : Rows a) where
  ports_long : length (port_part a) ≡ get_or a 0 0 * 4
  ports_long = length-take-le (get_or a 0 0 * 4) (drop 8 a) (simp length-drop (omega (arith, z.whole)))

  buffers_long : length (buffer_part a) ≡ get_or a 1 0 * 72
  buffers_long = length-take-le (get_or a 1 0 * 72) (drop (8 + get_or a 0 0 * 4) a) (simp length-drop (omega (arith, z.whole)))

  ports_read : (flat port_bytes (parts port_of 4 (get_or a 0 0) (port_part a)) ≡ port_part a) × All (PortValid (eqb (get_or a 5 0) 1)) (parts port_of 4 (get_or a 0 0) (port_part a))
  ports_read =
      every_to (port_fits (eqb (get_or a 5 0) 1)) port_bytes port_of 4 (PortValid (eqb (get_or a 5 0) 1)) (port_to (eqb (get_or a 5 0) 1)) (get_or a 0 0) (port_part a) ports_long
      t.ports

  buffers_read : (flat buffer_bytes (parts buffer_of 72 (get_or a 1 0) (buffer_part a)) ≡ buffer_part a) × All Whole (parts buffer_of 72 (get_or a 1 0) (buffer_part a))
  buffers_read = every_to buffer_fits buffer_bytes buffer_of 72 Whole buffer_to (get_or a 1 0) (buffer_part a) buffers_long t.buffers

  numbers : Counts (get_or a 0 0) (get_or a 1 0)
  numbers = counts (get_or a 0 0) (get_or a 1 0) (get_or a 2 0) (get_or a 3 0) (get_or a 4 0) (headed a z.fits).numbers

  translator_valid : ValidTranslator (decoded a).translator
  unfolding decoded buffers_of
  translator_valid =
      let m : ℕ = get_or a 1 0 in
      let bs : List Buffer = parts buffer_of 72 m (buffer_part a) in
      let l : length bs ≡ m = parts_length buffer_of 72 m (buffer_part a) in
      record {
        least = numbers.two;
        most = numbers.four;
        four = row_long vacant no_buffers vacant_buffers m bs l 4 four_long numbers.four;
        spare = row_spare vacant no_buffers vacant_buffers m bs l;
        whole = row_each vacant no_buffers vacant_buffers m bs l Whole vacant-whole buffers_read.1;
        keys = keys_to (bs ++ drop m no_buffers) t.apart;
        places = places_to (bs ++ drop m no_buffers) t.apart;
        lanes = lanes_to m (buffer_part a) t.limits;
        running = runs_to (bs ++ drop m no_buffers) (get_or a 6 0) (get_or a 7 0) t.running;
      }

  decoded_valid : ValidHub (decoded a)
  unfolding decoded ports_of
  decoded_valid =
      let n : ℕ = get_or a 0 0 in
      let ps : List Port = parts port_of 4 n (port_part a) in
      let l : length ps ≡ n = parts_length port_of 4 n (port_part a) in
      record {
        numbers = (headed a z.fits).numbers;
        seven = row_long new_port no_ports new_ports_lem n ps l 7 seven_long numbers.seven;
        timers = row_each new_port no_ports new_ports_lem n ps l (λ (p : Port). TimerBelowEnd p.state) tt (all_map (λ p v. v.timer) ps ports_read.1);
        spare = row_spare new_port no_ports new_ports_lem n ps l;
        configuration =
            row_used new_port no_ports new_ports_lem n ps l (λ (p : Port). is_not_configured p.state ≡ not (eqb (get_or a 5 0) 1)) (all_map (λ p v. v.agree) ps ports_read.1);
        translator = translator_valid;
      }

  head_back : head_bytes (decoded a).identity (decoded a).configured (decoded a).translator.count (decoded a).translator.low ≡ take 8 a
  unfolding decoded head_bytes
  head_back =
      let h = headed a z.fits in
      let l = low_back (get_or a 6 0) (get_or a 7 0) h.low in
      three_is (get_or a 0 0) (get_or a 1 0) (get_or a 2 0) (get_or a 3 0) (get_or a 4 0) _ (get_or a 5 0) _ (get_or a 6 0) _ (get_or a 7 0) (flag_back (get_or a 5 0) h.configured) l.0 l.1
      ∙ sym (first_eight a z.head)

  ports_back : flat port_bytes (take (decoded a).identity.ports (decoded a).ports) ≡ port_part a
  unfolding decoded ports_of
  ports_back =
      ap (flat port_bytes) (take_at (parts port_of 4 (get_or a 0 0) (port_part a)) (drop (get_or a 0 0) no_ports) (get_or a 0 0) (parts_length port_of 4 (get_or a 0 0) (port_part a)))
      ∙ ports_read.0

  buffers_back : flat buffer_bytes (take (decoded a).translator.count (decoded a).translator.buffers) ≡ buffer_part a
  unfolding decoded buffers_of
  buffers_back =
      ap (flat buffer_bytes) (take_at (parts buffer_of 72 (get_or a 1 0) (buffer_part a)) (drop (get_or a 1 0) no_buffers) (get_or a 1 0) (parts_length buffer_of 72 (get_or a 1 0) (buffer_part a)))
      ∙ buffers_read.0

  decoded_written : a ≡ written (decoded a)
  unfolding written
  decoded_written =
      let h : Hub = decoded a in
      let rest : drop (8 + get_or a 0 0 * 4) a ≡ buffer_part a =
      sym (take_all (get_or a 1 0 * 72) (drop (8 + get_or a 0 0 * 4) a) (simp length-drop (omega (arith, z.whole)))) in
      let body : drop 8 a ≡ port_part a ++ buffer_part a =
      sym (take-append-drop (get_or a 0 0 * 4) (drop 8 a)) ∙ ap (λ (r : List ℕ). port_part a ++ r) (drop-drop (get_or a 0 0 * 4) 8 a ∙ rest) in
      sym (take-append-drop 8 a)
      ∙ ap (λ (r : List ℕ). take 8 a ++ r) body
      ∙ ap (λ (r : List ℕ). r ++ (port_part a ++ buffer_part a)) (sym head_back)
      ∙ ap (λ (r : List ℕ). head_bytes h.identity h.configured h.translator.count h.translator.low ++ (r ++ buffer_part a)) (sym ports_back)
      ∙ ap
      (λ (r : List ℕ).
      head_bytes h.identity h.configured h.translator.count h.translator.low ++ (flat port_bytes (take h.identity.ports h.ports) ++ r))
      (sym buffers_back)

-- ---- a row whose first n elements are written, and whose others are not in use

module _ {A : Type 0} (enc : A → List ℕ) (dec : List ℕ → A) (k n : ℕ) (none xs : List A) (h : n ≤ length xs) (v : All (Kept enc dec k) (take n xs)) where
  row_size : length (flat enc (take n xs)) ≡ n * k
  row_size = flat_length enc dec k (take n xs) v ∙ ap (λ (m : ℕ). m * k) (length-take-le n xs h)

  row_again : drop n xs ≡ drop n none → parts dec k n (flat enc (take n xs)) ++ drop n none ≡ xs
  row_again e =
      ap (λ (m : ℕ). parts dec k m (flat enc (take n xs)) ++ drop n none) (sym (length-take-le n xs h))
      ∙ ap (λ (r : List A). r ++ drop n none) (parts_flat enc dec k (take n xs) v)
      ∙ ap (λ (r : List A). take n xs ++ r) (sym e)
      ∙ take-append-drop n xs

  row_every : (f : List ℕ → Bool) → All (λ (x : A). (length (enc x) ≡ k) × (f (enc x) ≡ true)) (take n xs) → every f k n (flat enc (take n xs)) ≡ true
  row_every f w = ap (λ (m : ℕ). every f k m (flat enc (take n xs))) (sym (length-take-le n xs h)) ∙ every_of f enc dec k (take n xs) w

-- ---- a valid hub

hub_is : (i : Identity) (g g' : Bool) (p p' : List Port) (b b' : List Buffer) (m : ℕ) (l l' : LowSide) → g ≡ g' → p ≡ p' → b ≡ b' → l ≡ l'
    → ◌≡◌ {A = Hub}
    (record { identity = i; configured = g; ports = p; translator = record { buffers = b; count = m; low = l } })
    (record { identity = i; configured = g'; ports = p'; translator = record { buffers = b'; count = m; low = l' } })
hub_is i g g' p p' b b' m l l' e f q r = rw (e, f, q, r)

module _ (h : Hub) (v : ValidHub h) where
  pub the_counts : Counts h.identity.ports h.translator.count
  the_counts = counts h.identity.ports h.translator.count h.identity.powergood h.identity.current h.identity.removable v.numbers

  ports_each : All (PortValid h.configured) (take h.identity.ports h.ports)
  ports_each =
      all_take (PortValid h.configured) new_port h.identity.ports h.ports (λ i k. record { timer = v.timers i; agree = v.configuration i k })

  buffers_each : All Whole (take h.translator.count h.translator.buffers)
  buffers_each = all_take Whole vacant h.translator.count h.translator.buffers (λ i k. v.translator.whole i)

  ports_kept : All (Kept port_bytes port_of 4) (take h.identity.ports h.ports)
  ports_kept = all_map (λ p w. record { size = port_size p; again = port_again p }) (take h.identity.ports h.ports) ports_each

  buffers_kept : All (Kept buffer_bytes buffer_of 72) (take h.translator.count h.translator.buffers)
  buffers_kept = all_map (λ b w. record { size = buffer_size b w; again = buffer_again b w }) (take h.translator.count h.translator.buffers) buffers_each

  pub ports_there : h.identity.ports ≤ length h.ports
  ports_there = subst (λ (n : ℕ). h.identity.ports ≤ n) (sym v.seven) the_counts.seven

  pub buffers_there : h.translator.count ≤ length h.translator.buffers
  buffers_there = subst (λ (n : ℕ). h.translator.count ≤ n) (sym v.translator.four) the_counts.four

  pub ports_size : length (flat port_bytes (take h.identity.ports h.ports)) ≡ h.identity.ports * 4
  ports_size = row_size port_bytes port_of 4 h.identity.ports no_ports h.ports ports_there ports_kept

  buffers_size : length (flat buffer_bytes (take h.translator.count h.translator.buffers)) ≡ h.translator.count * 72
  buffers_size = row_size buffer_bytes buffer_of 72 h.translator.count no_buffers h.translator.buffers buffers_there buffers_kept

  pub whole_length : length (written h) ≡ 8 + h.identity.ports * 4 + h.translator.count * 72
  unfolding written head_bytes
  whole_length =
      let p = flat port_bytes (take h.identity.ports h.ports) in
      let b = flat buffer_bytes (take h.translator.count h.translator.buffers) in
      let l = length-append p b in
      let x = ports_size in
      let y = buffers_size in
      omega (arith, l, x, y)

  -- the parts of the written form

  ports_part : port_part (written h) ≡ flat port_bytes (take h.identity.ports h.ports)
  unfolding written head_bytes
  ports_part =
      take_at (flat port_bytes (take h.identity.ports h.ports)) (flat buffer_bytes (take h.translator.count h.translator.buffers)) (h.identity.ports * 4) ports_size

  behind_ports : drop (8 + h.identity.ports * 4) (written h) ≡ flat buffer_bytes (take h.translator.count h.translator.buffers)
  unfolding written head_bytes
  behind_ports =
      sym (drop-drop (h.identity.ports * 4) 8 (written h))
      ∙ drop_at (flat port_bytes (take h.identity.ports h.ports)) (flat buffer_bytes (take h.translator.count h.translator.buffers)) (h.identity.ports * 4) ports_size

  count_back : get_or (written h) 0 0 ≡ h.identity.ports
  unfolding written head_bytes
  count_back = refl

  held_back : get_or (written h) 1 0 ≡ h.translator.count
  unfolding written head_bytes
  held_back = refl

  flag_is : eqb (get_or (written h) 5 0) 1 ≡ h.configured
  unfolding written head_bytes
  flag_is = flag_again h.configured

  low_is : low_of (get_or (written h) 6 0) (get_or (written h) 7 0) ≡ h.translator.low
  unfolding written head_bytes
  low_is = low_again h.translator.low

  buffers_part : buffer_part (written h) ≡ flat buffer_bytes (take h.translator.count h.translator.buffers)
  buffers_part =
      ap (λ (n : ℕ). take (get_or (written h) 1 0 * 72) (drop (8 + n * 4) (written h))) count_back
      ∙ ap (λ (m : ℕ). take (m * 72) (drop (8 + h.identity.ports * 4) (written h))) held_back
      ∙ ap (take (h.translator.count * 72)) behind_ports
      ∙ ap (λ (n : ℕ). take n (flat buffer_bytes (take h.translator.count h.translator.buffers))) (sym buffers_size)
      ∙ take-length (flat buffer_bytes (take h.translator.count h.translator.buffers))

  again_ports : ports_of (get_or (written h) 0 0) (port_part (written h)) ≡ h.ports
  unfolding ports_of
  again_ports =
      ap (λ (n : ℕ). parts port_of 4 n (port_part (written h)) ++ drop n no_ports) count_back
      ∙ ap (λ (l : List ℕ). parts port_of 4 h.identity.ports l ++ drop h.identity.ports no_ports) ports_part
      ∙ row_again port_bytes port_of 4 h.identity.ports no_ports h.ports ports_there ports_kept
      (row_tail new_port no_ports new_ports_lem h.identity.ports h.ports (v.seven ∙ sym seven_long) v.spare)

  again_buffers : buffers_of (get_or (written h) 1 0) (buffer_part (written h)) ≡ h.translator.buffers
  unfolding buffers_of
  again_buffers =
      ap (λ (n : ℕ). parts buffer_of 72 n (buffer_part (written h)) ++ drop n no_buffers) held_back
      ∙ ap (λ (l : List ℕ). parts buffer_of 72 h.translator.count l ++ drop h.translator.count no_buffers) buffers_part
      ∙ row_again buffer_bytes buffer_of 72 h.translator.count no_buffers h.translator.buffers buffers_there buffers_kept
      (row_tail vacant no_buffers vacant_buffers h.translator.count h.translator.buffers (v.translator.four ∙ sym four_long) v.translator.spare)

  decoded_again : decoded (written h) ≡ h
  unfolding decoded written head_bytes
  decoded_again =
      hub_is h.identity _ h.configured _ h.ports _ h.translator.buffers h.translator.count _ h.translator.low flag_is again_ports again_buffers low_is

  -- the tests of the written form

  head_of : head_fits (written h) ≡ true
  unfolding head_fits written head_bytes
  head_of = rw (v.numbers, flag_lt h.configured) (low_of_lem h.translator.low)
    where
      flag_lt : (b : Bool) → ltb (bit b) 2 ≡ true
      flag_lt true = refl
      flag_lt false = refl

  sized_of : sized (written h) ≡ true
  unfolding sized
  sized_of =
      let l = whole_length in
      rw (le-leb 8 (length (written h)) (omega arith), head_of)
      (eq-eqb (length (written h)) _
      (whole_length
      ∙ ap (λ (n : ℕ). 8 + n * 4 + h.translator.count * 72) (sym count_back)
      ∙ ap (λ (m : ℕ). 8 + get_or (written h) 0 0 * 4 + m * 72) (sym held_back)))

  ports_of_lem : every (port_fits (eqb (get_or (written h) 5 0) 1)) 4 (get_or (written h) 0 0) (port_part (written h)) ≡ true
  ports_of_lem =
      ap (λ (b : Bool). every (port_fits b) 4 (get_or (written h) 0 0) (port_part (written h))) flag_is
      ∙ ap (λ (n : ℕ). every (port_fits h.configured) 4 n (port_part (written h))) count_back
      ∙ ap (every (port_fits h.configured) 4 h.identity.ports) ports_part
      ∙ row_every port_bytes port_of 4 h.identity.ports no_ports h.ports ports_there ports_kept (port_fits h.configured)
      (all_map (λ p w. (port_size p, port_of_lem h.configured p w)) (take h.identity.ports h.ports) ports_each)

  buffers_of_lem : every buffer_fits 72 (get_or (written h) 1 0) (buffer_part (written h)) ≡ true
  buffers_of_lem =
      ap (λ (n : ℕ). every buffer_fits 72 n (buffer_part (written h))) held_back
      ∙ ap (every buffer_fits 72 h.translator.count) buffers_part
      ∙ row_every buffer_bytes buffer_of 72 h.translator.count no_buffers h.translator.buffers buffers_there buffers_kept buffer_fits
      (all_map (λ b w. (buffer_size b w, buffer_of_lem b w)) (take h.translator.count h.translator.buffers) buffers_each)

  the_slots : slots_in (buffers_of (get_or (written h) 1 0) (buffer_part (written h))) ≡ slots_in h.translator.buffers
  the_slots = ap slots_in again_buffers

  apart_of : clashing (slots_in (buffers_of (get_or (written h) 1 0) (buffer_part (written h)))) ≡ false
  apart_of = ap clashing the_slots ∙ clashing_from h.translator.buffers v.translator.keys v.translator.places

  low_runs : runs (slots_in h.translator.buffers) (get_or (written h) 6 0) (get_or (written h) 7 0) ≡ true
  unfolding written head_bytes
  low_runs = runs_of h.translator.buffers h.translator.low v.translator.running

  running_of : runs (slots_in (buffers_of (get_or (written h) 1 0) (buffer_part (written h)))) (get_or (written h) 6 0) (get_or (written h) 7 0) ≡ true
  running_of = ap (λ (s : List Slot). runs s (get_or (written h) 6 0) (get_or (written h) 7 0)) the_slots ∙ low_runs

  limits_of : crowded (get_or (written h) 1 0) (buffer_part (written h)) ≡ false
  limits_of =
      lanes_of (get_or (written h) 1 0) (buffer_part (written h))
      (λ z. subst (λ (n : ℕ). held_by z (buffers_of (get_or (written h) 1 0) (buffer_part (written h))) < n) (sym held_back)
      (subst (λ (bs : List Buffer). held_by z bs < h.translator.count) (sym again_buffers) (v.translator.lanes z)))

  rows_of : rows_fit (written h) ≡ true
  unfolding rows_fit
  rows_of = rw (ports_of_lem, buffers_of_lem, apart_of, limits_of) running_of

  accepts_of : accepts (written h) ≡ true
  unfolding accepts
  accepts_of = rw sized_of rows_of

-- ---- the claims

from_decoded : (a : List ℕ) (h : Hub) → decoded a ≡ h → accepts a ≡ true → ValidHub h × (a ≡ written h)
unfolding accepts
from_decoded a h d t =
    let x = (and-eq-true_iff (sized a) (rows_fit a)).0 t in
    let z = sized_to a x.0 in
    let r = rows_to a x.1 in
    (subst ValidHub d (decoded_valid a z r), decoded_written a z r ∙ ap written d)

took_to : (a : List ℕ) (h : Hub) → read_of a ≡ Some h → ValidHub h × (a ≡ written h)
unfolding read_of
took_to a h e = go (accepts a) refl e
  where
    go : (b : Bool) → accepts a ≡ b → ◌≡◌ {A = Option Hub} (cond b (Some (decoded a)) None) (Some h) → ValidHub h × (a ≡ written h)
    go true t q = from_decoded a h (cc) t
    go false t q = absurd cc

again : (h : Hub) → ValidHub h → read_of (written h) ≡ Some h
unfolding read_of
again h v = rw (accepts_of h v) (ap Some (decoded_again h v))

took_of : (a : List ℕ) (h : Hub) → ValidHub h → a ≡ written h → read_of a ≡ Some h
took_of a h v e = ap read_of e ∙ again h v

refused_to : (a : List ℕ) → read_of a ≡ None → (h : Hub) → ValidHub h → ¬ (a ≡ written h)
refused_to a e h v w = let t = took_of a h v w in cc

refused_of : (a : List ℕ) → ((h : Hub) → ValidHub h → ¬ (a ≡ written h)) → read_of a ≡ None
unfolding read_of
refused_of a n = go (accepts a) refl
  where
    go : (b : Bool) → accepts a ≡ b → ◌≡◌ {A = Option Hub} (cond b (Some (decoded a)) None) None
    go true t = let x = from_decoded a (decoded a) refl t in absurd (n (decoded a) x.0 x.1)
    go false t = refl

one_form : (h g : Hub) → ValidHub h → ValidHub g → written h ≡ written g → h ≡ g
one_form h g v w e = let same : Some h ≡ Some g = sym (again h v) ∙ ap read_of e ∙ again g w in cc

area_is : (n b : ℕ) → Counts n b → area_length n b ≡ 8 + n * 4 + b * 72
unfolding area_length
area_is n b c = rw (le-leb 1 n c.one, le-leb n 7 c.seven, le-leb 2 b c.two, le-leb b 4 c.four)

written_length : (h : Hub) → ValidHub h → length (written h) ≡ area_length h.identity.ports h.translator.count
written_length h v = whole_length h v ∙ sym (area_is h.identity.ports h.translator.count (the_counts h v))

-- of a valid hub the numbers are no more than there are entries
span_is : (h : Hub) → ValidHub h → 8 + min h.identity.ports 7 * 4 + min h.translator.count 4 * 72 ≡ area_length h.identity.ports h.translator.count
span_is h v =
    let c = the_counts h v in
    let n : min h.identity.ports 7 ≡ h.identity.ports = omega (arith, c.seven) in
    let m : min h.translator.count 4 ≡ h.translator.count = omega (arith, c.four) in
    ap (λ (x : ℕ). 8 + x * 4 + min h.translator.count 4 * 72) n
    ∙ ap (λ (x : ℕ). 8 + h.identity.ports * 4 + x * 72) m
    ∙ sym (area_is h.identity.ports h.translator.count c)

writes : (h : Hub) (a : List ℕ) → ValidHub h → length a ≡ area_length h.identity.ports h.translator.count → written_over h a ≡ written h
unfolding written_over
writes h a v e = ap (λ (b : Bool). cond b (written h) a) (eq-eqb (length a) _ (e ∙ sym (span_is h v)))

keeps : (h : Hub) (a : List ℕ) → ValidHub h → ¬ (length a ≡ area_length h.identity.ports h.translator.count) → written_over h a ≡ a
unfolding written_over
keeps h a v e = ap (λ (b : Bool). cond b (written h) a) (ne_eqb (length a) _ (λ q. e (q ∙ span_is h v)))

pub area_exact_lem : AreaExact
area_exact_lem =
    record {
      taken = λ a h. (took_to a h, λ x. took_of a h x.0 x.1);
      refused = λ a. (refused_to a, refused_of a);
      again = again;
      one_form = one_form;
      written_length = written_length;
      writes = writes;
      keeps = keeps;
    }
