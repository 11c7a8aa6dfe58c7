-- The paths through the entry, over plain values. Assumes nothing.
use Prim.Native.Nat.{ℕ, ◌<◌, ◌^◌}
use native.Mathlib.Omega.{arith}
use mathlib.Core.Path.{◌≡◌, refl, sym, ◌∙◌, ap}
use mathlib.Core.Bool.{Bool, true, false, cond}
use mathlib.Core.List.{List}
use lib.ListN.{length}
use Rattle.hub.specs.declared.Hub.{Hub}
use Rattle.runs.specs.Tally.{active_buffers}
use Rattle.area.specs.Written.{written_over}
use Rattle.area.specs.Read.{read_of}
use Rattle.replay.specs.declared.Block.{Block}
use Rattle.replay.specs.Replay.{block_played}
use Rattle.replay.specs.Answers.{is_enough}
use Rattle.std.proofs.Common.{Option, Some, None}
use Rattle.call_bytes.proofs.Exact.{none_some, some_same}
use Rattle.replay.specs.Code.{gives, block_gives, block_writes}
use Rattle.grimholdi.proofs.Entries.{taken_hub}
use Rattle.grimholdi_replay.specs.declared.Replayed.{Replayed}
use Rattle.grimholdi_replay.specs.Entry.{refusal_number, plain_replayed, ReplayOutcome, refused, carried_out, block_entry}
use Rattle.grimholdi_replay.proofs.Kept.{played_kept, written_over_lem, played_short}

-- what was given says whether there was room
record Room (h : Hub) (p : ℕ) (b : List ℕ) (room : ℕ) (x : Block) : Type 0 where
  pub enough : is_enough room ≡ true
  pub is : x ≡ gives (block_played h p b)

room_none : (h : Hub) (p : ℕ) (b : List ℕ) (room : ℕ) → block_gives h p b room ≡ None → is_enough room ≡ false
unfolding block_gives
room_none h p b room e = go (is_enough room) refl e
  where
    go : (x : Bool) → is_enough room ≡ x → cond x (Some (gives (block_played h p b))) None ≡ None → is_enough room ≡ false
    go true q f = absurd (none_some (sym f))
    go false q f = q

room_some : (h : Hub) (p : ℕ) (b : List ℕ) (room : ℕ) (d : Block) → block_gives h p b room ≡ Some d → Room h p b room d
unfolding block_gives
room_some h p b room d e = go (is_enough room) refl e
  where
    go : (x : Bool) → is_enough room ≡ x → cond x (Some (gives (block_played h p b))) None ≡ Some d → Room h p b room d
    go true q f = record { enough = q; is = sym (some_same f) }
    go false q f = absurd (none_some f)

module _ (a : List ℕ) (p : ℕ) (b o : List ℕ) where
  -- what is returned, and what is left in the area and in the answers' space
  abbrev pub Gives : Replayed → List ℕ → List ℕ → Type 0
  Gives r a' o' = (r ≡ (block_entry a p b o).answer) × ((a' ≡ (block_entry a p b o).area) × (o' ≡ (block_entry a p b o).answers))

  gives_by : {r : Replayed} {a' o' : List ℕ} (g : ReplayOutcome) → block_entry a p b o ≡ g → r ≡ g.answer → a' ≡ g.area → o' ≡ g.answers → Gives r a' o'
  gives_by g e q s t =
      (q ∙ ap (λ (x : ReplayOutcome). x.answer) (sym e), (s ∙ ap (λ (x : ReplayOutcome). x.area) (sym e), t ∙ ap (λ (x : ReplayOutcome). x.answers) (sym e)))

  -- the area isn't taken
  pub refuses : None ≡ read_of a → {r : Replayed} → r ≡ plain_replayed 6 → Gives r a o
  unfolding block_entry
  refuses e s = gives_by (refused 6 a o) (rw (← e)) s refl refl

  module _ (h : Hub) (e : Some h ≡ read_of a) where
    module _ (gave : Option Block) (d : gave ≡ block_gives h p b (length o)) where
      -- too little space
      pub no_space : gave ≡ None → {r : Replayed} {o' : List ℕ} → r ≡ plain_replayed 7 → o' ≡ block_writes h p b o → Gives r a o'
      unfolding block_entry block_writes
      no_space n s t =
          let small : is_enough (length o) ≡ false = room_none h p b (length o) (sym d ∙ n) in
          gives_by (refused 7 a o) (rw (← e, small)) s refl (t ∙ rw small)

      module _ (done : Block) (some : gave ≡ Some done) where
        room : Room h p b (length o) done
        room = room_some h p b (length o) done (sym d ∙ some)

        done_is : done ≡ gives (block_played h p b)
        done_is = room.is

        pub length_fits_lem : done.written < 2 ^ 32
        length_fits_lem =
            omega (arith, ap (λ (x : Block). x.written) done_is, played_short h p b (taken_hub a h e).0)

        pub replays : {refusal active : ℕ} {a' o' : List ℕ} → refusal ≡ refusal_number done.verdict → active ≡ active_buffers done.hub
            → a' ≡ written_over done.hub a → o' ≡ block_writes h p b o
            → Gives
            (record {
              number = 0;
              refusal = refusal;
              active = active;
              stored = done.counts.stored;
              answered = done.counts.answered;
              emptied = done.counts.emptied;
              length = done.written;
            }) a' o'
        unfolding block_entry block_writes
        replays f n s t =
            gives_by (carried_out (block_played h p b) o) (rw (← e, room.enough))
            (λ i. record {
              number = 0;
              refusal = (f ∙ ap (λ (x : Block). refusal_number x.verdict) done_is) i;
              active = (n ∙ ap (λ (x : Block). active_buffers x.hub) done_is) i;
              stored = (done_is i).counts.stored;
              answered = (done_is i).counts.answered;
              emptied = (done_is i).counts.emptied;
              length = (done_is i).written;
            })
            (s ∙ ap (λ (x : Block). written_over x.hub a) done_is
            ∙ written_over_lem (taken_hub a h e).0 (taken_hub a h e).1 (played_kept h p b (taken_hub a h e).0))
            (t ∙ rw room.enough)
