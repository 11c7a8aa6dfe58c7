-- Rules with one mistake about lanes each, and the claim that shuts each out.
-- A reader must believe: each rule below is the translator's but for one call, and its comment says how.
use Rattle.std.specs.Prelude.{ℕ, Bool, cond, ◌&&◌, List, eqb, take}
use Rattle.buffer.specs.declared.Key.{Key}
use Rattle.buffer.specs.declared.Buffer.{Buffer}
use Rattle.buffer.specs.Key as key
use Rattle.buffer.specs.Same.{same_direction}
use Rattle.buffer.specs.Buffer.{in_lane}
use Rattle.translator.specs.declared.Choice.{Choice}
use Rattle.translator.specs.declared.Choice.TheVariants.{NoRoom, LimitReached, Held, Reused, Took}
use Rattle.translator.specs.Translator.{emptied, tally}
use Rattle.translator.specs.Search.{find, chosen}
use Rattle.translator.specs.Limit.{held_by, may_store, limited, permitted}
use Rattle.translator.specs.StartSplit.{start_by}
use Rattle.translator.specs.CompleteSplit.{complete_at}
use Rattle.runs.specs.Altered.{TranslatorRules, with_start, with_complete, with_reset, step_by, altered, holds_key}
use Rattle.runs.specs.Demand3.{LaneHidden}
use Rattle.runs.specs.Tally.{active_buffers, TallyHolds}
use Rattle.runs.specs.Share.{LaneShare}
use Rattle.runs.specs.Refusals.{Refusals}

-- ---- a complete-split is matched without its lane

abbrev pub same_pipe : Key → Key → Bool
same_pipe a b = eqb a.address.0 b.address.0 && (eqb a.endpoint b.endpoint && same_direction a.direction b.direction)

abbrev pub without_lanes : TranslatorRules
without_lanes = with_complete (λ t k. complete_at t (find (holds_key (same_pipe k)) (take t.count t.buffers)))

-- ---- ResetTT from a lane empties both

abbrev pub both_emptied : TranslatorRules
both_emptied = with_reset (λ t z. emptied t)

-- ---- another limit: a start-split does what g says of the count, the key and the buffers in use

abbrev pub starting_by : (ℕ → Key → List Buffer → Choice) → TranslatorRules
starting_by g = with_start (λ t s l. start_by t s l (g t.count (key.key_of s) (take t.count t.buffers)))

-- none
abbrev pub no_limit : ℕ → Key → List Buffer → Choice
no_limit b k bs = chosen k bs

-- old buffers count too
abbrev pub old_count : ℕ → Key → List Buffer → Choice
old_count b k bs = limited (may_store b (tally (in_lane k.lane) bs)) (chosen k bs)

-- an own old buffer is reused past it
abbrev pub unless_reused : Choice → Choice → Choice
unless_reused NoRoom c = c
unless_reused LimitReached c = c
unless_reused (Held n) c = c
unless_reused (Reused n) c = Reused n
unless_reused (Took n) c = c

abbrev pub own_old_passes : ℕ → Key → List Buffer → Choice
own_old_passes b k bs = unless_reused (chosen k bs) (permitted b k bs)

-- it is looked at before the repeat
abbrev pub limit_first : ℕ → Key → List Buffer → Choice
limit_first b k bs = cond (may_store b (held_by k.lane bs)) (chosen k bs) LimitReached

pub record LaneMistakesShutOut : Type 0 where
  pub without_lanes_lem : ¬ (LaneHidden (altered without_lanes))
  pub both_emptied_lem : ¬ (TallyHolds (altered both_emptied) active_buffers)
  pub no_limit_lem : ¬ (LaneShare (altered (starting_by no_limit)))
  pub old_count_lem : ¬ (LaneShare (altered (starting_by old_count)))
  pub own_old_passes_lem : ¬ (LaneShare (altered (starting_by own_old_passes)))
  pub limit_first_lem : ¬ (Refusals (step_by (starting_by limit_first)))
