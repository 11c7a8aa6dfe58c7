-- The claims of specs/Claims.antt. Assumes nothing.
use Rattle.translator.specs.Claims.{StaysValid, TranslatorClaims}
use Rattle.translator.proofs.Kept.{new_valid, start_valid, complete_valid, launch_valid, deliver_valid, clear_valid, reset_valid}
use Rattle.translator.proofs.Ranks.{ranks_keep_order}
use Rattle.translator.proofs.Calls.{refused_same, launches_earliest, stored_last, same_again, old_kept, abandoned_dropped, lane_limit, lane_reset}

pub stays_valid : StaysValid
stays_valid =
    record {
      new = new_valid;
      start = λ t s l v. start_valid t v s l;
      complete = λ t k v. complete_valid t v k;
      launched = λ t v. launch_valid t v;
      delivered = λ t r l v. deliver_valid t v r l;
      cleared = λ t k v. clear_valid t v k;
      reset = λ t l v. reset_valid t v l;
      empty = λ t v. new_valid t.count v.least v.most;
    }

pub translator_claims_lem : TranslatorClaims
translator_claims_lem =
    record {
      stays_valid = stays_valid;
      refused_same = refused_same;
      ranks_keep_order = ranks_keep_order;
      launches_earliest = launches_earliest;
      stored_last = stored_last;
      same_again = same_again;
      old_kept = old_kept;
      abandoned_dropped = abandoned_dropped;
      lane_limit = lane_limit;
      lane_reset = lane_reset;
    }
