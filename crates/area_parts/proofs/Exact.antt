-- Reading and writing one part is exact. Assumes nothing.
use Rattle.area_parts.specs.Claims.{PartsExact}
use Rattle.area_parts.proofs.Anew.{shaped, head_there, buffer_there, slots_there, low_anew, buffer_anew}
use Rattle.area_parts.proofs.Storing.{store_there}

pub parts_exact_lem : PartsExact
parts_exact_lem =
    record {
      head_got = head_there;
      buffer_got = λ h n v. buffer_there h v n;
      slots_got = slots_there;
      low_put = λ h l v. low_anew h (shaped h v) l;
      buffer_put_lem = λ h n b v. buffer_anew h (shaped h v) n b;
      store_put = λ h n s l v. store_there h v n s l;
    }
