-- The claims on every setup packet.
-- Assumes nothing.
use Prim.Native.Nat.{ℕ, ◌+◌, ◌*◌, ◌/◌, ◌%◌, ◌<◌}
use mathlib.Core.Path.{◌≡◌, subst}
use mathlib.Core.List.{List}
use native.Mathlib.Omega.{arith}
use Rattle.std.specs.Prelude.{Some, Result, Ok, Err}
use Rattle.request.specs.declared.Fault.{Fault}
use Rattle.request.specs.declared.Kind.{Kind}
use Rattle.request.specs.declared.Request.{Request}
use Rattle.request.specs.Setup.{setup_of}
use Rattle.request.specs.Table.{kind_of}
use Rattle.request.specs.Request.{request_of}
use Rattle.request.specs.Fields.{AsksFor}
use Rattle.request.specs.Ranges.{InRange}
use Rattle.request.specs.Claims.{RequestClaims}
use Rattle.request.proofs.Exact.{TypeAndCode, Named, named_by, checks, asks, reads, ranged}

-- of what is read: if it is a request, its fields ask for it
abbrev Asked : ℕ → List ℕ → Result Request Fault → Type 0
Asked n b (Ok r) = AsksFor n (setup_of b) r
Asked n b (Err f) = Unit {0}

-- the same of its ranges
abbrev Ranged : ℕ → Result Request Fault → Type 0
Ranged n (Ok r) = InRange n r
Ranged n (Err f) = Unit {0}

-- a row that type and code name has them
named : (t c : ℕ) (k : Kind) → kind_of t c ≡ Some k → TypeAndCode t c k
named t c k e = subst (Named t c) e (named_by t c)

read-asks : (n : ℕ) (b : List ℕ) → (setup_of b).value < 65536 → Asked n b (request_of n b)
unfolding request_of
read-asks n b h =
    let s = setup_of b in
    checks (Asked n b) n (kind_of s.requesttype s.code) s.value s.index s.length (λ f. tt)
    (λ k e. asks n s.requesttype s.code s.value s.index s.length k h (named s.requesttype s.code k e))

read_ranged : (n : ℕ) (b : List ℕ) → Ranged n (request_of n b)
unfolding request_of
read_ranged n b =
    let s = setup_of b in
    checks (Ranged n) n (kind_of s.requesttype s.code) s.value s.index s.length (λ f. tt) (λ k _ x y z. ranged n k s.value s.index s.length y)

word_back : (v : ℕ) → v % 256 + 256 * (v / 256) ≡ v
word_back v = omega arith

pub request_claims_lem : RequestClaims
unfolding request_of
request_claims_lem =
    record {
      exact = λ n b r h. (λ e. subst (Asked n b) e (read-asks n b h), reads n (setup_of b) r);
      bytes_back = λ s. rw (word_back s.value, word_back s.index, word_back s.length);
      in_range = λ n b r e. subst (Ranged n) e (read_ranged n b);
    }
