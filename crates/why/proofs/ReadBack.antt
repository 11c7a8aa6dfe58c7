-- A reason can be read back from its numbers. Assumes nothing.
use Prim.Native.Nat.{ℕ}
use mathlib.Core.Path.{◌≡◌, refl, sym, ◌∙◌, ap}
use mathlib.Core.Bool.{Bool, false, cond}
use mathlib.Core.List.{List}
use lib.Dec.{eqb}
use lib.ListN.{get_or}
use Rattle.port.specs.declared.Changes.{Changes}
use Rattle.port.specs.Status.{byte_of, change_low}
use Rattle.port.specs.Words.{bits_of}
use Rattle.port.proofs.Bits.{bits_back}
use Rattle.why.specs.declared.RequestFault.{RequestFault}
use Rattle.why.specs.declared.RequestFault.TheVariants as wrong
use Rattle.why.specs.declared.PortChanges.{PortChanges}
use Rattle.why.specs.declared.ReasonBytes.{ReasonBytes}
use Rattle.why.specs.declared.Reason.{Reason}
use Rattle.why.specs.declared.Reason.TheVariants.{Nothing, Number, HeldBy, Reused, TookFree, LimitReached, NoRoom, Changed, Wrong}
use Rattle.why.specs.Said.{place}
use Rattle.why.specs.Bytes.{bytes_of, ReasonsApart}

fault_from : ℕ → RequestFault
fault_from n =
    cond (eqb n 0) wrong.TypeOrCode (cond (eqb n 1) wrong.Unconfigured (cond (eqb n 2) wrong.Value (cond (eqb n 3) wrong.Index wrong.Length)))

fault_back : (w : RequestFault) → fault_from (place w) ≡ w
unfolding fault_from
fault_back wrong.TypeOrCode = refl
fault_back wrong.Unconfigured = refl
fault_back wrong.Value = refl
fault_back wrong.Index = refl
fault_back wrong.Length = refl

abbrev bits_from : List Bool → Changes
bits_from l =
    record {
      connection = get_or l 0 false;
      enable = get_or l 1 false;
      suspend = get_or l 2 false;
      overcurrent = get_or l 3 false;
      reset = get_or l 4 false;
    }

changes_from : ℕ → Changes
changes_from n = bits_from (bits_of 8 n)

changes_back : (c : Changes) → changes_from (byte_of (change_low c)) ≡ c
unfolding changes_from
changes_back c = ap bits_from (bits_back (change_low c))

abbrev port_changes_from : List ℕ → PortChanges
port_changes_from l =
    record {
      port1 = changes_from (get_or l 0 0);
      port2 = changes_from (get_or l 1 0);
      port3 = changes_from (get_or l 2 0);
      port4 = changes_from (get_or l 3 0);
      port5 = changes_from (get_or l 4 0);
      port6 = changes_from (get_or l 5 0);
      port7 = changes_from (get_or l 6 0);
    }

reason_from : ReasonBytes → Reason
reason_from t =
    cond (eqb t.kind 0) Nothing
    (cond (eqb t.kind 1) (Number t.value)
    (cond (eqb t.kind 2) (HeldBy (record { 0 = t.value }))
    (cond (eqb t.kind 3) (Reused (record { 0 = t.value }))
    (cond (eqb t.kind 4) (TookFree (record { 0 = t.value }))
    (cond (eqb t.kind 5) LimitReached
    (cond (eqb t.kind 6) NoRoom
    (cond (eqb t.kind 7) (Changed (port_changes_from t.changes)) (Wrong (fault_from t.value)))))))))

reason_back : (r : Reason) → reason_from (bytes_of r) ≡ r
unfolding reason_from
reason_back Nothing = refl
reason_back (Number n) = refl
reason_back (HeldBy b) = refl
reason_back (Reused b) = refl
reason_back (TookFree b) = refl
reason_back LimitReached = refl
reason_back NoRoom = refl
reason_back (Changed f) =
    rw (changes_back f.port1, changes_back f.port2, changes_back f.port3, changes_back f.port4, changes_back f.port5, changes_back f.port6, changes_back f.port7)
reason_back (Wrong w) = ap Wrong (fault_back w)

pub reasons_apart_lem : ReasonsApart
reasons_apart_lem r s e = sym (reason_back r) ∙ ap reason_from e ∙ reason_back s
