-- Faults that there are exactly where a fact doesn't hold.
use Rattle.std.proofs.Common.{◌≡◌, ℕ, Bool, true, false, Option, Some, None, refl, sym}
use Rattle.std.specs.Prelude.{◌↔◌}
use Rattle.std.specs.Bool.{Decides}
use Rattle.std.proofs.lemmas.Bool.{true≢false}
use Rattle.std.proofs.lemmas.Option.{none-some}
use Rattle.hfs_btree_checks.specs.Shape.{unless, ◌or_else◌}
use Rattle.hfs_check.specs.declared.mount_fault.MountFault.{MountFault}
use Rattle.hfs_check.specs.Faults.{◌or_fault◌, fault_unless, check_fault}

-- there is none exactly where the fact holds
abbrev pub IsExact : {A : Type 0} → Option A → Type 0 → Type 0
IsExact fault Fact = (fault ≡ None) ↔ Fact

module _ {P Q : Type 0} where
  pub alike : {A : Type 0} (fault : Option A) → (P → Q) → (Q → P) → IsExact fault P → IsExact fault Q
  alike fault f g d = (λ e. f (d.0 e), λ q. d.1 (g q))

  -- ---- places

  pub both_places : (first second : Option ℕ) → IsExact first P → IsExact second Q → IsExact (first or_else second) (P × Q)
  both_places None second d k = (λ e. (d.0 refl, k.0 e), λ h. k.1 h.1)
  both_places (Some i) second d k = (λ e. absurd (none-some i (sym e)), λ h. absurd (none-some i (sym (d.1 h.0))))

  -- ---- faults

  -- the second where the first fact holds
  pub both_given : (first second : Option MountFault) → IsExact first P → (P → IsExact second Q) → IsExact (first or_fault second) (P × Q)
  both_given None second d k = (λ e. (d.0 refl, (k (d.0 refl)).0 e), λ h. (k h.0).1 h.1)
  both_given (Some fault) second d k = (λ e. absurd (none-some fault (sym e)), λ h. absurd (none-some fault (sym (d.1 h.0))))

  pub both : (first second : Option MountFault) → IsExact first P → IsExact second Q → IsExact (first or_fault second) (P × Q)
  both first second d k = both_given first second d (λ _. k)

module _ {P : Type 0} where
  pub by_unless : (b : Bool) → Decides b P → IsExact (unless b) P
  by_unless true d = (λ _. d.0 refl, λ _. refl)
  by_unless false d = (λ e. absurd (none-some 0 (sym e)), λ h. absurd (true≢false (sym (d.1 h))))

  pub by_test : (fault : MountFault) (b : Bool) → Decides b P → IsExact (fault_unless fault b) P
  by_test fault true d = (λ _. d.0 refl, λ _. refl)
  by_test fault false d = (λ e. absurd (none-some fault (sym e)), λ h. absurd (true≢false (sym (d.1 h))))

  pub by_place : (number : ℕ) (place : Option ℕ) → IsExact place P → IsExact (check_fault number place) P
  by_place number None d = (λ _. d.0 refl, λ _. refl)
  by_place number (Some i) d = (λ e. absurd (none-some _ (sym e)), λ h. absurd (none-some i (sym (d.1 h))))
