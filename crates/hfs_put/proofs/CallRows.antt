-- The calls of an item, one after another.
use Rattle.std.proofs.Common.{◌≡◌, ℕ, zero, suc, ◌+◌, ◌≤◌, length, drop, List, [], ◌∷◌, Option, None, Result, Ok, refl, sym, ◌∙◌, ap, subst, inl, inr, arith}
use Rattle.std.specs.Prelude.{slice_index_or}
use Rattle.std.specs.List.{cons_option}
use Rattle.std.proofs.lemmas.List.{drop_all}
use Rattle.hfs_model.specs.declared.call.Call.{Call}
use Rattle.hfs_model.specs.declared.reply.Reply.{Reply}
use Rattle.hfs_model.specs.Volume.{Volume}
use Rattle.hfs_put_plan.proofs.AcceptedCalls.{all-option}
use Rattle.hfs_put_plan.specs.Accepted.{next, all_accepted}
use Rattle.hfs_put_plan.specs.declared.calls.TheConstants.{MAKING_CALLS, ENDING_CALLS}
use Rattle.hfs_put_plan.specs.declared.items.PutItem.{PutItem}
use Rattle.hfs_put_plan.specs.Calls.{somes, making, ending}
use Rattle.hfs_put_plan.specs.Put.{Refused, at_place}
use Rattle.hfs_put.specs.Faults.{IsCallFault, IsLayFault, fault_at}
use Rattle.hfs_put.specs.declared.faults.CallFault.{CallFault}
use Rattle.hfs_put.specs.declared.faults.CallFault.TheVariants as call_fault
use Rattle.hfs_put.specs.declared.faults.LayFault.{LayFault}
use Rattle.hfs_put.specs.declared.faults.LayFault.TheVariants as lay_fault
use Rattle.hfs_put_plan.proofs.FewCalls.{few-making, few-ending}

-- ---- faults of what comes first are those of all

pub next-fault : {A B : Type 0} (r : Result A Reply) (f : A → Result B Reply) (image : List ℕ) (fault : CallFault) → IsCallFault r image fault → IsCallFault (next r f) image fault
next-fault r f image call_fault.NoMemory h = tt
next-fault r f image (call_fault.Refused reply) (inl e) = inl (ap (λ t. next t f) e)
next-fault r f image (call_fault.Refused reply) (inr wants) = inr wants

pub next-lay : {A B : Type 0} (r : Result A Refused) (f : A → Result B Refused) (image : List ℕ) (fault : LayFault) → IsLayFault r image fault → IsLayFault (next r f) image fault
next-lay r f image lay_fault.NoMemory h = tt
next-lay r f image (lay_fault.Absent place) h = tt
next-lay r f image (lay_fault.Refused place reply) (inl e) = inl (ap (λ t. next t f) e)
next-lay r f image (lay_fault.Refused place reply) (inr wants) = inr wants

pub at-place : {A : Type 0} (place : ℕ) (r : Result A Reply) (image : List ℕ) (fault : CallFault) → IsCallFault r image fault → IsLayFault (at_place place r) image (fault_at place fault)
at-place place r image call_fault.NoMemory h = tt
at-place place r image (call_fault.Refused reply) (inl e) = inl (ap (at_place place) e)
at-place place r image (call_fault.Refused reply) (inr wants) = inr wants

-- ---- a row of calls that there may be

somes-at : (xs : List (Option Call)) (i : ℕ) → somes (drop i xs) ≡ cons_option (slice_index_or xs i None) (somes (drop (i + 1) xs))
somes-at [] zero = refl
somes-at [] (suc i) = let on : suc i + 1 ≡ suc (i + 1) = omega arith in ap (λ (k : ℕ). somes (drop {A = Option Call} k [])) (sym on)
somes-at (x ∷ xs) zero = refl
somes-at (x ∷ xs) (suc i) = let on : suc i + 1 ≡ suc (i + 1) = omega arith in
    somes-at xs i ∙ ap (λ (k : ℕ). cons_option (slice_index_or xs i None) (somes (drop k (x ∷ xs)))) (sym on)

module _ (xs : List (Option Call)) where
  abbrev pub rest : Volume → ℕ → Result Volume Reply
  rest v i = all_accepted v (somes (drop i xs))

  first-of : (v : Volume) (i : ℕ) → rest v i ≡ next (all_accepted v (cons_option (slice_index_or xs i None) [])) (λ w. rest w (i + 1))
  first-of v i = ap (all_accepted v) (somes-at xs i) ∙ all-option v (slice_index_or xs i None) (somes (drop (i + 1) xs))

  pub row-step : (v₀ v w : Volume) (i : ℕ) (o : Option Call) → o ≡ slice_index_or xs i None → all_accepted v (cons_option o []) ≡ Ok w
      → all_accepted v₀ (somes xs) ≡ rest v i → all_accepted v₀ (somes xs) ≡ rest w (i + 1)
  row-step v₀ v w i o same done before =
      before ∙ first-of v i ∙ ap (λ (p : Option Call). next (all_accepted v (cons_option p [])) (λ u. rest u (i + 1))) (sym same)
      ∙ ap (λ (r : Result Volume Reply). next r (λ u. rest u (i + 1))) done

  pub row-fault : (v₀ v : Volume) (i : ℕ) (o : Option Call) (image : List ℕ) (fault : CallFault) → o ≡ slice_index_or xs i None
      → IsCallFault (all_accepted v (cons_option o [])) image fault → all_accepted v₀ (somes xs) ≡ rest v i → IsCallFault (all_accepted v₀ (somes xs)) image fault
  row-fault v₀ v i o image fault same h before =
      subst (λ (r : Result Volume Reply). IsCallFault r image fault)
      (sym (before ∙ first-of v i ∙ ap (λ (p : Option Call). next (all_accepted v (cons_option p [])) (λ u. rest u (i + 1))) (sym same)))
      (next-fault (all_accepted v (cons_option o [])) (λ u. rest u (i + 1)) image fault h)

  pub row-done : (v₀ v : Volume) (i : ℕ) → length xs ≤ i → all_accepted v₀ (somes xs) ≡ rest v i → all_accepted v₀ (somes xs) ≡ Ok v
  row-done v₀ v i few before = before ∙ ap (λ (l : List (Option Call)). all_accepted v (somes l)) (drop_all i xs few)

-- ---- no item has more calls than these numbers say

pub few-made : (dir : ℕ) (item : PutItem) (now : ℕ) → length (making dir item now) ≤ MAKING_CALLS
few-made dir item now = few-making item.kind dir item now

pub few-ended : (dir : ℕ) (item : PutItem) (now : ℕ) → length (ending dir item now) ≤ ENDING_CALLS
few-ended dir item now = few-ending item.kind dir item now
