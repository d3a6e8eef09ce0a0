-- An item that was to be kept, and isn't there.
use Rattle.std.proofs.Common.{◌≡◌, ℕ, zero, suc, ◌+◌, ◌<◌, get_or, length, take, List, [], ◌∷◌, ◌++◌, Some, None, Result, Ok, Err, refl, sym, ◌∙◌, ap, subst, arith}
use Rattle.std.specs.Prelude.{slice_get}
use Rattle.std.proofs.Math.Seq.{take-suc}
use Rattle.std.proofs.lemmas.List.{length-take-le}
use Rattle.hfs_model.specs.Volume.{Volume}
use Rattle.hfs_put_plan.specs.declared.items.PutItem.{PutItem}
use Rattle.hfs_put_plan.specs.Accepted.{next, all_accepted}
use Rattle.hfs_put_plan.specs.Calls.{somes, making}
use Rattle.hfs_put_plan.specs.Put.{Open, Placed, Refused, folder_id, left}
use Rattle.hfs_put.specs.Faults.{IsAbsentAt, IsNoAbsence, fault_at}
use Rattle.hfs_put.specs.Laying.{IsAbsence, LacksItem, LacksName, LacksOne, front_laid, id_told, one_laid}
use Rattle.hfs_put.specs.declared.faults.CallFault.{CallFault}
use Rattle.hfs_put.specs.declared.faults.CallFault.TheVariants as call_fault
use Rattle.hfs_put.specs.declared.faults.LayFault.{LayFault}
use Rattle.hfs_put.specs.declared.faults.LayFault.TheVariants as lay_fault

-- ---- which faults tell none as absent

pub call_tells_none : (place at : ℕ) (fault : CallFault) (Fact : Type 0) → IsAbsentAt at Fact (fault_at place fault)
call_tells_none place at call_fault.NoMemory Fact = tt
call_tells_none place at (call_fault.Refused reply) Fact = tt

pub none_is_absent : (place : ℕ) (fault : CallFault) → IsNoAbsence (fault_at place fault)
none_is_absent place fault = call_tells_none place 0 fault ⊥

pub other_is_absent : (place : ℕ) (Fact : Type 0) (fault : LayFault) → IsNoAbsence fault → IsAbsentAt place Fact fault
other_is_absent place Fact lay_fault.NoMemory h = tt
other_is_absent place Fact (lay_fault.Absent at) h = absurd h.1
other_is_absent place Fact (lay_fault.Refused at reply) h = tt

pub memory_is_absent : (place : ℕ) (Fact : Type 0) (fault : LayFault) → fault ≡ lay_fault.NoMemory → IsAbsentAt place Fact fault
memory_is_absent place Fact fault is = subst (IsAbsentAt place Fact) (sym is) tt

-- ---- once the folders are left

pub lacks_one : (target now place : ℕ) (item : PutItem) (v u w : Volume) (folders opens : List Open) (fault : LayFault) → left item.parent v folders ≡ Ok (u, opens)
    → IsAbsentAt place (LacksName now (folder_id target opens) item u w) fault → IsAbsentAt place (LacksOne target now item v folders w) fault
lacks_one target now place item v u w folders opens lay_fault.NoMemory is h = tt
lacks_one target now place item v u w folders opens (lay_fault.Absent at) is h = (h.0, record { behind = (u, opens); left_is = is; lacks = h.1 })
lacks_one target now place item v u w folders opens (lay_fault.Refused at reply) is h = tt

-- in the folder of that ID
pub lacks_there : (now dir : ℕ) (other : ℕ) (item : PutItem) (v w : Volume) → dir ≡ other → LacksName now dir item v w → LacksName now other item v w
lacks_there now dir other item v w same h = subst (λ (n : ℕ). LacksName now n item v w) same h

pub lacks_name : (now dir : ℕ) (item : PutItem) (v w : Volume) → all_accepted v (somes (making dir item now)) ≡ Ok w → None ≡ id_told w dir item.name → LacksName now dir item v w
lacks_name now dir item v w made none = (made, sym none)

-- ---- the list

module _ (target now : ℕ) where
  front-append : (place : ℕ) (v : Volume) (folders : List Open) (xs ys : List PutItem) → front_laid target now place v folders (xs ++ ys)
      ≡ next (front_laid target now place v folders xs) (λ (s : Volume × List Open). front_laid target now (place + length xs) s.0 s.1 ys)
  front-append place v folders [] ys = let same : place ≡ place + 0 = omega arith in ap (λ (n : ℕ). front_laid target now n v folders ys) same
  front-append place v folders (x ∷ xs) ys = by (one_laid target now place x v folders) (λ p. front-append (place + 1) p.volume p.folders xs ys)
    where
      by : (r : Result Placed Refused) → ((p : Placed) → front_laid target now (place + 1) p.volume p.folders (xs ++ ys)
          ≡ next (front_laid target now (place + 1) p.volume p.folders xs) (λ (s : Volume × List Open). front_laid target now (place + 1 + length xs) s.0 s.1 ys))
          → next r (λ (p : Placed). front_laid target now (place + 1) p.volume p.folders (xs ++ ys))
          ≡ next (next r (λ (p : Placed). front_laid target now (place + 1) p.volume p.folders xs)) (λ (s : Volume × List Open). front_laid target now (place + length (x ∷ xs)) s.0 s.1 ys)
      by (Ok p) rest =
          let same : place + 1 + length xs ≡ place + length (x ∷ xs) = omega arith in
          rest p ∙ ap (λ (n : ℕ). next (front_laid target now (place + 1) p.volume p.folders xs) (λ (s : Volume × List Open). front_laid target now n s.0 s.1 ys)) same
      by (Err refused) rest = refl

  pub front_next : (items : List PutItem) (i id : ℕ) (v w u : Volume) (opens more : List Open) (item : PutItem) → i < length items → item ≡ get_or items i item
      → one_laid target now i item w opens ≡ Ok (record { volume = u; id = id; folders = more }) → front_laid target now 0 v [] (take i items) ≡ Ok (w, opens)
      → front_laid target now 0 v [] (take (i + 1) items) ≡ Ok (u, more)
  front_next items i id v w u opens more item within is done before =
      let one_more : i + 1 ≡ suc i = omega arith in
      let front : take (i + 1) items ≡ take i items ++ item ∷ [] =
      ap (λ (n : ℕ). take n items) one_more ∙ take-suc items i item within ∙ ap (λ (x : PutItem). take i items ++ x ∷ []) (sym is) in
      let len = length-take-le i items (omega (arith, within)) in
      let place : 0 + length (take i items) ≡ i = omega (arith, len) in
      ap (front_laid target now 0 v []) front ∙ front-append 0 v [] (take i items) (item ∷ [])
      ∙ ap (λ (r : Result (Volume × List Open) Refused). next r (λ (s : Volume × List Open). front_laid target now (0 + length (take i items)) s.0 s.1 (item ∷ []))) before
      ∙ ap (λ (n : ℕ). front_laid target now n w opens (item ∷ [])) place
      ∙ ap (λ (r : Result Placed Refused). next r (λ (p : Placed). front_laid target now (i + 1) p.volume p.folders [])) done

  slice-at : (xs : List PutItem) (i : ℕ) (d : PutItem) → i < length xs → slice_get xs i ≡ Some (get_or xs i d)
  slice-at [] i d lt = absurd (omega (arith, lt))
  slice-at (x ∷ xs) zero d lt = refl
  slice-at (x ∷ xs) (suc i) d lt = slice-at xs i d (omega (arith, lt))

  pub absence_is : (items : List PutItem) (i : ℕ) (v u w : Volume) (opens : List Open) (item : PutItem) (fault : LayFault) → i < length items → item ≡ get_or items i item
      → front_laid target now 0 v [] (take i items) ≡ Ok (u, opens) → IsAbsentAt i (LacksOne target now item u opens w) fault → IsAbsence target now items v w fault
  absence_is items i v u w opens item lay_fault.NoMemory within is before h = tt
  absence_is items i v u w opens item (lay_fault.Absent at) within is before h =
      subst (LacksItem target now items v w) (sym h.0)
      (record { front = (u, opens); laid = before; item = item; there = slice-at items i item within ∙ ap (λ (x : PutItem). Some x) (sym is); lacks = h.1 })
  absence_is items i v u w opens item (lay_fault.Refused at reply) within is before h = tt

  pub no_absence : (items : List PutItem) (v w : Volume) (fault : LayFault) → IsNoAbsence fault → IsAbsence target now items v w fault
  no_absence items v w lay_fault.NoMemory h = tt
  no_absence items v w (lay_fault.Absent at) h = absurd h.1
  no_absence items v w (lay_fault.Refused at reply) h = tt
