-- One item is put, once the folders are left in which it doesn't lie.
use Rattle.std.proofs.Common.{◌≡◌, ℕ, List, Result, Ok, Err, refl, sym, ◌∙◌, ap, subst}
use Rattle.hfs_model.specs.declared.reply.Reply.{Reply}
use Rattle.hfs_model.specs.Volume.{Volume}
use Rattle.hfs_put_plan.specs.declared.items.PutItem.{PutItem}
use Rattle.hfs_put_plan.specs.Accepted.{next, all_accepted}
use Rattle.hfs_put_plan.specs.Calls.{somes, making, ending}
use Rattle.hfs_put_plan.specs.Put.{Open, Placed, Refused, at_place, filling, folder_id, id_named, left, opened}
use Rattle.hfs_put.specs.Faults.{IsCallFault, IsLayFault, fault_at}
use Rattle.hfs_put.specs.Laying.{bare, one_laid, placed_in, standing}
use Rattle.hfs_put.specs.declared.faults.CallFault.{CallFault}
use Rattle.hfs_put.specs.declared.faults.LayFault.{LayFault}
use Rattle.hfs_put.proofs.CallRows.{at-place, next-fault, next-lay}

module _ (now dir : ℕ) (item : PutItem) where
  abbrev filled : Volume → Result Volume Reply
  filled made = all_accepted made (filling item.kind dir (bare item) now)

  abbrev with_id : Volume → Volume → Result (Volume × ℕ) Reply
  with_id made done = Ok (done, id_named made dir item.name)

  made-then : (v made : Volume) → all_accepted v (somes (making dir item now)) ≡ Ok made → standing now dir item v ≡ next (filled made) (with_id made)
  made-then v made is = ap (λ (r : Result Volume Reply). next r (λ m. next (filled m) (with_id m))) is

  pub stands : (v made done : Volume) (id : ℕ) → all_accepted v (somes (making dir item now)) ≡ Ok made → id ≡ id_named made dir item.name
      → filled made ≡ Ok done → standing now dir item v ≡ Ok (done, id)
  stands v made done id is own filling_is =
      made-then v made is ∙ ap (λ (r : Result Volume Reply). next r (with_id made)) filling_is ∙ ap (λ (n : ℕ). Ok (done, n)) (sym own)

  pub make_fault : (v : Volume) (image : List ℕ) (fault : CallFault) → IsCallFault (all_accepted v (somes (making dir item now))) image fault
      → IsCallFault (standing now dir item v) image fault
  make_fault v image fault h = next-fault (all_accepted v (somes (making dir item now))) (λ m. next (filled m) (with_id m)) image fault h

  pub end_fault : (v made : Volume) (image : List ℕ) (fault : CallFault) → all_accepted v (somes (making dir item now)) ≡ Ok made
      → IsCallFault (filled made) image fault → IsCallFault (standing now dir item v) image fault
  end_fault v made image fault is h =
      subst (λ (r : Result (Volume × ℕ) Reply). IsCallFault r image fault) (sym (made-then v made is)) (next-fault (filled made) (with_id made) image fault h)

module _ (target now place : ℕ) (item : PutItem) (v : Volume) (folders : List Open) where
  abbrev dir : ℕ
  dir = folder_id target folders

  abbrev as_placed : Volume × ℕ → Result Placed Refused
  as_placed s = Ok (record {
    volume = s.0;
    id = s.1;
    folders = opened item.kind (record { place = place; id = s.1; ending = somes (ending dir item now) }) folders;
  })

  abbrev first : Volume → Result Volume Reply
  first made = all_accepted made (filling item.kind dir (bare item) now)

  abbrev whole : Volume → Volume → Result Placed Reply
  whole made done = Ok (record {
    volume = done;
    id = id_named made dir item.name;
    folders = opened item.kind (record { place = place; id = id_named made dir item.name; ending = somes (ending dir item now) }) folders;
  })

  abbrev brief : Volume → Volume → Result (Volume × ℕ) Reply
  brief made done = Ok (done, id_named made dir item.name)

  placed-then : (made : Volume) (r : Result Volume Reply) → at_place place (next r (whole made)) ≡ next (at_place place (next r (brief made))) as_placed
  placed-then made (Ok done) = refl
  placed-then made (Err reply) = refl

  placed-first : (r : Result Volume Reply) → at_place place (next r (λ made. next (first made) (whole made)))
      ≡ next (at_place place (next r (λ made. next (first made) (brief made)))) as_placed
  placed-first (Ok made) = placed-then made (first made)
  placed-first (Err reply) = refl

  placed-by : placed_in target now place item v folders ≡ next (at_place place (standing now dir item v)) as_placed
  placed-by = placed-first (all_accepted v (somes (making dir item now)))

  pub is_placed : (d : ℕ) (w : Volume) (id : ℕ) (opens : List Open) → d ≡ dir → standing now d item v ≡ Ok (w, id)
      → opens ≡ opened item.kind (record { place = place; id = id; ending = somes (ending d item now) }) folders
      → placed_in target now place item v folders ≡ Ok (record { volume = w; id = id; folders = opens })
  is_placed d w id opens there stood open_is =
      placed-by
      ∙ ap (λ (n : ℕ). next (at_place place (standing now n item v)) as_placed) (sym there)
      ∙ ap (λ (r : Result (Volume × ℕ) Reply). next (at_place place r) as_placed) stood
      ∙ ap (λ (n : ℕ). Ok (record { volume = w; id = id; folders = opened item.kind (record { place = place; id = id; ending = somes (ending n item now) }) folders })) (sym there)
      ∙ ap (λ (os : List Open). Ok (record { volume = w; id = id; folders = os })) (sym open_is)

  pub placed_fault : (d : ℕ) (image : List ℕ) (fault : CallFault) → d ≡ dir → IsCallFault (standing now d item v) image fault
      → IsLayFault (placed_in target now place item v folders) image (fault_at place fault)
  placed_fault d image fault there h =
      subst (λ (r : Result Placed Refused). IsLayFault r image (fault_at place fault)) (sym placed-by)
      (next-lay (at_place place (standing now dir item v)) as_placed image (fault_at place fault)
      (at-place place (standing now dir item v) image fault (subst (λ (n : ℕ). IsCallFault (standing now n item v) image fault) there h)))

  -- ---- once the folders are left

  pub left_fault_first : (image : List ℕ) (fault : LayFault) → IsLayFault (left item.parent v folders) image fault → IsLayFault (one_laid target now place item v folders) image fault
  left_fault_first image fault h = next-lay (left item.parent v folders) (λ (s : Volume × List Open). placed_in target now place item s.0 s.1) image fault h

  pub one_is : (w : Volume) (opens : List Open) → left item.parent v folders ≡ Ok (w, opens)
      → one_laid target now place item v folders ≡ placed_in target now place item w opens
  one_is w opens is = ap (λ (r : Result (Volume × List Open) Refused). next r (λ (s : Volume × List Open). placed_in target now place item s.0 s.1)) is
