-- A list is laid item by item.
use Rattle.std.proofs.Common.{◌≡◌, ℕ, ◌+◌, ◌<◌, ◌≤◌, get_or, length, drop, List, [], ◌∷◌, ◌++◌, map, None, Result, Ok, Err, refl, sym, ◌∙◌, ap, subst}
use Rattle.std.proofs.lemmas.List.{append_assoc, append-nil, drop_all, drop_more}
use Rattle.hfs_model.specs.Volume.{Volume}
use Rattle.hfs_put_plan.specs.declared.items.PutItem.{PutItem}
use Rattle.hfs_put_plan.specs.Accepted.{next}
use Rattle.hfs_put_plan.specs.Put.{Arrival, Open, Put, Placed, Refused, folder_id, laid_volume, left, placed, put_from, without_bytes}
use Rattle.hfs_put.specs.Faults.{IsLayFault}
use Rattle.hfs_put.specs.Laying.{AreLaid, IsFaultOfLaying, bare, item_of, one_laid}
use Rattle.hfs_put.specs.declared.faults.LayFault.{LayFault}
use Rattle.hfs_put.proofs.CallRows.{next-lay}

pub bare-all : (arrivals : List Arrival) → map without_bytes arrivals ≡ map bare (map item_of arrivals)
bare-all [] = refl
bare-all (a ∷ more) = ap (λ (l : List Arrival). bare a.item ∷ l) (bare-all more)

module _ (target now : ℕ) where
  pub laid-bare : (v : Volume) (items : List PutItem) (arrivals : List Arrival) → map item_of arrivals ≡ items
      → laid_volume v target now arrivals ≡ put_from target now 0 v [] (map bare items)
  laid-bare v items arrivals same = ap (put_from target now 0 v []) (bare-all arrivals ∙ ap (map bare) same)

  -- with these IDs before those of the rest
  abbrev pub with_ids : List ℕ → Put → Result Put Refused
  with_ids ids put = Ok (record { volume = put.volume; ids = ids ++ put.ids })

  abbrev pub rest_of : Volume → List Open → ℕ → List PutItem → Result Put Refused
  rest_of v folders place items = put_from target now place v folders (map bare items)

  abbrev more : ℕ → List PutItem → Placed → Result Put Refused
  more place items p = next (rest_of p.volume p.folders (place + 1) items) (λ (put : Put). Ok (record { volume = put.volume; ids = p.id ∷ put.ids }))

  one-first : (v : Volume) (folders : List Open) (place : ℕ) (item : PutItem) (items : List PutItem)
      → rest_of v folders place (item ∷ items) ≡ next (one_laid target now place item v folders) (more place items)
  one-first v folders place item items = by (left item.parent v folders)
    where
      by : (r : Result (Volume × List Open) Refused) → next r (λ (s : Volume × List Open). next (placed now place (folder_id target s.1) (bare item) s.0 s.1) (more place items))
          ≡ next (next r (λ (s : Volume × List Open). placed now place (folder_id target s.1) (bare item) s.0 s.1)) (more place items)
      by (Ok s) = refl
      by (Err refused) = refl

  joined : (ids : List ℕ) (id : ℕ) (r : Result Put Refused) → next (next r (λ (put : Put). Ok (record { volume = put.volume; ids = id ∷ put.ids }))) (with_ids ids)
      ≡ next r (with_ids (ids ++ id ∷ []))
  joined ids id (Ok put) = ap (λ (l : List ℕ). Ok (record { volume = put.volume; ids = l })) (sym (append_assoc ids (id ∷ []) put.ids))
  joined ids id (Err refused) = refl

  pub laid_first : (r : Result Put Refused) → next r (with_ids []) ≡ r
  laid_first (Ok put) = refl
  laid_first (Err refused) = refl

  pub laid_all : (v w : Volume) (items : List PutItem) (ids : List ℕ) → rest_of v [] 0 items ≡ Ok (record { volume = w; ids = ids }) → AreLaid target now items v w ids
  laid_all v w items ids is = λ arrivals same. laid-bare v items arrivals same ∙ is

  pub fault_all : (v : Volume) (items : List PutItem) (image : List ℕ) (fault : LayFault) → IsLayFault (rest_of v [] 0 items) image fault
      → IsFaultOfLaying target now items v image fault
  fault_all v items image fault h = record {
    whatever_bytes = λ arrivals same. subst (λ (r : Result Put Refused). IsLayFault r image fault) (sym (laid-bare v items arrivals same)) h;
  }

  module _ (items : List PutItem) (all : Result Put Refused) where
    -- what is left to do from here
    abbrev pub AreLeft : List ℕ → Volume → List Open → ℕ → Type 0
    AreLeft ids v folders place = all ≡ next (rest_of v folders place (drop place items)) (with_ids ids)

    here : (ids : List ℕ) (v : Volume) (folders : List Open) (place : ℕ) (item : PutItem) → place < length items → item ≡ get_or items place item
        → AreLeft ids v folders place → all ≡ next (next (one_laid target now place item v folders) (more place (drop (place + 1) items))) (with_ids ids)
    here ids v folders place item within is before =
        before
        ∙ ap (λ (l : List PutItem). next (rest_of v folders place l) (with_ids ids)) (drop_more items place item within ∙ ap (λ (x : PutItem). x ∷ drop (place + 1) items) (sym is))
        ∙ ap (λ (r : Result Put Refused). next r (with_ids ids)) (one-first v folders place item (drop (place + 1) items))

    pub list_step : (ids : List ℕ) (v w : Volume) (folders opens : List Open) (place id : ℕ) (item : PutItem) → place < length items → item ≡ get_or items place item
        → one_laid target now place item v folders ≡ Ok (record { volume = w; id = id; folders = opens })
        → AreLeft ids v folders place → AreLeft (ids ++ id ∷ []) w opens (place + 1)
    list_step ids v w folders opens place id item within is done before =
        here ids v folders place item within is before
        ∙ ap (λ (r : Result Placed Refused). next (next r (more place (drop (place + 1) items))) (with_ids ids)) done
        ∙ joined ids id (rest_of w opens (place + 1) (drop (place + 1) items))

    pub list_fault : (ids : List ℕ) (v : Volume) (folders : List Open) (place : ℕ) (item : PutItem) (image : List ℕ) (fault : LayFault) → place < length items
        → item ≡ get_or items place item → IsLayFault (one_laid target now place item v folders) image fault → AreLeft ids v folders place → IsLayFault all image fault
    list_fault ids v folders place item image fault within is h before =
        subst (λ (r : Result Put Refused). IsLayFault r image fault) (sym (here ids v folders place item within is before))
        (next-lay (next (one_laid target now place item v folders) (more place (drop (place + 1) items))) (with_ids ids) image fault
        (next-lay (one_laid target now place item v folders) (more place (drop (place + 1) items)) image fault h))

    at-end : (ids : List ℕ) (v : Volume) (folders : List Open) (place : ℕ) → length items ≤ place → AreLeft ids v folders place
        → all ≡ next (next (left None v folders) (λ (s : Volume × List Open). Ok (record { volume = s.0; ids = [] }))) (with_ids ids)
    at-end ids v folders place past before = before ∙ ap (λ (l : List PutItem). next (rest_of v folders place l) (with_ids ids)) (drop_all place items past)

    pub list_done : (ids : List ℕ) (v w : Volume) (folders opens : List Open) (place : ℕ) → length items ≤ place → left None v folders ≡ Ok (w, opens)
        → AreLeft ids v folders place → all ≡ Ok (record { volume = w; ids = ids })
    list_done ids v w folders opens place past done before =
        at-end ids v folders place past before
        ∙ ap (λ (r : Result (Volume × List Open) Refused). next (next r (λ (s : Volume × List Open). Ok (record { volume = s.0; ids = [] }))) (with_ids ids)) done
        ∙ ap (λ (l : List ℕ). Ok (record { volume = w; ids = l })) (append-nil ids)

    pub last_fault : (ids : List ℕ) (v : Volume) (folders : List Open) (place : ℕ) (image : List ℕ) (fault : LayFault) → length items ≤ place
        → IsLayFault (left None v folders) image fault → AreLeft ids v folders place → IsLayFault all image fault
    last_fault ids v folders place image fault past h before =
        subst (λ (r : Result Put Refused). IsLayFault r image fault) (sym (at-end ids v folders place past before))
        (next-lay (next (left None v folders) (λ (s : Volume × List Open). Ok (record { volume = s.0; ids = [] }))) (with_ids ids) image fault
        (next-lay (left None v folders) (λ (s : Volume × List Open). Ok (record { volume = s.0; ids = [] })) image fault h))
