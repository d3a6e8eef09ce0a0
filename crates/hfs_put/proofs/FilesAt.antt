-- The files of a list by their places and their IDs.
use Rattle.std.proofs.Common.{◌≡◌, ◌⊎◌, inl, inr, ⊎_elim, ℕ, zero, suc, Bool, true, false, cond, eqb, List, [], ◌∷◌, map, slice_get, Option, Some, None, refl, ap, subst, ◌∙◌}
use Rattle.std.specs.Prelude.{IfSome}
use Rattle.std.specs.List.{cons_option}
use Rattle.std.proofs.lemmas.Bool.{eqb-true}
use Rattle.hfs_model.specs.declared.reply.ItemKind.{ItemKind}
use Rattle.hfs_model.specs.declared.reply.ItemKind.TheVariants.{Folder, File}
use Rattle.hfs_catalog.proofs.Held.{none_some}
use Rattle.hfs_catalog.proofs.Indexed.{same_some}
use Rattle.hfs_put.specs.ForkRuns.{file_id_by, file_id, IsFileAt}
use Rattle.hfs_put.specs.Laying.{item_of}
use Rattle.hfs_put_plan.specs.Laws.{AreTheirs}
use Rattle.hfs_put_plan.specs.Put.{Arrival, file_forks, came}
use Rattle.hfs_put_plan.specs.WithForks.{FileForks, forks_of}
use Rattle.hfs_put_plan.specs.declared.items.PutItem.{PutItem}

pub same-forks : (x y : FileForks) → Some x ≡ Some y → x ≡ y
same-forks x y e = cc

abbrev pub forks_for : ℕ → Arrival → FileForks
forks_for id a = record { id = id; data_fork = a.data_fork; resource_fork = a.resource_fork }

-- the bytes that came for the file of that ID are those of the item at that place
pub record IsArrivalAt (arrivals : List Arrival) (forks : List FileForks) (place id : ℕ) : Type 0 where
  pub a : Arrival
  pub there : slice_get arrivals place ≡ Some a
  pub are : forks_of forks id ≡ Some (forks_for id a)

no-file : (kind : ItemKind) (id : ℕ) → file_id_by kind None ≡ Some id → ⊥
no-file Folder id e = none_some id e
no-file File id e = none_some id e

first-file : (a : Arrival) (more : List Arrival) (forks : List FileForks) (kind : ItemKind) (own id : ℕ) → file_id_by kind (Some own) ≡ Some id
    → IfSome (file_forks kind a own) (λ (f : FileForks). forks_of forks own ≡ Some f) → IsArrivalAt (a ∷ more) forks zero id
first-file a more forks Folder own id e theirs = absurd (none_some id e)
first-file a more forks File own id e theirs = record {
  a = a;
  there = refl;
  are = subst (λ (n : ℕ). forks_of forks n ≡ Some (forks_for n a)) (same_some own id e) theirs;
}

pub arrival-at : (forks : List FileForks) (arrivals : List Arrival) (ids : List ℕ) → AreTheirs forks arrivals ids → (place id : ℕ)
    → IsFileAt (map item_of arrivals) ids place id → IsArrivalAt arrivals forks place id
arrival-at forks [] ids theirs zero id e = absurd (none_some id e)
arrival-at forks [] ids theirs (suc place) id e = absurd (none_some id e)
arrival-at forks (a ∷ more) [] theirs zero id e = absurd (no-file a.item.kind id e)
arrival-at forks (a ∷ more) [] theirs (suc place) id e = absurd (no-id (slice_get (map item_of more) place) e)
  where
    no-id : (o : Option PutItem) → file_id o None ≡ Some id → ⊥
    no-id None e = none_some id e
    no-id (Some item) e = no-file item.kind id e
arrival-at forks (a ∷ more) (own ∷ ids) theirs zero id e = first-file a more forks a.item.kind own id e theirs.0
arrival-at forks (a ∷ more) (own ∷ ids) theirs (suc place) id e =
    let rest = arrival-at forks more ids theirs.1 place id e in
    record { a = rest.a; there = rest.there; are = rest.are }

-- ---- the other way

-- a file for which bytes came stands in the list
record IsSomewhere (items : List PutItem) (ids : List ℕ) (id : ℕ) : Type 0 where
  place : ℕ
  at : IsFileAt items ids place id

one-more : (kind : ItemKind) (a : Arrival) (items : List PutItem) (item : PutItem) (own id : ℕ) (ids : List ℕ) (forks : List FileForks) (f : FileForks)
    → item.kind ≡ kind → forks_of (cons_option (file_forks kind a own) forks) id ≡ Some f → IsSomewhere (item ∷ items) (own ∷ ids) id ⊎ (forks_of forks id ≡ Some f)
one-more Folder a items item own id ids forks f is e = inr e
one-more File a items item own id ids forks f is e =
    elim (eqb own id)
    as (λ (b : Bool). eqb own id ≡ b → cond b (Some (forks_for own a)) (forks_of forks id) ≡ Some f
    → IsSomewhere (item ∷ items) (own ∷ ids) id ⊎ (forks_of forks id ≡ Some f)) [
      | true ↦ λ t e. inl (record { place = zero; at = ap (λ (k : ItemKind). file_id_by k (Some own)) is ∙ ap (λ (n : ℕ). Some n) (eqb-true own id t) })
      | false ↦ λ t e. inr e
    ] refl e

came-from : (arrivals : List Arrival) (ids : List ℕ) (forks : List FileForks) (id : ℕ) (f : FileForks) → forks_of (came arrivals ids forks) id ≡ Some f
    → IsSomewhere (map item_of arrivals) ids id ⊎ (forks_of forks id ≡ Some f)
came-from [] ids forks id f e = inr e
came-from (a ∷ more) [] forks id f e = inr e
came-from (a ∷ more) (own ∷ ids) forks id f e = ⊎_elim
    (λ (later : IsSomewhere (map item_of more) ids id). inl (record { place = suc later.place; at = later.at }))
    (λ (here : forks_of (cons_option (file_forks a.item.kind a own) forks) id ≡ Some f). one-more a.item.kind a (map item_of more) a.item own id ids forks f refl here)
    (came-from more ids (cons_option (file_forks a.item.kind a own) forks) id f e)

pub somewhere : (arrivals : List Arrival) (ids : List ℕ) (id : ℕ) (f : FileForks) → forks_of (came arrivals ids []) id ≡ Some f → (place : ℕ) × IsFileAt (map item_of arrivals) ids place id
somewhere arrivals ids id f e = ⊎_elim
    (λ (at : IsSomewhere (map item_of arrivals) ids id). (at.place, at.at))
    (λ (none : forks_of [] id ≡ Some f). absurd (none_some f none))
    (came-from arrivals ids [] id f e)
