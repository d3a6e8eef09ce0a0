-- What is taken, and who owns its blocks.
use Rattle.std.proofs.Common.{◌≡◌, ℕ, ◌+◌, ◌<◌, Bool, List, [], ◌∷◌, ◌++◌, drop, take, length, get_or, slice_index_or, Option, None, sym, ap, ◌∙◌, append_assoc}
use Rattle.std.specs.List.{flat_map}
use Rattle.std.proofs.lemmas.List.{append-nil, take_more, drop_more}
use Rattle.std.proofs.lemmas.List.Concat.{flat_map-append}
use Rattle.hfs_fields.specs.declared.mdb.Mdb.{Mdb}
use Rattle.hfs_space.specs.Extents.{Overflow}
use Rattle.hfs_remains.specs.declared.catalog.FoundRecord.{FoundRecord}
use Rattle.hfs_remains_forks.specs.declared.shares.FileShares.{FileShares}
use Rattle.hfs_remains_forks.specs.Forks.{both_forks}
use Rattle.hfs_remains_forks.specs.Owners.{AddsOwners}
use Rattle.hfs_remains_forks.specs.Verdicts.{item_shares, room_behind_item, shares_of, item_used, items_used}
use Rattle.hfs_remains_forks.proofs.OwnerLemmas.{add-both, add-same}

-- one more item
pub step-shares : (records : Overflow) (mdb : Mdb) (made : List (Option FileShares)) (items : List FoundRecord) (room new_room i : ℕ) (item : FoundRecord) (share : Option FileShares)
    → i < length items → item ≡ get_or items i item
    → share ≡ item_shares records mdb room item.old (both_forks item.entry.1) → new_room ≡ room_behind_item records mdb room (both_forks item.entry.1)
    → (made ++ share ∷ []) ++ shares_of records mdb new_room (drop (i + 1) items) ≡ made ++ shares_of records mdb room (drop i items)
step-shares records mdb made items room new_room i item share within is share-is room-is =
    append_assoc made (share ∷ []) (shares_of records mdb new_room (drop (i + 1) items))
    ∙ (λ t. made ++ (share-is t ∷ shares_of records mdb (room-is t) (drop (i + 1) items)))
    ∙ ap (λ (l : List FoundRecord). made ++ shares_of records mdb room l) (ap (λ (x : FoundRecord). x ∷ drop (i + 1) items) is ∙ sym (drop_more items i item within))

-- the owners by one more item
pub step-owners : (total : ℕ) (records : Overflow) (mdb : Mdb) (young : Bool) (shares : List (Option FileShares)) (i : ℕ) (item : Option FileShares) (old mid new : List ℕ)
    → i < length shares → item ≡ slice_index_or shares i None
    → AddsOwners (items_used total records mdb young (take i shares)) old mid → AddsOwners (item_used total records mdb young item) mid new
    → AddsOwners (items_used total records mdb young (take (i + 1) shares)) old new
step-owners total records mdb young shares i item old mid new within is before more =
    let used = item_used total records mdb young in
    let next : take (i + 1) shares ≡ take i shares ++ item ∷ [] = take_more shares i None within ∙ ap (λ (x : Option FileShares). take i shares ++ x ∷ []) (sym is) in
    let all : items_used total records mdb young (take i shares) ++ used item ≡ items_used total records mdb young (take (i + 1) shares) =
    sym (ap (flat_map used) next ∙ flat_map-append used (take i shares) (item ∷ []) ∙ ap (λ l. flat_map used (take i shares) ++ l) (append-nil (used item))) in
    add-same _ _ old new all (add-both (items_used total records mdb young (take i shares)) (used item) old mid new before more)
