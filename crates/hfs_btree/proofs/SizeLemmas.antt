-- The sizes of records that are cut and edited.
use Rattle.std.proofs.Common.{◌≡◌, ℕ, ◌+◌, ◌<◌, ◌≤◌, List, [], length, get_or, set, take, drop, ap, refl}
use Rattle.std.specs.Prelude.{insert, remove}
use Rattle.std.proofs.lemmas.List.Sums.{sum_by_more, sum_by-take-le, sum_by-take-drop, sum_by-insert, sum_by-remove, sum_by-set}
use Rattle.std.proofs.lemmas.List.{take_all}
use Rattle.hfs_btree.specs.Node.{size_of}

pub size_of-nil : size_of [] ≡ 0
unfolding size_of
size_of-nil = refl

pub size_of-take_more : (records : List (List ℕ)) (i : ℕ) → i < length records
    → size_of (take (i + 1) records) ≡ size_of (take i records) + (length (get_or records i []) + 2)
unfolding size_of
size_of-take_more records i h = sum_by_more (λ (r : List ℕ). length r + 2) records i [] h

pub size_of-take-le : (records : List (List ℕ)) (i : ℕ) → size_of (take i records) ≤ size_of records
unfolding size_of
size_of-take-le records i = sum_by-take-le (λ (r : List ℕ). length r + 2) records i

pub size_of-take-drop : (records : List (List ℕ)) (i : ℕ) → size_of (take i records) + size_of (drop i records) ≡ size_of records
unfolding size_of
size_of-take-drop records i = sum_by-take-drop (λ (r : List ℕ). length r + 2) records i

pub size_of-take_all : (records : List (List ℕ)) (i : ℕ) → length records ≤ i → size_of (take i records) ≡ size_of records
size_of-take_all records i h = ap size_of (take_all i records h)

pub size_of-insert : (records : List (List ℕ)) (i : ℕ) (r : List ℕ) → size_of (insert records i r) ≡ size_of records + (length r + 2)
unfolding size_of
size_of-insert records i r = sum_by-insert (λ (x : List ℕ). length x + 2) records i r

pub size_of-remove : (records : List (List ℕ)) (i : ℕ) → i < length records → size_of (remove records i) + (length (get_or records i []) + 2) ≡ size_of records
unfolding size_of
size_of-remove records i h = sum_by-remove (λ (x : List ℕ). length x + 2) records i [] h

pub size_of-set : (records : List (List ℕ)) (i : ℕ) (r : List ℕ) → i < length records
    → size_of (set records i r) + (length (get_or records i []) + 2) ≡ size_of records + (length r + 2)
unfolding size_of
size_of-set records i r h = sum_by-set (λ (x : List ℕ). length x + 2) records i r [] h

-- the sizes of the first records, of the rest, and of all
pub ruleset sizes = (size_of-nil, size_of-take_more, size_of-take-le, size_of-take-drop, size_of-take_all)
