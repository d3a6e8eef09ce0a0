-- One list's members by both words for them.
use Rattle.std.proofs.Common.{inl, inr, List, [], ◌∷◌}
use Rattle.hfs_fields.specs.Members as scans
use Rattle.hfs_model.proofs.Members.{In}

pub to-model : {A : Type 0} (x : A) (xs : List A) → scans.In x xs → In x xs
to-model x [] there = there
to-model x (y ∷ xs) (inl same) = inl same
to-model x (y ∷ xs) (inr there) = inr (to-model x xs there)

pub to-scans : {A : Type 0} (x : A) (xs : List A) → In x xs → scans.In x xs
to-scans x [] there = there
to-scans x (y ∷ xs) (inl same) = inl same
to-scans x (y ∷ xs) (inr there) = inr (to-scans x xs there)
