-- Beginnings of lists of what a shelf was given.
use Rattle.std.proofs.Common.{◌≡◌, ℕ, List, [], ◌∷◌, ◌++◌, Option, Some, None, refl, sym, ap, ◌∙◌, subst, append_assoc, append-nil, inl, inr}
use Rattle.hfs_bag.specs.Entries.{ShelfEntry, folder, file, with_folder, with_file, with_piece, with_time, IsPart, IsBeginning}

-- a list and what came behind it
pub begins_appended : (xs ys : List ShelfEntry) → IsBeginning xs (xs ++ ys)
begins_appended [] ys = tt
begins_appended (entry ∷ rest) ys = inl (refl, begins_appended rest ys)

pub begins_itself : (xs : List ShelfEntry) → IsBeginning xs xs
begins_itself [] = tt
begins_itself (entry ∷ rest) = inl (refl, begins_itself rest)

-- what was given before a folder, a file, a piece
pub begins_folder : (now xs : List ShelfEntry) (path : List ℕ) → now ≡ xs → IsBeginning now (with_folder xs path)
begins_folder now xs path same = subst (λ (was : List ShelfEntry). IsBeginning was (with_folder xs path)) (sym same) (begins_appended xs (folder path ∷ []))

pub begins_file : (now xs : List ShelfEntry) (path : List ℕ) (time : Option ℕ) → now ≡ xs → IsBeginning now (with_file xs path time)
begins_file now xs path time same = subst (λ (was : List ShelfEntry). IsBeginning was (with_file xs path time)) (sym same) (begins_appended xs (file path time [] ∷ []))

pub begins_piece : (xs : List ShelfEntry) (piece : List ℕ) → IsBeginning xs (with_piece xs piece)
begins_piece [] piece = tt
begins_piece (folder path ∷ []) piece = inl (refl, tt)
begins_piece (file path time bytes ∷ []) piece = inr ((refl, refl, (piece, refl)), refl)
begins_piece (entry ∷ next ∷ rest) piece = inl (refl, begins_piece (next ∷ rest) piece)

pub begins_piece_now : (now xs : List ShelfEntry) (piece : List ℕ) → now ≡ xs → IsBeginning now (with_piece xs piece)
begins_piece_now now xs piece same = subst (λ (was : List ShelfEntry). IsBeginning was (with_piece xs piece)) (sym same) (begins_piece xs piece)

-- a piece of the file that came last
pub with_piece-last : (xs : List ShelfEntry) (path : List ℕ) (time : Option ℕ) (bytes piece : List ℕ) → with_piece (xs ++ file path time bytes ∷ []) piece ≡ xs ++ file path time (bytes ++ piece) ∷ []
with_piece-last [] path time bytes piece = refl
with_piece-last (entry ∷ []) path time bytes piece = refl
with_piece-last (entry ∷ next ∷ rest) path time bytes piece = ap (λ (behind : List ShelfEntry). entry ∷ behind) (with_piece-last (next ∷ rest) path time bytes piece)

-- a beginning stays one when more comes behind the whole
pub begins_before : (xs ys zs : List ShelfEntry) → IsBeginning xs ys → IsBeginning xs (ys ++ zs)
begins_before [] ys zs h = tt
begins_before (entry ∷ rest) [] zs h = absurd h
begins_before (entry ∷ rest) (whole ∷ behind) zs (inl h) = inl (h.0, begins_before rest behind zs h.1)
begins_before (entry ∷ rest) (whole ∷ behind) zs (inr h) = inr h

part_longer : (entry : ShelfEntry) (path : List ℕ) (time : Option ℕ) (bytes more : List ℕ) → IsPart entry (file path time bytes) → IsPart entry (file path time (bytes ++ more))
part_longer (file one when some) path time bytes more h =
    (h.0, h.1, (h.2.0 ++ more, ap (λ (all : List ℕ). all ++ more) h.2.1 ∙ append_assoc some h.2.0 more))
part_longer (folder one) path time bytes more h = absurd h

part_of_same : (entry : ShelfEntry) (path : List ℕ) (time : Option ℕ) (bytes more : List ℕ) → entry ≡ file path time bytes → IsPart entry (file path time (bytes ++ more))
part_of_same entry path time bytes more same = subst (λ (was : ShelfEntry). IsPart was (file path time (bytes ++ more))) (sym same) (refl, refl, (more, refl))

none_begins : (rest : List ShelfEntry) → IsBeginning rest [] → rest ≡ []
none_begins [] h = refl
none_begins (entry ∷ rest) h = absurd h

-- a beginning stays one when the last file goes on, and more comes behind it
pub begins_longer : (xs before rest : List ShelfEntry) (path : List ℕ) (time : Option ℕ) (bytes more : List ℕ) → IsBeginning xs (before ++ file path time bytes ∷ [])
    → IsBeginning xs (before ++ file path time (bytes ++ more) ∷ rest)
begins_longer [] before rest path time bytes more h = tt
begins_longer (entry ∷ behind) [] rest path time bytes more (inl h) = inr (part_of_same entry path time bytes more h.0, none_begins behind h.1)
begins_longer (entry ∷ behind) [] rest path time bytes more (inr h) = inr (part_longer entry path time bytes more h.0, h.1)
begins_longer (entry ∷ behind) (first ∷ before) rest path time bytes more (inl h) = inl (h.0, begins_longer behind before rest path time bytes more h.1)
begins_longer (entry ∷ behind) (first ∷ before) rest path time bytes more (inr h) = inr h

-- no bytes change nothing
pub with_piece-none : (xs : List ShelfEntry) → with_piece xs [] ≡ xs
with_piece-none [] = refl
with_piece-none (folder path ∷ []) = refl
with_piece-none (file path time bytes ∷ []) = ap (λ (all : List ℕ). file path time all ∷ []) (append-nil bytes)
with_piece-none (entry ∷ next ∷ rest) = ap (λ (behind : List ShelfEntry). entry ∷ behind) (with_piece-none (next ∷ rest))

-- two pieces are one
pub with_piece-twice : (xs : List ShelfEntry) (a b : List ℕ) → with_piece (with_piece xs a) b ≡ with_piece xs (a ++ b)
with_piece-twice [] a b = refl
with_piece-twice (folder path ∷ []) a b = refl
with_piece-twice (file path time bytes ∷ []) a b = ap (λ (all : List ℕ). file path time all ∷ []) (append_assoc bytes a b)
with_piece-twice (entry ∷ folder path ∷ []) a b = refl
with_piece-twice (entry ∷ file path time bytes ∷ []) a b = ap (λ (all : List ℕ). entry ∷ file path time all ∷ []) (append_assoc bytes a b)
with_piece-twice (entry ∷ next ∷ third ∷ rest) a b = ap (λ (behind : List ShelfEntry). entry ∷ behind) (with_piece-twice (next ∷ third ∷ rest) a b)

-- a beginning stays one when the piece goes on
pub begins_longer_piece : (now given : List ShelfEntry) (piece more : List ℕ) → IsBeginning now (with_piece given piece) → IsBeginning now (with_piece given (piece ++ more))
begins_longer_piece now [] piece more h = h
begins_longer_piece now (folder path ∷ []) piece more h = h
begins_longer_piece now (file path time bytes ∷ []) piece more h =
    subst (λ (all : List ℕ). IsBeginning now (file path time all ∷ [])) (append_assoc bytes piece more) (begins_longer now [] [] path time (bytes ++ piece) more h)
begins_longer_piece [] (entry ∷ next ∷ rest) piece more h = tt
begins_longer_piece (first ∷ behind) (entry ∷ next ∷ rest) piece more (inl h) = inl (h.0, begins_longer_piece behind (next ∷ rest) piece more h.1)
begins_longer_piece (first ∷ behind) (entry ∷ next ∷ rest) piece more (inr h) = inr h

-- ---- times

-- the time of the file that was made last
pub time_last : (xs : List ShelfEntry) (path : List ℕ) (time : ℕ) → with_time (with_file xs path None) time ≡ with_file xs path (Some time)
time_last [] path time = refl
time_last (entry ∷ []) path time = refl
time_last (entry ∷ next ∷ rest) path time = ap (λ (behind : List ShelfEntry). entry ∷ behind) (time_last (next ∷ rest) path time)

-- its bytes go on whatever its time
pub time_piece : (xs : List ShelfEntry) (time : ℕ) (piece : List ℕ) → with_time (with_piece xs piece) time ≡ with_piece (with_time xs time) piece
time_piece [] time piece = refl
time_piece (folder path ∷ []) time piece = refl
time_piece (file path was bytes ∷ []) time piece = refl
time_piece (entry ∷ folder path ∷ []) time piece = refl
time_piece (entry ∷ file path was bytes ∷ []) time piece = refl
time_piece (entry ∷ next ∷ third ∷ rest) time piece = ap (λ (behind : List ShelfEntry). entry ∷ behind) (time_piece (next ∷ third ∷ rest) time piece)

pub ruleset beginnings = (begins_folder, begins_file, begins_piece, begins_piece_now)
