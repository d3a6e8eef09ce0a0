-- What a shelf over memory holds when the last file goes on.
use Rattle.std.proofs.Common.{◌≡◌, ℕ, zero, suc, List, [], ◌∷◌, length, get_or, set, refl, ap, subst, sym, arith}
use Rattle.hfs_bag.specs.Entries.{ShelfEntry, IsBeginning, longer, with_piece}
use Rattle.hfs_bag.proofs.Beginnings.{begins_piece}
use Rattle.hfs_bag.specs.StoredEntries.{stored_entries, stored_entry}
use Rattle.hfs_bag.specs.declared.memory.Stored.{Stored}

pub extended_at : (xs : List Stored) (i : ℕ) (y none : Stored) (piece : List ℕ) → length xs ≡ suc i → stored_entry y ≡ longer (stored_entry (get_or xs i none)) piece
    → stored_entries (set xs i y) ≡ with_piece (stored_entries xs) piece
extended_at [] i y none piece len goes = absurd (omega (arith, len))
extended_at (x ∷ []) zero y none piece len goes = ap (λ (e : ShelfEntry). e ∷ []) goes
extended_at (x ∷ []) (suc i) y none piece len goes = absurd (omega (arith, len))
extended_at (x ∷ next ∷ rest) zero y none piece len goes = absurd (omega (arith, len))
extended_at (x ∷ next ∷ rest) (suc i) y none piece len goes =
    ap (λ (behind : List ShelfEntry). stored_entry x ∷ behind) (extended_at (next ∷ rest) i y none piece (omega (arith, len)) goes)

pub kept_at : (xs : List Stored) (i : ℕ) (y none : Stored) → stored_entry y ≡ stored_entry (get_or xs i none) → stored_entries (set xs i y) ≡ stored_entries xs
kept_at [] i y none same = refl
kept_at (x ∷ xs) zero y none same = ap (λ (e : ShelfEntry). e ∷ stored_entries xs) same
kept_at (x ∷ xs) (suc i) y none same = ap (λ (behind : List ShelfEntry). stored_entry x ∷ behind) (kept_at xs i y none same)

-- nothing changed, and a piece was to come
pub part_kept : (xs : List Stored) (i : ℕ) (y none : Stored) (piece : List ℕ) → stored_entry y ≡ stored_entry (get_or xs i none)
    → IsBeginning (stored_entries (set xs i y)) (with_piece (stored_entries xs) piece)
part_kept xs i y none piece same =
    subst (λ (es : List ShelfEntry). IsBeginning es (with_piece (stored_entries xs) piece)) (sym (kept_at xs i y none same)) (begins_piece (stored_entries xs) piece)
