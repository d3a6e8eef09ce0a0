-- Pieces of a stream that go to a shelf and to a digest.
use Rattle.std.proofs.Common.{◌≡◌, ℕ, List, [], ◌++◌, refl, sym, ap, ◌∙◌, subst, append_assoc, append-nil}
use Rattle.hfs_bag.specs.Entries.{ShelfEntry, with_piece, IsBeginning}
use Rattle.hfs_bag.proofs.Beginnings.{with_piece-none, with_piece-twice, begins_longer_piece}
use Rattle.hfs_bag.specs.Sources.{SourceState, SameItems, HasRead}
use Rattle.hfs_bag.specs.Filling.{HoldsMore, HasMoved}

pub same_itself : (s : SourceState) → SameItems s s
same_itself s = record { all = refl; left = refl; item = refl; tables = refl }

pub same_next : (a b c : SourceState) → SameItems a b → SameItems b c → SameItems a c
same_next a b c first second = record {
  all = second.all ∙ first.all;
  left = second.left ∙ first.left;
  item = second.item ∙ first.item;
  tables = second.tables ∙ first.tables;
}

module _ (g0 g : List ShelfEntry) (s0 s : SourceState) (Held Holds : List ℕ → Type 0) where
  -- nothing was left
  pub moved_none : (piece : List ℕ) → HasRead piece s0 s → piece ≡ [] → g ≡ g0 → ((m : List ℕ) → Held m → Holds m) → HasMoved g0 g s0 s Held Holds
  moved_none piece read none same_given kept = record {
    same = read.same;
    moved = [];
    bytes = subst (λ (p : List ℕ). s0.bytes ≡ p ++ s.bytes) none read.bytes;
    given = ap (λ (xs : List ShelfEntry). with_piece xs s.bytes) same_given ∙ ap (with_piece g0) (sym (subst (λ (p : List ℕ). s0.bytes ≡ p ++ s.bytes) none read.bytes));
    digest = λ m held. subst Holds (sym (append-nil m)) (kept m held);
  }

  -- a piece went over
  pub moved_piece : (piece : List ℕ) → HasRead piece s0 s → g ≡ with_piece g0 piece → HoldsMore Held Holds piece → HasMoved g0 g s0 s Held Holds
  moved_piece piece read given_is more = record {
    same = read.same;
    moved = piece;
    bytes = read.bytes;
    given = ap (λ (xs : List ShelfEntry). with_piece xs s.bytes) given_is ∙ with_piece-twice g0 piece s.bytes ∙ ap (with_piece g0) (sym read.bytes);
    digest = more;
  }

  -- the shelf failed with a piece
  pub part_piece : (piece : List ℕ) → HasRead piece s0 s → IsBeginning g (with_piece g0 piece) → IsBeginning g (with_piece g0 s0.bytes)
  part_piece piece read part = subst (λ (all : List ℕ). IsBeginning g (with_piece g0 all)) (sym read.bytes) (begins_longer_piece g g0 piece s.bytes part)

-- what went over went on
pub moved_next : (g0 g1 g2 : List ShelfEntry) (s0 s1 s2 : SourceState) (H0 H1 H2 : List ℕ → Type 0)
    → HasMoved g0 g1 s0 s1 H0 H1 → HasMoved g1 g2 s1 s2 H1 H2 → HasMoved g0 g2 s0 s2 H0 H2
moved_next g0 g1 g2 s0 s1 s2 H0 H1 H2 first second = record {
  same = same_next s0 s1 s2 first.same second.same;
  moved = first.moved ++ second.moved;
  bytes = first.bytes ∙ ap (λ (xs : List ℕ). first.moved ++ xs) second.bytes ∙ sym (append_assoc first.moved second.moved s2.bytes);
  given = second.given ∙ first.given;
  digest = λ m held. subst H2 (append_assoc m first.moved second.moved) (second.digest (m ++ first.moved) (first.digest m held));
}

-- all went over
pub moved_whole : (g0 g : List ShelfEntry) (s0 s : SourceState) (H0 H : List ℕ → Type 0) → HasMoved g0 g s0 s H0 H → s.bytes ≡ [] → g ≡ with_piece g0 s0.bytes
moved_whole g0 g s0 s H0 H moved none =
    sym (with_piece-none g) ∙ ap (with_piece g) (sym none) ∙ moved.given

-- and the digest has them all
pub moved_digest : (g0 g : List ShelfEntry) (s0 s : SourceState) (H0 H : List ℕ → Type 0) → HasMoved g0 g s0 s H0 H → s.bytes ≡ [] → HoldsMore H0 H s0.bytes
moved_digest g0 g s0 s H0 H moved none =
    subst (HoldsMore H0 H) (sym (append-nil moved.moved) ∙ ap (λ (xs : List ℕ). moved.moved ++ xs) (sym none) ∙ sym moved.bytes) moved.digest

-- the shelf failed with a piece behind what went over
pub part_moved : (g0 g1 g2 : List ShelfEntry) (s0 s1 : SourceState) (H0 H1 : List ℕ → Type 0) → HasMoved g0 g1 s0 s1 H0 H1 → IsBeginning g2 (with_piece g1 s1.bytes)
    → IsBeginning g2 (with_piece g0 s0.bytes)
part_moved g0 g1 g2 s0 s1 H0 H1 moved part = subst (IsBeginning g2) moved.given part
