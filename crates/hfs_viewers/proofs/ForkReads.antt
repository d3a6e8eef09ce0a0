-- What is read of a fork, stretch by stretch.
use Rattle.std.proofs.Common.{◌≡◌, ℕ, ◌+◌, ◌-◌, ◌<◌, ◌≤◌, List, [], ◌++◌, length, take, drop, refl, sym, ◌∙◌, ap, subst, arith, append-nil}
use Rattle.std.specs.Prelude.{min, replicate}
use Rattle.std.proofs.lemmas.List.{append_assoc, drop-drop, length-drop, take_all, take_min}
use Rattle.std.proofs.Math.Seq.{take-add}
use Rattle.hfs_space.specs.Forks.{read_from}
use Rattle.hfs_viewers.specs.declared.reading.Stretch.{Stretch}
use Rattle.hfs_viewers.specs.Pieces.{fork_length, fork_shown}
use Rattle.hfs_viewers.specs.Stretches.{IsStretch, stretch_bytes, stretch_length}
use Rattle.hfs_viewers.specs.declared.row.RowFork.{RowFork}
use Rattle.hfs_viewers.specs.declared.table.Table.{Table}
use Rattle.hfs_viewers.specs.Tables.{base_bytes, bytes_of, IsForkIn, IsTable}
use Rattle.hfs_viewers.specs.ForkParts.{IsPushed}
use Rattle.hfs_viewers.proofs.LookedUp.{base_long, size_is}

-- bytes of one source came after the old ones
pub pushed : (t : Table) (is : IsTable t) (fork : RowFork) → IsForkIn t.mdb fork → (place most : ℕ) (s : Stretch) → IsStretch fork.pieces place most s → (old new : List ℕ) (n : ℕ) → n ≡ stretch_length s
    → new ≡ old ++ stretch_bytes (base_bytes t.base t.mdb fork) s → IsPushed (bytes_of t.base t.mdb fork) place most old new n
unfolding bytes_of
pushed t is fork in_ place most s stretch old new n n_is is_new =
    let some = stretch.some in
    let few = stretch.few in
    let within = stretch.within in
    record {
      some = omega (arith, some, n_is);
      few = omega (arith, few, n_is);
      within = subst (λ (k : ℕ). place + n ≤ k) (sym (size_is t is fork in_)) (omega (arith, within, n_is));
      bytes =
          is_new ∙ ap (λ (l : List ℕ). old ++ l) (stretch.shows (base_bytes t.base t.mdb fork) (base_long t is fork in_))
          ∙ ap (λ (k : ℕ). old ++ take k (drop place (fork_shown (base_bytes t.base t.mdb fork) fork.pieces))) (sym n_is);
    }

-- what is still to come is less by these
pub pushed_one : (all : List ℕ) (place left n : ℕ) (old new whole : List ℕ) → IsPushed all place left old new n → old ++ read_from all place left ≡ whole → new ++ read_from all (place + n) (left - n) ≡ whole
pushed_one all place left n old new whole push is =
    let few = push.few in
    let parts : n + (left - n) ≡ left = omega (arith, few) in
    ap (λ (l : List ℕ). l ++ take (left - n) (drop (place + n) all)) push.bytes
    ∙ append_assoc old (take n (drop place all)) (take (left - n) (drop (place + n) all))
    ∙ ap (λ (l : List ℕ). old ++ (take n (drop place all) ++ take (left - n) l)) (sym (drop-drop n place all))
    ∙ ap (λ (l : List ℕ). old ++ l) (sym (take-add n (left - n) (drop place all)))
    ∙ ap (λ (k : ℕ). old ++ take k (drop place all)) parts
    ∙ is

-- no more is asked for than there is
pub asked_few : (all : List ℕ) (size offset count left : ℕ) → length all ≡ size → left ≡ min count (size - offset) → read_from all offset left ≡ read_from all offset count
asked_few all size offset count left long is =
    let rest : left ≡ min count (length (drop offset all)) = omega (arith, is, long, length-drop offset all) in
    ap (λ (k : ℕ). take k (drop offset all)) rest ∙ take_min count (drop offset all)

-- zeros come after the bytes that there are
pub grown : (old : List ℕ) (len count : ℕ) → len ≡ length old → take (len + count) old ++ replicate (len + count - len) 0 ≡ old ++ replicate count 0
grown old len count is =
    let rest : len + count - len ≡ count = omega arith in
    ap (λ (l : List ℕ). l ++ replicate (len + count - len) 0) (take_all (len + count) old (omega (arith, is))) ∙ ap (λ (n : ℕ). old ++ replicate n 0) rest
