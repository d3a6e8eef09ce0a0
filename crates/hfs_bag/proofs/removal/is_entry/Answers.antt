-- It is no entry if one of four is so.
use Rattle.std.proofs.Common.{◌≡◌, ◌∙◌, sym}
use Rattle.std.specs.Prelude.{codes, length, bytes_eq, ◌==◌, ◌||◌}
use Rattle.hfs_bag.proofs.EntryLemmas.{contains_slash, entry_is, or_first, or_second, slash_last}
use Rattle.hfs_bag.proofs.removal.is_entry.Goals as goal
use Rattle.hfs_bag.proofs.removal.is_entry.Goals.{then-is_empty, else-is_empty, then-eq, else-eq, then-eq-2, else-eq-2}

pub returns : goal.returns
returns c =
    let name = c.args.name.now in
    let one : c.if-is_empty.value ≡ ((length name == 0) || bytes_eq name (codes ".")) =
    elim c.if-is_empty.branch [
      | then-is_empty w ↦ or_first c.if-is_empty.value (length name == 0) (bytes_eq name (codes ".")) (w.value-is ∙ c.is_empty.ensures) (sym c.is_empty.ensures ∙ w.if-is_empty.true)
      | else-is_empty w ↦ or_second c.if-is_empty.value (length name == 0) (bytes_eq name (codes ".")) (w.value-is ∙ w.eq.ensures) (sym c.is_empty.ensures ∙ w.if-is_empty.false)
    ] in
    let two : c.if-eq.value ≡ (c.if-is_empty.value || bytes_eq name (codes "..")) =
    elim c.if-eq.branch [
      | then-eq w ↦ or_first c.if-eq.value c.if-is_empty.value (bytes_eq name (codes "..")) w.value-is w.if-eq.true
      | else-eq w ↦ or_second c.if-eq.value c.if-is_empty.value (bytes_eq name (codes "..")) (w.value-is ∙ w.eq-else-eq.ensures) w.if-eq.false
    ] in
    elim c.if-eq-2.branch [
      | then-eq-2 w ↦ slash_last name c.if-is_empty.value c.if-eq.value c.if-eq-2.result one two w.result-is w.if-eq-2.true
      | else-eq-2 w ↦ entry_is name c.if-is_empty.value c.if-eq.value c.if-eq-2.result w.contains.result one two
          (or_second c.if-eq-2.result c.if-eq.value w.contains.result w.result-is w.if-eq-2.false) (contains_slash name w.contains.result w.contains.ensures.cases)
    ]
