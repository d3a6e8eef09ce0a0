-- The laws of this crate.
use Rattle.std.proofs.Common.{◌≡◌, ℕ, true, false, cond, not, ltb, List, length, sym, ◌∙◌, ap, subst, Option, Result, Ok, ℤ}
use Rattle.std.specs.Option.{option_map_or}
use Rattle.hfs_fields.specs.Names.{is_item_name}
use Rattle.hfs_model.specs.declared.codes.TheConstants.{BAD_NAME, NOT_FOUND, PARAMETER, NOT_A_FOLDER}
use Rattle.hfs_model.specs.declared.call.Fork.{Fork}
use Rattle.hfs_model.specs.Volume.{Volume, Entry}
use Rattle.hfs_model.specs.Children.{entries_of, is_folder}
use Rattle.hfs_model.specs.Replies.{refusal}
use Rattle.hfs_model.specs.Reading.{read_fork, fork_part}
use Rattle.hfs_model.specs.Changes.{change, changed_to}
use Rattle.hfs_model.proofs.Facts.{found_has}
use Rattle.hfs_model.proofs.KeepsCalls.{edit_keeps}
use Rattle.hfs_model.proofs.KeepsForks.{edited, edits, is_edit}
use Rattle.hfs_model.specs.Children.{is_child_named}
use Rattle.hfs_model.specs.Forks.{resized, written, fork_bytes}
use Rattle.hfs_model.specs.ForkCalls.{to_set_eof, to_write_fork, set_eof, write_fork}
use Rattle.hfs_model.specs.ForkCallLaws.{IsLawfulChange, SetEofIsLawful, WriteForkIsLawful, fork_named, HasChangedFork, SetEofResizes, SetEofToItsLength, WriteForkIsSetEofAndBytes, WrittenIsRead}
use Rattle.hfs_model.proofs.ForkLemmas.{resized-same, written-part, file-part}
use Rattle.hfs_model.proofs.Refusals.{IsTold, set_eof_told, write_fork_told, accepted, leaves, never_full, same_size}
use Rattle.hfs_model.proofs.Tested.{IsFileNamed, set_eof_tested, write_fork_tested}
use Rattle.hfs_model.proofs.Afterwards.{new, there, folder_still, was, changed}

-- ---- both calls

module _ (size : ℕ) (v : Volume) (dir : ℕ) (name : List ℕ) (fork : Fork) (chosen : Result Entry ℤ) (make : List ℕ → List ℕ) (now : ℕ) (told : IsTold chosen) (tested : (e : Entry) → chosen ≡ Ok e → IsFileNamed v dir name e) where
  is_lawful : IsLawfulChange v (change v chosen (edits size fork make now) now)
  is_lawful = record {
    lawful = edit_keeps v chosen (edited size fork make now) now (is_edit size fork make now) (λ e is. (found_has v.items (is_child_named dir name) e (tested e is).item.child).0);
    refused = leaves v chosen (edits size fork make now) now;
    never_full = never_full v chosen (edits size fork make now) now told;
    block_size = same_size v chosen (edits size fork make now) now;
  }

  has_changed : (e : Entry) → chosen ≡ Ok e → HasChangedFork v dir name fork (make (fork_named v dir name fork)) (change v chosen (edits size fork make now) now).0
  has_changed e is =
      let may = tested e is in
      let bytes = make (fork_bytes fork e.1.kind) in
      let before = ap make (was size v dir name fork e bytes now may fork) in
      let after = ap (λ (r : Result Entry ℤ). (change v r (edits size fork make now) now).0) is in
      let here = changed size v dir name fork e bytes now may in
      subst (λ (w : Volume). HasChangedFork v dir name fork (make (fork_named v dir name fork)) w) (sym after)
      (subst (λ (l : List ℕ). HasChangedFork v dir name fork l (changed_to v (edits size fork make now e v.items) now)) (sym before) here)

pub set_eof_is_lawful : SetEofIsLawful
unfolding set_eof
set_eof_is_lawful size v dir name fork length now =
    is_lawful size v dir name fork (to_set_eof v dir name length) (resized length) now (set_eof_told v dir name length) (set_eof_tested v dir name length)

pub write_fork_is_lawful : WriteForkIsLawful
unfolding write_fork
write_fork_is_lawful size v dir name fork offset bytes now =
    is_lawful size v dir name fork (to_write_fork v dir name fork offset bytes) (written offset bytes) now (write_fork_told v dir name fork offset bytes) (λ e is. (write_fork_tested v dir name fork offset bytes e is).file)

-- ---- forks afterwards

pub set_eof_resizes : SetEofResizes
unfolding set_eof
set_eof_resizes size v dir name fork length now is =
    let told = set_eof_told v dir name length in
    let chosen = accepted v (to_set_eof v dir name length) (edits size fork (resized length) now) now told is in
    has_changed size v dir name fork (to_set_eof v dir name length) (resized length) now told (set_eof_tested v dir name length) chosen.0 chosen.1

pub set_eof_to_its_length : SetEofToItsLength
set_eof_to_its_length size v dir name fork now is =
    (set_eof_resizes size v dir name fork (length (fork_named v dir name fork)) now is).bytes_are ∙ resized-same (fork_named v dir name fork)

pub write_fork_is_set_eof_and_bytes : WriteForkIsSetEofAndBytes
unfolding write_fork written
write_fork_is_set_eof_and_bytes size v dir name fork offset bytes now is =
    let told = write_fork_told v dir name fork offset bytes in
    let chosen = accepted v (to_write_fork v dir name fork offset bytes) (edits size fork (written offset bytes) now) now told is in
    has_changed size v dir name fork (to_write_fork v dir name fork offset bytes) (written offset bytes) now told (λ e same. (write_fork_tested v dir name fork offset bytes e same).file) chosen.0 chosen.1

-- ---- a read afterwards

-- a read of a file that is found
read_of : (es : List Entry) (dir : ℕ) (name : List ℕ) (fork : Fork) (offset count : ℕ) (o : Option Entry) → ltb 65536 count ≡ false → is_item_name name ≡ true → is_folder es dir ≡ true
    → cond (ltb 65536 count) (refusal PARAMETER) (cond (not (is_item_name name)) (refusal BAD_NAME) (cond (not (is_folder es dir)) (refusal NOT_A_FOLDER) (option_map_or (λ (e : Entry). fork_part fork offset count e.1.kind) o (refusal NOT_FOUND))))
    ≡ option_map_or (λ (e : Entry). fork_part fork offset count e.1.kind) o (refusal NOT_FOUND)
read_of es dir name fork offset count o few named folder = λ i. cond (few i) (refusal PARAMETER) (cond (not (named i)) (refusal BAD_NAME) (cond (not (folder i)) (refusal NOT_A_FOLDER) (option_map_or (λ (e : Entry). fork_part fork offset count e.1.kind) o (refusal NOT_FOUND))))

pub written_is_read : WrittenIsRead
unfolding write_fork read_fork
written_is_read size v dir name fork offset bytes now is =
    let told = write_fork_told v dir name fork offset bytes in
    let chosen = accepted v (to_write_fork v dir name fork offset bytes) (edits size fork (written offset bytes) now) now told is in
    let e = chosen.0 in
    let may = write_fork_tested v dir name fork offset bytes e chosen.1 in
    let made = written offset bytes (fork_bytes fork e.1.kind) in
    let after = ap (λ (r : Result Entry ℤ). (change v r (edits size fork (written offset bytes) now) now).0) chosen.1 in
    let es = entries_of (new size v dir name fork e made now may.file) in
    ap (λ (w : Volume). read_fork (entries_of w) dir name fork offset (length bytes)) after
    ∙ read_of es dir name fork offset (length bytes) _ may.few may.file.item.named (folder_still size v dir name fork e made now may.file)
    ∙ ap (λ (o : Option Entry). option_map_or (λ (x : Entry). fork_part fork offset (length bytes) x.1.kind) o (refusal NOT_FOUND)) (there size v dir name fork e made now may.file)
    ∙ file-part size fork made offset (length bytes) e.1.kind may.file.file
    ∙ written-part offset bytes (fork_bytes fork e.1.kind)
