-- The calls that write forks keep a volume lawful.
use Rattle.std.proofs.Common.{◌≡◌, ℕ, List, refl, subst, Ok}
use Rattle.std.specs.FinMap as map
use Rattle.hfs_model.specs.declared.call.Fork.{Fork}
use Rattle.hfs_model.specs.declared.item.Item.{Item}
use Rattle.hfs_model.specs.declared.codes.TheConstants.{END_OF_FILE}
use Rattle.hfs_model.specs.Volume.{Volume, Items, Entry}
use Rattle.hfs_model.specs.Lawful.{IsLawful}
use Rattle.hfs_model.specs.Forks.{resized, written, fork_bytes, item_with_fork}
use Rattle.hfs_model.specs.ForkCalls.{file_to_write, to_set_eof, to_write_fork, set_eof, write_fork}
use Rattle.hfs_model.proofs.Facts.{not_refused}
use Rattle.hfs_model.proofs.ForkLemmas.{same-sort}
use Rattle.hfs_model.proofs.KeepsCalls.{Edits, edit_keeps, IsChild, chained, file_chosen, unlocked_is, same_entry}

-- a fork of an item, made anew of its bytes
abbrev pub edited : ℕ → Fork → (List ℕ → List ℕ) → ℕ → Item → Item
edited size fork make now i = item_with_fork size fork (make (fork_bytes fork i.kind)) now i

abbrev pub edits : ℕ → Fork → (List ℕ → List ℕ) → ℕ → Entry → Items → Items
edits size fork make now e m = map.insert m e.0 (edited size fork make now e.1)

pub is_edit : (size : ℕ) (fork : Fork) (make : List ℕ → List ℕ) (now : ℕ) → Edits (edited size fork make now)
is_edit size fork make now = (λ i. refl, λ i. refl, λ i. same-sort size fork (make (fork_bytes fork i.kind)) i.kind)

-- ---- the chosen file stands in the map

to_write_chosen : (v : Volume) (dir : ℕ) (name : List ℕ) (e : Entry) → file_to_write v dir name ≡ Ok e → IsChild v dir name e
to_write_chosen v dir name e is =
    let step = chained _ _ e is in
    subst (λ (x : Entry). IsChild v dir name x) (unlocked_is e step.0 step.2) (file_chosen v dir name step.0 step.1)

pub set_eof_chosen : (v : Volume) (dir : ℕ) (name : List ℕ) (length : ℕ) (e : Entry) → to_set_eof v dir name length ≡ Ok e → IsChild v dir name e
unfolding to_set_eof
set_eof_chosen v dir name length e is = to_write_chosen v dir name e (not_refused _ _ _ e is).1

pub write_fork_chosen : (v : Volume) (dir : ℕ) (name : List ℕ) (fork : Fork) (offset : ℕ) (bytes : List ℕ) (e : Entry) → to_write_fork v dir name fork offset bytes ≡ Ok e → IsChild v dir name e
unfolding to_write_fork
write_fork_chosen v dir name fork offset bytes e is =
    let step = chained _ _ e (not_refused _ _ _ e is).1 in
    subst (λ (x : Entry). IsChild v dir name x) (same_entry step.0 e (not_refused _ END_OF_FILE _ e step.2).1) (to_write_chosen v dir name step.0 step.1)

-- ---- the calls

pub set_eof_keeps : (size : ℕ) (v : Volume) (dir : ℕ) (name : List ℕ) (fork : Fork) (length now : ℕ) → IsLawful v → IsLawful (set_eof size v dir name fork length now).0
unfolding set_eof
set_eof_keeps size v dir name fork length now h =
    edit_keeps v (to_set_eof v dir name length) (edited size fork (resized length) now) now (is_edit size fork (resized length) now) (λ e is. (set_eof_chosen v dir name length e is).has) h

pub write_fork_keeps : (size : ℕ) (v : Volume) (dir : ℕ) (name : List ℕ) (fork : Fork) (offset : ℕ) (bytes : List ℕ) (now : ℕ) → IsLawful v → IsLawful (write_fork size v dir name fork offset bytes now).0
unfolding write_fork
write_fork_keeps size v dir name fork offset bytes now h =
    edit_keeps v (to_write_fork v dir name fork offset bytes) (edited size fork (written offset bytes) now) now (is_edit size fork (written offset bytes) now) (λ e is. (write_fork_chosen v dir name fork offset bytes e is).has) h
