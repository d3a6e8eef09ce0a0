-- Room and rows change no block.
use Rattle.std.proofs.Common.{refl, subst}
use Rattle.hfs_blocks.specs.Layers.{Numbered, changes, AreWhole}
use Rattle.hfs_blocks.proofs.TableLemmas.{table-same, whole-table}
use Rattle.hfs_blocks.proofs.patch.Patch.put_run.Goals as goal

pub returns-in_err-make_room-clause-whole : goal.returns-in_err-make_room-clause-whole
returns-in_err-make_room-clause-whole c = whole-table _ _ _ (table-same _ _ _ _ _ _ c.self.invariant c.in_err-make_room.ensures.numbers c.in_err-make_room.ensures.blocks (λ n. refl))

pub invariant_of-self-in_err-add_rows : goal.invariant_of-self-in_err-add_rows
invariant_of-self-in_err-add_rows c = table-same _ _ _ _ _ _ c.self.invariant c.in_ok-make_room.ensures.numbers c.in_ok-make_room.ensures.blocks c.in_err-add_rows.ensures.same

pub returns-in_err-add_rows-clause-whole : goal.returns-in_err-add_rows-clause-whole
returns-in_err-add_rows-clause-whole c =
    whole-table _ _ _ (table-same _ _ _ _ _ _ c.self.invariant c.in_ok-make_room.ensures.numbers c.in_ok-make_room.ensures.blocks c.in_err-add_rows.ensures.same)

pub lay_run-requires-clause-table : goal.lay_run-requires-clause-table
lay_run-requires-clause-table c = table-same _ _ _ _ _ _ c.self.invariant c.in_ok-make_room.ensures.numbers c.in_ok-make_room.ensures.blocks c.in_ok-add_rows.ensures.same

pub returns-clause-whole : goal.returns-clause-whole
returns-clause-whole c = whole-table _ _ _ c.lay_run.ensures.table

pub returns-in_err-make_room-clause-were_whole : goal.returns-in_err-make_room-clause-were_whole
returns-in_err-make_room-clause-were_whole c = subst (λ (l : Numbered). AreWhole (changes l)) c.self.view_is (whole-table _ _ _ c.self.invariant)

pub returns-in_err-add_rows-clause-were_whole : goal.returns-in_err-add_rows-clause-were_whole
returns-in_err-add_rows-clause-were_whole c = subst (λ (l : Numbered). AreWhole (changes l)) c.self.view_is (whole-table _ _ _ c.self.invariant)

pub returns-clause-were_whole : goal.returns-clause-were_whole
returns-clause-were_whole c = subst (λ (l : Numbered). AreWhole (changes l)) c.self.view_is (whole-table _ _ _ c.self.invariant)
