-- Which blocks of forks a call wrote.
use Rattle.std.proofs.Common.{◌≡◌, inl, inr, ℕ, List, [], append-nil, refl, sym, ◌∙◌, ap, subst, Result, Ok, Err}
use Rattle.std.specs.Prelude.{OnOk}
use Rattle.hfs_blocks.specs.Blocks.{block_at}
use Rattle.hfs_model.specs.declared.call.Call.{Call}
use Rattle.hfs_check.specs.Parts.{Blocks}
use Rattle.hfs_call_patches.specs.declared.change.Change.{Change}
use Rattle.hfs_call_patches.specs.CallChanges.{written_blocks}
use Rattle.hfs_call_edits.specs.declared.editing.Refusal.{Refusal}
use Rattle.hfs_call_edits.specs.ForkWrites.{WritesFork}
use Rattle.hfs_volume.specs.Image.{ImageValue}
use Rattle.hfs_volume.specs.Steps.{IsEditOn, AreWrittenBy, IsLaidBy, HasWrittenBlocks}

pub written_by : {T E : Type 0} (c : Call) (edit : Result Change Refusal) (old new : ImageValue) → IsEditOn c old.current edit → (r : Result T E) → OnOk r (AreWrittenBy edit old new) → OnOk r (IsLaidBy edit old new)
    → OnOk r (HasWrittenBlocks c old new)
written_by c (Ok change) old new is (Ok x) h laid = record {
  blocks = written_blocks change.written;
  joined = h;
  none = λ other. ap written_blocks (is.is.comes.unwritten other);
  forks = inr (subst (λ (blocks : Blocks). WritesFork c (written_blocks change.written) (block_at old.current) blocks) (sym laid) is.forks);
}
written_by c (Err refusal) old new is (Ok x) h same = record { blocks = []; joined = h ∙ sym (append-nil old.written); none = λ other. refl; forks = inl same }
written_by c edit old new is (Err e) h laid = tt

pub nothing_written : {T E : Type 0} (c : Call) (v : ImageValue) (r : Result T E) → OnOk r (HasWrittenBlocks c v v)
nothing_written c v (Ok x) = record { blocks = []; joined = sym (append-nil v.written); none = λ other. refl; forks = inl refl }
nothing_written c v (Err e) = tt
