-- The patch was laid over the changed blocks, and so over the bytes.
use Rattle.std.proofs.Common.{◌≡◌, ℕ, List, sym, ap, ◌∙◌, subst}
use Rattle.std.specs.Prelude.{Result, Ok, Err, OnErr}
use Rattle.hfs_blocks.specs.Blocks.{block_at, block_count}
use Rattle.hfs_blocks.specs.Layers.{changes, over, AreWithin}
use Rattle.hfs_space.specs.Zeros.{AreAmong}
use Rattle.hfs_space.specs.Changed.{laid_changes}
use Rattle.hfs_volume.specs.Image.{HasKept, image_of}
use Rattle.hfs_volume.proofs.Kept.{kept}
use Rattle.hfs_volume.proofs.Viewing.{same_count, committed, uncommitted}
use Rattle.hfs_volume.proofs.image.Image.commit.Goals as goal

on_err : {T E A : Type 0} (r : Result T E) → A → OnErr r A
on_err (Ok x) a = tt
on_err (Err e) a = a

pub lay-requires-clause-patch : goal.lay-requires-clause-patch
lay-requires-clause-patch c =
    let e : block_count c.args.self.now.current ≡ block_count c.blocks-base.result.base.now =
    sym (ap block_count c.blocks-base.ensures ∙ same_count (changes c.self.inside.changed) c.self.inside.base c.args.self.now.current c.self.invariant.within (ap (λ v. v.current) c.self.view_is)) in
    subst (AreWithin (changes c.args.patch.now)) e c.requires.patch

pub lay-requires-clause-zeros : goal.lay-requires-clause-zeros
lay-requires-clause-zeros c =
    let e : block_count c.args.self.now.current ≡ block_count c.blocks-base.result.base.now =
    sym (ap block_count c.blocks-base.ensures ∙ same_count (changes c.self.inside.changed) c.self.inside.base c.args.self.now.current c.self.invariant.within (ap (λ v. v.current) c.self.view_is)) in
    subst (AreAmong c.args.zeros.now) e c.requires.zeros

pub invariant_of-self : goal.invariant_of-self
invariant_of-self c = record {
  small = c.self.invariant.small;
  within = subst (λ (b : List ℕ). AreWithin (changes c.lay.new.self) (block_count b)) c.blocks-base.ensures
      (c.in_err-lay.ensures.within (subst (λ (b : List ℕ). AreWithin (changes c.self.inside.changed) (block_count b)) (sym c.blocks-base.ensures) c.self.invariant.within));
}

pub invariant_of-self-2 : goal.invariant_of-self-2
invariant_of-self-2 c = record {
  small = c.self.invariant.small;
  within = subst (λ (b : List ℕ). AreWithin (changes c.lay.new.self) (block_count b)) c.blocks-base.ensures
      (c.in_ok-lay.ensures.within (subst (λ (b : List ℕ). AreWithin (changes c.self.inside.changed) (block_count b)) (sym c.blocks-base.ensures) c.self.invariant.within));
}

pub returns-clause-current : goal.returns-clause-current
returns-clause-current c =
    committed (changes c.self.inside.changed) c.self.inside.base c.args.self.now.current c.self.invariant.within (ap (λ v. v.current) c.self.view_is) (laid_changes c.args.patch.now c.args.zeros.now) (changes c.lay.new.self)
    (λ k. subst (λ (b : List ℕ). over (changes c.lay.new.self) (block_at b) k ≡ over (laid_changes c.args.patch.now c.args.zeros.now) (over (changes c.self.inside.changed) (block_at b)) k) c.blocks-base.ensures (c.in_ok-lay.ensures.laid k))

pub returns-in_err-lay-clause-unchanged : goal.returns-in_err-lay-clause-unchanged
returns-in_err-lay-clause-unchanged c = on_err c.from_residual.result
    (uncommitted (changes c.self.inside.changed) c.self.inside.base c.args.self.now.current c.self.invariant.within (ap (λ v. v.current) c.self.view_is) (changes c.lay.new.self)
    (λ k. subst (λ (b : List ℕ). over (changes c.lay.new.self) (block_at b) k ≡ over (changes c.self.inside.changed) (block_at b) k) c.blocks-base.ensures (c.in_err-lay.ensures.kept k)))

pub returns-clause-changed : goal.returns-clause-changed
returns-clause-changed c = subst (λ v. HasKept v (laid_changes c.args.patch.now c.args.zeros.now) (image_of c.self.inside.base c.lay.new.self c.then-self-inside.result.blocks)) c.self.view_is
    (kept c.self.inside.changed c.lay.new.self (laid_changes c.args.patch.now c.args.zeros.now) c.in_ok-lay.ensures.joined)
