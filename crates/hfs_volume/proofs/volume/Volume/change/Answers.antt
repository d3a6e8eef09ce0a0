-- The edit is the call's, and so is its outcome.
use Rattle.std.proofs.Common.{rules, ◌∙◌, ap, sym, subst, arith, ◌≤◌, ℕ, List}
use Rattle.hfs_fields.proofs.OutcomeLemmas.{if_ok}
use Rattle.hfs_blocks.specs.Blocks.{block_at, block_count}
use Rattle.hfs_call_edits.specs.Edits.{HasForkRoom, HasForkWritten, IsEditOf}
use Rattle.hfs_volume.specs.Image.{ImageValue}
use Rattle.hfs_volume.proofs.BlocksWritten.{written_by}
use Rattle.hfs_volume.proofs.volume.Volume.change.Goals as goal

pub new-requires : goal.new-requires
new-requires c =
    let most = c.self.invariant.agrees.sound.len.most in
    let few : block_count c.self.inside.image.current ≤ 4194304 = omega (arith, most) in
    let here = subst (λ (v : ImageValue). block_count v.current ≤ 4194304) (sym c.blocks-blocks.ensures) few in
    search rules

pub make-requires : goal.make-requires
make-requires c =
    let same = ap (λ (v : ImageValue). v.current) ((λ i. (c.new.ensures i).image.now) ∙ c.blocks-blocks.ensures ∙ c.self.view_is) in
    record {
      of = c.args.call.now;
      is = subst (λ (image : List ℕ). IsEditOf c.args.call.now (block_count image) (block_at image) c.in_ok-edit.edit) same c.in_ok-edit.ensures.made;
      room = subst (λ (image : List ℕ). HasForkRoom c.args.call.now (block_count image) (block_at image) c.in_ok-edit.edit) same c.in_ok-edit.ensures.room;
      forks = subst (λ (image : List ℕ). HasForkWritten c.args.call.now (block_count image) (block_at image) c.in_ok-edit.edit) same c.in_ok-edit.ensures.forks;
    }

pub returns-clause-outcome : goal.returns-clause-outcome
returns-clause-outcome c =
    let same = ap (λ (v : ImageValue). v.current) ((λ i. (c.new.ensures i).image.now) ∙ c.blocks-blocks.ensures ∙ c.self.view_is) in
    if_ok c.make.result _ _
    (λ reply outcome. outcome c.args.call.now (record {
      is = subst (λ (image : List ℕ). IsEditOf c.args.call.now (block_count image) (block_at image) c.in_ok-edit.edit) same c.in_ok-edit.ensures.made;
      room = subst (λ (image : List ℕ). HasForkRoom c.args.call.now (block_count image) (block_at image) c.in_ok-edit.edit) same c.in_ok-edit.ensures.room;
      forks = subst (λ (image : List ℕ). HasForkWritten c.args.call.now (block_count image) (block_at image) c.in_ok-edit.edit) same c.in_ok-edit.ensures.forks;
    }))
    c.make.ensures.outcome

pub returns-clause-written : goal.returns-clause-written
returns-clause-written c =
    let same = ap (λ (v : ImageValue). v.current) ((λ i. (c.new.ensures i).image.now) ∙ c.blocks-blocks.ensures ∙ c.self.view_is) in
    written_by c.args.call.now c.in_ok-edit.edit c.args.self.now c.make.new.self (record {
      is = subst (λ (image : List ℕ). IsEditOf c.args.call.now (block_count image) (block_at image) c.in_ok-edit.edit) same c.in_ok-edit.ensures.made;
      room = subst (λ (image : List ℕ). HasForkRoom c.args.call.now (block_count image) (block_at image) c.in_ok-edit.edit) same c.in_ok-edit.ensures.room;
      forks = subst (λ (image : List ℕ). HasForkWritten c.args.call.now (block_count image) (block_at image) c.in_ok-edit.edit) same c.in_ok-edit.ensures.forks;
    }) c.make.result c.make.ensures.written c.make.ensures.laid
