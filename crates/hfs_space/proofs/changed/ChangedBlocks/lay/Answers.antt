-- The flags are those of before, and then the change was laid over the fields.
use Rattle.std.proofs.Common.{length, Bool, List, sym, ap, ◌∙◌, subst, arith, Result, Ok, Err}
use Rattle.std.specs.Prelude.{OnOk, OnErr}
use Rattle.std.proofs.lemmas.List.{with_items_is}
use Rattle.hfs_blocks.specs.Layers.{changes, AreWithin, ShowsLaid, ShowsSame}
use Rattle.hfs_space.specs.Changed.{all_blocks, laid_changes, HasBlocksOf}
use Rattle.hfs_space.specs.Zeros.{AreAmong}
use Rattle.hfs_space.specs.Flags.{is_flagged}
use Rattle.hfs_space.proofs.RunLemmas.{among_more}
use Rattle.hfs_space.proofs.Laid.{same_flags_shown, flags_kept_within, laid_over_all, joined_all, still_shown, within_all}
use Rattle.hfs_space.proofs.changed.ChangedBlocks.lay.Goals as goal

on_err : {T E A : Type 0} (r : Result T E) → A → OnErr r A
on_err (Ok x) a = tt
on_err (Err e) a = a

pub lay_change-requires-clause-flags : goal.lay_change-requires-clause-flags
lay_change-requires-clause-flags g c =
    let wanted = c.flags_wanted.ensures (subst (AreAmong c.args.zeros.now) (sym c.count.ensures) c.requires.zeros) in
    let enough = c.in_ok-more_flags.ensures.enough in
    let same = ap (λ (fs : List Bool). length fs) c.deref_mut.ensures.value in
    among_more c.flags_wanted.result (length c.deref_mut.result.now) c.args.zeros.now (omega (arith, enough, same)) wanted

pub returns-in_err-more_flags-clause-kept : goal.returns-in_err-more_flags-clause-kept
returns-in_err-more_flags-clause-kept g c = on_err c.from_residual.result
    (same_flags_shown c.args.self.now c.self.inside.kept c.self.inside.flags.items c.more_flags.new.flags.items c.self.view_is c.in_err-more_flags.ensures.same (g.B.Blocks.blocks c.args.below.now))

pub returns-in_err-more_flags-clause-within : goal.returns-in_err-more_flags-clause-within
returns-in_err-more_flags-clause-within g c =
    flags_kept_within c.args.self.now c.self.inside.kept c.self.inside.flags.items c.more_flags.new.flags.items c.self.view_is c.in_err-more_flags.ensures.same (g.B.Blocks.total c.args.below.now)

pub returns-clause-laid : goal.returns-clause-laid
returns-clause-laid g c =
    let long = c.lay_change.ensures.len ∙ c.deref_mut.ensures.len in
    subst (λ (fs : List Bool). OnOk c.lay_change.result (ShowsLaid (g.B.Blocks.blocks c.args.below.now) (changes c.args.self.now) (laid_changes c.args.patch.now c.args.zeros.now) (changes (all_blocks c.lay_change.new.kept fs)))) (sym (with_items_is c.more_flags.new.flags c.lay_change.new.flags long))
    (laid_over_all c.args.self.now c.self.inside.kept c.self.inside.flags.items c.deref_mut.result.now c.self.view_is
    (λ n. ap (λ (fs : List Bool). is_flagged fs n) c.deref_mut.ensures.value ∙ c.in_ok-more_flags.ensures.same n)
    (g.B.Blocks.blocks c.args.below.now) c.args.patch.now c.args.zeros.now c.lay_change.new.kept c.lay_change.new.flags c.lay_change.result c.lay_change.ensures.laid)

pub returns-clause-joined : goal.returns-clause-joined
returns-clause-joined g c =
    let long = c.lay_change.ensures.len ∙ c.deref_mut.ensures.len in
    subst (λ (fs : List Bool). OnOk c.lay_change.result (HasBlocksOf (changes c.args.self.now) (laid_changes c.args.patch.now c.args.zeros.now) (changes (all_blocks c.lay_change.new.kept fs)))) (sym (with_items_is c.more_flags.new.flags c.lay_change.new.flags long))
    (joined_all c.args.self.now c.self.inside.kept c.self.inside.flags.items c.deref_mut.result.now c.self.view_is
    (λ n. ap (λ (fs : List Bool). is_flagged fs n) c.deref_mut.ensures.value ∙ c.in_ok-more_flags.ensures.same n)
    (g.B.Blocks.blocks c.args.below.now) c.args.patch.now c.args.zeros.now c.lay_change.new.kept c.lay_change.new.flags c.lay_change.result c.lay_change.ensures.joined)

pub returns-clause-kept : goal.returns-clause-kept
returns-clause-kept g c =
    let long = c.lay_change.ensures.len ∙ c.deref_mut.ensures.len in
    subst (λ (fs : List Bool). OnErr c.lay_change.result (ShowsSame (g.B.Blocks.blocks c.args.below.now) (changes c.args.self.now) (changes (all_blocks c.lay_change.new.kept fs)))) (sym (with_items_is c.more_flags.new.flags c.lay_change.new.flags long))
    (still_shown c.args.self.now c.self.inside.kept c.self.inside.flags.items c.deref_mut.result.now c.self.view_is
    (λ n. ap (λ (fs : List Bool). is_flagged fs n) c.deref_mut.ensures.value ∙ c.in_ok-more_flags.ensures.same n)
    (g.B.Blocks.blocks c.args.below.now) c.args.patch.now c.args.zeros.now c.lay_change.new.kept c.lay_change.new.flags c.lay_change.result c.lay_change.ensures.unchanged)

pub returns-clause-within : goal.returns-clause-within
returns-clause-within g c =
    let long = c.lay_change.ensures.len ∙ c.deref_mut.ensures.len in
    subst (λ (fs : List Bool). AreWithin (changes c.args.self.now) (g.B.Blocks.total c.args.below.now) → AreWithin (changes (all_blocks c.lay_change.new.kept fs)) (g.B.Blocks.total c.args.below.now)) (sym (with_items_is c.more_flags.new.flags c.lay_change.new.flags long))
    (within_all c.args.self.now c.self.inside.kept c.self.inside.flags.items c.deref_mut.result.now c.self.view_is
    (λ n. ap (λ (fs : List Bool). is_flagged fs n) c.deref_mut.ensures.value ∙ c.in_ok-more_flags.ensures.same n)
    (g.B.Blocks.blocks c.args.below.now) c.args.patch.now c.args.zeros.now c.lay_change.new.kept c.lay_change.new.flags (g.B.Blocks.total c.args.below.now) c.requires.zeros c.lay_change.ensures.within c.lay_change.ensures.flagged)
