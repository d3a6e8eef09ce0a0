-- The base's part of the fork, zeros, or a call's bytes.
use Rattle.std.proofs.Common.{◌≡◌, ℕ, ◌+◌, ◌-◌, ◌++◌, ◌∙◌, List, take, length, refl, ap, subst, arith}
use Rattle.std.specs.Prelude.{replicate}
use Rattle.hfs_viewers.specs.declared.reading.Stretch.{Stretch}
use Rattle.hfs_viewers.specs.declared.reading.Stretch.TheVariants as stretch
use Rattle.hfs_viewers.specs.Stretches.{IsStretch}
use Rattle.hfs_viewers.proofs.LookedUp.{base_part, within_base}
use Rattle.hfs_viewers.proofs.ForkReads.{grown, pushed}
use Rattle.hfs_viewers.proofs.table.Table.push_stretch.Goals as goal

pub read-requires-clause-extents : goal.read-requires-clause-extents
read-requires-clause-extents c = within_base c.args.self.now c.requires.table c.args.fork.now c.as_slice-extents.result.now c.requires.fork c.as_slice-extents.ensures

pub returns-in_ok-extend_from_slice-in-Base : goal.returns-in_ok-extend_from_slice-in-Base
returns-in_ok-extend_from_slice-in-Base c =
    let here = subst (λ (s : Stretch). IsStretch c.args.fork.now.pieces c.args.place c.args.most s) c.in-Base.is c.stretch.ensures in
    let read = base_part c.args.self.now c.requires.table c.args.fork.now c.as_slice-extents.result.now c.in-Base.from c.in-Base.count c.in_ok-read-in-Base.read.items
    c.as_slice-extents.ensures here.in_base c.in_ok-read-in-Base.ensures in
    pushed c.args.self.now c.requires.table c.args.fork.now c.requires.fork c.args.place c.args.most (stretch.Base c.in-Base.from c.in-Base.count) here
    c.args.bytes.now.items c.extend_from_slice.new.self.items c.in-Base.count refl
    (c.in_ok-extend_from_slice-in-Base.ensures.items ∙ ap (λ (l : List ℕ). c.args.bytes.now.items ++ l) (c.deref.ensures.value ∙ read))

pub returns-in_ok-resize-in-Zeros : goal.returns-in_ok-resize-in-Zeros
returns-in_ok-resize-in-Zeros c =
    let here = subst (λ (s : Stretch). IsStretch c.args.fork.now.pieces c.args.place c.args.most s) c.in-Zeros.is c.stretch.ensures in
    pushed c.args.self.now c.requires.table c.args.fork.now c.requires.fork c.args.place c.args.most (stretch.Zeros c.in-Zeros.count) here
    c.args.bytes.now.items c.resize.new.self.items c.in-Zeros.count refl
    (c.in_ok-resize-in-Zeros.ensures.items ∙ (λ i. take (c.len.ensures i + c.in-Zeros.count) c.args.bytes.now.items ++ replicate (c.len.ensures i + c.in-Zeros.count - c.args.bytes.now.len) 0)
    ∙ grown c.args.bytes.now.items c.args.bytes.now.len c.in-Zeros.count (omega (arith, c.args.bytes.now.ok.0)))

pub returns-in_ok-extend_from_slice-in-Given : goal.returns-in_ok-extend_from_slice-in-Given
returns-in_ok-extend_from_slice-in-Given c =
    let here = subst (λ (s : Stretch). IsStretch c.args.fork.now.pieces c.args.place c.args.most s) c.in-Given.is c.stretch.ensures in
    pushed c.args.self.now c.requires.table c.args.fork.now c.requires.fork c.args.place c.args.most (stretch.Given c.in-Given.given) here
    c.args.bytes.now.items c.extend_from_slice-in-Given.new.self.items (length c.in-Given.given.now) refl c.in_ok-extend_from_slice-in-Given.ensures.items
