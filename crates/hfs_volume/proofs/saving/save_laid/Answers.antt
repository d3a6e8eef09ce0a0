-- Each write puts a piece behind the others.
use Rattle.std.proofs.Common.{◌≡◌, ◌*◌, ◌-◌, take, ◌∙◌, subst, arith}
use Rattle.std.proofs.lemmas.List.{take_rest}
use Rattle.std.specs.Io.KnownBytes.{Appends}
use Rattle.hfs_fields.proofs.OutcomeLemmas.{on_ok}
use Rattle.hfs_blocks.specs.Layers.{changes}
use Rattle.hfs_volume.specs.declared.saving.SaveFault.{SaveFault}
use Rattle.hfs_volume.specs.Laid.{laid_over}
use Rattle.hfs_volume.specs.Saving.{HasWritten}
use Rattle.hfs_volume.proofs.SavedPieces.{whole_piece, rest_piece, broken_off, broken_rest, tail_piece, length-laid_over, passed_on, err_so}
use Rattle.hfs_volume.proofs.saving.save_laid.Goals as goal

pub loop-n-preserved : goal.loop-n-preserved
loop-n-preserved g c =
    (c.piece-next.ensures.within, whole_piece _ _ _ (laid_over (changes c.args.changed.now) c.args.base.now) c.piece-next.result.0.now c.loop-n.n c.loop-n.invariant.1 c.piece-next.result.1 (omega arith) c.piece-next.ensures.bytes c.in_ok-write_at.ensures.ok)

pub returns-in_err-write_at-clause-err : goal.returns-in_err-write_at-clause-err
returns-in_err-write_at-clause-err g c =
    let n = c.loop-n.n in
    let current = laid_over (changes c.args.changed.now) c.args.base.now in
    let long = length-laid_over (changes c.args.changed.now) c.args.base.now c.requires.within in
    passed_on c.from_residual.result c.in_err-write_at.field-0.0
    (λ (fault : SaveFault). HasWritten (g.W.Write.contents c.args.writer.now) (g.W.Write.contents c.write_at.new.writer) fault.written current)
    c.from_residual.ensures.1
    (broken_off _ _ _ current c.piece-next.result.0.now n c.loop-n.invariant.1 (512 * (c.piece-next.result.1 - n)) c.in_err-write_at.field-0.0.written
    (omega (arith, long, c.requires.count, c.loop-n.invariant.0)) c.piece-next.ensures.bytes c.in_err-write_at.ensures.err)

pub returns-clause-ok : goal.returns-clause-ok
returns-clause-ok g c =
    let count = c.args.count in
    let base = c.args.base.now in
    let current = laid_over (changes c.args.changed.now) base in
    let here : c.loop-n.n ≡ count = omega (arith, c.loop-n.invariant.0, c.loop-n-test.false) in
    let before = subst (λ k. Appends (g.W.Write.contents c.args.writer.now) (g.W.Write.contents c.loop-n.writer) (take (512 * k) current)) here c.loop-n.invariant.1 in
    on_ok c.write_at-2.result _ _
    (λ out. rest_piece _ _ _ current _ count before (take_rest base (count * 512) ∙ tail_piece (changes c.args.changed.now) base c.requires.within count c.requires.count) out)
    c.write_at-2.ensures.ok

pub returns-clause-err : goal.returns-clause-err
returns-clause-err g c =
    let count = c.args.count in
    let base = c.args.base.now in
    let current = laid_over (changes c.args.changed.now) base in
    let here : c.loop-n.n ≡ count = omega (arith, c.loop-n.invariant.0, c.loop-n-test.false) in
    let before = subst (λ k. Appends (g.W.Write.contents c.args.writer.now) (g.W.Write.contents c.loop-n.writer) (take (512 * k) current)) here c.loop-n.invariant.1 in
    let long = length-laid_over (changes c.args.changed.now) base c.requires.within in
    err_so c.write_at-2.result _
    (λ (fault : SaveFault). HasWritten (g.W.Write.contents c.args.writer.now) (g.W.Write.contents c.write_at-2.new.writer) fault.written current)
    (λ fault out. broken_rest _ _ _ current _ count before fault.written (omega (arith, long, c.requires.count))
    (take_rest base (count * 512) ∙ tail_piece (changes c.args.changed.now) base c.requires.within count c.requires.count) out)
    c.write_at-2.ensures.err
