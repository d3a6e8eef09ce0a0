-- Each write puts a block behind the others, and the last one zeros.
use Rattle.std.proofs.Common.{◌≡◌, ◌+◌, ◌*◌, ◌-◌, take, drop, length, ap, sym, ◌∙◌, subst, arith}
use Rattle.std.specs.Io.KnownBytes.{Appends}
use Rattle.hfs_fields.proofs.OutcomeLemmas.{on_ok}
use Rattle.hfs_blocks.specs.Layers.{changes}
use Rattle.hfs_volume.specs.declared.saving.SaveFault.{SaveFault}
use Rattle.hfs_volume.specs.Saving.{HasWritten}
use Rattle.hfs_volume.proofs.SavedPieces.{whole_piece, rest_piece, broken_off, broken_rest, passed_on, err_so, zeros_behind}
use Rattle.hfs_volume.proofs.Viewing.{same_length}
use Rattle.hfs_volume.proofs.image.Image.save_blocks.Goals as goal

pub loop-n-preserved : goal.loop-n-preserved
loop-n-preserved g c =
    let n = c.loop-n.n in
    let current = c.args.self.now.current in
    whole_piece _ _ _ current c.block.new.into n c.loop-n.invariant (n + 1) (omega arith)
    (c.block.ensures ∙ ap (λ x. take x (drop (512 * n) current)) (let z : 512 ≡ 512 * (n + 1 - n) = omega arith in z)) c.in_ok-write_at.ensures.ok

pub returns-in_err-write_at-clause-err : goal.returns-in_err-write_at-clause-err
returns-in_err-write_at-clause-err g c =
    let current = c.args.self.now.current in
    passed_on c.from_residual.result c.in_err-write_at.field-0.0
    (λ (fault : SaveFault). HasWritten (g.W.Write.contents c.args.writer.now) (g.W.Write.contents c.write_at.new.writer) fault.written current)
    c.from_residual.ensures.1
    (broken_off _ _ _ current c.block.new.into c.loop-n.n c.loop-n.invariant 512 c.in_err-write_at.field-0.0.written
    (omega (arith, c.loop-n-test.true, c.count-count.ensures.count)) c.block.ensures c.in_err-write_at.ensures.err)

pub returns-clause-ok : goal.returns-clause-ok
returns-clause-ok g c =
    let count = c.count-count.result in
    let current = c.args.self.now.current in
    let here : c.loop-n.n ≡ count = omega (arith, c.loop-n.auto.n-end, c.loop-n-test.false) in
    let before = subst (λ k. Appends (g.W.Write.contents c.args.writer.now) (g.W.Write.contents c.loop-n.writer) (take (512 * k) current)) here c.loop-n.invariant in
    let long : c.len.result ≡ length current =
    c.len.ensures.len ∙ same_length (changes c.self.inside.changed) c.self.inside.base current c.self.invariant.within (ap (λ v. v.current) c.self.view_is) in
    on_ok c.write_at-2.result _ _ (λ out. rest_piece _ _ _ current _ count before (zeros_behind current count c.len.result c.count-count.ensures.count long c.requires) out)
    c.write_at-2.ensures.ok

pub returns-clause-err : goal.returns-clause-err
returns-clause-err g c =
    let count = c.count-count.result in
    let current = c.args.self.now.current in
    let here : c.loop-n.n ≡ count = omega (arith, c.loop-n.auto.n-end, c.loop-n-test.false) in
    let before = subst (λ k. Appends (g.W.Write.contents c.args.writer.now) (g.W.Write.contents c.loop-n.writer) (take (512 * k) current)) here c.loop-n.invariant in
    let long : c.len.result ≡ length current =
    c.len.ensures.len ∙ same_length (changes c.self.inside.changed) c.self.inside.base current c.self.invariant.within (ap (λ v. v.current) c.self.view_is) in
    err_so c.write_at-2.result _
    (λ (fault : SaveFault). HasWritten (g.W.Write.contents c.args.writer.now) (g.W.Write.contents c.write_at-2.new.writer) fault.written current)
    (λ fault out. broken_rest _ _ _ current _ count before fault.written (omega (arith, c.count-count.ensures.count))
    (zeros_behind current count c.len.result c.count-count.ensures.count long c.requires) out)
    c.write_at-2.ensures.err
