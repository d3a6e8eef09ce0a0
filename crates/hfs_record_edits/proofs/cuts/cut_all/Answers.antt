-- One more extent is cut.
use Rattle.std.proofs.Common.{ℕ, ◌-◌, ◌∙◌, sym, ap, arith}
use Rattle.std.proofs.lemmas.List.{length-set}
use Rattle.hfs_fields.specs.declared.extent.Extent.{Extent}
use Rattle.hfs_record_edits.specs.Cuts.{cut_extent}
use Rattle.hfs_record_edits.proofs.CutLemmas.{cut-step, cut-end}
use Rattle.hfs_record_edits.proofs.cuts.cut_all.Goals as goal

pub loop-i-preserved : goal.loop-i-preserved
loop-i-preserved c =
    let es = c.loop-i.extents.items in
    let i = c.loop-i.invariant in
    let e = c.index-extent.result.now in
    record {
      few = omega (arith, c.loop-i-test.true);
      long = length-set es c.loop-i.i c.first_blocks.result ∙ i.long;
      whole = cut-step es c.loop-i.i c.loop-i.stay e c.first_blocks.result c.saturating_sub-stay.result (omega (arith, c.loop-i-test.true, i.long)) (c.first_blocks.ensures ∙ ap (cut_extent c.loop-i.stay) c.index-extent.ensures)
          (c.saturating_sub-stay.ensures ∙ ap (λ (k : ℕ). c.loop-i.stay - k) (c.from.ensures ∙ ap (λ (x : Extent). x.count) c.index-extent.ensures))
          ∙ i.whole;
    }

pub returns : goal.returns
returns c =
    let es = c.loop-i.extents.items in
    let i = c.loop-i.invariant in
    sym (cut-end es c.loop-i.i c.loop-i.stay (omega (arith, c.loop-i-test.false, i.long))) ∙ i.whole
