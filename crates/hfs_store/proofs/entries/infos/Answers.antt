use Rattle.std.proofs.Common.{◌<◌, length, sym, ◌∙◌, ap, arith}
use Rattle.hfs_model.specs.Replies.{info_of}
use Rattle.hfs_store.specs.Placing.{place_info}
use Rattle.hfs_store.proofs.Sorted.{one_more, no_more}
use Rattle.hfs_store.proofs.entries.infos.Goals as goal
use Rattle.hfs_store.proofs.entries.infos.Goals.{then-entry-dir+in_ok-place_info, else-entry-dir}

pub loop-at-preserved : goal.loop-at-preserved
loop-at-preserved c =
    let es = c.args.entries.now in
    let i = c.loop-at.at in
    let e = c.index-entries-at.result in
    let h : i < length es = omega arith in
    elim c.if-entry-dir.branch [
      | then-entry-dir+in_ok-place_info w ↦
          ap (λ v. v.items) w.found-is ∙ w.in_ok-place_info.ensures
          ∙ (λ k. place_info ((w.info_of.ensures ∙ ap (info_of es) c.index-entries-at.is) k) (c.loop-at.invariant k)) ∙ sym (one_more es i e c.args.dir h (ap (λ x. x.1.parent) (sym c.index-entries-at.is) ∙ w.if-entry-dir.true))
      | else-entry-dir w ↦ ap (λ v. v.items) w.found-is ∙ c.loop-at.invariant ∙ sym (no_more es i e c.args.dir h (λ is. w.if-entry-dir.false (ap (λ x. x.1.parent) c.index-entries-at.is ∙ is)))
    ]
