-- a write puts its bytes behind the others
use Rattle.std.proofs.Common.{length, take, drop, ◌++◌, ◌-◌, ap, sym, ◌∙◌, subst, arith, length-take, length-drop}
use Rattle.std.proofs.Math.Seq.{take-add}
use Rattle.std.proofs.lemmas.List.{take_rest}
use Rattle.std.specs.Io.KnownBytes.{Appends}
use Rattle.std.proofs.KnownBytes.{Appends-trans, Appends-kept}
use Rattle.hfs_volume.proofs.saving.write_counted.Goals as goal
use Rattle.hfs_volume.proofs.saving.write_counted.Goals.{in-Ok, in-Err+else-ne}

pub loop-turn-preserved : goal.loop-turn-preserved
loop-turn-preserved g c =
    let bytes = c.args.bytes.now in
    let done = c.loop-turn.done in
    elim c.match-write.branch [
      | in-Ok w ↦
          let joined = ap (λ l. take done bytes ++ take w.in-Ok.more l) (take_rest bytes done) ∙ sym (take-add done w.in-Ok.more bytes) in
          rw w.done-is (
            omega (arith, w.in-Ok.ensures.bound, length-take (length bytes - done) (drop done bytes), length-drop done bytes, c.loop-turn.invariant.0),
            subst (Appends _ _) joined (Appends-trans _ _ _ _ _ c.loop-turn.invariant.1 w.in-Ok.ensures.bytes),
          )
      | in-Err+else-ne w ↦ rw w.done-is (c.loop-turn.invariant.0, Appends-kept _ _ _ _ c.loop-turn.invariant.1 w.in-Err.ensures.bytes)
    ]
