use Rattle.std.proofs.Common.{ℕ, ◌<◌, ◌-◌, ◌∙◌, arith, refl, subst}
use Rattle.hfs_btree_insertion.specs.Growth.{HasCutLevel}
use Rattle.hfs_btree_insertion.specs.Steps.{HasCutDown}
use Rattle.hfs_btree_insertion.proofs.Steps.{down-init, next-deep, next-room, down-next, keys-short, len-short}
use Rattle.hfs_btree_insertion.proofs.level_cut.cut_levels.Goals as goal

pub loop-above-init : goal.loop-above-init
loop-above-init g c = record {
  most = omega arith;
  low = c.requires.least;
  down = down-init g.K.Key c.args.key.now c.args.len c.args.full (g.S.Nodes.nodes c.args.nodes.now) c.requires.sound c.requires.low;
  kept = refl;
}

pub cut_level-requires-clause-room : goal.cut_level-requires-clause-room
cut_level-requires-clause-room g c =
    let nodes = g.S.Nodes.nodes c.args.nodes.now in
    let mid = g.S.Nodes.nodes c.loop-above.nodes in
    let i = c.loop-above.invariant in
    let test = c.loop-above-test.true in
    let some : 0 < c.loop-above.above = omega (arith, test) in
    next-room g.K.Key c.args.key.now c.args.len c.args.full nodes c.requires.full c.loop-above.above (c.loop-above.above - 1) mid some i.most refl i.down

pub cut_level-requires-clause-short : goal.cut_level-requires-clause-short
cut_level-requires-clause-short g c =
    let nodes = g.S.Nodes.nodes c.args.nodes.now in
    let mid = g.S.Nodes.nodes c.loop-above.nodes in
    let i = c.loop-above.invariant in
    let test = c.loop-above-test.true in
    let some : 0 < c.loop-above.above = omega (arith, test) in
    let deep = next-deep g.K.Key c.args.key.now c.args.len c.args.full nodes c.requires.full c.loop-above.above (c.loop-above.above - 1) mid some i.most refl i.down in
    let short =
    len-short g.K.Key c.args.key.now c.args.len c.args.full g.met.K.Key.index_len g.met.K.Key.index_small (c.loop-above.above - 1) c.requires.short
    (λ more. keys-short g.K.Key c.args.key.now c.args.len c.args.full g.met.K.Key.index_len g.met.K.Key.index_small mid i.down.keeps.sound (omega (arith, deep, more))) in
    let is = c.level_len.ensures in
    omega (arith, short, is)

pub loop-above-preserved : goal.loop-above-preserved
loop-above-preserved g c =
    let i = c.loop-above.invariant in
    let most = i.most in
    let test = c.loop-above-test.true in
    let some : 0 < c.loop-above.above = omega (arith, test) in
    record {
      most = omega (arith, most);
      low = omega (arith, test);
      down = (let mid = g.S.Nodes.nodes c.loop-above.nodes in
          let new = g.S.Nodes.nodes c.cut_level.new.nodes in
          let L : ℕ → Type 0 = λ len. HasCutLevel g.K.Key c.args.key.now len (c.loop-above.above - 1) mid new in
          down-next g.K.Key c.args.key.now c.args.len c.args.full (g.S.Nodes.nodes c.args.nodes.now) c.requires.full c.loop-above.above (c.loop-above.above - 1) mid some most refl i.down new
          (subst L c.level_len.ensures c.in_ok-cut_level.ensures.cut));
      kept = c.in_ok-cut_level.ensures.kept ∙ i.kept;
    }

pub returns-clause-cut : goal.returns-clause-cut
returns-clause-cut g c =
    let i = c.loop-above.invariant in
    let low = i.low in
    let done = c.loop-above-test.false in
    let D : ℕ → Type 0 = λ a. HasCutDown g.K.Key c.args.key.now c.args.len a c.args.full (g.S.Nodes.nodes c.args.nodes.now) (g.S.Nodes.nodes c.loop-above.nodes) in
    subst D (omega (arith, low, done)) i.down
