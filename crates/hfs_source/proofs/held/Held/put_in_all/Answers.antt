-- Block by block.
use Rattle.std.proofs.Common.{refl, ◌∙◌, arith}
use Rattle.hfs_source.specs.Held.{held_blocks}
use Rattle.hfs_source.proofs.PuttingIn.{all-more, only-more}
use Rattle.hfs_source.proofs.held.Held.put_in_all.Goals as goal

pub loop-i-preserved : goal.loop-i-preserved
loop-i-preserved c = record {
  held = c.in_ok-put_in.ensures.held;
  start = refl;
  count = omega (arith, c.in_ok-put_in.ensures.count);
  len = c.in_ok-put_in.ensures.len ∙ c.loop-i.invariant.len;
  behind = λ k le. c.in_ok-put_in.ensures.behind k (omega (arith, le)) ∙ c.loop-i.invariant.behind k (omega (arith, le));
  all = all-more c.args.first c.args.self.now.count c.loop-i.i c.args.self.now.bytes.items c.loop-i.self.bytes.items (held_blocks c.args.self.now)
      (held_blocks c.loop-i.self) (held_blocks c.put_in.new.self) c.in_ok-put_in.ensures.put c.loop-i.invariant.behind c.loop-i.invariant.all;
  only = only-more c.args.first c.args.self.now.count c.loop-i.i c.args.self.now.bytes.items c.loop-i.self.bytes.items (held_blocks c.args.self.now)
      (held_blocks c.loop-i.self) (held_blocks c.put_in.new.self) c.in_ok-put_in.ensures.put c.loop-i.invariant.behind c.loop-i.invariant.only;
}
