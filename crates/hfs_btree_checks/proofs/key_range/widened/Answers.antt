use Rattle.std.proofs.Common.{Option, sym, ap, ◌∙◌, subst}
use Rattle.std.specs.Ordering.{is_lt}
use Rattle.hfs_btree.specs.Tree.{pair_of}
use Rattle.hfs_btree_checks.specs.declared.key_range.KeyRange.{KeyRange}
use Rattle.hfs_btree_checks.specs.Subtree.{HasRange}
use Rattle.hfs_btree_checks.proofs.KeyRanges.{widened-none, widened-above, widened-within}
use Rattle.hfs_btree_checks.proofs.key_range.widened.Goals as goal

pub returns-in_default : goal.returns-in_default
returns-in_default g c = λ ps h.
    let P : Option (KeyRange _) → Type 0 = λ r. HasRange g.K.Key.compare r ps in
    widened-none g.K.Key.compare g.met.K.Key.total c.key_of-key.result (pair_of g.K.Key c.args.entry.now) c.key_of-key.ensures ps (subst P c.in_default.is h)

pub returns-then-is_lt : goal.returns-then-is_lt
returns-then-is_lt g c = λ ps h.
    let P : Option (KeyRange _) → Type 0 = λ r. HasRange g.K.Key.compare r ps in
    let above = ap is_lt (sym c.compare_leaf.ensures) ∙ sym c.is_lt.ensures ∙ c.if-is_lt.true in
    widened-above g.K.Key.compare g.met.K.Key.total c.in-Some.one (pair_of g.K.Key c.args.entry.now) c.key_of.result c.key_of.ensures above ps (subst P c.in-Some.is h)

pub returns : goal.returns
returns g c = λ ps h.
    let P : Option (KeyRange _) → Type 0 = λ r. HasRange g.K.Key.compare r ps in
    let within = ap is_lt (sym c.compare_leaf.ensures) ∙ sym c.is_lt.ensures ∙ c.if-is_lt.false in
    widened-within g.K.Key.compare g.met.K.Key.total c.in-Some.one (pair_of g.K.Key c.args.entry.now) c.lesser_in.result c.lesser_in.ensures within ps (subst P c.in-Some.is h)
