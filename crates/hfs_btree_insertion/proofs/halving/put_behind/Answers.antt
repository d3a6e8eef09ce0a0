use Rattle.std.proofs.Common.{ℕ, List, [], ◌∷◌, ◌++◌, ap, ◌∙◌, arith}
use Rattle.hfs_btree_edits.proofs.DecodesLemmas.{decodes-within}
use Rattle.hfs_btree_insertion.proofs.RaiseWhole.{one-fits}
use Rattle.hfs_btree_insertion.proofs.halving.put_behind.Goals as goal

pub store-requires-clause-within : goal.store-requires-clause-within
store-requires-clause-within g c = decodes-within (g.S.Nodes.nodes c.args.nodes.now) c.args.n c.requires.first.1

pub store-requires-2-clause-fits : goal.store-requires-2-clause-fits
store-requires-2-clause-fits g c =
    let size = one-fits c.args.entry.items _ (c.in_ok-push.ensures.ok ∙ ap (λ (xs : List (List ℕ)). xs ++ c.args.entry.items ∷ []) c.new-records.ensures) in
    let short = c.requires.short in
    omega (arith, size, short)
