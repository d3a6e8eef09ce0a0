use Rattle.std.proofs.Common.{◌≤◌, ◌∙◌, subst, ap, ℕ, List, [], length, get_or, refl, sym}
use Rattle.hfs_btree.specs.Tree.{records_in, records_of}
use Rattle.hfs_btree_edits.proofs.StoreLemmas.{some-of, fits-set, header-put, some-records, on-ok}
use Rattle.hfs_btree_edits.proofs.DecodesLemmas.{decodes-some}
use Rattle.hfs_btree_edits.proofs.header_store.put_header.Goals as goal

pub viewed-head-requires-clause-decodes : goal.viewed-head-requires-clause-decodes
viewed-head-requires-clause-decodes g c =
    let nodes = g.S.Nodes.nodes c.args.nodes.now in
    decodes-some nodes 0 (some-of (records_in nodes 0) c.requires.long)

pub record-requires : goal.record-requires
record-requires g c = some-records (g.S.Nodes.nodes c.args.nodes.now) 0 c.viewed-head.result c.viewed-head.ensures.node c.requires.long

pub rewritten-requires : goal.rewritten-requires
rewritten-requires g c =
    let L : List ℕ → Type 0 = λ bs. 30 ≤ length bs in
    subst L (ap (λ (rs : List (List ℕ)). get_or rs 0 []) (ap records_of c.viewed-head.ensures.node) ∙ sym c.record.ensures.bytes) c.requires.long

pub store_replaced-requires-clause-place : goal.store_replaced-requires-clause-place
store_replaced-requires-clause-place g c =
    some-records (g.S.Nodes.nodes c.args.nodes.now) 0 c.viewed-head.result c.viewed-head.ensures.node c.requires.long

pub store_replaced-requires-clause-fits : goal.store_replaced-requires-clause-fits
store_replaced-requires-clause-fits g c =
    let some = some-records (g.S.Nodes.nodes c.args.nodes.now) 0 c.viewed-head.result c.viewed-head.ensures.node c.requires.long in
    fits-set c.viewed-head.result.records 0 c.in_ok-entry.entry.items some
    (c.in_ok-entry.ensures.length ∙ ap (λ (bs : List ℕ). length bs) c.record.ensures.bytes) c.viewed-head.ensures.fits

pub returns-clause-put : goal.returns-clause-put
returns-clause-put g c =
    let some = some-records (g.S.Nodes.nodes c.args.nodes.now) 0 c.viewed-head.result c.viewed-head.ensures.node c.requires.long in
    on-ok _ _ c.store_replaced.result
    (λ stored. header-put c.args.header.now c.viewed-head.result c.in_ok-entry.entry.items _ _ _ c.viewed-head.ensures.node some refl
    (c.in_ok-entry.ensures.length ∙ ap (λ (bs : List ℕ). length bs) c.record.ensures.bytes) c.in_ok-entry.ensures.fields stored)
    c.store_replaced.ensures.stored
