use Rattle.std.proofs.Common.{◌∙◌, ◌≤◌, refl, ap, ℕ, List, length, arith}
use Rattle.hfs_btree.specs.declared.header.Header.{Header}
use Rattle.hfs_btree.proofs.DecodedLemmas.{decoded-within}
use Rattle.hfs_btree_edits.proofs.DecodesLemmas.{decodes-as}
use Rattle.hfs_btree_edits.proofs.StoreLemmas.{fits-set, fits-as, header-put, some-records, stored}
use Rattle.hfs_repair.proofs.Recounts.{is-recount}
use Rattle.hfs_repair.proofs.right_counts.head_with.Goals as goal

pub load-requires : goal.load-requires
load-requires g c = decodes-as (g.N.Nodes.nodes c.args.nodes.now) 0 c.requires.structure.header.value c.requires.structure.header.decodes

long : (m : ℕ) → 106 ≤ m → 30 ≤ m
long m h = omega arith

pub encode-requires : goal.encode-requires
encode-requires g c =
    let some = some-records (g.N.Nodes.nodes c.args.nodes.now) 0 c.in_ok-head.head c.in_ok-head.ensures.node (long _ c.requires.structure.header.long) in
    fits-as _ _ c.replace-old.ensures.rest
    (fits-set c.in_ok-head.head.records 0 c.in_ok-entry.entry.items some (c.in_ok-entry.ensures.length ∙ ap (λ (bs : List ℕ). length bs) c.record.ensures) c.in_ok-head.ensures.fits)

pub returns : goal.returns
returns g c =
    let nodes = g.N.Nodes.nodes c.args.nodes.now in
    let some = some-records nodes 0 c.in_ok-head.head c.in_ok-head.ensures.node (long _ c.requires.structure.header.long) in
    let within = decoded-within nodes 0 c.requires.structure.header.value c.requires.structure.header.decodes in
    let right : Header = record (c.args.header.now) { records = c.args.records; free_nodes = c.args.free } in
    let put = header-put right c.in_ok-head.head c.in_ok-entry.entry.items _ _ _ c.in_ok-head.ensures.node some c.replace-old.ensures.rest
    (c.in_ok-entry.ensures.length ∙ ap (λ (bs : List ℕ). length bs) c.record.ensures) c.in_ok-entry.ensures.fields
    (stored 0 _ c.encode.new.out nodes _ within c.encode.ensures.node c.encode.ensures.clear refl) in
    is-recount g.K.Key nodes _ c.requires.structure right put
    (λ i. record (c.requires.header i) { records = c.requires.records i; free_nodes = c.requires.free i })
