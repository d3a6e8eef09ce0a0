use Rattle.std.proofs.Common.{◌≡◌, true, List, ℕ, drop, sym, ap, ◌∙◌, subst}
use Rattle.std.specs.Bool.{IsTrue}
use Rattle.hfs_fields.specs.Keys.{cat_cmp, cat_body_start}
use Rattle.hfs_fields.specs.Records.{is_dir, begins_dir}
use Rattle.hfs_btree.specs.Pairs.{lookup}
use Rattle.hfs_btree_edits.specs.Entries.{record_at}
use Rattle.hfs_catalog.specs.Tree.{catalog_of}
use Rattle.hfs_record_edits.proofs.FoundBodies.{body_has, is_dir-begins}
use Rattle.hfs_record_edits.proofs.settings.set_valence_at.Goals as goal

pub unreachable-requires-in_default-read : goal.unreachable-requires-in_default-read
unreachable-requires-in_default-read g c =
    let cat = catalog_of (g.N.Nodes.nodes c.args.nodes.now) in
    let entry = record_at c.args.place.now.bytes c.args.place.now.at in
    let body = drop (cat_body_start entry) entry in
    let there = body_has (λ (b : List ℕ). is_dir b ≡ true) (lookup cat_cmp c.args.key.now cat) body c.requires.there c.requires.place.found in
    let same : c.body_of.result.now ≡ body = c.body_of.ensures ∙ ap (λ (e : List ℕ). drop (cat_body_start e) e) c.in-Some.ensures.1 in
    c.in_default-read.ensures (subst (λ (b : List ℕ). IsTrue (begins_dir b)) (sym same) (is_dir-begins body there))
