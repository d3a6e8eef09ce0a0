use Rattle.std.proofs.Common.{◌≡◌, ℕ, true, false, ◌++◌, List, sym, ap, subst, ◌∙◌}
use Rattle.hfs_fields.specs.KeyForms.{cat_leaf_bytes}
use Rattle.hfs_remains.specs.Items.{written, KnowItems}
use Rattle.hfs_remains.specs.declared.catalog.FoundRecord.{FoundRecord}
use Rattle.hfs_remains.proofs.ItemLemmas.{not-named, is-there, is-next, knows-more, known-is, named-some, named-none}
use Rattle.hfs_remains.proofs.items.push_item.Goals as goal

pub returns-in_default-clause-items : goal.returns-in_default-clause-items
returns-in_default-clause-items c = sym (not-named c.args.items.now.items c.args.found (named-none c.args.found (sym c.named_id.ensures ∙ c.in_default.is)))

pub returns-then-is_known-clause-items : goal.returns-then-is_known-clause-items
returns-then-is_known-clause-items c =
    let r = c.args.found in
    let some = named-some r c.in-Some.id (sym c.named_id.ensures ∙ c.in-Some.is) in
    let row : c.in_ok-row.row.items ≡ written r = c.in_ok-row.ensures.written ∙ (λ t. cat_leaf_bytes (c.key.ensures t) ++ c.body.ensures t) in
    let same = known-is c.args.rows.now c.args.ids.now c.args.items.now.items r c.in_ok-row.row c.in-Some.id c.requires row some.1 in
    sym (is-there c.args.items.now.items r (sym same ∙ sym c.is_known.ensures ∙ c.if-is_known.true))

pub returns-clause-items : goal.returns-clause-items
returns-clause-items c =
    let r = c.args.found in
    let some = named-some r c.in-Some.id (sym c.named_id.ensures ∙ c.in-Some.is) in
    let row : c.in_ok-row.row.items ≡ written r = c.in_ok-row.ensures.written ∙ (λ t. cat_leaf_bytes (c.key.ensures t) ++ c.body.ensures t) in
    let same = known-is c.args.rows.now c.args.ids.now c.args.items.now.items r c.in_ok-row.row c.in-Some.id c.requires row some.1 in
    c.in_ok-push.ensures.items ∙ sym (is-next c.args.items.now.items r some.0 (sym same ∙ sym c.is_known.ensures ∙ c.if-is_known.false))

pub returns-clause-known : goal.returns-clause-known
returns-clause-known c =
    let r = c.args.found in
    let some = named-some r c.in-Some.id (sym c.named_id.ensures ∙ c.in-Some.is) in
    let row : c.in_ok-row.row.items ≡ written r = c.in_ok-row.ensures.written ∙ (λ t. cat_leaf_bytes (c.key.ensures t) ++ c.body.ensures t) in
    subst (λ (items : List FoundRecord). KnowItems c.add.new.self c.add-2.new.self items) (sym c.in_ok-push.ensures.items)
    (knows-more c.args.rows.now c.add.new.self c.args.ids.now c.add-2.new.self c.args.items.now.items r c.in_ok-row.row c.in-Some.id row some.1
    c.in_ok-add.ensures c.in_ok-add-2.ensures c.requires)
