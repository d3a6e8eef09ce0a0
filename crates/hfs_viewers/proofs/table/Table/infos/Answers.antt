use Rattle.std.proofs.Common.{◌≡◌, ℕ, List, [], ◌∷◌, ◌++◌, inl, inr, refl, sym, ◌∙◌, ap, subst, append_assoc, append-nil}
use Rattle.std.specs.Option.{unwrap_or}
use Rattle.std.specs.declared.ops.Bound.TheVariants.{Included, Excluded}
use Rattle.std.specs.BTreeMap.Range.{entries_between}
use Rattle.hfs_model.specs.Children.{entry_at}
use Rattle.hfs_model.specs.Replies.{info_of}
use Rattle.hfs_model.proofs.Members.{In}
use Rattle.hfs_viewers.specs.declared.place.Place.{Place}
use Rattle.hfs_viewers.specs.Places.{place_cmp}
use Rattle.hfs_viewers.specs.Tables.{items_of, volume_of}
use Rattle.hfs_viewers.proofs.NameLemmas.{nobody, told_under, names_under}
use Rattle.hfs_viewers.proofs.Named.{between_is, in_under, has_item, listed}
use Rattle.hfs_model.proofs.ModelLawsProved.{children_are_one}
use Rattle.std.specs.FinMap as finite
use Rattle.hfs_viewers.proofs.table.Table.infos.Goals as goal

pub loop-place-init : goal.loop-place-init
loop-place-init c =
    let whole : c.into_iter-place-iterator.result ≡ names_under c.args.dir c.args.self.now.by_name.entries =
    c.into_iter-place-iterator.ensures.into_iter_gives ∙ c.range-place-items.ensures.between tt
    ∙ (λ i. entries_between place_cmp (Included (c.first.ensures i)) (Excluded (c.first-2.ensures i)) c.args.self.now.by_name.entries)
    ∙ between_is c.args.dir c.args.self.now.by_name.entries in (
      tt,
      tt,
      ap (λ l. l ++ told_under (finite.entries (items_of c.args.self.now)) c.into_iter-place-iterator.result) c.new-infos.ensures.items,
      λ (e : Place × ℕ) (i : In e c.into_iter-place-iterator.result). in_under c.args.dir c.args.self.now.by_name.entries e (subst (λ (l : List (Place × ℕ)). In e l) whole i),
      c.rows_from-rows.ensures,
    )

pub unreachable-requires : goal.unreachable-requires
unreachable-requires c =
    let e : Place × ℕ = (c.in-Some._place.now, c.in-Some.id.now) in
    let here : In e c.args.self.now.by_name.entries = c.loop-place.invariant.3 e (subst (λ (l : List (Place × ℕ)). In e l) (sym c.in-Some.ensures.steps) (inl refl)) in
    has_item (items_of c.args.self.now) c.args.self.now.by_name c.requires.table.names e here c.in_default.ensures.entry

pub loop-place-preserved : goal.loop-place-preserved
loop-place-preserved c =
    let es = finite.entries (items_of c.args.self.now) in
    let told : c.info.result ≡ info_of es (unwrap_or (entry_at es c.in-Some.id.now) nobody) = c.info.ensures ∙ ap (λ o. info_of es (unwrap_or o nobody)) (sym c.in-Some-row_among.ensures.entry) in (
      tt,
      tt,
      ap (λ l. l ++ told_under es c.next.new.self) c.in_ok-push.ensures.items
          ∙ append_assoc c.loop-place.infos.items (c.info.result ∷ []) (told_under es c.next.new.self)
          ∙ ap (λ x. c.loop-place.infos.items ++ x ∷ told_under es c.next.new.self) told
          ∙ ap (λ l. c.loop-place.infos.items ++ told_under es l) (sym c.in-Some.ensures.steps)
          ∙ c.loop-place.invariant.2,
      λ (e : Place × ℕ) (i : In e c.next.new.self). c.loop-place.invariant.3 e (subst (λ (l : List (Place × ℕ)). In e l) (sym c.in-Some.ensures.steps) (inr i)),
      c.in-Some-row_among.ensures.rows,
    )

pub returns : goal.returns
returns c =
    let es = finite.entries (items_of c.args.self.now) in
    let whole : c.into_iter-place-iterator.result ≡ names_under c.args.dir c.args.self.now.by_name.entries =
    c.into_iter-place-iterator.ensures.into_iter_gives ∙ c.range-place-items.ensures.between tt
    ∙ (λ i. entries_between place_cmp (Included (c.first.ensures i)) (Excluded (c.first-2.ensures i)) c.args.self.now.by_name.entries)
    ∙ between_is c.args.dir c.args.self.now.by_name.entries in
    sym (append-nil c.loop-place.infos.items)
    ∙ ap (λ l. c.loop-place.infos.items ++ told_under es l) (sym c.in-None.ensures.steps.0)
    ∙ c.loop-place.invariant.2 ∙ ap (told_under es) whole
    ∙ listed (items_of c.args.self.now) c.args.self.now.by_name c.requires.table.names c.args.dir children_are_one (volume_of c.args.self.now) refl c.requires.lawful
