-- The names before it are passed one by one, and the next one's item is told.
use Rattle.std.proofs.Common.{◌≡◌, ℕ, List, inl, inr, refl, sym, ◌∙◌, ap, subst, arith, Some}
use Rattle.std.specs.Prelude.{slice_get}
use Rattle.std.specs.Option.{unwrap_or}
use Rattle.std.specs.declared.ops.Bound.TheVariants.{Included, Excluded}
use Rattle.std.specs.BTreeMap.Range.{entries_between}
use Rattle.hfs_model.specs.Children.{entry_at}
use Rattle.hfs_model.specs.Replies.{info_of}
use Rattle.hfs_model.proofs.Members.{In}
use Rattle.hfs_viewers.proofs.Members.{passed_one}
use Rattle.hfs_viewers.specs.declared.place.Place.{Place}
use Rattle.hfs_viewers.specs.Places.{place_cmp}
use Rattle.hfs_viewers.specs.Tables.{items_of, volume_of}
use Rattle.hfs_viewers.proofs.NameLemmas.{nobody, told_of, told_under, names_under}
use Rattle.hfs_viewers.proofs.Named.{between_is, in_under, has_item, listed}
use Rattle.hfs_model.proofs.ModelLawsProved.{children_are_one}
use Rattle.std.specs.FinMap as finite
use Rattle.hfs_viewers.proofs.table.Table.info_at.Goals as goal

pub loop-place-init : goal.loop-place-init
loop-place-init c =
    let whole : c.into_iter-place-iterator.result ≡ names_under c.args.dir c.args.self.now.by_name.entries =
    c.into_iter-place-iterator.ensures.into_iter_gives ∙ c.range-names.ensures.between tt
    ∙ (λ i. entries_between place_cmp (Included (c.first.ensures i)) (Excluded (c.first-2.ensures i)) c.args.self.now.by_name.entries)
    ∙ between_is c.args.dir c.args.self.now.by_name.entries in (
      tt,
      tt,
      refl,
      λ (e : Place × ℕ) (i : In e c.into_iter-place-iterator.result). in_under c.args.dir c.args.self.now.by_name.entries e (subst (λ (l : List (Place × ℕ)). In e l) whole i),
    )

pub unreachable-requires : goal.unreachable-requires
unreachable-requires c =
    let e : Place × ℕ = (c.in-Some._place.now, c.in-Some.id.now) in
    let here : In e c.args.self.now.by_name.entries = c.loop-place.invariant.3 e (subst (λ (l : List (Place × ℕ)). In e l) (sym c.in-Some.ensures.steps) (inl refl)) in
    has_item (items_of c.args.self.now) c.args.self.now.by_name c.requires.table.names e here c.in_default.ensures.entry

pub loop-place-preserved : goal.loop-place-preserved
loop-place-preserved c =
    let es = finite.entries (items_of c.args.self.now) in (
      tt,
      tt,
      sym (passed_one (told_of es c.in-Some.id.now) (told_under es c.next.new.self) c.loop-place.left (omega arith))
          ∙ ap (λ l. slice_get (told_under es l) c.loop-place.left) (sym c.in-Some.ensures.steps)
          ∙ c.loop-place.invariant.2,
      λ (e : Place × ℕ) (i : In e c.next.new.self). c.loop-place.invariant.3 e (subst (λ (l : List (Place × ℕ)). In e l) (sym c.in-Some.ensures.steps) (inr i)),
    )

-- all names under the folder make its list
pub returns-then-left-eq0 : goal.returns-then-left-eq0
returns-then-left-eq0 c =
    let es = finite.entries (items_of c.args.self.now) in
    let told : c.info.result ≡ info_of es (unwrap_or (entry_at es c.in-Some.id.now) nobody) = c.info.ensures ∙ ap (λ o. info_of es (unwrap_or o nobody)) (sym c.in-Some-row.ensures.entry) in
    let whole : c.into_iter-place-iterator.result ≡ names_under c.args.dir c.args.self.now.by_name.entries =
    c.into_iter-place-iterator.ensures.into_iter_gives ∙ c.range-names.ensures.between tt
    ∙ (λ i. entries_between place_cmp (Included (c.first.ensures i)) (Excluded (c.first-2.ensures i)) c.args.self.now.by_name.entries)
    ∙ between_is c.args.dir c.args.self.now.by_name.entries in
    let none : 0 ≡ c.loop-place.left = omega arith in
    ap Some told
    ∙ ap (λ l. slice_get (told_under es l) 0) (sym c.in-Some.ensures.steps)
    ∙ ap (slice_get (told_under es c.loop-place._place-iterator)) none
    ∙ c.loop-place.invariant.2
    ∙ ap (λ l. slice_get (told_under es l) c.args.at) whole
    ∙ ap (λ l. slice_get l c.args.at) (listed (items_of c.args.self.now) c.args.self.now.by_name c.requires.table.names c.args.dir children_are_one (volume_of c.args.self.now) refl c.requires.lawful)

pub returns : goal.returns
returns c =
    let es = finite.entries (items_of c.args.self.now) in
    let whole : c.into_iter-place-iterator.result ≡ names_under c.args.dir c.args.self.now.by_name.entries =
    c.into_iter-place-iterator.ensures.into_iter_gives ∙ c.range-names.ensures.between tt
    ∙ (λ i. entries_between place_cmp (Included (c.first.ensures i)) (Excluded (c.first-2.ensures i)) c.args.self.now.by_name.entries)
    ∙ between_is c.args.dir c.args.self.now.by_name.entries in
    ap (λ l. slice_get (told_under es l) c.loop-place.left) (sym c.in-None.ensures.steps.0)
    ∙ c.loop-place.invariant.2
    ∙ ap (λ l. slice_get (told_under es l) c.args.at) whole
    ∙ ap (λ l. slice_get l c.args.at) (listed (items_of c.args.self.now) c.args.self.now.by_name c.requires.table.names c.args.dir children_are_one (volume_of c.args.self.now) refl c.requires.lawful)
