-- What is made of an item at its own path is what `take` makes of it.
use Rattle.std.proofs.Common.{◌≡◌, ℕ, ◌-◌, ◌≤◌, Bool, false, if◌then◌else◌, List, [], ◌++◌, map, take, drop, length, length-append, None, refl, sym, ap, subst, ◌∙◌, arith}
use Rattle.std.specs.Prelude.{reverse}
use Rattle.std.proofs.Math.Seq.{drop-append_seam, take-append_seam}
use Rattle.std.proofs.lemmas.List.{take_all}
use Rattle.hfs_bag.specs.declared.item.BagKind.{BagKind}
use Rattle.hfs_bag.specs.declared.item.BagKind.TheVariants as bag
use Rattle.hfs_bag.specs.Items.{BagItem, entries_of_kind, item_entries}
use Rattle.hfs_bag.specs.Times.{since_1970}
use Rattle.hfs_fields.specs.Records.{is_dir}
use Rattle.hfs_fields.specs.Members as scans
use Rattle.hfs_fields.proofs.MemberLemmas.{each_in}
use Rattle.hfs_model.specs.declared.call.Fork.TheVariants.{DataFork, ResFork}
use Rattle.hfs_model.specs.Children.{entries_of}
use Rattle.hfs_model.specs.Volume.{Entry}
use Rattle.hfs_word_take.specs.Items.{folders_text, fork_told}
use Rattle.hfs_word_take.proofs.PlainNames.{folders-are}
use Rattle.hfs_texts.specs.HostNames.{host_name}
use Rattle.hfs_items.specs.Told.{told}
use Rattle.hfs_catalog.specs.Records.{Record, Catalog}
use Rattle.hfs_check.specs.Parts.{catalog_in}
use Rattle.hfs_check.specs.VolumeOf.{volume_in}
use Rattle.hfs_blocks.specs.Blocks.{block_at}
use Rattle.hfs_space.specs.declared.fork_kind.ForkKind.TheVariants.{Data, Resource}
use Rattle.hfs_remains_places.specs.Things.{things_of}
use Rattle.hfs_remains_places.specs.Laws.{AreThings}
use Rattle.hfs_remains_forks.specs.Records.{namings_of, thing_of}
use Rattle.hfs_remains.specs.declared.catalog.FoundRecord.{FoundRecord}
use Rattle.hfs_remains.specs.CatalogRecords.{found as young}
use Rattle.hfs_rescue_items.specs.declared.found.Found.{Found}
use Rattle.hfs_rescue_items.specs.declared.plan.Planned.{Planned}
use Rattle.hfs_rescue_items.specs.Bytes.{taken_bytes}
use Rattle.hfs_rescue_items.specs.Found.{told_at}
use Rattle.hfs_rescue_items.specs.Plan.{last_part, path_of, whole_plan}
use Rattle.hfs_rescue_items.specs.Sources.{above_of, finder_told, is_alone, modified_told, name_of, planned_item}
use Rattle.hfs_rescue_items.proofs.LastLemmas.{last_from}
use Rattle.hfs_rescue_items.proofs.PartLemmas.{IsPart, own_path, plan_is}
use Rattle.hfs_word_rescue.proofs.SoundFoundLemmas.{finder-is, items-found, modified-is, things-found, things-named}
use Rattle.hfs_word_rescue.proofs.KindLemmas.{with-kind}
use Rattle.hfs_word_rescue.proofs.TakenItemLemmas.{IsSoundFind, IsItem, taken-item, parts-are, plain, are-things}
use Rattle.hfs_word_rescue.proofs.TakenForkLemmas.{data-by, resource-by}

-- a part of the plan
pub part-of : (found : Found) (p : Planned) → scans.In p (whole_plan found) → IsPart found p
part-of found p there = each_in (IsPart found) (whole_plan found) p (plan_is found).each there

module _ (image : List ℕ) (limit : ℕ) (found : Found) (find : IsSoundFind image limit found) where
  abbrev cat : Catalog
  cat = catalog_in (block_at image)

  abbrev es : List Entry
  es = entries_of (volume_in (block_at image))

  module _ (p : Planned) (part : IsPart found p) (r : Record) (rest : List (List ℕ)) (it : IsItem cat p.place r rest) (all : length (own_path found p) ≤ p.to) where
    abbrev front : List ℕ
    front = folders_text (reverse rest)

    abbrev last : List ℕ
    last = host_name r.0.name

    parts : own_path found p ≡ front ++ last
    parts = parts-are image limit found find p.place r rest it

    text : path_of found p ≡ front ++ last
    text = take_all p.to (own_path found p) all ∙ parts

    from : p.from ≡ length front
    from =
        part.from ∙ ap (λ (t : List ℕ). (last_part p.place t).from) text
        ∙ ap (λ (f : List ℕ). (last_part p.place (f ++ last)).from) (folders-are (reverse rest))
        ∙ last_from p.place (map host_name (reverse rest)) last (plain image limit found find p.place r it.at)
        ∙ ap length (sym (folders-are (reverse rest)))

    above : above_of found p ≡ front
    above = ap (take p.from) parts ∙ ap (λ (k : ℕ). take k (front ++ last)) from ∙ take-append_seam front last

    name : name_of found p ≡ last
    name =
        ap (λ (l : List ℕ). take (p.to - p.from) (drop p.from l)) parts
        ∙ ap (λ (k : ℕ). take (p.to - p.from) (drop k (front ++ last))) from
        ∙ ap (take (p.to - p.from)) (drop-append_seam front last)
        ∙ take_all (p.to - p.from) last (omega (arith, from, all, ap length parts, length-append front last))

    planned-is : is_alone p.kind ≡ false → planned_item image found p ≡ with-kind p.kind (taken-item image r rest)
    planned-is alone =
        let finder : finder_told (if is_alone p.kind then None else told_at found.items.now p.place) ≡ (told cat r).finder =
        ap (λ (b : Bool). finder_told (if b then None else told_at found.items.now p.place)) alone ∙ finder-is image limit found find.sound find.begins find.enough find.is p.place r it.at in
        let time : modified_told (if is_alone p.kind then None else told_at found.items.now p.place) ≡ since_1970 (told cat r).modified =
        ap (λ (b : Bool). modified_told (if b then None else told_at found.items.now p.place)) alone ∙ modified-is image limit found find.sound find.begins find.enough find.is p.place r it.at in
        let first : (if is_alone p.kind then [] else taken_bytes image found Data p.place) ≡ fork_told es DataFork (told cat r) =
        ap (λ (b : Bool). if b then [] else taken_bytes image found Data p.place) alone ∙ data-by image limit found find p.place r rest it (is_dir r.1) refl in
        let second : (if is_alone p.kind then [] else taken_bytes image found Resource p.place) ≡ fork_told es ResFork (told cat r) =
        ap (λ (b : Bool). if b then [] else taken_bytes image found Resource p.place) alone ∙ resource-by image limit found find p.place r rest it (is_dir r.1) refl in
        λ k. record { above = above k; name = name k; kind = p.kind; finder = finder k; modified = time k; data_fork = first k; resource_fork = second k }

    -- its files and folders are those of its item, of this kind
    pub entries-are : (kind : BagKind) → p.kind ≡ kind → is_alone kind ≡ false → item_entries (planned_item image found p) ≡ entries_of_kind kind (taken-item image r rest)
    entries-are kind same alone =
        ap item_entries (planned-is (ap is_alone same ∙ alone)) ∙ (λ k. entries_of_kind (same k) (with-kind (same k) (taken-item image r rest))) ∙ of-kind kind (taken-item image r rest)
      where
        of-kind : (kind : BagKind) (x : BagItem) → entries_of_kind kind (with-kind kind x) ≡ entries_of_kind kind x
        of-kind bag.Folder x = refl
        of-kind bag.File x = refl
        of-kind bag.FolderAlone x = refl
        of-kind bag.DoubleAlone x = refl

  pub places-named : found.places.now ≡ things_of (map thing_of found.items.now) (namings_of (map (young false) cat))
  places-named =
      things-named image limit found find.sound find.begins find.enough find.is
      ∙ ap (λ (items : List FoundRecord). things_of (map thing_of items) (namings_of (map (young false) cat))) (sym (items-found image limit found find.sound find.begins find.enough find.is))

  pub are-found : AreThings found.places.now
  are-found = subst AreThings (sym (things-found image limit found find.sound find.begins find.enough find.is)) (are-things image limit found find)
