-- What `take` makes of the items of a sound image, of which something was found.
use Rattle.std.proofs.Common.{◌≡◌, ◌≢◌, ℕ, ◌-◌, ◌<◌, ◌≤◌, true, List, [], ◌∷◌, ◌++◌, take, drop, length, length-append, Some, refl, sym, ap, subst, ◌∙◌, arith}
use Rattle.std.specs.Prelude.{IsTrue, reverse, slice_get}
use Rattle.std.proofs.Math.Seq.{take-append_seam}
use Rattle.hfs_bag.specs.Items.{BagItem}
use Rattle.hfs_bag.specs.Laws.{HasNo}
use Rattle.hfs_fields.specs.Records.{item_id}
use Rattle.hfs_model.specs.Children.{entries_of}
use Rattle.hfs_model.specs.Volume.{Entry}
use Rattle.hfs_model.proofs.Members.{In}
use Rattle.hfs_items.specs.Levels.{told_below}
use Rattle.hfs_items.specs.ToldRows.{told_rows}
use Rattle.hfs_items.proofs.ListLemmas.{in_map, map_in}
use Rattle.hfs_word_take.specs.Items.{bag_item, bag_items, folders_text, item_at, names_between}
use Rattle.hfs_word_take.proofs.PlainNames.{plain-name}
use Rattle.hfs_texts.specs.HostNames.{host_name}
use Rattle.hfs_texts.specs.NameLaws.{is_bytes}
use Rattle.hfs_items.specs.Told.{told}
use Rattle.hfs_catalog.specs.Records.{Record, Catalog, items_of as items_in}
use Rattle.hfs_check.specs.Parts.{catalog_in, mdb_in}
use Rattle.hfs_check.specs.Sound.{IsSound}
use Rattle.hfs_check.specs.VolumeOf.{volume_in}
use Rattle.hfs_blocks.specs.Blocks.{block_at, block_count}
use Rattle.hfs_items.proofs.QueriesLaws.{AreWholeBlocks}
use Rattle.hfs_space.specs.Extents.{block_total}
use Rattle.hfs_remains_places.specs.declared.things.Thing.{Thing}
use Rattle.hfs_remains_places.specs.Laws.{AreThings, AreWaysShort, HasWay}
use Rattle.hfs_remains_forks.specs.Laws.{things_in}
use Rattle.hfs_remains_forks.proofs.RemainsLawsProved.{sound_are_things}
use Rattle.hfs_rescue_items.specs.declared.found.Found.{Found}
use Rattle.hfs_rescue_items.specs.Found.{path_at}
use Rattle.hfs_word_rescue.specs.Found.{IsFoundOf}
use Rattle.hfs_word_rescue.proofs.ItemWayLemmas.{inside, not-root, thing-is}
use Rattle.hfs_word_rescue.proofs.RowWayLemmas.{row-there, rows}
use Rattle.hfs_word_rescue.proofs.SoundFoundLemmas.{inside-found, path-parts, told-name, whole}

-- what was found of a sound image of bytes, whose folders' host paths are short, where all its forks may be taken
pub record IsSoundFind (image : List ℕ) (limit : ℕ) (found : Found) : Type 0 where
  pub sound : IsSound image
  pub begins : 0 < block_total (mdb_in (block_at image)).catalog_file
  pub enough : length image ≤ limit
  pub is : IsFoundOf image limit found
  pub bytes : IsTrue (is_bytes image)
  pub short : AreWaysShort (things_in (catalog_in (block_at image)))

-- an item but the root, and the names that lead to it
pub record IsItem (cat : Catalog) (i : ℕ) (r : Record) (rest : List (List ℕ)) : Type 0 where
  pub at : slice_get (items_in cat) i ≡ Some r
  pub way : HasWay (things_in cat) (r.0.name ∷ rest) i

-- what `take` makes of an item
abbrev pub taken-item : List ℕ → Record → List (List ℕ) → BagItem
taken-item image r rest = item_at (entries_of (volume_in (block_at image))) (folders_text (reverse rest)) (host_name r.0.name) (told (catalog_in (block_at image)) r)

pub record OfItem (image : List ℕ) (x : BagItem) : Type 0 where
  pub place : ℕ
  pub of : Record
  pub rest : List (List ℕ)
  pub is-item : IsItem (catalog_in (block_at image)) place of rest
  pub item_is : taken-item image of rest ≡ x

between : (root : List ℕ) (names : List (List ℕ)) (last : List ℕ) → names_between ((root ∷ names) ++ last ∷ []) ≡ names
between root names last =
    let fewer : length (root ∷ (names ++ last ∷ [])) - 2 ≡ length names = omega (arith, length-append names (last ∷ [])) in
    ap (λ (n : ℕ). take n (names ++ last ∷ [])) fewer ∙ take-append_seam names (last ∷ [])

module _ (image : List ℕ) (limit : ℕ) (found : Found) (find : IsSoundFind image limit found) where
  abbrev cat : Catalog
  cat = catalog_in (block_at image)

  abbrev things : List Thing
  things = things_in cat

  abbrev es : List Entry
  es = entries_of (volume_in (block_at image))

  abbrev n : ℕ
  n = (mdb_in (block_at image)).next_id

  pub are-things : AreThings things
  are-things = sound_are_things image find.sound find.bytes

  pub full : AreWholeBlocks (block_count image) (block_at image)
  full = whole image limit found find.sound find.begins find.enough find.is

  pub parts-are : (i : ℕ) (r : Record) (rest : List (List ℕ)) → IsItem cat i r rest → path_at found.places.now i ≡ folders_text (reverse rest) ++ host_name r.0.name
  parts-are i r rest it = path-parts image limit found find.sound find.begins find.enough find.is i r it.at find.bytes find.short rest it.way

  pub other : (i : ℕ) (r : Record) (rest : List (List ℕ)) → IsItem cat i r rest → item_id r.1 ≢ 2
  other i r rest it = not-root cat n find.sound.blocks.ids i r (r.0.name ∷ rest) it.at it.way

  pub inner : (i : ℕ) (r : Record) → slice_get (items_in cat) i ≡ Some r → i < length found.places.now
  inner i r at = inside-found image limit found find.sound find.begins find.enough find.is i r at

  -- its name
  name-bytes : (i : ℕ) (r : Record) → slice_get (items_in cat) i ≡ Some r → is_bytes r.0.name ≡ true
  name-bytes i r at =
      subst (λ (t : Thing). is_bytes t.name ≡ true) (thing-is cat n find.sound.blocks.ids i r at) (are-things.each i (inside cat n find.sound.blocks.ids i r at)).bytes

  pub plain : (i : ℕ) (r : Record) → slice_get (items_in cat) i ≡ Some r → HasNo 47 (host_name r.0.name)
  plain i r at = (plain-name r.0.name (name-bytes i r at)).part.no_slash

  pub some-path : (i : ℕ) (r : Record) (rest : List (List ℕ)) → IsItem cat i r rest → 0 < length (path_at found.places.now i)
  some-path i r rest it =
      let name : 0 < length (host_name r.0.name) = some-text (host_name r.0.name) (plain-name r.0.name (name-bytes i r it.at)).part.not_empty in
      omega (arith, name, ap length (parts-are i r rest it), length-append (folders_text (reverse rest)) (host_name r.0.name))
    where
      some-text : (text : List ℕ) → text ≢ [] → 0 < length text
      some-text [] none = absurd (none refl)
      some-text (c ∷ text) none = omega arith

  -- ---- what `take` makes of an item

  row-item : (root : List ℕ) (r : Record) (rest : List (List ℕ)) → bag_item es (told_below cat (root ∷ reverse rest) r) ≡ taken-item image r rest
  row-item root r rest = λ k. item_at es (folders_text (between root (reverse rest) r.0.name k)) (host_name (told-name cat r k)) (told cat r)

  pub in-take : (i : ℕ) (r : Record) (rest : List (List ℕ)) → IsItem cat i r rest → In (taken-item image r rest) (bag_items es)
  in-take i r rest it =
      let root = (rows (block_count image) (block_at image) full find.sound.blocks).root in
      subst (λ (x : BagItem). In x (bag_items es)) (row-item root r rest)
      (map_in (bag_item es) (drop 1 (told_rows es)) (told_below cat (root ∷ reverse rest) r) (row-there (block_count image) (block_at image) full find.sound.blocks i r rest it.at it.way))

  pub of-take : (x : BagItem) → In x (bag_items es) → OfItem image x
  of-take x there =
      let row = in_map (bag_item es) (drop 1 (told_rows es)) x there in
      let all = rows (block_count image) (block_at image) full find.sound.blocks in
      let of = all.below row.0 row.1 in
      record {
        place = of.place;
        of = of.item;
        rest = of.rest;
        is-item = record { at = of.at; way = of.way };
        item_is = sym (row-item all.root of.item of.rest) ∙ ap (bag_item es) of.row_is ∙ row.2;
      }
