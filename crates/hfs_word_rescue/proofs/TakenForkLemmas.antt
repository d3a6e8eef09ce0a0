-- The bytes of an item's forks are those that `take` gives, and so is the kind of what is made of it.
use Rattle.std.proofs.Common.{◌≡◌, ℕ, Bool, true, false, if◌then◌else◌, List, [], take, Option, Some, None, refl, sym, ap, ◌∙◌, arith}
use Rattle.std.specs.Option.{option_map_or}
use Rattle.hfs_bag.specs.declared.item.BagKind.TheVariants as bag
use Rattle.hfs_fields.specs.Records.{is_dir, file_record_of}
use Rattle.hfs_model.specs.declared.call.Fork.TheVariants.{DataFork, ResFork}
use Rattle.hfs_model.specs.declared.reply.ItemKind.{ItemKind}
use Rattle.hfs_model.specs.declared.reply.ItemKind.TheVariants as item
use Rattle.hfs_model.specs.Children.{entries_of}
use Rattle.hfs_model.specs.Volume.{Entry}
use Rattle.hfs_word_take.specs.Items.{bytes_or_none, fork_told, of_file}
use Rattle.hfs_image.specs.Forks.{named_fork}
use Rattle.hfs_items.specs.Told.{pick, told}
use Rattle.hfs_catalog.specs.Records.{Record, Catalog}
use Rattle.hfs_check.specs.Parts.{catalog_in, mdb_in, overflow_in}
use Rattle.hfs_check.specs.VolumeOf.{contents_in, volume_in}
use Rattle.hfs_blocks.specs.Blocks.{block_at, block_count}
use Rattle.hfs_model.specs.declared.call.Fork.{Fork}
use Rattle.hfs_remains_forks.specs.declared.forks.Fork.{Fork as FoundFork}
use Rattle.hfs_space.specs.declared.fork_kind.ForkKind.TheVariants.{Data, Resource}
use Rattle.hfs_remains_forks.specs.declared.shares.FileShares.{FileShares}
use Rattle.hfs_remains_forks.specs.Forks.{both_forks, fork_of}
use Rattle.hfs_remains_forks.specs.Verdicts.{fork_share, shares_at}
use Rattle.hfs_remains_forks.specs.Laws.{HasBlocks, taken_bytes as fork_taken, whole_shares}
use Rattle.hfs_rescue_items.specs.declared.found.Found.{Found}
use Rattle.hfs_rescue_items.specs.Bytes.{bytes_by, taken_bytes}
use Rattle.hfs_rescue_items.specs.Plan.{file_kind, own_kind, thing_kind}
use Rattle.hfs_word_rescue.proofs.ForkTakenLemmas.{data-taken, file-there, fork-is, resource-taken}
use Rattle.hfs_word_rescue.proofs.SoundFoundLemmas.{dir-no-file, item-found, shares-is, told-kind, told-name, told-parent, trees-directory, trees-overflow}
use Rattle.hfs_word_rescue.proofs.KindLemmas.{own-kind}
use Rattle.hfs_word_rescue.proofs.TakenItemLemmas.{IsSoundFind, IsItem, full, other}

module _ (image : List ℕ) (limit : ℕ) (found : Found) (find : IsSoundFind image limit found) where
  abbrev cat : Catalog
  cat = catalog_in (block_at image)

  abbrev es : List Entry
  es = entries_of (volume_in (block_at image))

  module _ (i : ℕ) (r : Record) (rest : List (List ℕ)) (it : IsItem cat i r rest) where
    shares : shares_at found.salvage.now i ≡ whole_shares false (both_forks r.1)
    shares = shares-is image limit found find.sound find.begins find.enough find.is i r it.at

    dir-shares : is_dir r.1 ≡ true → shares_at found.salvage.now i ≡ None
    dir-shares dir =
        shares
        ∙ ap (λ (b : Bool). whole_shares false (if b then Some (fork_of (file_record_of r.1).id 0 (file_record_of r.1).«data», fork_of (file_record_of r.1).id 255 (file_record_of r.1).resource) else None))
        (dir-no-file r.1 dir)

    file-shares : is_dir r.1 ≡ false → shares_at found.salvage.now i
        ≡ whole_shares false (Some (fork_of (file_record_of r.1).id 0 (file_record_of r.1).«data», fork_of (file_record_of r.1).id 255 (file_record_of r.1).resource))
    file-shares file =
        shares
        ∙ ap (λ (b : Bool). whole_shares false (if b then Some (fork_of (file_record_of r.1).id 0 (file_record_of r.1).«data», fork_of (file_record_of r.1).id 255 (file_record_of r.1).resource) else None))
        (file-there (block_count image) (block_at image) (full image limit found find) find.sound.blocks i r it.at (other image limit found find i r rest it) file)

    told-fork : (fork : Fork) → is_dir r.1 ≡ false → fork_told es fork (told cat r) ≡ pick fork (contents_in (block_at image) (file_record_of r.1))
    told-fork fork file =
        (λ k. of_file (told-kind cat r k) (bytes_or_none (named_fork es (told-parent cat r k) (told-name cat r k) fork)))
        ∙ ap (λ (b : Bool). of_file (if b then item.Folder else item.File) (bytes_or_none (named_fork es r.0.parent r.0.name fork))) file
        ∙ ap bytes_or_none (fork-is (block_count image) (block_at image) (full image limit found find) find.sound.blocks i r it.at (other image limit found find i r rest it) file fork)

    told-none : (fork : Fork) → is_dir r.1 ≡ true → fork_told es fork (told cat r) ≡ []
    told-none fork dir =
        ap (λ (k : ItemKind). of_file k (bytes_or_none (named_fork es (told cat r).parent (told cat r).name fork))) (told-kind cat r ∙ ap (λ (b : Bool). if b then item.Folder else item.File) dir)

    share-is : (fork : FoundFork) → bytes_by image found.salvage.now.trees (record { fork = fork; taken = true })
        ≡ fork_taken (block_count image) image (overflow_in (block_at image)) (mdb_in (block_at image)) fork
    share-is fork =
        λ k. fork_taken (find.is.total_is k) image (trees-overflow image limit found find.sound find.begins find.enough find.is k)
        (trees-directory image limit found find.sound find.begins find.enough find.is k) fork

    own-blocks : HasBlocks image (block_count image) (block_at image)
    own-blocks = record { enough = omega arith; same = λ n within. refl }

    pub data-by : (b : Bool) → is_dir r.1 ≡ b → taken_bytes image found Data i ≡ fork_told es DataFork (told cat r)
    unfolding taken_bytes
    data-by true dir =
        ap (λ (o : Option FileShares). option_map_or (λ file. bytes_by image found.salvage.now.trees (fork_share Data file)) o []) (dir-shares dir) ∙ sym (told-none DataFork dir)
    data-by false file =
        ap (λ (o : Option FileShares). option_map_or (λ file. bytes_by image found.salvage.now.trees (fork_share Data file)) o []) (file-shares file)
        ∙ share-is (fork_of (file_record_of r.1).id 0 (file_record_of r.1).«data»)
        ∙ data-taken (block_count image) (block_at image) (full image limit found find) find.sound.blocks i r it.at (other image limit found find i r rest it) file image own-blocks
        ∙ sym (told-fork DataFork file)

    pub resource-by : (b : Bool) → is_dir r.1 ≡ b → taken_bytes image found Resource i ≡ fork_told es ResFork (told cat r)
    unfolding taken_bytes
    resource-by true dir =
        ap (λ (o : Option FileShares). option_map_or (λ file. bytes_by image found.salvage.now.trees (fork_share Resource file)) o []) (dir-shares dir) ∙ sym (told-none ResFork dir)
    resource-by false file =
        ap (λ (o : Option FileShares). option_map_or (λ file. bytes_by image found.salvage.now.trees (fork_share Resource file)) o []) (file-shares file)
        ∙ share-is (fork_of (file_record_of r.1).id 255 (file_record_of r.1).resource)
        ∙ resource-taken (block_count image) (block_at image) (full image limit found find) find.sound.blocks i r it.at (other image limit found find i r rest it) file image own-blocks
        ∙ sym (told-fork ResFork file)

    -- what is made of it
    kind-by : (made b : Bool) → is_dir r.1 ≡ b
        → Some (if b then (if made then bag.DoubleAlone else bag.Folder) else file_kind (shares_at found.salvage.now i)) ≡ Some (own-kind b made)
    kind-by made true dir = refl
    kind-by made false file = ap (λ (o : Option FileShares). Some (file_kind o)) (file-shares file)

    pub own-of : (made : Bool) → own_kind found i made ≡ Some (own-kind (is_dir r.1) made)
    unfolding own_kind
    own-of made = ap (thing_kind found i made) (item-found image limit found find.sound find.begins find.enough find.is i r it.at) ∙ kind-by made (is_dir r.1) refl
