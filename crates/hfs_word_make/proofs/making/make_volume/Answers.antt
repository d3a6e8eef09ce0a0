-- The file is made of what was put on the new volume.
use Rattle.std.proofs.Common.{◌/◌, ◌≤◌, ◌∙◌, length, refl, sym, ap, subst, inl, inr}
use Rattle.hfs_blocks.specs.Layers.{changes, AreWithin}
use Rattle.hfs_commands.specs.declared.fault.Fault.{Fault}
use Rattle.hfs_format.specs.Image.{image_bytes}
use Rattle.hfs_volume.specs.declared.in_file.ImagePlace.{ImagePlace}
use Rattle.hfs_word_put.specs.declared.fault.PutFault.TheVariants.{Image}
use Rattle.hfs_word_make.proofs.MadeVolumes.{made-file}
use Rattle.hfs_word_put.proofs.MadeFiles.{unopened}
use Rattle.hfs_word_make.proofs.making.make_volume.Goals as goal

pub returns-in-Err-clause-fault : goal.returns-in-Err-clause-fault
returns-in-Err-clause-fault g c = record { left = c.make_list.new.tree; held = c.make_list.ensures.held; unmade = inl c.in-Err.ensures.fault }

pub put_image-requires-clause-small : goal.put_image-requires-clause-small
put_image-requires-clause-small g c = subst (λ (place : ImagePlace). place.range.len ≤ 2147483648) (sym c.own_place-place.ensures) c.in-Ok.ensures.small

pub put_image-requires-clause-within : goal.put_image-requires-clause-within
put_image-requires-clause-within g c =
    subst (λ (place : ImagePlace). AreWithin (changes c.in-Ok.list.put.list.blocks.patch) (place.range.len / 512)) (sym c.own_place-place.ensures) c.in-Ok.ensures.within

pub returns-in-Ok-put_image-clause-made : goal.returns-in-Ok-put_image-clause-made
returns-in-Ok-put_image-clause-made g c =
    let e = c.in-Ok-put_image.ensures in
    let image = c.in-Ok.list.image in
    made-file g.T.HostTree.Holds g.T.File.PlacedBytes.Holds c.args.order.now c.in-Ok-put_image.made image (record { image = image }) c.new-files.result
    c.make_list.new.tree c.in-Ok.list.put.items c.in-Ok.list.put.list 0 (length (image_bytes image.planned)) c.new-files.ensures refl
    refl refl e.file e.files e.items e.runs (e.start ∙ ap (λ (place : ImagePlace). place.range.start) c.own_place-place.ensures) e.patch
    (e.place ∙ c.own_place-place.ensures) e.sums c.in-Ok.ensures.within c.in-Ok.ensures.dated c.in-Ok.ensures.made

pub returns-in-Ok-put_image-clause-held : goal.returns-in-Ok-put_image-clause-held
returns-in-Ok-put_image-clause-held g c =
    λ host h. c.make_list.ensures.held host
    (unopened g.T.HostTree.Holds g.T.File.PlacedBytes.Holds c.in-Ok-put_image.made.contents.file.forks.files c.make_list.new.tree
    (c.in-Ok-put_image.ensures.files ∙ c.new-files.ensures) host h)

pub returns-in-Err-put_image-clause-fault : goal.returns-in-Err-put_image-clause-fault
returns-in-Err-put_image-clause-fault g c = record {
  left = c.make_list.new.tree;
  held = c.make_list.ensures.held;
  unmade = inr (record {
    items = c.in-Ok.list.put.items.items;
    planned = c.in-Ok.list.image.planned;
    list = c.in-Ok.list.put.list;
    from = c.in-Ok.ensures.made;
    told_is = ap (λ (found : Fault). Image found) c.in-Err-put_image.ensures.fault;
  });
}
