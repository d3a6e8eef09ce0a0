-- The file is made of what was put.
use Rattle.std.proofs.Common.{◌≡◌, ◌/◌, rules}
use Rattle.std.proofs.lemmas.Result.{IfErr-at_err, IfOk-at_ok}
use Rattle.hfs_blocks.specs.Layers.{changes, AreWithin}
use Rattle.hfs_word_put.specs.Put.{IsPutFrom, IsUnputFrom, range_images}
use Rattle.hfs_word_put.proofs.MadeFiles.{at-length, put-file}
use Rattle.hfs_word_put.proofs.Spared.{for_memory}
use Rattle.hfs_word_put.proofs.putting.put_sources.Goals as goal

pub returns-in-Ok-put_image-clause-file : goal.returns-in-Ok-put_image-clause-file
returns-in-Ok-put_image-clause-file g c =
    let told = c.put_on-put in
    let bytes = told.result.1.bytes in
    let put = c.in-Ok.put in
    let same : bytes.len ≡ c.args.image.bytes.len = search rules in
    let from = IfOk-at_ok (λ put. IsPutFrom (range_images g.S.PlacedBytes.Holds told.result.1) (g.T.HostTree.Holds told.new.tree) c.args.order.now c.args.image.bytes.len
    put.items.items put.list.blocks put.list.sums) c.in-Ok.is told.ensures.put in
    let within = IfOk-at_ok (λ put. AreWithin (changes put.list.blocks.patch) (c.args.image.bytes.len / 512)) c.in-Ok.is told.ensures.within in
    put-file g.S.PlacedBytes.Holds g.T.HostTree.Holds g.T.File.PlacedBytes.Holds c.args.order.now c.args.image.bytes.len c.args.sum_at c.in-Ok-put_image.made
    bytes.bytes bytes.start c.new-files.result told.new.tree put.items put.list.blocks put.list.sums c.new-files.ensures c.in-Ok-put_image.ensures.file c.in-Ok-put_image.ensures.files
    c.in-Ok-put_image.ensures.items c.in-Ok-put_image.ensures.runs c.in-Ok-put_image.ensures.start c.in-Ok-put_image.ensures.patch c.in-Ok-put_image.ensures.place c.in-Ok-put_image.ensures.sums within
    (at-length g.S.PlacedBytes.Holds (g.T.HostTree.Holds told.new.tree) bytes.bytes bytes.start bytes.len c.args.image.bytes.len c.args.order.now put.items.items
    put.list.blocks put.list.sums same from)

pub returns-in-Err-clause-fault : goal.returns-in-Err-clause-fault
returns-in-Err-clause-fault g c =
    let told = c.put_on-put in
    record {
      read = told.result.1;
      seen = told.new.tree;
      narrows = told.ensures.narrows;
      held = told.ensures.held;
      why = IfErr-at_err (IsUnputFrom c.args.path (range_images g.S.PlacedBytes.Holds told.result.1) (g.T.HostTree.Fails c.args.tree) (g.T.HostTree.Holds told.new.tree) c.args.order.now
          c.args.image.bytes.len) c.in-Err.is told.ensures.fault;
    }

pub returns-then-image-len-clause-fault : goal.returns-then-image-len-clause-fault
returns-then-image-len-clause-fault g c =
    for_memory g.S.PlacedBytes.Holds g.T.HostTree.Fails g.T.HostTree.Holds c.args.image c.args.tree c.args.path c.args.order.now

pub returns-in-Err-put_image-clause-fault : goal.returns-in-Err-put_image-clause-fault
returns-in-Err-put_image-clause-fault g c =
    for_memory g.S.PlacedBytes.Holds g.T.HostTree.Fails g.T.HostTree.Holds c.args.image c.args.tree c.args.path c.args.order.now
