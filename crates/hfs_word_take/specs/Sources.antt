-- An opened image as the source of a bag, of each image that it may be.
use Rattle.std.specs.Prelude.{ℕ, List, [], None, map, string_bytes}
use Rattle.hfs_bag.specs.Sources.{SourceState}
use Rattle.hfs_bag.specs.declared.source.Stream.{Stream}
use Rattle.hfs_bag.specs.declared.source.Stream.TheVariants as stream
use Rattle.hfs_model.specs.declared.call.Fork.TheVariants.{DataFork, ResFork}
use Rattle.hfs_model.specs.declared.reply.Info.{Info}
use Rattle.hfs_items.specs.ToldRows.{ToldRow, told_rows}
use Rattle.hfs_word_take.specs.declared.items.CameItem.{CameItem}
use Rattle.hfs_word_take.specs.declared.reading.Reading.{Reading}
use Rattle.hfs_word_take.specs.Items.{bag_item, bag_items, entries_in, fork_told, item_at, table_text}
use Rattle.hfs_word_take.specs.Reading.{reading_rest}

-- the items and the table of an image's volume, of which these rows are to come, this item came, and this is still to be read
abbrev pub source_of : List ToldRow → CameItem → Reading → List ℕ → SourceState
source_of left came reading image = record {
  all = bag_items (entries_in image);
  left = map (bag_item (entries_in image)) left;
  item = item_at (entries_in image) (string_bytes came.above) (string_bytes came.name) came.info;
  bytes = reading_rest image reading;
  tables = record { items = table_text (told_rows (entries_in image)); remains = None };
}

-- a stream of an item of its volume
abbrev pub stream_told : Info → Stream → List ℕ → List ℕ
stream_told info stream.DataFork image = fork_told (entries_in image) DataFork info
stream_told info stream.ResourceFork image = fork_told (entries_in image) ResFork info
stream_told info stream.Table image = table_text (told_rows (entries_in image))
stream_told info stream.Remains image = []
