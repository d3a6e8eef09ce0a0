-- What a page of a collection lists.
use Rattle.std.specs.Prelude.{ℕ, List, [], codes}
use Rattle.sqlite.specs.State.{State, HasCleanDisk, Shown}
use Rattle.sqlite_value.specs.Order.{Row}
use Rattle.hfs_database.specs.declared.listing.Listing.{Listing}
use Rattle.hfs_database.specs.declared.listing.Listing.TheVariants.{Volumes, Copies}

-- of each volume: the path of its page, the image's path, the volume's name, files, damaged ones, free space, two dates, the verdict
unfoldable pub volumes_text : List ℕ
volumes_text =
    codes "SELECT image.path || CASE WHEN (SELECT count(*) FROM volume AS other WHERE other.image = volume.image) = 1 THEN '' ELSE '.' || volume.number END || '.html', image.path, volume.name, 'files ' || (SELECT count(*) FROM item WHERE item.volume = volume.id AND item.kind = 'file'), 'damaged ' || nullif((SELECT count(*) FROM item WHERE item.volume = volume.id AND (item.data_verdict <> 'whole' OR item.resource_verdict <> 'whole')), 0), 'free ' || CASE WHEN volume.free_blocks * volume.block_bytes < 1048576 THEN ((volume.free_blocks * volume.block_bytes + 512) / 1024) || ' KB' ELSE ((volume.free_blocks * volume.block_bytes + 524288) / 1048576) || ' MB' END, 'created ' || substr(volume.created, 1, 10), 'modified ' || substr(volume.modified, 1, 10), volume.verdict FROM volume JOIN image ON image.id = volume.image ORDER BY image.path, volume.number"

-- of each content: a path, volumes, bytes, the digest
unfoldable pub copies_text : List ℕ
copies_text =
    codes "SELECT path, 'volumes ' || volumes, bytes || ' bytes', digest FROM (SELECT min(path) AS path, count(DISTINCT volume) AS volumes, min(bytes) AS bytes, digest FROM (SELECT volume, coalesce(path, bag_path) AS path, data_bytes AS bytes, data_sha256 AS digest FROM item WHERE data_bytes > 0 AND data_sha256 IS NOT NULL UNION ALL SELECT volume, coalesce(path, bag_path), resource_bytes, resource_sha256 FROM item WHERE resource_bytes > 0 AND resource_sha256 IS NOT NULL) AS fork GROUP BY digest HAVING count(DISTINCT volume) > 1) AS content ORDER BY volumes DESC, digest LIMIT 1000"

-- the question of a listing
abbrev pub listing_text : Listing → List ℕ
listing_text Volumes = volumes_text
listing_text Copies = copies_text

-- these are all rows that the database answered to this question, where the disk is clean still
abbrev pub IsShown : State → State → List ℕ → List Row → Type 0
IsShown old new text rows = HasCleanDisk new → Shown text [] old new rows

-- these are the rows of a listing
abbrev pub IsListed : State → State → Listing → List Row → Type 0
IsListed old new listing rows = IsShown old new (listing_text listing) rows
