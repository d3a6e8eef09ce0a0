-- The texts of the statements. Each shows the numbers of the rows that it put or took away.
use Rattle.std.specs.Prelude.{ℕ, List, codes}

unfoldable pub put_image_text : List ℕ
put_image_text = codes "INSERT INTO image (path, bytes, sha256, program) VALUES (?1, ?2, ?3, ?4) ON CONFLICT (path) DO UPDATE SET bytes = excluded.bytes, sha256 = excluded.sha256, program = excluded.program RETURNING id"

-- the items of these volumes go with them
unfoldable pub drop_volumes_text : List ℕ
drop_volumes_text = codes "DELETE FROM volume WHERE image = ?1 RETURNING id"

unfoldable pub put_volume_text : List ℕ
put_volume_text = codes "INSERT INTO volume (image, number, how, first_byte, bytes, name, created, modified, backup, blocks, block_bytes, free_blocks, verdict) VALUES (?1, ?2, ?3, ?4, ?5, ?6, ?7, ?8, ?9, ?10, ?11, ?12, ?13) RETURNING id"

unfoldable pub put_item_text : List ℕ
put_item_text = codes "INSERT INTO item (volume, number, path, bag_path, kind, cnid, parent, type, creator, flags, locked, file_id, created, modified, backup, items, data_bytes, resource_bytes, finder, data_sha256, resource_sha256, data_verdict, resource_verdict) VALUES (?1, ?2, ?3, ?4, ?5, ?6, ?7, ?8, ?9, ?10, ?11, ?12, ?13, ?14, ?15, ?16, ?17, ?18, ?19, ?20, ?21, ?22, ?23) RETURNING id"
