use Rattle.std.proofs.Common.{ℕ, List, ◌∙◌, sym}
use Rattle.hfs_fields.proofs.Counts.{PutsCounts, counts-put, beside-kept, fields-written}
use Rattle.hfs_fields.proofs.mdb.Mdb.write_counts.Goals as goal

pub returns : goal.returns
returns c =
    let b1 : List ℕ = c.put_u32.new.block in
    let b2 : List ℕ = c.put_u16.new.block in
    let b3 : List ℕ = c.put_u32-2.new.block in
    let b4 : List ℕ = c.put_u16-2.new.block in
    let b5 : List ℕ = c.put_u16-3.new.block in
    let b6 : List ℕ = c.put_u32-3.new.block in
    let new : List ℕ = c.put_u32-4.new.block in
    let old : List ℕ = c.args.block.now in
    let puts : PutsCounts c.args.self.now old b1 b2 b3 b4 b5 b6 new = record {
      modified = c.put_u32.ensures.put;
      root_files = c.put_u16.ensures.put;
      next_id = c.put_u32-2.ensures.put;
      free_blocks = c.put_u16-2.ensures.put;
      root_folders = c.put_u16-3.ensures.put;
      files = c.put_u32-3.ensures.put;
      folders = c.put_u32-4.ensures.put;
      modified_fits = c.put_u32.ensures.range;
      root_files_fits = c.put_u16.ensures.range;
      next_id_fits = c.put_u32-2.ensures.range;
      free_blocks_fits = c.put_u16-2.ensures.range;
      root_folders_fits = c.put_u16-3.ensures.range;
      files_fits = c.put_u32-3.ensures.range;
      folders_fits = c.put_u32-4.ensures.range;
    } in
    let counts = counts-put c.args.self.now old b1 b2 b3 b4 b5 b6 new puts in
    let others = beside-kept c.args.self.now old b1 b2 b3 b4 b5 b6 new puts in
    record { counts = counts; others = others; fields = fields-written c.args.self.now old new others (c.put_u32-4.array_long ∙ sym c.told-block) counts }
