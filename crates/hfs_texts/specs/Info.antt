-- The lines of a master directory block.
use Rattle.std.specs.Prelude.{ℕ, List, ◌++◌, codes}
use Rattle.std.specs.Fmt.{decimal}
use Rattle.hfs_fields.specs.declared.mdb.Mdb.{Mdb}
use Rattle.hfs_texts.specs.Lines.{line, hex_word, hex_text, name_text, extents_text}

-- the first ten fields
unfoldable pub first_lines : Mdb → List ℕ
first_lines mdb = line (codes "drSigWord") (hex_word mdb.signature)
    ++ line (codes "drCrDate") (decimal mdb.created)
    ++ line (codes "drLsMod") (decimal mdb.modified)
    ++ line (codes "drAtrb") (hex_word mdb.attributes.0)
    ++ line (codes "drNmFls") (decimal mdb.root_files)
    ++ line (codes "drVBMSt") (decimal mdb.bitmap_start)
    ++ line (codes "drAllocPtr") (decimal mdb.allocation_pointer)
    ++ line (codes "drNmAlBlks") (decimal mdb.allocation_blocks)
    ++ line (codes "drAlBlkSiz") (decimal mdb.allocation_block_size)
    ++ line (codes "drClpSiz") (decimal mdb.clump_size)

-- the next ten
unfoldable pub middle_lines : Mdb → List ℕ
middle_lines mdb = line (codes "drAlBlSt") (decimal mdb.allocation_start)
    ++ line (codes "drNxtCNID") (decimal mdb.next_id)
    ++ line (codes "drFreeBks") (decimal mdb.free_blocks)
    ++ line (codes "drVN") (name_text mdb.volume_name)
    ++ line (codes "drVolBkUp") (decimal mdb.backup)
    ++ line (codes "drVSeqNum") (decimal mdb.backup_sequence)
    ++ line (codes "drWrCnt") (decimal mdb.write_count)
    ++ line (codes "drXTClpSiz") (decimal mdb.extents_clump_size)
    ++ line (codes "drCTClpSiz") (decimal mdb.catalog_clump_size)
    ++ line (codes "drNmRtDirs") (decimal mdb.root_folders)

-- the last ten
unfoldable pub last_lines : Mdb → List ℕ
last_lines mdb = line (codes "drFilCnt") (decimal mdb.files)
    ++ line (codes "drDirCnt") (decimal mdb.folders)
    ++ line (codes "drFndrInfo") (hex_text mdb.finder_info)
    ++ line (codes "drVCSize") (decimal mdb.cache_size)
    ++ line (codes "drVBMCSize") (decimal mdb.bitmap_cache_size)
    ++ line (codes "drCtlCSize") (decimal mdb.control_cache_size)
    ++ line (codes "drXTFlSize") (decimal mdb.extents_file_size)
    ++ line (codes "drXTExtRec") (extents_text mdb.extents_file)
    ++ line (codes "drCTFlSize") (decimal mdb.catalog_file_size)
    ++ line (codes "drCTExtRec") (extents_text mdb.catalog_file)

-- all thirty
unfoldable pub info_lines : Mdb → List ℕ
info_lines mdb = first_lines mdb ++ middle_lines mdb ++ last_lines mdb
