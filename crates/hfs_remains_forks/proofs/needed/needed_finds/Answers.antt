-- By the image's length, and by what was gathered.
use Rattle.std.proofs.Common.{◌≡◌, ℕ, ◌/◌, ◌<◌, ◌≤◌, None, Some, ap, subst, ◌∙◌, ⊎_elim, arith, rules}
use Rattle.hfs_blocks.specs.Layers.{Numbered}
use Rattle.hfs_remains.specs.Directory.{mdb_at}
use Rattle.hfs_source.specs.Sparse.{sparse}
use Rattle.hfs_image.proofs.Reported.{length-right}
use Rattle.hfs_remains_forks.specs.Finds.{AreFindsBy}
use Rattle.hfs_remains_forks.proofs.FoundLemmas.{found-usual, gathered-each, needed-found, needed-whole, outside-found}
use Rattle.hfs_remains_forks.proofs.SameFinds.{usual-size}
use Rattle.hfs_remains_forks.proofs.needed.needed_finds.Goals as goal

pub returns-then-len-lt1536-clause-needed : goal.returns-then-len-lt1536-clause-needed
returns-then-len-lt1536-clause-needed g c =
    outside-found (g.S.BlockSource.image c.args.source.now) c.args.len
    (λ enough few.
    ⊎_elim (λ (short : c.args.len < 1536). omega (arith, short, enough)) (λ (long : (1536 ≤ c.args.len) × (2147483648 < c.args.len)). omega (arith, long.1, few))
    c.then-len-lt1536.either)

pub returns-in_default-clause-needed : goal.returns-in_default-clause-needed
returns-in_default-clause-needed g c =
    let none : c.in_ok-read.field-0.directory ≡ None = search rules in
    needed-whole (g.S.BlockSource.image c.args.source.now) c.args.len c.in_ok-read.field-0 c.in_ok-read.ensures.gathered none

pub finds_by-requires-clause-size : goal.finds_by-requires-clause-size
finds_by-requires-clause-size g c =
    let total = c.args.len / 512 in
    let n = c.in-Some.n in
    usual-size total (sparse c.in_ok-read.field-0.read) n c.read_mdb_at-mdb.result
    (found-usual (g.S.BlockSource.image c.args.source.now) total c.in_ok-read.field-0 c.in_ok-read.ensures.gathered n c.in-Some.is)
    (c.read_mdb_at-mdb.ensures ∙ ap (λ (read : Numbered). mdb_at (sparse read) n) c.volume-blocks.ensures.read)

pub returns-in-Ok-clause-needed : goal.returns-in-Ok-clause-needed
returns-in-Ok-clause-needed g c =
    let total = c.args.len / 512 in
    let n = c.in-Some.n in
    let finds = c.in-Ok.finds in
    needed-found (g.S.BlockSource.image c.args.source.now) c.args.len (length-right c.args.len (search rules) (search rules)) c.in_ok-read.field-0
    c.in_ok-read.ensures.gathered n c.read_mdb_at-mdb.result finds c.in-Some.is
    (c.read_mdb_at-mdb.ensures ∙ ap (λ (read : Numbered). mdb_at (sparse read) n) c.volume-blocks.ensures.read) c.in-Ok.ensures.mdb
    (subst (λ (read : Numbered). AreFindsBy (Some n) total (sparse read) finds) c.volume-blocks.ensures.read
    (subst (λ (k : ℕ). AreFindsBy (Some n) k (sparse c.volume-blocks.result.read.now) finds) c.volume-blocks.ensures.count c.in-Ok.ensures.finds))

pub returns-then-len-lt1536-clause-each : goal.returns-then-len-lt1536-clause-each
returns-then-len-lt1536-clause-each g c = λ image h.
    outside-found (Some image) c.args.len
    (λ enough few.
    ⊎_elim (λ (short : c.args.len < 1536). omega (arith, short, enough)) (λ (long : (1536 ≤ c.args.len) × (2147483648 < c.args.len)). omega (arith, long.1, few))
    c.then-len-lt1536.either)

pub returns-in_default-clause-each : goal.returns-in_default-clause-each
returns-in_default-clause-each g c =
    let none : c.in_ok-read.field-0.directory ≡ None = search rules in
    λ image h.
    needed-whole (Some image) c.args.len c.in_ok-read.field-0 (gathered-each c.in_ok-read.ensures.gathered c.in_ok-read.ensures.seen image h) none

pub returns-in-Ok-clause-each : goal.returns-in-Ok-clause-each
returns-in-Ok-clause-each g c =
    let total = c.args.len / 512 in
    let n = c.in-Some.n in
    let finds = c.in-Ok.finds in
    λ image h.
    needed-found (Some image) c.args.len (length-right c.args.len (search rules) (search rules)) c.in_ok-read.field-0
    (gathered-each c.in_ok-read.ensures.gathered c.in_ok-read.ensures.seen image h) n c.read_mdb_at-mdb.result finds c.in-Some.is
    (c.read_mdb_at-mdb.ensures ∙ ap (λ (read : Numbered). mdb_at (sparse read) n) c.volume-blocks.ensures.read) c.in-Ok.ensures.mdb
    (subst (λ (read : Numbered). AreFindsBy (Some n) total (sparse read) finds) c.volume-blocks.ensures.read
    (subst (λ (k : ℕ). AreFindsBy (Some n) k (sparse c.volume-blocks.result.read.now) finds) c.volume-blocks.ensures.count c.in-Ok.ensures.finds))
