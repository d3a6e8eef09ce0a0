-- By the directory that was read in its place.
use Rattle.std.proofs.Common.{◌≡◌, Bool, if◌then◌else◌, None, Some, sym, ap, ◌∙◌, rules}
use Rattle.hfs_remains.specs.Directory.{mdb_at, usual_directory}
use Rattle.hfs_source.specs.Sparse.{sparse}
use Rattle.hfs_image.proofs.Gathered.{reads-on, reads-start}
use Rattle.hfs_remains_forks.proofs.GatherLemmas.{all-read, none-read, none-wants, usual-read, wants-read}
use Rattle.hfs_source.proofs.Seen.{sees_on}
use Rattle.hfs_image.proofs.SeenStart.{seen-start}
use Rattle.hfs_remains_forks.proofs.gathering.gather.Goals as goal

pub returns-in_default-clause-gathered : goal.returns-in_default-clause-gathered
returns-in_default-clause-gathered g c =
    let read = c.fetch_places.new.read in
    let none : usual_directory c.args.count (sparse read) ≡ None = search rules in
    record {
      needed = none-read c.args.count read c.in_ok-fetch_places.ensures.has none;
      of = (reads-start (g.S.BlockSource.image c.args.source.now) c.args.count c.new-read.result read c.new-read.ensures c.in_ok-fetch_places.ensures.reads).0;
      directory = ap (λ (w : Bool). if w then None else usual_directory c.args.count (sparse read)) (sym (none-wants c.args.count (sparse read) none));
    }

pub returns-clause-gathered : goal.returns-clause-gathered
returns-clause-gathered g c =
    let old = c.fetch_places.new.read in
    let new = c.fetch_files.new.read in
    let usual : usual_directory c.args.count (sparse old) ≡ Some c.in-Some.n = search rules in
    let fields : c.read_mdb_at-mdb.result ≡ mdb_at (sparse old) c.in-Some.n = search rules in
    let grown = c.in_ok-elsewhere.ensures.reads.grown in
    let has = c.in_ok-fetch_places.ensures.has in
    record {
      needed = all-read c.args.count old new grown has c.in-Some.n c.read_mdb_at-mdb.result usual fields c.in_ok-elsewhere.ensures.has;
      of = (reads-start (g.S.BlockSource.image c.args.source.now) c.args.count c.new-read.result new c.new-read.ensures
          (reads-on (g.S.BlockSource.image c.args.source.now) (g.S.BlockSource.image c.fetch_places.new.source) c.args.count c.new-read.result old new
          c.in_ok-fetch_places.ensures.image c.in_ok-fetch_places.ensures.reads c.in_ok-elsewhere.ensures.reads)).0;
      directory = c.unless-directory.ensures
          ∙ (λ i. if sym (wants-read c.args.count old new grown has c.in-Some.n c.read_mdb_at-mdb.result usual fields c.in_ok-elsewhere.elsewhere c.in_ok-elsewhere.ensures.elsewhere) i
          then None else sym (usual-read c.args.count old new grown has c.in-Some.n c.read_mdb_at-mdb.result usual fields) i);
    }

pub returns-in_err-fetch_places-clause-narrows : goal.returns-in_err-fetch_places-clause-narrows
returns-in_err-fetch_places-clause-narrows g c = c.in_err-fetch_places.ensures.sees.held

pub returns-in_default-clause-seen : goal.returns-in_default-clause-seen
returns-in_default-clause-seen g c = seen-start c.new-read.ensures c.in_ok-fetch_places.ensures.sees

pub returns-in_default-clause-narrows : goal.returns-in_default-clause-narrows
returns-in_default-clause-narrows g c = c.in_ok-fetch_places.ensures.sees.held

pub returns-in_err-elsewhere-clause-narrows : goal.returns-in_err-elsewhere-clause-narrows
returns-in_err-elsewhere-clause-narrows g c = (sees_on c.in_ok-fetch_places.ensures.sees c.in_err-elsewhere.ensures.sees).held

pub returns-clause-seen : goal.returns-clause-seen
returns-clause-seen g c = seen-start c.new-read.ensures (sees_on c.in_ok-fetch_places.ensures.sees c.in_ok-elsewhere.ensures.sees)

pub returns-clause-narrows : goal.returns-clause-narrows
returns-clause-narrows g c = (sees_on c.in_ok-fetch_places.ensures.sees c.in_ok-elsewhere.ensures.sees).held
