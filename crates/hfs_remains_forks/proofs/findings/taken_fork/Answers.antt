use Rattle.std.proofs.Common.{◌≡◌, ℕ, None, Some, if◌then◌else◌, length, slice_index_or, sym, ap, ◌∙◌}
use Rattle.std.specs.Prelude.{nat_lt}
use Rattle.std.specs.List.{list_any}
use Rattle.hfs_remains_places.specs.declared.verdict.Finding.{Finding}
use Rattle.hfs_remains_places.specs.declared.verdict.Verdict.TheVariants.{Taken}
use Rattle.hfs_remains.specs.TreeFiles.{FileBlocks}
use Rattle.hfs_remains_forks.specs.Forks.{missing_in}
use Rattle.hfs_remains_forks.specs.Owners.{is_counted_shared, is_shared}
use Rattle.hfs_remains_forks.specs.Verdicts.{finding_of}
use Rattle.hfs_remains_forks.proofs.OwnerLemmas.{within-there, shared-is}
use Rattle.hfs_remains_forks.proofs.findings.taken_fork.Goals as goal

pub has_shared-requires : goal.has_shared-requires
has_shared-requires c i b e =
    within-there c.args.total c.args.mdb.now c.in_ok-places.places.items (length c.args.owners.now) c.requires.all c.in_ok-places.ensures.there i b
    (ap (λ (l : FileBlocks). slice_index_or l i None) (sym c.deref-2.ensures.value) ∙ e)

pub returns-clause-verdict : goal.returns-clause-verdict
returns-clause-verdict c used counted =
    let a = c.args in
    let places = c.in_ok-places.places.items in
    let long = c.length-length.ensures in
    let within = within-there a.total a.mdb.now places (length a.owners.now) c.requires.all c.in_ok-places.ensures.there in
    let cut-is = c.cut_of.ensures ∙ ap (λ (n : ℕ). if nat_lt n a.fork.now.len then Some n else None) long in
    let missing-is = c.missing_in.ensures ∙ (λ t. missing_in a.mdb.now.allocation_block_size (long t) ((c.deref.ensures.value ∙ c.in_ok-places.ensures.places) t)) in
    let shared = c.has_shared.ensures ∙ ap (list_any (is_counted_shared a.owners.now)) c.deref-2.ensures.value
    ∙ shared-is used a.owners.now counted places within ∙ ap (list_any (is_shared used)) c.in_ok-places.ensures.places in
    let same : ◌≡◌ {A = Finding} record { cut = c.cut_of.result; missing = c.missing_in.result; shared = c.has_shared.result } (finding_of a.total a.chains.now a.mdb.now used a.fork.now) =
    λ t. record { cut = cut-is t; missing = missing-is t; shared = shared t } in
    ap Taken same
