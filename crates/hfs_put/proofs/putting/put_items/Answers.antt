-- What goes out of the list.
use Rattle.std.proofs.Common.{◌≡◌, ℕ, List, sym, subst, ◌∙◌}
use Rattle.hfs_blocks.specs.Blocks.{block_at, block_count}
use Rattle.hfs_blocks.specs.Layers.{changes, AreWithin}
use Rattle.hfs_check.specs.Parts.{mdb_in}
use Rattle.hfs_check.specs.VolumeOf.{volume_of}
use Rattle.hfs_put.specs.ForkRuns.{AreForkRuns, AreRunsApart}
use Rattle.hfs_put.specs.Laying.{AreLaid}
use Rattle.hfs_put_sources.specs.declared.fork_run.ForkRun.{ForkRun}
use Rattle.hfs_put.specs.PutImages.{AreGoingOut, HasDirectory, IsPutOver}
use Rattle.hfs_put.proofs.PutOver.{has-directory, is-put-over, kept-within}
use Rattle.hfs_put.proofs.putting.put_items.Goals as goal

pub going_out-requires : goal.going_out-requires
going_out-requires c = subst AreRunsApart (sym c.deref-2.ensures.value) c.in_ok-runs.ensures.apart

pub returns-clause-put : goal.returns-clause-put
returns-clause-put c =
    let volume = c.lay_items.new.volume in
    let target = c.args.target in
    let now = c.args.now in
    let items = c.args.items.now in
    let patch = c.in_ok-patch.patch in
    let ids = c.in_ok-ids.ids.items in
    let runs = c.in_ok-runs.runs.items in
    let base : volume.base ≡ c.args.volume.now.base = c.lay_items.ensures.base in
    let calls : AreLaid target now items (volume_of volume.base) (volume_of volume.current) ids =
    subst (λ (bytes : List ℕ). AreLaid target now items (volume_of bytes) (volume_of volume.current) ids) (c.requires ∙ sym base) c.in_ok-ids.ensures.ok in
    let are : AreForkRuns (block_at volume.current) items ids runs =
    subst (λ (own : List ℕ). AreForkRuns (block_at volume.current) items own runs) c.deref.ensures.value c.in_ok-runs.ensures in
    let going : AreGoingOut volume runs patch = subst (λ (own : List ForkRun). AreGoingOut volume own patch) c.deref-2.ensures.value c.in_ok-patch.ensures in
    subst (λ (bytes : List ℕ). IsPutOver bytes volume.current target now items patch runs ids) base
    (is-put-over volume target now items going.changed patch runs ids calls going.agrees going.are going.makes are going.beside)

pub returns-clause-directory : goal.returns-clause-directory
returns-clause-directory c =
    let volume = c.lay_items.new.volume in
    let target = c.args.target in
    let now = c.args.now in
    let items = c.args.items.now in
    let patch = c.in_ok-patch.patch in
    let ids = c.in_ok-ids.ids.items in
    let runs = c.in_ok-runs.runs.items in
    let base : volume.base ≡ c.args.volume.now.base = c.lay_items.ensures.base in
    let calls : AreLaid target now items (volume_of volume.base) (volume_of volume.current) ids =
    subst (λ (bytes : List ℕ). AreLaid target now items (volume_of bytes) (volume_of volume.current) ids) (c.requires ∙ sym base) c.in_ok-ids.ensures.ok in
    let are : AreForkRuns (block_at volume.current) items ids runs =
    subst (λ (own : List ℕ). AreForkRuns (block_at volume.current) items own runs) c.deref.ensures.value c.in_ok-runs.ensures in
    let going : AreGoingOut volume runs patch = subst (λ (own : List ForkRun). AreGoingOut volume own patch) c.deref-2.ensures.value c.in_ok-patch.ensures in
    subst (λ (bytes : List ℕ). HasDirectory bytes items patch runs (mdb_in (block_at volume.current))) base
    (has-directory volume target now items going.changed patch runs ids calls going.agrees going.are going.makes are going.beside)

pub returns-clause-within : goal.returns-clause-within
returns-clause-within c =
    let volume = c.lay_items.new.volume in
    let patch = c.in_ok-patch.patch in
    let runs = c.in_ok-runs.runs.items in
    let going : AreGoingOut volume runs patch = subst (λ (own : List ForkRun). AreGoingOut volume own patch) c.deref-2.ensures.value c.in_ok-patch.ensures in
    subst (λ (bytes : List ℕ). AreWithin (changes patch) (block_count bytes)) c.lay_items.ensures.base
    (kept-within volume going.changed patch runs going.agrees going.are going.makes going.beside)
