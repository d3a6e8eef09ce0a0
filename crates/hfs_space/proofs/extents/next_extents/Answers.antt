-- What a look-up finds goes on with the fork.
use Rattle.std.proofs.Common.{◌≡◌, ℕ, ◌+◌, ◌<◌, ◌≤◌, List, ◌++◌, length, sym, ap, ◌∙◌, subst, arith}
use Rattle.std.specs.Option.{option_map}
use Rattle.hfs_fields.specs.Mdb.{extents_at}
use Rattle.hfs_fields.specs.declared.extent.Extent.{Extent}
use Rattle.hfs_space.specs.Extents.{fork_byte, extents_from, block_total}
use Rattle.hfs_space.specs.TreeKeys.{overflow_of}
use Rattle.hfs_space.proofs.GoingOn.{past_keys, not_found, too_short, no_block, some_block, looked_up}
use Rattle.hfs_space.proofs.extents.next_extents.Goals as goal

pub returns-in_default-clause-found : goal.returns-in_default-clause-found
returns-in_default-clause-found g c = past_keys (overflow_of (g.N.Nodes.nodes c.args.tree.now)) c.requires.tree.ordered.rises c.args.file (fork_byte c.args.fork) c.args.block (omega (arith, c.in_default.ensures))

pub returns-in_default-2-clause-found : goal.returns-in_default-2-clause-found
returns-in_default-2-clause-found g c =
    let overflow = overflow_of (g.N.Nodes.nodes c.args.tree.now) in
    not_found overflow c.requires.tree.ordered.rises c.args.file (fork_byte c.args.fork) c.args.block
    (looked_up overflow c.args.file (fork_byte c.args.fork) c.args.block c.fork_byte.result c.in-Ok.block _ _ c.in_ok-body.ensures.found c.fork_byte.ensures c.in-Ok.ensures.1 (ap (option_map (λ body. body.items)) c.in_default-2.is))

pub returns-in_default-read_record-clause-found : goal.returns-in_default-read_record-clause-found
returns-in_default-read_record-clause-found g c =
    let overflow = overflow_of (g.N.Nodes.nodes c.args.tree.now) in
    too_short overflow c.requires.tree.ordered.rises c.args.file (fork_byte c.args.fork) c.args.block c.in-Some.body.items
    (looked_up overflow c.args.file (fork_byte c.args.fork) c.args.block c.fork_byte.result c.in-Ok.block _ _ c.in_ok-body.ensures.found c.fork_byte.ensures c.in-Ok.ensures.1 (ap (option_map (λ body. body.items)) c.in-Some.is))
    (λ long. c.in_default-read_record.ensures (subst (λ (l : List ℕ). 12 ≤ length l) (sym c.deref.ensures.value) long))

pub returns-then-block_total-eq0-clause-found : goal.returns-then-block_total-eq0-clause-found
returns-then-block_total-eq0-clause-found g c =
    let overflow = overflow_of (g.N.Nodes.nodes c.args.tree.now) in
    no_block overflow c.requires.tree.ordered.rises c.args.file (fork_byte c.args.fork) c.args.block c.in-Some.body.items
    (looked_up overflow c.args.file (fork_byte c.args.fork) c.args.block c.fork_byte.result c.in-Ok.block _ _ c.in_ok-body.ensures.found c.fork_byte.ensures c.in-Ok.ensures.1 (ap (option_map (λ body. body.items)) c.in-Some.is))
    (subst (λ (l : List ℕ). 12 ≤ length l) c.deref.ensures.value c.in-Some-read_record.ensures.0) c.in-Ok.ensures.0
    (sym (ap block_total (c.in-Some-read_record.ensures.1 ∙ ap (extents_at 0) c.deref.ensures.value)) ∙ sym c.block_total.ensures.total ∙ c.if-block_total-eq0.true)

pub returns-clause-found : goal.returns-clause-found
returns-clause-found g c =
    let overflow = overflow_of (g.N.Nodes.nodes c.args.tree.now) in
    let own : c.in-Some-read_record.extents ≡ extents_at 0 c.in-Some.body.items = c.in-Some-read_record.ensures.1 ∙ ap (extents_at 0) c.deref.ensures.value in
    let some : 0 < block_total c.in-Some-read_record.extents = omega (arith, c.block_total.ensures.total) in
    let P : List Extent → Type 0 = λ extents. extents_from overflow c.args.file (fork_byte c.args.fork) c.args.block
    ≡ extents ++ extents_from overflow c.args.file (fork_byte c.args.fork) (c.args.block + block_total extents) in (
      c.in-Ok.ensures.0,
      some,
      subst P (sym own) (some_block overflow c.requires.tree.ordered.rises c.args.file (fork_byte c.args.fork) c.args.block c.in-Some.body.items
          (looked_up overflow c.args.file (fork_byte c.args.fork) c.args.block c.fork_byte.result c.in-Ok.block _ _ c.in_ok-body.ensures.found c.fork_byte.ensures c.in-Ok.ensures.1 (ap (option_map (λ body. body.items)) c.in-Some.is))
          (subst (λ (l : List ℕ). 12 ≤ length l) c.deref.ensures.value c.in-Some-read_record.ensures.0) c.in-Ok.ensures.0
          (subst (λ (l : List Extent). 0 < block_total l) own some)),
    )
