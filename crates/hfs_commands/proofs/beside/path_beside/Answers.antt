use Rattle.std.proofs.Common.{◌≡◌, ◌++◌, List, ℕ, string_bytes, codes}
use Rattle.std.specs.Fmt.{decimal}
use Rattle.hfs_fields.proofs.OutcomeLemmas.{if_ok}
use Rattle.hfs_commands.specs.Paths.{path_beside}
use Rattle.hfs_commands.proofs.Taken.{path_beside-pieces}
use Rattle.hfs_commands.proofs.beside.path_beside.Goals as goal

pub returns : goal.returns
returns c =
    let path : List ℕ = c.args.path.now in
    let number : List ℕ = decimal c.args.number in
    let dot : List ℕ = codes "." in
    let new : List ℕ = codes ".new" in
    if_ok c.format.result _ (λ name. string_bytes name ≡ path_beside c.args.path.now c.args.number)
    (λ name h. (let whole : string_bytes name ≡ path ++ (dot ++ (number ++ new)) = h in path_beside-pieces path c.args.number whole))
    c.format.ensures.ok
