-- What is let go of before changes nothing.
use Rattle.std.proofs.Common.{◌≡◌, subst, List, ℕ, Global, rules}
use Rattle.std.specs.Prelude.{string_bytes}
use Rattle.hfs_bag.specs.Removals.{HasSince, IsTakenAway, RemovesIn}
use Rattle.hfs_bag.proofs.RemovalLemmas.{since_trans, taken_behind}
use Rattle.hfs_bag.proofs.PlacingLemmas.{since_closed}
use Rattle.hfs_bag.proofs.files.FileShelf.take_away.Goals as goal

pub returns-in-Ok-clause-away : goal.returns-in-Ok-clause-away
returns-in-Ok-clause-away g c =
    let folder = string_bytes {Z = Global} c.args.self.folder in
    let old = g.Y.FileSystem.did c.args.self.system in
    let mid = g.Y.FileSystem.did c.close.new.self.system in
    let new = g.Y.FileSystem.did c.remove_folder.new.system in
    let path : c.as_str.result.now ≡ folder = search rules in
    taken_behind folder old mid new (since_closed folder c.args.self.modified old mid c.close.ensures.closed) (subst (λ (f : List ℕ). IsTakenAway f mid new) path c.in-Ok.ensures)

pub returns-clause-within : goal.returns-clause-within
returns-clause-within g c =
    let folder = string_bytes {Z = Global} c.args.self.folder in
    let old = g.Y.FileSystem.did c.args.self.system in
    let mid = g.Y.FileSystem.did c.close.new.self.system in
    let new = g.Y.FileSystem.did c.remove_folder.new.system in
    let path : c.as_str.result.now ≡ folder = search rules in
    since_trans (RemovesIn folder) old mid new (since_closed folder c.args.self.modified old mid c.close.ensures.closed) (subst (λ (f : List ℕ). HasSince (RemovesIn f) mid new) path c.in-Err.ensures)
