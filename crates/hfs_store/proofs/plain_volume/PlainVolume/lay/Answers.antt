use Rattle.hfs_store.proofs.Laid.{laid_entries, laid, counted}
use Rattle.hfs_store.proofs.plain_volume.PlainVolume.lay.Goals as goal

pub invariant_of-self-2 : goal.invariant_of-self-2
invariant_of-self-2 c = laid_entries c.self.inside c.args.self.now c.self.view_is c.self.invariant c.args.id c.args.item c.requires.free c.requires.room c.push.new.self.items c.in_ok-push.ensures.items

pub returns-clause-laid : goal.returns-clause-laid
returns-clause-laid c = laid c.self.inside c.args.self.now c.self.view_is c.self.invariant c.args.id c.args.item c.requires.free c.requires.room c.push.new.self.items c.in_ok-push.ensures.items

pub returns-clause-counted : goal.returns-clause-counted
returns-clause-counted c = counted c.self.inside c.args.self.now c.self.view_is c.self.invariant c.args.id c.args.item c.requires.free c.requires.room c.push.new.self.items c.in_ok-push.ensures.items
