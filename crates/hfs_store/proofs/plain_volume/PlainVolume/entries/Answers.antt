use Rattle.hfs_store.proofs.plain_volume.PlainVolume.entries.Goals as goal

pub returns-clause-room : goal.returns-clause-room
returns-clause-room c id = rw c.deref.ensures.value (c.self.invariant.room id)
