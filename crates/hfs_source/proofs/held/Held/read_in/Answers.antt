-- The blocks that were held stay, and those that were read come to them.
use Rattle.std.proofs.Common.{Some}
use Rattle.hfs_source.specs.Held.{held_blocks}
use Rattle.hfs_source.proofs.ReadingIn.{same-grown, same-stays, same-within, same-none, read-grown, read-stays, read-within, read-has}
use Rattle.hfs_source.proofs.held.Held.read_in.Goals as goal

pub returns-in_err-read_behind-clause-grown : goal.returns-in_err-read_behind-clause-grown
returns-in_err-read_behind-clause-grown g c = same-grown (held_blocks c.args.self.now) (held_blocks c.read_behind.new.self) c.in_err-read_behind.ensures.same

pub returns-in_err-read_behind-clause-stays : goal.returns-in_err-read_behind-clause-stays
returns-in_err-read_behind-clause-stays g c =
    same-stays (held_blocks c.args.self.now) (held_blocks c.read_behind.new.self) c.in_err-read_behind.ensures.same (g.S.BlockSource.image c.args.source.now)

pub returns-in_err-read_behind-clause-within : goal.returns-in_err-read_behind-clause-within
returns-in_err-read_behind-clause-within g c = λ total le.
    same-within (held_blocks c.args.self.now) (held_blocks c.read_behind.new.self) c.in_err-read_behind.ensures.same total

pub put_in_all-put_in-requires-clause-none : goal.put_in_all-put_in-requires-clause-none
put_in_all-put_in-requires-clause-none g c =
    same-none (held_blocks c.args.self.now) (held_blocks c.read_behind.new.self) c.in_ok-read_behind.ensures.same c.args.first c.args.count c.requires.none

pub returns-in_default-clause-grown : goal.returns-in_default-clause-grown
returns-in_default-clause-grown g c =
    read-grown c.args.first c.args.count c.read_behind.new.self.count c.read_behind.new.self.bytes.items (held_blocks c.args.self.now)
    (held_blocks c.read_behind.new.self) (held_blocks c.put_in_all-put_in.new.self) (held_blocks c.trim.new.self) c.in_ok-read_behind.ensures.same
    c.in_default.ensures.only c.trim.ensures.same c.requires.none

pub returns-in_default-clause-stays : goal.returns-in_default-clause-stays
returns-in_default-clause-stays g c =
    read-stays c.args.first c.args.count c.read_behind.new.self.count c.read_behind.new.self.bytes.items (held_blocks c.args.self.now)
    (held_blocks c.read_behind.new.self) (held_blocks c.put_in_all-put_in.new.self) (held_blocks c.trim.new.self) c.in_ok-read_behind.ensures.same
    c.in_default.ensures.only c.trim.ensures.same (g.S.BlockSource.image c.args.source.now) c.in_ok-read_behind.ensures.read

pub returns-in_default-clause-within : goal.returns-in_default-clause-within
returns-in_default-clause-within g c =
    read-within c.args.first c.args.count c.read_behind.new.self.count c.read_behind.new.self.bytes.items (held_blocks c.args.self.now)
    (held_blocks c.read_behind.new.self) (held_blocks c.put_in_all-put_in.new.self) (held_blocks c.trim.new.self) c.in_ok-read_behind.ensures.same
    c.in_default.ensures.only c.trim.ensures.same c.in_ok-read_behind.ensures.there

pub returns-clause-has : goal.returns-clause-has
returns-clause-has g c =
    read-has c.args.first c.args.count c.read_behind.new.self.count c.read_behind.new.self.bytes.items
    (held_blocks c.put_in_all-put_in.new.self) (held_blocks c.trim.new.self) c.in-Ok.ensures.all c.trim.ensures.same

pub returns-clause-grown : goal.returns-clause-grown
returns-clause-grown g c =
    read-grown c.args.first c.args.count c.read_behind.new.self.count c.read_behind.new.self.bytes.items (held_blocks c.args.self.now)
    (held_blocks c.read_behind.new.self) (held_blocks c.put_in_all-put_in.new.self) (held_blocks c.trim.new.self) c.in_ok-read_behind.ensures.same
    c.in-Ok.ensures.only c.trim.ensures.same c.requires.none

pub returns-clause-stays : goal.returns-clause-stays
returns-clause-stays g c =
    read-stays c.args.first c.args.count c.read_behind.new.self.count c.read_behind.new.self.bytes.items (held_blocks c.args.self.now)
    (held_blocks c.read_behind.new.self) (held_blocks c.put_in_all-put_in.new.self) (held_blocks c.trim.new.self) c.in_ok-read_behind.ensures.same
    c.in-Ok.ensures.only c.trim.ensures.same (g.S.BlockSource.image c.args.source.now) c.in_ok-read_behind.ensures.read

pub returns-clause-within : goal.returns-clause-within
returns-clause-within g c =
    read-within c.args.first c.args.count c.read_behind.new.self.count c.read_behind.new.self.bytes.items (held_blocks c.args.self.now)
    (held_blocks c.read_behind.new.self) (held_blocks c.put_in_all-put_in.new.self) (held_blocks c.trim.new.self) c.in_ok-read_behind.ensures.same
    c.in-Ok.ensures.only c.trim.ensures.same c.in_ok-read_behind.ensures.there

pub returns-in_err-read_behind-clause-sees : goal.returns-in_err-read_behind-clause-sees
returns-in_err-read_behind-clause-sees g c = record {
  held = c.in_err-read_behind.ensures.narrows;
  stays = λ image h. same-stays (held_blocks c.args.self.now) (held_blocks c.read_behind.new.self) c.in_err-read_behind.ensures.same (Some image);
}

pub returns-in_default-clause-sees : goal.returns-in_default-clause-sees
returns-in_default-clause-sees g c =
    record {
      held = c.in_ok-read_behind.ensures.narrows;
      stays = λ image h.
          read-stays c.args.first c.args.count c.read_behind.new.self.count c.read_behind.new.self.bytes.items (held_blocks c.args.self.now)
          (held_blocks c.read_behind.new.self) (held_blocks c.put_in_all-put_in.new.self) (held_blocks c.trim.new.self) c.in_ok-read_behind.ensures.same
          c.in_default.ensures.only c.trim.ensures.same (Some image) (c.in_ok-read_behind.ensures.seen image h);
    }

pub returns-clause-sees : goal.returns-clause-sees
returns-clause-sees g c =
    record {
      held = c.in_ok-read_behind.ensures.narrows;
      stays = λ image h.
          read-stays c.args.first c.args.count c.read_behind.new.self.count c.read_behind.new.self.bytes.items (held_blocks c.args.self.now)
          (held_blocks c.read_behind.new.self) (held_blocks c.put_in_all-put_in.new.self) (held_blocks c.trim.new.self) c.in_ok-read_behind.ensures.same
          c.in-Ok.ensures.only c.trim.ensures.same (Some image) (c.in_ok-read_behind.ensures.seen image h);
    }
