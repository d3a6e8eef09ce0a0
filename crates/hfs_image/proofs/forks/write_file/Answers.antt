-- Of the fork that is asked for.
use Rattle.std.proofs.Common.{sym, subst, OnErr}
use Rattle.hfs_source.specs.Seen.{EachKnown}
use Rattle.hfs_model.specs.declared.call.Fork.{Fork}
use Rattle.hfs_texts.specs.Writing.{AppendsFront}
use Rattle.hfs_image.specs.Forks.{OfForkOf}
use Rattle.hfs_image.proofs.forks.write_file.Goals as goal

pub returns-in-DataFork-clause-part : goal.returns-in-DataFork-clause-part
returns-in-DataFork-clause-part g c =
    subst (λ (fork : Fork). OnErr c.write_kind.result (OfForkOf (g.S.BlockSource.image c.args.source.now) c.args.volume.now.count c.args.volume.now.read c.args.file.now fork
    (AppendsFront (g.W.Write.contents c.args.writer.now) (g.W.Write.contents c.write_kind.new.writer)))) (sym c.in-DataFork.is) c.write_kind.ensures.part

pub returns-in-ResFork-clause-part : goal.returns-in-ResFork-clause-part
returns-in-ResFork-clause-part g c =
    subst (λ (fork : Fork). OnErr c.write_kind-in-ResFork.result (OfForkOf (g.S.BlockSource.image c.args.source.now) c.args.volume.now.count c.args.volume.now.read c.args.file.now fork
    (AppendsFront (g.W.Write.contents c.args.writer.now) (g.W.Write.contents c.write_kind-in-ResFork.new.writer)))) (sym c.in-ResFork.is)
    c.write_kind-in-ResFork.ensures.part

pub returns-in-DataFork-clause-each_part : goal.returns-in-DataFork-clause-each_part
returns-in-DataFork-clause-each_part g c =
    subst (λ (fork : Fork). OnErr c.write_kind.result (EachKnown (g.S.BlockSource.Holds c.write_kind.new.source) (λ known. OfForkOf known c.args.volume.now.count c.args.volume.now.read
    c.args.file.now fork (AppendsFront (g.W.Write.contents c.args.writer.now) (g.W.Write.contents c.write_kind.new.writer))))) (sym c.in-DataFork.is)
    c.write_kind.ensures.each_part

pub returns-in-ResFork-clause-each_part : goal.returns-in-ResFork-clause-each_part
returns-in-ResFork-clause-each_part g c =
    subst (λ (fork : Fork). OnErr c.write_kind-in-ResFork.result (EachKnown (g.S.BlockSource.Holds c.write_kind-in-ResFork.new.source) (λ known. OfForkOf known c.args.volume.now.count
    c.args.volume.now.read c.args.file.now fork (AppendsFront (g.W.Write.contents c.args.writer.now) (g.W.Write.contents c.write_kind-in-ResFork.new.writer))))) (sym c.in-ResFork.is)
    c.write_kind-in-ResFork.ensures.each_part
