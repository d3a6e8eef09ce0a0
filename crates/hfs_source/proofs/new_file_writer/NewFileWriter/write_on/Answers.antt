-- What was written comes to what there is.
use Rattle.std.proofs.Common.{rules, ◌≡◌, ◌∙◌, length, take, ap, arith}
use Rattle.std.proofs.lemmas.List.{length-take}
use Rattle.hfs_source.proofs.Fillings.{written_from}
use Rattle.hfs_source.proofs.new_file_writer.NewFileWriter.write_on.Goals as goal
use Rattle.hfs_source.proofs.new_file_writer.NewFileWriter.write_on.Goals.{then-self+in_ok-go_to, else-self}

pub returns-clause-bytes : goal.returns-clause-bytes
returns-clause-bytes g c =
    let long : length (take c.in_ok-count.count c.args.more.now) ≡ c.in_ok-count.count =
    omega (arith, length-take c.in_ok-count.count c.args.more.now, c.in_ok-count.ensures.bound) in
    elim c.if-self.branch [
      | then-self+in_ok-go_to w ↦ written_from c.args.self.now (g.P.PlacedWriter.bytes c.self.inside.target)
          (g.P.PlacedWriter.bytes c.if-self.self-inside.target) (g.P.PlacedWriter.bytes c.write_on.new.self) c.self.inside.len
          c.if-self.self-inside.len c.in_ok-count.count (g.P.PlacedWriter.place c.if-self.self-inside.target)
          (take c.in_ok-count.count c.args.more.now) (search rules) c.self.invariant.0
          (ap (λ s. g.P.PlacedWriter.bytes s.target) w.self-inside-is ∙ w.in_ok-go_to.ensures.bytes) (ap (λ s. s.len) w.self-inside-is)
          (ap (λ s. g.P.PlacedWriter.place s.target) w.self-inside-is ∙ w.in_ok-go_to.ensures.place) long c.in_ok-count.ensures.bytes
      | else-self w ↦ written_from c.args.self.now (g.P.PlacedWriter.bytes c.self.inside.target)
          (g.P.PlacedWriter.bytes c.if-self.self-inside.target) (g.P.PlacedWriter.bytes c.write_on.new.self) c.self.inside.len
          c.if-self.self-inside.len c.in_ok-count.count (g.P.PlacedWriter.place c.if-self.self-inside.target)
          (take c.in_ok-count.count c.args.more.now) (search rules) c.self.invariant.0
          (ap (λ s. g.P.PlacedWriter.bytes s.target) w.self-inside-is) (ap (λ s. s.len) w.self-inside-is)
          (ap (λ s. g.P.PlacedWriter.place s.target) w.self-inside-is ∙ (c.self.invariant.1 w.if-self.false).0) long c.in_ok-count.ensures.bytes
    ]
