use Rattle.std.proofs.Common.{◌≡◌, ◌-◌, ◌<◌, true, false, [], ◌++◌, length, get_or, take, drop, refl, rules, arith, append_assoc}
use Rattle.std.proofs.lemmas.Grind.{common_steps}
use Rattle.std.proofs.lemmas.Str.{IsCharBoundary-start, IsCharBoundary-after_ascii, IsCharBoundary-before_ascii}
use Rattle.std.proofs.Output.{has_written_append, has_written_of_eq}
use Rattle.hfs_commands.specs.Paths.{escaped_byte, is_escaped}
use Rattle.hfs_commands.proofs.Escapes.{ascii_from_escaped, keep_byte, escape_byte, path_text-end}
use Rattle.hfs_commands.proofs.paths.write_path.Goals as goal
use Rattle.hfs_commands.proofs.paths.write_path.Goals.{then-is_escaped+in_ok-write_str+in_ok-write_escaped, else-is_escaped}

pub loop-at-init : goal.loop-at-init
loop-at-init g c = (omega arith, IsCharBoundary-start c.args.path.now c.utf8.path, [], refl, search rules)

pub range-requires-clause-end_boundary : goal.range-requires-clause-end_boundary
range-requires-clause-end_boundary g c =
    let escaped : is_escaped (get_or c.args.path.now c.loop-at.at 0) ≡ true = grind (arith, common_steps) in
    IsCharBoundary-before_ascii c.args.path.now c.loop-at.at (omega (arith, c.as_bytes-bytes.ensures.len)) (ascii_from_escaped _ escaped)

pub loop-at-preserved : goal.loop-at-preserved
loop-at-preserved g c =
    let l = c.loop-at in
    let s = c.args.path.now in
    let (low, bound, done, whole, wrote) = l.invariant in
    let within : l.at < length s = omega (arith, c.as_bytes-bytes.ensures.len) in
    elim c.if-is_escaped.branch [
      | then-is_escaped+in_ok-write_str+in_ok-write_escaped w ↦
          let escaped : is_escaped (get_or s l.at 0) ≡ true = grind (arith, common_steps) in
          let run = take (l.at - l.start) (drop l.start s) in
          rw (w.start-is, w.f-is) (
            omega arith,
            IsCharBoundary-after_ascii s l.at c.utf8.path within (ascii_from_escaped _ escaped),
            done ++ (run ++ escaped_byte (get_or s l.at 0)),
            escape_byte s done _ l.start l.at within escaped whole,
            λ plain.
                let sofar = wrote plain in
                let one = w.write_str.ensures.writes sofar.plain (search rules) in
                let two = w.write_escaped.ensures one.plain (search rules) in
                has_written_of_eq _ _ _ _ _ (grind (arith, common_steps, append_assoc)) (has_written_append _ _ _ _ _ _ (has_written_append _ _ _ _ _ _ sofar one) two),
          )
      | else-is_escaped w ↦
          let plain : is_escaped (get_or s l.at 0) ≡ false = grind (arith, common_steps) in
          rw (w.start-is, w.f-is) (omega arith, bound, done, keep_byte s done _ l.start l.at low within plain whole, wrote)
    ]

pub returns : goal.returns
returns g c plain ok =
    let l = c.loop-at in
    let s = c.args.path.now in
    let (low, bound, done, whole, wrote) = l.invariant in
    let at_end : l.at ≡ length s = omega (arith, c.as_bytes-bytes.ensures.len) in
    has_written_of_eq _ _ _ _ _ (path_text-end s done _ l.start l.at low at_end whole) (has_written_append _ _ _ _ _ _ (wrote plain) (search rules))
