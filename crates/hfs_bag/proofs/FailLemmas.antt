-- Reads that fail.
use Rattle.std.specs.Prelude.{OnErr}
