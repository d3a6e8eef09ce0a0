-- One reply more of a viewer.
use Rattle.std.proofs.Common.{◌≡◌, ◌∙◌, ◌<◌, ◌++◌, List, [], ◌∷◌, length, get_or, refl, sym, ap, subst, arith}
use Rattle.hfs_model.specs.declared.call.Call.{Call}
use Rattle.hfs_model.specs.declared.reply.Reply.{Reply}
use Rattle.hfs_shared.specs.Histories.{Known}
use Rattle.hfs_shared.specs.Lists.{Reads}
use Rattle.hfs_runs.specs.Views.{AreReads}

-- the reply to the next call goes behind those so far
pub reads_more : (calls : List Call) (before : Known) (replies : List Reply) (seen : Known) (call : Call) (reply : Reply) (afterwards : Known)
    → length replies < length calls → ((none : Call) → get_or calls (length replies) none ≡ call) → AreReads calls before replies seen → Reads call seen reply afterwards
    → AreReads calls before (replies ++ reply ∷ []) afterwards
reads_more [] before replies seen call reply afterwards below at reads read = absurd (omega arith)
reads_more (first ∷ calls) before [] seen call reply afterwards below at reads read = (
  afterwards,
  subst (λ (k : Known). Reads first k reply afterwards) reads (subst (λ (c : Call). Reads c seen reply afterwards) (sym (at first)) read),
  refl,
)
reads_more (first ∷ calls) before (one ∷ replies) seen call reply afterwards below at reads read = (
  reads.0,
  reads.1,
  reads_more calls reads.0 replies seen call reply afterwards (omega arith) at reads.2 read,
)

-- what was read last is of the history that was seen first
pub reads_book : (calls : List Call) (before : Known) (replies : List Reply) (seen : Known) → AreReads calls before replies seen → seen.book ≡ before.book
reads_book calls before [] seen reads = ap (λ (k : Known). k.book) reads
reads_book [] before (reply ∷ replies) seen reads = absurd reads
reads_book (call ∷ calls) before (reply ∷ replies) seen reads = reads_book calls reads.0 replies seen reads.2 ∙ reads.1.book
