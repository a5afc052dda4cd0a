use Rattle.std.proofs.Common.{arith}
use Rattle.pr_num.specs.Records.{sigact_ranges}
use Rattle.pr_rec.proofs.ReadLemmas.{AreBytes-fits}
use Rattle.pr_core.proofs.EntryLemmas.{short-read, sigact-read, sigact-ranged}
use Rattle.pr_core.proofs.entries.ArrayU64SIGNALCOUNTEntry.read.Goals as goal

pub returns-then-bytes-lt-SIGACT_SIZE-clause-err : goal.returns-then-bytes-lt-SIGACT_SIZE-clause-err
returns-then-bytes-lt-SIGACT_SIZE-clause-err c = short-read sigact_ranges c.args.bytes.now (omega arith)

pub returns-clause-ok : goal.returns-clause-ok
returns-clause-ok c =
    sigact-read c.args.bytes.now c.fill.new.words (AreBytes-fits c.args.bytes.now c.type_inv.bytes) (omega arith)
    c.fill.ensures

pub returns-clause-ranged : goal.returns-clause-ranged
returns-clause-ranged c =
    sigact-ranged c.args.bytes.now c.fill.new.words (AreBytes-fits c.args.bytes.now c.type_inv.bytes) (omega arith)
    c.fill.ensures
