use Rattle.std.proofs.Common.{◌≡◌, ◌++◌, length, replicate, ap, arith}
use Rattle.std.proofs.lemmas.Result.{err_from_is_err_and}
use Rattle.pr_rec.proofs.ReadLemmas.{AreBytes-each}
use Rattle.pr_rec.proofs.UpgradeLemmas.{upgrades}
use Rattle.pr_rec.proofs.upgrades.upgrade.Goals as goal

pub returns-in_err-read_record-clause-err : goal.returns-in_err-read_record-clause-err
returns-in_err-read_record-clause-err c =
    let p = err_from_is_err_and c.from_residual.result c.from_residual.ensures.1 in
    rw (p.1, p.2) (c.in_err-read_record.ensures.err)

pub returns-clause-bytes : goal.returns-clause-bytes
returns-clause-bytes c = ap (λ front. front ++ replicate 24 0) c.copy_from_slice.ensures.after

pub returns-clause-ok : goal.returns-clause-ok
returns-clause-ok c =
    let size : length c.args.old.now ≡ 240 = omega arith in
    let bytes = AreBytes-each c.args.old.now c.fits-old in
    let zeros = returns-clause-bytes c in
    upgrades c.args.old.now _ c.read_record.new.words size bytes c.in_ok-read_record.ensures.ok zeros
