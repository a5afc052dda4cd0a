use Rattle.std.proofs.Common.{arith, ◌-◌, ◌+◌}
use Rattle.pr_num.specs.Words.{word_bytes}
use Rattle.pr_codec.proofs.WordLemmas.{put_word}
use Rattle.pr_codec.proofs.words.put.Goals as goal

pub returns : goal.returns
unfolding word_bytes
returns c =
    put_word c.args.at c.args.v (c.args.at + 8 - c.args.at) c.args.out.now c.write_u64.new.buf
    (omega arith) c.write_u64.ensures
