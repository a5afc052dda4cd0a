use Rattle.std.proofs.Common.{map, ap}
use Rattle.pr_num.specs.Spaces.{bytes_for, heap_size, mapped_size}
use Rattle.pr_model.specs.Messages.{read_answer, read_of}
use Rattle.pr_model.specs.Readers.{size_seen}
use Rattle.pr_model.specs.Reads.{file_reply, mapped_from, unless_none}
use Rattle.pr_model.specs.Records.{map_entry_of, map_of, psinfo_of}
use Rattle.pr_model.specs.Statuses.{status_of}
use Rattle.pr_lending.proofs.ShownSpaces.SpaceLemmas.{shown-alike}
use Rattle.pr_lending.proofs.spaces.lenders_are_read_as_their_borrowers.Goals as goal

pub returns : goal.returns
unfolding file_reply read_answer map_of psinfo_of size_seen status_of
returns c = record {
  bytes = λ s a b p q id other from len lawful h it.
      ap (λ space. unless_none (mapped_from space from len)) (shown-alike s lawful h a b p q it);
  message = λ s a b p q at size lawful h it.
      ap (λ space. read_of s a p (bytes_for 0 space at size)) (shown-alike s lawful h a b p q it);
  mappings = λ s a b p q lawful h it. ap (map (map_entry_of p.program)) (shown-alike s lawful h a b p q it);
  mapped = λ s a b p q lawful h it. ap mapped_size (shown-alike s lawful h a b p q it);
  heap = λ s a b p q lawful h it. ap heap_size (shown-alike s lawful h a b p q it);
}
