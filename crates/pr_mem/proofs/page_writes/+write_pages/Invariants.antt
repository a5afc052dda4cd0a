use Rattle.std.proofs.Common.{length}
use Rattle.pr_mem.proofs.page_writes.+write_pages.Given as goal

abbrev pub decreases-write_pages : goal.decreases-write_pages
decreases-write_pages l = length l.pages.now
