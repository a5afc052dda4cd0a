use Rattle.std.proofs.Common.{◌∙◌, ap, arith}
use Rattle.pr_num.specs.Spaces.{mapped_size}
use Rattle.pr_mem.specs.Answers.{heap_bytes}
use Rattle.pr_mem.proofs.RoomLemmas.{mapped_size-heap}
use Rattle.pr_mem.proofs.spaces.Space.size_with_heap.Goals as goal

pub returns : goal.returns
returns c =
    let is = c.deref.ensures.value ∙ c.self.view_is in
    let heap = c.heap_bytes.ensures.value ∙ ap heap_bytes is in
    let mapped = c.self.invariant.1 ∙ ap mapped_size c.self.view_is in
    let all = ap mapped_size is in
    omega (arith, c.heap_bytes.ensures.within, mapped_size-heap c.args.size c.args.self.now)
