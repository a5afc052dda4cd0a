use Rattle.std.proofs.Common.{◌<◌, ap, sym, subst, length, arith}
use Rattle.pr_num.specs.Spaces.{IsSpace, mapped_size}
use Rattle.pr_parts.proofs.SpaceLemmas.{IsSpace-remove, mapped_size-remove}
use Rattle.pr_mem.proofs.spaces.Space.remove.Goals as goal

pub invariant_of-self : goal.invariant_of-self
invariant_of-self c =
    let items = c.self.inside.mappings.items in
    let within : c.args.place < length items = omega (arith, ap length c.self.view_is, c.requires) in
    let now = c.remove-gone.ensures.items in
    let less = mapped_size-remove items c.args.place c.remove-gone.result within c.remove-gone.ensures.value in (
      subst IsSpace (sym now) (IsSpace-remove items c.args.place within c.self.invariant.0),
      omega (arith, less, ap mapped_size now, c.self.invariant.1),
    )
