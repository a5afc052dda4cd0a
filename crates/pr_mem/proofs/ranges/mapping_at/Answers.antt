use Rattle.std.proofs.Common.{◌∙◌, ap, refl, sym, arith}
use Rattle.std.specs.Option.{option_copied}
use Rattle.std.proofs.lemmas.Option.{slice_get_read}
use Rattle.pr_mem.proofs.PlaceLemmas.{find-behind_all, find-between, find-there}
use Rattle.pr_mem.proofs.ranges.mapping_at.Goals as goal

pub returns-in_err-mapping-clause-value : goal.returns-in_err-mapping-clause-value
returns-in_err-mapping-clause-value c =
    let none =
    find-behind_all c.args.mappings.now c.args.address c.args.place c.requires.place
    c.in_err-mapping.ensures.lookup.3 in
    ap option_copied c.from_residual.ensures ∙ sym none

pub returns-then-at-address-clause-value : goal.returns-then-at-address-clause-value
returns-then-at-address-clause-value c =
    let read = c.in_ok-mapping.ensures.lookup in
    let is = slice_get_read c.args.mappings.now _ c.args.place c.in_ok-mapping.mapping.now refl read.3.0 read.1 in
    sym (find-there c.args.mappings.now c.args.address c.args.place _ c.requires.place is
    (omega (arith, c.if-at-address.true)))

pub returns-else-at-address-clause-value : goal.returns-else-at-address-clause-value
returns-else-at-address-clause-value c =
    let read = c.in_ok-mapping.ensures.lookup in
    let is = slice_get_read c.args.mappings.now _ c.args.place c.in_ok-mapping.mapping.now refl read.3.0 read.1 in
    sym (find-between c.args.mappings.now c.args.address c.args.place _ c.requires.space c.requires.place is
    (omega arith))
