use Rattle.std.proofs.Common.{ap, sym, ◌∙◌}
use Rattle.std.specs.Option.{option_copied}
use Rattle.pr_call.proofs.MapLemmas.{mmap-kept, mmap-made}
use Rattle.pr_call.proofs.maps.mmap.Goals as goal

pub returns-in-Err-clause-system : goal.returns-in-Err-clause-system
returns-in-Err-clause-system c p found id l =
    mmap-kept c.args.sys.now c.args.pid c.unwrap.result.now p c.args.len c.args.prot id l
    (sym c.live.ensures ∙ ap option_copied c.unwrap.ensures) found c.in-Err.error c.in-Err.ensures.effect

pub returns-in_ok-map-in-Ok-clause-system : goal.returns-in_ok-map-in-Ok-clause-system
returns-in_ok-map-in-Ok-clause-system c p found id l =
    mmap-made c.args.sys.now c.args.pid c.unwrap.result.now p c.args.len c.args.prot id l
    (sym c.live.ensures ∙ ap option_copied c.unwrap.ensures) found c.in-Ok.at c.get_mut.result.now _
    c.get_mut.ensures.value c.in-Ok.ensures.effect c.in_ok-map-in-Ok.ensures.ok
