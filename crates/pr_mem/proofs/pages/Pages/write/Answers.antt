use Rattle.std.proofs.Common.{◌∙◌, ap, map, subst, sym}
use Rattle.std.specs.Arc.{arc_value}
use Rattle.std.proofs.lemmas.Result.{on_err_weaker, on_ok_weaker}
use Rattle.pr_parts.specs.AddressSpaces.{written_bytes}
use Rattle.pr_mem.specs.Pages.{AreOf}
use Rattle.pr_mem.proofs.PageLemmas.{AreOf-written, bytes_of-written, either}
use Rattle.pr_mem.proofs.pages.Pages.write.Goals as goal

pub invariant_of-self : goal.invariant_of-self
invariant_of-self c =
    let size = c.self.inside.size in
    let pages = map arc_value c.self.inside.pages.items in
    let now = map arc_value c.write_from.new.pages.items in
    either {P = AreOf size now} c.write_from.result
    (on_ok_weaker c.write_from.result
    (λ e. AreOf-written size c.args.at c.args.bytes.now c.args.first pages now c.self.invariant e)
    c.write_from.ensures.ok)
    (on_err_weaker c.write_from.result (λ e. subst (AreOf size) (sym e) c.self.invariant) c.write_from.ensures.err)

pub returns-clause-ok : goal.returns-clause-ok
returns-clause-ok c =
    on_ok_weaker c.write_from.result
    (λ e. bytes_of-written c.self.inside.size c.args.at c.args.bytes.now c.args.first
    (map arc_value c.self.inside.pages.items) _ c.self.invariant.whole e
    ∙ ap (written_bytes c.args.at c.args.bytes.now c.args.first) c.self.view_is) c.write_from.ensures.ok
