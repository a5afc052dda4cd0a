use Rattle.std.proofs.Common.{◌≡◌, ◌∙◌, ap, reverse, ◌++◌, [], ◌∷◌}
use Rattle.pr_api.specs.Entries.{call_entry}
use Rattle.pr_api.specs.TableKernels.{TableState, Taken, taken}
use Rattle.pr_api.proofs.TableLemmas.{table-called}
use Rattle.pr_api.proofs.table_kernels.TableKernelKernel.call.Goals as goal

pub returns-clause-ok : goal.returns-clause-ok
returns-clause-ok c =
    let old : TableState = c.args.self.now in
    let new : TableState =
    record old {
      replies = reverse c.take_reply-reply.new.replies.items;
      history = c.push.new.self.entries;
      places =
          c.self.inside.places;
    } in
    let t : Taken = record { reply = c.take_reply-reply.result; left = reverse c.take_reply-reply.new.replies.items } in
    let took : t ≡ taken c.args.call old.replies =
    c.take_reply-reply.ensures ∙ ap (λ (k : TableState). taken c.args.call k.replies) c.self.view_is in
    let grown : new.history ≡ old.history ++ call_entry c.args.by c.args.call t.reply ∷ [] =
    c.push.ensures.entries
    ∙ ap (λ (k : TableState). k.history ++ call_entry c.args.by c.args.call t.reply ∷ []) c.self.view_is in
    let called =
    table-called c.args.by c.args.call old new t took grown (ap (λ (k : TableState). k.places) c.self.view_is) in
    record {
      reply = called.reply;
      shaped = called.shaped;
      history = called.history;
      places = called.places;
      machine =
          tt;
    }
