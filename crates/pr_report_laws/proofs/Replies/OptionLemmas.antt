use Rattle.std.proofs.Common.{◌≡◌, ℕ, Option, Some, None, refl}
use Rattle.pr_model.specs.declared.events.Entry.{Entry}
use Rattle.pr_truss.specs.Trusses.{TrussState}
use Rattle.pr_truss_laws.proofs.Replies.OptionLemmas.{fed-options}
use Rattle.pr_truss_laws.specs.Exchanges.{Exchange, exchange_of}
use Rattle.pr_report_laws.specs.Watching.{fed_by_entry, with_exchange}

-- Truss keeps its options, whatever an entry tells it.

pub told-options : (k : ℕ) (t : TrussState) (e : Entry) → (fed_by_entry k t e).options ≡ t.options
told-options k t e = by (exchange_of k e)
  where
    by : (x : Option Exchange) → (with_exchange t x).options ≡ t.options
    by None = refl
    by (Some x) = fed-options t x.reply
