use Rattle.std.proofs.Common.{List, [], ◌∷◌, subst}
use Rattle.pr_line.specs.declared.options.Options.{Options}
use Rattle.pr_model.specs.declared.calls.Call.TheVariants as call
use Rattle.pr_truss.specs.Trusses.{first_truss}
use Rattle.pr_truss_laws.proofs.OwnBusiness.BusinessCalls.{own-calls}
use Rattle.pr_truss_laws.proofs.OwnBusiness.EndedLemmas.{closes-ended}
use Rattle.pr_truss_laws.proofs.Replies.ExchangeLemmas.{makes-front, makes-rest}
use Rattle.pr_truss_laws.proofs.OwnBusiness.InterruptLemmas.{leaves-interrupted}
use Rattle.pr_truss_laws.proofs.OwnBusiness.KnownLemmas.{after-knows, first-knows, opens-known}
use Rattle.pr_truss_laws.proofs.OwnBusiness.LineLemmas.{keeps-lines, prints-reports, prints-what-it-reports, tells-selected}
use Rattle.pr_truss_laws.proofs.OwnBusiness.OpenTimes.{opens-in-time}
use Rattle.pr_truss_laws.proofs.OwnBusiness.PollsLemmas.{polls-own}
use Rattle.pr_truss_laws.proofs.OwnBusiness.RefusalLemmas.{tells-refusals}
use Rattle.pr_truss_laws.proofs.OwnBusiness.SentLemmas.{sends-in-order}
use Rattle.pr_truss_laws.specs.Business.{DoesItsBusiness, OpensWhatItKnows}
use Rattle.pr_truss_laws.specs.Exchanges.{Exchange, Makes, truss_after}

-- Truss does its own business.

opens-own : (o : Options) (xs : List Exchange) → Makes (first_truss o) xs → OpensWhatItKnows o xs
opens-own o xs makes = record {
  each = λ before after reply pid id file mode is.
      let x : Exchange = record { call = call.Open pid id file mode; reply = reply } in
      let made = subst (Makes (first_truss o)) is makes in
      let at = makes-rest (first_truss o) before (x ∷ after) made in
      let front = makes-front (first_truss o) before (x ∷ after) made in
      opens-known o before (truss_after (first_truss o) before) pid id file mode
      (after-knows o before [] (first_truss o) (first-knows o) front) at.0;
}

pub does-business : (o : Options) (xs : List Exchange) → Makes (first_truss o) xs → DoesItsBusiness o xs
does-business o xs makes = record {
  calls = own-calls o xs makes;
  sends = sends-in-order o xs makes;
  opens = opens-own o xs makes;
  in_time = opens-in-time o xs makes;
  refusals = tells-refusals o xs makes;
  polls = polls-own o xs makes;
  leaves = leaves-interrupted o xs makes;
  ended = closes-ended o xs makes;
  events = tells-selected o xs;
  prints = prints-reports o xs;
  reports = prints-what-it-reports o xs;
  lines = keeps-lines o xs;
}
