use Rattle.std.proofs.Common.{◌≡◌, ℕ, Bool, true, false, cond, Option, Some, None, List, [], ◌∷◌, ◌++◌, refl, sym, subst, ap, ◌∙◌, arith, append_assoc, length, length-append}
use Rattle.std.proofs.lemmas.Grind.{flat_map-append}
use Rattle.std.proofs.lemmas.List.{append-nil}
use Rattle.std.proofs.lemmas.List.Elements.{All-nil, All-cons, All-append}
use Rattle.std.specs.List.{All, flat_map, slice_get}
use Rattle.pr_line.specs.Selections.{is_selected}
use Rattle.pr_line.specs.declared.events.Event.{Event}
use Rattle.pr_line.specs.declared.options.Options.{Options}
use Rattle.pr_model.specs.Replies.{number_of}
use Rattle.pr_model.specs.declared.calls.Reply.{Reply}
use Rattle.pr_rec.specs.declared.lwps.LwpStatus.{LwpStatus}
use Rattle.pr_truss.specs.Counts.{counts_text}
use Rattle.pr_truss.specs.Feeding.{fed}
use Rattle.pr_truss.specs.NextCalls.{call_of, next_call_of}
use Rattle.pr_truss.specs.Printing.{printed}
use Rattle.pr_truss.specs.Reports.{all_reports, pending_at, refusal_or_nothing, report_lines, report_text}
use Rattle.pr_truss.specs.Stops.{asked_range}
use Rattle.pr_truss.specs.Trusses.{TrussState, first_of_program, first_truss, idle, opening_or, traced_at}
use Rattle.pr_truss.specs.declared.reports.Report.{Report}
use Rattle.pr_truss.specs.declared.reports.Report.TheVariants as report
use Rattle.pr_truss.specs.declared.stages.AfterClosing.{AfterClosing}
use Rattle.pr_truss.specs.declared.stages.Stage.{Stage}
use Rattle.pr_truss.specs.declared.stages.Stage.TheVariants.{ReadingText}
use Rattle.pr_truss_laws.proofs.Files.ClosesLemmas.{after-grown}
use Rattle.pr_truss_laws.proofs.Replies.ExchangeLemmas.{after-append}
use Rattle.pr_truss_laws.proofs.Replies.FedSteps.{fed-step}
use Rattle.pr_truss_laws.proofs.Files.HeldLemmas.{Grown}
use Rattle.pr_truss_laws.proofs.Replies.OptionLemmas.{fed-options}
use Rattle.pr_truss_laws.proofs.Replies.ReplySteps as step
use Rattle.pr_truss_laws.proofs.Replies.ReplySteps.{Closes, GoesOn, Learns, Looks, Opens, ReplyStep, Returns, Settles, StopOver, Turns, on-staged, over-staged}
use Rattle.pr_truss_laws.specs.Exchanges.{Exchange, truss_after}
use Rattle.pr_truss_laws.specs.Lines.{BeginsWith, KeepsItsLines, PrintsItsReports, PrintsWhatItReports, ReportsNoOther, StandsOnSelected, TellsSelected, all_told, line_of, one_more}

-- What truss prints: selected events alone, and lines that stay.

-- ---- the events

-- a selected event, the line of which asks for this memory
pub record AsksFor (o : Options) (l : LwpStatus) (from len : ℕ) : Type 0 where
  pub stands : StandsOnSelected o l
  pub asks : asked_range o stands.event ≡ Some (from, len)

-- memory is read for a selected event alone, and just what its line asks for
abbrev pub StageTells : Options → Stage → Type 0
StageTells o (ReadingText place l from len) = AsksFor o l from len
StageTells o _ = Unit {0}

pub record Tells (o : Options) (s : TrussState) : Type 0 where
  pub options : s.options ≡ o
  pub each : All (TellsSelected o) s.reports
  pub stage : StageTells o s.stage

on-tells : (o : Options) (u v : TrussState) (given : Bool) → GoesOn u given v → StageTells o v.stage
on-tells o u v given (step.polls _ _) = tt
on-tells o u v given _ = tt

over-tells : (o : Options) (u v : TrussState) (place : ℕ) (pid : Option ℕ) → StopOver u place pid v
    → StageTells o v.stage
over-tells o u v place pid (step.runs _) = tt
over-tells o u v place pid _ = tt

module _ (o : Options) (s : TrussState) (r : Reply) (t : Tells o s) where
  abbrev All_tell : TrussState → Type 0
  All_tell u = All (TellsSelected o) u.reports

  chosen_so : (e : Event) → is_selected s.options e ≡ true → is_selected o e ≡ true
  chosen_so e is = subst (λ p. is_selected p e ≡ true) t.options is

  one-more : (x : Report) → TellsSelected o x → All (TellsSelected o) (s.reports ++ x ∷ [])
  one-more x tells =
      All-append (TellsSelected o) s.reports (x ∷ []) t.each
      (All-cons (TellsSelected o) x [] tells (All-nil (TellsSelected o)))

  settles-tell : (stage : Stage) (given : Bool) (u : TrussState) → StageTells o stage → Settles s r stage given u
      → All_tell u
  settles-tell stage given u here (step.refuses_start _ _) = one-more _ tt
  settles-tell stage given u here (step.refuses_control _ _) = one-more _ tt
  settles-tell stage given u here (step.interrupts_text _ _) = one-more _ here.stands
  settles-tell stage given u here _ = t.each

  looks-tell : (stage : Stage) (place : ℕ) (pid : Option ℕ) (u : TrussState) → StageTells o stage
      → Looks s r stage place pid u → All_tell u
  looks-tell stage place pid u here (step.shows {e = e} _ new chosen _) =
      one-more _ (record { event = e; tells = new.is; selected = chosen_so e chosen })
  looks-tell stage place pid u here step.shows_text = one-more _ here.stands
  looks-tell stage place pid u here _ = t.each

  closes-tell : (stage : Stage) (place : ℕ) (next : AfterClosing) (u : TrussState) → StageTells o stage
      → Closes s r stage place next u → All_tell u
  closes-tell stage place next u here (step.text_ended _) = one-more _ here.stands
  closes-tell stage place next u here (step.refuses_free _ _) = one-more _ tt
  closes-tell stage place next u here (step.refuses_opening _ _) = one-more _ tt
  closes-tell stage place next u here (step.refuses_child _ _) = one-more _ tt
  closes-tell stage place next u here _ = t.each

  returns-tell : (stage : Stage) (parent : ℕ) (u : TrussState) → Returns s r stage parent u → All_tell u
  returns-tell stage parent u (step.refuses_child_control _ _) = one-more _ tt
  returns-tell stage parent u (step.child_runs _) = t.each
  returns-tell stage parent u (step.child_closed _) = t.each

  step-tell : (stage : Stage) (v : TrussState) → StageTells o stage → ReplyStep s r stage v → All_tell v
  step-tell stage v here (step.settles w on) =
      let same = on-staged on in
      subst (All (TellsSelected o)) (sym same.reports) (settles-tell stage _ _ here w)
  step-tell stage v here (step.looks w over) =
      let same = over-staged over in
      subst (All (TellsSelected o)) (sym same.reports) (looks-tell stage _ _ _ here w)
  step-tell stage v here (step.closes w) = closes-tell stage _ _ _ here w
  step-tell stage v here (step.returns w) = returns-tell stage _ _ w
  step-tell stage v here _ = t.each

  -- ---- the next stage

  step-stage : (stage : Stage) (v : TrussState) → ReplyStep s r stage v → StageTells o v.stage
  step-stage stage v (step.settles w on) = on-tells o _ v _ on
  step-stage stage v (step.looks w over) = over-tells o _ v _ _ over
  step-stage stage v (step.asks {e = e} {range = range} _ new chosen asks) = record {
    stands = record { event = e; tells = new.is; selected = chosen_so e chosen };
    asks = ap (λ (p : Options). asked_range p e) (sym t.options) ∙ asks;
  }
  step-stage stage v (step.closes w) = tt
  step-stage stage v (step.loses _) = tt
  step-stage stage v (step.opens _ step.new_given) = tt
  step-stage stage v (step.opens _ step.new_child) = tt
  step-stage stage v (step.learns _ (step.opening_goes _)) = tt
  step-stage stage v (step.learns _ (step.child_goes _)) = tt
  step-stage stage v (step.returns w) = tt
  step-stage stage v (step.turns (step.starts _)) = tt
  step-stage stage v (step.turns (step.is_named _)) = tt
  step-stage stage v (step.turns (step.frees _)) = tt
  step-stage stage v (step.turns _) = tt

  fed-tells : Tells o (fed s r)
  fed-tells = record {
    options = fed-options s r ∙ t.options;
    each = step-tell s.stage (fed s r) t.stage (fed-step s r);
    stage = step-stage s.stage (fed s r) (fed-step s r);
  }

after-tells : (o : Options) (xs : List Exchange) (s : TrussState) → Tells o s → Tells o (truss_after s xs)
after-tells o [] s t = t
after-tells o (x ∷ xs) s t = after-tells o xs (fed s x.reply) (fed-tells o s x.reply t)

named-tells : (o : Options) (p : Option ℕ) → Tells o (opening_or (idle o) (idle o) p)
named-tells o None = record { options = refl; each = All-nil (TellsSelected o); stage = tt }
named-tells o (Some pid) = record { options = refl; each = All-nil (TellsSelected o); stage = tt }

program-tells : (o : Options) (p : Option (List ℕ)) → Tells o (first_of_program o p)
program-tells o None = named-tells o (slice_get o.pids 0)
program-tells o (Some program) = record { options = refl; each = All-nil (TellsSelected o); stage = tt }

first-tells : (o : Options) → Tells o (first_truss o)
unfolding first_truss
first-tells o = program-tells o o.program

pending-tells : (o : Options) (s : TrussState) (stage : Stage) → StageTells o stage
    → All (TellsSelected o) (pending_at s stage)
pending-tells o s (ReadingText place l from len) here =
    All-cons (TellsSelected o) _ [] here.stands (All-nil (TellsSelected o))
pending-tells o s _ here = All-nil (TellsSelected o)

all-tell : (o : Options) (s : TrussState) → Tells o s → All (TellsSelected o) (all_reports s)
unfolding all_reports
all-tell o s t =
    All-append (TellsSelected o) s.reports (pending_at s s.stage) t.each (pending-tells o s s.stage t.stage)

pub tells-selected : (o : Options) (xs : List Exchange)
    → All (TellsSelected o) (all_reports (truss_after (first_truss o) xs))
tells-selected o xs = all-tell o (truss_after (first_truss o) xs) (after-tells o xs (first_truss o) (first-tells o))

-- ---- the lines

options-after : (xs : List Exchange) (s : TrussState) → (truss_after s xs).options ≡ s.options
options-after [] s = refl
options-after (x ∷ xs) s = options-after xs (fed s x.reply) ∙ fed-options s x.reply

printed-lines : (s : TrussState) → s.options.count ≡ false → printed s ≡ report_lines s
unfolding printed
printed-lines s is =
    ap (λ b. cond b (flat_map refusal_or_nothing s.reports ++ counts_text s.reports) (report_lines s)) is

-- the lines of a truss that has no memory to read are those of its reports
settled-lines : (s : TrussState) → pending_at s s.stage ≡ []
    → report_lines s ≡ flat_map (report_text s.options) s.reports
unfolding report_lines all_reports
settled-lines s none =
    ap (λ (rs : List Report). flat_map (report_text s.options) (s.reports ++ rs)) none
    ∙ ap (flat_map (report_text s.options)) (append-nil s.reports)

later-lines : (s u : TrussState) → u.options ≡ s.options → (g : Grown s.reports u.reports)
    → report_lines u
    ≡ flat_map (report_text s.options) s.reports ++ flat_map (report_text s.options) (g.more ++ pending_at u u.stage)
unfolding report_lines all_reports
later-lines s u same g =
    ap (λ (o : Options). flat_map (report_text o) (u.reports ++ pending_at u u.stage)) same
    ∙ ap (λ (rs : List Report). flat_map (report_text s.options) (rs ++ pending_at u u.stage)) g.is
    ∙ ap (flat_map (report_text s.options)) (append_assoc s.reports g.more (pending_at u u.stage))
    ∙ flat_map-append (report_text s.options) s.reports (g.more ++ pending_at u u.stage)

begins : (xs : List Exchange) (s : TrussState) → s.options.count ≡ false → pending_at s s.stage ≡ []
    → BeginsWith (printed s) (printed (truss_after s xs))
begins xs s lines none =
    let u = truss_after s xs in
    let same = options-after xs s in
    let g = after-grown xs s in
    let more = flat_map (report_text s.options) (g.more ++ pending_at u u.stage) in
    record {
      more = more;
      is =
          printed-lines u (ap (λ (o : Options). o.count) same ∙ lines) ∙ later-lines s u same g
          ∙ ap (λ text. text ++ more) (sym (printed-lines s lines ∙ settled-lines s none));
    }

-- what is added to a list, and makes no other of it, is nothing
nothing-added : {A : Type 0} (xs ys : List A) → xs ++ ys ≡ xs → ys ≡ []
nothing-added xs [] is = refl
nothing-added xs (y ∷ ys) is =
    let both = length-append xs (y ∷ ys) in
    let same : length (xs ++ y ∷ ys) ≡ length xs = ap length is in
    absurd (omega (arith, both, same))

nothing-pending : (s : TrussState) → all_reports s ≡ s.reports → pending_at s s.stage ≡ []
unfolding all_reports
nothing-pending s is = nothing-added s.reports (pending_at s s.stage) is

-- what is printed behind what was reported
reports-at : (o : Options) (s : TrussState) (stage : Stage) → StageTells o stage → next_call_of s ≡ call_of s stage
    → all_reports s ≡ s.reports ++ pending_at s stage → ReportsNoOther o s
unfolding call_of
reports-at o s (ReadingText place l from len) here due is =
    one_more (traced_at s place).pid l is (record {
      event = here.stands.event;
      tells = here.stands.tells;
      from = from;
      len = len;
      asks = here.asks;
      handle = number_of (traced_at s place).memory;
      due = due;
    })
reports-at o s _ here due is = all_told (is ∙ append-nil s.reports)

no-other : (o : Options) (s : TrussState) → Tells o s → ReportsNoOther o s
unfolding all_reports next_call_of
no-other o s t = reports-at o s s.stage t.stage refl refl

pub prints-what-it-reports : (o : Options) (xs : List Exchange) → PrintsWhatItReports o xs
prints-what-it-reports o xs = record {
  each = λ before after is.
      no-other o (truss_after (first_truss o) before) (after-tells o before (first_truss o) (first-tells o));
}

pub keeps-lines : (o : Options) (xs : List Exchange) → KeepsItsLines o xs
keeps-lines o xs = record {
  each = λ lines before after is none.
      let s = truss_after (first_truss o) before in
      let same : truss_after (first_truss o) xs ≡ truss_after s after =
      ap (truss_after (first_truss o)) is ∙ after-append (first_truss o) before after in
      let options = options-after before (first_truss o) ∙ (first-tells o).options in
      subst (λ (u : TrussState). BeginsWith (printed s) (printed u)) (sym same)
      (begins after s (ap (λ (p : Options). p.count) options ∙ lines) (nothing-pending s none));
}

-- ---- what stands in them

line-is : (o : Options) (r : Report) → report_text o r ≡ line_of o r
unfolding report_text
line-is o (report.CannotStart program errno) = refl
line-is o (report.CannotTrace pid errno) = refl
line-is o (report.Event pid l text) = refl
line-is o (report.Called pid lwp function arguments) = refl

lines-are : (o : Options) (rs : List Report) → flat_map (report_text o) rs ≡ flat_map (line_of o) rs
lines-are o [] = refl
lines-are o (r ∷ rs) =
    ap (λ line. line ++ flat_map (report_text o) rs) (line-is o r) ∙ ap (λ lines. line_of o r ++ lines) (lines-are o rs)

told-lines : (s : TrussState) → report_lines s ≡ flat_map (line_of s.options) (all_reports s)
unfolding report_lines
told-lines s = lines-are s.options (all_reports s)

pub prints-reports : (o : Options) (xs : List Exchange) → PrintsItsReports o xs
prints-reports o xs = record {
  is = λ lines.
      let s = truss_after (first_truss o) xs in
      let same = options-after xs (first_truss o) ∙ (first-tells o).options in
      printed-lines s (ap (λ (p : Options). p.count) same ∙ lines) ∙ told-lines s
      ∙ ap (λ (p : Options). flat_map (line_of p) (all_reports s)) same;
}
