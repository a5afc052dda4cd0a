use Rattle.std.proofs.Common.{◌≡◌, ◌++◌, ℕ, Option, Some, List, [], ◌∷◌, refl, sym, subst, ap, ◌∙◌, append_assoc}
use Rattle.std.specs.List.{cons_option}
use Rattle.pr_line.specs.declared.options.Options.{Options}
use Rattle.pr_model.specs.Replies.{handle_in, until_in}
use Rattle.pr_model.specs.declared.calls.Call.{Call}
use Rattle.pr_model.specs.declared.calls.Call.TheVariants as call
use Rattle.pr_model.specs.declared.events.Entry.{Entry}
use Rattle.pr_num.specs.Messages.{spelling}
use Rattle.pr_num.specs.declared.messages.Message.TheVariants as message
use Rattle.pr_truss_laws.specs.Exchanges.{Exchange, calls_in, exchange_of, exchanges}
use Rattle.pr_truss_laws.specs.Given.{IsWholeOpening, calls_with, opening_calls, reply_at}
use Rattle.pr_report_laws.proofs.Files.WatchHistories.{exchanges-push}
use Rattle.pr_report_laws.proofs.FollowedChildren.FollowCalm.{tail-same}
use Rattle.pr_report_laws.proofs.Watching.ChildPlaces.{push-same}
use Rattle.pr_report_laws.proofs.Watching.ExchangeEntries.{entry-of}
use Rattle.pr_report_laws.proofs.Watching.OnceLaws.{has-last}
use Rattle.pr_report_laws.proofs.Watching.WaitPlaces.{calls_before, calls_behind, stop_wait}
use Rattle.pr_report_laws.specs.Attachments.{HasOpened}
use Rattle.pr_report_laws.specs.Grips.{HasItsWait}

-- The wait among the calls of an opening, and its entry.

-- the exchange of a call that stands among those of these exchanges
record HasCallAt (front : List Call) (c : Call) (rest : List Call) (xs : List Exchange) : Type 0 where
  begun : List Exchange
  here : Exchange
  more : List Exchange
  is : xs ≡ begun ++ here ∷ more
  call : here.call ≡ c
  others : calls_in more ≡ rest

-- one exchange before them
call-behind : (d : Call) (front : List Call) (c : Call) (rest : List Call) (x : Exchange) (xs : List Exchange)
    → HasCallAt front c rest xs → HasCallAt (d ∷ front) c rest (x ∷ xs)
call-behind d front c rest x xs w = record {
  begun = x ∷ w.begun;
  here = w.here;
  more = w.more;
  is = ap (λ (ys : List Exchange). x ∷ ys) w.is;
  call = w.call;
  others = w.others;
}

call-at : (front : List Call) (c : Call) (rest : List Call) (xs : List Exchange) → calls_in xs ≡ front ++ c ∷ rest
    → HasCallAt front c rest xs
call-at [] c rest [] is = cc
call-at [] c rest (x ∷ xs) is = record { begun = []; here = x; more = xs; is = refl; call = cc; others = cc }
call-at (d ∷ front) c rest [] is = cc
call-at (d ∷ front) c rest (x ∷ xs) is = call-behind d front c rest x xs (call-at front c rest xs (tail-same is))

record HasWaitIn (xs : List Exchange) : Type 0 where
  begun : List Exchange
  wait : Exchange
  mid : List Exchange
  last : Exchange
  handle : ℕ
  until : ℕ
  bytes : List ℕ
  is : xs ≡ begun ++ wait ∷ (mid ++ last ∷ [])
  call : wait.call ≡ call.CtlWait handle until bytes

-- calls come after it
with-last : (xs begun more : List Exchange) (wait : Exchange) (handle until : ℕ) (bytes : List ℕ) (c : Call)
    (rest : List Call) → xs ≡ begun ++ wait ∷ more → wait.call ≡ call.CtlWait handle until bytes
    → calls_in more ≡ c ∷ rest → HasWaitIn xs
with-last xs begun [] wait handle until bytes c rest is waits others = cc
with-last xs begun (m ∷ more) wait handle until bytes c rest is waits others =
    let l = has-last m more in
    record {
      begun = begun;
      wait = wait;
      mid = l.front;
      last = l.last;
      handle = handle;
      until = until;
      bytes = bytes;
      is = is ∙ ap (λ (ys : List Exchange). begun ++ wait ∷ ys) l.is;
      call = waits;
    }

wait-in : (o : Options) (pid control lstatus until : ℕ) (xs : List Exchange)
    → calls_in xs ≡ calls_with o pid control lstatus until → HasWaitIn xs
wait-in o pid control lstatus until xs is =
    let w =
    call-at (calls_before pid control) (stop_wait control until) (calls_behind o control lstatus) xs is in
    with-last xs w.begun w.more w.here control until (spelling message.Stop []) _ _ w.is w.call w.others

whole-waits : (o : Options) (pid : ℕ) (xs : List Exchange) → IsWholeOpening o pid xs → HasWaitIn xs
unfolding opening_calls
whole-waits o pid xs whole =
    wait-in o pid (handle_in (reply_at xs 0)) (handle_in (reply_at xs 2)) (until_in (reply_at xs 6)) xs whole.calls

last-same : (xs ys : List Exchange) (x y : Exchange) → xs ≡ ys → xs ++ x ∷ [] ≡ ys ++ y ∷ [] → x ≡ y
last-same xs ys x y same is = by xs (is ∙ ap (λ (zs : List Exchange). zs ++ y ∷ []) (sym same))
  where
    by : (zs : List Exchange) → zs ++ x ∷ [] ≡ zs ++ y ∷ [] → x ≡ y
    by [] e = cc
    by (z ∷ zs) e = by zs (tail-same e)

pub opening-waits : (k : ℕ) (o : Options) (pid : ℕ) (before : List Entry) (e : Entry) (last : Exchange)
    → exchange_of k e ≡ Some last → HasOpened k o pid (before ++ e ∷ []) → HasItsWait k o pid before e
opening-waits k o pid before e last own h =
    let w = whole-waits o pid h.opening h.whole in
    let front : List Exchange = h.earlier ++ w.begun in
    let past : exchanges k before ++ last ∷ [] ≡ (front ++ w.wait ∷ w.mid) ++ w.last ∷ [] =
    sym (exchanges-push k before e
    ∙ ap (λ (y : Option Exchange). exchanges k before ++ cons_option y []) own)
    ∙ h.is ∙ ap (λ (ys : List Exchange). h.earlier ++ ys) w.is
    ∙ sym (append_assoc h.earlier w.begun (w.wait ∷ (w.mid ++ w.last ∷ [])))
    ∙ sym (append_assoc front (w.wait ∷ w.mid) (w.last ∷ [])) in
    let earlier : exchanges k before ≡ front ++ w.wait ∷ w.mid =
    push-same (exchanges k before) (front ++ w.wait ∷ w.mid) last w.last past in
    let same : last ≡ w.last = last-same (exchanges k before) (front ++ w.wait ∷ w.mid) last w.last earlier past in
    let it = entry-of k before front w.wait w.mid earlier in
    record {
      front = it.before;
      waiting = it.entry;
      between = it.later;
      is = it.is;
      opened = record {
        earlier = h.earlier;
        begun = w.begun;
        wait = w.wait;
        run = w.last;
        handle = w.handle;
        until = w.until;
        bytes = w.bytes;
        is = it.earlier;
        waits = it.own;
        call = w.call;
        runs = own ∙ ap Some same;
        whole =
            subst (λ (ys : List Exchange). IsWholeOpening o pid (w.begun ++ w.wait ∷ (ys ++ w.last ∷ []))) (sym it.rest)
            (subst (IsWholeOpening o pid) w.is h.whole);
      };
    }
