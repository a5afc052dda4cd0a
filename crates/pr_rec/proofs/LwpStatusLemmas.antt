-- The record of an lwp's status.
use Rattle.std.proofs.Common.{◌+◌, take, drop, ◌≡◌, ◌↔◌, ◌^◌, ◌<◌, ℕ, List, [], ◌∷◌, length, get_or, All, Option, Result, Ok, Err, IfOk, IfErr, sym, ap, subst, ◌∙◌, arith}
use Rattle.std.proofs.lemmas.Bool.{lt-ltb, ltb-true}
use Rattle.std.proofs.lemmas.List.Elements.{All-take, All-drop, All-get_or}
use Rattle.pr_num.specs.Limits.{signal_count}
use Rattle.pr_num.specs.Words.{IsByte, IsWord}
use Rattle.pr_num.specs.Records.{lwpstatus_ranges, lwpstatus_word_count}
use Rattle.pr_num.specs.declared.infos.Info.{Info}
use Rattle.pr_num.specs.declared.errnos.Errno.{Errno}
use Rattle.pr_num.specs.declared.faults.Flt.{Flt}
use Rattle.pr_num.specs.declared.signals.Sig.{Sig}
use Rattle.pr_num.specs.declared.stop_reasons.StopReason.{StopReason}
use Rattle.pr_num.specs.declared.syscalls.Sysno.{Sysno}
use Rattle.pr_rec.proofs.FieldLemmas.{same_reason, reason_small, same_signal, signal_small, same_fault, fault_small, same_call, call_small, same_errno, an_errno-field, errno-word, same_disposition, disposition_small}
use Rattle.pr_rec.proofs.RecordLemmas.{AreRanged, AreRanged-at, TakeWords, elements_of, decoded, below-word, any-word, word-any, element-word}
use Rattle.pr_rec.specs.InRange.{HasArraySizes, HasLwpStatusFields, IsInfo, IsLwpStatus}
use Rattle.pr_rec.specs.Reading.{BeginsWith, record_read}
use Rattle.pr_rec.specs.RecordWords.{lwpstatus_words_of}
use Rattle.pr_rec.specs.declared.faults.RecFault.{RecFault}
use Rattle.pr_rec.specs.declared.lwps.Disposition.{Disposition}
use Rattle.pr_rec.specs.declared.lwps.LwpStatus.{LwpStatus}

-- fields in their ranges are words in theirs
pub lwpstatus-ranged : (l : LwpStatus) → IsLwpStatus l → AreRanged lwpstatus_ranges (lwpstatus_words_of l)
lwpstatus-ranged l h = (
  lt-ltb _ _ h.flags,
  (
    lt-ltb _ _ h.id,
    (
      lt-ltb _ _ (reason_small l.why),
      (
        lt-ltb _ _ h.what,
        (
          lt-ltb _ _ (signal_small l.signal),
          (
            lt-ltb _ _ (fault_small l.fault),
            (
              word-any _ h.fault_address,
              (
                lt-ltb _ _ (call_small l.call),
                (
                  element-word l.arguments h.arguments 0,
                  (
                    element-word l.arguments h.arguments 1,
                    (
                      element-word l.arguments h.arguments 2,
                      (
                        element-word l.arguments h.arguments 3,
                        (
                          element-word l.arguments h.arguments 4,
                          (
                            element-word l.arguments h.arguments 5,
                            (
                              word-any _ h.result,
                              (
                                an_errno-field l.errno,
                                (
                                  lt-ltb _ _ h.held,
                                  (
                                    lt-ltb _ _ h.pending,
                                    (
                                      element-word l.regs h.regs 0,
                                      (
                                        element-word l.regs h.regs 1,
                                        (
                                          element-word l.regs h.regs 2,
                                          (
                                            element-word l.regs h.regs 3,
                                            (
                                              element-word l.regs h.regs 4,
                                              (
                                                element-word l.regs h.regs 5,
                                                (
                                                  element-word l.regs h.regs 6,
                                                  (
                                                    element-word l.regs h.regs 7,
                                                    (
                                                      element-word l.regs h.regs 8,
                                                      (
                                                        element-word l.regs h.regs 9,
                                                        (
                                                          element-word l.regs h.regs 10,
                                                          (
                                                            lt-ltb _ _ (disposition_small l.disposition),
                                                            (
                                                              lt-ltb _ _ h.info.code,
                                                              (lt-ltb _ _ h.info.pid, (word-any _ h.info_value, tt)),
                                                            ),
                                                          ),
                                                        ),
                                                      ),
                                                    ),
                                                  ),
                                                ),
                                              ),
                                            ),
                                          ),
                                        ),
                                      ),
                                    ),
                                  ),
                                ),
                              ),
                            ),
                          ),
                        ),
                      ),
                    ),
                  ),
                ),
              ),
            ),
          ),
        ),
      ),
    ),
  ),
)

-- what the types of its fields and its words tell of it
pub lwpstatus-typed : (l : LwpStatus) → HasArraySizes l → l.flags < 2 ^ 6 → l.id < 2 ^ 32 → l.what < signal_count + 1
    → l.held < 2 ^ signal_count → l.pending < 2 ^ signal_count → All IsWord (lwpstatus_words_of l) → IsInfo l.info
    → IsLwpStatus l
lwpstatus-typed l sizes flags id what held pending fit info =
    let words : List ℕ = lwpstatus_words_of l in
    record {
      flags = flags;
      id = id;
      what = what;
      fault_address = All-get_or IsWord words 6 0 (omega arith) fit;
      arguments =
          subst (All IsWord) (elements_of 6 l.arguments sizes.arguments)
          (All-take IsWord 6 (drop 8 words) (All-drop IsWord 8 words fit));
      result = All-get_or IsWord words 14 0 (omega arith) fit;
      held = held;
      pending = pending;
      regs = subst (All IsWord) (elements_of 11 l.regs sizes.regs)
          (All-take IsWord 11 (drop 18 words) (All-drop IsWord 18 words fit));
      info = info;
      info_value = All-get_or IsWord words 32 0 (omega arith) fit;
      sizes = sizes;
    }

-- 33 words of which some are known in another way
pub lwpstatus_elements : (ws : List ℕ) (flags why what signal fault call errno held pending disposition : ℕ)
    → length ws ≡ lwpstatus_word_count → flags ≡ get_or ws 0 0 → why ≡ get_or ws 2 0 → what ≡ get_or ws 3 0
    → signal ≡ get_or ws 4 0 → fault ≡ get_or ws 5 0 → call ≡ get_or ws 7 0 → errno ≡ get_or ws 15 0
    → held ≡ get_or ws 16 0 → pending ≡ get_or ws 17 0 → disposition ≡ get_or ws 29 0
    → flags ∷ get_or ws 1 0 ∷ why ∷ what ∷ signal ∷ fault ∷ get_or ws 6 0 ∷ call ∷ get_or ws 8 0 ∷ get_or ws 9 0
    ∷ get_or ws 10 0 ∷ get_or ws 11 0 ∷ get_or ws 12 0 ∷ get_or ws 13 0 ∷ get_or ws 14 0 ∷ errno ∷ held ∷ pending
    ∷ get_or ws 18 0 ∷ get_or ws 19 0 ∷ get_or ws 20 0 ∷ get_or ws 21 0 ∷ get_or ws 22 0 ∷ get_or ws 23 0
    ∷ get_or ws 24 0 ∷ get_or ws 25 0 ∷ get_or ws 26 0 ∷ get_or ws 27 0 ∷ get_or ws 28 0 ∷ disposition ∷ get_or ws 30 0
    ∷ get_or ws 31 0 ∷ get_or ws 32 0 ∷ [] ≡ ws
lwpstatus_elements ws flags why what signal fault call errno held pending disposition size flags_is why_is what_is
    signal_is fault_is call_is errno_is held_is pending_is disposition_is =
    rw (flags_is, why_is, what_is, signal_is, fault_is, call_is, errno_is, held_is, pending_is, disposition_is)
    (elements_of lwpstatus_word_count ws size)

pub lwpstatus_take : TakeWords lwpstatus_ranges
lwpstatus_take = (
  below-word _ (omega arith),
  (
    below-word _ (omega arith),
    (
      below-word _ (omega arith),
      (
        below-word _ (omega arith),
        (
          below-word _ (omega arith),
          (
            below-word _ (omega arith),
            (
              any-word,
              (
                below-word _ (omega arith),
                (
                  any-word,
                  (
                    any-word,
                    (
                      any-word,
                      (
                        any-word,
                        (
                          any-word,
                          (
                            any-word,
                            (
                              any-word,
                              (
                                errno-word,
                                (
                                  below-word _ (omega arith),
                                  (
                                    below-word _ (omega arith),
                                    (
                                      any-word,
                                      (
                                        any-word,
                                        (
                                          any-word,
                                          (
                                            any-word,
                                            (
                                              any-word,
                                              (
                                                any-word,
                                                (
                                                  any-word,
                                                  (
                                                    any-word,
                                                    (
                                                      any-word,
                                                      (
                                                        any-word,
                                                        (
                                                          any-word,
                                                          (
                                                            below-word _ (omega arith),
                                                            (
                                                              below-word _ (omega arith),
                                                              (below-word _ (omega arith), (any-word, tt)),
                                                            ),
                                                          ),
                                                        ),
                                                      ),
                                                    ),
                                                  ),
                                                ),
                                              ),
                                            ),
                                          ),
                                        ),
                                      ),
                                    ),
                                  ),
                                ),
                              ),
                            ),
                          ),
                        ),
                      ),
                    ),
                  ),
                ),
              ),
            ),
          ),
        ),
      ),
    ),
  ),
)

-- words that are in their ranges have fields that are in theirs
pub lwpstatus_fields : (ws : List ℕ) → length ws ≡ lwpstatus_word_count → AreRanged lwpstatus_ranges ws
    → HasLwpStatusFields ws
lwpstatus_fields ws size ranged = record {
  size = size;
  flags = ltb-true _ _ (AreRanged-at lwpstatus_ranges ws 0 ranged);
  id = ltb-true _ _ (AreRanged-at lwpstatus_ranges ws 1 ranged);
  why = ltb-true _ _ (AreRanged-at lwpstatus_ranges ws 2 ranged);
  what = ltb-true _ _ (AreRanged-at lwpstatus_ranges ws 3 ranged);
  signal = ltb-true _ _ (AreRanged-at lwpstatus_ranges ws 4 ranged);
  fault = ltb-true _ _ (AreRanged-at lwpstatus_ranges ws 5 ranged);
  call = ltb-true _ _ (AreRanged-at lwpstatus_ranges ws 7 ranged);
  errno = AreRanged-at lwpstatus_ranges ws 15 ranged;
  held = ltb-true _ _ (AreRanged-at lwpstatus_ranges ws 16 ranged);
  pending = ltb-true _ _ (AreRanged-at lwpstatus_ranges ws 17 ranged);
  disposition = ltb-true _ _ (AreRanged-at lwpstatus_ranges ws 29 ranged);
}

-- information of its words
same_info : (i j : Info) → i.code ≡ j.code → i.pid ≡ j.pid → i.value ≡ j.value → i ≡ j
same_info i j code pid value = by (λ code pid value. record { code = code; pid = pid; value = value })
  where
    by : (f : ℕ → ℕ → ℕ → Info) → f i.code i.pid i.value ≡ f j.code j.pid j.value
    by f = cc

-- two with the same words are the same
pub same_lwpstatus : (x y : LwpStatus) → HasArraySizes x → HasArraySizes y → lwpstatus_words_of x ≡ lwpstatus_words_of y
    → x ≡ y
same_lwpstatus x y x_sizes y_sizes e =
    let why : x.why ≡ y.why = same_reason x.why y.why (ap (λ ws. get_or ws 2 0) e) in
    let signal : x.signal ≡ y.signal = same_signal x.signal y.signal (ap (λ ws. get_or ws 4 0) e) in
    let fault : x.fault ≡ y.fault = same_fault x.fault y.fault (ap (λ ws. get_or ws 5 0) e) in
    let call : x.call ≡ y.call = same_call x.call y.call (ap (λ ws. get_or ws 7 0) e) in
    let arguments : x.arguments ≡ y.arguments =
    sym (elements_of 6 x.arguments x_sizes.arguments) ∙ ap (λ ws. take 6 (drop 8 ws)) e
    ∙ elements_of 6 y.arguments y_sizes.arguments in
    let errno : x.errno ≡ y.errno = same_errno x.errno y.errno (ap (λ ws. get_or ws 15 0) e) in
    let regs : x.regs ≡ y.regs =
    sym (elements_of 11 x.regs x_sizes.regs) ∙ ap (λ ws. take 11 (drop 18 ws)) e ∙ elements_of 11 y.regs y_sizes.regs in
    let disposition : x.disposition ≡ y.disposition =
    same_disposition x.disposition y.disposition (ap (λ ws. get_or ws 29 0) e) in
    let info : x.info ≡ y.info =
    same_info x.info y.info (ap (λ ws. get_or ws 30 0) e) (ap (λ ws. get_or ws 31 0) e)
    (ap (λ ws. get_or ws 32 0) e) in
    by (λ flags id why what signal fault fault_address call arguments result errno held pending regs disposition info.
    record {
      flags = flags;
      id = id;
      why = why;
      what = what;
      signal = signal;
      fault = fault;
      fault_address =
          fault_address;
      call = call;
      arguments = arguments;
      result = result;
      errno = errno;
      held = held;
      pending =
          pending;
      regs = regs;
      disposition = disposition;
      info = info;
    })
    (ap (λ ws. get_or ws 0 0) e) (ap (λ ws. get_or ws 1 0) e) why (ap (λ ws. get_or ws 3 0) e) signal fault
    (ap (λ ws. get_or ws 6 0) e) call arguments (ap (λ ws. get_or ws 14 0) e) errno (ap (λ ws. get_or ws 16 0) e)
    (ap (λ ws. get_or ws 17 0) e) regs disposition info
  where
    by : (f : ℕ → ℕ → Option StopReason → ℕ → Option Sig → Option Flt → ℕ → Option Sysno → List ℕ → ℕ → Option Errno → ℕ
        → ℕ → List ℕ → Disposition → Info → LwpStatus)
        → x.flags ≡ y.flags → x.id ≡ y.id → x.why ≡ y.why → x.what ≡ y.what → x.signal ≡ y.signal → x.fault ≡ y.fault
        → x.fault_address ≡ y.fault_address → x.call ≡ y.call → x.arguments ≡ y.arguments → x.result ≡ y.result
        → x.errno ≡ y.errno → x.held ≡ y.held → x.pending ≡ y.pending → x.regs ≡ y.regs
        → x.disposition ≡ y.disposition → x.info ≡ y.info
        → f x.flags x.id x.why x.what x.signal x.fault x.fault_address x.call x.arguments x.result x.errno x.held
        x.pending x.regs x.disposition x.info
        ≡ f y.flags y.id y.why y.what y.signal y.fault y.fault_address y.call y.arguments y.result y.errno y.held
        y.pending y.regs y.disposition y.info
    by f flags id why what signal fault fault_address call arguments result errno held pending regs disposition
        info = cc

-- it is decoded exactly where the bytes begin with it
pub lwpstatus-decoded : (bytes : List ℕ) (r : Result LwpStatus RecFault) → All IsByte bytes
    → IfOk r (λ x. record_read lwpstatus_ranges bytes ≡ Ok (lwpstatus_words_of x))
    → IfErr r (λ fault. record_read lwpstatus_ranges bytes ≡ Err fault) → IfOk r (λ x. HasArraySizes x)
    → (x : LwpStatus) → (r ≡ Ok x) ↔ (HasArraySizes x × BeginsWith lwpstatus_ranges bytes (lwpstatus_words_of x))
lwpstatus-decoded bytes r small read bad sizes x =
    decoded lwpstatus_ranges lwpstatus_take bytes lwpstatus_words_of
    (λ x. HasArraySizes x) same_lwpstatus small r read bad sizes x
