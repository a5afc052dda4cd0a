-- That the memory which truss with calls of functions reads for a line is that of the moment of its event.
use Rattle.std.specs.Prelude.{◌≡◌, ◌++◌, ℕ, List, [], ◌∷◌, None, Some}
use Rattle.pr_line.specs.TextRanges.{text_range}
use Rattle.pr_line.specs.declared.options.Options.{Options}
use Rattle.pr_model.specs.Legal.{state_after}
use Rattle.pr_model.specs.Reads.{file_read}
use Rattle.pr_model.specs.State.{TracedProcess, TracedState, live_process}
use Rattle.pr_model.specs.declared.calls.Call.TheVariants.{Read}
use Rattle.pr_model.specs.declared.calls.File.TheVariants.{Mem}
use Rattle.pr_model.specs.declared.calls.Reply.{Reply}
use Rattle.pr_model.specs.declared.events.Entry.{Entry}
use Rattle.pr_report_laws.specs.Attachments.{HasFile}
use Rattle.pr_report_laws.specs.Shown.{LwpEvent}
use Rattle.pr_truss.specs.Trusses.{traced_at}
use Rattle.pr_truss_laws.specs.Exchanges.{exchange_of, exchanges}
use Rattle.pr_function_laws.specs.EventsRead.{ComesAndIsRead}
use Rattle.pr_function_laws.specs.Opened.{functions_at}

-- In an entry truss reads the memory file of a process.
pub record ReadsMemoryIn (k pid : ℕ) (s : TracedState) (e : Entry) : Type 0 where
  pub handle : ℕ
  pub from : ℕ
  pub len : ℕ
  pub reply : Reply
  pub is : exchange_of k e ≡ Some (record { call = Read handle from len; reply = reply })
  pub has : HasFile k pid Mem handle s

-- In two states a process has lent its memory to nobody, and it is the same; so what is read of it is the same.
pub record HasSameMemory (pid : ℕ) (s u : TracedState) (p q : TracedProcess) : Type 0 where
  pub before : p.borrower ≡ None
  pub now : q.borrower ≡ None
  pub same : q.space ≡ p.space
  pub reads : (from len : ℕ) → file_read u.system pid 0 from len Mem ≡ file_read s.system pid 0 from len Mem

-- An event came whose line asks for memory, and the next read of its process tells of it, as in ComesAndIsRead: then
-- the process has in the state of that read the memory that it had right after the event. So it has in the state in
-- which truss reads its memory next, if the process lives. Truss calls nothing between the read of an event and that of
-- the memory for its line, as ReadsAtOnceOf says.
pub record MemoriesStand (k : ℕ) (o : Options) (first : TracedState) (h : List Entry) : Type 0 where
  pub read : (front between later : List Entry) (e again : Entry) (place : ℕ) (event : LwpEvent) (range : ℕ × ℕ)
      (p q : TracedProcess) → h ≡ front ++ e ∷ (between ++ again ∷ later)
      → ComesAndIsRead k o first front e between again place event → text_range event.event ≡ Some range
      → live_process (state_after first (front ++ e ∷ [])).system (traced_at (functions_at k o front) place).pid
      ≡ Some p
      → live_process (state_after first (front ++ e ∷ between)).system (traced_at (functions_at k o front) place).pid
      ≡ Some q
      → HasSameMemory (traced_at (functions_at k o front) place).pid (state_after first (front ++ e ∷ []))
      (state_after first (front ++ e ∷ between)) p q
  pub line : (front between middle later : List Entry) (e again reads : Entry) (place : ℕ) (event : LwpEvent)
      (range : ℕ × ℕ) (p q : TracedProcess) → h ≡ front ++ e ∷ (between ++ again ∷ (middle ++ reads ∷ later))
      → ComesAndIsRead k o first front e between again place event → text_range event.event ≡ Some range
      → exchanges k middle ≡ []
      → ReadsMemoryIn k (traced_at (functions_at k o front) place).pid
      (state_after first ((front ++ e ∷ between) ++ again ∷ middle)) reads
      → live_process (state_after first (front ++ e ∷ [])).system (traced_at (functions_at k o front) place).pid
      ≡ Some p
      → live_process (state_after first ((front ++ e ∷ between) ++ again ∷ middle)).system
      (traced_at (functions_at k o front) place).pid ≡ Some q
      → HasSameMemory (traced_at (functions_at k o front) place).pid (state_after first (front ++ e ∷ []))
      (state_after first ((front ++ e ∷ between) ++ again ∷ middle)) p q
