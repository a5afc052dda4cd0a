use Rattle.std.specs.Prelude.{ℕ, Bool, true, false, List, [], ◌∷◌, ◌++◌, Option, Some, None, Result, Ok, Err, is_some}
use Rattle.pr_num.specs.Spaces.{Space}
use Rattle.pr_num.specs.Words.{word_bytes}
use Rattle.pr_num.specs.declared.mappings.BadByte.{BadByte}
use Rattle.pr_parts.specs.AddressSpaces.{with_bytes}
use Rattle.pr_model.specs.InstructionEffects.{InstructionEffect, runs, calls, faults, runs_into_watch, loaded, a_word, a_byte, a_frame, faults_itself, enters_call, leaves, loads, stores}
use Rattle.pr_model.specs.InstructionEffects as model
use Rattle.pr_lwp.specs.declared.decoding.Decoded.{Decoded}
use Rattle.pr_lwp.specs.declared.decoding.Decoded.TheVariants.{FaultsItself, EntersCall, Leaves, Loads, Stores}
use Rattle.pr_lwp.specs.declared.decoding.Load.{Load}
use Rattle.pr_lwp.specs.declared.decoding.Load.TheVariants as load
use Rattle.pr_lwp.specs.declared.decoding.Store.{Store}
use Rattle.pr_lwp.specs.declared.decoding.Stored.{Stored}
use Rattle.pr_lwp.specs.declared.decoding.Stored.TheVariants as stored
use Rattle.pr_lwp.specs.declared.executing.Outcome.{Outcome}
use Rattle.pr_lwp.specs.declared.executing.Outcome.TheVariants.{Runs, Calls, Faults, RunsIntoWatch}

-- What the crate's own types say, in the words of the definitions.

abbrev pub stored_bytes : Stored → List ℕ
stored_bytes (stored.Byte b) = b ∷ []
stored_bytes (stored.Word w) = word_bytes w
stored_bytes (stored.Frame fp pc) = word_bytes fp ++ word_bytes pc

abbrev pub store_of : Store → model.Store
store_of s = record { at = s.at; bytes = stored_bytes s.bytes }

abbrev pub load_of : Load → model.Load
load_of (load.Word to) = a_word to
load_of (load.Byte to) = a_byte to
load_of load.Frame = a_frame

-- how many bytes are read
abbrev pub size_of : Load → ℕ
size_of (load.Word to) = 8
size_of (load.Byte to) = 1
size_of load.Frame = 16

-- a decoded instruction, where the registers are these now
abbrev pub decoded_of : Decoded → List ℕ → model.Decoded
decoded_of (FaultsItself f) regs = faults_itself f
decoded_of (EntersCall call) regs = enters_call call
decoded_of Leaves regs = leaves regs
decoded_of (Loads load at) regs = loads (load_of load) at (size_of load)
decoded_of (Stores stack new store) regs = stores stack new (store_of store)

-- whether one leaves registers and does not touch memory
abbrev pub leaves_registers : Decoded → Bool
leaves_registers Leaves = true
leaves_registers _ = false

-- the registers after a read, or the first byte that cannot be read
abbrev pub loaded_from : model.Load → List ℕ → Result (List ℕ) BadByte → Result (List ℕ) BadByte
loaded_from load regs (Err bad) = Err bad
loaded_from load regs (Ok bytes) = Ok (loaded load regs bytes)

-- what an instruction came to
abbrev pub outcome_of : InstructionEffect → Outcome
outcome_of (runs regs store) = Runs regs
outcome_of (calls call regs) = Calls call regs
outcome_of (faults f address) = Faults f address
outcome_of (runs_into_watch address regs store) = RunsIntoWatch address regs

-- what an instruction came to; of nothing: it ran and left the registers as they are now
abbrev pub came_to : Option Outcome → List ℕ → Outcome
came_to None regs = Runs regs
came_to (Some outcome) regs = outcome

-- whether that is a fault, which leaves the registers as they were
abbrev pub tells_fault : Option Outcome → Bool
tells_fault (Some (Faults f address)) = true
tells_fault _ = false

-- memory after a store, if there is one
abbrev pub with_store : Option model.Store → Space → Space
with_store None space = space
with_store (Some store) space = with_bytes store.at store.bytes space

abbrev pub space_after : InstructionEffect → Space → Space
space_after (runs regs store) space = with_store store space
space_after (calls call regs) space = space
space_after (faults f address) space = space
space_after (runs_into_watch address regs store) space = with_store store space

-- whether an instruction stores bytes in memory
abbrev pub stores_bytes : InstructionEffect → Bool
stores_bytes (runs regs store) = is_some store
stores_bytes (calls call regs) = false
stores_bytes (faults f address) = false
stores_bytes (runs_into_watch address regs store) = is_some store
