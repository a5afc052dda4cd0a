use Rattle.pr_parts.proofs.WriteLemmas.{byte_for-with_bytes, bytes_for-with_bytes}
use Rattle.pr_mem.proofs.laws.what_is_written_is_read.Goals as goal

pub returns : goal.returns
returns c = record { bytes = byte_for-with_bytes; read_back = bytes_for-with_bytes }
