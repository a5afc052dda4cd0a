use Rattle.std.specs.Prelude.{None, replicate}
use Rattle.pr_rec.specs.declared.lwps.Disposition.TheVariants.{Default}
use Rattle.pr_rec.specs.declared.lwps.LwpStatus.{LwpStatus}

-- What the status of a process without lwps says of its representative: zeros alone.
unfoldable pub no_lwp : LwpStatus
no_lwp = record {
  flags = 0;
  id = 0;
  why = None;
  what = 0;
  signal = None;
  fault = None;
  fault_address = 0;
  call = None;
  arguments = replicate 6 0;
  result = 0;
  errno = None;
  held = 0;
  pending = 0;
  regs = replicate 11 0;
  disposition = Default;
  info = record { code = 0; pid = 0; value = 0 };
}
