-- What a controller did in a turn, as numbers.
use Rattle.std.specs.Prelude.{ℕ, false, is_some, Option, Some, None, Result, Ok, Err}
use Rattle.library_calls.specs.declared.byte_calls.error.CallError.{CallError}
use Rattle.library_calls.specs.declared.byte_calls.error.CallError.TheVariants.{OutOfMemory}
use Rattle.library_calls.specs.Refusals.{done_code, code_of_call}
use Rattle.hba.specs.declared.work.Work.{Work}
use Rattle.hba.specs.declared.work.Work.TheVariants as works
use Rattle.hba.specs.declared.work.Done.{Done}
use Rattle.hba.specs.declared.work.Done.TheVariants as dones
use Rattle.hba.specs.declared.work.MemoryFault.{MemoryFault}
use Rattle.hba.specs.declared.work.MemoryFault.TheVariants as faults
use Rattle.hba.specs.declared.work.Turned.{Turned}
use Rattle.library_calls.specs.declared.hba_calls.worked.Worked.{Worked}

abbrev pub work_number : Work → ℕ
work_number works.Signature = 1
work_number (works.Fetch tag) = 2
work_number (works.Complete tag) = 3

abbrev pub worked_tag : Work → ℕ
worked_tag works.Signature = 0
worked_tag (works.Fetch tag) = tag
worked_tag (works.Complete tag) = tag

abbrev pub fault_number : MemoryFault → ℕ
fault_number faults.List = 3
fault_number faults.Table = 4
fault_number faults.Data = 5
fault_number faults.Fis = 6

abbrev pub done_number : Done → ℕ
done_number dones.Posted = 0
done_number dones.Served = 1
done_number dones.Control = 2
done_number (dones.Fault fault) = fault_number fault

abbrev pub idle_worked : Worked
idle_worked = record {
  code = done_code;
  work = 0;
  tag = 0;
  done = 0;
  denied = false;
}

abbrev pub refused_worked : CallError → Worked
refused_worked error = record idle_worked { code = code_of_call error }

abbrev pub worked_numbers : Turned → Worked
worked_numbers turned = record {
  code = done_code;
  work = work_number turned.work;
  tag = worked_tag turned.work;
  done = done_number turned.done;
  denied = is_some turned.denied;
}

abbrev pub told_worked : {E : Type 0} → Result (Option Turned) E → Worked
told_worked (Ok (Some turned)) = worked_numbers turned
told_worked (Ok None) = idle_worked
told_worked (Err error) = refused_worked OutOfMemory
