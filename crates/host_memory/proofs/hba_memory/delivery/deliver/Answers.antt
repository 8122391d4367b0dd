-- The data, and then what their end leaves to be told.
use Rattle.std.proofs.Common.{◌++◌, ◌&&◌, ◌||◌, ◌∙◌, Bool, refl, ap}
use Rattle.host_memory.specs.Memory.{takes_data}
use Rattle.host_memory.specs.declared.hba_memory.reading.Moved.{Moved}
use Rattle.host_memory.proofs.Accesses.{accessed_append}
use Rattle.host_memory.specs.Access.{IsAccess}
use Rattle.host_memory.proofs.hba_memory.delivery.deliver.Goals as goal

pub returns : goal.returns
returns g c =
    let s = rw c.descriptors.ensures.value at c.scatter-lost.ensures.talk in
    let laid = ap (λ (m : Moved). m.len) s.3 in
    let told = ap (λ (m : Moved). m.is_processed) s.3 in
    let e = rw (c.ending.ensures, c.data_taken.ensures.value, laid) at c.end-missed.ensures in (
      s.0 ++ e.0,
      accessed_append (IsAccess c.args.width g.M.HostMemory.does) c.args.memory.now c.scatter-lost.new.memory c.end-missed.new.memory s.0 e.0 s.1 e.1,
      (s.0, e.0, c.scatter-lost.result.1, refl, s.2, c.runs_short.ensures, c.is_processed-is_processed.ensures ∙ ap (λ (b : Bool). takes_data c.args.fises.now && c.args.brought.is_processed || b) told, e.2),
    )
