-- Memory fails before the act, or the drive acts.
use Rattle.std.proofs.Common.{◌≡◌, ◌+◌, ◌/◌, List, map, length, Some, None, Ok, ap, sym, subst, arith}
use Rattle.history.specs.Answers.{payload_of}
use Rattle.history.specs.History.{Accept}
use Rattle.host_memory.proofs.hba_memory.Talks.{on_err}
use Rattle.hba.specs.declared.work.Done.{Done}
use Rattle.hba.specs.declared.work.Done.TheVariants as dones
use Rattle.hba.specs.Showing.{fault_of}
use Rattle.fis.specs.declared.any.Fis.{Fis}
use Rattle.hba.specs.History.{Opened, Operation, Fetched, AgreesHba, account, drive_effect, effect_after}
use Rattle.drive.specs.Answers.{fises_in}
use Rattle.hba.specs.Blocks.{block_size, of_last_block}
use Rattle.hba.specs.Engine.{Executes, IsEffect}
use Rattle.hba.proofs.Shown.{told_effect}
use Rattle.hba.proofs.Turns.{executes_as, told_as, serves_missed, serves_done, adds_fetched, shown_fetched, brought_reads, turn_kept}
use Rattle.host_memory.specs.Access.{IsAccess}
use Rattle.hba.proofs.hba.Hba.execute_in.Goals as goal

pub returns-in-Err-clause-done : goal.returns-in-Err-clause-done
returns-in-Err-clause-done g c =
    let brought = rw (c.width-width.ensures, c.descriptors-at.ensures.value, c.requires.long, c.in-Err.is) at c.bring.ensures.brings in
    told_as g.M.HostMemory.does (λ o a. Executes o a c.args.place c.args.tag c.args.fis.now) c.args.self.now c.args.memory.now c.miss.new.self
    c.bring.new.memory c.miss.result (dones.Fault (fault_of c.in-Err.miss)) None c.miss.ensures.told
    (executes_as g.M.HostMemory.does c.args.place c.args.tag c.args.fis.now c.args.self.now c.args.memory.now c.miss.new.self c.bring.new.memory
    (dones.Fault (fault_of c.in-Err.miss)) None
    (serves_missed g.M.HostMemory.does c.args.place (payload_of c.args.self.now.drive.tper.store.config c.args.fis.now) (Some c.args.tag) (Accept c.args.fis.now) (Fetched c.args.tag c.args.fis.now)
    c.args.self.now c.args.memory.now c.miss.new.self c.bring.new.memory c.in-Err.miss
    (brought.0, brought.1, brought.2)
    c.miss.ensures.agrees))

pub returns-in_err-lent-clause-kept : goal.returns-in_err-lent-clause-kept
returns-in_err-lent-clause-kept g c =
    let brought = rw (c.width-width.ensures, c.descriptors-at.ensures.value, c.requires.long, c.in-Ok.is) at c.bring.ensures.brings in
    on_err c.from_residual.result _
    (brought_reads (IsAccess c.args.self.now.registers.width g.M.HostMemory.does) c.args.place (payload_of c.args.self.now.drive.tper.store.config c.args.fis.now) c.args.memory.now c.bring.new.memory (Ok c.bring.new.room.items)
    (brought.0, brought.1, brought.2))

pub returns-clause-done : goal.returns-clause-done
returns-clause-done g c =
    let brought = rw (c.width-width.ensures, c.descriptors-at.ensures.value, c.requires.long, c.in-Ok.is, ← c.as_slice-payload.ensures.value) at c.bring.ensures.brings in
    let moved : length c.as_slice-payload.result.now + c.len.result ≡ length c.as_slice-payload.result.now + length c.gift-gift.result.given = omega arith in
    let told : c.as_slice-fises.result.now ≡ map (of_last_block ((length c.as_slice-payload.result.now + length c.gift-gift.result.given) / block_size)) (fises_in c.take.new.answer) =
    rw (c.as_slice-fises.ensures.value, ← c.fises.ensures, ← moved) c.by_blocks-told.ensures in
    let given = rw (← c.as_slice.ensures.value, ← c.gift-gift.ensures) at c.in_ok-lent.ensures.effect in
    let gives : (o : Opened) (list : List Operation) → AgreesHba c.args.self.now o list
    → IsEffect (effect_after o (account o list) (Accept c.args.fis.now c.as_slice-payload.result.now)) c.as_slice-fises.result.now c.gift-gift.result.given =
    λ o list a. subst (λ (fs : List Fis). IsEffect (effect_after o (account o list) (Accept c.args.fis.now c.as_slice-payload.result.now)) fs c.gift-gift.result.given) (sym told)
    (told_effect c.args.fis.now c.as_slice-payload.result.now (drive_effect o (account o list) (Accept c.args.fis.now c.as_slice-payload.result.now)) (fises_in c.take.new.answer) c.gift-gift.result.given (given o list a)) in
    turn_kept g.M.HostMemory.does (λ o a. Executes o a c.args.place c.args.tag c.args.fis.now) c.args.self.now c.args.memory.now c.show-done.new.self c.give_back.new.self
    c.deliver-delivered.new.memory c.show-done.result _ c.give_back.ensures
    (executes_as g.M.HostMemory.does c.args.place c.args.tag c.args.fis.now c.args.self.now c.args.memory.now c.show-done.new.self
    c.deliver-delivered.new.memory c.show-done.result _
    (serves_done g.M.HostMemory.does c.args.place (payload_of c.args.self.now.drive.tper.store.config c.args.fis.now) (Some c.args.tag) (Accept c.args.fis.now) (Fetched c.args.tag c.args.fis.now)
    c.args.self.now c.args.memory.now c.bring.new.memory c.show-done.new.self c.deliver-delivered.new.memory
    c.as_slice-payload.result.now c.as_slice-fises.result.now c.gift-gift.result.given c.in-Ok.brought c.deliver-delivered.result
    c.show-done.result _
    brought
    (rw c.width-width.ensures at c.deliver-delivered.ensures)
    (ap (λ (d : Done). Some d) (sym c.show-done.ensures.told))
    gives
    (adds_fetched c.args.self.now c.take.new.self c.show-done.new.self c.args.tag c.args.fis.now c.as_slice-payload.result.now
    c.as_slice-fises.result.now c.gift-gift.result.given c.deliver-delivered.result
    c.in_ok-lent.ensures.acted gives
    (shown_fetched c.args.self.now c.take.new.self c.note_fetch.new.self c.show-done.new.self c.args.tag c.as_slice-fises.result.now
    c.deliver-delivered.result c.in_ok-lent.ensures.registers c.note_fetch.ensures c.show-done.ensures.shown))
    (λ o list a. record {
      header = c.requires.read;
      payload = sym c.as_slice-payload.ensures.value;
      denied = c.in_ok-lent.ensures.denied o list a;
      rule = c.in_ok-lent.ensures.rule o list a;
    })))
