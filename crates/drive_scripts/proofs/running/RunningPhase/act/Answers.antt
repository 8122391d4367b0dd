use Rattle.drive_scripts.proofs.running.RunningPhase.act.Goals as goal

pub returns-in-Send : goal.returns-in-Send
returns-in-Send c = rw c.in-Send.is c.send.ensures

pub returns-in-Receive : goal.returns-in-Receive
returns-in-Receive c = rw c.in-Receive.is c.receive.ensures

pub returns-in-SecurityIn : goal.returns-in-SecurityIn
returns-in-SecurityIn c = rw c.in-SecurityIn.is c.receive-in-SecurityIn.ensures

pub returns-in-SecurityOut : goal.returns-in-SecurityOut
returns-in-SecurityOut c = rw c.in-SecurityOut.is c.send-in-SecurityOut.ensures

pub returns-in-Identify : goal.returns-in-Identify
returns-in-Identify c = rw c.in-Identify.is c.identify.ensures

pub returns-in-Reset : goal.returns-in-Reset
returns-in-Reset c = rw c.in-Reset.is c.reset.ensures

pub returns-in-Call : goal.returns-in-Call
returns-in-Call c = rw c.in-Call.is c.call.ensures

pub returns-in-TperReset : goal.returns-in-TperReset
returns-in-TperReset c = rw c.in-TperReset.is c.reset_tper.ensures
