-- Bit by bit.
use Rattle.hba.proofs.BitByBit.{running_law, issued_law}
use Rattle.hba.proofs.QueuedBits.{queued_law}
use Rattle.hba.proofs.RaisedBits.{raised_law}
use Rattle.hba.proofs.LinkBits.{errors_law, changes_law, signature_law}
use Rattle.hba.proofs.TaskBits.{task_law, link_status_law}
use Rattle.hba.proofs.laws.laws_of_bits.Goals as goal

pub returns-clause-running : goal.returns-clause-running
returns-clause-running c = running_law

pub returns-clause-issued : goal.returns-clause-issued
returns-clause-issued c = issued_law

pub returns-clause-queued : goal.returns-clause-queued
returns-clause-queued c = queued_law

pub returns-clause-raised : goal.returns-clause-raised
returns-clause-raised c = raised_law

pub returns-clause-errors : goal.returns-clause-errors
returns-clause-errors c = errors_law

pub returns-clause-changes : goal.returns-clause-changes
returns-clause-changes c = changes_law

pub returns-clause-signature : goal.returns-clause-signature
returns-clause-signature c = signature_law

pub returns-clause-task : goal.returns-clause-task
returns-clause-task c = task_law

pub returns-clause-link : goal.returns-clause-link
returns-clause-link c = link_status_law
