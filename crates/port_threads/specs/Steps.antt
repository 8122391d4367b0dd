-- The receipts of a client's steps.
use Rattle.locked_port.specs.declared.ticket.Receipt.{Receipt}
use Rattle.locked_port.specs.declared.ticket.Ticket.{Ticket}
use Rattle.port_history.specs.Requests.{no_bytes}
use Rattle.port_history.specs.declared.request.Request.{Request}
use Rattle.port_history.specs.declared.step.Step.TheVariants as steps

-- The receipt of a Put: its step is the request that was put, and it replies no bytes.
abbrev pub put_receipt : Ticket → Request → Receipt
put_receipt ticket request = record {
  number = ticket.number;
  step = steps.Put ticket.client ticket.tag request;
  reply = no_bytes;
}
