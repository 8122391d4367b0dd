use Rattle.port_history.proofs.Acted.{tcg_for_ports}
use Rattle.port_history.proofs.AnswerProofs.{answer_law}
use Rattle.port_history.proofs.FedProofs.{fed_law}
use Rattle.port_history.proofs.FullProofs.{full_law}
use Rattle.port_history.proofs.KeptLaw.{never_mixes, failure_law}
use Rattle.port_history.proofs.RegisterProofs.{register_law}
use Rattle.port_history.proofs.TakeProofs.{take_law, own_law}
use Rattle.port_history.proofs.laws.laws_of_steps.Goals as goal

pub returns : goal.returns
returns c = record {
  ports = tcg_for_ports;
  unmixed = never_mixes;
  failure = failure_law;
  registers = register_law;
  answered = answer_law;
  taken = take_law;
  own = own_law;
  fed = fed_law;
  full = full_law;
}
