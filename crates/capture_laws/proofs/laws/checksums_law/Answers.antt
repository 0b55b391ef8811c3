use Rattle.capture_laws.proofs.Sums.{ip_filled, tcp_filled}
use Rattle.capture_laws.proofs.laws.checksums_law.Goals as goal

pub returns-clause-ip : goal.returns-clause-ip
returns-clause-ip c = ip_filled

pub returns-clause-tcp : goal.returns-clause-tcp
returns-clause-tcp c = tcp_filled
