use Rattle.std.proofs.Common.{ap, ◌∙◌, get_or}
use Rattle.audit.specs.Issuing.{count_of}
use Rattle.audit.specs.Names.{value_of}
use Rattle.audit.proofs.Issues.{zero_at}
use Rattle.audit.proofs.issuing.Issuer.new.Goals as goal

pub returns : goal.returns
returns c =
    record {
      lives = λ s. ap (λ l. get_or l s 0) c.new.ensures ∙ zero_at s;
      counts = λ s l. ap (λ z. count_of z s l) c.new-2.ensures;
      orders = λ q. ap (λ z. value_of z q) c.new-3.ensures;
    }
