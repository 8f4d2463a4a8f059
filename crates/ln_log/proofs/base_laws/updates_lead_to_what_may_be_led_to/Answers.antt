use Rattle.std.proofs.Common.{refl}
use Rattle.ln_log.specs.Explained.{led_own, led_peer}
use Rattle.ln_log.proofs.Leading.{leads, led_by, opens}
use Rattle.ln_log.proofs.base_laws.updates_lead_to_what_may_be_led_to.Goals as goal

pub returns-clause-lists_lead_to_it : goal.returns-clause-lists_lead_to_it
returns-clause-lists_lead_to_it c = leads

pub returns-clause-exactly : goal.returns-clause-exactly
returns-clause-exactly c = λ o x n w own peer funds. (
  (λ h. (led_own o x n w own peer, (led_peer o x n w own peer, leads o x n w own peer funds h))),
  (λ h. led_by o x n w own peer h.0 h.1.0 funds h.1.1),
)

pub returns-clause-none_at_the_opening : goal.returns-clause-none_at_the_opening
returns-clause-none_at_the_opening c = λ o x funds. (opens o x funds, refl, refl)
