use Rattle.ln_log.proofs.Explained.{is_led}
use Rattle.ln_log.proofs.base_laws.a_base_is_led_to.Goals as goal

pub returns : goal.returns
returns c = is_led
