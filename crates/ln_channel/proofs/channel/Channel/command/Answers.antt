use Rattle.std.proofs.Common.{ℕ, sym, subst}
use Rattle.ln_log.specs.declared.update.Update.TheVariants as update
use Rattle.ln_channel.specs.declared.command.Command.{Command}
use Rattle.ln_channel.specs.End.{Makes}
use Rattle.ln_channel.specs.Commands.{propose_row, command_row}
use Rattle.ln_channel.proofs.channel.Channel.command.Goals as goal

pub returns-in-Add-clause-makes : goal.returns-in-Add-clause-makes
returns-in-Add-clause-makes g c = λ e s.
    let offered = subst (λ (n : ℕ). Makes (propose_row
    (update.Add (record {
      id = n;
      amount = c.in-Add.amount;
      hash = c.in-Add.hash;
      expiry = c.in-Add.expiry;
      onion = c.in-Add.onion;
      origin = c.in-Add.origin;
    })) e) c.offer.result c.args.self.now
    c.offer.new.self) (c.next_id-id.ensures e s) (c.offer.ensures.makes e s) in
    subst (λ (k : Command). Makes (command_row (g.K.ChannelKeys.signer c.args.keys.now) k e)
    c.offer.result c.args.self.now c.offer.new.self) (sym c.in-Add.is) offered
