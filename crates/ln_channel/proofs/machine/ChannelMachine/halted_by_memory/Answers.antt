use Rattle.ln_channel.proofs.machine.ChannelMachine.halted_by_memory.Goals as goal

pub returns-clause-halted : goal.returns-clause-halted
returns-clause-halted g c = λ l same. record {
  reached = c.args.self.now;
  same = same;
  halts = c.halt.ensures.state;
  halted = c.halt.ensures.halted;
}
