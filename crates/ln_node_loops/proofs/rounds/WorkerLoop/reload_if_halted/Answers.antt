use Rattle.std.proofs.Common.{refl, sym, ap, inl, ◌∙◌, ◌++◌}
use Rattle.ln_node_loops.specs.Owed.{load_words}
use Rattle.ln_node_loops.proofs.Running.{turned-load}
use Rattle.ln_node_loops.proofs.rounds.WorkerLoop.reload_if_halted.Goals as goal

pub returns : goal.returns
returns g c = record {
  reloads = turned-load _ _ _ _ _ _ _ c.args.peer.now _ _ c.load-answer.result
      (g.E.End.pending (g.E.End.state c.load-answer.new.self.end)) _ _
      (c.load-answer.ensures.turn c.args.own_init.now c.args.peer.now) refl c.load-answer.ensures.last
      c.pending_behind-told.ensures c.put_events-self.ensures.put c.put_events-self.ensures.last
      (c.report_load.ensures.says_what_is_owed ∙ ap (λ l. g.B.Books.said c.args.self.now.book
      ++ load_words c.load-answer.result (g.E.End.seen (g.E.End.state c.load-answer.new.self.end)) l)
      c.as_slice.ensures.value) refl refl c.report_load.ensures.notes_a_load;
  takes_no_item = refl;
}

pub returns-then-not-is_halted : goal.returns-then-not-is_halted
returns-then-not-is_halted g c = record {
  reloads = inl (sym c.is_halted.ensures ∙ c.if-not-is_halted.true, refl);
  takes_no_item = refl;
}
