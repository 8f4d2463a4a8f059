use Rattle.std.proofs.Common.{rules, None, Some, sym, ap, ◌∙◌}
use Rattle.ln_world_channels.proofs.Places.{searched, not_found, found_where}
use Rattle.ln_world_channels.proofs.channels.Channels.report_ends.Goals as goal

pub returns-in-None-clause-told : goal.returns-in-None-clause-told
returns-in-None-clause-told g c =
    let n = c.args.number in
    let cs = c.self.inside.items.items in
    rw (
      ← c.self.view_is,
      not_found n cs
          (sym (searched n cs _ _ None c.in-None.is c.place_of.ensures c.deref.ensures.value)),
    ) (search rules)

pub returns-in-Some-clause-told : goal.returns-in-Some-clause-told
returns-in-Some-clause-told g c =
    let n = c.args.number in
    let cs = c.self.inside.items.items in
    rw (
      ← c.self.view_is,
      found_where n cs c.in-Some.i _
          (searched n cs _ _ (Some c.in-Some.i) c.in-Some.is c.place_of.ensures c.deref.ensures.value)
          ∙ sym (ap Some c.index.ensures),
    ) c.report_ends.ensures.told
