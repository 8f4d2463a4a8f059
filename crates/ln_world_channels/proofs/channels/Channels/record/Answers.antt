use Rattle.std.proofs.Common.{None, Some, sym, ap, set, refl, ◌∙◌}
use Rattle.std.proofs.lemmas.List.{set-get_or}
use Rattle.ln_world_channels.specs.WorldChannel.{WorldChannel}
use Rattle.ln_world_channels.proofs.Places.{searched, not_found, found_where, still_once}
use Rattle.ln_world_channels.proofs.channels.Channels.record.Goals as goal

pub returns-in-None-clause-record : goal.returns-in-None-clause-record
returns-in-None-clause-record g c =
    let n = c.args.end.channel in
    let cs = c.self.inside.items.items in
    rw (
      ← c.self.view_is,
      not_found n cs
          (sym (searched n cs _ _ None c.in-None.is c.place_of.ensures c.deref.ensures.value)),
    ) refl

pub invariant_of-self : goal.invariant_of-self
invariant_of-self g c =
    still_once c.self.inside.items.items c.in-Some.i _ c.record.new.self c.index_mut.ensures.value
    (ap (λ (d : WorldChannel _). d.number) c.record.ensures.changes_nothing) c.self.invariant

pub returns-in-Some-clause-record : goal.returns-in-Some-clause-record
returns-in-Some-clause-record g c =
    let n = c.args.end.channel in
    let cs = c.self.inside.items.items in
    rw (
      ← c.self.view_is,
      found_where n cs c.in-Some.i c.index_mut.result.now
          (searched n cs _ _ (Some c.in-Some.i) c.in-Some.is c.place_of.ensures c.deref.ensures.value),
      ← c.index_mut.ensures.value,
    ) c.record.ensures.record

pub returns-in-Some-clause-changes_nothing : goal.returns-in-Some-clause-changes_nothing
returns-in-Some-clause-changes_nothing g c =
    let cs = c.self.inside.items.items in
    ap (set cs c.in-Some.i) (c.record.ensures.changes_nothing ∙ c.index_mut.ensures.value)
    ∙ set-get_or cs c.in-Some.i _ ∙ c.self.view_is
