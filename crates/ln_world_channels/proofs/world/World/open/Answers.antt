use Rattle.std.proofs.Common.{sym, subst, ◌∙◌}
use Rattle.std.proofs.lemmas.Result.{err_from_is_err_and}
use Rattle.ln_world_channels.specs.World.{settings_of}
use Rattle.ln_world_channels.specs.Failing.{ByRecord, OpeningLacks}
use Rattle.ln_world_channels.proofs.Lacking.{by_record}
use Rattle.ln_world_channels.proofs.Worlds.{has_joined}
use Rattle.ln_world_channels.proofs.world.World.open.Goals as goal

pub returns-clause-world : goal.returns-clause-world
returns-clause-world g c =
    has_joined g.K.ChannelKeys c.args.wish.now c.args.self.now
    (record { settings = c.self.inside.settings.items; channels = c.self.inside.channels }) c.open.new.self
    c.settings_of-funder.result c.settings_of-fundee.result c.self.view_is
    (sym c.may_open.ensures.test ∙ c.if-not-may_open.false) c.settings_of-funder.ensures c.settings_of-fundee.ensures
    c.in_ok-open.ensures.joined

pub returns-in_err-open-clause-fails : goal.returns-in_err-open-clause-fails
returns-in_err-open-clause-fails g c =
    let p = err_from_is_err_and c.from_residual-in_err-open.result c.from_residual-in_err-open.ensures.1 in
    let o = c.args.wish.now in
    let e = c.in_err-open.field-0.0 in
    let lacks : ByRecord e (OpeningLacks g.K.ChannelKeys o (settings_of o.funder c.args.self.now.settings)
    (settings_of o.fundee c.args.self.now.settings)) =
    subst (λ s. ByRecord e (OpeningLacks g.K.ChannelKeys o s (settings_of o.fundee c.args.self.now.settings)))
    c.settings_of-funder.ensures
    (subst (λ s. ByRecord e (OpeningLacks g.K.ChannelKeys o c.settings_of-funder.result s))
    c.settings_of-fundee.ensures c.in_err-open.ensures.fails) in
    rw (p.1, p.2) (by_record e _ _ (λ l. (sym c.may_open.ensures.test ∙ c.if-not-may_open.false, l)) lacks)
