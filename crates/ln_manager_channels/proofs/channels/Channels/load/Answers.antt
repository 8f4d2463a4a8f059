use Rattle.std.proofs.Common.{inr}
use Rattle.ln_manager_channels.specs.Kept.{parts_of}
use Rattle.ln_manager_channels.proofs.Entered.{same_as_none, loaded_so}
use Rattle.ln_manager_channels.proofs.channels.Channels.load.Goals as goal

pub begun-requires : goal.begun-requires
begun-requires g c = inr (
  c.args.saved.items,
  loaded_so c.args.saved.items (parts_of c.new-parts.result) (parts_of c.load_all.new.self)
      (same_as_none (parts_of c.new-parts.result) c.new-parts.ensures.no_links c.new-parts.ensures.no_records
      c.new-parts.ensures.no_numbers c.new-parts.ensures.nothing_stands)
      c.in-Ok.ensures.seats c.in-Ok.ensures.begins_anew,
)
