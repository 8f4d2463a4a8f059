-- One payment out for each payment in, of a world in which all is kept of a node.
use Rattle.std.proofs.Common.{◌≡◌, ℕ, List, refl, sym, ap, ◌∙◌, subst, Option, Some, None}
use Rattle.ln_keys.specs.declared.keys.ChannelKeys.{Ghosts}
use Rattle.ln_hooks.specs.declared.verdict.Verdict.{Verdict}
use Rattle.ln_channel.specs.End.{End as ChannelEnd}
use Rattle.ln_channel.specs.Record.{saved_end}
use Rattle.ln_channel.specs.State.{State}
use Rattle.ln_world_channels.specs.declared.step.Node.{Node}
use Rattle.ln_world_channels.specs.Settings.{channel_id_of}
use Rattle.ln_world_channels.specs.WorldChannel.{WorldChannel}
use Rattle.ln_world.specs.declared.step.Step.{Step}
use Rattle.ln_world.specs.World.{World, empty, run, saved_of}
use Rattle.ln_payment_circuits.specs.Snapshot.{Incoming}
use Rattle.ln_payment_circuits.proofs.Preimages.{ArePaid}
use Rattle.ln_payment_circuits.proofs.Moments.{EachEnd}
use Rattle.ln_payment_circuits.proofs.Promise.{pays_once}
use Rattle.ln_world.specs.Circuit.{snapshot_of, PaysOnce}
use Rattle.ln_world.specs.Commands.{AreOfBook}
use Rattle.ln_world.proofs.Scene.{link_in}
use Rattle.ln_world.proofs.Lost.{link_is}
use Rattle.ln_world.proofs.Keeping.{Holds}
use Rattle.ln_world.proofs.Holding.{run_holds}

module _ {K : Type 0} (k : Ghosts K) (n : Node) (w : World K) (h : Holds k n w) where
  abbrev cs : List (WorldChannel K)
  cs = w.dispatchers.channels.channels

  -- each fulfilment of an end has its preimage
  ends_pay : EachEnd (λ e. ArePaid e.dance.log) (snapshot_of n w)
  ends_pay c e there = cases (link_in n c cs) refl there
    where
      cases : (o : Option (State K)) → link_in n c cs ≡ o → saved_of o ≡ Some e → ArePaid e.dance.log
      cases None is f = absurd (cc)
      cases (Some s) is f =
          let l = link_is k.signer n cs h.well.open_ c s is in
          let some : Some l.end ≡ Some e = sym (ap (λ (z : State K). saved_end z.stage) l.link) ∙ f in
          let same : l.end ≡ e = cc in
          subst (λ (x : ChannelEnd). ArePaid x.dance.log) same l.is.keeps.paid

  pub pays : (q : Incoming) → PaysOnce n q w
  pays q = pays_once channel_id_of q (snapshot_of n w) ends_pay (h.well.paid q)

pub one_payment_out : {K : Type 0} (k : Ghosts K) (steps : List (Step K k × Verdict)) (hooks : ℕ) (node : Node)
    → AreOfBook k node steps → (h : Incoming) → PaysOnce node h (run k steps (empty hooks))
one_payment_out k steps hooks node of h = pays k node (run k steps (empty hooks)) (run_holds k node hooks steps of) h
