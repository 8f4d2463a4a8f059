-- An end of an open channel has a record: its messages can be written, and its items are readable.
use Rattle.std.proofs.Common.{◌≡◌, ◌∙◌, length, sym, ap, subst, None, refl}
use Rattle.ln_msgs.specs.declared.messages.opening.OpenChannel.{OpenChannel}
use Rattle.ln_msgs.specs.declared.messages.opening.AcceptChannel.{AcceptChannel}
use Rattle.ln_msgs.specs.declared.messages.message.Message.TheVariants as message
use Rattle.ln_log.specs.Opening.{HasFunds}
use Rattle.ln_channel.specs.declared.opening.Opened.{Opened}
use Rattle.ln_channel.specs.Opening.{opening_of, asked_with, asked_by_accept}
use Rattle.ln_channel.specs.End.{End}
use Rattle.ln_store.specs.Items as it
use Rattle.ln_link.specs.Record.{NoRecord}
use Rattle.ln_channel_laws.proofs.Offered.{IsCounted, IsWide, IsOf}
use Rattle.ln_link_laws.specs.Handed.{IsMessage}
use Rattle.ln_link_laws.proofs.Kept.{AreFees}
use Rattle.ln_link_laws.proofs.Forms.{Opens, record_so}
use Rattle.ln_world_channels.proofs.Opening.{IsOpening}

-- the funds are those of the messages
abbrev HasFundsBy : OpenChannel → AcceptChannel → Type 0
HasFundsBy m a = HasFunds (asked_with m (asked_by_accept a))

-- two ends that were opened by the same messages have one opening
same_opening : (o : Opened) (e : End) → IsOf o e → opening_of o.terms ≡ opening_of e.terms
same_opening o e of =
    ap (λ m. asked_with m (asked_by_accept o.terms.accept_channel)) (sym of.open_channel)
    ∙ ap (λ a. asked_with e.terms.open_channel (asked_by_accept a)) (sym of.accept_channel)

opens : (o : Opened) (e : End) → IsOpening o → IsOf o e → Opens e
opens o e h of = record {
  channel = ap length of.channel ∙ h.channel;
  fees = subst AreFees (sym of.fees) h.fees;
  funds =
      subst (HasFundsBy e.terms.open_channel) (sym of.accept_channel)
      (subst (λ m. HasFundsBy m o.terms.accept_channel) (sym of.open_channel) h.funds);
  open_channel = subst (λ m. IsMessage (message.OpenChannel m)) (sym of.open_channel) h.open_channel;
  accept_channel = subst (λ m. IsMessage (message.AcceptChannel m)) (sym of.accept_channel) h.accept_channel;
  opening = of.opening ∙ h.opening ∙ same_opening o e of;
  role = of.role ∙ h.role ∙ sym of.closing_role;
}

-- an end of a channel that was opened so, whose counts fit together and whose updates are as wide as their types
pub has_record : (o : Opened) (e : End) → IsOpening o → IsOf o e → IsCounted e → IsWide e → NoRecord None e → ⊥
unfolding it.failure
has_record o e h of k w = record_so None e refl (opens o e h of) k w
