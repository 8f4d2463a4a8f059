-- A node that stops after an act of its end, or an end that halts after one, told from that end: the links are at the
-- ends of a pair after the act, the loss of the connection, and the loss of all that the act has sent.
use Rattle.std.proofs.Common.{◌≡◌, ℕ, List, [], refl, sym, ap, ◌∙◌, subst, true}
use Rattle.ln_keys.specs.Signer.{Signer}
use Rattle.ln_channel.specs.declared.machine.ConnectionState.TheVariants.{Down}
use Rattle.ln_channel.specs.End.{end_dropped}
use Rattle.ln_channel.specs.State.{is_down}
use Rattle.ln_channel_laws.specs.Ends.{Ends, Lose, Cut}
use Rattle.ln_channel_laws.specs.Ends as pair
use Rattle.ln_channel_laws.proofs.Offered.{IsCutOff}
use Rattle.ln_world_channels.specs.Both.{Both, SimEnd}
use Rattle.ln_world_channels.proofs.Mirror.{link_at, IsInbox, Mirrors}
use Rattle.ln_world_channels.proofs.Moves.{lost_says}

-- x is cut off, with what this many messages leave of what it has sent
abbrev pub ends_stopped : Signer → ℕ → Ends → Ends
ends_stopped keys n r = pair.acts keys (Cut n) (pair.acts keys Lose r)

module _ {K : Type 0} (signer : K → Signer) (id : List ℕ) (kx ky : K) where
  -- p at the ends q; and x with another end at what r is once x has lost its connection, where r is x's act after q
  pub stopped_so : (x y : SimEnd K) (p : Both K) (q r : Ends) (cut : IsCutOff q (pair.acts (signer kx) Lose r))
      → Mirrors id kx ky p q → Mirrors id kx ky (record { x = x; y = y }) (pair.acts (signer kx) Lose r)
      → Mirrors id kx ky (record { x = x; y = p.y }) (ends_stopped (signer kx) cut.left r)
  stopped_so x y p q r cut h g =
      let s : Ends = pair.acts (signer kx) Lose r in
      subst (λ w. Mirrors id kx ky (record { x = x; y = p.y }) w) (sym cut.cut) (record {
        x_halted = g.x_halted;
        y_halted = h.y_halted;
        x_link = g.x_link;
        y_link = h.y_link ∙ ap (λ l. link_at h.y_halted ky l q.y) (sym cut.y_line)
            ∙ ap (link_at h.y_halted ky s.y_line) (sym cut.y);
        x_down = g.x_down;
        y_down = subst (λ l. h.y_halted ≡ true → is_down l ≡ true) (sym cut.y_line) h.y_down;
        x_in = g.x_in;
        y_in = subst (λ l. IsInbox id l p.y.inbox q.to_y) (sym cut.y_line) h.y_in;
        x_channel = g.x_channel;
        y_channel = g.y_channel;
        x_keys = g.x_keys;
        y_keys = h.y_keys;
      })

-- nothing more is said
pub stopped_says : (keys : Signer) (q r : Ends) (cut : IsCutOff q (pair.acts keys Lose r))
    → ((ends_stopped keys cut.left r).said_x ≡ r.said_x) × ((ends_stopped keys cut.left r).said_y ≡ r.said_y)
stopped_says keys q r cut =
    let down : Ends = record r { x_line = Down; x = end_dropped r.x; to_x = [] } in
    let lost = lost_says (is_down r.x_line) r down refl refl in (
      ap (λ (w : Ends). w.said_x) cut.cut ∙ lost.0,
      ap (λ (w : Ends). w.said_y) cut.cut ∙ lost.1,
    )
