-- A link does what a command asks for exactly where its end may do it.
use Rattle.std.proofs.Common.{◌≡◌, ◌↔◌, ℕ, List, [], sym, ap, ◌∙◌, subst, refl, Bool, true, false, cond}
use Rattle.std.proofs.Common.{Result, Ok, Err}
use Rattle.ln_refusals.specs.declared.refusal.Refusal.{Refusal}
use Rattle.ln_refusals.specs.declared.refusal.Refusal.TheVariants as refusal
use Rattle.ln_keys.specs.declared.role.Role.{Role}
use Rattle.ln_keys.specs.declared.role.Role.TheVariants.{Funder, Fundee}
use Rattle.ln_keys.specs.Signer.{Signer}
use Rattle.ln_log.specs.Machine.{Machine}
use Rattle.ln_channel.specs.declared.command.Command.{Command}
use Rattle.ln_channel.specs.declared.machine.ConnectionState.{ConnectionState}
use Rattle.ln_channel.specs.declared.machine.Stage.TheVariants as stage
use Rattle.ln_channel.specs.Outputs.{all_of}
use Rattle.ln_channel.specs.End.{End, Turn}
use Rattle.ln_channel.specs.State.{State}
use Rattle.ln_channel.specs.Step.{commanded, is_of_records, noted, obeyed}
use Rattle.ln_channel.specs.Step as step
use Rattle.ln_channel_laws.specs.Ends.{command_at}
use Rattle.ln_channel_laws.specs.Promises.{IsTaken}
use Rattle.ln_channel_laws.specs.Moves.{machine_of}
use Rattle.ln_channel_laws.specs.Doing.{Does}
use Rattle.ln_channel_laws.proofs.Offered.{both_do}
use Rattle.ln_world_channels.specs.Both.{Both}
use Rattle.ln_world_channels.specs.Promises.{Obeys, BothObey, DoExactly}
use Rattle.ln_world_channels.proofs.Mirror.{link_at, link_of}
use Rattle.ln_world_channels.proofs.Moves.{obeyed_so}
use Rattle.ln_world_channels.proofs.Kept.{IsRun, ends_of, at_links}

-- a link hands out what its end's row says
taken_so : (line : ConnectionState) (row : Result Turn Refusal) → IsTaken (step.turned line row) ↔ IsTaken row
taken_so line (Ok t) = (
  (λ x. (t, refl)),
  (λ x. (record { connection = line; stage = stage.Funded t.end; outputs = all_of t.handed }, refl)),
)
taken_so line (Err z) = (
  (λ x. absurd (let no : Err z ≡ Ok x.0 = x.1 in cc)),
  (λ x. absurd (let no : Err z ≡ Ok x.0 = x.1 in cc)),
)

module _ {K : Type 0} (signer : K → Signer) where
  obeys_so : (b : Bool) (side : Role) (c : Command) (k : K) (line : ConnectionState) (e : End)
      (m : Machine) (l : State K)
      → l ≡ link_at b k line e → is_of_records c ≡ false → Does (signer k) side line c e m → Obeys signer side c l e m
  obeys_so true side c k line e m l is plain d =
      subst (λ w. Obeys signer side c w e m) (sym is) (
        (λ x. absurd (let no : Err refusal.Halted ≡ Ok x.0 = x.1 in cc)),
        (λ x. absurd (let no : true ≡ false = x.works in cc)),
      )
  obeys_so false side c k line e m l is plain d =
      let keys = signer k in
      let row : commanded keys (link_of k line e) c ≡ step.turned line (command_at keys line c e) =
      ap (λ b. cond b (noted line c (stage.Funded e)) (obeyed keys line c (stage.Funded e))) plain
      ∙ obeyed_so keys k [] line c e in
      let same = taken_so line (command_at keys line c e) in
      subst (λ w. Obeys signer side c w e m) (sym is) (
        (λ x. record { works = refl; stands = refl; may = d.0 (same.0 (subst IsTaken row x)) }),
        (λ x. subst IsTaken (sym row) (same.1 (d.1 x.may))),
      )

  pub do_exactly : (id : List ℕ) (p : Both K) → IsRun signer id p → DoExactly signer p
  do_exactly id p r c plain =
      let q = ends_of signer id p r in
      let h = r.mirrors in
      let m = machine_of q in
      let d = both_do (signer r.funders) (signer r.fundees) r.spec r.config r.funder r.fundee r.steps c r.keys
      r.opens in
      at_links signer id r.funders r.fundees (BothObey signer c p) p q h (
        obeys_so h.x_halted Funder c r.funders q.x_line q.x m p.x.link h.x_link plain d.funder,
        obeys_so h.y_halted Fundee c r.fundees q.y_line q.y m p.y.link h.y_link plain d.fundee,
      )
