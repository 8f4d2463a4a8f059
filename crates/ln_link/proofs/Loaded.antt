-- What is saved of an end is read as a lost connection leaves it.
use Rattle.std.proofs.Common.{◌≡◌, ◌∙◌, ◌<◌, ◌^◌, refl, sym, ap, subst, Option, Some, None}
use Rattle.std.proofs.Common.{option_map, IfSome, Result}
use Rattle.ln_bytes.specs.declared.fault.Fault.{Fault}
use Rattle.ln_bytes.specs.declared.short_id.ShortId.{ShortId}
use Rattle.ln_msgs.specs.Messages.Message.{Heard, Known, wire_bytes}
use Rattle.ln_msgs.specs.Messages.Typed.{open_wire, accept_wire}
use Rattle.ln_msgs.specs.declared.messages.opening.OpenChannel.{OpenChannel}
use Rattle.ln_msgs.specs.declared.messages.opening.AcceptChannel.{AcceptChannel}
use Rattle.ln_refusals.specs.declared.refusal.Refusal.{Refusal}
use Rattle.ln_msgs.proofs.Grammar.{message_again}
use Rattle.ln_log.specs.Log.{Log, none, after_drop}
use Rattle.ln_log.specs.RecordForm.{record_form_of, IsRestorable}
use Rattle.ln_dance.specs.Dance.{with_log}
use Rattle.ln_channel.specs.declared.opening.Terms.{Terms}
use Rattle.ln_channel.specs.Opening.{opening_of}
use Rattle.ln_channel.specs.End.{End, with_dance, end_dropped}
use Rattle.ln_channel.specs.Parts.{end_with}
use Rattle.ln_link.specs.Record.{payload_of, chain_place_of, agreement_of, updates_of}
use Rattle.ln_link.specs.Record.{header_of, progress_of, items_of, commitments_of}
use Rattle.ln_link.specs.Loading.{open_of, accept_of, said, open_in, accept_in, terms_of, short_id_of}
use Rattle.ln_link.specs.Loading.{told_in, log_in, dance_of, end_of, IsSaid}
use Rattle.ln_link.specs.Loading.{IsLoadable, HasRecord, IsReadAgain}
use Rattle.ln_link.proofs.Again.{id_again}
use Rattle.ln_link.proofs.Told.{read_again, restored, is_read, all_read}

-- ---- the opening

open_again : (m : OpenChannel) → IsSaid (open_wire m) → open_in (payload_of (open_wire m)) ≡ m
unfolding open_in payload_of IsSaid
open_again m s =
    ap (λ (r : Result Heard Fault). open_of (said r)) (message_again (wire_bytes (open_wire m)) (Known (open_wire m)) s)

accept_again : (m : AcceptChannel) → IsSaid (accept_wire m) → accept_in (payload_of (accept_wire m)) ≡ m
unfolding accept_in payload_of IsSaid
accept_again m s =
    ap (λ (r : Result Heard Fault). accept_of (said r))
    (message_again (wire_bytes (accept_wire m)) (Known (accept_wire m)) s)

terms_again : (failure : Option Refusal) (e : End) → HasRecord failure e → terms_of (agreement_of e) ≡ e.terms
unfolding agreement_of
terms_again failure e h =
    ap (λ (o : OpenChannel). record {
      open_channel = o;
      accept_channel = accept_in (payload_of (accept_wire e.terms.accept_channel));
      script = e.terms.script;
      peer_script = e.terms.peer_script;
    }) (open_again e.terms.open_channel h.open_channel)
    ∙ ap (λ (a : AcceptChannel). record {
      open_channel = e.terms.open_channel;
      accept_channel = a;
      script = e.terms.script;
      peer_script = e.terms.peer_script;
    }) (accept_again e.terms.accept_channel h.accept_channel)

-- ---- how far it is

place_again : (s : Option ShortId) → IfSome s (λ id. id.output < 2 ^ 16)
    → option_map short_id_of (option_map chain_place_of s) ≡ s
place_again None f = refl
place_again (Some id) f = ap Some (id_again id.block id.tx id.output id.block_fits id.tx_fits f)

-- ---- the updates

loaded_told : (failure : Option Refusal) (e : End) → HasRecord failure e
    → told_in (opening_of (terms_of (agreement_of e))) e.closing.role
    (updates_of (opening_of e.terms) e.closing.role (after_drop e.dance.log))
    ≡ record_form_of e.dance.log.first (after_drop e.dance.log)
loaded_told failure e h =
    read_again (opening_of (terms_of (agreement_of e))) (opening_of e.terms) e.closing.role (after_drop e.dance.log)
    (h.sound.opening ∙ ap opening_of (sym (terms_again failure e h))) h.sound.opening h.sound.one_role h.log

-- ---- all of it

-- the log that is read
abbrev pub read_log : End → Log
read_log e = restored (record_form_of e.dance.log.first (after_drop e.dance.log))

loaded_log : (failure : Option Refusal) (e : End) → HasRecord failure e
    → log_in (items_of failure e) ≡ read_log e
unfolding items_of header_of
loaded_log failure e h = ap restored (loaded_told failure e h)

pub loaded_end : (failure : Option Refusal) (e : End) → HasRecord failure e
    → end_of (items_of failure e) ≡ with_dance (with_log (read_log e) e.dance) e
unfolding end_of items_of header_of progress_of agreement_of
loaded_end failure e h =
    let d = read_log e in
    let made : Log → Terms → Option ShortId → End = λ l t s.
    end_with (dance_of (header_of failure e) (commitments_of e.dance) l) e.closing t
    (record { short_id = s; ready_sent = e.readiness.ready_sent; ready_received = e.readiness.ready_received })
    e.ledger in
    let t = terms_of (agreement_of e) in
    let s = option_map short_id_of (option_map chain_place_of e.readiness.short_id) in
    ap (λ (l : Log). made l t s) (loaded_log failure e h)
    ∙ ap (λ (u : Terms). made d u s) (terms_again failure e h)
    ∙ ap (λ (u : Option ShortId). made d e.terms u) (place_again e.readiness.short_id h.output)

pub loaded : (failure : Option Refusal) (e : End) → HasRecord failure e
    → IsReadAgain (end_of (items_of failure e)) e
loaded failure e h =
    subst (λ (x : End). IsReadAgain x e) (sym (loaded_end failure e h))
    (record { log = is_read e.dance.log h.log; same_end = refl })

-- where it has all updates one by one
pub loaded_whole : (failure : Option Refusal) (e : End) → HasRecord failure e → e.dance.log.first ≡ none
    → end_of (items_of failure e) ≡ end_dropped e
loaded_whole failure e h all =
    loaded_end failure e h
    ∙ ap (λ (l : Log). with_dance (with_log l e.dance) e)
    (all_read (read_log e) e.dance.log (is_read e.dance.log h.log) all)

pub loadable : (failure : Option Refusal) (e : End) → HasRecord failure e → IsLoadable (items_of failure e)
unfolding items_of header_of progress_of agreement_of
loadable failure e h = record {
  updates = subst IsRestorable (sym (loaded_told failure e h)) h.log;
  fees = h.sound.fees;
  scripts = h.sound.scripts;
}
