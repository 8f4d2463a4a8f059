-- What a store has of a link that has halted: the record of what it was before the call by which it did, or of what
-- that call made of it.
use Rattle.std.proofs.Common.{refl, sym, ◌∙◌, ap, subst, inl, inr, ◌≡◌, ◌⊎◌, List, [], ◌∷◌, Bool, true, false}
use Rattle.std.proofs.Common.{Option, Result, Ok, Err}
use Rattle.ln_msgs.specs.declared.messages.message.Message.{Message}
use Rattle.ln_refusals.specs.declared.refusal.Refusal.{Refusal}
use Rattle.ln_keys.specs.Signer.{Signer}
use Rattle.ln_log.specs.declared.log.Side.{Side}
use Rattle.ln_channel.specs.declared.command.Command as command
use Rattle.ln_channel.specs.declared.output.Output.{Output}
use Rattle.ln_channel.specs.Record.{saved_end}
use Rattle.ln_channel.specs.State.{State, refused}
use Rattle.ln_channel.specs.Step.{Done, commanded}
use Rattle.ln_store.specs.Store.{StoreView}
use Rattle.ln_link.specs.Saving.{HandsOut, HaltsUnsaved, HaltsBehind, HaltsRefused, SavesFailure, fails_now}
use Rattle.ln_link.specs.Saving.{AnswersMessage, AnswersCommand, AnswersOver, handled_beside, settled}
use Rattle.ln_link.specs.Saving.{is_update, sends_update, taken_alone, sent_alone}
use Rattle.ln_link.specs.Calls.{Call, Handle, Command, Connect, DropConnection, Halt, Leads, Lead}
use Rattle.ln_link.specs.Calls.{Has, HasLink, left_by, made_by, HaltsWithRecord}
use Rattle.ln_link.proofs.Calls.{Stays, StaysRecorded, refused_by, message_recorded, command_recorded, change_has}
use Rattle.ln_link.proofs.Calls.{call_stays, call_still, new_records}

-- ---- one call

-- the record of before, or that of what the call made
abbrev HasOne : {K : Type 0} → State K → State K → StoreView → Type 0
HasOne l made t = HasLink l t ⊎ HasLink made t

as_before : {K : Type 0} (l made : State K) (s t : StoreView) → t ≡ s → HasLink l s → HasOne l made t
as_before l made s t is has = inl (subst (HasLink l) (sym is) has)

handed_one : {K : Type 0} (brings : List Output → Option Side) (said : Result Done Refusal)
    (refusing : Refusal → State K) (l n : State K) (os : List Output) (s t : StoreView) → StaysRecorded brings said l s
    → HandsOut brings (λ x. x) said l os n s t → HasLink l s → HasOne l (left_by said refusing l) t
handed_one brings (Ok d) refusing l n os s t same h has =
    inr (change_has d l (brings d.outputs) s t h.2 (λ e. same d refl e has))
handed_one brings (Err r) refusing l n os s t same h has = absurd h

unsaved_one : {K : Type 0} (e : Refusal) (l m n : State K) (s t : StoreView) → HaltsUnsaved e m n s t → HasLink l s
    → HasOne l m t
unsaved_one e l m n s t h has = by (new_records e m.failure (saved_end m.stage) s t h.1)
  where
    by : (t.records ≡ s.records) ⊎ Has m.failure (saved_end m.stage) t.records → HasOne l m t
    by (inl same) = inl (subst (Has l.failure (saved_end l.stage)) (sym same) has)
    by (inr new) = inr new

behind_one : {K : Type 0} (brings : List Output → Option Side) (e : Refusal) (said : Result Done Refusal)
    (refusing : Refusal → State K) (l n : State K) (s t : StoreView) → HaltsBehind brings e said l n s t → HasLink l s
    → HasOne l (left_by said refusing l) t
behind_one brings e (Ok d) refusing l n s t (inl h) has = as_before l (settled d l) s t h.2 has
behind_one brings e (Ok d) refusing l n s t (inr h) has = unsaved_one e l (settled d l) n s t h.1 has
behind_one brings e (Err r) refusing l n s t h has = absurd h

refused_one : {K : Type 0} (e : Refusal) (said : Result Done Refusal) (l n : State K) (s t : StoreView)
    → HaltsRefused e said l n s t → HasLink l s → HasOne l (left_by said (λ r. refused r l) l) t
refused_one e (Ok d) l n s t h has = absurd h
refused_one e (Err r) l n s t h has = unsaved_one e l (refused r l) n s t h.1 has

kept_one : {K : Type 0} (e : Refusal) (said : Result Done Refusal) (l : State K) (s t : StoreView) → said ≡ Err e
    → SavesFailure e l s t → HasLink l s → HasOne l (left_by said (λ r. refused r l) l) t
kept_one e said l s t is saves has =
    subst (λ (r : Result Done Refusal). HasOne l (left_by r (λ x. refused x l) l) t) (sym is)
    (inr (refused_by e l s t (fails_now e l) refl saves has))

message_one : {K : Type 0} (said : Result Done Refusal) (l n : State K) (m : Message)
    (answer : Result (List Output) Refusal) (s t : StoreView) → StaysRecorded (taken_alone (is_update m)) said l s
    → AnswersMessage (λ x. x) said l m answer n s t → HasLink l s → HasOne l (left_by said (λ r. refused r l) l) t
message_one said l n m (Ok os) s t same h has =
    handed_one (taken_alone (is_update m)) said (λ r. refused r l) l n os s t same h has
message_one said l n m (Err e) s t same (inl h) has = as_before l (left_by said (λ r. refused r l) l) s t h.2 has
message_one said l n m (Err e) s t same (inr (inl h)) has =
    behind_one (taken_alone (is_update m)) e said (λ r. refused r l) l n s t h has
message_one said l n m (Err e) s t same (inr (inr (inl h))) has = refused_one e said l n s t h has
message_one said l n m (Err e) s t same (inr (inr (inr h))) has = kept_one e said l s t h.0 h.2 has

command_one : {K : Type 0} (said : Result Done Refusal) (l n : State K) (c : command.Command)
    (answer : Result (List Output) Refusal) (s t : StoreView)
    → StaysRecorded (λ os. sent_alone (sends_update c)) said l s → AnswersCommand (λ x. x) said l c answer n s t
    → HasLink l s → HasOne l (left_by said (λ r. l) l) t
command_one said l n c (Ok os) s t same h has =
    handed_one (λ os. sent_alone (sends_update c)) said (λ r. l) l n os s t same h has
command_one said l n c (Err e) s t same (inl h) has = as_before l (left_by said (λ r. l) l) s t h.2 has
command_one said l n c (Err e) s t same (inr (inl h)) has =
    behind_one (λ os. sent_alone (sends_update c)) e said (λ r. l) l n s t h has
command_one said l n c (Err e) s t same (inr (inr h)) has = as_before l (left_by said (λ r. l) l) s t h.2 has

over_one : {K : Type 0} (keys : Signer) (l n : State K) (m : Message) (answer : Result (List Output) Refusal)
    (s t : StoreView) → AnswersOver (λ x. x) keys l m answer n s t → HasLink l s
    → HasOne l (made_by keys (Handle m) l s) t
over_one keys l n m (Ok os) s t h has =
    message_one (handled_beside s.records keys l m) l n m (Ok os) s t (message_recorded keys l m s) h has
over_one keys l n m (Err e) s t (inl h) has =
    inl (subst (Has l.failure (saved_end l.stage)) (sym h.records) has)
over_one keys l n m (Err e) s t (inr h) has =
    message_one (handled_beside s.records keys l m) l n m (Err e) s t (message_recorded keys l m s) h has

call_one : {K : Type 0} (keys : Signer) (c : Call) (l k : State K) (s t : StoreView)
    → Leads keys c l s k t → HasLink l s
    → HasOne l (made_by keys c l s) t
call_one keys (Handle m) l k s t h has = over_one keys l k m h.0 s t h.1 has
call_one keys (Command c) l k s t h has =
    command_one (commanded keys l c) l k c h.0 s t (command_recorded keys l c s) h.1 has
call_one keys Connect l k s t h has = as_before l l s t h.2 has
call_one keys DropConnection l k s t h has = as_before l l s t h.1 has
call_one keys Halt l k s t h has = as_before l l s t h.1 has

-- ---- all calls

-- after a halt nothing is saved
all_still : {K : Type 0} (keys : Signer) (cs : List Call) (l n : State K) (s t : StoreView) → Lead keys cs l s n t
    → l.halted ≡ true → t ≡ s
all_still keys [] l n s t h halted = h.1
all_still keys (c ∷ cs) l n s t h halted =
    let k = call_still keys c l h.0 s h.1 h.2 halted in
    all_still keys cs h.0 n h.1 t h.4 k.0 ∙ k.1

up_has : {K : Type 0} (k : State K) (s : StoreView) → Stays k s → k.halted ≡ false → HasLink k s
up_has k s (inl halted) up = absurd (cc)
up_has k s (inr has) up = has

-- one call more in front
behind_call : {K : Type 0} (keys : Signer) (c : Call) (cs : List Call) (l n : State K) (s t : StoreView)
    (h : Lead keys (c ∷ cs) l s n t) → HaltsWithRecord keys cs h.0 h.1 t → HaltsWithRecord keys (c ∷ cs) l s t
behind_call keys c cs l n s t h r = record {
  before = c ∷ r.before;
  call = r.call;
  rest = r.rest;
  are_all = ap (λ xs. c ∷ xs) r.are_all;
  old = r.old;
  found = r.found;
  leads = (h.0, h.1, h.2, h.3, r.leads);
  works = r.works;
  new = r.new;
  left = r.left;
  makes = r.makes;
  halts = r.halts;
  has_one = r.has_one;
}

-- this call halts it
at_call : {K : Type 0} (keys : Signer) (c : Call) (cs : List Call) (l n : State K) (s t : StoreView)
    (h : Lead keys (c ∷ cs) l s n t) → HasLink l s → l.halted ≡ false → h.0.halted ≡ true
    → HaltsWithRecord keys (c ∷ cs) l s t
at_call keys c cs l n s t h has up halted = record {
  before = [];
  call = c;
  rest = cs;
  are_all = refl;
  old = l;
  found = s;
  leads = (refl, refl);
  works = up;
  new = h.0;
  left = h.1;
  makes = h.2;
  halts = halted;
  has_one = subst (HasOne l (made_by keys c l s)) (sym (all_still keys cs h.0 n h.1 t h.4 halted))
      (call_one keys c l h.0 s h.1 h.2 has);
}

pub halts_with_record : {K : Type 0} (keys : Signer) (cs : List Call) (l n : State K) (s t : StoreView) → HasLink l s
    → l.halted ≡ false → Lead keys cs l s n t → n.halted ≡ true → HaltsWithRecord keys cs l s t
halts_with_record keys [] l n s t has up h down =
    absurd (let p : l.halted ≡ true = sym (ap (λ (x : State _). x.halted) h.0) ∙ down in cc)
halts_with_record keys (c ∷ cs) l n s t has up h down =
    by h.0.halted refl (λ works. halts_with_record keys cs h.0 n h.1 t
    (up_has h.0 h.1 (call_stays keys c l h.0 s h.1 h.2 has) works) works h.4 down)
  where
    by : (b : Bool) → h.0.halted ≡ b → (h.0.halted ≡ false → HaltsWithRecord keys cs h.0 h.1 t)
        → HaltsWithRecord keys (c ∷ cs) l s t
    by true halted rest = at_call keys c cs l n s t h has up halted
    by false works rest = behind_call keys c cs l n s t h (rest works)
