-- What a store has of a link, over the link's calls.
use Rattle.std.proofs.Common.{refl, sym, ◌∙◌, ap, subst, inl, inr, ◌≡◌, ◌⊎◌, ℕ, List, [], ◌∷◌}
use Rattle.std.proofs.Common.{Bool, true, false, cond, ◌&&◌, ◌||◌}
use Rattle.std.proofs.Common.{Option, Some, None, is_none, not, Result, Ok, Err, if◌then◌else◌}
use Rattle.std.specs.FinMap as map
use Rattle.std.proofs.lemmas.Cmp.{eq_by_cmp_equiv, nat_list_cmp_total}
use Rattle.ln_msgs.specs.declared.messages.message.Message.{Message}
use Rattle.ln_refusals.specs.declared.refusal.Refusal.{Refusal}
use Rattle.ln_refusals.specs.declared.refusal.Refusal.TheVariants as refusal
use Rattle.ln_keys.specs.Signer.{Signer}
use Rattle.ln_log.specs.Log.{Log}
use Rattle.ln_log.specs.RecordForm.{record_form_of, IsRestorable}
use Rattle.ln_log.specs.declared.log.Side.{Side}
use Rattle.ln_channel.specs.declared.command.Command as command
use Rattle.ln_channel.specs.declared.output.Output.{Output}
use Rattle.ln_channel.specs.declared.machine.ConnectionState.{ConnectionState}
use Rattle.ln_channel.specs.declared.machine.ConnectionState.TheVariants.{Down}
use Rattle.ln_channel.specs.declared.machine.Stage.{Stage}
use Rattle.ln_channel.specs.declared.machine.Stage.TheVariants as stage
use Rattle.ln_channel.specs.Naming.{opens}
use Rattle.ln_channel.specs.Failing.{fails}
use Rattle.ln_channel.specs.End.{End, end_dropped}
use Rattle.ln_channel.specs.Record.{saved_end}
use Rattle.ln_channel.specs.State.{State, kept_channel, cut, drops, halts, failed, refused}
use Rattle.ln_channel.specs.State.{is_down}
use Rattle.ln_channel.specs.Step.{Done, Reaches, Answered, handled, opened, commanded, connected, connects}
use Rattle.ln_store.specs.Readable.{is_readable}
use Rattle.ln_store.specs.Record.{record_bytes}
use Rattle.ln_store.specs.Store.{Records, IsOneOf, StoreView}
use Rattle.ln_link.proofs.Refusing.{has_halted}
use Rattle.ln_link.specs.Record.{items_of}
use Rattle.ln_link.specs.Loading.{HasRecord}
use Rattle.ln_link.specs.Saving.{HasSaved, IsSaved, IsUnsaved, HandsOut, HaltsUnsaved, SavesFailure}
use Rattle.ln_link.specs.Saving.{SavesIf, fails_now, is_known, handled_beside, CannotTell, AnswersOver}
use Rattle.ln_link.specs.Saving.{HaltsBehind, HaltsRefused, FailsBy}
use Rattle.ln_link.specs.Saving.{stored_end, reached, settled, AnswersMessage, AnswersCommand}
use Rattle.ln_link.specs.Saving.{SavesChange, has_same_record, is_update, sends_update, taken_alone, sent_alone}
use Rattle.ln_link.specs.Calls.{Call, Handle, Command, Connect, DropConnection, Halt, Leads, Lead}
use Rattle.ln_link.specs.Calls.{Has, HasLink, HasChannel}
use Rattle.ln_link.proofs.Recorded.{recorded, lost_twice}
use Rattle.ln_link.proofs.Uncovered.{commanded_has, handled_has}

-- ---- what was saved is there

found : (rs : Records) (id bytes : List _) → map.get (map.insert rs id bytes) id ≡ Some bytes
found rs id bytes =
    map.get-insert nat_list_cmp_total rs id bytes id
    ∙ ap (λ (b : Bool). cond b (Some bytes) (map.get rs id))
    ((eq_by_cmp_equiv nat_list_cmp_total).refl id)

has_stored : (f : Option Refusal) (o : Option End) (rs : Records) → HasSaved f o → Has f o (stored_end f o rs)
has_stored f None rs h = tt
has_stored f (Some e) rs h = (found rs e.dance.channel (record_bytes (items_of f e)), h)

pub has_saved : (f : Option Refusal) (o : Option End) (s t : StoreView) → IsSaved f o s t → Has f o t.records
has_saved f o s t h =
    subst (Has f o) (sym (ap (λ (x : StoreView). x.records) h.1)) (has_stored f o s.records h.0)

-- ---- a lost connection changes nothing of it

dropped_has : (f : Option Refusal) (e : End) → HasRecord f e → HasRecord f (end_dropped e)
dropped_has f e h = record {
  sound = record {
    one_role = h.sound.one_role;
    opening = h.sound.opening;
    fees = h.sound.fees;
    scripts = h.sound.scripts;
  };
  open_channel = h.open_channel;
  accept_channel = h.accept_channel;
  output = h.output;
  log = subst (λ (l : Log). IsRestorable (record_form_of e.dance.log.first l)) (sym (lost_twice e.dance.log)) h.log;
  items = ap is_readable (recorded f e) ∙ h.items;
}

drop_end : (f : Option Refusal) (e : End) (rs : Records) → Has f (Some e) rs → Has f (Some (end_dropped e)) rs
drop_end f e rs h = (
  h.0 ∙ ap (λ i. Some (record_bytes i)) (sym (recorded f e)),
  dropped_has f e h.1,
)

cut_has : (f : Option Refusal) (s : Stage) (rs : Records) → Has f (saved_end s) rs → Has f (saved_end (cut s)) rs
cut_has f (stage.Funded e) rs h = drop_end f e rs h
cut_has f (stage.AwaitsOpen c) rs h = tt
cut_has f (stage.AwaitsAccept c) rs h = tt
cut_has f (stage.AwaitsCreated c) rs h = tt
cut_has f (stage.AwaitsSigned c) rs h = tt
cut_has f stage.Gone rs h = tt

drops_by : {K : Type 0} (keys : K) (b : Bool) (l : ConnectionState) (halted : Bool) (f : Option Refusal) (s : Stage)
    (t : StoreView) → Has f (saved_end s) t.records
    → HasLink (if b then record { keys = keys; connection = l; halted = halted; failure = f; stage = s }
    else record { keys = keys; connection = Down; halted = halted; failure = f; stage = cut s }) t
drops_by keys true l halted f s t h = h
drops_by keys false l halted f s t h = cut_has f s t.records h

drops_has : {K : Type 0} (l : State K) (t : StoreView) → HasLink l t → HasLink (drops l) t
drops_has l t h = drops_by l.keys (is_down l.connection) l.connection l.halted l.failure l.stage t h

-- ---- refusals

unchanged : {K : Type 0} (e : Refusal) (keys : K) (connection : ConnectionState) (halted : Bool)
    (f : Option Refusal) (s : Stage)
    → let l : State K = record { keys = keys; connection = connection; halted = halted; failure = f; stage = s } in
    fails_now e l ≡ false → refused e l ≡ l
unchanged e keys connection true f s h = refl
unchanged e keys connection false (Some r) s h = refl
unchanged e keys connection false None s h =
    ap (λ (b : Bool). if b then failed e (record
    { keys = keys; connection = connection; halted = false; failure = None; stage = s })
    else record { keys = keys; connection = connection; halted = false; failure = None; stage = s }) h

pub refused_by : {K : Type 0} (e : Refusal) (l : State K) (s t : StoreView) (b : Bool) → fails_now e l ≡ b
    → SavesIf b (refused e l).failure (saved_end (refused e l).stage) s t → HasLink l s
    → HasLink (refused e l) t
refused_by e l s t true is saved h = has_saved (refused e l).failure (saved_end (refused e l).stage) s t saved
refused_by e l s t false is same h =
    subst (λ (x : State _). HasLink x t) (sym (unchanged e l.keys l.connection l.halted l.failure l.stage is))
    (subst (HasLink l) (sym same) h)

-- ---- one call

abbrev pub Stays : {K : Type 0} → State K → StoreView → Type 0
Stays l s = (l.halted ≡ true) ⊎ HasLink l s

moved : {K : Type 0} (n m : State K) (s : StoreView) → n ≡ m → Stays m s → Stays n s
moved n m s e = subst (λ (x : State _). Stays x s) (sym e)

-- where the record is what it was, a store that has it has that of the link as the call leaves it
abbrev pub StaysRecorded : {K : Type 0} → (List Output → Option Side) → Result Done Refusal → State K → StoreView
    → Type 0
StaysRecorded brings said l s = (d : Done) → said ≡ Ok d → has_same_record (brings d.outputs) d.stage ≡ true
    → HasLink l s → HasLink (settled d l) s

pub message_recorded : {K : Type 0} (keys : Signer) (l : State K) (m : Message) (s : StoreView)
    → StaysRecorded (taken_alone (is_update m)) (handled_beside s.records keys l m) l s
message_recorded keys l m s d said same has = handled_has keys l m d s said same has

pub command_recorded : {K : Type 0} (keys : Signer) (l : State K) (c : command.Command) (s : StoreView)
    → StaysRecorded (λ os. sent_alone (sends_update c)) (commanded keys l c) l s
command_recorded keys l c s d said same has = commanded_has keys l c d s said same has

pub change_has : {K : Type 0} (d : Done) (l : State K) (x : Option Side) (s t : StoreView)
    → SavesChange x (reached d l) s t → (has_same_record x d.stage ≡ true → HasLink (settled d l) s)
    → HasLink (settled d l) t
change_has d l x s t saves same = by (has_same_record x d.stage) refl saves
  where
    by : (b : Bool) → has_same_record x d.stage ≡ b
        → SavesIf (not b) l.failure (saved_end (settled d l).stage) s t → HasLink (settled d l) t
    by false e saved = has_saved l.failure (saved_end (settled d l).stage) s t saved
    by true e still = subst (HasLink (settled d l)) (sym still) (same e)

handed : {K : Type 0} (brings : List Output → Option Side) (said : Result Done Refusal) (l n : State K)
    (os : List Output) (s t : StoreView) → StaysRecorded brings said l s → HandsOut brings (λ x. x) said l os n s t
    → HasLink l s → HasLink n t
handed brings (Ok d) l n os s t same h has =
    subst (λ (x : State _). HasLink x t) (sym h.1)
    (change_has d l (brings d.outputs) s t h.2 (λ e. same d refl e has))
handed brings (Err r) l n os s t same h has = absurd h

behind : {K : Type 0} (brings : List Output → Option Side) (e : Refusal) (said : Result Done Refusal) (l n : State K)
    (s t : StoreView) → HaltsBehind brings e said l n s t → n.halted ≡ true
behind brings e (Ok d) l n s t (inl h) = ap (λ (x : State _). x.halted) h.1
behind brings e (Ok d) l n s t (inr h) = ap (λ (x : State _). x.halted) h.1.0
behind brings e (Err r) l n s t h = absurd h

refusing : {K : Type 0} (e : Refusal) (said : Result Done Refusal) (l n : State K) (s t : StoreView)
    → HaltsRefused e said l n s t → n.halted ≡ true
refusing e (Ok d) l n s t h = absurd h
refusing e (Err r) l n s t h = ap (λ (x : State _). x.halted) h.1.0

message_stays : {K : Type 0} (said : Result Done Refusal) (l n : State K) (m : Message)
    (answer : Result (List Output) Refusal) (s t : StoreView) → StaysRecorded (taken_alone (is_update m)) said l s
    → AnswersMessage (λ x. x) said l m answer n s t → HasLink l s → Stays n t
message_stays said l n m (Ok os) s t same h has =
    inr (handed (taken_alone (is_update m)) said l n os s t same h has)
message_stays said l n m (Err e) s t same (inl h) has = inl (has_halted l n h.1)
message_stays said l n m (Err e) s t same (inr (inl h)) has =
    inl (behind (taken_alone (is_update m)) e said l n s t h)
message_stays said l n m (Err e) s t same (inr (inr (inl h))) has = inl (refusing e said l n s t h)
message_stays said l n m (Err e) s t same (inr (inr (inr h))) has =
    moved n (refused e l) t h.1 (inr (refused_by e l s t (fails_now e l) refl h.2 has))

command_stays : {K : Type 0} (said : Result Done Refusal) (l n : State K) (c : command.Command)
    (answer : Result (List Output) Refusal) (s t : StoreView)
    → StaysRecorded (λ os. sent_alone (sends_update c)) said l s → AnswersCommand (λ x. x) said l c answer n s t
    → HasLink l s → Stays n t
command_stays said l n c (Ok os) s t same h has =
    inr (handed (λ os. sent_alone (sends_update c)) said l n os s t same h has)
command_stays said l n c (Err e) s t same (inl h) has = inl (has_halted l n h.1)
command_stays said l n c (Err e) s t same (inr (inl h)) has =
    inl (behind (λ os. sent_alone (sends_update c)) e said l n s t h)
command_stays said l n c (Err e) s t same (inr (inr h)) has =
    moved n l t h.1 (inr (subst (HasLink l) (sym h.2) has))

-- a connection that comes keeps the end
abbrev end_in : Result Done Refusal → Option End
end_in (Ok d) = saved_end d.stage
end_in (Err r) = None

connects_end : (keys : Signer) (st : Stage) (d : Done) → connects keys st ≡ Ok d → saved_end d.stage ≡ saved_end st
connects_end keys (stage.Funded e) d is = sym (ap end_in is)
connects_end keys (stage.AwaitsOpen c) d is = sym (ap end_in is)
connects_end keys (stage.AwaitsAccept c) d is = sym (ap end_in is)
connects_end keys (stage.AwaitsCreated c) d is = sym (ap end_in is)
connects_end keys (stage.AwaitsSigned c) d is = sym (ap end_in is)
connects_end keys stage.Gone d is = sym (ap end_in is)

connected_end : (keys : Signer) (halted down : Bool) (st : Stage) (d : Done)
    → (if halted then Err refusal.Halted else (if down then connects keys st else Err refusal.NotReady)) ≡ Ok d
    → saved_end d.stage ≡ saved_end st
connected_end keys true down st d is = absurd (cc)
connected_end keys false true st d is = connects_end keys st d is
connected_end keys false false st d is = absurd (cc)

reached_stays : {K : Type 0} (said : Result Done Refusal) (l n : State K) (os : List Output) (s : StoreView)
    → ((d : Done) → said ≡ Ok d → saved_end d.stage ≡ saved_end l.stage) → Reaches (λ x. x) said l os n → HasLink l s
    → HasLink n s
reached_stays (Ok d) l n os s same h has =
    subst (λ (x : State _). HasLink x s) (sym h.1)
    (subst (λ o. Has l.failure o s.records) (sym (same d refl)) has)
reached_stays (Err r) l n os s same h has = absurd h

connect_stays : {K : Type 0} (keys : Signer) (l n : State K) (answer : Result (List Output) Refusal) (s : StoreView)
    → Answered (λ x. x) (connected keys l) l answer n → HasLink l s → Stays n s
connect_stays keys l n (Ok os) s h has =
    inr (reached_stays (connected keys l) l n os s
    (λ d is. connected_end keys l.halted (is_down l.connection) l.stage d is) h has)
connect_stays keys l n (Err e) s (inl h) has = inl (has_halted l n h.1)
connect_stays keys l n (Err e) s (inr h) has = moved n l s h.1 (inr has)

-- a message over a store
over_stays : {K : Type 0} (keys : Signer) (l n : State K) (m : Message) (answer : Result (List Output) Refusal)
    (s t : StoreView) → AnswersOver (λ x. x) keys l m answer n s t → HasLink l s → Stays n t
over_stays keys l n m (Ok os) s t h has =
    message_stays (handled_beside s.records keys l m) l n m (Ok os) s t (message_recorded keys l m s) h has
over_stays keys l n m (Err e) s t (inl h) has = inl (ap (λ (x : State _). x.halted) h.halts)
over_stays keys l n m (Err e) s t (inr h) has =
    message_stays (handled_beside s.records keys l m) l n m (Err e) s t (message_recorded keys l m s) h has

pub call_stays : {K : Type 0} (keys : Signer) (c : Call) (l k : State K) (s t : StoreView) → Leads keys c l s k t
    → HasLink l s → Stays k t
call_stays keys (Handle m) l k s t h has = over_stays keys l k m h.0 s t h.1 has
call_stays keys (Command c) l k s t h has =
    command_stays (commanded keys l c) l k c h.0 s t (command_recorded keys l c s) h.1 has
call_stays keys Connect l k s t h has =
    subst (Stays k) (sym h.2) (connect_stays keys l k h.0 s h.1 has)
call_stays keys DropConnection l k s t h has =
    subst (Stays k) (sym h.1) (moved k (drops l) s h.0 (inr (drops_has l s has)))
call_stays keys Halt l k s t h has = inl (ap (λ (x : State _). x.halted) h.0)

-- ---- a link that has halted

refused_halted : {K : Type 0} (e : Refusal) (l : State K) → l.halted ≡ true → refused e l ≡ l
refused_halted e l h =
    unchanged e l.keys l.connection l.halted l.failure l.stage
    (ap (λ (b : Bool). not b && (is_none l.failure && fails e)) h)

no_failure : {K : Type 0} (e : Refusal) (l : State K) (s t : StoreView) → l.halted ≡ true → SavesFailure e l s t → t ≡ s
no_failure e l s t h saves =
    subst (λ b. SavesIf b (refused e l).failure (saved_end (refused e l).stage) s t)
    (ap (λ (b : Bool). not b && (is_none l.failure && fails e)) h) saves

abbrev pub IsStill : {K : Type 0} → State K → StoreView → StoreView → Type 0
IsStill k s t = (k.halted ≡ true) × (t ≡ s)

still : {K : Type 0} (k l : State K) (s t : StoreView) → k ≡ l → l.halted ≡ true → t ≡ s → IsStill k s t
still k l s t e h same = (ap (λ (x : State _). x.halted) e ∙ h, same)

message_still : {K : Type 0} (said : Result Done Refusal) (l n : State K) (m : Message)
    (answer : Result (List Output) Refusal) (s t : StoreView) → said ≡ Err refusal.Halted → l.halted ≡ true
    → AnswersMessage (λ x. x) said l m answer n s t → IsStill n s t
message_still said l n m (Ok os) s t is h a =
    absurd (subst (λ r. HandsOut (taken_alone (is_update m)) (λ x. x) r l os n s t) is a)
message_still said l n m (Err e) s t is h (inl a) = (has_halted l n a.1, a.2)
message_still said l n m (Err e) s t is h (inr (inl a)) =
    absurd (subst (λ r. HaltsBehind (taken_alone (is_update m)) e r l n s t) is a)
message_still said l n m (Err e) s t is h (inr (inr (inl a))) =
    let f : HaltsRefused e (Err refusal.Halted) l n s t =
    subst (λ r. HaltsRefused e r l n s t) is a in
    let no : false ≡ true =
    sym (ap (λ (b : Bool). not b && (is_none l.failure && fails refusal.Halted)) h) ∙ f.0 in
    absurd (cc)
message_still said l n m (Err e) s t is h (inr (inr (inr a))) =
    still n l s t (a.1 ∙ refused_halted e l h) h (no_failure e l s t h a.2)

command_still : {K : Type 0} (said : Result Done Refusal) (l n : State K) (c : command.Command)
    (answer : Result (List Output) Refusal) (s t : StoreView) → said ≡ Err refusal.Halted → l.halted ≡ true
    → AnswersCommand (λ x. x) said l c answer n s t → IsStill n s t
command_still said l n c (Ok os) s t is h a =
    absurd (subst (λ r. HandsOut (λ os. sent_alone (sends_update c)) (λ x. x) r l os n s t) is a)
command_still said l n c (Err e) s t is h (inl a) = (has_halted l n a.1, a.2)
command_still said l n c (Err e) s t is h (inr (inl a)) =
    absurd (subst (λ r. HaltsBehind (λ os. sent_alone (sends_update c)) e r l n s t) is a)
command_still said l n c (Err e) s t is h (inr (inr a)) = still n l s t a.1 h a.2

said_halted : {A : Type 0} (b : Bool) (row : Result A Refusal) → b ≡ true
    → (if b then Err refusal.Halted else row) ≡ Err refusal.Halted
said_halted true row h = refl
said_halted false row h = absurd (cc)

connect_still : {K : Type 0} (keys : Signer) (l n : State K) (answer : Result (List Output) Refusal) (s : StoreView)
    → l.halted ≡ true → Answered (λ x. x) (connected keys l) l answer n → n.halted ≡ true
connect_still keys l n (Ok os) s h a =
    absurd (subst (λ r. Reaches (λ x. x) r l os n) (said_halted l.halted _ h) a)
connect_still keys l n (Err e) s h (inl a) = has_halted l n a.1
connect_still keys l n (Err e) s h (inr a) = ap (λ (x : State _). x.halted) a.1 ∙ h

drops_still : {K : Type 0} (l : State K) → l.halted ≡ true → (drops l).halted ≡ true
drops_still l h = by (is_down l.connection) l h
  where
    by : {K : Type 0} (b : Bool) (l : State K) → l.halted ≡ true
        → (if b then l else record l { connection = Down; stage = cut l.stage }).halted ≡ true
    by true l h = h
    by false l h = h

-- a link that has halted opens no channel
opens_none : {K : Type 0} (l : State K) (m : Message) → l.halted ≡ true → opened l m ≡ None
opens_none l m h = ap (λ (b : Bool). if b || not (is_none l.failure) then None else opens l.stage m) h

over_still : {K : Type 0} (keys : Signer) (l n : State K) (m : Message) (answer : Result (List Output) Refusal)
    (s t : StoreView) → l.halted ≡ true → AnswersOver (λ x. x) keys l m answer n s t → IsStill n s t
over_still keys l n m answer s t halted h = by answer h
  where
    says : handled_beside s.records keys l m ≡ Err refusal.Halted
    says =
        ap (λ (o : Option (List ℕ)). if is_known o s.records then Err refusal.OutOfPlace else handled keys l m)
        (opens_none l m halted)
        ∙ said_halted l.halted _ halted

    by : (r : Result (List Output) Refusal) → AnswersOver (λ x. x) keys l m r n s t → IsStill n s t
    by (Ok os) a = message_still (handled_beside s.records keys l m) l n m (Ok os) s t says halted a
    by (Err e) (inl a) =
        absurd (subst (λ o. CannotTell e o s.failed t.failed) (opens_none l m halted) a.cause)
    by (Err e) (inr a) = message_still (handled_beside s.records keys l m) l n m (Err e) s t says halted a

pub call_still : {K : Type 0} (keys : Signer) (c : Call) (l k : State K) (s t : StoreView) → Leads keys c l s k t
    → l.halted ≡ true → IsStill k s t
call_still keys (Handle m) l k s t h halted =
    over_still keys l k m h.0 s t halted h.1
call_still keys (Command c) l k s t h halted =
    command_still (commanded keys l c) l k c h.0 s t (said_halted l.halted _ halted) halted h.1
call_still keys Connect l k s t h halted = (connect_still keys l k h.0 s halted h.1, h.2)
call_still keys DropConnection l k s t h halted =
    (ap (λ (x : State _). x.halted) h.0 ∙ drops_still l halted, h.1)
call_still keys Halt l k s t h halted = (ap (λ (x : State _). x.halted) h.0, h.1)

-- ---- all calls

stays : {K : Type 0} (keys : Signer) (cs : List Call) (l n : State K) (s t : StoreView) → Lead keys cs l s n t
    → Stays l s → Stays n t
stays keys [] l n s t h has = moved n l t h.0 (subst (Stays l) (sym h.1) has)
stays keys (c ∷ cs) l n s t h (inl halted) =
    stays keys cs h.0 n h.1 t h.4 (inl (call_still keys c l h.0 s h.1 h.2 halted).0)
stays keys (c ∷ cs) l n s t h (inr has) =
    stays keys cs h.0 n h.1 t h.4 (call_stays keys c l h.0 s h.1 h.2 has)

-- the store has the record of a link that hasn't halted
pub has_record : {K : Type 0} (keys : Signer) (cs : List Call) (l n : State K) (s t : StoreView) → HasLink l s
    → Lead keys cs l s n t → n.halted ≡ false → HasLink n t
has_record keys cs l n s t has h up = by (stays keys cs l n s t h (inr has))
  where
    by : Stays n t → HasLink n t
    by (inl halted) = absurd (cc)
    by (inr x) = x

-- ---- there always is a record of the channel

of_stage : (c : List ℕ) (f : Option Refusal) (st : Stage) (s : StoreView) → kept_channel st ≡ Some c
    → Has f (saved_end st) s.records → HasChannel c s
of_stage c f (stage.Funded e) s is has = (f, e, (let p : Some e.dance.channel ≡ Some c = is in cc), has)
of_stage c f (stage.AwaitsOpen x) s is has = absurd (cc)
of_stage c f (stage.AwaitsAccept x) s is has = absurd (cc)
of_stage c f (stage.AwaitsCreated x) s is has = absurd (cc)
of_stage c f (stage.AwaitsSigned x) s is has = absurd (cc)
of_stage c f stage.Gone s is has = absurd (cc)

-- a lost connection leaves an end of the same channel
cut_channel : (st : Stage) → kept_channel (cut st) ≡ kept_channel st
cut_channel (stage.Funded e) = refl
cut_channel (stage.AwaitsOpen x) = refl
cut_channel (stage.AwaitsAccept x) = refl
cut_channel (stage.AwaitsCreated x) = refl
cut_channel (stage.AwaitsSigned x) = refl
cut_channel stage.Gone = refl

halts_channel : {K : Type 0} (l : State K) → kept_channel (halts l).stage ≡ kept_channel l.stage
halts_channel l = by (is_down l.connection) l
  where
    by : {K : Type 0} (b : Bool) (l : State K)
        → kept_channel (if b then l else record l { connection = Down; stage = cut l.stage }).stage
        ≡ kept_channel l.stage
    by true l = refl
    by false l = cut_channel l.stage

pub new_records : (e : Refusal) (f : Option Refusal) (o : Option End) (s t : StoreView) → IsUnsaved e f o s t
    → (t.records ≡ s.records) ⊎ Has f o t.records
new_records e f o s t u = by u.cause u.one_of_both
  where
    put : HasSaved f o → t.records ≡ stored_end f o s.records → Has f o t.records
    put h is = subst (Has f o) (sym is) (has_stored f o s.records h)

    by : FailsBy e f o s.failed t.failed → IsOneOf e s.records (stored_end f o s.records) t.records
        → (t.records ≡ s.records) ⊎ Has f o t.records
    by c (inl same) = inl same
    by (inl m) (inr n) =
        absurd (let a = m.0 in let b = n.0 in let no : refusal.Memory ≡ refusal.Store = sym a ∙ b in cc)
    by (inr (inl m)) (inr n) =
        absurd (let a = m.0 in let b = n.0 in let no : refusal.Damaged ≡ refusal.Store = sym a ∙ b in cc)
    by (inr (inr m)) (inr n) = inr (put m.1 n.1)

same_records : (c : List ℕ) (s t : StoreView) → t.records ≡ s.records → HasChannel c s → HasChannel c t
same_records c s t is h = (h.0, h.1, h.2, subst (Has h.0 (Some h.1)) (sym is) h.3)

unsaved_channel : {K : Type 0} (c : List ℕ) (e : Refusal) (m n : State K) (s t : StoreView) → HaltsUnsaved e m n s t
    → kept_channel n.stage ≡ Some c → HasChannel c s → HasChannel c t
unsaved_channel c e m n s t h kept has = by (new_records e m.failure (saved_end m.stage) s t h.1)
  where
    by : (t.records ≡ s.records) ⊎ Has m.failure (saved_end m.stage) t.records → HasChannel c t
    by (inl same) = same_records c s t same has
    by (inr new) = of_stage c m.failure m.stage t
        (sym (halts_channel m) ∙ ap (λ (x : State _). kept_channel x.stage) (sym h.0) ∙ kept) new

-- a store view that a call left as it was
as_it_was : (c : List ℕ) (s t : StoreView) → t ≡ s → HasChannel c s → HasChannel c t
as_it_was c s t is h = subst (HasChannel c) (sym is) h

behind_channel : {K : Type 0} (c : List ℕ) (brings : List Output → Option Side) (e : Refusal)
    (said : Result Done Refusal) (l n : State K) (s t : StoreView) → HaltsBehind brings e said l n s t
    → kept_channel n.stage ≡ Some c → HasChannel c s → HasChannel c t
behind_channel c brings e (Ok d) l n s t (inl h) kept has = as_it_was c s t h.2 has
behind_channel c brings e (Ok d) l n s t (inr h) kept has = unsaved_channel c e (settled d l) n s t h.1 kept has
behind_channel c brings e (Err r) l n s t h kept has = absurd h

refusing_channel : {K : Type 0} (c : List ℕ) (e : Refusal) (said : Result Done Refusal) (l n : State K)
    (s t : StoreView)
    → HaltsRefused e said l n s t → kept_channel n.stage ≡ Some c → HasChannel c s → HasChannel c t
refusing_channel c e (Ok d) l n s t h kept has = absurd h
refusing_channel c e (Err r) l n s t h kept has = unsaved_channel c e (refused r l) n s t h.1 kept has

-- what a call leaves of a link whose store has its record
of_link : {K : Type 0} (c : List ℕ) (n : State K) (t : StoreView) → kept_channel n.stage ≡ Some c → HasLink n t
    → HasChannel c t
of_link c n t kept has = of_stage c n.failure n.stage t kept has

message_channel : {K : Type 0} (c : List ℕ) (said : Result Done Refusal) (l n : State K) (m : Message)
    (answer : Result (List Output) Refusal) (s t : StoreView) → StaysRecorded (taken_alone (is_update m)) said l s
    → AnswersMessage (λ x. x) said l m answer n s t → HasLink l s
    → kept_channel n.stage ≡ Some c → HasChannel c s → HasChannel c t
message_channel c said l n m (Ok os) s t same h has kept old =
    of_link c n t kept (handed (taken_alone (is_update m)) said l n os s t same h has)
message_channel c said l n m (Err e) s t same (inl h) has kept old = as_it_was c s t h.2 old
message_channel c said l n m (Err e) s t same (inr (inl h)) has kept old =
    behind_channel c (taken_alone (is_update m)) e said l n s t h kept old
message_channel c said l n m (Err e) s t same (inr (inr (inl h))) has kept old =
    refusing_channel c e said l n s t h kept old
message_channel c said l n m (Err e) s t same (inr (inr (inr h))) has kept old =
    of_link c n t kept (subst (λ (x : State _). HasLink x t) (sym h.1)
    (refused_by e l s t (fails_now e l) refl h.2 has))

command_channel : {K : Type 0} (c : List ℕ) (said : Result Done Refusal) (l n : State K) (x : command.Command)
    (answer : Result (List Output) Refusal) (s t : StoreView)
    → StaysRecorded (λ os. sent_alone (sends_update x)) said l s → AnswersCommand (λ y. y) said l x answer n s t
    → HasLink l s → kept_channel n.stage ≡ Some c → HasChannel c s → HasChannel c t
command_channel c said l n x (Ok os) s t same h has kept old =
    of_link c n t kept (handed (λ os. sent_alone (sends_update x)) said l n os s t same h has)
command_channel c said l n x (Err e) s t same (inl h) has kept old = as_it_was c s t h.2 old
command_channel c said l n x (Err e) s t same (inr (inl h)) has kept old =
    behind_channel c (λ os. sent_alone (sends_update x)) e said l n s t h kept old
command_channel c said l n x (Err e) s t same (inr (inr h)) has kept old = as_it_was c s t h.2 old

over_channel : {K : Type 0} (c : List ℕ) (keys : Signer) (l n : State K) (m : Message)
    (answer : Result (List Output) Refusal) (s t : StoreView) → AnswersOver (λ x. x) keys l m answer n s t → HasLink l s
    → kept_channel n.stage ≡ Some c → HasChannel c s → HasChannel c t
over_channel c keys l n m (Ok os) s t h has kept old =
    message_channel c (handled_beside s.records keys l m) l n m (Ok os) s t (message_recorded keys l m s) h has kept old
over_channel c keys l n m (Err e) s t (inl h) has kept old = same_records c s t h.records old
over_channel c keys l n m (Err e) s t (inr h) has kept old =
    message_channel c (handled_beside s.records keys l m) l n m (Err e) s t (message_recorded keys l m s) h has kept old

call_channel : {K : Type 0} (keys : Signer) (c : List ℕ) (x : Call) (l k : State K) (s t : StoreView)
    → Leads keys x l s k t → HasLink l s → kept_channel k.stage ≡ Some c → HasChannel c s → HasChannel c t
call_channel keys c (Handle m) l k s t h has kept old =
    over_channel c keys l k m h.0 s t h.1 has kept old
call_channel keys c (Command x) l k s t h has kept old =
    command_channel c (commanded keys l x) l k x h.0 s t (command_recorded keys l x s) h.1 has kept old
call_channel keys c Connect l k s t h has kept old = as_it_was c s t h.2 old
call_channel keys c DropConnection l k s t h has kept old = as_it_was c s t h.1 old
call_channel keys c Halt l k s t h has kept old = as_it_was c s t h.1 old

channel_stays : {K : Type 0} (keys : Signer) (c : List ℕ) (xs : List Call) (l n : State K) (s t : StoreView)
    → Lead keys xs l s n t → Stays l s → kept_channel l.stage ≡ Some c → HasChannel c s → HasChannel c t
channel_stays keys c [] l n s t h has kept old = as_it_was c s t h.1 old
channel_stays keys c (x ∷ xs) l n s t h (inl halted) kept old =
    let k = call_still keys x l h.0 s h.1 h.2 halted in
    channel_stays keys c xs h.0 n h.1 t h.4 (inl k.0) (h.3 c kept) (as_it_was c s h.1 k.1 old)
channel_stays keys c (x ∷ xs) l n s t h (inr has) kept old =
    channel_stays keys c xs h.0 n h.1 t h.4 (call_stays keys x l h.0 s h.1 h.2 has) (h.3 c kept)
    (call_channel keys c x l h.0 s h.1 h.2 has (h.3 c kept) old)

-- the store always has one of the channel, whatever failed
pub has_channel : {K : Type 0} (keys : Signer) (c : List ℕ) (xs : List Call) (l n : State K) (s t : StoreView)
    → HasLink l s → kept_channel l.stage ≡ Some c → Lead keys xs l s n t → HasChannel c t
has_channel keys c xs l n s t has kept h =
    channel_stays keys c xs l n s t h (inr has) kept (of_link c l s kept has)
