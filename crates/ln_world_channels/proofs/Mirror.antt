-- A channel of two links beside a pair of ends: the links are saved at these ends, and what is in flight is the same
-- but for warnings, which a link passes over.
use Rattle.std.proofs.Common.{◌≡◌, ◌⊎◌, ℕ, List, [], ◌∷◌, ◌++◌, refl, sym, ap, ◌∙◌, subst, Bool, true, false, cond}
use Rattle.std.proofs.Common.{Some, None, inr, append-nil}
use Rattle.ln_msgs.specs.declared.messages.message.Message.{Message}
use Rattle.ln_msgs.specs.declared.messages.message.Message.TheVariants as message
use Rattle.ln_channel.specs.declared.machine.ConnectionState.{ConnectionState}
use Rattle.ln_channel.specs.declared.machine.ConnectionState.TheVariants.{Down, AwaitingReestablish, Connected}
use Rattle.ln_channel.specs.declared.machine.Stage.{Stage}
use Rattle.ln_channel.specs.declared.machine.Stage.TheVariants as stage
use Rattle.ln_channel.specs.Naming.{named}
use Rattle.ln_channel.specs.End.{End}
use Rattle.ln_channel.specs.State.{State, is_down}
use Rattle.ln_channel.specs.Step.{is_passed_over, error_fault}
use Rattle.ln_channel_laws.specs.Ends.{Ends, arrive}
use Rattle.ln_channel_laws.specs.Ends as pair
use Rattle.ln_world_channels.specs.Both.{Both, SimEnd, reaches, swapped}
use Rattle.ln_world_channels.proofs.Named.{Names}

-- a link of an open channel, which hasn't failed; it may have halted
abbrev pub link_at : {K : Type 0} → Bool → K → ConnectionState → End → State K
link_at halted k l e = record { keys = k; connection = l; halted = halted; failure = None; stage = stage.Funded e }

abbrev pub link_of : {K : Type 0} → K → ConnectionState → End → State K
link_of k l e = link_at false k l e

abbrev pub is_warning : Message → Bool
is_warning (message.Warning m) = true
is_warning m = false

abbrev pub without_warnings : List Message → List Message
without_warnings [] = []
without_warnings (m ∷ ms) = cond (is_warning m) (without_warnings ms) (m ∷ without_warnings ms)

-- each is a warning, or names this channel
abbrev pub AreIn : List ℕ → List Message → Type 0
AreIn id [] = Unit {0}
AreIn id (m ∷ ms) = ((is_warning m ≡ true) ⊎ (named m ≡ Some id)) × AreIn id ms

pub record IsInbox (id : List ℕ) (l : ConnectionState) (inbox to : List Message) : Type 0 where
  pub told : without_warnings inbox ≡ to
  pub named : AreIn id inbox
  pub down : is_down l ≡ true → inbox ≡ []

pub record Mirrors {K : Type 0} (id : List ℕ) (kx ky : K) (p : Both K) (q : Ends) : Type 0 where
  pub x_halted : Bool
  pub y_halted : Bool
  pub x_link : p.x.link ≡ link_at x_halted kx q.x_line q.x
  pub y_link : p.y.link ≡ link_at y_halted ky q.y_line q.y
  pub x_down : x_halted ≡ true → is_down q.x_line ≡ true
  pub y_down : y_halted ≡ true → is_down q.y_line ≡ true
  pub x_in : IsInbox id q.x_line p.x.inbox q.to_x
  pub y_in : IsInbox id q.y_line p.y.inbox q.to_y
  pub x_channel : q.x.dance.channel ≡ id
  pub y_channel : q.y.dance.channel ≡ id
  pub x_keys : p.x.keys ≡ kx
  pub y_keys : p.y.keys ≡ ky

pub flipped : {K : Type 0} (id : List ℕ) (kx ky : K) (p : Both K) (q : Ends) → Mirrors id kx ky p q
    → Mirrors id ky kx (swapped p) (pair.turned q)
flipped id kx ky p q h = record {
  x_halted = h.y_halted;
  y_halted = h.x_halted;
  x_link = h.y_link;
  y_link = h.x_link;
  x_down = h.y_down;
  y_down = h.x_down;
  x_in = h.y_in;
  y_in = h.x_in;
  x_channel = h.y_channel;
  y_channel = h.x_channel;
  x_keys = h.y_keys;
  y_keys = h.x_keys;
}

-- ---- a link that has halted has no connection

none_halts : (b : Bool) (l : ConnectionState) → (b ≡ true → is_down l ≡ true) → is_down l ≡ false → b ≡ false
none_halts false l h up = refl
none_halts true l h up = absurd (let no : true ≡ false = sym (h refl) ∙ up in cc)

module _ {K : Type 0} (id : List ℕ) (kx ky : K) (p : Both K) (q : Ends) where
  -- so one that has a connection works
  pub is_awake : Mirrors id kx ky p q → is_down q.x_line ≡ false → p.x.link ≡ link_of kx q.x_line q.x
  is_awake h up =
      h.x_link ∙ ap (λ b. link_at b kx q.x_line q.x) (none_halts h.x_halted q.x_line h.x_down up)

  pub unless_halted : Mirrors id kx ky p q → p.x.link.halted ≡ false → p.x.link ≡ link_of kx q.x_line q.x
  unless_halted h works =
      h.x_link ∙ ap (λ b. link_at b kx q.x_line q.x) (ap (λ (l : State K). l.halted) (sym h.x_link) ∙ works)

-- ---- what names a channel is a message of it

pub record IsPlain (m : Message) : Type 0 where
  pub warning : is_warning m ≡ false
  pub passed : (s : Stage) → is_passed_over s m ≡ false
  pub error : error_fault m ≡ None

pub plain : (id : List ℕ) (m : Message) → named m ≡ Some id → IsPlain m
plain id (message.Warning m) e = absurd (cc)
plain id (message.Init m) e = absurd (cc)
plain id (message.Error m) e = absurd (cc)
plain id (message.Ping m) e = absurd (cc)
plain id (message.Pong m) e = absurd (cc)
plain id (message.OpenChannel m) e = absurd (cc)
plain id (message.AcceptChannel m) e = absurd (cc)
plain id (message.FundingCreated m) e = absurd (cc)
plain id (message.FundingSigned m) e = record { warning = refl; passed = λ s. refl; error = refl }
plain id (message.ChannelReady m) e = record { warning = refl; passed = λ s. refl; error = refl }
plain id (message.Shutdown m) e = record { warning = refl; passed = λ s. refl; error = refl }
plain id (message.ClosingSigned m) e = record { warning = refl; passed = λ s. refl; error = refl }
plain id (message.UpdateAddHtlc m) e = record { warning = refl; passed = λ s. refl; error = refl }
plain id (message.UpdateFulfillHtlc m) e = record { warning = refl; passed = λ s. refl; error = refl }
plain id (message.UpdateFailHtlc m) e = record { warning = refl; passed = λ s. refl; error = refl }
plain id (message.UpdateFailMalformedHtlc m) e = record { warning = refl; passed = λ s. refl; error = refl }
plain id (message.UpdateFee m) e = record { warning = refl; passed = λ s. refl; error = refl }
plain id (message.CommitmentSigned m) e = record { warning = refl; passed = λ s. refl; error = refl }
plain id (message.RevokeAndAck m) e = record { warning = refl; passed = λ s. refl; error = refl }
plain id (message.ChannelReestablish m) e = record { warning = refl; passed = λ s. refl; error = refl }

-- ---- what joins

joins_behind : (b : Bool) (m : Message) (xs ys : List Message)
    → cond b (xs ++ ys) (m ∷ xs ++ ys) ≡ cond b xs (m ∷ xs) ++ ys
joins_behind true m xs ys = refl
joins_behind false m xs ys = refl

pub without-append : (ms ns : List Message) → without_warnings (ms ++ ns) ≡ without_warnings ms ++ without_warnings ns
without-append [] ns = refl
without-append (m ∷ ms) ns =
    ap (λ ws. cond (is_warning m) ws (m ∷ ws)) (without-append ms ns)
    ∙ joins_behind (is_warning m) m (without_warnings ms) (without_warnings ns)

pub in-append : (id : List ℕ) (ms ns : List Message) → AreIn id ms → AreIn id ns → AreIn id (ms ++ ns)
in-append id [] ns h k = k
in-append id (m ∷ ms) ns h k = (h.0, in-append id ms ns h.1 k)

-- of messages that name the channel none is a warning
pub all_plain : (id : List ℕ) (ms : List Message) → Names id ms → without_warnings ms ≡ ms
all_plain id [] h = refl
all_plain id (m ∷ ms) h =
    ap (λ b. cond b (without_warnings ms) (m ∷ without_warnings ms)) (plain id m h.0).warning
    ∙ ap (λ ws. m ∷ ws) (all_plain id ms h.1)

pub all_in : (id : List ℕ) (ms : List Message) → Names id ms → AreIn id ms
all_in id [] h = tt
all_in id (m ∷ ms) h = (inr h.0, all_in id ms h.1)

-- ---- what reaches an end

module _ (id : List ℕ) where
  behind : (l : ConnectionState) (ms inbox to : List Message) → is_down l ≡ false → IsInbox id l inbox to → AreIn id ms
      → IsInbox id l (inbox ++ ms) (to ++ without_warnings ms)
  behind l ms inbox to up h n = record {
    told = without-append inbox ms ∙ ap (λ ws. ws ++ without_warnings ms) h.told;
    named = in-append id inbox ms h.named n;
    down = λ e. absurd (let no : true ≡ false = sym e ∙ up in cc);
  }

  nothing_arrives : (l : ConnectionState) (to : List Message) → arrive l [] to ≡ to
  nothing_arrives Down to = refl
  nothing_arrives AwaitingReestablish to = append-nil to
  nothing_arrives Connected to = append-nil to

module _ {K : Type 0} (id : List ℕ) where
  same_link : (b : Bool) (ms : List Message) (p : SimEnd K)
      → (cond b p (record p { inbox = p.inbox ++ ms })).link ≡ p.link
  same_link true ms p = refl
  same_link false ms p = refl

  pub reached_link : (ms : List Message) (p : SimEnd K) → (reaches ms p).link ≡ p.link
  reached_link ms p = same_link (is_down p.link.connection) ms p

  same_keys : (b : Bool) (ms : List Message) (p : SimEnd K)
      → (cond b p (record p { inbox = p.inbox ++ ms })).keys ≡ p.keys
  same_keys true ms p = refl
  same_keys false ms p = refl

  pub reached_keys : (ms : List Message) (p : SimEnd K) → (reaches ms p).keys ≡ p.keys
  reached_keys ms p = same_keys (is_down p.link.connection) ms p

  reached_by : (b : Bool) (l : ConnectionState) (ms to : List Message) (p : SimEnd K) → b ≡ is_down l
      → IsInbox id l p.inbox to
      → AreIn id ms
      → IsInbox id l (cond b p (record p { inbox = p.inbox ++ ms })).inbox (arrive l (without_warnings ms) to)
  reached_by true Down ms to p e h n = h
  reached_by false Down ms to p e h n = absurd (cc)
  reached_by true AwaitingReestablish ms to p e h n = absurd (cc)
  reached_by false AwaitingReestablish ms to p e h n = behind id AwaitingReestablish ms p.inbox to refl h n
  reached_by true Connected ms to p e h n = absurd (cc)
  reached_by false Connected ms to p e h n = behind id Connected ms p.inbox to refl h n

  pub reached : (l : ConnectionState) (ms to : List Message) (p : SimEnd K) → p.link.connection ≡ l
      → IsInbox id l p.inbox to
      → AreIn id ms → IsInbox id l (reaches ms p).inbox (arrive l (without_warnings ms) to)
  reached l ms to p e h n = reached_by (is_down p.link.connection) l ms to p (ap is_down e) h n

  -- only warnings come
  pub reached_aside : (l : ConnectionState) (ms to : List Message) (p : SimEnd K) → p.link.connection ≡ l
      → without_warnings ms ≡ []
      → IsInbox id l p.inbox to → AreIn id ms → IsInbox id l (reaches ms p).inbox to
  reached_aside l ms to p e none h n = subst (λ w. IsInbox id l (reaches ms p).inbox w)
      (ap (λ w. arrive l w to) none ∙ nothing_arrives id l to) (reached l ms to p e h n)
