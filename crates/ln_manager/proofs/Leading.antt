-- How calls of channels lead on, one after the other.
use Rattle.std.proofs.Common.{◌≡◌, ◌⊎◌, inl, ◌∙◌, refl, sym, ap, subst, ℕ, List, [], ◌∷◌, ◌++◌, Bool, true}
use Rattle.std.specs.Prelude.{Result, Ok, Err, IfOk, IfErr, OnOk, IsErr, IsOk, is_ok}
use Rattle.ln_refusals.specs.declared.refusal.Refusal.{Refusal}
use Rattle.ln_keys.specs.Signer.{Signer}
use Rattle.ln_channel.specs.State as state
use Rattle.ln_manager_channels.specs.declared.saved.Saved.{Saved}
use Rattle.ln_manager_channels.specs.Calls as call
use Rattle.ln_manager_channels.specs.Calls.{AreLoaded, Call, LinksAlone, Make, Makes, Parts, Running}
use Rattle.ln_manager_channels.specs.Places.{changed_at}
use Rattle.ln_manager.specs.Leads.{Does, Leads, LeadsBy}
use Rattle.ln_manager.specs.Managed.{Managed, if_batched}

module _ {K : Type 0} (signer : K → Signer) where
  pub stays : (p : Running K) → Leads signer p p
  stays p = record { beginning = refl; calls = []; made = refl }

  pub same : (p q : Running K) → q ≡ p → Leads signer p q
  same p q is = subst (Leads signer p) (sym is) (stays p)

  pub one : (k : Call K) (p q : Running K) → q.began ≡ p.began → Makes signer k p.parts q.parts → Leads signer p q
  one k p q began makes = record { beginning = began; calls = k ∷ []; made = (q.parts, makes, refl) }

  joined : (ks js : List (Call K)) (p q r : Parts K) → Make signer ks p q → Make signer js q r
      → Make signer (ks ++ js) p r
  joined [] js p q r is made = subst (λ x. Make signer js x r) is made
  joined (k ∷ ks) js p q r (m, makes, more) made = (m, makes, joined ks js m q r more made)

  pub then : (p q r : Running K) → Leads signer p q → Leads signer q r → Leads signer p r
  then p q r one other = record {
    beginning = other.beginning ∙ one.beginning;
    calls = one.calls ++ other.calls;
    made = joined one.calls other.calls p.parts q.parts r.parts one.made other.made;
  }

  pub led : (k : Call K) (done : Bool) (p q : Running K) → LeadsBy signer k done p q → Leads signer p q
  led k done p q by = record {
    beginning = by.beginning;
    calls = k ∷ by.others;
    made = (by.first, by.makes, by.made);
  }

  -- a call, and what it leads to
  pub by_call : (k : Call K) (done : Bool) (o p r q : Running K) → p ≡ o → r.began ≡ p.began
      → Makes signer k p.parts r.parts → (done ≡ true → Does signer k p.parts r.parts) → Leads signer r q
      → LeadsBy signer k done o q
  by_call k done o p r q seen began makes does more = subst (λ x. LeadsBy signer k done x q) seen (record {
    beginning = more.beginning ∙ began;
    first = r.parts;
    makes = makes;
    does = does;
    others = more.calls;
    made = more.made;
  })

  pub first : (k : Call K) (o p r q : Running K) → p ≡ o → r.began ≡ p.began → Makes signer k p.parts r.parts
      → Leads signer r q → Leads signer o q
  first k o p r q seen began makes more =
      subst (λ x. Leads signer x q) seen (then p r q (one k p r began makes) more)

  -- what comes back from records, and then calls
  pub loaded : (saved : List (Saved K)) (p : Running K) (O : Type 0) (r : Result (Managed K O) Refusal)
      → AreLoaded saved p.parts → p.began ≡ p.parts → IfOk r (λ m. Leads signer p m.channels)
      → IfOk r (λ m. (q : Parts K) × AreLoaded saved q × Leads signer (record { began = q; parts = q }) m.channels)
  loaded saved p O (Ok m) is began more =
      (p.parts, is, subst (λ (x : Parts K). Leads signer (record { began = x; parts = p.parts }) m.channels) began more)
  loaded saved p O (Err e) is began more = tt

-- what a manager has
pub seen : {K O : Type 0} (m n : Managed K O) → m ≡ n → m.channels ≡ n.channels
seen m n is = ap (λ (x : Managed _ _). x.channels) is

-- nothing has changed, and then its link halts
pub halted : {K : Type 0} (signer : K → Signer) (c : ℕ) (p r q : Parts K) → r.links ≡ p.links → LinksAlone p r
    → Makes signer (call.Halt c) r q → Makes signer (call.Halt c) p q
halted signer c p r q links stay halts = (
  halts.0 ∙ ap (λ ls. changed_at c state.halts ls) links,
  (halts.1.0 ∙ stay.0, halts.1.1 ∙ stay.1, halts.1.2 ∙ stay.2),
)

-- what has answered well
pub answered : {A : Type 0} (P : Result A Refusal → Type 0) (answer : Result A Refusal) → P answer
    → is_ok answer ≡ true → (v : A) × P (Ok v)
answered P (Ok v) is done = (v, is)
answered P (Err r) is done = absurd (cc)

pub if_done : {A B : Type 0} (answer : Result A Refusal) (result : Result B Refusal) → OnOk result (IsOk answer)
    → is_ok result ≡ true → is_ok answer ≡ true
if_done answer (Ok v) h done = h
if_done answer (Err r) h done = absurd (cc)

pub if_batched_done : {A : Type 0} (batched : Result (Unit {0}) Refusal) (answer : Result A Refusal)
    → is_ok (if_batched batched answer) ≡ true → is_ok answer ≡ true
if_batched_done (Ok u) answer done = done
if_batched_done (Err r) answer done = absurd (cc)

pub none_done : (A : Type 0) {B : Type 0} (r : Refusal) (result : Result B Refusal) → OnOk result (IsOk {T = A} (Err r))
    → is_ok result ≡ true → ⊥
none_done A r (Ok v) h done = absurd (cc)
none_done A r (Err e) h done = absurd (cc)

pub fails_or : {A : Type 0} (P Q : Refusal → Type 0) (result : Result A Refusal) → IfErr result P
    → IfErr result (λ r. P r ⊎ Q r)
fails_or P Q (Ok v) fails = tt
fails_or P Q (Err r) fails = inl fails

pub not_done : {A : Type 0} (result : Result A Refusal) → IsErr result → is_ok result ≡ true → ⊥
not_done (Ok v) is done = absurd (cc)
not_done (Err r) is done = absurd (cc)
