-- What a connection and a load make of an end, case by case.
use Rattle.std.proofs.Common.{◌≡◌, true, false, List, [], Result, Ok, Err, refl, sym, subst}
use Rattle.ln_refusals.specs.declared.refusal.Refusal.{Refusal}
use Rattle.ln_keys.specs.Signer.{Signer}
use Rattle.ln_channel.specs.declared.output.Output.{Output}
use Rattle.ln_channel.specs.State.{State}
use Rattle.ln_store.specs.Store.{StoreView}
use Rattle.ln_node_loops.specs.Act.{Connects, Loads}
use Rattle.ln_node_loops.specs.Sent.{loaded}
use Rattle.ln_node.specs.declared.opening.Beginning.{Beginning}
use Rattle.ln_node.specs.Opening.{Held, BeginsAnew, Renews, Keeps, ConnectsBy, LoadsNew, LoadsOrRenews}
use Rattle.ln_node.specs.Opening.{is_unopened, lacks_record}

abbrev pub held : {K : Type 0} → State K → StoreView → Beginning → Held K
held l store_view b = record { saved = record { link = l; store_view = store_view }; beginning = b }

pub renewed : {K : Type 0} (l l' : State K) (store_view : StoreView) (b : Beginning)
    (said : Result (List Output) Refusal) → BeginsAnew b said l l'
    → Renews (held l store_view b) said (held l' store_view b)
renewed l l' store_view b said begins = record { link = begins; store_view = refl; beginning = refl }

module _ {K : Type 0} (signer : K → Signer) where
  -- there is no new link
  pub refused : (l l' : State K) (store_view : StoreView) (b : Beginning) (e : Refusal)
      → is_unopened l ≡ true
      → BeginsAnew b (Err e) l l'
      → ConnectsBy signer (is_unopened l) (held l store_view b) (Err e) (held l' store_view b)
  refused l l' store_view b e is begins =
      subst (λ t. ConnectsBy signer t (held l store_view b) (Err e) (held l' store_view b)) (sym is) (record {
        anew = Err e;
        between = held l' store_view b;
        renews = renewed l l' store_view b (Err e) begins;
        connects = (refl, refl);
      })

  -- a new link has the connection
  pub connected : (l l' : State K) (store_view : StoreView) (b : Beginning) (said : Result
      (List Output) Refusal)
      (h' : Held K) → is_unopened l ≡ true → BeginsAnew b (Ok []) l l'
      → Keeps signer (held l' store_view b) Connects said h'
      → ConnectsBy signer (is_unopened l) (held l store_view b) said h'
  connected l l' store_view b said h' is begins keeps =
      subst (λ t. ConnectsBy signer t (held l store_view b) said h') (sym is) (record {
        anew = Ok [];
        between = held l' store_view b;
        renews = renewed l l' store_view b (Ok []) begins;
        connects = keeps;
      })

  -- the link that there is has it
  pub goes-on : (h : Held K) (said : Result (List Output) Refusal) (h' : Held K)
      → is_unopened h.saved.link ≡ false → Keeps signer h Connects said h'
      → ConnectsBy signer (is_unopened h.saved.link) h said h'
  goes-on h said h' is keeps = subst (λ t. ConnectsBy signer t h said h') (sym is) keeps

  -- a load that found a record, or couldn't tell
  pub stays : (h : Held K) (answer : Result (Unit {0}) Refusal) (h' : Held K) → lacks_record answer ≡ false
      → Keeps signer h Loads (loaded answer) h' → LoadsOrRenews signer h (loaded answer) h'
  stays h answer h' is keeps = record {
    answer = answer;
    between = h';
    loads = keeps;
    renews = subst (λ t. LoadsNew signer t h' answer (loaded answer) h') (sym is) (refl, refl);
  }

  -- one that found none
  pub renews : (h : Held K) (answer : Result (Unit {0}) Refusal) (between h' : Held K)
      (said : Result (List Output) Refusal) → lacks_record answer ≡ true → Keeps signer h Loads (loaded answer) between
      → Renews between said h' → LoadsOrRenews signer h said h'
  renews h answer between h' said is keeps anew = record {
    answer = answer;
    between = between;
    loads = keeps;
    renews = subst (λ t. LoadsNew signer t between answer said h') (sym is) anew;
  }
